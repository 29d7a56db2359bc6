-- The sessions of a run, step by step.
use Rattle.std.proofs.Common.{◌≡◌, ◌≢◌, ℕ, zero, suc, ◌+◌, ◌<◌, Bool, true, false, List, [], ◌∷◌, ◌++◌, refl, sym, ap, ◌∙◌, subst, arith, append_assoc, inl, inr}
use Rattle.std.specs.Prelude.{◌==◌, ◌&&◌, count_by, Option, Some, None, Contains, All, slice_get, slice_set, if◌then◌else◌}
use Rattle.std.specs.List.{list_all}
use Rattle.std.proofs.lemmas.Bool.{eqb-true, eqb-false}
use Rattle.std.proofs.lemmas.List.Elements.{All-nil, All-cons, All-same, All-append, All-push, All-weaker}
use Rattle.std.proofs.lemmas.List.Elements.{Contains-append_left, Contains-append_right}
use Rattle.daide_protocol.specs.declared.account.Account.{Account}
use Rattle.daide_protocol.specs.Machine.{Limits, SessionState, is_over}
use Rattle.daide_protocol.specs.Wires.{SessionView, IsNew, is_closed}
use Rattle.daide_io.specs.Ports.{PortCall, TurnBegins}
use Rattle.daide_driver.specs.Headline.{untouched}
use Rattle.daide_driver.specs.Totals.{RefinesRun}
use Rattle.daide_driver.specs.Meter.{has_spent_turns}
use Rattle.daide_driver.specs.declared.place.SlabPlace.{SlabPlace}
use Rattle.daide_driver.specs.declared.place.SlabPlace.TheVariants.{Free, Kept, Held}
use Rattle.daide_driver.specs.Slab.{SlabView, SlotView, IsSlotBegun, IsSlotTurned, IsAt, IfHeldAt, with_place, all_free, is_free_place, is_held, is_kept, new_slot}
use Rattle.daide_driver.proofs.PortCalls.{turn_begins}
use Rattle.daide_io.proofs.TraceLemmas.{transition_then}
use Rattle.daide_driver.proofs.Stretches.{relays_append}
use Rattle.daide_driver.proofs.Standing.{new_stands}
use Rattle.daide_driver.proofs.HubLemmas.{closed_over}
use Rattle.daide_settings.specs.declared.settings.Settings.{Settings}
use Rattle.daide_io.specs.declared.system.Connect.{Connect}
use Rattle.daide_io.specs.declared.system.Connect.TheVariants.{Ready, Failed, Pending}
use Rattle.daide_io.specs.declared.system.Notice.TheVariants.{TurnsSpent}
use Rattle.daide_io.specs.declared.system.SessionStatus.{SessionStatus}
use Rattle.daide_event_loop.specs.declared.admission_counters.AdmissionCounters.{AdmissionCounters}
use Rattle.daide_io.specs.System.{SystemCall, Polls, Shows, Accepts, Connects, BeginsTurn, Rests, Retires, Notifies, status_of}
use Rattle.daide_event_loop.specs.Serving.{ServiceView, initial_service, is_done, have_all_come, closed, shows_where, opening, polled}
use Rattle.daide_event_loop.specs.Serving.{OpensTurn, TakesTurn, TurnsInRow, RestsBy, LeavesVisit, TurnsAndLeaves, JoinsBy, VisitsBy, Visits, queued_again}
use Rattle.daide_event_loop.specs.Serving.{spent_notice, retirement, end_of, Admits, accepted_at, Round, Rounds, BreaksOff, sessions_in, pending_in}
use Rattle.daide_event_loop.specs.Served.{IsServedSession, run_limits, IsSessionOfRun, IsServed, IsEndOf, RetiresClosed, AreServed}
use Rattle.daide_event_loop.specs.Served.{IsWholeRun, comes, connects, retires, unreached, sum_over_calls}
use Rattle.daide_event_loop.proofs.BeginningLemmas.{get_set, changed_there}
use Rattle.daide_event_loop.proofs.MeterRuns.{Metering, metering_begins, metering_turn, is_metered, end_metered}
use Rattle.daide_event_loop.proofs.CountLemmas.{count_first, Counts, counts_then, opening_counts, visits_counts, admission_counts}
use Rattle.daide_event_loop.proofs.OrderLemmas.{Limited, first_limit, limit_then, visits_counters}

-- ---- a place of a slab

set_beside : {X : Type 0} (xs : List X) (i j : ℕ) (x : X) → j ≢ i → slice_get (slice_set xs i x) j ≡ slice_get xs j
set_beside [] zero zero x apart = refl
set_beside [] zero (suc j) x apart = refl
set_beside [] (suc i) zero x apart = refl
set_beside [] (suc i) (suc j) x apart = refl
set_beside (y ∷ xs) zero zero x apart = absurd (apart refl)
set_beside (y ∷ xs) zero (suc j) x apart = refl
set_beside (y ∷ xs) (suc i) zero x apart = refl
set_beside (y ∷ xs) (suc i) (suc j) x apart = set_beside xs i j x (λ same. apart (ap suc same))

module _ {P : Type 0} where
  -- at most one place is not as before
  pub record ChangesOnlyAt (place : ℕ) (old new : SlabView P) : Type 0 where
    pub limits : new.limits ≡ old.limits
    pub beside : (other : ℕ) → other ≢ place → slice_get new.places other ≡ slice_get old.places other

  pub same_there : (place : ℕ) (old new : SlabView P) → new ≡ old → ChangesOnlyAt place old new
  same_there place old new e = record {
    limits = ap (λ (s : SlabView P). s.limits) e;
    beside = λ other apart. ap (λ (s : SlabView P). slice_get s.places other) e;
  }

  pub one_there : (place : ℕ) (old new : SlabView P) (now : SlabPlace (SlotView P)) → new ≡ with_place old place now →
      ChangesOnlyAt place old new
  one_there place old new now e = record {
    limits = ap (λ (s : SlabView P). s.limits) e;
    beside = λ other apart. ap (λ (s : SlabView P). slice_get s.places other) e ∙ set_beside old.places place other now apart;
  }

  pub there_then : (place : ℕ) (old mid new : SlabView P) → ChangesOnlyAt place old mid → ChangesOnlyAt place mid new →
      ChangesOnlyAt place old new
  there_then place old mid new h k = record {
    limits = k.limits ∙ h.limits;
    beside = λ other apart. k.beside other apart ∙ h.beside other apart;
  }

  -- if this is at a place, what holds of it holds of whatever is there
  pub held_here : (slab : SlabView P) (place : ℕ) (now : SlotView P) (Holds : SlotView P → Type 0) →
      IsAt slab place (Held now) → Holds now → IfHeldAt slab.places place Holds
  held_here slab place now Holds at h =
      λ held e. (let same : now ≡ held = cc (sym at ∙ e) in subst Holds same h)

  pub none_here : (slab : SlabView P) (place : ℕ) (Holds : SlotView P → Type 0) → IsAt slab place Free →
      IfHeldAt slab.places place Holds
  none_here slab place Holds at = λ held e. absurd (cc (sym at ∙ e))

  -- what holds of the session at each place, if it does at the only place that changed
  pub each_held : (place : ℕ) (old new : SlabView P) (Holds : ℕ → SlotView P → Type 0) → ChangesOnlyAt place old new →
      ((other : ℕ) → IfHeldAt old.places other (Holds other)) → IfHeldAt new.places place (Holds place) →
      (other : ℕ) → IfHeldAt new.places other (Holds other)
  each_held place old new Holds only before here other = by (other == place) refl
    where
      by : (same : Bool) → (other == place) ≡ same → IfHeldAt new.places other (Holds other)
      by true e = subst (λ (n : ℕ). IfHeldAt new.places n (Holds n)) (sym (eqb-true other place e)) here
      by false e = λ held at. before other held (sym (only.beside other (eqb-false other place e)) ∙ at)

module _ {P : Type 0} (port_transition : P → PortCall → P → Type 0) where
  turn_there : (old : SlabView P) (place : ℕ) (trace : List (SystemCall P)) (new : SlabView P) →
      TakesTurn port_transition old place trace new → ChangesOnlyAt place old new
  turn_there old place trace new h =
      there_then place old h.begun new (one_there place old h.begun (Held h.begins.1) h.begins.3)
      (one_there place h.begun new (Held h.runs.1) h.runs.3)

  pub turns_there_only : (n : ℕ) (old : SlabView P) (place : ℕ) (trace : List (SystemCall P))
      (new : SlabView P) → TurnsInRow port_transition n old place trace new → ChangesOnlyAt place old new
  turns_there_only zero old place trace new h = same_there place old new h.1
  turns_there_only (suc n) old place trace new h =
      there_then place old h.0 new (turns_there_only n old place h.1 h.0 h.4) (turn_there h.0 place h.2 new h.6)

-- ---- what holds of each call of a trace

module _ {P : Type 0} (port_transition : P → PortCall → P → Type 0) (Q : SystemCall P → Type 0) where
  pub all_turns : (place : ℕ) → ((account : Account) (before after : P) → Q (BeginsTurn place account before after)) → (n : ℕ)
      (old : SlabView P) (trace : List (SystemCall P)) (new : SlabView P) →
      TurnsInRow port_transition n old place trace new → All Q trace
  all_turns place each zero old trace new h = All-same Q trace [] h.0 (All-nil Q)
  all_turns place each (suc n) old trace new h =
      let begins = h.6.begins in
      All-same Q trace (h.1 ++ h.2) h.3
      (All-append Q h.1 h.2 (all_turns place each n old h.1 h.0 h.4)
      (All-same Q h.2 (BeginsTurn place begins.0.session.account begins.0.ports begins.1.ports ∷ []) begins.4.1
      (All-cons Q (BeginsTurn place begins.0.session.account begins.0.ports begins.1.ports) []
      (each begins.0.session.account begins.0.ports begins.1.ports) (All-nil Q))))

  pub all_rests : (place : ℕ) → ((ports : P) (rests : Bool) → Q (Rests place ports rests)) → (moved : Bool) (ports : P)
      (trace : List (SystemCall P)) (rests : Bool) → RestsBy moved place ports trace rests → All Q trace
  all_rests place each true ports trace rests h = All-same Q trace [] h.0 (All-nil Q)
  all_rests place each false ports trace rests h =
      All-same Q trace (Rests place ports rests ∷ []) h (All-cons Q (Rests place ports rests) [] (each ports rests) (All-nil Q))

  pub all_shown : (shown : Bool) (places : List (SlabPlace (SlotView P))) →
      ((ports : P) (status : SessionStatus) → Q (Shows ports status)) → All Q (shows_where shown places)
  all_shown false places each = All-nil Q
  all_shown true [] each = All-nil Q
  all_shown true (Free ∷ places) each = all_shown true places each
  all_shown true (Kept ∷ places) each = all_shown true places each
  all_shown true (Held now ∷ places) each =
      All-cons Q (Shows now.ports (status_of now.session now.meter.moved.bytes)) (shows_where true places)
      (each now.ports (status_of now.session now.meter.moved.bytes))
      (all_shown true places each)

-- a session that its port calls since the opening of a run lead to, with its counts and its look-ups
abbrev pub IsReached : Limits → List PortCall → SessionView → Type 0
IsReached limits history g = RefinesRun (untouched limits) history g

module _ {P : Type 0} (port_transition : P → PortCall → P → Type 0) (settings : Settings) where
  -- ---- a longer trace

  abbrev pub later : (Kind : Limits → List PortCall → SessionView → Type 0) (xs ys : List (SystemCall P)) (now : SlotView P) →
      IsSessionOfRun port_transition Kind settings xs now → IsSessionOfRun port_transition Kind settings (xs ++ ys) now
  later Kind xs ys now h = record {
    place = h.place;
    ports = h.ports;
    came = Contains-append_left xs ys (Connects h.place (Ready h.ports)) h.came;
    history = h.history;
    answered = h.answered;
    stands = h.stands;
    metered = h.metered;
  }

  gone_later : (xs ys : List (SystemCall P)) (answer : SystemCall P) → RetiresClosed port_transition settings xs answer →
      RetiresClosed port_transition settings (xs ++ ys) answer
  gone_later xs ys (Retires place ports end) h = (h.0, h.1, h.2, (later IsServedSession xs ys h.0 h.3.0, h.3.1, h.3.2))
  gone_later xs ys (Polls may_block woken orders) h = tt
  gone_later xs ys (Shows ports status) h = tt
  gone_later xs ys (Accepts place came) h = tt
  gone_later xs ys (Connects place connect) h = tt
  gone_later xs ys (BeginsTurn place account before after) h = tt
  gone_later xs ys (Rests place ports rests) h = tt
  gone_later xs ys (Notifies notice) h = tt

  -- ---- turns

  module _ (all : List (SystemCall P)) where
    -- a session that began at this place
    abbrev pub Reached : ℕ → SlotView P → Type 0
    Reached place now = (h : IsSessionOfRun port_transition IsReached settings all now) × (h.place ≡ place)
        × Metering (run_limits settings) settings.turns h.history now

    abbrev pub Served : ℕ → SlotView P → Type 0
    Served place now = (h : IsServed port_transition settings all now) × (h.place ≡ place)
        × Metering (run_limits settings) settings.turns h.history now

    abbrev pub Gone : SystemCall P → Type 0
    Gone = RetiresClosed port_transition settings all

    pub still : (place : ℕ) (now : SlotView P) → Served place now → Reached place now
    still place now h = (
      record {
        place = h.0.place;
        ports = h.0.ports;
        came = h.0.came;
        history = h.0.history;
        answered = h.0.answered;
        stands = h.0.stands.1.whole;
        metered = h.0.metered;
      },
      h.1,
      h.2,
    )

    taken : (place : ℕ) (a m b : SlotView P) → IsSlotBegun port_transition a m → (t : IsSlotTurned port_transition m b) →
        Reached place a → Served place b
    taken place a m b begins t h =
        let own = h.0 in
        let limits = run_limits settings in
        let turn = t.turned.exchange in
        let longer = own.history ++ TurnBegins ∷ [] in
        let began : IsReached limits longer m.session =
        subst (λ (g : SessionView). IsReached limits longer g) (sym begins.session)
        (relays_append (untouched limits) own.history a.session (TurnBegins ∷ []) a.session own.stands (turn_begins a.session)) in
        let joined : longer ++ turn.call ≡ own.history ++ TurnBegins ∷ turn.call =
        append_assoc own.history (TurnBegins ∷ []) turn.call in
        let stands : IsServedSession limits (own.history ++ TurnBegins ∷ turn.call) b.session =
        subst (λ (l : List PortCall). IsServedSession limits l b.session) joined
        (turn.session.headline limits longer began.sends, turn.session.totals limits longer began) in
        let meter = metering_turn port_transition limits settings.turns own.history own.stands.sends.effects a m b
        own.stands.sends.run begins t h.2 in (
          record {
            place = own.place;
            ports = own.ports;
            came = own.came;
            history = own.history ++ TurnBegins ∷ turn.call;
            answered = transition_then port_transition own.history (TurnBegins ∷ turn.call) own.ports a.ports b.ports own.answered
                (m.ports, begins.ports, turn.ports);
            stands = stands;
            metered = is_metered limits settings.turns (own.history ++ TurnBegins ∷ turn.call) b stands.0.sends.effects
                stands.0.sends.run meter;
          },
          h.1,
          meter,
        )

    -- a turn serves its session
    turn_serves : (old : SlabView P) (place : ℕ) (trace : List (SystemCall P))
        (new : SlabView P) → IfHeldAt old.places place (Reached place) →
        TakesTurn port_transition old place trace new → IfHeldAt new.places place (Served place)
    turn_serves old place trace new before h =
        let there = changed_there (OpensTurn port_transition place trace) old place h.begun h.begins in
        let same : h.begins.1 ≡ h.runs.0 = cc (sym there ∙ h.runs.2) in
        held_here new place h.runs.1 (Served place) (changed_there (IsSlotTurned port_transition) h.begun place new h.runs)
        (taken place h.begins.0 h.runs.0 h.runs.1 (subst (IsSlotBegun port_transition h.begins.0) same h.begins.4.0) h.runs.4
        (before h.begins.0 h.begins.2))

    -- and so do its turns, one at least
    turns_reach : (n : ℕ) (old : SlabView P) (place : ℕ) (trace : List (SystemCall P))
        (new : SlabView P) → IfHeldAt old.places place (Reached place) →
        TurnsInRow port_transition n old place trace new → IfHeldAt new.places place (Reached place)
    turns_reach zero old place trace new before h =
        subst (λ (s : SlabView P). IfHeldAt s.places place (Reached place)) (sym h.1) before
    turns_reach (suc n) old place trace new before h =
        λ held at. still place held
        (turn_serves h.0 place h.2 new (turns_reach n old place h.1 h.0 before h.4) h.6 held at)

    pub turns_serve : (n : ℕ) (old : SlabView P) (place : ℕ) (trace : List (SystemCall P))
        (new : SlabView P) → 0 < n → IfHeldAt old.places place (Reached place) →
        TurnsInRow port_transition n old place trace new → IfHeldAt new.places place (Served place)
    turns_serve zero old place trace new some before h = absurd (omega (arith, some))
    turns_serve (suc n) old place trace new some before h =
        turn_serves h.0 place h.2 new (turns_reach n old place h.1 h.0 before h.4) h.6

    -- ---- the end of a session

    -- the reported end of a session is its own
    ended : (place : SlotView P) → is_closed place.session ≡ true → (n : ℕ) (h : Served n place) →
        IsEndOf (run_limits settings) settings.turns h.0.history place.session (end_of place)
    ended place closed n h =
        end_metered (run_limits settings) settings.turns h.0.history place h.0.stands.0.sends.effects h.0.stands.0.sends.run
        (closed_over (is_over place.session.state.phase) _ closed) h.2

    spoken : (b : Bool) → All Gone (spent_notice b)
    spoken true = All-cons Gone (Notifies TurnsSpent) [] tt (All-nil Gone)
    spoken false = All-nil Gone

    parted : (place : ℕ) (now : SlotView P) → is_closed now.session ≡ true → Served place now →
        All Gone (retirement place now.ports now.meter (end_of now))
    parted place now e h =
        All-push Gone (spent_notice (has_spent_turns now.meter)) (Retires place now.ports (end_of now))
        (spoken (has_spent_turns now.meter)) (now, refl, e, (h.0, h.1, ended now e place h))

    -- ---- a visit

    -- each session is served, and so are those that were retired
    pub record Serves (trace : List (SystemCall P)) (old new : ServiceView P) : Type 0 where
      pub limits : new.slab.limits ≡ old.slab.limits
      pub held : (place : ℕ) → IfHeldAt new.slab.places place (Served place)
      pub gone : All Gone trace

    abbrev pub AllServed : ServiceView P → Type 0
    AllServed run = (place : ℕ) → IfHeldAt run.slab.places place (Served place)

    stays : (old new : ServiceView P) → AllServed old → new.slab ≡ old.slab → AllServed new
    stays old new held e =
        subst (λ (s : SlabView P). (place : ℕ) → IfHeldAt s.places place (Served place)) (sym e) held

    left : (is : Bool) (now : SlotView P) (old : ServiceView P) (place : ℕ) (trace : List (SystemCall P))
        (new : ServiceView P) → is_closed now.session ≡ is → IsAt old.slab place (Held now) → AllServed old →
        LeavesVisit is now old place trace new → Serves trace old new
    left true now old place trace new e at held h =
        let slab = ap (λ (s : ServiceView P). s.slab) h.1 in
        let free : IsAt new.slab place Free =
        ap (λ (s : SlabView P). slice_get s.places place) slab ∙ get_set old.slab.places place Free (Held now) at in
        let only = one_there place old.slab new.slab Free slab in
        record {
          limits = only.limits;
          held = each_held place old.slab new.slab Served only held (none_here new.slab place (Served place) free);
          gone = All-same Gone trace (retirement place now.ports now.meter (end_of now)) h.0 (parted place now e (held place now at));
        }
    left false now old place trace new e at held h =
        let slab = ap (λ (s : ServiceView P). s.slab) h.2 ∙ by h.0 in
        record {
          limits = ap (λ (s : SlabView P). s.limits) slab;
          held = stays old new held slab;
          gone = all_rests port_transition Gone place (λ ports rests. tt) now.meter.moved.made_progress now.ports trace h.0 h.1;
        }
      where
        by : (rests : Bool) → (if rests then old else queued_again old place).slab ≡ old.slab
        by true = refl
        by false = refl

    -- the session at a place may have had no turn yet
    abbrev AllServedBut : ℕ → ServiceView P → Type 0
    AllServedBut place run = ((other : ℕ) → other ≢ place → IfHeldAt run.slab.places other (Served other))
        × IfHeldAt run.slab.places place (Reached place)

    given_turns : (old : ServiceView P) (place turns : ℕ) (trace : List (SystemCall P)) (new : ServiceView P) →
        AllServedBut place old → TurnsAndLeaves port_transition old place turns trace new → Serves trace old new
    given_turns old place turns trace new held h =
        let mid : ServiceView P = record old { slab = h.turned } in
        let made = h.takes.made in
        let only = turns_there_only port_transition turns old.slab place h.turning h.turned made in
        let here = turns_serve turns old.slab place h.turning h.turned h.takes.some held.1 made in
        let goes = left (is_closed h.now.session) h.now mid place h.leaving new refl h.there (each only here) h.leaves in
        record {
          limits = goes.limits ∙ only.limits;
          held = goes.held;
          gone = All-same Gone trace (h.turning ++ h.leaving) h.asked
              (All-append Gone h.turning h.leaving
              (all_turns port_transition Gone place (λ account before after. tt) turns old.slab h.turning h.turned made) goes.gone);
        }
      where
        each : ChangesOnlyAt place old.slab h.turned → IfHeldAt h.turned.places place (Served place) →
            (other : ℕ) → IfHeldAt h.turned.places other (Served other)
        each only here other = by (other == place) refl
          where
            by : (same : Bool) → (other == place) ≡ same → IfHeldAt h.turned.places other (Served other)
            by true e = subst (λ (n : ℕ). IfHeldAt h.turned.places n (Served n)) (sym (eqb-true other place e)) here
            by false e =
                let apart = eqb-false other place e in
                λ now at. held.0 other apart now (sym (only.beside other apart) ∙ at)

    -- a session in its opening state, with the ports that a connect delivered
    pub opened_reached : (old : ServiceView P) (place : ℕ) (ports : P) (opened : SessionView) →
        old.slab.limits ≡ run_limits settings → old.counters.turns ≡ settings.turns → IsNew old.slab.limits opened →
        Contains all (Connects place (Ready ports)) → Reached place (new_slot opened ports old.counters.turns)
    opened_reached old place ports opened limits quota new came =
        let stands = new_stands (run_limits settings) opened (subst (λ (l : Limits). IsNew l opened) limits new) in
        let meter : Metering (run_limits settings) settings.turns [] (new_slot opened ports old.counters.turns) =
        subst (λ (n : ℕ). Metering (run_limits settings) settings.turns [] (new_slot opened ports n)) (sym quota)
        (metering_begins (run_limits settings) settings.turns opened ports (ap (λ (s : SessionState). is_over s.phase) new.state)) in (
          record {
            place = place;
            ports = ports;
            came = came;
            history = [];
            answered = refl;
            stands = stands;
            metered = is_metered (run_limits settings) settings.turns [] (new_slot opened ports old.counters.turns)
                stands.sends.effects stands.sends.run meter;
          },
          refl,
          meter,
        )

    visit_serves : (at : Option (SlabPlace (SlotView P))) (old : ServiceView P) (place turns : ℕ)
        (trace : List (SystemCall P)) (new : ServiceView P) → slice_get old.slab.places place ≡ at →
        ((n : ℕ) (ports : P) → Contains trace (Connects n (Ready ports)) → Contains all (Connects n (Ready ports))) →
        old.slab.limits ≡ run_limits settings → old.counters.turns ≡ settings.turns → AllServed old →
        VisitsBy port_transition at old place turns trace new → Serves trace old new
    visit_serves None old place turns trace new there within limits quota held h =
        let slab = ap (λ (s : ServiceView P). s.slab) h.2 in
        record {
          limits = ap (λ (s : SlabView P). s.limits) slab;
          held = stays old new held slab;
          gone = All-same Gone trace [] h.1 (All-nil Gone);
        }
    visit_serves (Some Free) old place turns trace new there within limits quota held h =
        let slab = ap (λ (s : ServiceView P). s.slab) h.2 in
        record {
          limits = ap (λ (s : SlabView P). s.limits) slab;
          held = stays old new held slab;
          gone = All-same Gone trace [] h.1 (All-nil Gone);
        }
    visit_serves (Some Kept) old place turns trace new there within limits quota held h = by h.0 h.1 h.2 h.3
      where
        by : (connect : Connect P) (joining : List (SystemCall P)) → trace ≡ Connects place connect ∷ joining →
            JoinsBy port_transition connect old place turns joining new → Serves trace old new
        by (Ready ports) joining e m =
            let opens = m.1 in
            let now : SlotView P = new_slot opens.0 ports old.counters.turns in
            let only = one_there place old.slab m.0 (Held now) opens.2 in
            let at : IsAt m.0 place (Held now) =
            ap (λ (s : SlabView P). slice_get s.places place) opens.2
            ∙ get_set old.slab.places place (Held now) Kept there in
            let first = opened_reached old place ports opens.0 limits quota opens.1
            (within place ports (subst (λ (l : List (SystemCall P)). Contains l (Connects place (Ready ports))) (sym e)
            (0, omega arith, refl))) in
            let goes = given_turns (record old { slab = m.0 }) place turns joining new (
              (λ other apart held_there found. held other held_there (sym (only.beside other apart) ∙ found)),
              held_here m.0 place now (Reached place) at first,
            ) m.2 in
            record {
              limits = goes.limits ∙ only.limits;
              held = goes.held;
              gone = All-same Gone trace (Connects place (Ready ports) ∷ joining) e
                  (All-cons Gone (Connects place (Ready ports)) joining tt goes.gone);
            }
        by Failed joining e m =
            let slab = ap (λ (s : ServiceView P). s.slab) m.2 in
            let free : IsAt new.slab place Free =
            ap (λ (s : SlabView P). slice_get s.places place) slab ∙ get_set old.slab.places place Free Kept there in
            let only = one_there place old.slab new.slab Free slab in
            record {
              limits = only.limits;
              held = each_held place old.slab new.slab Served only held (none_here new.slab place (Served place) free);
              gone = All-same Gone trace (Connects place Failed ∷ [])
                  (e ∙ ap (λ (l : List (SystemCall P)). Connects place Failed ∷ l) m.1)
                  (All-cons Gone (Connects place Failed) [] tt (All-nil Gone));
            }
        by Pending joining e m =
            let slab = ap (λ (s : ServiceView P). s.slab) m.2 in
            record {
              limits = ap (λ (s : SlabView P). s.limits) slab;
              held = stays old new held slab;
              gone = All-same Gone trace (Connects place Pending ∷ [])
                  (e ∙ ap (λ (l : List (SystemCall P)). Connects place Pending ∷ l) m.1)
                  (All-cons Gone (Connects place Pending) [] tt (All-nil Gone));
            }
    visit_serves (Some (Held now)) old place turns trace new there within limits quota held h =
        given_turns old place turns trace new
        ((λ other apart. held other), (λ own at. still place own (held place own at))) h

    pub visits_serve : (visited : List ℕ) (turns : ℕ) (old : ServiceView P) (trace : List (SystemCall P)) (new : ServiceView P) →
        ((n : ℕ) (ports : P) → Contains trace (Connects n (Ready ports)) → Contains all (Connects n (Ready ports))) →
        old.slab.limits ≡ run_limits settings → old.counters.turns ≡ settings.turns → AllServed old →
        Visits port_transition visited turns old trace new → Serves trace old new
    visits_serve [] turns old trace new within limits quota held h =
        let slab = ap (λ (s : ServiceView P). s.slab) h.2 in
        record {
          limits = ap (λ (s : SlabView P). s.limits) slab;
          held = stays old new held slab;
          gone = All-same Gone trace [] h.1 (All-nil Gone);
        }
    visits_serve (place ∷ earlier) turns old trace new within limits quota held h =
        let before = visits_serve earlier h.1 old h.3 h.0
        (λ n ports c. within n ports (subst (λ (l : List (SystemCall P)). Contains l (Connects n (Ready ports))) (sym h.6)
        (Contains-append_left h.3 h.4 (Connects n (Ready ports)) c))) limits quota held h.7 in
        let mid : ServiceView P = record h.0 { ready = h.8.ready } in
        let last = visit_serves (slice_get mid.slab.places place) mid place h.2 h.4 new refl
        (λ n ports c. within n ports (subst (λ (l : List (SystemCall P)). Contains l (Connects n (Ready ports))) (sym h.6)
        (Contains-append_right h.3 h.4 (Connects n (Ready ports)) c))) (before.limits ∙ limits)
        (ap (λ (c : AdmissionCounters). c.turns) (visits_counters port_transition earlier h.1 old h.3 h.0 h.7) ∙ quota)
        before.held h.8.visits in
        record {
          limits = last.limits ∙ before.limits;
          held = last.held;
          gone = All-same Gone trace (h.3 ++ h.4) h.6 (All-append Gone h.3 h.4 before.gone last.gone);
        }

    -- ---- a bot is accepted

    admitted : (old : ServiceView P) (trace : List (SystemCall P)) (new : ServiceView P) → AllServed old →
        Admits old trace new → Serves trace old new
    admitted old trace new held (inr none) =
        let slab = ap (λ (s : ServiceView P). s.slab) none.2 in
        record {
          limits = ap (λ (s : SlabView P). s.limits) slab;
          held = stays old new held slab;
          gone = All-same Gone trace [] none.1 (All-nil Gone);
        }
    admitted old trace new held (inl asks) = by asks.came asks.asked asks.then_kept
      where
        by : (came : Bool) → trace ≡ Accepts asks.place came ∷ [] →
            new ≡ (if came then accepted_at old asks.place else old) → Serves trace old new
        by true e kept =
            let slab = ap (λ (s : ServiceView P). s.slab) kept in
            let at : IsAt new.slab asks.place Kept =
            ap (λ (s : SlabView P). slice_get s.places asks.place) slab
            ∙ get_set old.slab.places asks.place Kept Free asks.free in
            let only = one_there asks.place old.slab new.slab Kept slab in
            record {
              limits = only.limits;
              held = each_held asks.place old.slab new.slab Served only held (λ own found. absurd (cc (sym at ∙ found)));
              gone = All-same Gone trace (Accepts asks.place true ∷ []) e
                  (All-cons Gone (Accepts asks.place true) [] tt (All-nil Gone));
            }
        by false e kept =
            let slab = ap (λ (s : ServiceView P). s.slab) kept in
            record {
              limits = ap (λ (s : SlabView P). s.limits) slab;
              held = stays old new held slab;
              gone = All-same Gone trace (Accepts asks.place false ∷ []) e
                  (All-cons Gone (Accepts asks.place false) [] tt (All-nil Gone));
            }

  admitted_turns : (old : ServiceView P) (trace : List (SystemCall P)) (new : ServiceView P) → Admits old trace new →
      new.counters.turns ≡ old.counters.turns
  admitted_turns old trace new (inr none) = ap (λ (s : ServiceView P). s.counters.turns) none.2
  admitted_turns old trace new (inl asks) = ap (λ (s : ServiceView P). s.counters.turns) asks.then_kept ∙ by asks.came
    where
      by : (came : Bool) → (if came then accepted_at old asks.place else old).counters.turns ≡ old.counters.turns
      by true = refl
      by false = refl

  -- ---- rounds

  -- an order changes no number of turns
  pub heeded_turns : (stops : Bool) (counters : AdmissionCounters) →
      (if stops then closed counters else counters).turns ≡ counters.turns
  heeded_turns true counters = refl
  heeded_turns false counters = refl

  -- the invariant between the rounds of a run
  pub record Keeps (trace : List (SystemCall P)) (run : ServiceView P) : Type 0 where
    pub limits : run.slab.limits ≡ run_limits settings
    pub turns : run.counters.turns ≡ settings.turns
    pub held : (place : ℕ) → IfHeldAt run.slab.places place (Served trace place)
    pub gone : All (RetiresClosed port_transition settings trace) trace
    pub counts : Counts trace (initial_service {P = P} settings) run
    pub limit : Limited settings trace run.counters

  round_counts : (ys : List (SystemCall P)) (old new : ServiceView P) → Round port_transition old ys new → Counts ys old new
  round_counts ys old new r =
      let opens = opening r.woken r.orders old in
      let start = polled r.woken r.orders old in
      counts_then ys (opens ++ r.visiting) r.admission old r.mid new r.asked
      (counts_then (opens ++ r.visiting) opens r.visiting old start r.mid refl (opening_counts r.woken r.orders old)
      (visits_counts port_transition r.visits.visited r.visits.turns start r.visiting r.mid r.visits.takes))
      (admission_counts r.mid r.admission new r.admits)

  round_serves : (xs ys : List (SystemCall P)) (old new : ServiceView P) → Keeps xs old → Round port_transition old ys new →
      Keeps (xs ++ ys) new
  round_serves xs ys old new h r =
      let all = xs ++ ys in
      let opens = opening r.woken r.orders old in
      let start = polled r.woken r.orders old in
      let quota : start.counters.turns ≡ settings.turns = heeded_turns r.orders.stops_accepting old.counters ∙ h.turns in
      let still_held : (place : ℕ) → IfHeldAt old.slab.places place (Served all place) =
      λ place now at. (let s = h.held place now at in (later IsServedSession xs ys now s.0, s.1, s.2)) in
      let opened : All (Gone all) opens =
      All-cons (Gone all) (Polls _ r.woken r.orders) (shows_where r.orders.shows_sessions old.slab.places) tt
      (all_shown port_transition (Gone all) r.orders.shows_sessions old.slab.places (λ ports status. tt)) in
      let visited = visits_serve all r.visits.visited r.visits.turns start r.visiting r.mid
      (λ n ports c. Contains-append_right xs ys (Connects n (Ready ports))
      (subst (λ (l : List (SystemCall P)). Contains l (Connects n (Ready ports))) (sym r.asked)
      (Contains-append_left (opens ++ r.visiting) r.admission (Connects n (Ready ports))
      (Contains-append_right opens r.visiting (Connects n (Ready ports)) c)))) h.limits quota still_held r.visits.takes in
      let admits = admitted all r.mid r.admission new visited.held r.admits in
      record {
        limits = admits.limits ∙ visited.limits ∙ h.limits;
        turns = admitted_turns r.mid r.admission new r.admits
            ∙ ap (λ (c : AdmissionCounters). c.turns)
            (visits_counters port_transition r.visits.visited r.visits.turns start r.visiting r.mid r.visits.takes) ∙ quota;
        held = admits.held;
        gone = All-append (Gone all) xs ys
            (All-weaker (RetiresClosed port_transition settings xs) (Gone all) (gone_later xs ys) xs h.gone)
            (All-same (Gone all) ys (opens ++ r.visiting ++ r.admission) r.asked
            (All-append (Gone all) (opens ++ r.visiting) r.admission
            (All-append (Gone all) opens r.visiting opened visited.gone) admits.gone));
        counts = counts_then (xs ++ ys) xs ys (initial_service {P = P} settings) old new refl h.counts (round_counts ys old new r);
        limit = limit_then port_transition settings xs ys old new h.limit r;
      }

  free_place : (count : ℕ) (place : ℕ) (now : SlotView P) →
      slice_get (all_free {T = SlotView P} count) place ≡ Some (Held now) → ⊥
  free_place zero zero now e = cc
  free_place zero (suc place) now e = cc
  free_place (suc count) zero now e = cc
  free_place (suc count) (suc place) now e = free_place count place now e

  pub rounds_serve : (n : ℕ) (trace : List (SystemCall P)) (run : ServiceView P) →
      Rounds port_transition n (initial_service settings) trace run → Keeps trace run
  rounds_serve zero trace run h =
      subst (λ (l : List (SystemCall P)). Keeps l run) (sym h.0)
      (subst (λ (r : ServiceView P). Keeps [] r) (sym h.1) (record {
        limits = refl;
        turns = refl;
        held = λ place now at. absurd (free_place settings.max_sessions place now at);
        gone = All-nil (RetiresClosed port_transition settings []);
        counts = record { came = refl; held = omega arith; met = omega arith };
        limit = first_limit settings;
      }))
  rounds_serve (suc n) trace run h =
      subst (λ (l : List (SystemCall P)). Keeps l run) (sym h.3)
      (round_serves h.1 h.2 h.0 run (rounds_serve n h.1 h.0 h.4) h.6)

  -- the body requested for a session after these rounds is the longest of the settings
  pub body_refused : (Refuses : ℕ → Type 0) (n : ℕ) (before : List (SystemCall P)) (run : ServiceView P) →
      Rounds port_transition n (initial_service settings) before run → (trace : List (SystemCall P)) (new : ServiceView P) →
      BreaksOff Refuses port_transition run trace new → Refuses settings.config.max_body
  body_refused Refuses n before run rounds trace new breaks =
      let kept = rounds_serve n before run rounds in
      let visits = breaks.visits in
      let all = before ++ visits.before in
      let held : (place : ℕ) → IfHeldAt run.slab.places place (Served all place) =
      λ place now at. (let s = kept.held place now at in (later IsServedSession before visits.before now s.0, s.1, s.2)) in
      let served = visits_serve all visits.visited visits.turns (polled breaks.woken breaks.orders run) visits.before visits.mid
      (λ place ports c. Contains-append_right before visits.before (Connects place (Ready ports)) c) kept.limits
      (heeded_turns breaks.orders.stops_accepting run.counters ∙ kept.turns) held visits.takes in
      subst (λ (l : Limits). Refuses l.cap) (served.limits ∙ kept.limits) visits.refuses.refused

  both_true : (one other : Bool) → (one && other) ≡ true → (one ≡ true) × (other ≡ true)
  both_true true other e = (refl, e)
  both_true false other e = absurd (cc)

  -- if each place is free, there is no session, and no connect is pending
  nobody_left : (places : List (SlabPlace (SlotView P))) → list_all is_free_place places ≡ true →
      (count_by is_held places ≡ 0) × (count_by is_kept places ≡ 0)
  nobody_left [] e = (refl, refl)
  nobody_left (Free ∷ places) e =
      let rest = nobody_left places e in
      (count_first is_held Free places ∙ ap (λ n. 0 + n) rest.0, count_first is_kept Free places ∙ ap (λ n. 0 + n) rest.1)
  nobody_left (Kept ∷ places) e = absurd (cc)
  nobody_left (Held now ∷ places) e = absurd (cc)

  free_places : (count : ℕ) → list_all is_free_place (all_free {T = SlotView P} count) ≡ true
  free_places zero = refl
  free_places (suc count) = free_places count

  -- rounds until all were served are a whole run
  pub whole_run : (n : ℕ) (trace : List (SystemCall P)) (end : ServiceView P) →
      Rounds port_transition n (initial_service settings) trace end → is_done end ≡ true → IsWholeRun port_transition settings trace
  whole_run n trace end rounds done =
      let kept = rounds_serve n trace end rounds in
      let over = both_true (have_all_come end.counters) (list_all is_free_place end.slab.places) done in
      let none = nobody_left end.slab.places over.1 in
      let first = nobody_left (all_free settings.max_sessions) (free_places settings.max_sessions) in
      let all = eqb-true end.counters.accepted end.counters.sessions over.0 in
      let came = kept.counts.came in
      let held = kept.counts.held in
      let met = kept.counts.met in
      let few = kept.limit.at_most in
      let sessions = none.0 in
      let pending = none.1 in
      let first_sessions = first.0 in
      let first_pending = first.1 in
      record {
        serves = (n, end, rounds, done);
        each = kept.gone;
        none_lost = omega (arith, held, sessions, first_sessions);
        all_came = λ none. (let most = kept.limit.goes_on none in omega (arith, came, most, all));
        at_most = omega (arith, came, few, all);
        stops = kept.limit.stops;
        all_served = omega (arith, held, met, sessions, pending, first_sessions, first_pending);
      }

  -- the law, from the invariant
  pub sessions_served : (n : ℕ) (trace : List (SystemCall P)) (run : ServiceView P) →
      Rounds port_transition n (initial_service settings) trace run →
      AreServed port_transition settings trace run × All (RetiresClosed port_transition settings trace) trace
      × (sum_over_calls connects trace ≡ sessions_in run.slab + sum_over_calls retires trace)
      × (run.counters.accepted ≡ sum_over_calls comes trace)
      × (sum_over_calls comes trace ≡ pending_in run.slab + sum_over_calls connects trace + sum_over_calls unreached trace)
  sessions_served n trace run rounds =
      let kept = rounds_serve n trace run rounds in
      let first = nobody_left (all_free settings.max_sessions) (free_places settings.max_sessions) in
      let no_session = first.0 in
      let none_pending = first.1 in
      let came = kept.counts.came in
      let held = kept.counts.held in
      let met = kept.counts.met in (
        (λ place now at. let s = kept.held place now at in (s.0, s.1)),
        kept.gone,
        omega (arith, held, no_session),
        omega (arith, came),
        omega (arith, met, none_pending),
      )
