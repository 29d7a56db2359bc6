-- The sessions that are shown, the visits of a round so far, and the rounds of a run.
use Rattle.std.proofs.Common.{◌≡◌, ℕ, zero, suc, ◌+◌, Bool, true, false, List, [], ◌∷◌, ◌++◌, Some}
use Rattle.std.proofs.Common.{refl, ap, ◌∙◌, subst, add-one, take, arith, ◌<◌, ◌≤◌, inr, sym, Result, Ok, Err}
use Rattle.std.proofs.lemmas.Bool.Decides.{nat_tests}
use Rattle.std.specs.Prelude.{slice_get, IfErr, OnErr}
use Rattle.std.specs.Result.{IsErrAnd}
use Rattle.daide_protocol.specs.Wires.{SessionView}
use Rattle.daide_io.specs.Ports.{PortCall}
use Rattle.daide_io.specs.ReadyQueue.{queued_places}
use Rattle.daide_driver.specs.declared.place.SlabPlace.{SlabPlace}
use Rattle.daide_driver.specs.declared.place.SlabPlace.TheVariants.{Free, Kept, Held}
use Rattle.daide_driver.specs.Slab.{is_so, is_at, is_held, IfHeldAt, SlotView}
use Rattle.daide_driver.specs.declared.meter.Meter.{Meter}
use Rattle.daide_io.specs.declared.system.Orders.{Orders}
use Rattle.daide_io.specs.declared.system.SessionStatus.{SessionStatus}
use Rattle.daide_io.specs.System.{SystemCall, Polls, Shows, TransitsBy, status_of}
use Rattle.daide_settings.specs.declared.settings.Settings.{Settings}
use Rattle.daide_event_loop.specs.declared.serving.ServeFault.{ServeFault}
use Rattle.daide_event_loop.specs.declared.serving.ServeFault.TheVariants as Faults
use Rattle.daide_event_loop.specs.Serving.{ServiceView, is_queue_empty, shows, shows_where, opening, Visits, VisitsNext, VisitsReady, has_room, Round, Rounds, is_done, initial_service}
use Rattle.daide_event_loop.specs.Serving.{BreaksOff, GivesUp}
use Rattle.daide_event_loop.proofs.BeginningLemmas.{held_in}
use Rattle.daide_event_loop.proofs.TransitLemmas.{transits_then}

-- ---- sessions are shown

module _ {P : Type 0} where
  -- one more session is shown
  pub show_more : (xs : List (SlabPlace (SlotView P))) (i : ℕ) (now : SlotView P) →
      slice_get xs i ≡ Some (Held now) →
      shows (take (suc i) xs) ≡ shows (take i xs) ++ Shows now.ports (status_of now.session now.meter.moved.bytes) ∷ []
  show_more [] zero now e = absurd (cc)
  show_more [] (suc i) now e = absurd (cc)
  show_more (Free ∷ xs) zero now e = absurd (cc)
  show_more (Kept ∷ xs) zero now e = absurd (cc)
  show_more (Held own ∷ xs) zero now e =
      let same : own ≡ now = cc in
      ap (λ (h : SlotView P). Shows h.ports (status_of h.session h.meter.moved.bytes) ∷ []) same
  show_more (Free ∷ xs) (suc i) now e = show_more xs i now e
  show_more (Kept ∷ xs) (suc i) now e = show_more xs i now e
  show_more (Held own ∷ xs) (suc i) now e =
      ap (λ (calls : List (SystemCall P)). Shows own.ports (status_of own.session own.meter.moved.bytes) ∷ calls) (show_more xs i now e)

  -- at a place without a session none is
  pub show_none : (xs : List (SlabPlace (SlotView P))) (i : ℕ) → is_so is_held (slice_get xs i) ≡ false →
      shows (take (suc i) xs) ≡ shows (take i xs)
  show_none [] zero e = refl
  show_none [] (suc i) e = refl
  show_none (Free ∷ xs) zero e = refl
  show_none (Kept ∷ xs) zero e = refl
  show_none (Held now ∷ xs) zero e = absurd (cc)
  show_none (Free ∷ xs) (suc i) e = show_none xs i e
  show_none (Kept ∷ xs) (suc i) e = show_none xs i e
  show_none (Held now ∷ xs) (suc i) e =
      ap (λ (calls : List (SystemCall P)). Shows now.ports (status_of now.session now.meter.moved.bytes) ∷ calls) (show_none xs i e)

module _ {P S : Type 0} (transition : S → SystemCall P → S → Type 0) where
  -- the call for one more session, by what the slab returned of it
  pub shown : (first s t : S) (places : List (SlabPlace (SlotView P))) (i : ℕ) (session : SessionView)
      (ports : P) (meter : Meter) (status : SessionStatus) → is_at is_held places i ≡ true →
      IfHeldAt places i (λ item. session ≡ item.session) → IfHeldAt places i (λ item. ports ≡ item.ports) →
      IfHeldAt places i (λ item. meter ≡ item.meter) → status ≡ status_of session meter.moved.bytes →
      TransitsBy transition first (shows (take i places)) s → transition s (Shows ports status) t →
      TransitsBy transition first (shows (take (suc i) places)) t
  shown first s t places i session ports meter status item is_session is_ports is_meter is_status before shows_it =
      let found = held_in (slice_get places i) item in
      let now = found.0 in
      let a : session ≡ now.session = is_session now found.1 in
      let b : ports ≡ now.ports = is_ports now found.1 in
      let d : meter ≡ now.meter = is_meter now found.1 in
      let call : Shows ports status ≡ Shows now.ports (status_of now.session now.meter.moved.bytes) = cc in
      rw (show_more places i now found.1)
      (transits_then transition (shows (take i places)) (Shows now.ports (status_of now.session now.meter.moved.bytes) ∷ []) first s t before
      (t, subst (λ (one : SystemCall P). transition s one t) call shows_it, refl))

-- ---- the visits of a round

module _ {P S : Type 0} (port_transition : P → PortCall → P → Type 0) (transition : S → SystemCall P → S → Type 0) where
  -- the visits so far
  pub record Visited (first : S) (old : ServiceView P) (turns : ℕ) (now : ServiceView P) (system : S) : Type 0 where
    pub visited : List ℕ
    pub trace : List (SystemCall P)
    pub transits : TransitsBy transition first trace system
    pub visits : Visits port_transition visited turns old trace now

  pub none_visited : (s : S) (old : ServiceView P) → Visited s old 0 old s
  none_visited s old = record { visited = []; trace = []; transits = refl; visits = (refl, refl, refl) }

  pub another_visit : (s t u : S) (old mid new : ServiceView P) (before place more : ℕ) → Visited s old before mid t →
      (trace : List (SystemCall P)) → TransitsBy transition t trace u →
      VisitsNext port_transition before mid place more trace new → Visited s old (before + more) new u
  another_visit s t u old mid new before place more h trace goes visits = record {
    visited = place ∷ h.visited;
    trace = h.trace ++ trace;
    transits = transits_then transition h.trace trace s t u h.transits goes;
    visits = (mid, before, more, h.trace, trace, refl, refl, h.visits, visits);
  }

-- whether there is room for one visit more, as the code tests it
pub some_room : (turns : ℕ) → turns + 8 ≤ 32 → has_room turns ≡ true
some_room turns h = grind (arith, nat_tests, h)

no_room : (turns : ℕ) → 32 < turns + 8 → has_room turns ≡ false
no_room turns h = grind (arith, nat_tests, h)

module _ {P S : Type 0} (port_transition : P → PortCall → P → Type 0) (transition : S → SystemCall P → S → Type 0) where
  -- all visits of a round, with their trace
  abbrev pub VisitedAll : S → ServiceView P → ServiceView P → S → Type 0
  VisitedAll first old new system = (trace : List (SystemCall P)) × TransitsBy transition first trace system
      × VisitsReady port_transition old trace new

  -- no place is left in the queue
  pub none_left : (s t : S) (old mid new : ServiceView P) (turns : ℕ) → Visited port_transition transition s old turns mid t → new ≡ mid →
      queued_places new.ready ≡ [] → VisitedAll s old new t
  none_left s t old mid new turns h same none = (
    h.trace,
    h.transits,
    record {
      visited = h.visited;
      turns = turns;
      takes = subst (λ (run : ServiceView P). Visits port_transition h.visited turns old h.trace run) (sym same) h.visits;
      ends = λ room. none;
    },
  )

  -- or the round had its turns
  pub all_had : (s t : S) (old new : ServiceView P) (turns : ℕ) → Visited port_transition transition s old turns new t → 32 < turns + 8 →
      VisitedAll s old new t
  all_had s t old new turns h far = (
    h.trace,
    h.transits,
    record {
      visited = h.visited;
      turns = turns;
      takes = h.visits;
      ends = λ room. absurd (let gone = no_room turns far in cc);
    },
  )

-- ---- rounds

-- a round begins with a poll, and with the sessions that are shown
pub opened : {P S : Type 0} (transition : S → SystemCall P → S → Type 0) (s t u : S) (run : ServiceView P) (may_block : Bool)
    (woken : List ℕ) (orders : Orders) → may_block ≡ is_queue_empty run → transition s (Polls may_block woken orders) t →
    TransitsBy transition t (shows_where orders.shows_sessions run.slab.places) u →
    TransitsBy transition s (opening woken orders run) u
opened transition s t u run may_block woken orders empty polls shows =
    (t, subst (λ (b : Bool). transition s (Polls b woken orders) t) empty polls, shows)

module _ {P S : Type 0} (port_transition : P → PortCall → P → Type 0) (transition : S → SystemCall P → S → Type 0) where
  -- the first n rounds, with their trace of system calls
  abbrev pub Ran : ℕ → ServiceView P → S → ServiceView P → S → Type 0
  Ran n old s new t =
      (trace : List (SystemCall P)) × TransitsBy transition s trace t × Rounds port_transition n old trace new

  pub no_rounds : (a : ServiceView P) (s : S) → Ran 0 a s a s
  no_rounds a s = ([], refl, (refl, refl))

  pub another_round : (n : ℕ) (a b c : ServiceView P) (s t u : S) → Ran n a s b t → is_done b ≡ false →
      (trace : List (SystemCall P)) → TransitsBy transition t trace u → Round port_transition b trace c →
      Ran (n + 1) a s c u
  another_round n a b c s t u h e trace k r = (
    h.0 ++ trace,
    transits_then transition h.0 trace s t u h.1 k,
    rw add-one (b, h.0, trace, refl, h.2, e, r),
  )

-- ---- a run that gives up

module _ {P S : Type 0} (Refuses : ℕ → Type 0) (port_transition : P → PortCall → P → Type 0)
    (transition : S → SystemCall P → S → Type 0) (settings : Settings) where
  -- one of its rounds was broken off
  pub runs_out : (n : ℕ) (mid end : ServiceView P) (s t u : S) →
      Ran port_transition transition n (initial_service settings) s mid t → is_done mid ≡ false → (last : List (SystemCall P)) →
      TransitsBy transition t last u → BreaksOff Refuses port_transition mid last end →
      (trace : List (SystemCall P)) × TransitsBy transition s trace u
      × GivesUp Refuses port_transition settings Faults.Memory trace
  runs_out n mid end s t u ran going_on last goes breaks = (
    ran.0 ++ last,
    transits_then transition ran.0 last s t u ran.1 goes,
    inr (record {
      n = n;
      before = ran.0;
      last = last;
      mid = mid;
      end = end;
      rounds = ran.2;
      going_on = going_on;
      breaks = breaks;
      asked = refl;
    }),
  )

-- a property of `Memory` holds if this is the only fault
pub at_memory : {A : Type 0} (r : Result A ServeFault) (fault : ServeFault) (Holds : ServeFault → Type 0) →
    IsErrAnd r (λ told. told ≡ fault) → fault ≡ Faults.Memory → Holds Faults.Memory → IfErr r Holds
at_memory (Ok x) fault Holds told e h = tt
at_memory (Err other) fault Holds told e h = subst Holds (sym (told ∙ e)) h

-- what holds in any case holds at an error
pub at_error : {A E : Type 0} (r : Result A E) (P : Type 0) → P → OnErr r P
at_error (Ok x) P h = tt
at_error (Err e) P h = h
