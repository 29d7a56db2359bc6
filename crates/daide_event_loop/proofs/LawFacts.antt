-- Each law of `laws`, used once at small values. Each fact takes only the law, so that a weaker law does not check.
use Rattle.std.proofs.Common.{◌≡◌, ℕ, ◌+◌, ◌<◌, ◌≤◌, ⊎_elim, true, false, List, [], ◌∷◌, length, refl, sym, ◌∙◌, ap, subst, arith}
use Rattle.std.specs.Prelude.{min, Contains, All, Option, Some, None, IfSome, slice_get}
use Rattle.std.specs.List.{list_all}
use Rattle.std.proofs.lemmas.List.Elements.{All-nil, All-cons, All-contains}
use Rattle.daide_frame.specs.declared.side.Side.{Side}
use Rattle.daide_frame.specs.declared.side.Side.TheVariants.{Bot, Server}
use Rattle.daide_protocol.specs.Machine.{is_over}
use Rattle.daide_protocol.specs.Wires.{room_of}
use Rattle.daide_io.specs.declared.ports.ClockEvent.TheVariants.{NoEvent, ImTimeIsOver, StopIsRequested}
use Rattle.daide_io.specs.declared.ports.Pull.TheVariants.{Got, Idle, Ended}
use Rattle.daide_io.specs.declared.ports.Put.TheVariants.{Took, Failed}
use Rattle.daide_io.specs.declared.system.Orders.{Orders}
use Rattle.daide_io.specs.declared.system.SessionEnd.{SessionEnd}
use Rattle.daide_io.specs.declared.system.SessionStatus.{SessionStatus}
use Rattle.daide_io.specs.Ports.{PortCall, TurnBegins, Clock, Pulled, Offered, EvolvesBy, taken}
use Rattle.daide_io.specs.System.{SystemCall, Polls, Shows, Accepts, Rests, last_about, no_orders}
use Rattle.daide_io.specs.ReadyQueue.{is_queued}
use Rattle.daide_driver.specs.declared.place.SlabPlace.{SlabPlace}
use Rattle.daide_driver.specs.declared.place.SlabPlace.TheVariants.{Held}
use Rattle.daide_driver.specs.Slab.{SlotView, IsAt, is_free_place}
use Rattle.daide_settings.specs.declared.settings.Settings.{Settings}
use Rattle.daide_driver.specs.Meter.{is_gain, is_loss}
use Rattle.daide_event_loop.specs.Served.{SessionsAreServed, OrdersAreHeeded, turns_in}
use Rattle.daide_event_loop.specs.Served.{comes, sum_over_calls, retires, unreached}
use Rattle.daide_event_loop.specs.Served.{run_limits, IsServed, IsEndOf}
use Rattle.daide_event_loop.specs.Serving.{ServiceView, Round, Rounds, initial_service, is_done, polled, sessions_in, pending_in}
use Rattle.daide_settings.specs.BotsInAll.{bots_in_all}
use Rattle.daide_event_loop.specs.Independence.{SessionsAreIndependent, HaveSameRules, results_of, Received, Handed}
use Rattle.daide_event_loop.specs.Waiting.{RestingSessionsAreIdle, IsAtRest, MakesNoProgress}
use Rattle.daide_event_loop.specs.Fairness.{RoundsAreShort, ReadyPlacesAdvance, turn_calls}

module _ {P : Type 0} (port_transition : P → PortCall → P → Type 0) where
  -- with two turns a session is over once a third began
  over_after_two : SessionsAreServed port_transition → (settings : Settings) (trace : List (SystemCall P)) (run : ServiceView P)
      (place : ℕ) (now : SlotView P) → Rounds port_transition 1 (initial_service settings) trace run →
      (there : slice_get run.slab.places place ≡ Some (Held now)) → settings.turns ≡ 2 →
      ((session : IsServed port_transition settings trace now) → turns_in session.history ≡ 3) →
      is_over now.session.state.phase ≡ true
  over_after_two law settings trace run place now rounds there two three =
      let served = (law settings 1 trace run rounds).0 place now there in
      let many = three served.0 in
      served.0.metered.ends (omega (arith, two, many))

  -- after one round that left no session and no pending connect, each accepted bot was retired, or its server was unreachable
  one_round : SessionsAreServed port_transition → (settings : Settings) (trace : List (SystemCall P)) (run : ServiceView P) →
      Rounds port_transition 1 (initial_service settings) trace run → pending_in run.slab ≡ 0 → sessions_in run.slab ≡ 0 →
      (run.counters.accepted ≡ sum_over_calls comes trace)
      × (sum_over_calls comes trace ≡ sum_over_calls retires trace + sum_over_calls unreached trace)
  one_round law settings trace run rounds none empty =
      let served = law settings 1 trace run rounds in
      let joined = served.2 in
      let came = served.4 in
      (served.3, omega (arith, joined, came, none, empty))

  -- ---- orders

  -- the orders of an operator who stops the run, and who has its sessions shown
  abbrev stop : Orders
  stop = record { stops_accepting = true; shows_sessions = false }

  abbrev show : Orders
  show = record { stops_accepting = false; shows_sessions = true }

  -- a run that is told to stop in its first round is done after it, if nothing came before
  stopped_at_once : OrdersAreHeeded port_transition → (settings : Settings) (run : ServiceView P) →
      Rounds port_transition 1 (initial_service settings) (Polls true [] stop ∷ []) run →
      list_all is_free_place run.slab.places ≡ true → is_done run ≡ true
  stopped_at_once law settings run rounds free =
      (law settings 1 (Polls true [] stop ∷ []) run rounds).ends (omega arith) ∙ free

  -- no run calls accept after it
  no_bot_after_a_stop : OrdersAreHeeded port_transition → (settings : Settings) (n : ℕ) (run : ServiceView P) →
      Rounds port_transition n (initial_service settings) (Polls true [] stop ∷ Polls true [] no_orders ∷ Accepts 0 false ∷ []) run → ⊥
  no_bot_after_a_stop law settings n run rounds =
      let none = (law settings n (Polls true [] stop ∷ Polls true [] no_orders ∷ Accepts 0 false ∷ []) run rounds).stops.0 (omega arith) in
      absurd (omega (arith, none))

  -- an order to show sessions does not stop the run
  goes_on_after_a_show : OrdersAreHeeded port_transition → (settings : Settings) (n : ℕ) (run : ServiceView P) →
      Rounds port_transition n (initial_service settings) (Polls true [] show ∷ Accepts 0 false ∷ []) run →
      run.counters.sessions ≡ bots_in_all settings
  goes_on_after_a_show law settings n run rounds =
      (law settings n (Polls true [] show ∷ Accepts 0 false ∷ []) run rounds).goes_on refl

  -- no run shows a session without an order
  not_shown_unasked : OrdersAreHeeded port_transition → (settings : Settings) (n : ℕ) (run : ServiceView P) (ports : P)
      (status : SessionStatus) →
      Rounds port_transition n (initial_service settings) (Polls true [] no_orders ∷ Shows ports status ∷ []) run → ⊥
  not_shown_unasked law settings n run ports status rounds =
      let none = (law settings n (Polls true [] no_orders ∷ Shows ports status ∷ []) run rounds).shows refl in
      absurd (omega (arith, none))

  -- ---- fairness

  -- in no round do 33 turns begin
  no_more_turns : RoundsAreShort port_transition → (old new : ServiceView P) (trace : List (SystemCall P)) →
      Round port_transition old trace new → sum_over_calls turn_calls trace ≡ 33 → ⊥
  no_more_turns law old new trace round many =
      let short = law old new trace round in
      absurd (omega (arith, short, many))

  -- the third of the places that were at rest is visited in the round, and so is the first of those that had turns
  third_is_visited : ReadyPlacesAdvance port_transition → (old new : ServiceView P) (trace : List (SystemCall P))
      (round : Round port_transition old trace new) (place : ℕ) →
      slice_get (polled round.woken round.orders old).ready.fresh 2 ≡ Some place → Contains round.visits.visited place
  third_is_visited law old new trace round place there =
      ⊎_elim (λ (c : Contains round.visits.visited place). c)
      (λ (l : (left : ℕ) × (left + 3 ≤ 2) × (slice_get new.ready.fresh left ≡ Some place)). let less = l.1 in absurd (omega (arith, less)))
      ((law old new trace round place 2).fresh there)

  first_is_visited : ReadyPlacesAdvance port_transition → (old new : ServiceView P) (trace : List (SystemCall P))
      (round : Round port_transition old trace new) (place : ℕ) →
      slice_get (polled round.woken round.orders old).ready.moving 0 ≡ Some place → Contains round.visits.visited place
  first_is_visited law old new trace round place there =
      ⊎_elim (λ (c : Contains round.visits.visited place). c)
      (λ (l : (left : ℕ) × (left < 0) × (slice_get new.ready.moving left ≡ Some place)). let less = l.1 in absurd (omega (arith, less)))
      ((law old new trace round place 0).moving there)

-- ---- rest

-- ports each of whose pulls returns a byte
abbrev Gives : PortCall → Type 0
Gives TurnBegins = Unit {0}
Gives (Clock event) = Unit {0}
Gives (Pulled side buffer pull bytes) = pull ≡ Got 1
Gives (Offered side bytes put) = Unit {0}

module _ {P : Type 0} where
  abbrev AlwaysGives : P → PortCall → P → Type 0
  AlwaysGives old call new = Gives call

  each_gives : (calls : List PortCall) (old new : P) → EvolvesBy AlwaysGives old calls new → All Gives calls
  each_gives [] old new h = All-nil Gives
  each_gives (call ∷ calls) old new h = All-cons Gives call calls h.1 (each_gives calls h.0 new h.2)

  -- over such ports a session with room is always in the queue
  queued_with_room : RestingSessionsAreIdle AlwaysGives → (settings : Settings) (n : ℕ) (calls : List (SystemCall P))
      (run : ServiceView P) (place : ℕ) (now : SlotView P) →
      Rounds AlwaysGives n (initial_service settings) calls run → IsAt run.slab place (Held now) →
      (side : Side) → 0 < room_of now.session side → is_queued run.ready place ≡ false → ⊥
  queued_with_room law settings n calls run place now rounds there side room absent =
      let rests = law settings n calls run rounds place absent in
      let idle = (subst (λ (o : Option (SlabPlace (SlotView P))). IfSome o (IsAtRest AlwaysGives calls place)) there rests).0 in
      let pulled = idle.pulled side room in
      let call = Pulled side (min (room_of now.session side) 512) pulled.0 pulled.1 in
      let gives = each_gives idle.turn idle.begun now.ports idle.evolves in
      let some = ap is_gain (All-contains Gives idle.turn call gives pulled.2) in
      ⊎_elim (λ (e : pulled.0 ≡ Idle). let none = ap is_gain e in absurd (cc))
      (λ (e : pulled.0 ≡ Got 0). let none = ap is_gain e in absurd (cc))
      (All-contains MakesNoProgress idle.turn call idle.still pulled.2)

  -- a session that is not in the queue was to rest with the ports that it has, and nothing came for its place since
  rests_as_it_is : (transition : P → PortCall → P → Type 0) → RestingSessionsAreIdle transition → (settings : Settings) (n : ℕ)
      (calls : List (SystemCall P)) (run : ServiceView P) (place : ℕ) (now : SlotView P) →
      Rounds transition n (initial_service settings) calls run → IsAt run.slab place (Held now) →
      is_queued run.ready place ≡ false → last_about place None calls ≡ Some (Rests place now.ports true)
  rests_as_it_is transition law settings n calls run place now rounds there absent =
      (subst (λ (o : Option (SlabPlace (SlotView P))). IfSome o (IsAtRest transition calls place)) there
      (law settings n calls run rounds place absent)).1

-- an expired timer, a stop, a byte, an end and a failure are progress
progress : (MakesNoProgress (Clock ImTimeIsOver) → ⊥) × (MakesNoProgress (Clock StopIsRequested) → ⊥)
    × (MakesNoProgress (Pulled Bot 4 (Got 1) (0 ∷ [])) → ⊥)
    × (MakesNoProgress (Pulled Server 4 Ended []) → ⊥) × (MakesNoProgress (Offered Bot (0 ∷ []) (Took 1)) → ⊥)
    × (MakesNoProgress (Offered Server (0 ∷ []) Failed) → ⊥)
progress = (λ e. absurd (cc), λ e. absurd (cc), got_one, ended, took_one, failed)
  where
    got_one : MakesNoProgress (Pulled Bot 4 (Got 1) (0 ∷ [])) → ⊥
    got_one e = ⊎_elim (λ (i : Got 1 ≡ Idle). let x = ap is_gain i in absurd (cc))
        (λ (i : Got 1 ≡ Got 0). let x = ap is_gain i in absurd (cc)) e

    ended : MakesNoProgress (Pulled Server 4 Ended []) → ⊥
    ended e = ⊎_elim (λ (i : Ended ≡ Idle). let x = ap is_gain i in absurd (cc))
        (λ (i : Ended ≡ Got 0). let x = ap is_gain i in absurd (cc)) e

    took_one : MakesNoProgress (Offered Bot (0 ∷ []) (Took 1)) → ⊥
    took_one e = let x = ap is_loss e in absurd (cc)

    failed : MakesNoProgress (Offered Server (0 ∷ []) Failed) → ⊥
    failed e = let x = ap is_loss e in absurd (cc)

-- ---- sessions of two runs

-- a result has nothing of what the session handed in
results : results_of (Offered Bot (0x02 ∷ []) (Took 1) ∷ Pulled Server 512 (Got 1) (0x03 ∷ []) ∷ [])
    ≡ Handed Bot (Took 1) ∷ Received Server (Got 1) (0x03 ∷ []) ∷ []
results = refl

-- the same settings with 256 places, and without an end
abbrev crowded_by : Settings → Settings
crowded_by settings = record settings { max_sessions = 256; some = (omega arith, omega arith); endless = true }

-- the number of places, and of bots, is no rule of a session
other_crowd : (settings : Settings) → HaveSameRules settings (crowded_by settings)
other_crowd settings = record { limits = refl; turns = refl }

-- a session alone and one among 256, of which two bytes were taken: they are the same bytes, and the same ends
alone_or_not : {P Q : Type 0} (port_transition : P → PortCall → P → Type 0) (other_transition : Q → PortCall → Q → Type 0) →
    SessionsAreIndependent port_transition other_transition → (settings : Settings) (trace : List (SystemCall P))
    (others : List (SystemCall Q)) (now : SlotView P) (then : SlotView Q)
    (alone : IsServed port_transition settings trace now)
    (crowded : IsServed other_transition (crowded_by settings) others then)
    (a b c d : ℕ) →
    alone.history ≡ TurnBegins ∷ Clock NoEvent ∷ Offered Server (a ∷ b ∷ []) (Took 2) ∷ Pulled Bot 4 Idle [] ∷ [] →
    crowded.history ≡ TurnBegins ∷ Clock NoEvent ∷ Offered Server (c ∷ d ∷ []) (Took 2) ∷ Pulled Bot 512 Idle [] ∷ [] →
    (a ∷ b ∷ [] ≡ c ∷ d ∷ []) × (now.session.state ≡ then.session.state) × (now.session.account ≡ then.session.account)
    × ((end last : SessionEnd) → IsEndOf (run_limits settings) settings.turns alone.history now.session end →
    IsEndOf (run_limits settings) settings.turns crowded.history then.session last → end ≡ last)
alone_or_not port_transition other_transition law settings trace others now then alone crowded a b c d one other =
    let same = ap results_of one ∙ sym (ap results_of other) in
    let both = law settings (crowded_by settings) trace others now then alone crowded
    (other_crowd settings) same in
    let first = ap (taken Server) one in
    let second = ap (taken Server) other in
    let sent = both.0.sent Server (ap length first ∙ sym (ap length second)) in
    (sym first ∙ sent.0 ∙ second, both.0.state, both.0.counts, both.1)
