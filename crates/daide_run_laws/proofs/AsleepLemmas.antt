-- A session that is at rest sleeps while a poll may block.
use Rattle.std.proofs.Common.{◌≡◌, ℕ, ◌-◌, ◌<◌, Bool, true, false, List, [], ◌∷◌, ◌++◌, length, sym, ap, ◌∙◌, subst, arith, ⊎_elim}
use Rattle.std.specs.Prelude.{◌&&◌, not, min, IfSome, Option, Some, None, slice_get}
use Rattle.std.specs.Time.{instant_nanos}
use Rattle.std.specs.declared.time.Duration.{Duration}
use Rattle.std.specs.declared.time.Instant.{Instant}
use Rattle.std.proofs.lemmas.Option.{slice_get_within}
use Rattle.daide_frame.specs.declared.side.Side.{Side}
use Rattle.daide_protocol.specs.Wires.{room_of, front_of, queued, no_frame}
use Rattle.daide_settings.specs.declared.settings.Settings.{Settings}
use Rattle.daide_sockets.specs.Clock.{IsNotBefore, IsAtMost}
use Rattle.daide_io.specs.Network.{NetworkCall}
use Rattle.daide_io.specs.Ports.{PortCall}
use Rattle.daide_io.specs.ReadyQueue.{is_queued}
use Rattle.daide_io.specs.Streams.{StreamCall}
use Rattle.daide_io.specs.System.{SystemCall, Polls, Rests, TransitsBy, last_about}
use Rattle.daide_io.specs.declared.system.Orders.{Orders}
use Rattle.daide_driver.specs.declared.place.SlabPlace.{SlabPlace}
use Rattle.daide_driver.specs.declared.place.SlabPlace.TheVariants.{Held}
use Rattle.daide_event_loop.specs.Serving.{ServiceView, Round, Rounds, initial_service, is_queue_empty, shows_where}
use Rattle.daide_event_loop.specs.Waiting.{IsIdleSession, IsAtRest}
use Rattle.daide_event_loop.proofs.AcceptLemmas.{none_queued, rounds_length}
use Rattle.daide_event_loop.proofs.RestingLemmas.{resting_sessions_are_idle}
use Rattle.daide_event_loop.proofs.WaitingLemmas.{is_absent}
use Rattle.daide_sockets.specs.declared.socket.Socket.{Socket}
use Rattle.daide_sockets.specs.Table.{arming_all}
use Rattle.daide_sockets.specs.Sockets.{is_some_byte}
use Rattle.daide_sockets.specs.Table.{Table, AreDeadlinesBounded, IsPollTime}
use Rattle.daide_sockets.specs.Wakeups.{SessionSockets, Wakes, session_due, socket_at}
use Rattle.daide_sockets.proofs.InTimeLemmas.{IsBy, earlier_left, by_due, same_due, same_reading}
use Rattle.daide_run_laws.specs.NoLostWakeups.{Sleeps, NoWakeupIsLost}
use Rattle.daide_run_laws.proofs.RestLemmas.{IsQuiet, none_reported, no_tries, no_writes, rests_quiet, places_kept, bounded_after}
use Rattle.daide_driver.specs.Slab.{SlotView}
use Rattle.daide_run_laws.proofs.TurnSettled.{PortsSettle, quiet_found, full_found}

-- with bytes to write and no work a socket is not writable
none_writable : (held : List ℕ) (failed writable : Bool) → failed ≡ false → 0 < length held →
    ((is_some_byte held && not failed) && writable) ≡ false → writable ≡ false
none_writable [] failed writable e some h = absurd (omega (arith, some))
none_writable (byte ∷ held) failed writable e some h =
    sym (ap (λ (f : Bool). (true && not f) && writable) e) ∙ h

bound_by : (nearest : Option Instant) (due : Instant) → IsNotBefore nearest (Some due) → IsBy nearest due
bound_by None due h = h
bound_by (Some moment) due h = h

-- a poll that may block ends by the deadline of a place at rest
pub ends_by : {S : Type 0} (table : Table) (others : List (Bool × Option Instant)) (time : Option Duration) (place : ℕ)
    (session : SessionSockets S) → IsPollTime true (arming_all table others) time → AreDeadlinesBounded table →
    IsQuiet table place session → (now due : Instant) → table.reading ≡ Some now → session_due session ≡ Some due →
    IsAtMost time (instant_nanos due - instant_nanos now)
ends_by table others time place session lasts bounded quiet now due read is =
    by_due (arming_all table others) time now due (same_reading table others ∙ read) lasts
    (earlier_left (arming_all table others).due (arming_all table others).armed_due due
    (subst (λ (o : Option Instant). IsBy o due) (sym (same_due table others))
    (bound_by table.due due (subst (IsNotBefore table.due) (quiet.due ∙ is) (bounded place)))))

-- ---- a poll of a run

module _ {P : Type 0} (port_transition : P → PortCall → P → Type 0) where
  -- a poll may block only if no place is queued
  pub found_empty : (woken : List ℕ) (orders : Orders) (others : List (SystemCall P)) (run next : ServiceView P) →
      Round port_transition run (Polls true woken orders ∷ others) next → is_queue_empty run ≡ true
  found_empty woken orders others run next r =
      let asked : Polls true woken orders ∷ others ≡ Polls (is_queue_empty run) r.woken r.orders
      ∷ (shows_where r.orders.shows_sessions run.slab.places ++ r.visiting ++ r.admission) = r.asked in
      cc

  pub none_waits : (woken : List ℕ) (orders : Orders) (others : List (SystemCall P)) (run next : ServiceView P) →
      Round port_transition run (Polls true woken orders ∷ others) next → (place : ℕ) → is_queued run.ready place ≡ false
  none_waits woken orders others run next r place =
      is_absent run.ready place (none_queued port_transition run place (found_empty woken orders others run next r))

  -- what is known of a session at rest: its last turn, its sockets, and its deadline
  pub record RestsAt {S : Type 0} (table : Table) (place : ℕ) (held : SlotView P) (session : SessionSockets S) :
      Type 0 where
    pub idle : IsIdleSession port_transition held
    pub quiet : IsQuiet table place session
    pub inside : place < length table.deadlines
    pub bounded : AreDeadlinesBounded table

  module _ {S N C : Type 0} (transition : N → NetworkCall C → N → Type 0) (calls : S → Option (List StreamCall))
      (view : P → SessionSockets S) where
    some_bounded : (place : ℕ) (call : SystemCall P) (trace : List (SystemCall P)) (first old : N × Table) →
        last_about place None trace ≡ Some call → TransitsBy (Wakes transition calls view) first trace old →
        AreDeadlinesBounded old.1
    some_bounded place call [] first old e goes = absurd (cc)
    some_bounded place call (one ∷ trace) first old e goes = bounded_after transition calls view one trace first old goes

    -- each session that is not queued after some rounds
    pub rests_at : (settings : Settings) (n : ℕ) (before : List (SystemCall P)) (run : ServiceView P) (first old : N × Table)
        (place : ℕ) (held : SlotView P) →
        Rounds port_transition n (initial_service settings) before run → length first.1.deadlines ≡ settings.max_sessions →
        TransitsBy (Wakes transition calls view) first before old → is_queued run.ready place ≡ false →
        slice_get run.slab.places place ≡ Some (Held held) → RestsAt old.1 place held (view held.ports)
    rests_at settings n before run first old place held rounds places goes queued at =
        let rest : IsAtRest port_transition before place (Held held) =
        subst (λ (o : Option (SlabPlace (SlotView P))). IfSome o (IsAtRest port_transition before place)) at
        (resting_sessions_are_idle port_transition settings n before run rounds place queued) in
        let within = slice_get_within run.slab.places place (Held held) at in
        let all = rounds_length port_transition settings n before run rounds in
        let inside : place < length first.1.deadlines = omega (arith, within, all, places) in
        let kept = places_kept transition calls view before first old goes in
        record {
          idle = rest.0;
          quiet = rests_quiet transition calls view before first old None place inside goes (λ ports e. absurd (cc)) held.ports rest.1;
          inside = omega (arith, inside, kept);
          bounded = some_bounded place (Rests place held.ports true) before first old rest.1 goes;
        }

module _ {P S : Type 0} (port_transition : P → PortCall → P → Type 0) (view : P → SessionSockets S)
    (settles : PortsSettle port_transition view) where
  one_sleeps : (table : Table) (others : List (Bool × Option Instant)) (time : Option Duration) (place : ℕ)
      (held : SlotView P) → IsPollTime true (arming_all table others) time →
      RestsAt port_transition table place held (view held.ports) → Sleeps table time place held.session (view held.ports)
  one_sleeps table others time place held lasts rests = record {
    reported = none_reported table place (view held.ports) rests.quiet;
    read = read;
    written = written;
    flushed = λ side writing. none_writable (own side).stream.write_buffer (own side).stream.has_failed
        (own side).readiness.may_write writing.0 writing.1 (no_writes table place (view held.ports) rests.quiet side);
    in_time = ends_by table others time place (view held.ports) lasts rests.bounded rests.quiet;
  }
    where
      own : Side → Socket S
      own side = socket_at (view held.ports) side

      once : (side : Side) → (own side).tries_again ≡ false
      once side = no_tries table place (view held.ports) rests.quiet side

      read : (side : Side) → 0 < room_of held.session side →
          ((own side).readiness.may_read ≡ false) × ((own side).stream.read_buffer ≡ [])
      read side room =
          let pulled = rests.idle.pulled side room in
          let call = pulled.2 in
          ⊎_elim (λ (again : (own side).tries_again ≡ true). let other = once side in absurd (cc))
          (λ (quiet : ((own side).readiness.may_read ≡ false) × ((own side).stream.read_buffer ≡ [])). quiet)
          (quiet_found port_transition view settles side (min (room_of held.session side) 512) pulled.0 pulled.1
          rests.idle.turn call.0 call.1 call.2 rests.idle.begun held.ports rests.idle.evolves rests.idle.still rests.idle.made)

      written : (side : Side) → no_frame (queued held.session side) ≡ false → (own side).readiness.may_write ≡ false
      written side some =
          let call = rests.idle.offered side some in
          ⊎_elim (λ (again : (own side).tries_again ≡ true). let other = once side in absurd (cc))
          (λ (full : (own side).readiness.may_write ≡ false). full)
          (full_found port_transition view settles side (front_of held.session side) rests.idle.turn call.0 call.1 call.2
          rests.idle.begun held.ports rests.idle.evolves rests.idle.made)

pub no_wakeup_lost : {P S N C : Type 0} (port_transition : P → PortCall → P → Type 0) (view : P → SessionSockets S)
    (calls : S → Option (List StreamCall)) (transition : N → NetworkCall C → N → Type 0) → PortsSettle port_transition view →
    NoWakeupIsLost port_transition view calls transition
no_wakeup_lost port_transition view calls transition settles =
    λ settings n before others woken orders run next first old new rounds round places trace poll.
    record {
      others = poll.1.0;
      polls = poll.1.1;
      asleep = λ place held at.
          one_sleeps port_transition view settles old.1 poll.1.0 poll.1.1.time place held poll.1.1.lasts
          (rests_at port_transition transition calls view settings n before run first old place held rounds places trace
          (none_waits port_transition woken orders others run next round place) at);
    }
