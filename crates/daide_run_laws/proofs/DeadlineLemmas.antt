-- Each session at a poll that may block has a deadline, by which the poll ends; and one that is late is woken.
use Rattle.std.proofs.Common.{◌≡◌, ◌⊎◌, ℕ, ◌+◌, ◌<◌, ◌≤◌, Bool, true, false, List, [], ◌∷◌, refl, sym, ap, ◌∙◌, subst, arith, inl, inr, ⊎_elim}
use Rattle.std.specs.Prelude.{◌||◌, min, max, if◌then◌else◌, Option, Some, slice_get}
use Rattle.std.specs.Duration.{as_nanos}
use Rattle.std.specs.Time.{instant_nanos}
use Rattle.std.specs.declared.time.Duration.{Duration}
use Rattle.std.specs.declared.time.Instant.{Instant}
use Rattle.daide_frame.specs.declared.side.Side.{Side}
use Rattle.daide_frame.specs.declared.side.Side.TheVariants.{Bot, Server}
use Rattle.daide_frame.specs.Frames.{missing}
use Rattle.daide_protocol.specs.Events.{Event}
use Rattle.daide_protocol.specs.Machine.{Sent, Effect, Limits, SessionState, Runs, coming, is_over, initial_state}
use Rattle.daide_protocol.specs.Wires.{SessionView, queued, front_of, has_answer, room_of, no_frame, is_closed}
use Rattle.daide_protocol.proofs.FramesHeard.{waited_for}
use Rattle.daide_io.specs.declared.ports.Put.TheVariants.{Took}
use Rattle.daide_io.specs.Network.{NetworkCall}
use Rattle.daide_io.specs.Ports.{PortCall, Pulled, Offered, events_of}
use Rattle.daide_io.specs.ReadyQueue.{is_among, is_queued}
use Rattle.daide_io.specs.Streams.{StreamCall}
use Rattle.daide_io.specs.System.{SystemCall, Polls}
use Rattle.daide_driver.specs.declared.place.SlabPlace.TheVariants.{Held}
use Rattle.daide_driver.specs.Slab.{IfHeldAt, SlotView}
use Rattle.daide_settings.specs.declared.settings.Settings.{Settings}
use Rattle.daide_event_loop.specs.Serving.{Round}
use Rattle.daide_event_loop.specs.Served.{run_limits}
use Rattle.daide_event_loop.specs.Waiting.{MakesNoProgress, IsOfTurn, IsIdleSession}
use Rattle.daide_sockets.specs.Table.{arming_all}
use Rattle.daide_sockets.specs.Table.{Table, IsPollTime, deadline_at}
use Rattle.daide_sockets.specs.Timers.{SessionTimers}
use Rattle.daide_sockets.specs.Clock.{is_past}
use Rattle.daide_sockets.specs.Wakeups.{SessionSockets, KeepsPlace, session_due}
use Rattle.daide_run_laws.specs.FreedPlaces.{IsTimed, HasDeadline, NoSessionWaitsForEver}
use Rattle.daide_run_laws.proofs.AsleepLemmas.{RestsAt, rests_at, ends_by, none_waits}
use Rattle.daide_run_laws.proofs.BegunSessions.{set_time, seconds_last, begun_with, begins_with_both}
use Rattle.daide_run_laws.proofs.Deadlines.{IsAwake, IsHeld, IsStalling, awake_found, awake_stays, held_found, held_stays, due_there, kept_from}
use Rattle.daide_run_laws.proofs.OpenSessions.{rounds_open}
use Rattle.daide_run_laws.proofs.RestLemmas.{IsQuiet, no_tries}
use Rattle.daide_run_laws.proofs.TimedSessions.{PortsSetTimers, own, BeginsTimed, IsTimedNow, begins_timed, history_timed}
use Rattle.daide_run_laws.proofs.TurnSettled.{PortsSettle}

-- ---- what a session waits for

-- a session that is not closed has room for bytes of a side, or bytes for one
abbrev WaitsForSome : SessionView → Type 0
WaitsForSome g = ((side : Side) × (0 < room_of g side)) ⊎ ((side : Side) × (no_frame (queued g side) ≡ false))

abbrev room_by : SessionState → List Sent → List Sent → ℕ
room_by state bots servers =
    if is_over state.phase || (has_answer Bot bots || has_answer Bot servers) then 0
    else missing state.limits.cap (coming state Bot).pending

room_is : (g : SessionView) → room_of g Bot ≡ room_by g.state (queued g Bot) (queued g Server)
unfolding room_of
room_is g = refl

room_free : (state : SessionState) (bots servers : List Sent) → is_over state.phase ≡ false → has_answer Bot bots ≡ false →
    has_answer Bot servers ≡ false → room_by state bots servers ≡ missing state.limits.cap (coming state Bot).pending
room_free state bots servers over one two = rw (over, one, two) refl

answers_none : (frames : List Sent) → no_frame frames ≡ true → has_answer Bot frames ≡ false
answers_none [] e = refl
answers_none (frame ∷ frames) e = absurd (cc)

waits_for_some : (limits : Limits) (events : List Event) (effects : List Effect) (g : SessionView) →
    Runs (initial_state limits) events effects g.state → is_closed g ≡ false → WaitsForSome g
waits_for_some limits events effects g run going =
    by (no_frame (queued g Bot)) refl (no_frame (queued g Server)) refl (is_over g.state.phase) refl
  where
    by : (bot : Bool) → no_frame (queued g Bot) ≡ bot → (server : Bool) → no_frame (queued g Server) ≡ server →
        (over : Bool) → is_over g.state.phase ≡ over → WaitsForSome g
    by false b server s over o = inr (Bot, b)
    by true b false s over o = inr (Server, s)
    by true b true s true o =
        let closed : is_closed g ≡ true = rw (o, b, s) refl in absurd (cc)
    by true b true s false o =
        let room : room_of g Bot ≡ missing g.state.limits.cap (coming g.state Bot).pending =
        room_is g ∙ room_free g.state (queued g Bot) (queued g Server) o (answers_none (queued g Bot) b) (answers_none (queued g Server) s) in
        let some = waited_for events limits effects g.state run o Bot in
        inl (Bot, omega (arith, room, some))

module _ {P S : Type 0} (port_transition : P → PortCall → P → Type 0) (timers : P → SessionTimers S)
    (settles : PortsSettle port_transition (λ ports. (timers ports).sockets)) (keeps : PortsSetTimers port_transition timers) where
  -- what a session at rest waits for, by its last turn
  one_due : (idle stall : Duration) (place : SlotView P) → IsIdleSession port_transition place →
      ((side : Side) → (own (timers place.ports) side).tries_again ≡ false) →
      (t : IsTimedNow idle stall (timers place.ports)) → WaitsForSome place.session →
      (due : Instant) × (session_due (timers place.ports).sockets ≡ Some due)
      × (instant_nanos due ≤ instant_nanos t.now + max (as_nanos idle) (as_nanos stall))
  one_due idle stall place idling once t some = due_there idle stall (timers place.ports) t
      (⊎_elim (λ (r : (side : Side) × (0 < room_of place.session side)). inl (r.0, awake r.0 r.1))
      (λ (q : (side : Side) × (no_frame (queued place.session side) ≡ false)). inr (q.0, stalling q.0 q.1)) some)
    where
      awake : (side : Side) → 0 < room_of place.session side → IsAwake side (timers place.ports)
      awake side room =
          let pulled = idling.pulled side room in
          let call = pulled.2 in
          kept_from port_transition (λ (ports : P). IsAwake side (timers ports))
          (λ (c : PortCall) (a b : P) (h : port_transition a c b) (still : MakesNoProgress c) (made : IsOfTurn c)
          (k : IsAwake side (timers a)). awake_stays side c (timers a) (timers b) made (keeps a b c h) k)
          (Pulled side (min (room_of place.session side) 512) pulled.0 pulled.1)
          (λ (a b : P) (h : port_transition a (Pulled side (min (room_of place.session side) 512) pulled.0 pulled.1) b)
          (still : MakesNoProgress (Pulled side (min (room_of place.session side) 512) pulled.0 pulled.1))
          (made : IsOfTurn (Pulled side (min (room_of place.session side) 512) pulled.0 pulled.1)).
          awake_found side (min (room_of place.session side) 512) pulled.0 pulled.1 (timers a) (timers b)
          (keeps a b (Pulled side (min (room_of place.session side) 512) pulled.0 pulled.1) h) still)
          idling.turn call.0 call.1 call.2 idling.begun place.ports idling.evolves idling.still idling.made

      stalling : (side : Side) → no_frame (queued place.session side) ≡ false →
          IsStalling (timers place.ports).sockets.reading (own (timers place.ports) side)
      stalling side frames =
          let call = idling.offered side frames in
          ⊎_elim (λ (again : (own (timers place.ports) side).tries_again ≡ true). let other = once side in absurd (cc))
          (λ (held : ((own (timers place.ports) side).readiness.may_write ≡ false)
          × IsStalling (timers place.ports).sockets.reading (own (timers place.ports) side)). held.1)
          (kept_from port_transition (λ (ports : P). IsHeld side (timers ports))
          (λ (c : PortCall) (a b : P) (h : port_transition a c b) (still : MakesNoProgress c) (made : IsOfTurn c)
          (k : IsHeld side (timers a)). held_stays c (timers a) (timers b) (settles a b c h) (keeps a b c h) still made side k)
          (Offered side (front_of place.session side) (Took 0))
          (λ (a b : P) (h : port_transition a (Offered side (front_of place.session side) (Took 0)) b)
          (still : MakesNoProgress (Offered side (front_of place.session side) (Took 0)))
          (made : IsOfTurn (Offered side (front_of place.session side) (Took 0))).
          held_found side (front_of place.session side) (timers a) (timers b)
          (settles a b (Offered side (front_of place.session side) (Took 0)) h)
          (keeps a b (Offered side (front_of place.session side) (Took 0)) h) made)
          idling.turn call.0 call.1 call.2 idling.begun place.ports idling.evolves idling.still idling.made)

  one_deadline : (settings : Settings) (calls : List (SystemCall P)) (table : Table) (others : List (Bool × Option Instant))
      (time : Option Duration) (place : ℕ) (held : SlotView P) →
      IsPollTime true (arming_all table others) time →
      RestsAt port_transition table place held (timers held.ports).sockets → is_closed held.session ≡ false → (idle stall : Duration) →
      (timed : IsTimed port_transition timers settings calls idle stall held) →
      BeginsTimed idle stall (timers timed.session.ports) → HasDeadline idle stall table time (timers held.ports)
  one_deadline settings calls table others time place held lasts rests going idle stall timed begins =
      let run = timed.session.stands.0.sends.run in
      let some = waits_for_some (run_limits settings) (events_of timed.session.history) timed.session.stands.0.sends.effects
      held.session run going in
      let now : IsTimedNow idle stall (timers held.ports) =
      history_timed idle stall port_transition timers keeps timed.session.history timed.session.ports held.ports
      timed.session.answered timed.clock (begins_timed idle stall (timers timed.session.ports) begins) in
      let due = one_due idle stall held rests.idle (no_tries table place (timers held.ports).sockets rests.quiet) now some in
      record {
        due = due.0;
        now = now.now;
        is = due.1;
        reading = now.reading.read;
        within = due.2;
        ends = λ at read. ends_by table others time place (timers held.ports).sockets lasts rests.bounded rests.quiet at due.0 read due.1;
      }

  -- a place that keeps its deadline, which is not past, has a session whose deadline is not past
  one_late : (old new : Table) (woken : List ℕ) (place : ℕ) (session : SessionSockets S) → IsQuiet old place session →
      (is_among place woken ≡ false → KeepsPlace old place new × (is_past new.reading (deadline_at new place) ≡ false)) →
      is_past new.reading (session_due session) ≡ true → is_among place woken ≡ true
  one_late old new woken place session quiet asleep late = by (is_among place woken) refl
    where
      by : (among : Bool) → is_among place woken ≡ among → is_among place woken ≡ true
      by true e = e
      by false e =
          let kept = asleep e in
          let early : is_past new.reading (session_due session) ≡ false =
          ap (λ (d : Option Instant). is_past new.reading d) (sym (kept.0.deadline ∙ quiet.due)) ∙ kept.1 in
          absurd (cc)

  pub no_session_waits : {N C : Type 0} (calls : S → Option (List StreamCall)) (network : N → NetworkCall C → N → Type 0) →
      NoSessionWaitsForEver port_transition timers calls network
  no_session_waits calls network = λ settings n before others may_block woken orders run next first old new begun last idles stalls
      times rounds round places sessions trace poll.
      let view : P → SessionSockets S = λ ports. (timers ports).sockets in
      let one = set_time settings.idle_seconds begun.times.0 times.0 idles in
      let other = set_time settings.stall_seconds begun.times.1 times.1 stalls in
      let both : begun.times ≡ (Some one.0, Some other.0) =
      ap (λ (t : Option Duration). (t, begun.times.1)) one.1 ∙ ap (λ (t : Option Duration). (Some one.0, t)) other.1 in
      let begins : (held : SlotView P) →
      (timed : IsTimed port_transition timers settings before one.0 other.0 held) →
      BeginsTimed one.0 other.0 (timers timed.session.ports) =
      λ held timed. let at = begun_with network timers timed.session.place timed.session.ports before begun last sessions
      timed.session.came in
      begins_with_both one.0 other.0 begun.times at.0 timed.start (timers timed.session.ports) both
      (seconds_last settings.idle_seconds one.0 one.2 idles) timed.begun at.1 in
      let at_rest : (place : ℕ) → is_queued run.ready place ≡ false → (held : SlotView P) →
      slice_get run.slab.places place ≡ Some (Held held) → RestsAt port_transition old.1 place held (view held.ports) =
      λ place queued held at. rests_at port_transition network calls view settings n before run first old place held rounds places
      trace queued at in
      let at_block : (is : Bool) → is ≡ true → IsPollTime is (arming_all old.1 poll.1.0) poll.1.1.time →
      Round port_transition run (Polls is woken orders ∷ others) next → (place : ℕ) → IfHeldAt run.slab.places place (λ held.
      IsTimed port_transition timers settings before one.0 other.0 held →
      HasDeadline one.0 other.0 old.1 poll.1.1.time (timers held.ports)) =
      λ is yes lasts again place held at timed.
      one_deadline settings before old.1 poll.1.0 poll.1.1.time place held
      (subst (λ (b : Bool). IsPollTime b (arming_all old.1 poll.1.0) poll.1.1.time) yes lasts)
      (at_rest place (none_waits port_transition woken orders others run next
      (subst (λ (b : Bool). Round port_transition run (Polls b woken orders ∷ others) next) yes again) place) held at)
      (rounds_open port_transition settings n before run rounds place held at) one.0 other.0 timed (begins held timed) in
      record {
        idle = one.0;
        stall = other.0;
        idle_lasts = one.2;
        stall_lasts = other.2;
        others = poll.1.0;
        polls = poll.1.1;
        deadlines = λ yes. at_block may_block yes poll.1.1.lasts round;
        late = λ place queued held at.
            (let rests = at_rest place queued held at in
            one_late old.1 new.1 woken place (view held.ports) rests.quiet (poll.1.1.asleep place rests.inside));
      }
