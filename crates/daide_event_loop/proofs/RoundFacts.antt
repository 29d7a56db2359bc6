-- The progress of a turn, the cause and the report of an ending, the counters, and how a round begins. The expected values are
-- independent of the definitions, so a result in place of its neighbour does not check.
use Rattle.std.proofs.Common.{◌≡◌, ℕ, ◌+◌, true, false, List, [], Bool, ◌∷◌, map, replicate, Some, None, Option, refl}
use Rattle.std.specs.List.{range_with_len}
use Rattle.daide_frame.specs.declared.side.Side.{Side}
use Rattle.daide_frame.specs.declared.side.Side.TheVariants.{Bot, Server}
use Rattle.daide_frame.specs.declared.code.Code.TheVariants.{SecondRm}
use Rattle.daide_frame.specs.PerSide.{both}
use Rattle.daide_protocol.specs.declared.ending.Ending.TheVariants.{Ended, Lost, Final, Error, Fault, Stopped}
use Rattle.daide_protocol.specs.declared.account.Account.{Account}
use Rattle.daide_protocol.specs.declared.account.SideCounts.{SideCounts}
use Rattle.daide_protocol.specs.declared.bot_name.BotName.TheVariants.{Unknown}
use Rattle.daide_protocol.specs.declared.phase.Phase.TheVariants as Phases
use Rattle.daide_protocol.specs.declared.phase.SessionPhase.{SessionPhase}
use Rattle.daide_protocol.specs.declared.phase.SessionPhase.TheVariants.{WaitIm, Open, Over}
use Rattle.daide_protocol.specs.Machine.{Limits, Sent, fm_bytes, initial_state, level_in, with_pending}
use Rattle.daide_protocol.specs.Wires.{SessionView, sent_bytes}
use Rattle.daide_io.specs.declared.ports.ClockEvent.TheVariants.{NoEvent, ImTimeIsOver, StopIsRequested}
use Rattle.daide_io.specs.declared.ports.Pull.TheVariants.{Got, Idle, Ended}
use Rattle.daide_io.specs.declared.ports.Put.TheVariants.{Took, Failed}
use Rattle.daide_driver.specs.Headline.{nothing_held}
use Rattle.daide_io.specs.Ports.{PortCall, TurnBegins, Clock, Pulled, Offered}
use Rattle.daide_io.specs.declared.system.Notice.TheVariants.{TurnsSpent}
use Rattle.daide_io.specs.declared.system.Cause.TheVariants as Causes
use Rattle.daide_io.specs.declared.fault_field.FaultField.TheVariants as Fields
use Rattle.daide_io.specs.declared.byte_counts.ByteCounts.{ByteCounts}
use Rattle.daide_io.specs.ByteCounts.{no_bytes, counted_after}
use Rattle.daide_io.specs.FaultField.{fault_field_of}
use Rattle.daide_driver.specs.declared.meter.Meter.{Meter}
use Rattle.daide_driver.specs.Slab.{SlotView}
use Rattle.daide_driver.specs.Meter.{moved_after, left_after, is_stopped_by, with_turn_begun, metered}
use Rattle.daide_event_loop.specs.Served.{turns_in, while_left}
use Rattle.daide_settings.specs.declared.settings.Settings.{Settings}
use Rattle.daide_event_loop.specs.declared.admission_counters.AdmissionCounters.{AdmissionCounters}
use Rattle.daide_driver.specs.declared.place.SlabPlace.{SlabPlace}
use Rattle.daide_driver.specs.declared.place.SlabPlace.TheVariants as Places
use Rattle.daide_event_loop.specs.Serving.{ServiceView, is_done, is_queue_empty, have_all_come, has_room, sessions_in, pending_in}
use Rattle.daide_settings.specs.BotsInAll.{bots_in_all}
use Rattle.daide_event_loop.specs.Serving.{cause_of, ending_within, retirement, end_of, heeding, opening}
use Rattle.daide_io.specs.System.{Polls, Shows, Retires, Notifies, no_orders}

-- ---- progress

-- whether there was progress after a call, if there was some before it or not
abbrev progress_after : PortCall → Bool → Bool
progress_after call before = (moved_after call (record { made_progress = before; bytes = no_bytes })).made_progress

-- zero bytes received or sent are no progress; a byte is, and so are an end, a failure, an expired IM timer and a stop
no_bytes_are_no_move : (side : Side) → (progress_after (Pulled side 512 (Got 0) []) false ≡ false)
    × (progress_after (Pulled side 512 Idle []) false ≡ false)
    × (progress_after (Offered side (0x02 ∷ []) (Took 0)) false ≡ false) × (progress_after (Clock NoEvent) false ≡ false)
no_bytes_are_no_move side = (refl, refl, refl, refl)

moves : (side : Side) → (progress_after (Pulled side 512 Ended []) false ≡ true)
    × (progress_after (Offered side (0x02 ∷ []) Failed) false ≡ true) × (progress_after (Clock ImTimeIsOver) false ≡ true)
    × (progress_after (Clock StopIsRequested) false ≡ true)
    × (map (λ n. progress_after (Pulled side 512 (Got n) []) false) (range_with_len 0 513) ≡ false ∷ replicate 512 true)
    × (map (λ n. progress_after (Offered side [] (Took n)) false) (range_with_len 0 513) ≡ false ∷ replicate 512 true)
moves side = (refl, refl, refl, refl, refl, refl)

-- a meter with this many turns left, and these bytes, after a turn with progress
abbrev moving : Option ℕ → ByteCounts → Meter
moving left counts = record { turns_left = left; moved = record { made_progress = true; bytes = counts } }

-- whether a turn of these calls made progress, after one that did
abbrev progress_of : List PortCall → Bool
progress_of calls = (metered false calls (moving (Some 2) no_bytes)).moved.made_progress

-- progress stays until the next turn begins
moves_stay : (side : Side) → (progress_after (Pulled side 512 Idle []) true ≡ true)
    × (progress_after (Pulled side 512 (Got 0) []) true ≡ true)
    × (progress_after (Offered side (0x02 ∷ []) (Took 0)) true ≡ true) × (progress_after (Clock NoEvent) true ≡ true)
    × ((with_turn_begun false (moving (Some 2) no_bytes)).moved.made_progress ≡ false)
    × (progress_of (Clock NoEvent ∷ Offered side (0x02 ∷ []) (Took 0) ∷ Pulled side 4 Idle [] ∷ []) ≡ false)
    × (progress_of (Clock NoEvent ∷ Offered side (0x02 ∷ []) (Took 1) ∷ Pulled side 4 Idle [] ∷ []) ≡ true)
moves_stay side = (refl, refl, refl, refl, refl, refl, refl)

-- ---- turns

-- a turn takes one from the quota of an open session, and none from that of a session that is over
turns_taken : (left_after false (Some 2) ≡ Some 1) × (left_after false (Some 1) ≡ Some 0) × (left_after false (Some 0) ≡ None)
    × (left_after false None ≡ None) × (left_after true (Some 1) ≡ Some 1) × (left_after true (Some 0) ≡ Some 0)
turns_taken = (refl, refl, refl, refl, refl, refl)

-- only an open session without a turn left is stopped
turns_stop : (is_stopped_by false (moving (Some 0) no_bytes) ≡ true) × (is_stopped_by false (moving (Some 1) no_bytes) ≡ false)
    × (is_stopped_by true (moving (Some 0) no_bytes) ≡ false) × (is_stopped_by true (moving None no_bytes) ≡ false)
turns_stop = (refl, refl, refl, refl)

-- ---- the turns of a round

-- another visit fits into a round after 24 turns and not after 25; the last eight turns are those after 16
room_for_a_visit : (map has_room (0 ∷ 16 ∷ 17 ∷ 24 ∷ 25 ∷ 32 ∷ []) ≡ true ∷ true ∷ true ∷ true ∷ false ∷ false ∷ [])
    × (map (λ turns. has_room (turns + 8)) (0 ∷ 16 ∷ 17 ∷ 24 ∷ []) ≡ true ∷ true ∷ false ∷ false ∷ [])
room_for_a_visit = (refl, refl)

-- ---- the cause of an ending

-- the stop of a session whose turns were spent has these as its cause; any other ending is the cause itself
causes : (cause_of (ending_within (moving None no_bytes) (Some Stopped)) ≡ Causes.TurnsSpent)
    × (cause_of (ending_within (moving (Some 0) no_bytes) (Some Stopped)) ≡ Causes.Session Stopped)
    × (cause_of (ending_within (moving (Some 0) no_bytes) (Some (Final Server))) ≡ Causes.Session (Final Server))
causes = (refl, refl, refl)

-- ---- retirements

-- counts that all differ, and the highest level
abbrev frames : ℕ → SideCounts
frames n = record { relayed = n; prn = n + 1; huh = n + 2 }

abbrev counts : Limits → ℕ → Account
counts limits n = record {
  bot = frames n;
  server = frames (n + 3);
  faults = n + 6;
  level = limits.top_level;
  name = Unknown;
  power = None;
}

-- a session with a phase, counts, the header of an RM from the server, and frames queued for its bot
abbrev session : Limits → SessionPhase → ℕ → List Sent → SessionView
session limits phase n to_bot = record {
  state = with_pending (record (initial_state limits) { phase = phase }) Server (0x01 ∷ 0x00 ∷ 0x00 ∷ 0x00 ∷ []);
  wires = both to_bot [];
  parts = both (sent_bytes to_bot ∷ []) [];
  sides = both nothing_held nothing_held;
  account = counts limits n;
}

-- a session with an FM queued for its bot
abbrev queued : Limits → SessionView
queued limits = session limits (Over (Final Bot)) 20 (record { to = Bot; answers = None; bytes = fm_bytes } ∷ [])

-- counts of bytes that all differ
abbrev bytes : ℕ → ByteCounts
bytes n = record { from_bot = n; from_server = n + 10; to_bot = n + 20; to_server = n + 30 }

-- a session with ports identified by a number, with this many turns left
abbrev slot : SessionView → ℕ → Option ℕ → SlotView ℕ
slot session number left = record {
  session = session;
  ports = number;
  meter = record { turns_left = left; moved = record { made_progress = false; bytes = bytes number } };
}

-- the first ended by a fault, the second by a final message, and the third was open until its turns were spent
abbrev three : Limits → List (SlotView ℕ)
three limits =
    slot (session limits (Over (Fault Server SecondRm)) 10 []) 1 (Some 9) ∷ slot (queued limits) 2 (Some 9)
    ∷ slot (session limits (Over Stopped) 40 []) 4 None ∷ []

-- each with its own end, its own counts and its place
parted_from_their_places : (limits : Limits) →
    map (λ now. retirement 7 now.ports now.meter (end_of now)) (three limits)
    ≡ (Retires 7 1 (record {
      cause = Causes.Session (Fault Server SecondRm);
      account = counts limits 10;
      fault_field = Some (Fields.Kind 1);
    }) ∷ [])
    ∷ (Retires 7 2 (record { cause = Causes.Session (Final Bot); account = counts limits 20; fault_field = None }) ∷ [])
    ∷ (Notifies TurnsSpent ∷ Retires 7 4 (record { cause = Causes.TurnsSpent; account = counts limits 40; fault_field = None }) ∷ [])
    ∷ []
parted_from_their_places limits = refl

-- only a fault is about a field, though the server's frame is not whole
no_field_without_a_fault : (limits : Limits) →
    map (λ ending. fault_field_of (session limits (Over ending) 10 []).state)
    (Ended Server ∷ Lost Server ∷ Final Server ∷ Error Server ∷ Stopped ∷ Fault Server SecondRm ∷ Fault Bot SecondRm ∷ [])
    ≡ None ∷ None ∷ None ∷ None ∷ None ∷ Some (Fields.Kind 1) ∷ None ∷ []
no_field_without_a_fault limits = refl

-- ---- bytes

-- each count wraps at 2^64, and no other count changes
bytes_wrap : let most : ℕ = 18446744073709551615 in
    (counted_after (Pulled Bot 4 (Got 2) []) (record (bytes 5) { from_bot = most }) ≡ record (bytes 5) { from_bot = 1 })
    × (counted_after (Pulled Server 4 (Got 1) []) (record (bytes 5) { from_server = most }) ≡ record (bytes 5) { from_server = 0 })
    × (counted_after (Offered Bot [] (Took 3)) (record (bytes 5) { to_bot = most }) ≡ record (bytes 5) { to_bot = 2 })
    × (counted_after (Offered Server [] (Took 4)) (record (bytes 5) { to_server = most }) ≡ record (bytes 5) { to_server = 3 })
bytes_wrap = (refl, refl, refl, refl)

-- ---- turns that begin

-- of three turns the third is beyond a quota of two
turns_counted : (turns_in (TurnBegins ∷ Clock NoEvent ∷ TurnBegins ∷ Clock NoEvent ∷ TurnBegins ∷ Clock NoEvent ∷ []) ≡ 3)
    × (while_left 2 (TurnBegins ∷ Clock ImTimeIsOver ∷ TurnBegins ∷ Clock NoEvent ∷ TurnBegins ∷ Clock NoEvent ∷ [])
    ≡ TurnBegins ∷ Clock ImTimeIsOver ∷ TurnBegins ∷ Clock NoEvent ∷ [])
turns_counted = (refl, refl)

-- ---- the number of bots

-- an endless run does not look at the number of sessions
bots : (settings : Settings) → (bots_in_all (record settings { endless = false; sessions = 7 }) ≡ 7)
    × (bots_in_all (record settings { endless = true; sessions = 7 }) ≡ 4294967295)
    × (bots_in_all (record settings { endless = true; sessions = 1 }) ≡ 4294967295)
bots settings = (refl, refl, refl)

-- the counters of a run after this many bots were accepted
abbrev counted : Settings → ℕ → AdmissionCounters
counted settings accepted = record { sessions = bots_in_all settings; turns = 9; accepted = accepted }

-- After seven of seven bots all came. An endless run accepts the eighth, and so on up to the last number.
came_or_not : (settings : Settings) →
    (have_all_come (counted (record settings { endless = false; sessions = 7 }) 7) ≡ true)
    × (have_all_come (counted (record settings { endless = false; sessions = 7 }) 6) ≡ false)
    × (have_all_come (counted (record settings { endless = true; sessions = 7 }) 7) ≡ false)
    × (have_all_come (counted (record settings { endless = true; sessions = 7 }) 4294967294) ≡ false)
    × (have_all_come (counted (record settings { endless = true; sessions = 7 }) 4294967295) ≡ true)
came_or_not settings = (refl, refl, refl, refl, refl)

-- ---- a run

-- a run of seven bots with these places and this queue, after this many bots were accepted
abbrev run : Limits → Settings → ℕ → List (SlabPlace (SlotView ℕ)) → List ℕ → List ℕ → ServiceView ℕ
run limits settings accepted places fresh moving = record {
  slab = record { limits = limits; places = places };
  counters = counted (record settings { endless = false; sessions = 7 }) accepted;
  ready = record { fresh = fresh; moving = moving; places = 3 };
}

abbrev open_at_a_place : Limits → SlabPlace (SlotView ℕ)
open_at_a_place limits = Places.Held (slot (session limits (Open limits.top_level) 30 []) 3 (Some 9))

-- a run with a session, or with a connect that is pending, is not done, and neither is one that may accept a bot
done_or_not : (limits : Limits) (settings : Settings) →
    (is_done (run limits settings 7 (Places.Free ∷ Places.Free ∷ []) [] []) ≡ true)
    × (is_done (run limits settings 6 (Places.Free ∷ Places.Free ∷ []) [] []) ≡ false)
    × (is_done (run limits settings 7 (Places.Free ∷ Places.Kept ∷ []) [] []) ≡ false)
    × (is_done (run limits settings 7 (Places.Free ∷ open_at_a_place limits ∷ []) [] []) ≡ false)
done_or_not limits settings = (refl, refl, refl, refl)

used_places : (limits : Limits) (settings : Settings) →
    let slab = (run limits settings 7 (Places.Kept ∷ open_at_a_place limits ∷ Places.Free ∷ Places.Kept ∷ []) [] []).slab in
    (sessions_in slab ≡ 1) × (pending_in slab ≡ 2)
used_places limits settings = (refl, refl)

-- a poll may block only if both lists are empty
idle_or_not : (limits : Limits) (settings : Settings) →
    (is_queue_empty (run limits settings 7 [] [] []) ≡ true) × (is_queue_empty (run limits settings 7 [] (2 ∷ []) []) ≡ false)
    × (is_queue_empty (run limits settings 7 [] [] (2 ∷ [])) ≡ false)
idle_or_not limits settings = (refl, refl, refl)

-- ---- a round begins

-- each session with its own status and its own bytes, and none for a place without one: after the end the level is the
-- lowest, and an FM of four bytes is queued for the second bot
shown_in_order : (limits : Limits) (settings : Settings) →
    opening (2 ∷ []) (record { stops_accepting = false; shows_sessions = true })
    (run limits settings 7 (Places.Kept ∷ Places.Held (slot (queued limits) 2 (Some 9)) ∷ Places.Free ∷ open_at_a_place limits ∷ []) [] (1 ∷ []))
    ≡ Polls false (2 ∷ []) (record { stops_accepting = false; shows_sessions = true })
    ∷ Shows 2 (record { phase = Phases.Over; level = level_in WaitIm; account = counts limits 20; queued_to_bot = 4; queued_to_server = 0; bytes = bytes 2 })
    ∷ Shows 3 (record {
      phase = Phases.Open;
      level = limits.top_level;
      account = counts limits 30;
      queued_to_bot = 0;
      queued_to_server = 0;
      bytes = bytes 3;
    }) ∷ []
shown_in_order limits settings = refl

-- without orders a round begins with this one call, and heeds nothing
nothing_ordered : (limits : Limits) (settings : Settings) (counters : AdmissionCounters) →
    (opening [] no_orders (run limits settings 7 (open_at_a_place limits ∷ []) [] []) ≡ Polls true [] no_orders ∷ [])
    × (heeding no_orders counters ≡ counters)
nothing_ordered limits settings counters = (refl, refl)

-- told to stop with three of nine bots accepted, a run has three bots in all
ordered_to_stop :
    heeding (record { stops_accepting = true; shows_sessions = false }) (record { sessions = 9; turns = 7; accepted = 3 })
    ≡ record { sessions = 3; turns = 7; accepted = 3 }
ordered_to_stop = refl
