-- A sequence of calls of a session, each by its contract, and their result: the events, and the bytes that each wire
-- took.
use Rattle.std.specs.Prelude.{◌≡◌, ℕ, Bool, true, false, ◌||◌, List, [], ◌∷◌, ◌++◌, length, if◌then◌else◌}
use Rattle.daide_frame.specs.declared.side.Side.{Side}
use Rattle.daide_protocol.specs.declared.note.Note.{Note}
use Rattle.daide_protocol.specs.Events.{Event, Ends, Loses, ImTimerExpired, OperatorStops, bytes_come}
use Rattle.daide_protocol.specs.Machine.{Sent, Effect, Runs}
use Rattle.daide_frame.specs.Side.{same_side}
use Rattle.daide_protocol.specs.Wires.{SessionView, Refines, Lost, Wrote, account_after, queued, sent_to, sent_bytes}

-- a call that changes a session
pub data Call : Type 0 where
  Feeds : (side : Side) → (piece : List ℕ) → Call  -- `feed`: bytes of a side came
  Stops : (side : Side) → Call  -- `ended`: a side's stream ended
  TimesOut : Call  -- `im_timeout`: the time for the IM is over
  Terminates : Call  -- `stop`: the operator stopped the session
  Fails : (side : Side) → Call  -- `lost`: the wire toward a side failed
  Puts : (side : Side) → (bytes : List ℕ) → Call  -- `wrote`: the wire toward a side took these bytes

-- the bytes of the first queued frame
abbrev pub first_bytes : List Sent → List ℕ
first_bytes [] = []
first_bytes (frame ∷ frames) = frame.bytes

-- one call took a session from old to new, by its contract; a wire takes a prefix of its first frame
abbrev pub IsCall : SessionView → Call → SessionView → Type 0
IsCall old (Feeds side piece) new = (reported : Note) × Refines old (bytes_come side piece) reported new
IsCall old (Stops side) new = (reported : Note) × Refines old (Ends side ∷ []) reported new
IsCall old TimesOut new = (reported : Note) × Refines old (ImTimerExpired ∷ []) reported new
IsCall old Terminates new = (reported : Note) × Refines old (OperatorStops ∷ []) reported new
IsCall old (Fails side) new = Lost old side new
IsCall old (Puts side bytes) new =
    ((rest : List ℕ) × (first_bytes (queued old side) ≡ bytes ++ rest)) × Wrote old side (length bytes) new

-- the effect of these calls, in order
abbrev pub AreCalls : SessionView → List Call → SessionView → Type 0
AreCalls old [] new = new ≡ old
AreCalls old (call ∷ calls) new = (mid : SessionView) × IsCall old call mid × AreCalls mid calls new

-- the events of these calls
abbrev pub events_of_calls : List Call → List Event
events_of_calls [] = []
events_of_calls (Feeds side piece ∷ calls) = bytes_come side piece ++ events_of_calls calls
events_of_calls (Stops side ∷ calls) = Ends side ∷ events_of_calls calls
events_of_calls (TimesOut ∷ calls) = ImTimerExpired ∷ events_of_calls calls
events_of_calls (Terminates ∷ calls) = OperatorStops ∷ events_of_calls calls
events_of_calls (Fails side ∷ calls) = Loses side ∷ events_of_calls calls
events_of_calls (Puts side bytes ∷ calls) = events_of_calls calls

-- the bytes that the wire to a side took in these calls
abbrev pub taken_by : Side → List Call → List ℕ
taken_by side [] = []
taken_by side (Feeds from piece ∷ calls) = taken_by side calls
taken_by side (Stops from ∷ calls) = taken_by side calls
taken_by side (TimesOut ∷ calls) = taken_by side calls
taken_by side (Terminates ∷ calls) = taken_by side calls
taken_by side (Fails to ∷ calls) = taken_by side calls
taken_by side (Puts to bytes ∷ calls) = if same_side to side then bytes ++ taken_by side calls else taken_by side calls

-- whether the wire to a side failed in these calls
abbrev pub some_call_fails : Side → List Call → Bool
some_call_fails side [] = false
some_call_fails side (Feeds from piece ∷ calls) = some_call_fails side calls
some_call_fails side (Stops from ∷ calls) = some_call_fails side calls
some_call_fails side (TimesOut ∷ calls) = some_call_fails side calls
some_call_fails side (Terminates ∷ calls) = some_call_fails side calls
some_call_fails side (Fails to ∷ calls) = same_side to side || some_call_fails side calls
some_call_fails side (Puts to bytes ∷ calls) = some_call_fails side calls

-- The session followed the machine, its effects are counted, and each wire got the machine's frames. The bytes that a
-- wire took and those still queued are the bytes queued at first and the frames of the run. The bytes that a failed
-- wire took are a prefix of these, and its queue is empty.
pub record Delivers (old : SessionView) (calls : List Call) (new : SessionView) : Type 0 where
  pub effects : List Effect
  pub run : Runs old.state (events_of_calls calls) effects new.state
  pub counts : new.account ≡ account_after old effects
  pub delivered : (side : Side) → some_call_fails side calls ≡ false →
      taken_by side calls ++ sent_bytes (queued new side) ≡ sent_bytes (queued old side ++ sent_to side effects)
  pub cut_off : (side : Side) → some_call_fails side calls ≡ true → (queued new side ≡ [])
      × ((rest : List ℕ) × (taken_by side calls ++ rest ≡ sent_bytes (queued old side ++ sent_to side effects)))
