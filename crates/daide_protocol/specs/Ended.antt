-- What ends a session, by docs/PROTOCOL.md, "The session": the end of a stream or the loss of a wire, an FM, an EM, a
-- fault, the expiry of the IM timer, and a stop by the operator.
use Rattle.std.specs.Prelude.{◌≡◌, false, List, ◌∷◌, ◌++◌, Option, Some, None}
use Rattle.daide_frame.specs.declared.side.Side.{Side}
use Rattle.daide_frame.specs.declared.side.Side.TheVariants.{Bot}
use Rattle.daide_frame.specs.declared.head.Kind.{Kind}
use Rattle.daide_frame.specs.declared.head.Kind.TheVariants.{Im, Rm, Dm, Fm, Em}
use Rattle.daide_frame.specs.declared.code.Code.TheVariants.{ImTimeout}
use Rattle.daide_protocol.specs.declared.ending.Ending.{Ending}
use Rattle.daide_protocol.specs.declared.ending.Ending.TheVariants as Endings
use Rattle.daide_protocol.specs.Events.{Event, Comes, Ends, Loses, ImTimerExpired, OperatorStops}
use Rattle.daide_protocol.specs.Machine.{SessionState, Effect, Transition, Runs, is_over, ending_in}
use Rattle.daide_protocol.specs.Fates.{EventCause, Frame, Fault, End, Timeout, Stop, cause_at}

-- a whole frame from a side ends the session if it is an FM or an EM
abbrev pub frame_ending : Kind → Side → Option Ending
frame_ending Im side = None
frame_ending Rm side = None
frame_ending Dm side = None
frame_ending Fm side = Some (Endings.Final side)
frame_ending Em side = Some (Endings.Error side)

-- The ending by a frame or a fault, if it ends the session. An expired IM timer is a fault of the bot. The end of a
-- stream and a stop have no cause here.
abbrev pub cause_ending : Option EventCause → Option Ending
cause_ending None = None
cause_ending (Some (Frame side noted head body)) = frame_ending head.kind side
cause_ending (Some (Fault side code)) = Some (Endings.Fault side code)
cause_ending (Some (End side)) = None
cause_ending (Some Timeout) = Some (Endings.Fault Bot ImTimeout)
cause_ending (Some Stop) = None

-- the ending by an event, if it ends a session that is not over
abbrev pub ending_at : SessionState → Event → Option Ending
ending_at state (Comes side byte) = cause_ending (cause_at state (Comes side byte))
ending_at state (Ends side) = Some (Endings.Ended side)
ending_at state (Loses side) = Some (Endings.Lost side)
ending_at state ImTimerExpired = cause_ending (cause_at state ImTimerExpired)
ending_at state OperatorStops = Some Endings.Stopped

-- The first event that ended a run. Before it the session was not over. It made the state that the session has had
-- since, and its ending is the recorded one.
pub record IsEndedBy (first : SessionState) (events : List Event) (new : SessionState) : Type 0 where
  pub before : List Event
  pub event : Event
  pub after : List Event
  pub events_are : events ≡ before ++ event ∷ after
  pub old : SessionState
  pub moves_before : List Effect
  pub run_before : Runs first before moves_before old
  pub not_over : is_over old.phase ≡ false
  pub moves : List Effect
  pub step : Transition old event moves new
  pub ending : ending_in new.phase ≡ ending_at old event
