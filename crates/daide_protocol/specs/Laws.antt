-- The laws of all runs of the machine.
use Rattle.std.specs.Prelude.{◌≡◌, ℕ, ◌<◌, true, false, List, [], ◌++◌, is_some}
use Rattle.daide_frame.specs.declared.side.Side.{Side}
use Rattle.daide_frame.specs.Frames.{FrameEvent, frame_events_of, cut, missing}
use Rattle.daide_protocol.specs.Events.{Event, bytes_come}
use Rattle.daide_protocol.specs.Machine.{Limits, SessionState, Effect, Transition, Runs, coming, is_over, initial_state, ending_in}
use Rattle.daide_protocol.specs.Summary.{nothing_counted, tallied, reduced}
use Rattle.daide_protocol.specs.declared.account.Account.{Account}
use Rattle.daide_protocol.specs.Account.{nothing_accounted, accounted, summary_of}
use Rattle.daide_protocol.specs.declared.phase.SessionPhase.TheVariants.{Open}
use Rattle.daide_grammar.specs.declared.level.Level.{Level}
use Rattle.daide_protocol.specs.Counts.{frames_counted}
use Rattle.daide_protocol.specs.Wires.{SessionView, IsNew, queued, sent_to, sent_bytes}
use Rattle.daide_protocol.specs.Calls.{Call, AreCalls, Delivers, events_of_calls, taken_by, some_call_fails}
use Rattle.daide_protocol.specs.Heard.{bytes_from, items_heard}
use Rattle.daide_protocol.specs.Ended.{IsEndedBy}

-- Every state has a transition at every event: each message has a verdict, and each row of the table an outcome. The
-- law is for limits without an operator's words, since the table for such words is in a later crate. (own)
abbrev pub EachEventHasATransition : Type 0
EachEventHasATransition = (old : SessionState) (event : Event) → old.limits.words ≡ [] →
    (effects : List Effect) × (new : SessionState) × Transition old event effects new

-- so each list of events has a run from each state
abbrev pub EventsHaveARun : Type 0
EventsHaveARun = (old : SessionState) (events : List Event) → old.limits.words ≡ [] →
    (effects : List Effect) × (new : SessionState) × Runs old events effects new

-- a state and events have one run, so the bytes for each wire are a function of them
abbrev pub AnswersAreUnique : Type 0
AnswersAreUnique = (old : SessionState) (events : List Event) (a b : List Effect) (new other : SessionState) →
    Runs old events a new → Runs old events b other → (a ≡ b) × (new ≡ other)

-- two runs in sequence are a run of the concatenated events
abbrev pub RunsJoin : Type 0
RunsJoin = (events more : List Event) (old mid new : SessionState) (a b : List Effect) →
    Runs old events a mid → Runs mid more b new → Runs old (events ++ more) (a ++ b) new

-- the bytes sent by two runs in sequence are those of the first, then those of the second
abbrev pub AnswersJoin : Type 0
AnswersJoin = (side : Side) (a b : List Effect) →
    sent_bytes (sent_to side (a ++ b)) ≡ sent_bytes (sent_to side a) ++ sent_bytes (sent_to side b)

-- two pieces from a side are the same events as their concatenation
abbrev pub PiecesDoNotMatter : Type 0
PiecesDoNotMatter = (side : Side) (piece more : List ℕ) →
    bytes_come side (piece ++ more) ≡ bytes_come side piece ++ bytes_come side more

-- For any calls in any order, each wire gets the frames of the run of all events: each once, and in order.
abbrev pub CallsDeliverTheAnswers : Type 0
CallsDeliverTheAnswers = (old new : SessionView) (calls : List Call) → AreCalls old calls new → Delivers old calls new

-- so from a session's start to any time, the bytes that a wire took and those still queued are the machine's frames
abbrev pub EachWireGetsTheAnswers : Type 0
EachWireGetsTheAnswers = (limits : Limits) (old new : SessionView) (calls : List Call) → IsNew limits old →
    AreCalls old calls new → (effects : List Effect) × Runs (initial_state limits) (events_of_calls calls) effects new.state
    × ((side : Side) → some_call_fails side calls ≡ false →
    taken_by side calls ++ sent_bytes (queued new side) ≡ sent_bytes (sent_to side effects))

-- Sessions with the same limits and the same events are in the same state. For each wire, the bytes taken and those
-- still queued are the same, whatever the pieces of the bytes and the speed of the wires.
abbrev pub OnlyEventsMatter : Type 0
OnlyEventsMatter = (limits : Limits) (one other one_new other_new : SessionView) (calls more : List Call) →
    IsNew limits one → IsNew limits other → AreCalls one calls one_new → AreCalls other more other_new →
    events_of_calls calls ≡ events_of_calls more → (one_new.state ≡ other_new.state)
    × ((side : Side) → some_call_fails side calls ≡ false → some_call_fails side more ≡ false →
    taken_by side calls ++ sent_bytes (queued one_new side) ≡ taken_by side more ++ sent_bytes (queued other_new side))

-- once over, a session sends nothing and stays over, whatever happens
abbrev pub NothingAfterTheEnd : Type 0
NothingAfterTheEnd = (old new : SessionState) (events : List Event) (effects : List Effect) →
    is_over old.phase ≡ true → Runs old events effects new → (effects ≡ []) × (new ≡ old)

-- from a session's start to any time: its ending is known exactly if it is over, and it is that of the first event that
-- ended it
abbrev pub EndingIsKnown : Type 0
EndingIsKnown = (limits : Limits) (events : List Event) (effects : List Effect) (new : SessionState) →
    Runs (initial_state limits) events effects new →
    (is_some (ending_in new.phase) ≡ is_over new.phase)
    × (is_over new.phase ≡ true → IsEndedBy (initial_state limits) events new)

-- in any run a session counts the frames that it sent to both sides, modulo 2^64
abbrev pub CountsAreTheMoves : Type 0
CountsAreTheMoves = (old : SessionState) (events : List Event) (effects : List Effect) (new : SessionState) →
    Runs old events effects new → tallied effects nothing_counted ≡ reduced (frames_counted effects)

-- in any run, and from any account, the counts of the two sides together are the counts of all effects
abbrev pub SidesAddUp : Type 0
SidesAddUp = (old : SessionState) (events : List Event) (effects : List Effect) (new : SessionState) →
    Runs old events effects new → (a : Account) →
    summary_of (accounted old.limits.top_level effects a) ≡ tallied effects (summary_of a)

-- from a session's start, while it is open: the level of its account is that of its phase
abbrev pub LevelIsKept : Type 0
LevelIsKept = (limits : Limits) (events : List Event) (effects : List Effect) (new : SessionState) (level : Level) →
    Runs (initial_state limits) events effects new → new.phase ≡ Open level →
    (accounted limits.top_level effects nothing_accounted).level ≡ level

-- The headers, frames and faults from a side that a session uses are those of the cut of all the bytes from that side:
-- every one while it is not over, and those before its end once it is.
abbrev pub FramesAreThoseOfTheCut : Type 0
FramesAreThoseOfTheCut = (side : Side) (limits : Limits) (events : List Event) (effects : List Effect)
    (new : SessionState) (run : Runs (initial_state limits) events effects new) →
    (later : List FrameEvent)
    × (frame_events_of (cut limits.cap (bytes_from side events))
    ≡ items_heard side (initial_state limits) events effects new run ++ later)
    × (is_over new.phase ≡ false → later ≡ [])

-- a session that is not over is missing bytes from each side: no whole frame is left unprocessed
abbrev pub EachSideIsWaitedFor : Type 0
EachSideIsWaitedFor = (side : Side) (limits : Limits) (events : List Event) (effects : List Effect)
    (new : SessionState) → Runs (initial_state limits) events effects new →
    is_over new.phase ≡ false → 0 < missing new.limits.cap (coming new side).pending
