-- A refused message, and the run without it.
use Rattle.std.specs.Prelude.{◌≡◌, ℕ, List, [], ◌∷◌, ◌++◌, if◌then◌else◌}
use Rattle.daide_frame.specs.declared.side.Side.{Side}
use Rattle.daide_grammar.specs.declared.level.Level.{Level}
use Rattle.daide_protocol.specs.declared.note.Deed.TheVariants as Deeds
use Rattle.daide_protocol.specs.declared.note.Note.{Note}
use Rattle.daide_protocol.specs.declared.note.Note.TheVariants as Notes
use Rattle.daide_frame.specs.Side.{other, same_side}
use Rattle.daide_protocol.specs.Events.{Event, Comes, Ends, Loses, ImTimerExpired, OperatorStops}
use Rattle.daide_protocol.specs.Machine.{Limits, SessionState, Effect, Transition, Runs, coming, with_noted, initial_state}
use Rattle.daide_protocol.specs.Wires.{sent_to}
use Rattle.daide_protocol.specs.Heard.{items_heard}
use Rattle.daide_protocol.specs.Fates.{frames_among}

-- the events without the bytes from one of the sides
abbrev pub without_bytes : Side → List Event → List Event
without_bytes side [] = []
without_bytes side (Comes from byte ∷ events) =
    if same_side from side then without_bytes side events else Comes from byte ∷ without_bytes side events
without_bytes side (Ends from ∷ events) = Ends from ∷ without_bytes side events
without_bytes side (Loses from ∷ events) = Loses from ∷ without_bytes side events
without_bytes side (ImTimerExpired ∷ events) = ImTimerExpired ∷ without_bytes side events
without_bytes side (OperatorStops ∷ events) = OperatorStops ∷ without_bytes side events

-- an effect reports that a message got PRN or HUH
abbrev pub IsRefusal : Note → Type 0
IsRefusal Notes.Nothing = ⊥
IsRefusal (Notes.Frame head Deeds.Relayed) = ⊥
IsRefusal (Notes.Frame head Deeds.Dropped) = ⊥
IsRefusal (Notes.Frame head Deeds.Prn) = Unit {0}
IsRefusal (Notes.Frame head (Deeds.Huh place)) = Unit {0}
IsRefusal (Notes.Fault code) = ⊥
IsRefusal Notes.Stopped = ⊥

-- A run in which a side's message is refused. Before its first byte nothing of the side's next frame is pending. Its
-- bytes arrive, perhaps with bytes from the other side between them, and no frame from the side is completed. With one
-- more byte one is, and is refused. Then the run continues.
pub record HasRefused (limits : Limits) (side : Side) (before between : List Event) (byte : ℕ) (after : List Event)
    (first among : List Effect) (refusal : Effect) (last : List Effect) (new : SessionState) : Type 0 where
  pub begun : SessionState
  pub come : SessionState
  pub answered : SessionState
  pub first_run : Runs (initial_state limits) before first begun
  pub fresh : (coming begun side).pending ≡ []
  pub among_run : Runs begun between among come
  pub no_frame : frames_among (items_heard side begun between among come among_run) ≡ []
  pub step : Transition come (Comes side byte) (refusal ∷ []) answered
  pub refused : IsRefusal refusal.reported
  pub last_run : Runs answered after last new

-- Without the message the run has the same effects except the refusal, and ends in the same state, except for the level
-- recorded for the side. The refusal sends nothing to the other side, so that side gets the same frames.
pub record IsAsIfUnsent (limits : Limits) (side : Side) (before between after : List Event)
    (first among : List Effect) (refusal : Effect) (last : List Effect) (new : SessionState) : Type 0 where
  pub noted : Level
  pub run : Runs (initial_state limits) (before ++ (without_bytes side between ++ after)) (first ++ (among ++ last))
      (with_noted new side noted)
  pub sent : sent_to (other side) (first ++ (among ++ (refusal ∷ last))) ≡ sent_to (other side) (first ++
      (among ++ last))

-- the frames sent to the other side do not depend on a refused message
abbrev pub ASideHarmsItselfAlone : Type 0
ASideHarmsItselfAlone = (limits : Limits) (side : Side) (before between : List Event) (byte : ℕ) (after : List Event)
    (first among : List Effect) (refusal : Effect) (last : List Effect) (new : SessionState) →
    HasRefused limits side before between byte after first among refusal last new →
    IsAsIfUnsent limits side before between after first among refusal last new
