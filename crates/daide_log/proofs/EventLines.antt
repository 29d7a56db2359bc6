-- The events that have a line.
use Rattle.daide_log.proofs.Common.{◌≡◌, false, List, [], ◌∷◌, ℕ, length, Some, ◌==◌, Side, LogEvent, Received}
use Rattle.daide_log.specs.declared.record.RecordedEvent.{RecordedEvent}
use Rattle.daide_log.specs.RecordText.{piece_of}
use Rattle.daide_log.specs.Recording.{line_event}

-- bytes received have a line if there are any
pub lined_bytes : (event : RecordedEvent) (side : Side) (bytes : List ℕ) → line_event event ≡ piece_of side bytes →
    (length bytes == 0) ≡ false → (line : LogEvent) × (line_event event ≡ Some line)
lined_bytes event side [] e some = absurd (cc)
lined_bytes event side (byte ∷ bytes) e some = (Received side (byte ∷ bytes), e)
