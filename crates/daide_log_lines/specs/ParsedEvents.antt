-- The event that the code parsed from a line; a side's bytes are at the front of a buffer. (own)
use Rattle.std.specs.Prelude.{⊤, ℕ, ◌≤◌, List, take}
use Rattle.daide_log_lines.specs.declared.event_line.ParsedEvent.{ParsedEvent}
use Rattle.daide_log_lines.specs.declared.event_line.ParsedEvent.TheVariants as Variants
use Rattle.daide_log_lines.specs.LogLine.{LogEvent, Received, EndOf, ImTimerLine, StopLine, Silence, longest_piece}

abbrev pub event_reported : List ℕ → ParsedEvent → LogEvent
event_reported bytes (Variants.Received side count) = Received side (take count bytes)
event_reported bytes (Variants.EndOf side) = EndOf side
event_reported bytes Variants.ImTimerLine = ImTimerLine
event_reported bytes Variants.StopLine = StopLine
event_reported bytes Variants.Silence = Silence

-- these bytes are within the buffer
abbrev pub IsWithinPieceLimit : ParsedEvent → Type 0
IsWithinPieceLimit (Variants.Received side count) = count ≤ longest_piece
IsWithinPieceLimit (Variants.EndOf side) = ⊤
IsWithinPieceLimit Variants.ImTimerLine = ⊤
IsWithinPieceLimit Variants.StopLine = ⊤
IsWithinPieceLimit Variants.Silence = ⊤
