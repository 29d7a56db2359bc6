-- The event that the code parsed from a line of a match's log. (own)
use Rattle.std.specs.Prelude.{⊤, ℕ, ◌<◌, ◌≤◌, List}
use Rattle.daide_log_lines.specs.declared.match_line.ParsedMatchEvent.{ParsedMatchEvent}
use Rattle.daide_log_lines.specs.declared.match_line.ParsedMatchEvent.TheVariants as Variants
use Rattle.daide_log_lines.specs.MatchLine.{MatchEvent, Of, Quiet}
use Rattle.daide_log_lines.specs.ParsedEvents.{event_reported, IsWithinPieceLimit}

abbrev pub match_event_reported : List ℕ → ParsedMatchEvent → MatchEvent
match_event_reported bytes (Variants.Of session reported) = Of session (event_reported bytes reported)
match_event_reported bytes Variants.Quiet = Quiet

-- its session is one of the log's, and its bytes are within the buffer
abbrev pub IsMatchWithin : ℕ → ParsedMatchEvent → Type 0
IsMatchWithin sessions (Variants.Of session reported) = (0 < session) × (session ≤ sessions) × IsWithinPieceLimit reported
IsMatchWithin sessions Variants.Quiet = ⊤
