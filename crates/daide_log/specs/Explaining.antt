-- The frame that a session still holds when its move is explained. (own)
use Rattle.std.specs.Prelude.{◌≡◌, ⊤, ℕ, ◌≤◌, ◌%◌, List, [], Ok, length, drop}
use Rattle.std.specs.Bool.{MatchBool}
use Rattle.daide_token.specs.Token.{tokens_of}
use Rattle.daide_frame.specs.declared.side.Side.{Side}
use Rattle.daide_grammar.specs.SideMessages.{IsMessageOver}
use Rattle.daide_words.specs.declared.word.Word.{Word}
use Rattle.daide_words.specs.Word.{grammar_words}
use Rattle.daide_reader.specs.Verdict.{HasVerdict, IsPlaceIn}
use Rattle.daide_protocol.specs.Bounds.{longest_body, least_depth, greatest_depth}
use Rattle.daide_protocol.specs.Config.{config_fault}
use Rattle.daide_protocol.specs.declared.config.Config.{Config}
use Rattle.daide_protocol.specs.declared.note.Deed.{Deed}
use Rattle.daide_protocol.specs.declared.note.Note.{Note}
use Rattle.daide_protocol.specs.declared.note.Note.TheVariants as Notes
use Rattle.daide_grammar.specs.declared.level.Level.{Level}
use Rattle.daide_protocol.specs.Machine.{Limits, coming, is_dm, side2_of}
use Rattle.daide_protocol.specs.Wires.{SessionView, holding}
use Rattle.std.specs.Prelude.{Option, Some, None, ◌∷◌, ◌+◌, ◌==◌, ◌||◌, nat_lt, Bool, if◌then◌else◌}
use Rattle.std.specs.Io.KnownBytes.{Appends}
use Rattle.daide_log.specs.declared.report.Part as reports
use Rattle.daide_log.specs.Report.{texts_of}
use Rattle.daide_log.specs.Explained.{AreMessageLines, Part, announced_if, capped_from, fault_lines, part_text, verdict_by}

-- the limits are valid, and the body consists of whole tokens
pub record IsRuled (max_depth : ℕ) (body : List ℕ) : Type 0 where
  pub low : least_depth ≤ max_depth
  pub high : max_depth ≤ greatest_depth
  pub capped : length body ≤ longest_body
  pub even : length body % 2 ≡ 0

-- the held message had this fate because of the grammar's verdict on it, under limits that are valid
pub record IsRightFate (words : List Word) (config : Config) (side : Side) (deed : Deed) (new : SessionView) : Type 0 where
  pub accepted : config_fault config ≡ Ok tt
  pub ruled : IsRuled config.max_depth (drop 4 (holding new side).frame_bytes)
  pub within : IsPlaceIn (drop 4 (holding new side).frame_bytes) (verdict_by deed)
  pub verdict : HasVerdict (IsMessageOver (grammar_words words) (side2_of side) (coming new.state side).noted)
      config.max_depth (tokens_of (drop 4 (holding new side).frame_bytes)) (verdict_by deed)

abbrev pub IsRightlyReported : List Word → Config → Side → Note → SessionView → Type 0
IsRightlyReported words config side Notes.Nothing new = ⊤
IsRightlyReported words config side (Notes.Frame head deed) new =
    MatchBool (is_dm head.kind) (IsRightFate words config side deed new) ⊤
IsRightlyReported words config side (Notes.Fault code) new = ⊤
IsRightlyReported words config side Notes.Stopped new = ⊤

-- the lines for a move, from the held frame
abbrev pub AreLinesBy : List Word → Limits → Level → Side → Note → SessionView → List ℕ → Type 0
AreLinesBy words limits announced side Notes.Nothing new lines = lines ≡ []
AreLinesBy words limits announced side (Notes.Frame head deed) new lines =
    MatchBool (is_dm head.kind)
    (AreMessageLines words (side2_of side) (coming new.state side).noted
    (capped_from limits.top_level announced (coming new.state side).noted) limits.max_depth (drop 4 (holding new side).frame_bytes)
    (verdict_by deed) lines)
    (lines ≡ [])
AreLinesBy words limits announced side (Notes.Fault code) new lines =
    lines ≡ fault_lines new.state.limits.cap code (holding new side).frame_bytes
AreLinesBy words limits announced side Notes.Stopped new lines = lines ≡ []

-- the level that the server announced last, from the held frame
abbrev pub announced_by_held : Side → Note → SessionView → Level → Level
announced_by_held side Notes.Nothing new level = level
announced_by_held side (Notes.Frame head deed) new level =
    if is_dm head.kind then announced_if (verdict_by deed) side (tokens_of (drop 4 (holding new side).frame_bytes)) level else level
announced_by_held side (Notes.Fault code) new level = level
announced_by_held side Notes.Stopped new level = level

-- ---- incomplete frames

-- an incomplete frame, from its numbers of header bytes and body bytes, whether it is at fault, and its header's length
-- field
abbrev pub part_by : ℕ → ℕ → Bool → ℕ → Option reports.Part
part_by header body at_fault announced =
    if (header == 0) || at_fault then None
    else Some (record { came = header + body; size = if nat_lt header 4 then None else Some (4 + announced) })

abbrev pub part_with : Option ℕ → Side → Option reports.Part → List Part
part_with session side None = []
part_with session side (Some part) =
    record { session = session; side = side; came = part.came; size = part.size } ∷ []

-- the lines of these frames were written, and their number is `count`
abbrev pub HasPut : List Part → ℕ → Option (List ℕ) → Option (List ℕ) → Type 0
HasPut parts count before after = (count ≡ length parts) × Appends before after (texts_of part_text parts)
