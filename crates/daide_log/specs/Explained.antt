-- The report of a log with explanations. It has the text of each message; for a refused one also the level at which it
-- was judged, its answer and the reason; the name and the bytes of each fault; the comments of the log; and at the end
-- each incomplete frame. All these lines but the comments begin with four spaces. (own)
use Rattle.std.specs.Prelude.{◌≡◌, ◌≢◌, ℕ, ◌+◌, ◌-◌, ◌*◌, ◌/◌, ◌==◌, ◌&&◌, nat_lt, get_or, replicate, slice_set, Bool, true, false, if◌then◌else◌, List, [], ◌∷◌, ◌++◌}
use Rattle.std.specs.Prelude.{codes, length, take, drop, Option, Some, None, is_some}
use Rattle.std.specs.Fmt.{decimal}
use Rattle.daide_token.specs.Token.{tokens_of}
use Rattle.daide_token.specs.HexDigits.{digits_of_byte}
use Rattle.daide_token.specs.Text.{text_with}
use Rattle.daide_frame.specs.declared.side.Side.{Side}
use Rattle.daide_frame.specs.declared.side.Side.TheVariants.{Bot, Server}
use Rattle.daide_frame.specs.declared.code.Code.{Code}
use Rattle.daide_frame.specs.declared.code.Code.TheVariants.{InvalidToken}
use Rattle.daide_frame.specs.Code.{code_number}
use Rattle.daide_frame.specs.Frames.{announced, head_in}
use Rattle.daide_grammar.specs.Level.{level_number}
use Rattle.daide_grammar.specs.declared.level.Level.{Level}
use Rattle.daide_grammar.specs.declared.level.Level.TheVariants.{L0, L60}
use Rattle.daide_grammar.specs.declared.side.Side2.{Side2}
use Rattle.daide_words.specs.declared.word.Word.{Word}
use Rattle.daide_words.specs.Word.{names_of}
use Rattle.daide_reader.specs.declared.verdict.Verdict.{Verdict}
use Rattle.daide_reader.specs.declared.verdict.Verdict.TheVariants.{Relay, Prn, Huh}
use Rattle.daide_explain.specs.Explained.{IsExplained}
use Rattle.daide_io.specs.FaultField.{cause_name, fault_field}
use Rattle.daide_protocol.specs.declared.note.Deed.{Deed}
use Rattle.daide_protocol.specs.declared.note.Deed.TheVariants as Deeds
use Rattle.daide_protocol.specs.declared.note.Note.{Note}
use Rattle.daide_protocol.specs.declared.note.Note.TheVariants as Notes
use Rattle.daide_protocol.specs.declared.ending.Ending.{Ending}
use Rattle.daide_protocol.specs.declared.ending.Ending.TheVariants as Endings
use Rattle.daide_protocol.specs.declared.summary.Summary.{Summary}
use Rattle.daide_protocol.specs.Answers.{answer_body}
use Rattle.daide_protocol.specs.Events.{Event, Comes, Ends, Loses, ImTimerExpired, OperatorStops}
use Rattle.daide_protocol.specs.Bounds.{most_sessions}
use Rattle.daide_protocol.specs.HloLevel.{level_reported}
use Rattle.daide_protocol.specs.Machine.{Limits, SessionState, Effect, Question, Transition, coming, question, side2_of, ending_in}
use Rattle.daide_protocol.specs.Summary.{count_note}
use Rattle.daide_frame.specs.Side.{same_side}
use Rattle.daide_log.specs.declared.explained.Explained.{Explained}
use Rattle.daide_log.specs.declared.heading.Version.{Version}
use Rattle.daide_log.specs.declared.heading.Version.TheVariants.{Single, Match}
use Rattle.daide_log.specs.declared.report.ReportKey.{ReportKey}
use Rattle.daide_log.specs.ReportForm.{ReportForm, HasWords}
use Rattle.daide_log.specs.Report.{ReportEntry, events_of_line, side_of, move_line, part_line, cut_line, texts_of}

-- ---- lines

abbrev pub with_line_feed : List ℕ → List ℕ
with_line_feed text = text ++ 10 ∷ []

-- the lines of a text, with four spaces before each
abbrev pub indented_byte : Bool → ℕ → List ℕ
indented_byte begins byte = (if begins then codes "    " else []) ++ byte ∷ []

abbrev pub indented_from : Bool → List ℕ → List ℕ
indented_from begins [] = []
indented_from begins (byte ∷ text) = indented_byte begins byte ++ indented_from (byte == 10) text

unfoldable pub indented : List ℕ → List ℕ
indented text = indented_from true text

-- ---- a message

-- the verdict that corresponds to a deed
abbrev pub verdict_by : Deed → Verdict
verdict_by Deeds.Relayed = Relay
verdict_by Deeds.Dropped = Relay
verdict_by Deeds.Prn = Prn
verdict_by (Deeds.Huh place) = Huh place

-- the printed text of tokens, with the operator's words by their own names
abbrev pub message_text : List Word → List ℕ → List ℕ
message_text words tokens = text_with (names_of words) tokens

-- the level that the server announced, if a message was judged at the highest level, and that is below it
abbrev pub capped_from : Level → Level → Level → Option Level
capped_from top announced level =
    if (level_number level == level_number top) && nat_lt (level_number top) (level_number announced) then Some announced
    else None

abbrev pub capped_text : Option Level → List ℕ
capped_text None = []
capped_text (Some announced) = codes ", capped from " ++ decimal (level_number announced)

-- the level at which a message was judged, and the level that the server announced if the highest level capped it
abbrev pub level_text : Level → Option Level → List ℕ
level_text level capped = codes "judged at level " ++ decimal (level_number level) ++ capped_text capped

-- the lines for a refused message: its text, its level, the answer to its sender, and the reason
abbrev pub AreRefusedLines : List Word → Side2 → Level → Option Level → ℕ → List ℕ → Verdict → List ℕ → Type 0
AreRefusedLines words end level capped max_depth body verdict lines =
    (why : List ℕ) × IsExplained words end level max_depth (tokens_of body) verdict why
    × (lines ≡ with_line_feed (message_text words (tokens_of body)) ++ with_line_feed (level_text level capped)
    ++ with_line_feed (message_text words (tokens_of (answer_body body verdict))) ++ why)

abbrev pub AreMessageLines : List Word → Side2 → Level → Option Level → ℕ → List ℕ → Verdict → List ℕ → Type 0
AreMessageLines words end level capped max_depth body Relay lines =
    lines ≡ with_line_feed (message_text words (tokens_of body))
AreMessageLines words end level capped max_depth body Prn lines =
    AreRefusedLines words end level capped max_depth body Prn lines
AreMessageLines words end level capped max_depth body (Huh place) lines =
    AreRefusedLines words end level capped max_depth body (Huh place) lines

-- the lines for a frame by the level that the server announced: none, unless it is a message
abbrev pub ExplainsFrame : List Word → Limits → Level → Option Question → List ℕ → Deed → List ℕ → Type 0
ExplainsFrame words limits announced None body deed lines = lines ≡ []
ExplainsFrame words limits announced (Some q) body deed lines =
    (q.message ≡ tokens_of body)
    × AreMessageLines words (side2_of q.side) q.level (capped_from limits.top_level announced q.level) limits.max_depth body
    (verdict_by deed) lines

-- ---- the level that the server announced

-- a relayed HLO of the server announces the level that it would set without a highest one
abbrev pub announced_in : Side → List ℕ → Level → Level
announced_in Bot tokens level = level
announced_in Server tokens level = level_reported L60 tokens level

abbrev pub announced_if : Verdict → Side → List ℕ → Level → Level
announced_if Relay side tokens level = announced_in side tokens level
announced_if Prn side tokens level = level
announced_if (Huh place) side tokens level = level

abbrev pub announced_at : Option Question → Verdict → Level → Level
announced_at None verdict level = level
announced_at (Some q) verdict level = announced_if verdict q.side q.message level

-- the level that the server announced last, after a move with this note
abbrev pub announced_after : Note → Option Question → Level → Level
announced_after Notes.Nothing q level = level
announced_after (Notes.Frame head deed) q level = announced_at q (verdict_by deed) level
announced_after (Notes.Fault code) q level = level
announced_after Notes.Stopped q level = level

-- ---- a fault

-- pairs of upper-case digits, separated by spaces
abbrev pub pairs : List ℕ → List ℕ
pairs [] = []
pairs (byte ∷ []) = digits_of_byte byte
pairs (byte ∷ next ∷ bytes) = digits_of_byte byte ++ 32 ∷ pairs (next ∷ bytes)

-- the last two bytes, which are an invalid token, and its index in the message
abbrev pub token_line : List ℕ → List ℕ
token_line bytes =
    with_line_feed (codes "bytes: " ++ pairs (drop (length bytes - 2) bytes) ++ codes " at token "
    ++ decimal ((length bytes - 6) / 2))

-- all bytes since the last complete frame, if there are any
abbrev pub bytes_line : List ℕ → List ℕ
bytes_line [] = []
bytes_line (byte ∷ bytes) = with_line_feed (codes "bytes: " ++ pairs (byte ∷ bytes))

-- the name of a fault: that of its code, except for a body above the cap
abbrev pub fault_name : ℕ → Code → List ℕ → List ℕ
fault_name cap code bytes =
    cause_name code (fault_field code (is_some (head_in cap bytes)) (take 4 bytes) (drop 4 bytes))

abbrev pub faulty_bytes : Code → List ℕ → List ℕ
faulty_bytes code bytes = if code_number code == 0x0E then token_line bytes else bytes_line bytes

abbrev pub fault_lines : ℕ → Code → List ℕ → List ℕ
fault_lines cap code bytes = with_line_feed (fault_name cap code bytes) ++ faulty_bytes code bytes

-- After a header and `count` other tokens, the lines for an invalid token are its name, its own two bytes, and `count`.
abbrev pub InvalidTokensAreShown : Type 0
InvalidTokensAreShown =
    (cap count high low : ℕ) (header before : List ℕ) → length header ≡ 4 → length before ≡ 2 * count →
    fault_lines cap InvalidToken (header ++ before ++ high ∷ low ∷ [])
    ≡ with_line_feed (codes "invalid token") ++ with_line_feed (codes "bytes: "
    ++ (digits_of_byte high ++ 32 ∷ digits_of_byte low) ++ codes " at token " ++ decimal count)

-- ---- a move

-- a side's bytes since its last complete frame, including the byte of this event
abbrev pub bytes_at : SessionState → Side → Event → List ℕ
bytes_at state side (Comes from byte) = (coming state side).pending ++ byte ∷ []
bytes_at state side (Ends from) = (coming state side).pending
bytes_at state side (Loses from) = (coming state side).pending
bytes_at state side ImTimerExpired = (coming state side).pending
bytes_at state side OperatorStops = (coming state side).pending

-- the lines that explain a side's move, which this event caused in this state
abbrev pub ExplainsMove : List Word → Level → Side → SessionState → Event → Note → List ℕ → Type 0
ExplainsMove words announced side before event Notes.Nothing lines = lines ≡ []
ExplainsMove words announced side before event (Notes.Frame head deed) lines =
    ExplainsFrame words before.limits announced (question before event) (drop 4 (bytes_at before side event)) deed lines
ExplainsMove words announced side before event (Notes.Fault code) lines =
    lines ≡ fault_lines before.limits.cap code (bytes_at before side event)
ExplainsMove words announced side before event Notes.Stopped lines = lines ≡ []

-- ---- the entries

-- a move with the lines after it, and the level that its session's server announced by then; or a comment of the log
pub data ExplainedEntry : Type 0 where
  Moved : (entry : ReportEntry) → (added : List ℕ) → (announced : Level) → ExplainedEntry
  Remark : (comment : List ℕ) → ExplainedEntry

abbrev pub shown_text : ExplainedEntry → List ℕ
shown_text (Moved entry added announced) = move_line entry.source entry.side entry.reported ++ added
shown_text (Remark comment) = with_line_feed comment

abbrev pub shown_counted : ExplainedEntry → Summary → Summary
shown_counted (Moved entry added announced) before = count_note entry.reported before
shown_counted (Remark comment) before = before

-- the place of a session in a list, from 0; a log of version 1 has one
abbrev pub place_of_session : Option ℕ → ℕ
place_of_session None = 0
place_of_session (Some session) = session - 1

-- the level that the server of each session announced last, after these entries
abbrev pub announced_levels : List Level → List ExplainedEntry → List Level
announced_levels levels [] = levels
announced_levels levels (Moved entry added announced ∷ shown) =
    announced_levels (slice_set levels (place_of_session entry.source.session) announced) shown
announced_levels levels (Remark comment ∷ shown) = announced_levels levels shown

abbrev pub level_announced : List Level → ReportKey → Level
level_announced levels source = get_or levels (place_of_session source.session) L0

-- the entry for a move
abbrev pub entry_of : List Level → ReportKey → Side → SessionState → Event → Note → List ℕ → ExplainedEntry
entry_of levels source side before event reported lines =
    Moved (record { source = source; side = side; reported = reported }) (indented lines)
    (announced_after reported (question before event) (level_announced levels source))

-- the entries for the moves of one event
abbrev pub AreShown : List Word → List Level → ReportKey → Side → SessionState → Event → List Effect → List ExplainedEntry → Type 0
AreShown words levels source side before event [] shown = shown ≡ []
AreShown words levels source side before event (move ∷ moves) shown =
    (lines : List ℕ) × (more : List ExplainedEntry)
    × ExplainsMove words (level_announced levels source) side before event move.reported lines
    × AreShown words (announced_levels levels (entry_of levels source side before event move.reported lines ∷ [])) source side
    before event moves more
    × (shown ≡ entry_of levels source side before event move.reported lines ∷ more)

-- These events, one after the other, take the state to the new one with these moves, which have these entries.
abbrev pub AreShownBy : List Word → List Level → ReportKey → Side → SessionState → List Event → List Effect → SessionState →
    List ExplainedEntry → Type 0
AreShownBy words levels source side old [] moves new shown = (moves ≡ []) × (new ≡ old) × (shown ≡ [])
AreShownBy words levels source side old (event ∷ events) moves new shown =
    (mid : SessionState) × (first : List Effect) × (rest : List Effect) × (here : List ExplainedEntry) × (later : List ExplainedEntry)
    × Transition old event first mid × AreShown words levels source side old event first here
    × AreShownBy words (announced_levels levels here) source side mid events rest new later × (moves ≡ first ++ rest)
    × (shown ≡ here ++ later)

-- a comment is copied to the report
abbrev pub is_remark : List ℕ → Bool
is_remark [] = false
is_remark (byte ∷ bytes) = byte == 35

abbrev pub remarks : List ℕ → List ExplainedEntry
remarks line = if is_remark line then Remark line ∷ [] else []

-- ---- the end

-- whether the session ended by a fault of this side
abbrev pub is_at_fault : Side → Option Ending → Bool
is_at_fault side None = false
is_at_fault side (Some (Endings.Fault at code)) = same_side side at
is_at_fault side (Some (Endings.Ended at)) = false
is_at_fault side (Some (Endings.Lost at)) = false
is_at_fault side (Some (Endings.Final at)) = false
is_at_fault side (Some (Endings.Error at)) = false
is_at_fault side (Some Endings.Stopped) = false

-- an incomplete frame: how many of its bytes were received, and its size, once its header is complete
pub record Part : Type 0 where
  pub session : Option ℕ
  pub side : Side
  pub came : ℕ
  pub size : Option ℕ

abbrev pub size_of : ℕ → List ℕ → Option ℕ
size_of cap bytes = if nat_lt (length bytes) 4 then None else Some (4 + announced cap bytes)

-- a side's incomplete frame, unless it has no byte, or is at fault
abbrev pub part_of : Option ℕ → Side → ℕ → Bool → List ℕ → List Part
part_of session side cap at_fault [] = []
part_of session side cap at_fault (byte ∷ bytes) =
    if at_fault then []
    else record { session = session; side = side; came = length (byte ∷ bytes); size = size_of cap (byte ∷ bytes) } ∷ []

-- a session's number, which only the report of a match shows
abbrev pub session_number : Version → ℕ → Option ℕ
session_number Single session = None
session_number Match session = Some session

-- the incomplete frames of a session, the bot's first
abbrev pub unfinished_parts : Option ℕ → SessionState → List Part
unfinished_parts session state =
    part_of session Bot state.limits.cap (is_at_fault Bot (ending_in state.phase)) (coming state Bot).pending
    ++ part_of session Server state.limits.cap (is_at_fault Server (ending_in state.phase)) (coming state Server).pending

-- the incomplete frames of all sessions, from the session of this number on
abbrev pub parts_from : Version → ℕ → List SessionState → List Part
parts_from version session [] = []
parts_from version session (state ∷ states) =
    unfinished_parts (session_number version session) state ++ parts_from version (session + 1) states

-- A side's incomplete frame is among these with the number of its bytes, however the session ended, unless by a fault
-- of that side.
abbrev pub IncompleteFramesAreListed : Type 0
IncompleteFramesAreListed =
    (session : Option ℕ) (state : SessionState) (side : Side) → (coming state side).pending ≢ [] →
    ((code : Code) → ending_in state.phase ≢ Some (Endings.Fault side code)) →
    (before : List Part) × (part : Part) × (after : List Part)
    × (unfinished_parts session state ≡ before ++ part ∷ after) × (part.session ≡ session) × (part.side ≡ side)
    × (part.came ≡ length (coming state side).pending)

abbrev pub part_text : Part → List ℕ
part_text part = part_line part.session part.side part.came part.size

-- the line for a cut last line of the log, and how many there are
abbrev pub cut_text : Option ℕ → List ℕ
cut_text None = []
cut_text (Some number) = cut_line number

abbrev pub cut_count : Option ℕ → ℕ
cut_count None = 0
cut_count (Some number) = 1

-- ---- the report

abbrev pub explained : List Word → ReportForm Explained
explained words = record {
  Entry = ExplainedEntry;
  Context = List Level;
  fresh = replicate most_sessions L0;
  next = announced_levels;
  text = shown_text;
  counted = shown_counted;
  tells = AreShownBy words;
  line = λ levels line source event before moves after shown.
      (later : List ExplainedEntry) × AreShownBy words levels source (side_of event) before (events_of_line event) moves after later
      × (shown ≡ remarks line ++ later);
  quiet = λ line shown. shown ≡ remarks line;
  opens = λ heading shown. (shown ≡ []) × HasWords words heading;
  cuts = true;
  closing = λ cut version sessions. cut_text cut ++ texts_of part_text (parts_from version 1 sessions);
  answer = λ counts cut version sessions.
      record { counts = counts; unfinished = cut_count cut + length (parts_from version 1 sessions); cut = cut };
  late = true;
}
