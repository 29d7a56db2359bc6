-- The output of `show` for an input: the text of docs/FORMATS.md (own), and whether its frame would be relayed.
use Rattle.std.specs.Prelude.{◌≡◌, ⊤, ℕ, ◌+◌, ◌==◌, nat_lt, Bool, true, false, if◌then◌else◌}
use Rattle.std.specs.Prelude.{List, [], ◌∷◌, ◌++◌, length, codes, take, drop, Option, Some, None, Result, Ok, Err}
use Rattle.std.specs.Prelude.{MatchResult}
use Rattle.std.specs.Bool.{MatchBool}
use Rattle.std.specs.Fmt.{decimal}
use Rattle.std.specs.Io.KnownBytes.{Appends}
use Rattle.daide_token.specs.Token.{tokens_of}
use Rattle.daide_token.specs.Text.{text_with}
use Rattle.daide_frame.specs.declared.side.Side.{Side}
use Rattle.daide_frame.specs.declared.code.Code.{Code}
use Rattle.daide_frame.specs.declared.head.Head.{Head}
use Rattle.daide_frame.specs.declared.head.Kind.{Kind}
use Rattle.daide_frame.specs.declared.head.Kind.TheVariants.{Im, Rm, Dm, Fm, Em}
use Rattle.daide_frame.specs.Code.{code_digits}
use Rattle.daide_frame.specs.Kind.{name_of_kind}
use Rattle.daide_frame.specs.InitialMessage.{im_of}
use Rattle.daide_frame.specs.Frames.{FrameEvent, Begun, Whole, Wrong, first_items, frame_events_of}
use Rattle.daide_grammar.specs.declared.level.Level.{Level}
use Rattle.daide_grammar.specs.SideMessages.{IsMessageOver}
use Rattle.daide_words.specs.declared.word.Word.{Word}
use Rattle.daide_words.specs.Word.{grammar_words, names_of}
use Rattle.daide_reader.specs.Verdict.{HasVerdict}
use Rattle.daide_reader.specs.declared.verdict.Verdict.{Verdict}
use Rattle.daide_reader.specs.declared.verdict.Verdict.TheVariants.{Relay, Prn, Huh}
use Rattle.daide_protocol.specs.Answers.{answer_body}
use Rattle.daide_protocol.specs.Bounds.{longest_body, greatest_depth}
use Rattle.daide_protocol.specs.Machine.{side2_of}
use Rattle.daide_io.specs.declared.fault_field.FaultField.{FaultField}
use Rattle.daide_io.specs.FaultField.{cause_text, fault_field}
use Rattle.daide_explain.specs.Explained.{IsExplained}
use Rattle.daide_show.specs.Cause.{expected_value, faulty_body}
use Rattle.daide_show.specs.Input.{limit, parse_hex}
use Rattle.daide_words.specs.Words.{words_of}
use Rattle.daide_show.specs.declared.frame_view.Request.{Request}
use Rattle.daide_show.specs.declared.frame_view.ShowFault.{ShowFault}
use Rattle.daide_show.specs.declared.frame_view.ShowFault.TheVariants.{Read, TooLong, NotHex, NotOneFrame}
use Rattle.daide_show.specs.declared.frame_view.ShowFault.TheVariants.{Memory, Write}

-- a request: the operator's words, the side that sent the frame, the level, and whether a frame that is not relayed is
-- explained
pub record ShowRequest : Type 0 where
  pub words : List Word
  pub side : Side
  pub level : Level
  pub explained : Bool

-- the request of the code
abbrev pub request_of : Request → ShowRequest
request_of request = record {
  words = words_of request.words.now;
  side = request.side;
  level = request.level;
  explained = request.is_explained;
}

-- a side's frame at a level, without words and without an explanation
abbrev pub plain_request : Side → Level → ShowRequest
plain_request side level = record { words = []; side = side; level = level; explained = false }

-- what is written, and whether the frame would be relayed
pub record Shown : Type 0 where
  pub text : List ℕ
  pub relayed : Bool

-- a text on a line of its own
abbrev pub line : List ℕ → List ℕ
line text = text ++ 10 ∷ []

-- the printed text of tokens, with the operator's words by their own names
abbrev pub printed : List Word → List ℕ → List ℕ
printed words m = text_with (names_of words) m

-- a verdict's name
abbrev pub verdict_name : Verdict → List ℕ
verdict_name Relay = codes "relay"
verdict_name Prn = codes "PRN"
verdict_name (Huh place) = codes "HUH at " ++ decimal place

-- the text of the answer to a body, by its verdict
abbrev pub answer_text : List Word → List ℕ → Verdict → List ℕ
answer_text words body verdict = printed words (tokens_of (answer_body body verdict))

-- the lines of a verdict: its name, and the answer to the sender
abbrev pub verdict_lines : List Word → Verdict → List ℕ → List ℕ
verdict_lines words Relay body = line (verdict_name Relay)
verdict_lines words Prn body = line (verdict_name Prn) ++ line (answer_text words body Prn)
verdict_lines words (Huh place) body = line (verdict_name (Huh place)) ++ line (answer_text words body (Huh place))

-- whether a message with this verdict is relayed
abbrev pub is_relay : Verdict → Bool
is_relay Relay = true
is_relay Prn = false
is_relay (Huh place) = false

-- the kind and the length of a body
abbrev pub kind_line : Kind → ℕ → List ℕ
kind_line kind len = line (name_of_kind kind ++ 32 ∷ decimal len)

-- the lines that explain a fault: its field, if it has one, and the values that are right there
abbrev pub field_lines : Code → List ℕ → Option FaultField → List ℕ
field_lines code header None = line (cause_text code None)
field_lines code header (Some field) =
    line (cause_text code (Some field)) ++ line (codes "expected: " ++ expected_value code header field)

-- the same, by the header and the body up to the fault
abbrev pub cause_lines : Code → List ℕ → List ℕ → List ℕ
cause_lines code header body = field_lines code header (fault_field code false header body)

-- the same for a fault of the header, or in the body, of some bytes under a cap
unfoldable pub frame_fault_lines : ℕ → Code → List ℕ → List ℕ
frame_fault_lines cap code bytes = cause_lines code (take 4 bytes) (faulty_body code (take cap (drop 4 bytes)))

-- lines, if an explanation was requested
abbrev pub lines_if : Bool → List ℕ → List ℕ
lines_if explained lines = if explained then lines else []

-- a frame at fault: its code in two digits, upper case, and the lines that explain it
abbrev pub fault_shown : Code → List ℕ → Shown
fault_shown code lines = record { text = line (codes "fault " ++ code_digits code) ++ lines; relayed = false }

-- a valid frame that is not a message
abbrev pub relayed_shown : Kind → ℕ → Shown
relayed_shown kind len = record { text = kind_line kind len ++ line (codes "relay"); relayed = true }

-- an IM, by the check of its body
abbrev pub im_shown : Bool → ℕ → List ℕ → Result (Unit {0}) Code → Shown
im_shown explained len body (Ok good) = relayed_shown Im len
im_shown explained len body (Err code) = fault_shown code (lines_if explained (cause_lines code [] body))

-- a message, its verdict, and the lines that explain it
abbrev pub message_shown : List Word → ℕ → List ℕ → Verdict → List ℕ → Shown
message_shown words len body verdict lines = record {
  text = kind_line Dm len ++ line (printed words (tokens_of body)) ++ verdict_lines words verdict body ++ lines;
  relayed = is_relay verdict;
}

-- the lines that explain a verdict, if the request includes an explanation; else none
abbrev pub AreLines : ShowRequest → List ℕ → Verdict → List ℕ → Type 0
AreLines asked m verdict lines =
    MatchBool asked.explained
    (IsExplained asked.words (side2_of asked.side) asked.level greatest_depth m verdict lines)
    (lines ≡ [])

-- a message is shown with the verdict of its side's grammar, extended by these words
abbrev pub IsMessageShownAs : ShowRequest → ℕ → List ℕ → Shown → Type 0
IsMessageShownAs asked len body shown =
    (verdict : Verdict) × (lines : List ℕ)
    × HasVerdict (IsMessageOver (grammar_words asked.words) (side2_of asked.side) asked.level) greatest_depth
    (tokens_of body) verdict
    × AreLines asked (tokens_of body) verdict lines × (shown ≡ message_shown asked.words len body verdict lines)

-- the text was appended
abbrev pub WritesShown : List ℕ → List ℕ → Bool → Shown → Type 0
WritesShown old new relayed shown = (new ≡ old ++ shown.text) × (relayed ≡ shown.relayed)

-- the text of a complete frame
abbrev pub IsFrameShownAs : ShowRequest → Kind → ℕ → List ℕ → Shown → Type 0
IsFrameShownAs asked Im len body shown = shown ≡ im_shown asked.explained len body (im_of body)
IsFrameShownAs asked Rm len body shown = shown ≡ relayed_shown Rm len
IsFrameShownAs asked Dm len body shown = IsMessageShownAs asked len body shown
IsFrameShownAs asked Fm len body shown = shown ≡ relayed_shown Fm len
IsFrameShownAs asked Em len body shown = shown ≡ relayed_shown Em len

-- an input as one frame
pub data OneFrame : Type 0 where
  faulty : Code → OneFrame
  whole : Head → List ℕ → OneFrame
  not_one : OneFrame

-- the result, by the number of the bytes, and by the items of the frame at their start
abbrev pub parse_frame_events : ℕ → List FrameEvent → OneFrame
parse_frame_events count [] = not_one
parse_frame_events count (Begun head ∷ items) = parse_frame_events count items
parse_frame_events count (Wrong code ∷ items) = faulty code
parse_frame_events count (Whole head body ∷ items) = if 4 + length body == count then whole head body else not_one

-- the result for some bytes, under a cap
unfoldable pub parse_frame : ℕ → List ℕ → OneFrame
parse_frame cap bytes = parse_frame_events (length bytes) (frame_events_of (first_items cap bytes))

-- what is shown of the frame in some bytes, or the fault if there is not exactly one
abbrev pub IsOneShownAs : ShowRequest → List ℕ → OneFrame → Result Shown ShowFault → Type 0
IsOneShownAs asked bytes (faulty code) outcome =
    outcome ≡ Ok (fault_shown code (lines_if asked.explained (frame_fault_lines longest_body code bytes)))
IsOneShownAs asked bytes (whole head body) outcome =
    (shown : Shown) × (outcome ≡ Ok shown) × IsFrameShownAs asked head.kind head.len body shown
IsOneShownAs asked bytes not_one outcome = outcome ≡ Err NotOneFrame

-- what is shown of some bytes
abbrev pub AreShownAs : ShowRequest → List ℕ → Result Shown ShowFault → Type 0
AreShownAs asked bytes outcome = IsOneShownAs asked bytes (parse_frame longest_body bytes) outcome

-- what is shown of an input, or the fault of the input
abbrev pub IsShownAs : ShowRequest → List ℕ → Result Shown ShowFault → Type 0
IsShownAs asked input outcome =
    MatchBool (nat_lt limit (length input)) (outcome ≡ Err TooLong)
    (MatchResult (parse_hex input) (λ bytes. AreShownAs asked bytes outcome) (λ _. outcome ≡ Err NotHex))

-- the text for the input was written, and the result is whether its frame would be relayed
abbrev pub Shows : ShowRequest → List ℕ → Bool → Option (List ℕ) → Option (List ℕ) → Type 0
Shows asked input relayed old new =
    (shown : Shown) × IsShownAs asked input (Ok shown) × (relayed ≡ shown.relayed) × Appends old new shown.text

-- A fault of the input is the one that the input has. A write can fail only if there is something to show. `Read` and
-- `Memory` state nothing about the input.
abbrev pub IsFaultAt : ShowRequest → List ℕ → ShowFault → Type 0
IsFaultAt asked input Read = ⊤
IsFaultAt asked input TooLong = IsShownAs asked input (Err TooLong)
IsFaultAt asked input NotHex = IsShownAs asked input (Err NotHex)
IsFaultAt asked input NotOneFrame = IsShownAs asked input (Err NotOneFrame)
IsFaultAt asked input Memory = ⊤
IsFaultAt asked input Write = (shown : Shown) × IsShownAs asked input (Ok shown)

-- what happened outside, if a fault says so: a failed read, a refused allocation, a failed write
abbrev pub IsShowCause : Type 0 → Type 0 → Type 0 → ShowFault → Type 0
IsShowCause read refused write Read = read
IsShowCause read refused write TooLong = ⊤
IsShowCause read refused write NotHex = ⊤
IsShowCause read refused write NotOneFrame = ⊤
IsShowCause read refused write Memory = refused
IsShowCause read refused write Write = write

-- An explanation only adds lines after the text, and none if the frame is relayed. For an input with a fault it changes
-- nothing.
abbrev pub OnlyAdds : Result Shown ShowFault → Result Shown ShowFault → Type 0
OnlyAdds (Ok plain) (Ok explained) =
    (lines : List ℕ) × (explained.text ≡ plain.text ++ lines) × (explained.relayed ≡ plain.relayed)
    × (plain.relayed ≡ true → lines ≡ [])
OnlyAdds (Err plain) (Err explained) = explained ≡ plain
OnlyAdds _ _ = ⊥
