-- The lines that explain a move are whole.
use Rattle.std.proofs.Common.{◌≡◌, ℕ, ◌-◌, ◌/◌, ◌==◌, ◌&&◌, not, Bool, true, false, List, [], ◌∷◌, ◌++◌, length, drop}
use Rattle.std.proofs.Common.{codes}
use Rattle.std.proofs.Common.{Option, Some, None, refl, sym, subst, inl, inr}
use Rattle.std.specs.Prelude.{if◌then◌else◌}
use Rattle.std.specs.Bool.{MatchBool}
use Rattle.std.specs.Fmt.{decimal}
use Rattle.daide_token.specs.Token.{tokens_of}
use Rattle.daide_frame.specs.declared.side.Side.{Side}
use Rattle.daide_frame.specs.declared.code.Code.{Code}
use Rattle.daide_frame.specs.Code.{code_number}
use Rattle.daide_grammar.specs.Depth.{open_brackets}
use Rattle.daide_grammar.specs.Level.{level_number}
use Rattle.daide_grammar.specs.Paired.{begins_with_prn}
use Rattle.daide_grammar.specs.SideMessages.{IsMessageOver}
use Rattle.daide_grammar.specs.declared.level.Level.{Level}
use Rattle.daide_grammar.specs.declared.side.Side2.{Side2}
use Rattle.daide_grammar.specs.declared.side.Side2.TheVariants.{Client, ServerEnd}
use Rattle.daide_words.specs.declared.word.Word.{Word}
use Rattle.daide_words.specs.Word.{grammar_words}
use Rattle.daide_reader.specs.declared.verdict.Verdict.{Verdict}
use Rattle.daide_reader.specs.declared.verdict.Verdict.TheVariants.{Relay, Prn, Huh}
use Rattle.daide_explain.specs.declared.brackets.Unpaired.{Unpaired}
use Rattle.daide_explain.specs.declared.brackets.Unpaired.TheVariants.{Ket, Bra, Nothing}
use Rattle.daide_explain.specs.Unpaired.{IsUnpairedIn}
use Rattle.daide_explain.specs.Explained.{IsExplained, IsExpectedLine, expected_line, class_items, end_item, level_line}
use Rattle.daide_explain.specs.Explained.{side_line, unpaired_line}
use Rattle.daide_protocol.specs.declared.note.Deed.{Deed}
use Rattle.daide_protocol.specs.declared.note.Note.{Note}
use Rattle.daide_protocol.specs.declared.note.Note.TheVariants as Notes
use Rattle.daide_protocol.specs.Events.{Event}
use Rattle.daide_protocol.specs.Machine.{Limits, SessionState, Question, question, side2_of}
use Rattle.daide_log.specs.Explained.{AreRefusedLines, AreMessageLines, ExplainsFrame, ExplainsMove, with_line_feed, message_text}
use Rattle.daide_log.specs.Explained.{verdict_by, bytes_at, capped_from, level_text}
use Rattle.daide_log.specs.Explained.{token_line, bytes_line, fault_lines, fault_name, faulty_bytes, pairs}
use Rattle.daide_protocol.specs.Answers.{answer_body}
use Rattle.daide_log_laws.proofs.AddedLines.{IsEnded, IsWhole, ended_behind, both_whole}

pub whole_line : (text : List ℕ) → IsWhole (with_line_feed text)
whole_line text = inr (text, refl)

number_line : (before : List ℕ) (n : ℕ) → IsEnded (before ++ decimal n ++ 10 ∷ [])
number_line before n = (before ++ decimal n, refl)

either : (b : Bool) (x y : List ℕ) → IsEnded x → IsEnded y → IsEnded (if b then x else y)
either true x y h k = h
either false x y h k = k

either_whole : (b : Bool) (x y : List ℕ) → IsWhole x → IsWhole y → IsWhole (if b then x else y)
either_whole true x y h k = h
either_whole false x y h k = k

-- ---- why a message was refused

expected_ended : (words : List Word) (p kept : List ℕ) (ends : Bool) → IsEnded (expected_line words p kept ends)
unfolding expected_line
expected_ended words p kept ends =
    either ((length kept == 0) && not ends)
    (codes "too deep: " ++ decimal (open_brackets p) ++ codes " brackets are open" ++ 10 ∷ [])
    ((codes "expected:" ++ class_items words kept) ++ end_item ends)
    (codes "too deep: " ++ decimal (open_brackets p) ++ codes " brackets are open", refl)
    (ended_behind (codes "expected:" ++ class_items words kept) (end_item ends) (if ends then codes " <end>" else [], refl))

level_whole : (least : Option Level) → IsWhole (level_line least)
level_whole None = inl refl
level_whole (Some least) = inr (number_line (codes "relayed from level ") (level_number least))

side_whole : (end : Side2) (other : Bool) → IsWhole (side_line end other)
unfolding side_line
side_whole Client true = inr (codes "relayed with --side server", refl)
side_whole ServerEnd true = inr (codes "relayed with --side bot", refl)
side_whole Client false = inl refl
side_whole ServerEnd false = inl refl

unpaired_whole : (unpaired : Unpaired) → IsWhole (unpaired_line unpaired)
unpaired_whole (Ket place) = inr (number_line (codes "unpaired: ) at ") place)
unpaired_whole (Bra place) = inr (number_line (codes "unpaired: ( at ") place)
unpaired_whole Nothing = inl refl

prn_whole : (m text : List ℕ) (b : Bool) →
    MatchBool b (text ≡ codes "unpaired: PRN" ++ 10 ∷ [])
    ((unpaired : Unpaired) × IsUnpairedIn m unpaired × (text ≡ unpaired_line unpaired)) → IsWhole text
prn_whole m text true e = inr (codes "unpaired: PRN", e)
prn_whole m text false h = subst IsWhole (sym h.2) (unpaired_whole h.0)

cause_whole : (words : List Word) (message : List ℕ → Type 0) (max_depth place : ℕ) (p text : List ℕ) (deep : Bool) →
    MatchBool deep (text ≡ codes "too deep: ( at " ++ decimal place ++ 10 ∷ [])
    (IsExpectedLine words message max_depth p text) → IsWhole text
cause_whole words message max_depth place p text true e =
    subst IsWhole (sym e) (inr (number_line (codes "too deep: ( at ") place))
cause_whole words message max_depth place p text false h =
    subst IsWhole (sym h.3) (inr (expected_ended words p h.0 h.1))

explained_whole : (words : List Word) (end : Side2) (level : Level) (max_depth : ℕ) (m : List ℕ) (verdict : Verdict)
    (text : List ℕ) → IsExplained words end level max_depth m verdict text → IsWhole text
explained_whole words end level max_depth m Relay text e = inl e
explained_whole words end level max_depth m Prn text h = prn_whole m text (begins_with_prn m) h
explained_whole words end level max_depth m (Huh place) text h =
    let cause = h.2 in let where_else = h.3 in
    subst IsWhole (sym h.4)
    (both_whole h.0 h.1 (cause_whole words (IsMessageOver (grammar_words words) end level) max_depth place _ h.0 cause.0 cause.2)
    (subst IsWhole (sym where_else.4)
    (both_whole (level_line where_else.0) (side_line end where_else.1) (level_whole where_else.0)
    (side_whole end where_else.1))))

-- ---- the lines of a move

refused_whole : (words : List Word) (end : Side2) (level : Level) (capped : Option Level) (max_depth : ℕ) (body : List ℕ) (verdict : Verdict)
    (lines : List ℕ) → AreRefusedLines words end level capped max_depth body verdict lines → IsWhole lines
refused_whole words end level capped max_depth body verdict lines h =
    let message = message_text words (tokens_of body) in
    let judged = level_text level capped in
    let answer = message_text words (tokens_of (answer_body body verdict)) in
    subst IsWhole (sym h.2)
    (both_whole (with_line_feed message ++ with_line_feed judged ++ with_line_feed answer) h.0
    (inr (ended_behind (with_line_feed message ++ with_line_feed judged) (with_line_feed answer) (answer, refl)))
    (explained_whole words end level max_depth (tokens_of body) verdict h.0 h.1))

message_whole : (words : List Word) (end : Side2) (level : Level) (capped : Option Level) (max_depth : ℕ) (body : List ℕ) (verdict : Verdict)
    (lines : List ℕ) → AreMessageLines words end level capped max_depth body verdict lines → IsWhole lines
message_whole words end level capped max_depth body Relay lines e = inr (message_text words (tokens_of body), e)
message_whole words end level capped max_depth body Prn lines h = refused_whole words end level capped max_depth body Prn lines h
message_whole words end level capped max_depth body (Huh place) lines h =
    refused_whole words end level capped max_depth body (Huh place) lines h

frame_whole : (words : List Word) (limits : Limits) (announced : Level) (q : Option Question) (body : List ℕ) (deed : Deed) (lines : List ℕ) →
    ExplainsFrame words limits announced q body deed lines → IsWhole lines
frame_whole words limits announced None body deed lines e = inl e
frame_whole words limits announced (Some q) body deed lines h =
    message_whole words (side2_of q.side) q.level (capped_from limits.top_level announced q.level) limits.max_depth body (verdict_by deed) lines h.1

bytes_whole : (bytes : List ℕ) → IsWhole (bytes_line bytes)
bytes_whole [] = inl refl
bytes_whole (byte ∷ bytes) = inr (codes "bytes: " ++ pairs (byte ∷ bytes), refl)

fault_whole : (cap : ℕ) (code : Code) (bytes : List ℕ) → IsWhole (fault_lines cap code bytes)
fault_whole cap code bytes =
    both_whole (with_line_feed (fault_name cap code bytes)) (faulty_bytes code bytes)
    (whole_line (fault_name cap code bytes))
    (either_whole (code_number code == 0x0E) (token_line bytes) (bytes_line bytes)
    (inr (codes "bytes: " ++ pairs (drop (length bytes - 2) bytes) ++ codes " at token " ++ decimal ((length bytes - 6) / 2), refl))
    (bytes_whole bytes))

pub lines_whole : (words : List Word) (announced : Level) (side : Side) (before : SessionState) (event : Event) (note : Note)
    (lines : List ℕ) → ExplainsMove words announced side before event note lines → IsWhole lines
lines_whole words announced side before event Notes.Nothing lines e = inl e
lines_whole words announced side before event (Notes.Frame head deed) lines h =
    frame_whole words before.limits announced (question before event) (drop 4 (bytes_at before side event)) deed lines h
lines_whole words announced side before event (Notes.Fault code) lines e =
    subst IsWhole (sym e) (fault_whole before.limits.cap code (bytes_at before side event))
lines_whole words announced side before event Notes.Stopped lines e = inl e
