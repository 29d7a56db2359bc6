-- The lines that are kept: those of moves, which begin with a digit, and the last one.
use Rattle.std.proofs.Common.{◌≡◌, ℕ, zero, suc, ◌+◌, ◌/◌, ◌%◌, ◌≤◌, ◌==◌, ◌&&◌, cond, nat_lt, Bool, true, false}
use Rattle.std.proofs.Common.{List, [], ◌∷◌, ◌++◌, codes, Option, Some, None, refl, sym, ap, ◌∙◌, arith, append_assoc}
use Rattle.std.specs.Prelude.{if◌then◌else◌}
use Rattle.std.specs.List.{list_all}
use Rattle.std.specs.Fmt.{decimal, digits, digits_onto, digit_glyph}
use Rattle.std.proofs.lemmas.Bool.Decides.{nat_tests}
use Rattle.daide_frame.specs.declared.side.Side.{Side}
use Rattle.daide_frame.specs.declared.side.Side.TheVariants.{Bot, Server}
use Rattle.daide_frame.specs.declared.code.Code.{Code}
use Rattle.daide_frame.specs.declared.code.Code.TheVariants as Codes
use Rattle.daide_frame.specs.declared.head.Kind.{Kind}
use Rattle.daide_frame.specs.declared.head.Kind.TheVariants.{Im, Rm, Dm, Fm, Em}
use Rattle.daide_frame.specs.Code.{code_digits}
use Rattle.daide_frame.specs.Kind.{name_of_kind}
use Rattle.daide_protocol.specs.declared.note.Deed.{Deed}
use Rattle.daide_protocol.specs.declared.note.Deed.TheVariants.{Relayed, Dropped, Prn, Huh}
use Rattle.daide_protocol.specs.declared.note.Note.{Note}
use Rattle.daide_protocol.specs.declared.note.Note.TheVariants.{Nothing, Frame, Fault, Stopped}
use Rattle.daide_protocol.specs.declared.summary.Summary.{Summary}
use Rattle.daide_log.specs.declared.report.ReportKey.{ReportKey}
use Rattle.daide_log.specs.Report.{name_of_side, author_text, deed_text, move_text, session_text, source_text, reported_text, move_line}
use Rattle.daide_log.specs.Report.{size_text, part_line, cut_line, summary_line}
use Rattle.daide_log.proofs.RecordLines.{is_plain, both_all, plain_unbroken}
use Rattle.daide_log_laws.specs.Added.{without_added, is_added_line}
use Rattle.daide_log_laws.proofs.TextLines.{kept_line, added_line, digit_stays}

-- ---- digits

-- plain bytes, the first of which is a digit or a letter
pub record Begins (text : List ℕ) : Type 0 where
  pub first : ℕ
  pub rest : List ℕ
  pub same : text ≡ first ∷ rest
  pub digit : 48 ≤ first
  pub plain : list_all is_plain text ≡ true

glyph_is : (b : Bool) (d : ℕ) → 48 ≤ cond b (48 + d) (87 + d)
glyph_is true d = omega arith
glyph_is false d = omega arith

digit_plain : (n : ℕ) → 48 ≤ n → is_plain n ≡ true
digit_plain n h = grind (arith, nat_tests)

onto : (n : ℕ) (acc : List ℕ) → list_all is_plain acc ≡ true → Begins (digit_glyph false (n % 10) ∷ acc)
onto n acc plain =
    let digit : 48 ≤ digit_glyph false (n % 10) = glyph_is (nat_lt (n % 10) 10) (n % 10) in
    record {
      first = digit_glyph false (n % 10);
      rest = acc;
      same = refl;
      digit = digit;
      plain = ap (λ (b : Bool). b && list_all is_plain acc) (digit_plain (digit_glyph false (n % 10)) digit) ∙ plain;
    }

either : (b : Bool) (x y : List ℕ) → Begins x → Begins y → Begins (if b then x else y)
either true x y h k = h
either false x y h k = k

begins_more : (k n : ℕ) (acc : List ℕ) → Begins acc → Begins (digits_onto k 10 false n acc)
begins_more zero n acc h = h
begins_more (suc k) n acc h =
    let here = onto n acc h.plain in
    either (n / 10 == 0) (digit_glyph false (n % 10) ∷ acc) (digits_onto k 10 false (n / 10) (digit_glyph false (n % 10) ∷ acc))
    here (begins_more k (n / 10) (digit_glyph false (n % 10) ∷ acc) here)

decimal_begins : (n : ℕ) → Begins (decimal n)
unfolding digits
decimal_begins n =
    let here = onto n [] refl in
    either (n / 10 == 0) (digit_glyph false (n % 10) ∷ []) (digits_onto 63 10 false (n / 10) (digit_glyph false (n % 10) ∷ []))
    here (begins_more 63 (n / 10) (digit_glyph false (n % 10) ∷ []) here)

abbrev IsPlain : List ℕ → Type 0
IsPlain text = list_all is_plain text ≡ true

both : (a b : List ℕ) → IsPlain a → IsPlain b → IsPlain (a ++ b)
both a b h k = both_all is_plain a b h k

decimal_plain : (n : ℕ) → IsPlain (decimal n)
decimal_plain n = (decimal_begins n).plain

-- ---- a move

side_plain : (side : Side) → IsPlain (name_of_side side)
side_plain Bot = refl
side_plain Server = refl

session_plain : (session : Option ℕ) → IsPlain (session_text session)
session_plain None = refl
session_plain (Some session) = both (decimal session) (32 ∷ []) (decimal_plain session) refl

kind_plain : (kind : Kind) → IsPlain (name_of_kind kind)
kind_plain Im = refl
kind_plain Rm = refl
kind_plain Dm = refl
kind_plain Fm = refl
kind_plain Em = refl

deed_plain : (deed : Deed) → IsPlain (deed_text deed)
deed_plain Relayed = refl
deed_plain Dropped = refl
deed_plain Prn = refl
deed_plain (Huh place) = both (codes "huh ") (decimal place) refl (decimal_plain place)

code_plain : (code : Code) → IsPlain (code_digits code)
code_plain Codes.ImTimeout = refl
code_plain Codes.ImNotFirst = refl
code_plain Codes.WrongEndian = refl
code_plain Codes.WrongMagic = refl
code_plain Codes.WrongVersion = refl
code_plain Codes.SecondIm = refl
code_plain Codes.ImFromServer = refl
code_plain Codes.UnknownMessage = refl
code_plain Codes.WrongLength = refl
code_plain Codes.DmBeforeRm = refl
code_plain Codes.RmNotFirst = refl
code_plain Codes.SecondRm = refl
code_plain Codes.RmFromClient = refl
code_plain Codes.InvalidToken = refl

move_plain : (reported : Note) → IsPlain (move_text reported)
move_plain Nothing = refl
move_plain (Frame head deed) =
    both (name_of_kind head.kind ++ 32 ∷ decimal head.len) (32 ∷ deed_text deed)
    (both (name_of_kind head.kind) (32 ∷ decimal head.len) (kind_plain head.kind) (decimal_plain head.len)) (deed_plain deed)
move_plain (Fault code) = both (codes "fault ") (code_digits code) refl (code_plain code)
move_plain Stopped = refl

author_plain : (side : Side) (reported : Note) → IsPlain (author_text side reported)
author_plain side Nothing = side_plain side
author_plain side (Frame head deed) = side_plain side
author_plain side (Fault code) = side_plain side
author_plain side Stopped = refl

move_front : ReportKey → Side → Note → List ℕ
move_front source side reported =
    (decimal source.line ++ 32 ∷ session_text source.session) ++ (author_text side reported ++ 32 ∷ move_text reported)

front_plain : (source : ReportKey) (side : Side) (reported : Note) → IsPlain (move_front source side reported)
unfolding move_front
front_plain source side reported =
    both (decimal source.line ++ 32 ∷ session_text source.session) (author_text side reported ++ 32 ∷ move_text reported)
    (both (decimal source.line) (32 ∷ session_text source.session) (decimal_plain source.line) (session_plain source.session))
    (both (author_text side reported) (32 ∷ move_text reported) (author_plain side reported) (move_plain reported))

front_stays : (source : ReportKey) (side : Side) (reported : Note) → is_added_line (move_front source side reported ++ 10 ∷ []) ≡ false
unfolding move_front
front_stays source side reported =
    let number = decimal_begins source.line in
    ap (λ (l : List ℕ).
    is_added_line (((l ++ 32 ∷ session_text source.session) ++ (author_text side reported ++ 32 ∷ move_text reported)) ++ 10 ∷ [])) number.same
    ∙ digit_stays number.first
    (((number.rest ++ 32 ∷ session_text source.session) ++ (author_text side reported ++ 32 ∷ move_text reported)) ++ 10 ∷ []) number.digit

move_is : (source : ReportKey) (side : Side) (reported : Note) → move_line source side reported ≡ move_front source side reported ++ 10 ∷ []
unfolding move_line source_text reported_text move_front
move_is source side reported =
    sym (append_assoc (decimal source.line ++ 32 ∷ session_text source.session) (author_text side reported ++ 32 ∷ move_text reported)
    (10 ∷ []))

pub move_stays : (source : ReportKey) (side : Side) (reported : Note) (tail : List ℕ) →
    without_added (move_line source side reported ++ tail) ≡ move_line source side reported ++ without_added tail
move_stays source side reported tail =
    let front = move_front source side reported in
    ap (λ (l : List ℕ). without_added (l ++ tail)) (move_is source side reported)
    ∙ ap without_added (append_assoc front (10 ∷ []) tail)
    ∙ kept_line front tail (plain_unbroken front (front_plain source side reported)) (front_stays source side reported)
    ∙ sym (append_assoc front (10 ∷ []) (without_added tail))
    ∙ ap (λ (l : List ℕ). l ++ without_added tail) (sym (move_is source side reported))

-- ---- an incomplete frame

size_plain : (came : ℕ) (size : Option ℕ) → IsPlain (size_text came size)
size_plain came None = both (decimal came) (codes " of 4 bytes of a header") (decimal_plain came) refl
size_plain came (Some size) =
    both (decimal came ++ codes " of " ++ decimal size) (codes " bytes of a frame")
    (both (decimal came ++ codes " of ") (decimal size)
    (both (decimal came) (codes " of ") (decimal_plain came) refl) (decimal_plain size)) refl

pub part_goes : (session : Option ℕ) (side : Side) (came : ℕ) (size : Option ℕ) (tail : List ℕ) →
    without_added (part_line session side came size ++ tail) ≡ without_added tail
unfolding part_line
part_goes session side came size tail =
    let a = codes "    " ++ session_text session in
    let b = a ++ name_of_side side in
    let c = b ++ codes ": " in
    let front = c ++ size_text came size in
    let plain : IsPlain front =
    both c (size_text came size)
    (both b (codes ": ") (both a (name_of_side side) (session_plain session) (side_plain side)) refl) (size_plain came size) in
    ap without_added (append_assoc front (10 ∷ []) tail) ∙ added_line front tail (plain_unbroken front plain) refl

-- ---- a cut line

pub cut_goes : (number : ℕ) (tail : List ℕ) → without_added (cut_line number ++ tail) ≡ without_added tail
unfolding cut_line
cut_goes number tail =
    let a = codes "    line " ++ decimal number in
    let front = a ++ codes " is cut" in
    let plain : IsPlain front = both a (codes " is cut") (both (codes "    line ") (decimal number) refl (decimal_plain number)) refl in
    ap without_added (append_assoc front (10 ∷ []) tail) ∙ added_line front tail (plain_unbroken front plain) refl

-- ---- the last line

pub summary_stays : (s : Summary) → without_added (summary_line s) ≡ summary_line s
unfolding summary_line
summary_stays s =
    let a = codes "relayed " ++ decimal s.relayed in
    let b = a ++ codes " prn " ++ decimal s.prn in
    let c = b ++ codes " huh " ++ decimal s.huh in
    let front = c ++ codes " faults " ++ decimal s.faults in
    let plain : IsPlain front =
    both (c ++ codes " faults ") (decimal s.faults) (both c (codes " faults ")
    (both (b ++ codes " huh ") (decimal s.huh) (both b (codes " huh ")
    (both (a ++ codes " prn ") (decimal s.prn) (both a (codes " prn ") (decimal_plain s.relayed) refl) (decimal_plain s.prn)) refl)
    (decimal_plain s.huh)) refl) (decimal_plain s.faults) in
    kept_line front [] (plain_unbroken front plain) refl
