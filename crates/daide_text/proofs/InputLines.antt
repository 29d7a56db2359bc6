-- The lines of an input, by its first line.
use Rattle.std.proofs.Common.{◌≡◌, ◌==◌, not, ℕ, zero, suc, ◌<◌, ◌≤◌, Bool, true, false, List, [], ◌∷◌}
use Rattle.std.proofs.Common.{◌++◌, length, take, get_or, append-nil, Option, Some, None, refl, sym, ◌∙◌, ap}
use Rattle.std.proofs.Common.{arith}
use Rattle.std.specs.List.{list_all}
use Rattle.std.specs.Io.KnownBytes.{Consumes, IsAtEnd}
use Rattle.daide_text.specs.Frames.{before_lines, text_lines, longest_text_line}
use Rattle.daide_text.specs.Lines.{IsLongLine, IsNoLine, LeavesLines, is_no_end}
use Rattle.daide_text.proofs.Cuts.{both}

no_end : (c : ℕ) → is_no_end c ≡ true → (c == 10) ≡ false
no_end c = go (c == 10)
  where
    go : (b : Bool) → not b ≡ true → b ≡ false
    go true e = absurd (cc)
    go false e = refl

one_more : (c : ℕ) (input : List ℕ) (lines : List (List ℕ)) → is_no_end c ≡ true → text_lines input ≡ lines →
    text_lines (c ∷ input) ≡ before_lines c lines
one_more c input lines e f = rw (no_end c e) (ap (before_lines c) f)

ended : (line rest : List ℕ) → list_all is_no_end line ≡ true → text_lines (line ++ 10 ∷ rest) ≡ line ∷ text_lines rest
ended [] rest h = refl
ended (c ∷ line) rest h =
    let p = both (is_no_end c) (list_all is_no_end line) h in
    one_more c (line ++ 10 ∷ rest) (line ∷ text_lines rest) p.0 (ended line rest p.1)

last : (c : ℕ) (line : List ℕ) → list_all is_no_end (c ∷ line) ≡ true → text_lines (c ∷ line) ≡ (c ∷ line) ∷ []
last c [] h = one_more c [] [] (both (is_no_end c) true h).0 refl
last c (d ∷ line) h =
    let p = both (is_no_end c) (list_all is_no_end (d ∷ line)) h in
    one_more c (d ∷ line) ((d ∷ line) ∷ []) p.0 (last d line p.1)

-- lines whose first has at least this many bytes
abbrev BeginLong : ℕ → List ℕ → Type 0
BeginLong n input =
    (line : List ℕ) × (lines : List (List ℕ)) × (text_lines input ≡ line ∷ lines) × (n ≤ length line)

first_long : (c : ℕ) (input : List ℕ) → is_no_end c ≡ true → (lines : List (List ℕ)) → text_lines input ≡ lines →
    BeginLong 1 (c ∷ input)
first_long c input e [] f = (c ∷ [], [], one_more c input [] e f, omega arith)
first_long c input e (line ∷ lines) f = (c ∷ line, lines, one_more c input (line ∷ lines) e f, omega arith)

long : (c : ℕ) (line rest : List ℕ) → list_all is_no_end (c ∷ line) ≡ true →
    BeginLong (suc (length line)) ((c ∷ line) ++ rest)
long c [] rest h = first_long c rest (both (is_no_end c) true h).0 (text_lines rest) refl
long c (d ∷ line) rest h =
    let p = both (is_no_end c) (list_all is_no_end (d ∷ line)) h in
    let r = long d line rest p.1 in
    (c ∷ r.0, r.1, one_more c ((d ∷ line) ++ rest) (r.0 ∷ r.1) p.0 r.2, omega (arith, r.3))

-- the bytes read, and one more
after_end : (line input now rest : List ℕ) → input ≡ line ++ now → now ≡ 10 ∷ rest →
    list_all is_no_end line ≡ true → text_lines input ≡ line ∷ text_lines rest
after_end line input now rest given more all =
    ap text_lines (given ∙ ap (λ (l : List ℕ). line ++ l) more) ∙ ended line rest all

pub line_ended : (old now new : Option (List ℕ)) (line : List ℕ) (c : ℕ) → Consumes old now line →
    Consumes now new (c ∷ []) → c ≡ 10 → list_all is_no_end line ≡ true → LeavesLines old new line
line_ended None now new line c given more e all = tt
line_ended (Some input) None new line c given more e all = absurd given
line_ended (Some input) (Some now) None line c given more e all = absurd more
line_ended (Some input) (Some now) (Some rest) line c given more e all =
    after_end line input now rest given (more ∙ ap (λ (d : ℕ). d ∷ rest) e) all

nothing_left : (input line now rest : List ℕ) → input ≡ line ++ now → now ≡ [] ++ rest → rest ≡ [] → input ≡ line
nothing_left input line now rest given more e =
    given ∙ ap (λ (l : List ℕ). line ++ l) (more ∙ e) ∙ append-nil line

last_of : (input line : List ℕ) → 0 < length line → list_all is_no_end line ≡ true → input ≡ line →
    text_lines input ≡ line ∷ text_lines []
last_of input [] some all e = absurd (omega arith)
last_of input (c ∷ line) some all e = ap text_lines e ∙ last c line all

pub line_last : (old now new : Option (List ℕ)) (line : List ℕ) → Consumes old now line → Consumes now new [] →
    IsAtEnd new → 0 < length line → list_all is_no_end line ≡ true → LeavesLines old new line
line_last None now new line given more e some all = tt
line_last (Some input) None new line given more e some all = absurd given
line_last (Some input) (Some now) None line given more e some all = absurd more
line_last (Some input) (Some now) (Some rest) line given more e some all =
    last_of input line some all (nothing_left input line now rest given more e)
    ∙ ap (λ (l : List ℕ). line ∷ text_lines l) (sym e)

empty : (line : List ℕ) → length line ≡ 0 → line ≡ []
empty [] e = refl
empty (c ∷ line) e = absurd (omega (arith, e))

pub no_line : (old now new : Option (List ℕ)) (line : List ℕ) → Consumes old now line → Consumes now new [] →
    IsAtEnd new → length line ≡ 0 → IsNoLine old
no_line None now new line given more e none = tt
no_line (Some input) None new line given more e none = absurd given
no_line (Some input) (Some now) None line given more e none = absurd more
no_line (Some input) (Some now) (Some rest) line given more e none =
    ap text_lines (nothing_left input line now rest given more e ∙ empty line none)

too_long : (input line now : List ℕ) → input ≡ line ++ now → list_all is_no_end line ≡ true →
    longest_text_line < length line → IsLongLine (Some input)
too_long input [] now given all h = absurd (omega arith)
too_long input (c ∷ line) now given all h =
    let r = long c line now all in
    (r.0, r.1, omega (arith, h, r.3), ap text_lines given ∙ r.2)

pub line_too_long : (old now : Option (List ℕ)) (line : List ℕ) → Consumes old now line →
    list_all is_no_end line ≡ true → longest_text_line < length line → IsLongLine old
line_too_long None now line given all h = (line, [], h, tt)
line_too_long (Some input) None line given all h = absurd given
line_too_long (Some input) (Some now) line given all h = too_long input line now given all h

-- a read of one byte into a buffer of one
pub byte_read : (count : ℕ) (buf : List ℕ) (c : ℕ) → 0 < count → length buf ≡ 1 → get_or buf 0 0 ≡ c →
    take count buf ≡ c ∷ []
byte_read zero buf c some one e = absurd (omega arith)
byte_read (suc n) [] c some one e = absurd (omega arith)
byte_read (suc zero) (b ∷ []) c some one e = ap (λ (d : ℕ). d ∷ []) e
byte_read (suc (suc n)) (b ∷ []) c some one e = ap (λ (d : ℕ). d ∷ []) e
byte_read (suc n) (b ∷ d ∷ buf) c some one e = absurd (omega (arith, one))
