-- The lines of a text, and those that are kept.
use Rattle.std.proofs.Common.{◌≡◌, ◌≢◌, ℕ, ◌≤◌, ◌&&◌, ◌||◌, ◌⊎◌, inl, inr, cond, eqb}
use Rattle.std.proofs.Common.{Bool, true, false, not, List, [], ◌∷◌, ◌++◌, take, filter, refl, ap, ◌∙◌, arith}
use Rattle.std.proofs.Common.{append_assoc}
use Rattle.std.specs.List.{concat}
use Rattle.std.specs.Str.{bytes_eq}
use Rattle.std.proofs.lemmas.Bool.Decides.{eqb_tells}
use Rattle.daide_log_lines.specs.LogLine.{IsUnbroken}
use Rattle.daide_log_laws.specs.Added.{lines_in, before_first, is_added_line, without_added}

eqb_no : (a b : ℕ) → a ≢ b → eqb a b ≡ false
eqb_no a b apart = go (eqb_tells a b)
  where
    go : ((eqb a b ≡ true) × (a ≡ b)) ⊎ ((eqb a b ≡ false) × (a ≢ b)) → eqb a b ≡ false
    go (inl t) = absurd (apart t.1)
    go (inr t) = t.0

-- the first line of a text, and the lines after it
pub first_line : (line text : List ℕ) → IsUnbroken line →
    lines_in (line ++ 10 ∷ text) ≡ (line ++ 10 ∷ []) ∷ lines_in text
first_line [] text whole = refl
first_line (byte ∷ line) text whole =
    ap (λ (b : Bool). cond b ((10 ∷ []) ∷ lines_in (line ++ 10 ∷ text)) (before_first byte (lines_in (line ++ 10 ∷ text))))
    (eqb_no byte 10 whole.0)
    ∙ ap (before_first byte) (first_line line text whole.1)

abbrev stay : List (List ℕ) → List ℕ
stay lines = concat (filter (λ line. not (is_added_line line)) lines)

abbrev stay_by : Bool → List ℕ → List (List ℕ) → List ℕ
stay_by added line lines =
    concat (cond (not added) (line ∷ filter (λ line. not (is_added_line line)) lines) (filter (λ line. not (is_added_line line)) lines))

pub kept_line : (line text : List ℕ) → IsUnbroken line → is_added_line (line ++ 10 ∷ []) ≡ false →
    without_added (line ++ 10 ∷ text) ≡ line ++ 10 ∷ without_added text
kept_line line text whole kept =
    ap stay (first_line line text whole)
    ∙ ap (λ (b : Bool). stay_by b (line ++ 10 ∷ []) (lines_in text)) kept
    ∙ append_assoc line (10 ∷ []) (without_added text)

pub added_line : (line text : List ℕ) → IsUnbroken line → is_added_line (line ++ 10 ∷ []) ≡ true →
    without_added (line ++ 10 ∷ text) ≡ without_added text
added_line line text whole added =
    ap stay (first_line line text whole)
    ∙ ap (λ (b : Bool). stay_by b (line ++ 10 ∷ []) (lines_in text)) added

-- a line that begins with a digit is kept
pub digit_stays : (first : ℕ) (line : List ℕ) → 48 ≤ first → is_added_line (first ∷ line) ≡ false
digit_stays first line digit =
    ap (λ (b : Bool). (b && bytes_eq (take 3 line) (32 ∷ 32 ∷ 32 ∷ [])) || (eqb first 35 && bytes_eq (take 0 line) []))
    (eqb_no first 32 (λ e. absurd (omega (arith, e, digit))))
    ∙ ap (λ (b : Bool). b && bytes_eq (take 0 line) []) (eqb_no first 35 (λ e. absurd (omega (arith, e, digit))))
