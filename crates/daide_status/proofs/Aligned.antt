-- A number that is written with a width is aligned to the right.
use Rattle.std.proofs.Common.{zero, suc, true, ◌&&◌, if◌then◌else◌, ◌≡◌, ℕ, ◌-◌, ◌^◌, ◌++◌, false, List, [], ◌∷◌, length, refl, sym, ap, ◌∙◌, arith, rules}
use Rattle.std.specs.Prelude.{◌==◌, codes}
use Rattle.std.proofs.Math.Nat.{sub_self}
use Rattle.std.proofs.lemmas.List.{append-nil}
use Rattle.std.specs.List.{repeat}
use Rattle.std.specs.Fmt.{decimal, format_spec, styled_decimal, padded, padded_integral, char_count, styled_text, take_chars}
use Rattle.daide_status.specs.Pieces.{right_aligned}

none_after : (p : ℕ) (t : List ℕ) → t ++ repeat (p - p) (32 ∷ []) ≡ t
none_after p t = ap (λ k. t ++ repeat k (32 ∷ [])) (sub_self p) ∙ append-nil t

is_some_width : (w : ℕ) → (suc w == 0) ≡ false
is_some_width w = search rules

pub aligned : (width n : ℕ) → styled_decimal (format_spec 32 3 0 width (2 ^ 64 - 1)) n ≡ right_aligned width (decimal n)
unfolding padded_integral char_count lib.Utf8.encode
aligned zero n =
    let none : 0 - length (decimal n) ≡ 0 = omega arith in
    sym (ap (λ k. repeat k (32 ∷ []) ++ decimal n) none)
aligned (suc w) n =
    let p : ℕ = suc w - length (decimal n) - 0 - 0 in
    let same : p ≡ suc w - length (decimal n) = omega arith in
    let text : List ℕ = decimal n in
    let spaces : ℕ → List ℕ = λ k. repeat {A = ℕ} k (32 ∷ []) in
    ap (λ b. if b && true && true then text else padded_integral (format_spec 32 3 0 (suc w) (2 ^ 64 - 1)) false [] text) (is_some_width w)
    ∙ ap (λ t. ((spaces p ++ []) ++ []) ++ [] ++ t) (none_after p text)
    ∙ ap (λ h. h ++ text) (append-nil _ ∙ append-nil _ ∙ append-nil (spaces p))
    ∙ ap (λ k. spaces k ++ text) same

pub dashed : (width : ℕ) → styled_text (format_spec 32 3 0 width (2 ^ 64 - 1)) (codes "-") ≡ right_aligned width (codes "-")
unfolding padded char_count take_chars lib.Utf8.encode
dashed zero = refl
dashed (suc w) =
    let p : ℕ = suc w - 1 in
    let spaces : ℕ → List ℕ = λ k. repeat {A = ℕ} k (32 ∷ []) in
    ap (λ b. if b && true then codes "-" else padded (format_spec 32 3 0 (suc w) (2 ^ 64 - 1)) (codes "-")) (is_some_width w)
    ∙ ap (λ t. spaces p ++ t) (none_after p (codes "-"))
