-- Decimal digits that are not the number of a token.
use Rattle.std.proofs.Common.{◌≡◌, ◌&&◌, ◌+◌, ◌-◌, ◌*◌, ℕ, ◌<◌, ◌≤◌, nat_le, nat_lt, Bool, true, false, List, [], ◌∷◌}
use Rattle.std.proofs.Common.{length, None, Some, Option, if◌then◌else◌, refl, arith}
use Rattle.std.specs.List.{list_all}
use Rattle.std.proofs.lemmas.Bool.Decides.{nat_tests}
use Rattle.daide_text.specs.Word.{greatest_magnitude, is_digit, magnitude, value_after}

-- one more digit does not make a number smaller
value_grows : (n : ℕ) (digits : List ℕ) → n ≤ value_after n digits
value_grows n [] = omega arith
value_grows n (c ∷ digits) = omega (arith, value_grows (n * 10 + (c - 48)) digits)

unfit : (some all few : Bool) (value : ℕ) → few ≡ false →
    ◌≡◌ {A = Option ℕ} None (if some && (all && few) then Some value else None)
unfit true true false value e = refl
unfit true false false value e = refl
unfit false all false value e = refl
unfit some all true value e = absurd (cc)

over : (value : ℕ) → greatest_magnitude < value → nat_le value greatest_magnitude ≡ false
over value h = grind (arith, nat_tests)

-- a number that is too great before its last digit is too great with it
pub too_great : (digits : List ℕ) (value c : ℕ) (rest : List ℕ) → value_after 0 digits ≡ value_after value (c ∷ rest) →
    999 < value → ◌≡◌ {A = Option ℕ} None (magnitude digits)
too_great digits value c rest e h =
    unfit (nat_lt 0 (length digits)) (list_all is_digit digits) (nat_le (value_after 0 digits) greatest_magnitude)
    (value_after 0 digits)
    (over (value_after 0 digits) (omega (arith, e, value_grows (value * 10 + (c - 48)) rest)))

pub too_great_rest : (digits : List ℕ) (value : ℕ) (rest : List ℕ) → value_after 0 digits ≡ value_after value rest →
    0 < length rest → 999 < value → ◌≡◌ {A = Option ℕ} None (magnitude digits)
too_great_rest digits value [] e some h = absurd (omega arith)
too_great_rest digits value (c ∷ rest) e some h = too_great digits value c rest e h
