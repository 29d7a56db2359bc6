-- The decimal digits of a number, one after the other.
use Rattle.std.proofs.Common.{length-append}
use Rattle.std.specs.Int.RustNames.{unsigned_abs}
use Rattle.daide_token.proofs.Common.{ℤ, pos, negsuc, Bool, true, false, ◌≡◌, ℕ, ◌+◌, ◌/◌, ◌%◌, ◌^◌, ◌<◌, ◌≤◌, List, []}
use Rattle.daide_token.proofs.Common.{◌∷◌, ◌++◌, length, append_assoc, ap, sym, ◌∙◌, arith, ints, to_z-of_z, w16}
use Rattle.daide_token.proofs.Common.{signed_decimal, decimal}
use lib.Signed.{lt_z}
use mir.Val.{SFits, of_z, to_z}
use Rattle.std.proofs.lemmas.Fmt.{decimal_digit, decimal_step, length-decimal-le}

-- the digits before the last one are one fewer
pub front_shorter : (n : ℕ) → 10 ≤ n → n < 2 ^ 64 → length (decimal (n / 10)) + 1 ≡ length (decimal n)
front_shorter n two fits =
    sym (ap length (decimal_step n two fits) ∙ length-append (decimal (n / 10)) ((48 + n % 10) ∷ []))

-- the last digit after those before it
pub digit_behind : (before front : List ℕ) (n : ℕ) → 10 ≤ n → n < 2 ^ 64 → front ≡ before ++ decimal (n / 10) →
    front ++ (48 + n % 10) ∷ [] ≡ before ++ decimal n
digit_behind before front n two fits e =
    ap (λ (l : List ℕ). l ++ (48 + n % 10) ∷ []) e ∙ append_assoc before (decimal (n / 10)) ((48 + n % 10) ∷ [])
    ∙ ap (λ (l : List ℕ). before ++ l) (sym (decimal_step n two fits))

-- the only digit
pub only_digit : (before : List ℕ) (n : ℕ) → n < 10 → before ++ (48 + n) ∷ [] ≡ before ++ decimal n
only_digit before n one = ap (λ (l : List ℕ). before ++ l) (sym (decimal_digit n one))

pub only_length : (n : ℕ) → n < 10 → length (decimal n) ≡ 1
only_length n one = ap length (decimal_digit n one)

-- a number below 10000 has at most four digits
pub four_digits : (n : ℕ) → n < 10000 → length (decimal n) ≤ 4
four_digits n few = length-decimal-le 4 n (omega arith) (omega arith) (omega arith)

-- ---- a number with its sign

pub value_is : (n : ℤ) (v : ℕ) → SFits w16 n → v ≡ unsigned_abs (to_z w16 (of_z w16 n)) → v ≡ unsigned_abs n
value_is n v fits e = simp to_z-of_z at e

sign_is : (n : ℤ) (b : Bool) → SFits w16 n → lt_z (to_z w16 (of_z w16 n)) (pos 0) ≡ b → lt_z n (pos 0) ≡ b
sign_is n b fits e = simp to_z-of_z at e

no_sign : (n : ℕ) → lt_z (pos n) (pos 0) ≡ true → ⊥
no_sign n e = grind (arith, ints)

pub negative : (n : ℤ) (v : ℕ) → SFits w16 n → v ≡ unsigned_abs (to_z w16 (of_z w16 n)) →
    lt_z (to_z w16 (of_z w16 n)) (pos 0) ≡ true → 45 ∷ decimal v ≡ signed_decimal n
negative (pos n) v fits e less = absurd (no_sign n (sign_is (pos n) true fits less))
negative (negsuc n) v fits e less = ap (λ (m : ℕ). 45 ∷ decimal m) (value_is (negsuc n) v fits e)

pub positive : (n : ℤ) (v : ℕ) → SFits w16 n → v ≡ unsigned_abs (to_z w16 (of_z w16 n)) →
    lt_z (to_z w16 (of_z w16 n)) (pos 0) ≡ false → decimal v ≡ signed_decimal n
positive (pos n) v fits e less = ap decimal (value_is (pos n) v fits e)
positive (negsuc n) v fits e less = absurd (cc (sign_is (negsuc n) false fits less))
