-- The digits of a number, and their count.
use Rattle.std.proofs.lemmas.Fmt.{decimal_digit, decimal_nonempty, decimal_step, length-decimal-le}
use Rattle.daide_log.proofs.Common.{◌≡◌, ℕ, ◌+◌, ◌/◌, ◌%◌, ◌^◌, ◌<◌, ◌≤◌, List, [], ◌∷◌, ◌++◌, length, length-append}
use Rattle.daide_log.proofs.Common.{append_assoc, ap, sym, ◌∙◌, arith, decimal}

-- a number of 64 bits has at most twenty digits
pub decimal_few : (n : ℕ) → n < 2 ^ 64 → length (decimal n) ≤ 20
decimal_few n fits = length-decimal-le 20 n (omega arith) (omega arith) fits

-- the digits before the last one
pub front_shorter : (n : ℕ) → 10 ≤ n → n < 2 ^ 64 → length (decimal (n / 10)) + 1 ≡ length (decimal n)
front_shorter n two fits =
    sym (ap length (decimal_step n two fits) ∙ length-append (decimal (n / 10)) ((48 + n % 10) ∷ []))

-- there is room for the last digit after those before it
pub room_behind : (line front : List ℕ) (n most : ℕ) → 10 ≤ n → n < 2 ^ 64 →
    length line + length (decimal n) ≤ most → front ≡ line ++ decimal (n / 10) → length front < most
room_behind line front n most two fits room e =
    omega (arith, front_shorter n two fits, ap length e ∙ length-append line (decimal (n / 10)))

-- or for a single digit
pub room_for_one : (line : List ℕ) (n most : ℕ) → n < 2 ^ 64 → length line + length (decimal n) ≤ most →
    length line < most
room_for_one line n most fits room = omega (arith, decimal_nonempty n fits)

-- the last digit after those before it
pub digit_behind : (line front : List ℕ) (n : ℕ) → 10 ≤ n → n < 2 ^ 64 → front ≡ line ++ decimal (n / 10) →
    front ++ (48 + n % 10) ∷ [] ≡ line ++ decimal n
digit_behind line front n two fits e =
    ap (λ (l : List ℕ). l ++ (48 + n % 10) ∷ []) e ∙ append_assoc line (decimal (n / 10)) ((48 + n % 10) ∷ [])
    ∙ ap (λ (l : List ℕ). line ++ l) (sym (decimal_step n two fits))

-- a single digit
pub one_digit : (line : List ℕ) (n : ℕ) → n < 10 → line ++ (48 + n % 10) ∷ [] ≡ line ++ decimal n
one_digit line n one =
    let same : n % 10 ≡ n = omega arith in
    ap (λ (d : ℕ). line ++ (48 + d) ∷ []) same ∙ ap (λ (l : List ℕ). line ++ l) (sym (decimal_digit n one))
