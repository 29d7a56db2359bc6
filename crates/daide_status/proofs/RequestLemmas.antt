-- A line is a request's exactly if it is its text.
use Rattle.std.proofs.Common.{◌≡◌, ℕ, ◌+◌, ◌-◌, ◌*◌, ◌/◌, ◌%◌, ◌<◌, ◌≤◌, ◌^◌, Bool, true, false, ◌&&◌, cond, eqb, leb, get_or, ◌↔◌}
use Rattle.std.proofs.Common.{◌⊎◌, inl, inr, List, [], ◌∷◌, ◌++◌, take, drop, codes, Option, Some, None, option_map}
use Rattle.std.proofs.Common.{refl, sym, ap, ◌∙◌, subst, arith, append_assoc, append-nil}
use Rattle.std.proofs.lemmas.Bool.{leb-true, and_parts}
use Rattle.std.proofs.lemmas.Bool.Decides.{eqb_tells}
use Rattle.std.proofs.lemmas.Fmt.{decimal_digit, decimal_step, decimal_by_steps, first_decimal}
use Rattle.std.proofs.lemmas.List.{take-append-drop}
use Rattle.std.proofs.lemmas.Option.{same_Some}
use Rattle.std.proofs.lemmas.Slice.Eq.{bytes_eq-Decides}
use Rattle.std.specs.Fmt.{decimal}
use Rattle.std.specs.Str.{bytes_eq}
use Rattle.daide_status.specs.declared.request.Format.TheVariants.{Table, Json, Prometheus}
use Rattle.daide_status.specs.declared.request.ControlRequest.{ControlRequest}
use Rattle.daide_status.specs.declared.request.ControlRequest.TheVariants.{Status, Stop, StopNow, StopSession}
use Rattle.daide_status.specs.Requests.{IsRequest, continued_number, request_text, requested_by, session_of_digits, session_stop}

-- a choice that has no other value than this one
chosen : {A : Type 0} (b : Bool) (x : Option A) (a : A) → cond b x None ≡ Some a → (b ≡ true) × (x ≡ Some a)
chosen true x a e = (refl, e)
chosen false x a e = absurd cc

-- ---- from a number to its digits and back

-- the digits after those of a number
continued : (number : ℕ) (digits others : List ℕ) (value : ℕ) → continued_number number digits ≡ Some value →
    continued_number number (digits ++ others) ≡ continued_number value others
continued number [] others value e = ap (λ (n : ℕ). continued_number n others) (same_Some _ _ e)
continued number (c ∷ cs) others value e =
    let both = chosen ((leb 48 c && leb c 57) && leb (10 * number + (c - 48)) 4294967295)
    (continued_number (10 * number + (c - 48)) cs) value e in
    ap (λ (b : Bool). cond b (continued_number (10 * number + (c - 48)) (cs ++ others)) None) both.0
    ∙ continued (10 * number + (c - 48)) cs others value both.1

-- one digit more
one_more : (number digit : ℕ) → digit ≤ 9 → 10 * number + digit ≤ 4294967295 →
    continued_number number ((48 + digit) ∷ []) ≡ Some (10 * number + digit)
one_more number digit small fits = grind (arith, small, fits)

digits_read : (number : ℕ) → number < 2 ^ 64 → number ≤ 4294967295 → continued_number 0 (decimal number) ≡ Some number
digits_read = decimal_by_steps (λ n ds. n ≤ 4294967295 → continued_number 0 ds ≡ Some n)
    (λ n small fits. one_more 0 n (omega (arith, small)) (omega (arith, fits)) ∙ ap (λ (k : ℕ). Some k) (omega arith))
    (λ n ds large before fits.
    continued 0 ds ((48 + n % 10) ∷ []) (n / 10) (before (omega (arith, fits)))
    ∙ one_more (n / 10) (n % 10) (omega arith) (omega (arith, fits))
    ∙ ap (λ (k : ℕ). Some k) (omega arith))

without_zero : (digits : List ℕ) (number : ℕ) → 48 < get_or digits 0 0 → continued_number 0 digits ≡ Some number →
    session_of_digits digits ≡ Some number
without_zero [] number first e = absurd (omega (arith, first))
without_zero (c ∷ cs) number first e = go (eqb_tells c 48)
  where
    go : ((eqb c 48 ≡ true) × (c ≡ 48)) ⊎ ((eqb c 48 ≡ false) × (c ≡ 48 → ⊥)) →
        cond (eqb c 48) None (continued_number 0 (c ∷ cs)) ≡ Some number
    go (inl t) = absurd (omega (arith, first, t.1))
    go (inr t) = ap (λ (b : Bool). cond b None (continued_number 0 (c ∷ cs))) t.0 ∙ e

session_read : (number : ℕ) → 1 ≤ number → number ≤ 4294967295 → session_of_digits (decimal number) ≡ Some number
session_read number some few =
    without_zero (decimal number) number (first_decimal number (omega (arith, some)) (omega (arith, few)))
    (digits_read number (omega (arith, few)) few)

read_back : (request : ControlRequest) → IsRequest request → requested_by (request_text request) ≡ Some request
read_back (Status Table) is = refl
read_back (Status Json) is = refl
read_back (Status Prometheus) is = refl
read_back Stop is = refl
read_back StopNow is = refl
read_back (StopSession number) is =
    ap (λ (o : Option ℕ). option_map (λ (n : ℕ). StopSession n) o) (session_read number is.0 is.1)

-- ---- from digits to their number and back

-- the digits after those of a number above 0
digits_after : (number : ℕ) (digits : List ℕ) (value : ℕ) → 1 ≤ number → number ≤ 4294967295 →
    continued_number number digits ≡ Some value →
    (decimal value ≡ decimal number ++ digits) × (1 ≤ value) × (value ≤ 4294967295)
digits_after n [] k some few e =
    let same : n ≡ k = same_Some _ _ e in
    (ap decimal (sym same) ∙ sym (append-nil (decimal n)), omega (arith, same, some), omega (arith, same, few))
digits_after n (c ∷ cs) k some few e =
    let m : ℕ = 10 * n + (c - 48) in
    let both = chosen ((leb 48 c && leb c 57) && leb m 4294967295) (continued_number m cs) k e in
    let tests = and_parts (leb 48 c && leb c 57) (leb m 4294967295) both.0 in
    let digit = and_parts (leb 48 c) (leb c 57) tests.0 in
    let least : 48 ≤ c = leb-true 48 c digit.0 in
    let most : c ≤ 57 = leb-true c 57 digit.1 in
    let fits : m ≤ 4294967295 = leb-true m 4294967295 tests.1 in
    let after = digits_after m cs k (omega arith) fits both.1 in
    let front : m / 10 ≡ n = omega arith in
    let last : 48 + m % 10 ≡ c = omega arith in (
      after.0 ∙ ap (λ (l : List ℕ). l ++ cs)
          (decimal_step m (omega arith) (omega arith) ∙ ap (λ (d : ℕ). decimal (m / 10) ++ d ∷ []) last
          ∙ ap (λ (d : ℕ). decimal d ++ c ∷ []) front) ∙ append_assoc (decimal n) (c ∷ []) cs,
      after.1,
      after.2,
    )

session_is : (digits : List ℕ) (number : ℕ) → session_of_digits digits ≡ Some number →
    (digits ≡ decimal number) × (1 ≤ number) × (number ≤ 4294967295)
session_is [] number e = absurd cc
session_is (c ∷ cs) number e = go (eqb_tells c 48) e
  where
    go : ((eqb c 48 ≡ true) × (c ≡ 48)) ⊎ ((eqb c 48 ≡ false) × (c ≡ 48 → ⊥)) →
        cond (eqb c 48) None (continued_number 0 (c ∷ cs)) ≡ Some number →
        ((c ∷ cs) ≡ decimal number) × (1 ≤ number) × (number ≤ 4294967295)
    go (inl t) h = absurd (let n : cond true None (continued_number 0 (c ∷ cs)) ≡ Some number = rw t.0 at h in cc)
    go (inr t) h =
        let m : ℕ = 10 * 0 + (c - 48) in
        let both = chosen ((leb 48 c && leb c 57) && leb m 4294967295) (continued_number m cs) number (rw t.0 at h) in
        let tests = and_parts (leb 48 c && leb c 57) (leb m 4294967295) both.0 in
        let digit = and_parts (leb 48 c) (leb c 57) tests.0 in
        let least : 48 ≤ c = leb-true 48 c digit.0 in
        let most : c ≤ 57 = leb-true c 57 digit.1 in
        let after = digits_after m cs number (omega (arith, least, t.1)) (omega arith) both.1 in
        let same : 48 + m ≡ c = omega (arith, least) in (
          sym (after.0 ∙ ap (λ (l : List ℕ). l ++ cs)
              (decimal_digit m (omega (arith, most)) ∙ ap (λ (x : ℕ). x ∷ []) same)),
          after.1,
          after.2,
        )

abbrev IsLineOf : List ℕ → ControlRequest → Type 0
IsLineOf line request = (line ≡ request_text request) × IsRequest request

-- a line that is compared with the text of a request
compared : (line : List ℕ) (one request : ControlRequest) (rest : Option ControlRequest) → IsRequest one →
    (rest ≡ Some request → IsLineOf line request) →
    cond (bytes_eq line (request_text one)) (Some one) rest ≡ Some request → IsLineOf line request
compared line one request rest is next e = go (bytes_eq line (request_text one)) refl e
  where
    go : (b : Bool) → bytes_eq line (request_text one) ≡ b → cond b (Some one) rest ≡ Some request → IsLineOf line request
    go true t h = subst (λ (r : ControlRequest). IsLineOf line r) (same_Some _ _ h)
        ((bytes_eq-Decides line (request_text one)).0 t, is)
    go false t h = next h

session_line : (line : List ℕ) (request : ControlRequest) → session_stop line ≡ Some request → IsLineOf line request
session_line line request e =
    let both = chosen (bytes_eq (take 13 line) (codes "stop session "))
    (option_map (λ (n : ℕ). StopSession n) (session_of_digits (drop 13 line))) request e in
    go ((bytes_eq-Decides (take 13 line) (codes "stop session ")).0 both.0) (session_of_digits (drop 13 line)) refl both.1
  where
    go : take 13 line ≡ codes "stop session " → (o : Option ℕ) → session_of_digits (drop 13 line) ≡ o →
        option_map (λ (n : ℕ). StopSession n) o ≡ Some request → IsLineOf line request
    go front None t h = absurd cc
    go front (Some number) t h =
        let is = session_is (drop 13 line) number t in
        subst (λ (r : ControlRequest). IsLineOf line r) (same_Some _ _ h) (
          (sym (take-append-drop 13 line) ∙ ap (λ (l : List ℕ). l ++ drop 13 line) front
              ∙ ap (λ (l : List ℕ). codes "stop session " ++ l) is.0),
          (is.1, is.2),
        )

line_is : (line : List ℕ) (request : ControlRequest) → requested_by line ≡ Some request → IsLineOf line request
line_is line request =
    compared line (Status Table) request _ tt
    (compared line (Status Json) request _ tt
    (compared line (Status Prometheus) request _ tt
    (compared line Stop request _ tt
    (compared line StopNow request _ tt (session_line line request)))))

pub line_of_request : (line : List ℕ) (request : ControlRequest) →
    (requested_by line ≡ Some request) ↔ ((line ≡ request_text request) × IsRequest request)
line_of_request line request = (
  line_is line request,
  λ is. ap requested_by is.0 ∙ read_back request is.1,
)
