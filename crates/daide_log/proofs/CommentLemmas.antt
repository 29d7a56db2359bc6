-- The text of an address, byte by byte.
use Rattle.daide_log.proofs.Common.{◌≡◌, ℕ, zero, suc, ◌+◌, ◌<◌, ◌≤◌, List, [], ◌∷◌, ◌++◌, length, take, get_or, map}
use Rattle.daide_log.proofs.Common.{refl, sym, ap, ◌∙◌, append_assoc, arith, take_more, map-append}
use Rattle.daide_log.specs.RecordItem.{address_text, printable}
use Rattle.daide_log.specs.UtcText.{two_digits, three_digits}

-- one more byte
pub address_more : (line now new bytes : List ℕ) (i : ℕ) → i < length bytes → now ≡ line ++ map printable (take i bytes) →
    new ≡ now ++ printable (get_or bytes i 0) ∷ [] → new ≡ line ++ map printable (take (i + 1) bytes)
address_more line now new bytes i less e f =
    let byte = printable (get_or bytes i 0) in
    f ∙ ap (λ (l : List ℕ). l ++ byte ∷ []) e ∙ append_assoc line (map printable (take i bytes)) (byte ∷ [])
    ∙ ap (λ (l : List ℕ). line ++ l)
    (sym (map-append printable (take i bytes) (get_or bytes i 0 ∷ [])) ∙ ap (map printable) (sym (take_more bytes i 0 less)))

take_few : (n k : ℕ) (l : List ℕ) → k ≤ length l → k ≤ n → (k < length l → k ≡ n) → take k l ≡ take n l
take_few zero zero l h few whole = refl
take_few zero (suc k) l h few whole = absurd (omega (arith, few))
take_few (suc n) zero [] h few whole = refl
take_few (suc n) zero (x ∷ l) h few whole = absurd (omega (arith, whole (omega arith)))
take_few (suc n) (suc k) [] h few whole = absurd (omega (arith, h))
take_few (suc n) (suc k) (x ∷ l) h few whole =
    ap (λ (rest : List ℕ). x ∷ rest)
    (take_few n k l (omega (arith, h)) (omega (arith, few)) (λ less. omega (arith, whole (omega (arith, less)))))

-- all bytes that are shown
pub address_whole : (line new bytes : List ℕ) (k : ℕ) → k ≤ length bytes → k ≤ 64 → (k < length bytes → k ≡ 64) →
    new ≡ line ++ map printable (take k bytes) → new ≡ line ++ address_text bytes
address_whole line new bytes k some few whole e =
    e ∙ ap (λ (l : List ℕ). line ++ map printable l) (take_few 64 k bytes some few whole)

-- ---- a time of day

pub clock_put : (line a b c new minutes : List ℕ) (second fraction : ℕ) → a ≡ line ++ minutes → b ≡ a ++ 58 ∷ [] →
    c ≡ b ++ two_digits second ++ 46 ∷ [] → new ≡ c ++ three_digits fraction →
    new ≡ line ++ (minutes ++ 58 ∷ two_digits second ++ 46 ∷ three_digits fraction)
clock_put line a b c new minutes second fraction e f g h =
    h ∙ ap (λ (l : List ℕ). l ++ three_digits fraction)
    (g ∙ ap (λ (l : List ℕ). l ++ two_digits second ++ 46 ∷ []) (f ∙ ap (λ (l : List ℕ). l ++ 58 ∷ []) e))
    ∙ simp append_assoc

-- ---- the comment after the head, part by part

pub parts_put : (line a b c d e f new p q r s t u : List ℕ) → a ≡ line ++ p → b ≡ a ++ q → c ≡ b ++ r → d ≡ c ++ s →
    e ≡ d ++ t → f ≡ e ++ u → new ≡ f ++ 10 ∷ [] → new ≡ line ++ (p ++ q ++ r ++ s ++ t ++ u) ++ 10 ∷ []
parts_put line a b c d e f new p q r s t u is_a is_b is_c is_d is_e is_f is_new =
    is_new ∙ ap (λ (l : List ℕ). l ++ 10 ∷ [])
    (is_f ∙ ap (λ (l : List ℕ). l ++ u) (is_e ∙ ap (λ (l : List ℕ). l ++ t) (is_d ∙ ap (λ (l : List ℕ). l ++ s)
    (is_c ∙ ap (λ (l : List ℕ). l ++ r) (is_b ∙ ap (λ (l : List ℕ). l ++ q) is_a)))))
    ∙ simp append_assoc
