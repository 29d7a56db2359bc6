-- Inserting ERR at any index keeps the balance and the depth of a list.
use Rattle.std.specs.List.{sum_by}
use Rattle.std.proofs.lemmas.List.{take-append-drop}
use Rattle.std.proofs.lemmas.List.Sums.{sum_by-cons, sum_by-append}
use Rattle.daide_grammar.proofs.Common.{◌≡◌, ℕ, ◌≤◌, cond, ◌==◌, List, [], ◌∷◌, ◌++◌, take, drop, Option, None, Some}
use Rattle.daide_grammar.proofs.Common.{refl, sym, ◌∙◌, ap, subst, arith, append_assoc, append-nil, bra, ket, huh, err}
use Rattle.daide_grammar.specs.Balanced.{IsBalanced}
use Rattle.daide_grammar.specs.Depth.{bras, kets, excess, depth_of}
use Rattle.daide_grammar.proofs.Counting.{from_the_end, greatest_prefixes-snoc, bras-snoc, kets-snoc}
use Rattle.daide_grammar.proofs.Counting.{count_on, count_on-append, counted_on, balanced_counted}
use Rattle.daide_grammar.proofs.DepthLemmas.{peak}

-- ---- the brackets

-- ERR does not change the count
err-counts : (n : Option ℕ) (b : List ℕ) → count_on n (err ∷ b) ≡ count_on n b
err-counts None b = refl
err-counts (Some n) b = refl

-- so the list with ERR counts as the list without it
counts-alike : (a b : List ℕ) → count_on (Some 0) (a ++ err ∷ b) ≡ count_on (Some 0) (a ++ b)
counts-alike a b =
    count_on-append (Some 0) a (err ∷ b) ∙ (err-counts (count_on (Some 0) a) b ∙ sym (count_on-append (Some 0) a b))

-- and balances if the list does
err-balanced : (a b : List ℕ) → IsBalanced (a ++ b) → IsBalanced (a ++ err ∷ b)
err-balanced a b h =
    let without = sym (counted_on (a ++ b)) ∙ (balanced_counted (a ++ b)).0 h in
    (balanced_counted (a ++ err ∷ b)).1 (counted_on (a ++ err ∷ b) ∙ (counts-alike a b ∙ without))

-- ERR inserted at an index
pub err-put-in : (place : ℕ) (m : List ℕ) → IsBalanced m → IsBalanced (take place m ++ err ∷ drop place m)
err-put-in place m h = err-balanced (take place m) (drop place m) (subst IsBalanced (sym (take-append-drop place m)) h)

-- ---- the depth

-- a sum to which ERR adds 0
sum-err : (f : ℕ → ℕ) → f err ≡ 0 → (a b : List ℕ) → sum_by f (a ++ err ∷ b) ≡ sum_by f (a ++ b)
sum-err f e a b = omega (arith, e, sum_by-append f a (err ∷ b), sum_by-cons f err b, sum_by-append f a b)

-- ERR is neither bracket
bras-err : (a b : List ℕ) → bras (a ++ err ∷ b) ≡ bras (a ++ b)
bras-err = sum-err (λ t. cond (t == bra) 1 0) refl

kets-err : (a b : List ℕ) → kets (a ++ err ∷ b) ≡ kets (a ++ b)
kets-err = sum-err (λ t. cond (t == ket) 1 0) refl

excess-err : (a b : List ℕ) → excess (a ++ err ∷ b) ≡ excess (a ++ b)
excess-err a b = omega (arith, bras-err a b, kets-err a b)

-- one more token keeps equal counts equal
excess-snoc : (p q : List ℕ) (t : ℕ) → bras p ≡ bras q → kets p ≡ kets q → excess (p ++ t ∷ []) ≡ excess (q ++ t ∷ [])
excess-snoc p q t b k = omega (arith, b, k, bras-snoc p t, bras-snoc q t, kets-snoc p t, kets-snoc q t)

-- a list is a prefix of itself
excess-peak : (p : List ℕ) → excess p ≤ peak p
excess-peak p =
    from_the_end (λ p. excess p ≤ peak p) (omega arith) (λ p t _. omega (arith, greatest_prefixes-snoc p t)) p

-- so the greatest excess of all prefixes is unchanged
peak-err : (a b : List ℕ) → peak (a ++ err ∷ b) ≡ peak (a ++ b)
peak-err a b = from_the_end (λ b. peak (a ++ err ∷ b) ≡ peak (a ++ b)) last more b
  where
    last : peak (a ++ err ∷ []) ≡ peak (a ++ [])
    last =
        let after : excess (a ++ err ∷ []) ≡ excess a = excess-err a [] ∙ ap excess (append-nil a) in
        omega (arith, greatest_prefixes-snoc a err, after, excess-peak a) ∙ ap peak (sym (append-nil a))

    more : (b : List ℕ) (t : ℕ) → peak (a ++ err ∷ b) ≡ peak (a ++ b) →
        peak (a ++ err ∷ (b ++ t ∷ [])) ≡ peak (a ++ (b ++ t ∷ []))
    more b t ih =
        let with = a ++ err ∷ b in
        let without = a ++ b in
        let after = excess-snoc with without t (bras-err a b) (kets-err a b) in
        let next : peak (with ++ t ∷ []) ≡ peak (without ++ t ∷ []) =
        omega (arith, ih, greatest_prefixes-snoc with t, greatest_prefixes-snoc without t, after) in
        ap peak (sym (append_assoc a (err ∷ b) (t ∷ []))) ∙ (next ∙ ap peak (append_assoc a b (t ∷ [])))

-- and HUH around the list has the same depth with ERR as without it
pub huh-err-depth : (place : ℕ) (m : List ℕ) →
    depth_of (huh ∷ bra ∷ ((take place m ++ err ∷ drop place m) ++ ket ∷ [])) ≡ depth_of (huh ∷ bra ∷ (m ++ ket ∷ []))
huh-err-depth place m =
    let front = take place m in
    let back = drop place m in
    let round : List ℕ → ℕ = λ z. peak (huh ∷ bra ∷ z) in
    let whole : front ++ (back ++ ket ∷ []) ≡ m ++ ket ∷ [] =
    sym (append_assoc front back (ket ∷ [])) ∙ ap (λ z. z ++ ket ∷ []) (take-append-drop place m) in
    ap round (append_assoc front (err ∷ back) (ket ∷ []))
    ∙ (peak-err (huh ∷ bra ∷ front) (back ++ ket ∷ []) ∙ ap round whole)
