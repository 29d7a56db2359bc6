-- Brackets counted from left to right.
use Rattle.std.proofs.Common.{add-one}
use Rattle.std.specs.List.{list_any}
use Rattle.std.proofs.lemmas.List.{map-append}
use Rattle.std.proofs.lemmas.List.Folds.{list_any-append}
use Rattle.std.proofs.lemmas.Grind.{fold-append}
use Rattle.std.proofs.Math.Bool.{or-false}
use Rattle.daide_grammar.proofs.Common.{◌≡◌, ◌≢◌, ℕ, zero, suc, ◌+◌, ◌-◌, ◌≤◌, max, Bool, true, false, ◌||◌, nat_lt}
use Rattle.daide_grammar.proofs.Common.{cond, List, [], ◌∷◌, ◌++◌, map, Option, None, Some, refl, sym, ◌∙◌, ap, subst}
use Rattle.daide_grammar.proofs.Common.{arith, append_assoc, append-nil, if◌then◌else◌, ◌↔◌, eqb-true, eq-eqb}
use Rattle.daide_grammar.proofs.Common.{nat_tests, bra, ket, begins_with_prn, no-yes}
use Rattle.daide_grammar.specs.Balanced.{IsBalanced, empty, plain, joined, bracketed}
use Rattle.daide_grammar.specs.Depth.{bras, kets, excess, prefixes, has_unmatched_ket, greatest, depth_of}
use Rattle.daide_grammar.specs.Table.Brackets.{is_bra, is_ket, excess_or_none, count_one}

-- an induction from the end of a list
pub from_the_end : (P : List ℕ → Type 0) → P [] → ((p : List ℕ) (t : ℕ) → P p → P (p ++ t ∷ [])) → (p : List ℕ) → P p
from_the_end P none more p = go [] p none
  where
    go : (done left : List ℕ) → P done → P (done ++ left)
    go done [] h = rw append-nil h
    go done (t ∷ left) h = subst P (append_assoc done (t ∷ []) left) (go (done ++ t ∷ []) left (more done t h))

-- the prefixes of a list with one more token
pub prefixes-snoc : (p : List ℕ) (t : ℕ) → prefixes (p ++ t ∷ []) ≡ prefixes p ++ (p ++ t ∷ []) ∷ []
prefixes-snoc [] t = refl
prefixes-snoc (x ∷ p) t =
    ap (λ (ps : List (List ℕ)). [] ∷ map (λ q. x ∷ q) ps) (prefixes-snoc p t)
    ∙ ap (λ (ps : List (List ℕ)). [] ∷ ps) (map-append (λ q. x ∷ q) (prefixes p) ((p ++ t ∷ []) ∷ []))

-- a list with one more token has an unmatched KET if the list had one, or if KET now outnumber BRA
pub has_unmatched_ket-snoc : (p : List ℕ) (t : ℕ) →
    has_unmatched_ket (p ++ t ∷ []) ≡ (has_unmatched_ket p || nat_lt (bras (p ++ t ∷ [])) (kets (p ++ t ∷ [])))
has_unmatched_ket-snoc p t =
    let early : List ℕ → Bool = λ q. nat_lt (bras q) (kets q) in
    ap (list_any early) (prefixes-snoc p t)
    ∙ (list_any-append early (prefixes p) ((p ++ t ∷ []) ∷ [])
    ∙ ap (λ b. has_unmatched_ket p || b) (or-false (early (p ++ t ∷ []))))

-- the greatest of a list with one more number
greatest-snoc : (ns : List ℕ) (n : ℕ) → greatest (ns ++ n ∷ []) ≡ max (greatest ns) n
greatest-snoc [] n = omega arith
greatest-snoc (m ∷ ns) n = omega (arith, greatest-snoc ns n)

-- the greatest excess of all prefixes of a list with one more token
pub greatest_prefixes-snoc : (p : List ℕ) (t : ℕ) →
    greatest (map excess (prefixes (p ++ t ∷ []))) ≡ max (greatest (map excess (prefixes p))) (excess (p ++ t ∷ []))
greatest_prefixes-snoc p t =
    ap (λ (ps : List (List ℕ)). greatest (map excess ps)) (prefixes-snoc p t)
    ∙ (ap greatest (map-append excess (prefixes p) ((p ++ t ∷ []) ∷ []))
    ∙ greatest-snoc (map excess (prefixes p)) (excess (p ++ t ∷ [])))

-- the depth of a list with one more token
pub depth_of-snoc : (p : List ℕ) (t : ℕ) → begins_with_prn (p ++ t ∷ []) ≡ false →
    depth_of (p ++ t ∷ []) ≡ max (greatest (map excess (prefixes p))) (excess (p ++ t ∷ []))
depth_of-snoc p t h =
    ap (λ b. if b then 0 else greatest (map excess (prefixes (p ++ t ∷ [])))) h ∙ greatest_prefixes-snoc p t

-- the numbers of BRA and KET with one more token
pub bras-snoc : (p : List ℕ) (t : ℕ) → bras (p ++ t ∷ []) ≡ bras p + cond (is_bra t) 1 0
bras-snoc p t = fold-append _ _ p (t ∷ [])

pub kets-snoc : (p : List ℕ) (t : ℕ) → kets (p ++ t ∷ []) ≡ kets p + cond (is_ket t) 1 0
kets-snoc p t = fold-append _ _ p (t ∷ [])

-- a list without an unmatched KET has at most as many KET as BRA
pub kets_le_bras : (p : List ℕ) → has_unmatched_ket p ≡ false → kets p ≤ bras p
kets_le_bras p = from_the_end (λ p. has_unmatched_ket p ≡ false → kets p ≤ bras p) (λ _. omega arith) (λ p t _ h. go p t h) p
  where
    go : (p : List ℕ) (t : ℕ) → has_unmatched_ket (p ++ t ∷ []) ≡ false → kets (p ++ t ∷ []) ≤ bras (p ++ t ∷ [])
    go p t h =
        let both : (has_unmatched_ket p || nat_lt (bras (p ++ t ∷ [])) (kets (p ++ t ∷ []))) ≡ false =
        sym (has_unmatched_ket-snoc p t) ∙ h in
        at_most (bras (p ++ t ∷ [])) (kets (p ++ t ∷ [])) (has_unmatched_ket p) both
      where
        at_most : (a b : ℕ) (c : Bool) → (c || nat_lt a b) ≡ false → b ≤ a
        at_most a b true e = absurd cc
        at_most a b false e = grind (arith, nat_tests)

-- the count after one more token, over plain numbers and tests
counted_numbers : (early opens closes : Bool) (b k : ℕ) → (early ≡ false → k ≤ b) → (opens ≡ true → closes ≡ false)
    → (if (early || nat_lt (b + cond opens 1 0) (k + cond closes 1 0)) then None
    else Some ((b + cond opens 1 0) - (k + cond closes 1 0)))
    ≡ count_one opens closes (if early then None else Some (b - k))
counted_numbers true opens closes b k le one = refl
counted_numbers false true true b k le one = let f : true ≡ false = one refl in absurd cc
counted_numbers false true false b k le one = grind (arith, nat_tests, le refl)
counted_numbers false false true b k le one = go (b - k) refl
  where
    go : (n : ℕ) → b - k ≡ n →
        (if (false || nat_lt (b + 0) (k + 1)) then None else Some ((b + 0) - (k + 1)))
        ≡ count_one false true (Some (b - k))
    go zero e = rw e (grind (arith, nat_tests, le refl))
    go (suc n) e = rw e (grind (arith, nat_tests, le refl))
counted_numbers false false false b k le one = grind (arith, nat_tests, le refl)

-- no token is both brackets
pub one_bracket : (t : ℕ) → is_bra t ≡ true → is_ket t ≡ false
one_bracket t e = grind (arith, nat_tests)

-- one more token counts as in `count_one`
pub excess_or_none-snoc : (p : List ℕ) (t : ℕ) → excess_or_none (p ++ t ∷ []) ≡ count_one (is_bra t) (is_ket t) (excess_or_none p)
excess_or_none-snoc p t =
    rw (has_unmatched_ket-snoc p t, bras-snoc p t, kets-snoc p t)
    (counted_numbers (has_unmatched_ket p) (is_bra t) (is_ket t) (bras p) (kets p) (kets_le_bras p) (one_bracket t))

-- the count after more tokens
abbrev pub count_on : Option ℕ → List ℕ → Option ℕ
count_on n [] = n
count_on n (t ∷ m) = count_on (count_one (is_bra t) (is_ket t) n) m

-- the count after two lists, concatenated
pub count_on-append : (n : Option ℕ) (a b : List ℕ) → count_on n (a ++ b) ≡ count_on (count_on n a) b
count_on-append n [] b = refl
count_on-append n (t ∷ a) b = count_on-append (count_one (is_bra t) (is_ket t) n) a b

-- a count of None stays None
count_on_none : (m : List ℕ) → count_on None m ≡ None
count_on_none [] = refl
count_on_none (t ∷ m) = count_on_none m

-- the count by prefixes equals the count from left to right
pub counted_on : (p : List ℕ) → excess_or_none p ≡ count_on (Some 0) p
counted_on p =
    from_the_end (λ p. excess_or_none p ≡ count_on (Some 0) p) refl more p
  where
    more : (p : List ℕ) (t : ℕ) → excess_or_none p ≡ count_on (Some 0) p →
        excess_or_none (p ++ t ∷ []) ≡ count_on (Some 0) (p ++ t ∷ [])
    more p t h =
        excess_or_none-snoc p t ∙ (ap (count_one (is_bra t) (is_ket t)) h ∙ sym (count_on-append (Some 0) p (t ∷ [])))

-- a token other than a bracket does not change the count
plain_counts : (t n : ℕ) → t ≢ bra → t ≢ ket → count_on (Some n) (t ∷ []) ≡ Some n
plain_counts t n b k = go (is_bra t) (is_ket t) refl refl
  where
    go : (opens closes : Bool) → is_bra t ≡ opens → is_ket t ≡ closes → count_one opens closes (Some n) ≡ Some n
    go true closes x y = absurd (b (eqb-true t bra x))
    go false true x y = absurd (k (eqb-true t ket y))
    go false false x y = refl

-- a balanced list does not change the count
pub balanced_counts : {m : List ℕ} → IsBalanced m → (n : ℕ) → count_on (Some n) m ≡ Some n
balanced_counts empty n = refl
balanced_counts (plain t b k) n = plain_counts t n b k
balanced_counts (joined a b x y) n =
    count_on-append (Some n) a b ∙ (ap (λ c. count_on c b) (balanced_counts x n) ∙ balanced_counts y n)
balanced_counts (bracketed a x) n =
    count_on-append (Some (n + 1)) a (ket ∷ [])
    ∙ (ap (λ c. count_on c (ket ∷ [])) (balanced_counts x (n + 1)) ∙ rw add-one refl)

-- balanced lists, the first k of them each followed by a KET
abbrev Parts : ℕ → List ℕ → Type 0
Parts zero m = IsBalanced m
Parts (suc k) m = (a b : List ℕ) × (m ≡ a ++ ket ∷ b) × IsBalanced a × Parts k b

-- a balanced list in front extends the first of the balanced lists
joined_parts : (k : ℕ) (c m : List ℕ) → IsBalanced c → Parts k m → Parts k (c ++ m)
joined_parts zero c m x y = joined c m x y
joined_parts (suc k) c m x (a, b, e, y, more) =
    (c ++ a, b, ap (λ z. c ++ z) e ∙ sym (append_assoc c a (ket ∷ b)), joined c a x y, more)

-- a list that counts down from k to 0 has this form
counts_parts : (m : List ℕ) (k : ℕ) → count_on (Some k) m ≡ Some 0 → Parts k m
counts_parts [] zero e = empty
counts_parts [] (suc k) e = absurd cc
counts_parts (t ∷ m) k e = go (is_bra t) (is_ket t) refl refl k e (counts_parts m)
  where
    go : (opens closes : Bool) → is_bra t ≡ opens → is_ket t ≡ closes → (k : ℕ) → count_on (Some k) (t ∷ m) ≡ Some 0 →
        ((k : ℕ) → count_on (Some k) m ≡ Some 0 → Parts k m) → Parts k (t ∷ m)
    go true closes x y k e ih =
        let deeper : count_on (Some (suc k)) m ≡ Some 0 = rw (x, count_on, add-one) at e in
        let inner = ih (suc k) deeper in
        let whole : t ∷ m ≡ (bra ∷ (inner.0 ++ ket ∷ [])) ++ inner.1 =
        ap (λ (z : ℕ). z ∷ m) (eqb-true t bra x)
        ∙ (ap (λ z. bra ∷ z) (inner.2 ∙ sym (append_assoc inner.0 (ket ∷ []) inner.1))) in
        subst (Parts k) (sym whole)
        (joined_parts k (bra ∷ (inner.0 ++ ket ∷ [])) inner.1 (bracketed inner.0 inner.3) inner.4)
    go false true x y zero e ih =
        let down : count_on None m ≡ Some 0 = rw (x, y, count_on) at e in
        let none : ◌≡◌ {A = Option ℕ} None (Some 0) = sym (count_on_none m) ∙ down in
        absurd cc
    go false true x y (suc k) e ih =
        ([], m, ap (λ (z : ℕ). z ∷ m) (eqb-true t ket y), empty, ih k (rw (x, y, count_on) at e))
    go false false x y k e ih =
        let word =
        plain t (λ q. no-yes (is_bra t) (eq-eqb t bra q) x) (λ q. no-yes (is_ket t) (eq-eqb t ket q) y) in
        joined_parts k (t ∷ []) m word (ih k (rw (x, y, count_on) at e))

-- a list is balanced exactly if no prefix has an unmatched KET and nothing is left open
pub balanced_counted : (m : List ℕ) → IsBalanced m ↔ (excess_or_none m ≡ Some 0)
balanced_counted m = ((λ x. counted_on m ∙ balanced_counts x 0), (λ e. counts_parts m 0 (sym (counted_on m) ∙ e)))
