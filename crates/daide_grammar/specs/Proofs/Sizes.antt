-- Lists of sizes: a bound of a shape, and the sum of shapes.
use Rattle.std.proofs.Common.{◌≡◌, ℕ, zero, suc, ◌+◌, ◌≤◌, Bool, true, false, ◌&&◌, nat_le, List, [], ◌∷◌, ◌++◌}
use Rattle.std.proofs.Common.{refl, sym, ◌∙◌, ap, subst, arith}
use Rattle.std.proofs.lemmas.Bool.{leb-true}
use Rattle.daide_grammar.specs.declared.symbol.Sym.{Sym}
use Rattle.daide_grammar.specs.Bounds.{height_bound}
use Rattle.daide_grammar.specs.Table.Shapes.{shape, join, shapes}
use Rattle.daide_grammar.specs.Proofs.Alternatives.{both-pass}

-- lists of equal length, the first at most the second at each index
unfoldable pub fits : List ℕ → List ℕ → Bool
fits [] [] = true
fits (a ∷ as') (b ∷ bs) = nat_le a b && fits as' bs
fits _ _ = false

-- the same, after a first size of at most n is removed
abbrev pub fits_below : ℕ → List ℕ → List ℕ → Bool
fits_below n [] bs = false
fits_below n (a ∷ as') bs = nat_le a n && fits as' bs

-- the same, after the first size of the second list is removed
abbrev pub fits_tail : List ℕ → List ℕ → Bool
fits_tail rest [] = false
fits_tail rest (a ∷ as') = fits rest as'

-- exactly one size, which is positive
abbrev pub is_single : List ℕ → Bool
is_single (a ∷ []) = nat_le 1 a
is_single _ = false

-- lists of equal length, the first at most the second at each index
abbrev pub Fits : List ℕ → List ℕ → Type 0
Fits [] [] = Unit {0}
Fits (a ∷ as') (b ∷ bs) = (a ≤ b) × Fits as' bs
Fits [] (b ∷ bs) = ⊥
Fits (a ∷ as') [] = ⊥

-- the test implies the property
pub Fits-test : (xs ys : List ℕ) → fits xs ys ≡ true → Fits xs ys
unfolding fits
Fits-test [] [] e = tt
Fits-test (a ∷ as') (b ∷ bs) e =
    let p = both-pass (nat_le a b) (fits as' bs) e in (leb-true a b p.0, Fits-test as' bs p.1)
Fits-test [] (b ∷ bs) e = cc
Fits-test (a ∷ as') [] e = cc

-- the order on sizes is transitive
pub Fits_trans : (xs ys zs : List ℕ) → Fits xs ys → Fits ys zs → Fits xs zs
Fits_trans [] [] zs h k = k
Fits_trans (a ∷ as') (b ∷ bs) (c ∷ cs) h k = (omega (arith, h.0, k.0), Fits_trans as' bs cs h.1 k.1)
Fits_trans (a ∷ as') (b ∷ bs) [] h k = absurd k
Fits_trans [] (b ∷ bs) zs h k = absurd h
Fits_trans (a ∷ as') [] zs h k = absurd h

-- the order on sizes is reflexive
pub Fits_refl : (xs : List ℕ) → Fits xs xs
Fits_refl [] = tt
Fits_refl (a ∷ as') = (omega arith, Fits_refl as')

-- what a shape adds to the sizes below it is monotone in both
pub join-mono : (xs ys us vs : List ℕ) → Fits xs ys → Fits us vs → Fits (join xs us) (join ys vs)
join-mono [] [] us vs h k = k
join-mono (a ∷ []) (b ∷ []) [] [] h k = h
join-mono (a ∷ []) (b ∷ []) (u ∷ us) (v ∷ vs) h k = (omega (arith, h.0, k.0), k.1)
join-mono (a ∷ a' ∷ as') (b ∷ b' ∷ bs) us vs h k = (h.0, join-mono (a' ∷ as') (b' ∷ bs) us vs h.1 k)
join-mono (a ∷ []) (b ∷ b' ∷ bs) us vs h k = absurd h.1
join-mono (a ∷ a' ∷ as') (b ∷ []) us vs h k = absurd h.1
join-mono [] (b ∷ bs) us vs h k = absurd h
join-mono (a ∷ as') [] us vs h k = absurd h
join-mono (a ∷ []) (b ∷ []) (u ∷ us) [] h k = absurd k
join-mono (a ∷ []) (b ∷ []) [] (v ∷ vs) h k = absurd k

-- the list of sizes is not empty
abbrev pub IsCons : List ℕ → Type 0
IsCons [] = ⊥
IsCons (a ∷ as') = Unit {0}

-- shapes on top of a non-empty list of sizes are not empty
pub join-cons : (xs ys : List ℕ) → IsCons ys → IsCons (join xs ys)
join-cons [] ys h = h
join-cons (a ∷ []) (b ∷ bs) h = tt
join-cons (a ∷ []) [] h = absurd h
join-cons (a ∷ a' ∷ as') ys h = tt

pub shapes-cons : (ss : List Sym) → IsCons (shapes ss)
shapes-cons [] = tt
shapes-cons (s ∷ ss) = join-cons (shape s) (shapes ss) (shapes-cons ss)

-- the first of several sizes stays unchanged
pub join-behind : (a : ℕ) (xs ys : List ℕ) → IsCons xs → join (a ∷ xs) ys ≡ a ∷ join xs ys
join-behind a (x ∷ xs) ys h = refl
join-behind a [] ys h = absurd h

-- adding shapes is associative
pub join_assoc : (xs ys zs : List ℕ) → IsCons ys → IsCons zs → join (join xs ys) zs ≡ join xs (join ys zs)
join_assoc [] ys zs h k = refl
join_assoc (a ∷ []) (b ∷ []) (c ∷ cs) h k = ap (λ n. n ∷ cs) (omega arith)
join_assoc (a ∷ []) (b ∷ b' ∷ bs) zs h k = refl
join_assoc (a ∷ a' ∷ as') ys zs h k =
    join-behind a (join (a' ∷ as') ys) zs (join-cons (a' ∷ as') ys h) ∙ ap (λ w. a ∷ w) (join_assoc
    (a' ∷ as') ys zs h k)
join_assoc (a ∷ []) [] zs h k = absurd h
join_assoc (a ∷ []) (b ∷ []) [] h k = absurd k

-- an empty shape adds nothing
pub join-nothing : (xs : List ℕ) → IsCons xs → join (0 ∷ []) xs ≡ xs
join-nothing (x ∷ xs) h = ap (λ n. n ∷ xs) (omega arith)
join-nothing [] h = absurd h

-- the sizes of two concatenated lists of symbols
pub shapes-append : (rest below : List Sym) → shapes (rest ++ below) ≡ join (shapes rest) (shapes below)
shapes-append [] below = sym (join-nothing (shapes below) (shapes-cons below))
shapes-append (s ∷ rest) below =
    ap (join (shape s)) (shapes-append rest below) ∙ sym (join_assoc (shape s) (shapes rest) (shapes below)
    (shapes-cons rest) (shapes-cons below))

-- the sizes that n open brackets allow
abbrev pub caps : ℕ → List ℕ
caps zero = 8 ∷ []
caps (suc n) = 5 ∷ caps n

-- the sum of sizes
abbrev pub total : List ℕ → ℕ
total [] = 0
total (a ∷ as') = a + total as'

-- the sum is monotone
pub total-mono : (xs ys : List ℕ) → Fits xs ys → total xs ≤ total ys
total-mono [] [] h = omega arith
total-mono (a ∷ as') (b ∷ bs) h = omega (arith, h.0, total-mono as' bs h.1)
total-mono [] (b ∷ bs) h = absurd h
total-mono (a ∷ as') [] h = absurd h

-- the total that n open brackets allow
pub total-caps : (n : ℕ) → total (caps n) ≡ height_bound n
total-caps zero = refl
total-caps (suc n) = omega (arith, total-caps n)

-- the total of a sum is the sum of the totals
pub total-join : (xs ys : List ℕ) → IsCons ys → total (join xs ys) ≡ total xs + total ys
total-join [] ys h = omega arith
total-join (a ∷ []) (b ∷ bs) h = omega arith
total-join (a ∷ []) [] h = absurd h
total-join (a ∷ a' ∷ as') ys h = omega (arith, total-join (a' ∷ as') ys h)

-- the sizes after a token
pub Fits-cons : (xs ys : List ℕ) → IsCons ys → Fits xs ys → IsCons xs
Fits-cons (x ∷ xs) ys h f = tt
Fits-cons [] (y ∷ ys) h f = f
Fits-cons [] [] h f = h

pub Fits-cons-right : (xs ys : List ℕ) → IsCons xs → Fits xs ys → IsCons ys
Fits-cons-right xs (y ∷ ys) h f = tt
Fits-cons-right (x ∷ xs) [] h f = f
Fits-cons-right [] [] h f = h

-- BRA adds a new size of at most n on top
pub sizes-opened : (n : ℕ) (xs ys zs cs : List ℕ) → IsCons ys → fits_below n xs ys ≡ true → Fits (join ys zs) cs →
    Fits (join xs zs) (n ∷ cs)
sizes-opened n [] ys zs cs y e h = cc
sizes-opened n (a ∷ as') ys zs cs y e h =
    let p = both-pass (nat_le a n) (fits as' ys) e in
    let f = Fits-test as' ys p.1 in
    subst (λ (w : List ℕ). Fits w (n ∷ cs)) (sym (join-behind a as' zs (Fits-cons as' ys y f)))
    (leb-true a n p.0, Fits_trans (join as' zs) (join ys zs) cs (join-mono as' ys zs zs f (Fits_refl zs)) h)

-- KET removes the first size
pub sizes-closed : (n : ℕ) (xs ys zs cs : List ℕ) → IsCons xs → fits_tail xs ys ≡ true → Fits (join ys zs) (n ∷ cs) →
    Fits (join xs zs) cs
sizes-closed n xs [] zs cs x e h = cc
sizes-closed n xs (a ∷ as') zs cs x e h =
    let f = Fits-test xs as' e in
    let k = subst (λ (w : List ℕ). Fits w (n ∷ cs)) (join-behind a as' zs (Fits-cons-right xs as' x f)) h in
    Fits_trans (join xs zs) (join as' zs) cs (join-mono xs as' zs zs f (Fits_refl zs)) k.1

-- a symbol with one size leaves the sizes below it
pub sizes-skipped : (xs zs cs : List ℕ) → is_single xs ≡ true → IsCons zs → Fits (join xs zs) cs → Fits zs cs
sizes-skipped [] zs cs e z h = cc
sizes-skipped (a ∷ b ∷ xs) zs cs e z h = cc
sizes-skipped (a ∷ []) (b ∷ bs) (c ∷ cs) e z h = (omega (arith, h.0), h.1)
sizes-skipped (a ∷ []) (b ∷ bs) [] e z h = absurd h
sizes-skipped (a ∷ []) [] cs e z h = absurd z

-- a symbol with one size takes no closing bracket
pub no-tail : (xs ys : List ℕ) → IsCons xs → is_single ys ≡ true → fits_tail xs ys ≡ true → ⊥
unfolding fits
no-tail (x ∷ xs) (a ∷ []) c e h = cc
no-tail (x ∷ xs) (a ∷ b ∷ ys) c e h = cc
no-tail (x ∷ xs) [] c e h = cc
no-tail [] ys c e h = absurd c

-- a non-empty list of sizes does not fit an empty one
not-cons : (xs : List ℕ) → IsCons xs → Fits xs [] → ⊥
not-cons [] c h = c
not-cons (x ∷ xs) c h = h

-- if no bracket is open, a closing one finds no size to remove
pub no-room : (xs ys zs : List ℕ) → IsCons xs → IsCons zs → fits_tail xs ys ≡ true → Fits (join ys zs) (8 ∷ []) → ⊥
no-room xs [] zs x z e h = cc
no-room xs (a ∷ as') zs x z e h =
    let f = Fits-test xs as' e in
    let k = subst (λ (w : List ℕ). Fits w (8 ∷ [])) (join-behind a as' zs (Fits-cons-right xs as' x f)) h in
    not-cons (join as' zs) (join-cons as' zs z) k.1

-- a positive first size
abbrev pub begins_positive : List ℕ → Bool
begins_positive [] = false
begins_positive (a ∷ as') = nat_le 1 a

-- a positive first size makes the sum positive
pub positive-total : (xs : List ℕ) → begins_positive xs ≡ true → 1 ≤ total xs
positive-total [] e = cc
positive-total (a ∷ xs) e = omega (arith, leb-true 1 a e)
