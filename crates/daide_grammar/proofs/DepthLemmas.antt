-- The depth of a bracketed list.
use Rattle.std.proofs.lemmas.List.Sums.{sum_by-cons}
use Rattle.daide_grammar.proofs.Common.{◌≡◌, ℕ, ◌+◌, max, Bool, true, false, ◌||◌, ◌==◌, cond, List, [], ◌∷◌, ◌++◌, map}
use Rattle.daide_grammar.proofs.Common.{Option, None, Some, refl, sym, ◌∙◌, ap, arith, if◌then◌else◌, bra, ket, huh}
use Rattle.daide_grammar.proofs.Common.{begins_with_prn}
use Rattle.daide_grammar.specs.Balanced.{IsBalanced}
use Rattle.daide_grammar.specs.Depth.{bras, kets, excess, prefixes, has_unmatched_ket, greatest, depth_of}
use Rattle.daide_grammar.proofs.Counting.{from_the_end, greatest_prefixes-snoc, has_unmatched_ket-snoc, kets_le_bras}
use Rattle.daide_grammar.proofs.Counting.{bras-snoc, kets-snoc, balanced_counted}

-- the greatest excess of all prefixes
abbrev pub peak : List ℕ → ℕ
peak m = greatest (map excess (prefixes m))

-- a balanced list has no unmatched KET and leaves nothing open
no-early : (b : Bool) (n : ℕ) → ◌≡◌ {A = Option ℕ} (if b then None else Some n) (Some 0) → (b ≡ false) × (n ≡ 0)
no-early true n e = cc
no-early false n e = (refl, (cc))

pub balanced-closes : (a : List ℕ) → IsBalanced a → (has_unmatched_ket a ≡ false) × (excess a ≡ 0)
balanced-closes a h = no-early (has_unmatched_ket a) (excess a) ((balanced_counted a).0 h)

-- a prefix of a list without an unmatched KET has none
not-early : (b c : Bool) → (b || c) ≡ false → b ≡ false
not-early false c e = refl
not-early true c e = cc

-- BRA in front adds one BRA and no KET
bras-bra : (p : List ℕ) → bras (bra ∷ p) ≡ bras p + 1
bras-bra p = omega (arith, sum_by-cons (λ t. cond (t == bra) 1 0) bra p)

kets-bra : (p : List ℕ) → kets (bra ∷ p) ≡ kets p
kets-bra p = refl

-- a BRA in front makes every prefix one deeper
pub peak-bra : (p : List ℕ) → has_unmatched_ket p ≡ false → peak (bra ∷ p) ≡ peak p + 1
peak-bra p = from_the_end (λ p. has_unmatched_ket p ≡ false →
    peak (bra ∷ p) ≡ peak p + 1) (λ e. refl) (λ p t ih e. more p t ih e) p
  where
    more : (p : List ℕ) (t : ℕ) → (has_unmatched_ket p ≡ false → peak (bra ∷ p) ≡ peak p + 1) →
        has_unmatched_ket (p ++ t ∷ []) ≡ false →
        peak (bra ∷ (p ++ t ∷ [])) ≡ peak (p ++ t ∷ []) + 1
    more p t ih e =
        let before = not-early (has_unmatched_ket p) _ (sym (has_unmatched_ket-snoc p t) ∙ e) in
        omega (
          arith,
          greatest_prefixes-snoc (bra ∷ p) t,
          greatest_prefixes-snoc p t,
          ih before,
          bras-bra (p ++ t ∷ []),
          kets-bra (p ++ t ∷ []),
          kets_le_bras (p ++ t ∷ []) e,
        )

-- HUH in front does not change the depth
pub peak-huh : (p : List ℕ) → peak (huh ∷ p) ≡ peak p
peak-huh p =
    from_the_end (λ p. peak (huh ∷ p) ≡ peak p) refl (λ p t ih. greatest_prefixes-snoc (huh ∷ p) t
    ∙ (ap (λ n. max n (excess (p ++ t ∷ []))) ih ∙ sym (greatest_prefixes-snoc p t))) p

-- a balanced list in brackets is one deeper
pub peak-bracketed : (a : List ℕ) → IsBalanced a → peak (bra ∷ (a ++ ket ∷ [])) ≡ peak a + 1
peak-bracketed a h =
    let b = balanced-closes a h in
    let after : excess (bra ∷ (a ++ ket ∷ [])) ≡ 0 =
    omega (arith, bras-snoc (bra ∷ a) ket, kets-snoc (bra ∷ a) ket, bras-bra a, kets-bra a, b.1, kets_le_bras a b.0)
    in
    omega (arith, greatest_prefixes-snoc (bra ∷ a) ket, peak-bra a b.0, after)

-- HUH around a balanced list that has a depth is one deeper
pub huh_depth : (a : List ℕ) → IsBalanced a → begins_with_prn a ≡ false →
    depth_of (huh ∷ bra ∷ (a ++ ket ∷ [])) ≡ depth_of a + 1
huh_depth a h n =
    peak-huh (bra ∷ (a ++ ket ∷ []))
    ∙ (peak-bracketed a h ∙ ap (λ k. k + 1) (sym (ap (λ (b : Bool). if b then 0 else peak a) n)))
