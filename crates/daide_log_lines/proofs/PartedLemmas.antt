-- The first space of a text.
use Rattle.std.proofs.Common.{◌≡◌, ℕ, zero, suc, ◌+◌, ◌<◌, true, false, List, [], ◌∷◌, length, take, drop, get_or}
use Rattle.std.proofs.Common.{Option, Some, None, refl, sym, ap, ◌∙◌, arith, cond, eqb, ◌⊎◌, inl, inr, add-one}
use Rattle.std.proofs.Common.{◌-◌, subst, length-drop}
use Rattle.std.proofs.Math.Seq.{take-length}
use Rattle.std.proofs.lemmas.Bool.Decides.{eqb_tells}
use Rattle.daide_log_lines.specs.LogLine.{Parted, with_first, parted_at_space}

parted_first : (c : ℕ) (cs : List ℕ) → (c ≡ 32 → ⊥) → parted_at_space (c ∷ cs) ≡ with_first c (parted_at_space cs)
unfolding parted_at_space
parted_first c cs h = go (eqb_tells c 32)
  where
    go : ((eqb c 32 ≡ true) × (c ≡ 32)) ⊎ ((eqb c 32 ≡ false) × (c ≡ 32 → ⊥)) →
        cond (eqb c 32) (Some (record { word = []; rest = cs })) (with_first c (parted_at_space cs))
        ≡ with_first c (parted_at_space cs)
    go (inl t) = absurd (h t.1)
    go (inr t) = rw t.0 refl

pub parted_behind : (xs : List ℕ) (n : ℕ) → n < length xs → get_or xs n 0 ≡ 32 →
    ((k : ℕ) → k < n → get_or xs k 0 ≡ 32 → ⊥) →
    parted_at_space xs ≡ Some (record { word = take n xs; rest = drop (suc n) xs })
unfolding parted_at_space
parted_behind [] n l e h = absurd (omega arith)
parted_behind (c ∷ cs) zero l e h = rw e refl
parted_behind (c ∷ cs) (suc n) l e h =
    parted_first c cs (h 0 (omega arith))
    ∙ ap (with_first c) (parted_behind cs n (omega arith) e (λ k less. h (suc k) (omega arith)))

pub parted_none : (xs : List ℕ) → ((k : ℕ) → k < length xs → get_or xs k 0 ≡ 32 → ⊥) → parted_at_space xs ≡ None
unfolding parted_at_space
parted_none [] h = refl
parted_none (c ∷ cs) h =
    parted_first c cs (h 0 (omega arith)) ∙ ap (with_first c) (parted_none cs (λ k less. h (suc k) (omega arith)))

rest_of : (k : ℕ) (b : List ℕ) → take (length b - k) (drop k b) ≡ drop k b
rest_of k b = subst (λ (n : ℕ). take n (drop k b) ≡ drop k b) (length-drop k b) (take-length (drop k b))

pub parted_here : (xs : List ℕ) (n : ℕ) → n < length xs → get_or xs n 0 ≡ 32 →
    ((k : ℕ) → k < n → get_or xs k 0 ≡ 32 → ⊥) →
    ◌≡◌ {A = Option Parted} (Some (record { word = take n xs; rest = take (length xs - (n + 1)) (drop (n + 1) xs) }))
    (parted_at_space xs)
parted_here xs n l e h =
    ap (λ (r : List ℕ). Some (record { word = take n xs; rest = r }))
    (rest_of (n + 1) xs ∙ ap (λ (k : ℕ). drop k xs) (add-one n)) ∙ sym (parted_behind xs n l e h)
