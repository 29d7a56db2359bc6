-- The token at an error place is not expected there.
use Rattle.std.proofs.lemmas.List.{length-append}
use Rattle.daide_explain.proofs.Common.{◌≡◌, ℕ, suc, ◌+◌, List, [], ◌∷◌, ◌++◌, length, take, refl, sym, ◌∙◌, ap, subst}
use Rattle.daide_explain.proofs.Common.{arith, IsAllowedPrefix, IsErrorPlace}

take_place : (a b : List ℕ) (t : ℕ) → take (length a + 1) (a ++ t ∷ b) ≡ a ++ t ∷ []
take_place [] b t = refl
take_place (x ∷ a) b t =
    ap (λ (k : ℕ). take k (x ∷ (a ++ t ∷ b))) (let e : suc (length a) + 1 ≡ suc (length a + 1) = omega arith in e)
    ∙ ap (λ (l : List ℕ). x ∷ l) (take_place a b t)

pub not_expected : (message : List ℕ → Type 0) (max_depth : ℕ) (before after : List ℕ) (t : ℕ) →
    IsErrorPlace message max_depth (before ++ t ∷ after) (length before) →
    IsAllowedPrefix message max_depth (before ++ t ∷ []) → ⊥
not_expected message max_depth before after t h allowed =
    h.here (rw length-append (omega arith))
    (subst (IsAllowedPrefix message max_depth) (sym (take_place before after t)) allowed)
