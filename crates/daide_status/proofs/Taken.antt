-- A loop over a list that appends the text of each element.
use Rattle.std.proofs.Common.{◌≡◌, ℕ, ◌+◌, ◌++◌, ◌<◌, suc, List, [], ◌∷◌, length, take, sym, ap, ◌∙◌, append_assoc, arith}
use Rattle.std.proofs.Math.Seq.{take-suc}
use Rattle.std.proofs.lemmas.Grind.{flat_map-append}
use Rattle.std.proofs.lemmas.List.{append-nil}
use Rattle.std.specs.List.{flat_map}
use Rattle.std.specs.Prelude.{get_or}

-- one more element
pub taken_more : {X : Type 0} (f : X → List ℕ) (l : List X) (i : ℕ) (d : X) (old middle new : List ℕ) → i < length l →
    middle ≡ old ++ flat_map f (take i l) → new ≡ middle ++ f (get_or l i d) → new ≡ old ++ flat_map f (take (i + 1) l)
taken_more f l i d old middle new inside before last =
    let one : i + 1 ≡ suc i = omega arith in
    last ∙ ap (λ t. t ++ f (get_or l i d)) before ∙ append_assoc old (flat_map f (take i l)) (f (get_or l i d))
    ∙ ap (λ t. old ++ t) (ap (λ t. flat_map f (take i l) ++ t) (sym (append-nil (f (get_or l i d))))
    ∙ sym (flat_map-append f (take i l) (get_or l i d ∷ [])) ∙ ap (flat_map f) (sym (take-suc l i d inside) ∙ ap (λ k. take k l) (sym one)))
