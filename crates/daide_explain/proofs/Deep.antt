-- Whether the token at a place is BRA while `max_depth` brackets are open before it.
use Rattle.daide_explain.proofs.Common.{◌≡◌, ℕ, zero, suc, ◌+◌, ◌*◌, ◌≤◌, ◌==◌, List, [], ◌∷◌, length, take, drop}
use Rattle.daide_explain.proofs.Common.{IsTrue, ◌↔◌, refl, sym, ◌∙◌, ap, arith, eqb-true, eq-eqb, bra, tokens_of}
use Rattle.daide_explain.proofs.Common.{open_brackets, tokens_of-length, tokens_of-front}
use Rattle.daide_explain.specs.Explained.{IsTooDeepAt}

none_after : (m : List ℕ) (i : ℕ) → length m ≤ i → drop i m ≡ []
none_after [] zero le = refl
none_after [] (suc i) le = refl
none_after (x ∷ m) zero le = absurd (omega arith)
none_after (x ∷ m) (suc i) le = none_after m i (omega arith)

pub after_the_end : (max_depth : ℕ) (b : List ℕ) (place : ℕ) → length b ≤ 2 * place + 1 →
    IsTooDeepAt max_depth (tokens_of b) place → ⊥
after_the_end max_depth b place le (after, e, full) =
    let len = tokens_of-length b in
    let none : [] ≡ bra ∷ after = sym (none_after (tokens_of b) place (omega arith)) ∙ e in
    let f : ◌≡◌ {A = ℕ} 0 (length (bra ∷ after)) = ap length none in
    absurd (omega arith)

pub deep_if_full : (max_depth : ℕ) (b : List ℕ) (place t opened : ℕ) → drop place (tokens_of b) ≡ t ∷ drop (place + 1) (tokens_of b) →
    t ≡ bra → opened ≡ open_brackets (tokens_of (take (2 * place) b)) →
    IsTrue (opened == max_depth) ↔ IsTooDeepAt max_depth (tokens_of b) place
deep_if_full max_depth b place t opened rest is count =
    let same : opened ≡ open_brackets (take place (tokens_of b)) = count ∙ ap open_brackets (tokens_of-front place b) in (
      λ e. (
        drop (place + 1) (tokens_of b),
        rest ∙ ap (λ (x : ℕ). x ∷ drop (place + 1) (tokens_of b)) is,
        sym same ∙ eqb-true opened max_depth e,
      ),
      λ h. eq-eqb opened max_depth (same ∙ h.2),
    )
