-- An invalid token is shown by its own bytes, and by the number of tokens before it.
use Rattle.daide_log.proofs.Common.{◌≡◌, ℕ, ◌+◌, ◌-◌, ◌*◌, ◌/◌, List, [], ◌∷◌, ◌++◌, length, drop, refl, ap, ◌∙◌, arith}
use Rattle.daide_log.proofs.Common.{length-append}
use Rattle.std.proofs.Math.Seq.{drop-append-add}
use Rattle.daide_log.specs.Explained.{InvalidTokensAreShown}

own_bytes : (high low : ℕ) (front : List ℕ) →
    drop (length (front ++ high ∷ low ∷ []) - 2) (front ++ high ∷ low ∷ []) ≡ high ∷ low ∷ []
own_bytes high low front =
    let at : length (front ++ high ∷ low ∷ []) - 2 ≡ length front + 0 = omega (arith, length-append front (high ∷ low ∷ [])) in
    ap (λ (n : ℕ). drop n (front ++ high ∷ low ∷ [])) at ∙ drop-append-add front (high ∷ low ∷ []) 0

tokens_before : (count high low : ℕ) (header before : List ℕ) → length header ≡ 4 → length before ≡ 2 * count →
    (length (header ++ before ++ high ∷ low ∷ []) - 6) / 2 ≡ count
tokens_before count high low header before four even =
    omega (arith, length-append (header ++ before) (high ∷ low ∷ []), length-append header before, four, even)

pub tokens_shown : InvalidTokensAreShown
tokens_shown cap count high low header before four even =
    rw (own_bytes high low (header ++ before), tokens_before count high low header before four even) refl
