-- The token at an index of a body, among the body's tokens.
use Rattle.daide_token.proofs.Common.{◌≡◌, ℕ, zero, suc, ◌+◌, ◌*◌, ◌<◌, List, [], ◌∷◌, ◌++◌, length, take, drop, refl}
use Rattle.daide_token.proofs.Common.{ap, arith, tokens_of}
use Rattle.daide_token.specs.Token.{token_at}

-- one more token of a body
pub tokens_of-next : (i : ℕ) (b : List ℕ) → 2 * i + 1 < length b
    → take (i + 1) (tokens_of b) ≡ take i (tokens_of b) ++ token_at b i ∷ []
tokens_of-next zero [] h = absurd (omega arith)
tokens_of-next zero (x ∷ []) h = absurd (omega arith)
tokens_of-next zero (x ∷ y ∷ b) h = refl
tokens_of-next (suc i) [] h = absurd (omega arith)
tokens_of-next (suc i) (x ∷ []) h = absurd (omega arith)
tokens_of-next (suc i) (x ∷ y ∷ b) h =
    let next : suc i + 1 ≡ suc (i + 1) = omega arith in
    let here : 2 * suc i ≡ suc (suc (2 * i)) = omega arith in
    let low : 2 * suc i + 1 ≡ suc (suc (2 * i + 1)) = omega arith in
    rw (next, low, here) (ap (λ (ts : List ℕ). (x * 256 + y) ∷ ts) (tokens_of-next i b (omega arith)))

-- the tokens from an index on
pub tokens_of-rest : (i : ℕ) (b : List ℕ) → 2 * i + 1 < length b
    → drop i (tokens_of b) ≡ token_at b i ∷ drop (i + 1) (tokens_of b)
tokens_of-rest zero [] h = absurd (omega arith)
tokens_of-rest zero (x ∷ []) h = absurd (omega arith)
tokens_of-rest zero (x ∷ y ∷ b) h = refl
tokens_of-rest (suc i) [] h = absurd (omega arith)
tokens_of-rest (suc i) (x ∷ []) h = absurd (omega arith)
tokens_of-rest (suc i) (x ∷ y ∷ b) h =
    let next : suc i + 1 ≡ suc (i + 1) = omega arith in
    let here : 2 * suc i ≡ suc (suc (2 * i)) = omega arith in
    let low : 2 * suc i + 1 ≡ suc (suc (2 * i + 1)) = omega arith in
    rw (next, low, here) (tokens_of-rest i b (omega arith))

-- the tokens of a body's first pairs
pub tokens_of-front : (i : ℕ) (b : List ℕ) → tokens_of (take (2 * i) b) ≡ take i (tokens_of b)
tokens_of-front zero b = refl
tokens_of-front (suc i) [] = let next : 2 * suc i ≡ suc (suc (2 * i)) = omega arith in rw next refl
tokens_of-front (suc i) (x ∷ []) = let next : 2 * suc i ≡ suc (suc (2 * i)) = omega arith in rw next refl
tokens_of-front (suc i) (x ∷ y ∷ b) =
    let next : 2 * suc i ≡ suc (suc (2 * i)) = omega arith in
    rw next (ap (λ (ts : List ℕ). (x * 256 + y) ∷ ts) (tokens_of-front i b))
