-- Tokens are recovered from their bytes.
use Rattle.daide_token.proofs.Common.{◌≡◌, ◌+◌, ◌*◌, ◌/◌, ◌%◌, ℕ, List, [], ◌∷◌, refl, arith, tokens_of}
use Rattle.daide_token.specs.Token.{bytes_of_tokens}

same_head : (s t : ℕ) (ss ts : List ℕ) → s ≡ t → ss ≡ ts → s ∷ ss ≡ t ∷ ts
same_head s t ss ts e f = cc

pub tokens_of_bytes_of_tokens : (ts : List ℕ) → tokens_of (bytes_of_tokens ts) ≡ ts
tokens_of_bytes_of_tokens [] = refl
tokens_of_bytes_of_tokens (t ∷ ts) =
    same_head (t / 256 * 256 + t % 256) t _ _ (omega arith) (tokens_of_bytes_of_tokens ts)
