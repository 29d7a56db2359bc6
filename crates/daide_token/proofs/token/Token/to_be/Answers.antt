use Rattle.daide_token.proofs.Common.{◌≡◌, ◌/◌, ◌%◌, ◌<◌, ℕ, [], ◌∷◌, refl, ap, ◌∙◌, arith}
use Rattle.daide_token.specs.Token.{token_bytes}
use Rattle.daide_token.proofs.token.Token.to_be.Goals as goal

two_bytes : (t : ℕ) → t / 256 < 256 → t / 256 % 256 ∷ t % 256 ∷ [] ≡ token_bytes t
two_bytes t small = let high : t / 256 % 256 ≡ t / 256 = omega arith in rw high refl

pub returns : goal.returns
returns c =
    c.to_be_bytes.ensures ∙ two_bytes c.code.result (omega (arith, c.code.type_inv)) ∙ ap token_bytes c.code.ensures
