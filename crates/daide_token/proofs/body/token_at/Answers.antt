use Rattle.daide_token.proofs.Common.{ℕ, ◌+◌, ◌++◌, ◌∷◌, [], take, drop, sym, ap, ◌∙◌, arith, tokens_of}
use Rattle.daide_token.proofs.TokenPlaces.{tokens_of-next, tokens_of-rest}
use Rattle.daide_token.proofs.body.token_at.Goals as goal

pub returns : goal.returns
returns c =
    let m = tokens_of c.args.body.now in
    let is = sym c.from_be.ensures in
    record {
      value = c.from_be.ensures;
      front = tokens_of-next c.args.place c.args.body.now (omega arith)
          ∙ ap (λ (t : ℕ). take c.args.place m ++ t ∷ []) is;
      rest = tokens_of-rest c.args.place c.args.body.now (omega arith)
          ∙ ap (λ (t : ℕ). t ∷ drop (c.args.place + 1) m) is;
    }
