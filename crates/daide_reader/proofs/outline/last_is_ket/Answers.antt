use Rattle.daide_reader.proofs.Common.{◌≡◌, ℕ, ◌+◌, ◌-◌, ◌/◌, length, take, sym, ap, ◌∙◌, arith, take-length, tokens_of}
use Rattle.daide_reader.proofs.BodyLemmas.{tokens_of-length}
use Rattle.daide_reader.proofs.OutlineLemmas.{last_at}
use Rattle.daide_reader.proofs.outline.last_is_ket.Goals as goal

pub returns : goal.returns
returns c =
    let m = tokens_of c.args.body.now in
    let last = length c.args.body.now / 2 - 1 in
    let all : last + 1 ≡ length m = omega (arith, c.requires.some, tokens_of-length c.args.body.now) in
    let whole : take (last + 1) m ≡ m = ap (λ (k : ℕ). take k m) all ∙ take-length m in
    c.is_ket.ensures ∙ sym (last_at (take last m) m c.token_at.result (sym whole ∙ c.token_at.ensures.front))
