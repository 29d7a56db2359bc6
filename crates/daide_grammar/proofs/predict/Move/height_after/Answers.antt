use Rattle.daide_grammar.proofs.Common.{◌<◌, ◌+◌, length, ap, ◌∙◌, arith, rest_of, TableEntry}
use Rattle.daide_grammar.proofs.RulesFit.{grown}
use Rattle.daide_grammar.proofs.predict.Move.height_after.Goals as goal

pub returns : goal.returns
returns c =
    let n = c.self.inside.rule in
    let is = c.growth_at.ensures in
    let less : n < 256 = omega arith in
    omega (arith, is, grown n c.args.top less c.requires)
    ∙ ap (λ (a : TableEntry). c.args.top + length (rest_of a)) c.self.view_is
