use Rattle.daide_grammar.proofs.Common.{length, ap, ◌∙◌, arith, rest_of, TableEntry}
use Rattle.daide_grammar.proofs.RulesFit.{length_fits, length_small}
use Rattle.daide_grammar.proofs.predict.Move.len.Goals as goal

pub returns-clause-len : goal.returns-clause-len
returns-clause-len c =
    c.length_at.ensures ∙ length_fits c.self.inside.rule (omega arith)
    ∙ ap (λ (a : TableEntry). length (rest_of a)) c.self.view_is

pub returns-clause-few : goal.returns-clause-few
returns-clause-few c = omega (arith, c.length_at.ensures, length_small c.self.inside.rule (omega arith))
