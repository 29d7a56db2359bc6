use Rattle.daide_grammar.proofs.Common.{ap, ◌∙◌, is_take}
use Rattle.daide_grammar.proofs.RulesFit.{take_told}
use Rattle.daide_grammar.proofs.predict.Move.is_take.Goals as goal

pub returns : goal.returns
returns c = take_told c.self.inside.rule ∙ ap is_take c.self.view_is
