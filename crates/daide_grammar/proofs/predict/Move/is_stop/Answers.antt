use Rattle.daide_grammar.proofs.Common.{ap, ◌∙◌, is_stop}
use Rattle.daide_grammar.proofs.RulesFit.{stop_told}
use Rattle.daide_grammar.proofs.predict.Move.is_stop.Goals as goal

pub returns : goal.returns
returns c = stop_told c.self.inside.rule ∙ ap is_stop c.self.view_is
