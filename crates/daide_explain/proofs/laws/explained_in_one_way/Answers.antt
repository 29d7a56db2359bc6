use Rattle.daide_explain.proofs.OneExplanation.{one_explanation}
use Rattle.daide_explain.proofs.laws.explained_in_one_way.Goals as goal

pub returns : goal.returns
returns c = one_explanation
