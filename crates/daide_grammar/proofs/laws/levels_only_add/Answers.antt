use Rattle.daide_grammar.proofs.LevelsGrow.{levels-only-add}
use Rattle.daide_grammar.proofs.laws.levels_only_add.Goals as goal

pub returns : goal.returns
returns c = levels-only-add
