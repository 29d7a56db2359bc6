use Rattle.daide_grammar.proofs.PredictionLemmas.{neighbours-differ}
use Rattle.daide_grammar.proofs.laws.neighbours_differ.Goals as goal

pub returns : goal.returns
returns c = neighbours-differ
