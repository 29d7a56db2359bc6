use Rattle.daide_grammar.proofs.PredictionLemmas.{alternatives-differ}
use Rattle.daide_grammar.proofs.laws.alternatives_differ.Goals as goal

pub returns : goal.returns
returns c = alternatives-differ
