use Rattle.daide_grammar.proofs.WordLemmas.{others-stay}
use Rattle.daide_grammar.proofs.laws.other_messages_stay.Goals as goal

pub returns : goal.returns
returns c = others-stay
