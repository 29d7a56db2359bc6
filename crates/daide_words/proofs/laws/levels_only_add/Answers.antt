use Rattle.daide_words.proofs.Common.{grammar_words}
use Rattle.daide_words.proofs.WordsGrow.{levels-only-add-over}
use Rattle.daide_words.proofs.laws.levels_only_add.Goals as goal

pub returns : goal.returns
returns c words side low high m h = levels-only-add-over (grammar_words words) side low high m h
