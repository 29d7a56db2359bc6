use Rattle.daide_words.proofs.Common.{refl, words_of}
use Rattle.daide_words.proofs.words.Words.new.Goals as goal

pub returns : goal.returns
unfolding words_of
returns c = refl
