use Rattle.daide_words.proofs.Common.{refl, spoken_words}
use Rattle.daide_words.proofs.extended.ExtendedPredict.may_end.Goals as goal

pub returns-clause-words_stay : goal.returns-clause-words_stay
unfolding spoken_words
returns-clause-words_stay c = refl
