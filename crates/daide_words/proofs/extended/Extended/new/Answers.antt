use Rattle.daide_words.proofs.Common.{refl, spoken_words, grammar_words, words_of, all-spoken}
use Rattle.daide_words.proofs.AcceptedCodes.{accepted_free}
use Rattle.daide_words.proofs.extended.Extended.new.Goals as goal

pub returns-clause-words : goal.returns-clause-words
unfolding spoken_words
returns-clause-words c = refl

pub returns-clause-all_spoken : goal.returns-clause-all_spoken
unfolding words_of
returns-clause-all_spoken c =
    all-spoken (grammar_words (words_of c.args.words)) (accepted_free (words_of c.args.words) c.args.words.accepted)
