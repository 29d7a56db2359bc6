use Rattle.daide_words.proofs.Common.{sym, ap, ◌∙◌, dialect_of, spoken_words, words_of, all-spoken}
use Rattle.daide_words.proofs.AcceptedCodes.{accepted_free}
use Rattle.daide_words.proofs.extended.ExtendedPredict.class_of.Goals as goal

pub returns : goal.returns
unfolding spoken_words words_of
returns c =
    let words = c.args.self.now.words in
    c.class_with.ensures
    ∙ ap (λ ws. (dialect_of ws).class_of c.args.token)
    (sym (all-spoken (spoken_words c.args.self.now) (accepted_free (words_of words) words.accepted)))
