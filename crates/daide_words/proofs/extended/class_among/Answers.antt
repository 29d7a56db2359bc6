use Rattle.daide_words.proofs.Common.{Some, None, sym, ap, ◌∙◌, words_of, place_from}
use Rattle.daide_words.proofs.AcceptedCodes.{class_told}
use Rattle.daide_words.proofs.extended.class_among.Goals as goal

pub returns-in-Some : goal.returns-in-Some
returns-in-Some c =
    c.word.ensures
    ∙ sym (class_told (words_of c.args.words.now) c.args.token (Some c.in-Some.place)
    (sym c.in-Some.is ∙ c.place_in.ensures.place ∙ ap (λ names. place_from 0 names c.args.token) c.names.ensures.names))

pub returns-in-None : goal.returns-in-None
returns-in-None c =
    sym c.requires
    ∙ sym (class_told (words_of c.args.words.now) c.args.token None
    (sym c.in-None.is ∙ c.place_in.ensures.place ∙ ap (λ names. place_from 0 names c.args.token) c.names.ensures.names))
