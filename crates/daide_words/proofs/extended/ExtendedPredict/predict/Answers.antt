use Rattle.daide_words.proofs.Common.{◌≡◌, true, false, refl, sym, ap, ◌∙◌, TableEntry, Take, Skip, Stop, is_stop}
use Rattle.daide_words.proofs.Common.{words_of, spoken_words, answer_over, all-spoken}
use Rattle.daide_grammar.specs.Table.ParseActions.{is_take}
use Rattle.daide_words.proofs.AcceptedCodes.{accepted_free}
use Rattle.daide_words.proofs.WhereStopped.{not_stopped, the_stop}
use Rattle.daide_words.proofs.extended.ExtendedPredict.predict.Goals as goal

-- a Take is no Stop
takes_on : (a : TableEntry) → is_take a ≡ true → is_stop a ≡ false
takes_on (Take rest) h = refl
takes_on Skip h = refl
takes_on Stop h = cc

pub returns-then-is_take-clause-answer : goal.returns-then-is_take-clause-answer
unfolding spoken_words words_of
returns-then-is_take-clause-answer c =
    let words = c.args.self.now.words in
    c.predict-answer.ensures.answer
    ∙ sym (not_stopped (spoken_words c.args.self.now) c.args.sym c.args.class
    (ap is_stop (sym c.predict-answer.ensures.answer)
    ∙ takes_on c.predict-answer.result (sym c.is_take.ensures ∙ c.if-is_take.true)))
    ∙ ap (λ ws. answer_over ws c.args.sym c.args.class)
    (sym (all-spoken (spoken_words c.args.self.now) (accepted_free (words_of words) words.accepted)))

pub returns-then-is_take-clause-words_stay : goal.returns-then-is_take-clause-words_stay
unfolding spoken_words
returns-then-is_take-clause-words_stay c = refl

pub where_stopped-requires : goal.where_stopped-requires
where_stopped-requires c = sym c.predict-answer.ensures.answer
    ∙ the_stop c.predict-answer.result (sym c.is_stop.ensures ∙ c.if-is_stop.true)

pub returns-then-is_stop-clause-answer : goal.returns-then-is_stop-clause-answer
unfolding spoken_words words_of
returns-then-is_stop-clause-answer c =
    let words = c.args.self.now.words in
    c.where_stopped.ensures
    ∙ ap (λ ws. answer_over ws c.args.sym c.args.class)
    (sym (all-spoken (spoken_words c.args.self.now) (accepted_free (words_of words) words.accepted)))

pub returns-then-is_stop-clause-words_stay : goal.returns-then-is_stop-clause-words_stay
unfolding spoken_words
returns-then-is_stop-clause-words_stay c = refl

pub returns-clause-answer : goal.returns-clause-answer
unfolding spoken_words words_of
returns-clause-answer c =
    let words = c.args.self.now.words in
    c.predict-answer.ensures.answer
    ∙ sym (not_stopped (spoken_words c.args.self.now) c.args.sym c.args.class
    (ap is_stop (sym c.predict-answer.ensures.answer) ∙ sym c.is_stop.ensures ∙ c.if-is_stop.false))
    ∙ ap (λ ws. answer_over ws c.args.sym c.args.class)
    (sym (all-spoken (spoken_words c.args.self.now) (accepted_free (words_of words) words.accepted)))

pub returns-clause-words_stay : goal.returns-clause-words_stay
unfolding spoken_words
returns-clause-words_stay c = refl
