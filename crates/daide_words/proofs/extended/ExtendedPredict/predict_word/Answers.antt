use Rattle.daide_words.proofs.Common.{refl, sym, ap, ◌∙◌, is_stop, dialect_of, table_answer, spoken_words, answer_over}
use Rattle.daide_words.proofs.Common.{words_of, all-spoken}
use Rattle.daide_words.proofs.AcceptedCodes.{accepted_free}
use Rattle.daide_words.proofs.TableFirst.{answered_before, told_before}
use Rattle.daide_words.proofs.WhereStopped.{the_stop}
use Rattle.daide_words.proofs.WordLists.{few_names}
use Rattle.daide_words.proofs.extended.ExtendedPredict.predict_word.Goals as goal

pub where_stopped-requires : goal.where_stopped-requires
unfolding words_of
where_stopped-requires c =
    let words = c.args.self.now.words in
    let s = c.args.sym in
    ap (table_answer s) c.class_with-class.ensures
    ∙ told_before (words_of words) s c.args.token words.accepted
    (few_names words.names words.meanings words.count words.few)
    ∙ sym c.predict_word-answer.ensures.answer
    ∙ the_stop c.predict_word-answer.result (sym c.is_stop.ensures ∙ c.if-is_stop.true)

pub returns-then-is_stop-clause-answer : goal.returns-then-is_stop-clause-answer
unfolding spoken_words words_of
returns-then-is_stop-clause-answer c =
    let words = c.args.self.now.words in
    let s = c.args.sym in
    let t = c.args.token in
    c.where_stopped.ensures
    ∙ ap (answer_over (spoken_words c.args.self.now) s) c.class_with-class.ensures
    ∙ ap (λ ws. answer_over ws s ((dialect_of ws).class_of t))
    (sym (all-spoken (spoken_words c.args.self.now) (accepted_free (words_of words) words.accepted)))

pub returns-then-is_stop-clause-words_stay : goal.returns-then-is_stop-clause-words_stay
unfolding spoken_words
returns-then-is_stop-clause-words_stay c = refl

pub returns-clause-answer : goal.returns-clause-answer
unfolding spoken_words words_of
returns-clause-answer c =
    let words = c.args.self.now.words in
    let s = c.args.sym in
    let t = c.args.token in
    let told = c.predict_word-answer.ensures.answer in
    told
    ∙ sym (answered_before (words_of words) s t words.accepted
    (few_names words.names words.meanings words.count words.few)
    (ap is_stop (sym told) ∙ sym c.is_stop.ensures ∙ c.if-is_stop.false))
    ∙ ap (λ ws. answer_over ws s ((dialect_of ws).class_of t))
    (sym (all-spoken (spoken_words c.args.self.now) (accepted_free (words_of words) words.accepted)))

pub returns-clause-words_stay : goal.returns-clause-words_stay
unfolding spoken_words
returns-clause-words_stay c = refl
