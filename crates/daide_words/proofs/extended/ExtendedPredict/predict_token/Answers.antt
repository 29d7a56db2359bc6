use Rattle.daide_words.proofs.Common.{◌≡◌, true, refl, sym, ap, ◌∙◌, subst, is_stop, dialect_of, spoken_words}
use Rattle.daide_words.proofs.Common.{answer_over, words_of, all-spoken}
use Rattle.daide_token.proofs.ClassLaws.{standard_class}
use Rattle.daide_token.specs.Class.{is_standard}
use Rattle.daide_words.proofs.AcceptedCodes.{accepted_free}
use Rattle.daide_words.proofs.TableFirst.{answered_before, told_before}
use Rattle.daide_words.proofs.WhereStopped.{no_word, own_number}
use Rattle.daide_words.proofs.WordLists.{few_names}
use Rattle.daide_words.proofs.extended.ExtendedPredict.predict_token.Goals as goal

pub returns-clause-answer : goal.returns-clause-answer
unfolding spoken_words words_of
returns-clause-answer c = λ on.
    let words = c.args.self.now.words in
    let s = c.args.sym in
    let t = c.args.token in
    let told = c.predict_token.ensures.answer on in
    told
    ∙ sym (answered_before (words_of words) s t words.accepted
    (few_names words.names words.meanings words.count words.few)
    (ap is_stop (sym told) ∙ on))
    ∙ ap (λ ws. answer_over ws s ((dialect_of ws).class_of t))
    (sym (all-spoken (spoken_words c.args.self.now) (accepted_free (words_of words) words.accepted)))

pub returns-clause-stops : goal.returns-clause-stops
unfolding spoken_words words_of
returns-clause-stops c = λ own.
    let words = c.args.self.now.words in
    let s = c.args.sym in
    let t = c.args.token in
    let same = all-spoken (spoken_words c.args.self.now) (accepted_free (words_of words) words.accepted) in
    c.predict_token.ensures.stops (standard_class t)
    ∙ sym (told_before (words_of words) s t words.accepted
    (few_names words.names words.meanings words.count words.few))
    ∙ sym (no_word (spoken_words c.args.self.now) s ((dialect_of (spoken_words c.args.self.now)).class_of t)
    (own_number ((dialect_of (spoken_words c.args.self.now)).class_of t)
    (subst (λ ws. is_standard ((dialect_of ws).class_of t) ≡ true) same own)))
    ∙ ap (λ ws. answer_over ws s ((dialect_of ws).class_of t)) (sym same)

pub returns-clause-words_stay : goal.returns-clause-words_stay
unfolding spoken_words
returns-clause-words_stay c = refl
