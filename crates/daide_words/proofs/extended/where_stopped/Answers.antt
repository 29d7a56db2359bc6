use Rattle.daide_words.proofs.Common.{Some, None, sym, ap, ◌∙◌, option_map, Stop, action, slot_of, grammar_word}
use Rattle.daide_words.proofs.Common.{grammar_words, words_of, word_at, grammar_place, word_answer}
use Rattle.daide_words.proofs.WhereStopped.{no_word, no_word_there, stopped_word}
use Rattle.daide_words.proofs.extended.where_stopped.Goals as goal

pub returns-in_default : goal.returns-in_default
unfolding action
returns-in_default c =
    c.of.ensures
    ∙ sym (no_word (grammar_words (words_of c.args.words.now)) c.args.sym c.args.class
    (sym c.word_number.ensures ∙ c.in_default.is) ∙ c.requires)

pub returns-in_default-get : goal.returns-in_default-get
unfolding action
returns-in_default-get c =
    let words = words_of c.args.words.now in
    c.of-in_default-get.ensures ∙ sym (no_word_there (slot_of c.args.sym) Stop)
    ∙ sym (stopped_word words c.args.sym c.args.class c.in-Some.number None
    (sym c.word_number.ensures ∙ c.in-Some.is) c.requires
    (ap (λ k. word_at k words) (sym c.from.ensures) ∙ sym c.get.ensures ∙ c.in_default-get.is))

pub returns-in-Some-slot_of : goal.returns-in-Some-slot_of
returns-in-Some-slot_of c =
    let words = words_of c.args.words.now in
    let word = c.in-Some-get.word in
    c.move_in.ensures
    ∙ ap (λ o. word_answer o (Some (grammar_word word)) Stop)
    (sym (ap (option_map (λ slot. (grammar_place slot.0, slot.1))) c.in-Some-slot_of.is) ∙ c.slot_of.ensures
    ∙ ap slot_of c.sym.ensures)
    ∙ sym (stopped_word words c.args.sym c.args.class c.in-Some.number (Some word)
    (sym c.word_number.ensures ∙ c.in-Some.is) c.requires
    (ap (λ k. word_at k words) (sym c.from.ensures) ∙ sym c.get.ensures ∙ c.in-Some-get.is))

pub returns-in-None : goal.returns-in-None
unfolding action
returns-in-None c =
    let words = words_of c.args.words.now in
    let word = c.in-Some-get.word in
    c.of-in-None.ensures
    ∙ ap (λ o. word_answer o (Some (grammar_word word)) Stop)
    (sym (ap (option_map (λ slot. (grammar_place slot.0, slot.1))) c.in-None.is) ∙ c.slot_of.ensures
    ∙ ap slot_of c.sym.ensures)
    ∙ sym (stopped_word words c.args.sym c.args.class c.in-Some.number (Some word)
    (sym c.word_number.ensures ∙ c.in-Some.is) c.requires
    (ap (λ k. word_at k words) (sym c.from.ensures) ∙ sym c.get.ensures ∙ c.in-Some-get.is))
