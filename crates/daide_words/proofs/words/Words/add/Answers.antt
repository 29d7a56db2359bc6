use Rattle.daide_words.proofs.Common.{rules, ◌≡◌, length, sym, ap, ◌∙◌, arith, is_ok, words_of, word_fault, most_words}
use Rattle.daide_words.proofs.WordLists.{has_room, kept, kept-accepted}
use Rattle.daide_words.proofs.words.Words.add.Goals as goal

pub listed : goal.listed
unfolding words_of
listed c =
    let words = c.args.self.now in
    let full : length words.names ≡ most_words = search rules in
    let more : length words.meanings ≡ most_words = search rules in
    let ok =
    ap is_ok (ap (λ ns. word_fault ns c.args.word) (sym c.names.ensures.names) ∙ sym c.check.ensures
    ∙ c.in_ok-check.was) in
    let room =
    has_room words.names words.meanings words.count c.args.word (omega (arith, full, words.few))
    (omega (arith, more, words.few)) ok in
    omega (arith, full, room)

pub bounds-self-place : goal.bounds-self-place
unfolding words_of
bounds-self-place c =
    let words = c.args.self.now in
    let full : length words.names ≡ most_words = search rules in
    let more : length words.meanings ≡ most_words = search rules in
    let ok =
    ap is_ok (ap (λ ns. word_fault ns c.args.word) (sym c.names.ensures.names) ∙ sym c.check.ensures
    ∙ c.in_ok-check.was) in
    has_room words.names words.meanings words.count c.args.word (omega (arith, full, words.few))
    (omega (arith, more, words.few)) ok

pub bounds-self-place-2 : goal.bounds-self-place-2
unfolding words_of
bounds-self-place-2 c =
    let words = c.args.self.now in
    let full : length words.names ≡ most_words = search rules in
    let more : length words.meanings ≡ most_words = search rules in
    let ok =
    ap is_ok (ap (λ ns. word_fault ns c.args.word) (sym c.names.ensures.names) ∙ sym c.check.ensures
    ∙ c.in_ok-check.was) in
    has_room words.names words.meanings words.count c.args.word (omega (arith, full, words.few))
    (omega (arith, more, words.few)) ok

pub invariant_of-self : goal.invariant_of-self
unfolding words_of
invariant_of-self c =
    let words = c.args.self.now in
    let full : length words.names ≡ most_words = search rules in
    let more : length words.meanings ≡ most_words = search rules in
    let ok =
    ap is_ok (ap (λ ns. word_fault ns c.args.word) (sym c.names.ensures.names) ∙ sym c.check.ensures
    ∙ c.in_ok-check.was) in
    let room =
    has_room words.names words.meanings words.count c.args.word (omega (arith, full, words.few))
    (omega (arith, more, words.few)) ok in
    record {
      few = omega (arith, room);
      accepted =
          kept-accepted words.names words.meanings words.count _ _ (omega (arith, full, room))
          (omega (arith, more, room)) words.accepted ok;
    }

pub returns-clause-added : goal.returns-clause-added
unfolding words_of
returns-clause-added c =
    let words = c.args.self.now in
    let full : length words.names ≡ most_words = search rules in
    let more : length words.meanings ≡ most_words = search rules in
    let ok =
    ap is_ok (ap (λ ns. word_fault ns c.args.word) (sym c.names.ensures.names) ∙ sym c.check.ensures
    ∙ c.in_ok-check.was) in
    let room =
    has_room words.names words.meanings words.count c.args.word (omega (arith, full, words.few))
    (omega (arith, more, words.few)) ok in
    kept words.names words.meanings words.count _ _ (omega (arith, full, room)) (omega (arith, more, room))
