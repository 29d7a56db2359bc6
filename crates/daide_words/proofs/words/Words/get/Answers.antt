use Rattle.daide_words.proofs.Common.{rules, ◌≡◌, length, sym, ap, ◌∙◌, arith, words_of, most_words}
use Rattle.daide_words.proofs.WordLists.{behind, names-length, names-few, first_words-at}
use Rattle.daide_words.proofs.words.Words.get.Goals as goal

pub returns-then-place-names : goal.returns-then-place-names
returns-then-place-names c =
    let words = words_of c.args.self.now in
    let many : length c.names.result.now ≡ length words = ap length c.names.ensures.names ∙ names-length words in
    sym (behind words c.args.place (omega (arith, many, c.if-place-names.true)))

pub returns : goal.returns
unfolding words_of
returns c =
    let words = c.args.self.now in
    let full : length words.names ≡ most_words = search rules in
    let more : length words.meanings ≡ most_words = search rules in
    let many : length c.names.result.now ≡ words.count =
    ap length c.names.ensures.names
    ∙ names-few words.names words.meanings words.count (omega (arith, full, words.few))
    (omega (arith, more, words.few)) in
    sym (first_words-at words.names words.meanings words.count c.args.place _ _ (omega (arith, full, words.few))
    (omega (arith, more, words.few)) (omega (arith, many, c.if-place-names.false)))
