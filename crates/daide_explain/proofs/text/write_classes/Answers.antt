use Rattle.daide_explain.proofs.Common.{◌++◌, List, ℕ, sym, ◌∙◌, ap, codes, append_assoc, on_ok_weaker, words_of}
use Rattle.daide_explain.proofs.Common.{brackets_in, items}
use Rattle.daide_explain.proofs.Items.{with_unknown, without_unknown}
use Rattle.daide_explain.proofs.text.write_classes.Goals as goal

pub returns-then-has_unknown-clause-text : goal.returns-then-has_unknown-clause-text
returns-then-has_unknown-clause-text g c =
    let words = words_of c.args.words.now in
    let brackets = items words (brackets_in c.args.tokens.now) in
    on_ok_weaker c.append.result
    (λ e. e ∙ (ap (λ (l : List ℕ). l ++ codes " <any>") c.in_ok-write_brackets.ensures.text
    ∙ (append_assoc c.args.text.now.items brackets (codes " <any>")
    ∙ ap (λ (l : List ℕ). c.args.text.now.items ++ l)
    (sym (with_unknown words c.args.tokens.now c.has_unknown.result c.has_unknown.ensures c.if-has_unknown.true)))))
    c.append.ensures.appended

pub returns-clause-text : goal.returns-clause-text
returns-clause-text g c =
    let words = words_of c.args.words.now in
    on_ok_weaker c.write_items.result
    (λ e. e ∙ ap (λ (l : List ℕ). c.args.text.now.items ++ l)
    (sym (without_unknown words c.args.tokens.now c.has_unknown.result c.has_unknown.ensures c.if-has_unknown.false)))
    c.write_items.ensures.text
