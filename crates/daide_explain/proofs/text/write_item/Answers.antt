use Rattle.daide_explain.proofs.Common.{◌++◌, List, ℕ, sym, ◌∙◌, ap, on_ok_weaker, words_of}
use Rattle.daide_explain.proofs.Items.{item_other, item_kind, item_name}
use Rattle.daide_explain.proofs.text.write_item.Goals as goal

pub returns-then-code-eq-OTHER-clause-text : goal.returns-then-code-eq-OTHER-clause-text
returns-then-code-eq-OTHER-clause-text g c =
    on_ok_weaker c.append.result
    (λ e. e ∙ ap (λ (l : List ℕ). c.args.text.now.items ++ l)
    (sym (item_other (words_of c.args.words.now) c.args.token (sym c.code.ensures ∙ c.if-code-eq-OTHER.true))))
    c.append.ensures.appended

pub returns-in-Some-clause-text : goal.returns-in-Some-clause-text
returns-in-Some-clause-text g c =
    on_ok_weaker c.append-in-Some.result
    (λ e. e ∙ ap (λ (l : List ℕ). c.args.text.now.items ++ l)
    (c.as_bytes.ensures.value
    ∙ sym (item_kind (words_of c.args.words.now) c.args.token c.class.result c.in-Some.name.now
    (λ f. c.if-code-eq-OTHER.false (c.code.ensures ∙ f)) c.class.ensures c.in-Some.ensures)))
    c.append-in-Some.ensures.appended

pub returns-in-None-clause-text : goal.returns-in-None-clause-text
returns-in-None-clause-text g c =
    on_ok_weaker c.append_tokens.result
    (λ e. e ∙ ap (λ (l : List ℕ). c.args.text.now.items ++ l)
    (sym (item_name (words_of c.args.words.now) c.args.token c.class.result c.to_be.result
    (λ f. c.if-code-eq-OTHER.false (c.code.ensures ∙ f)) c.class.ensures c.in-None.ensures c.to_be.ensures)))
    c.append_tokens.ensures.text
