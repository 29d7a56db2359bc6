use Rattle.daide_explain.proofs.Common.{◌≡◌, ℕ, ◌++◌, ◌==◌, ◌&&◌, not, false, List, codes, length, sym, ◌∙◌, ap}
use Rattle.daide_explain.proofs.Common.{on_ok_weaker, tokens_of, words_of, class_items, end_item}
use Rattle.daide_explain.proofs.Items.{end_there, nothing_line, some_line, three, tokens_there}
use Rattle.daide_explain.proofs.text.write_line.Goals as goal
use Rattle.daide_explain.proofs.text.write_line.Goals.{else-is_empty-via-then-is_empty+else-not-ends, else-is_empty-via-else-is_empty}

pub returns-then-not-ends-clause-text : goal.returns-then-not-ends-clause-text
returns-then-not-ends-clause-text g c =
    on_ok_weaker c.append_text.result
    (λ e. e ∙ ap (λ (l : List ℕ). c.args.text.now.items ++ l)
    (sym (nothing_line (words_of c.args.rules.now.words.now) (tokens_of c.args.before.now) c.args.tokens.now c.args.ends
    c.open_before-open.result c.if-is_empty.ensures c.if-not-ends.true c.open_before-open.ensures)))
    c.append_text.ensures.appended

pub returns-clause-text : goal.returns-clause-text
returns-clause-text g c =
    let words = words_of c.args.rules.now.words.now in
    let p = tokens_of c.args.before.now in
    let ts = c.args.tokens.now in
    let ends = c.args.ends in
    let test : ((length ts == 0) && not ends) ≡ false = elim c.else-is_empty.branch [
      | else-is_empty-via-then-is_empty+else-not-ends w ↦ end_there ts ends w.if-is_empty.ensures w.if-not-ends.false
      | else-is_empty-via-else-is_empty w ↦ tokens_there ts ends w.if-is_empty.ensures
    ] in
    on_ok_weaker c.write_end.result
    (λ e. three c.args.text.now.items (codes "expected:") (class_items words ts) (end_item ends) _ _ _
    c.in_ok-append.ensures.appended c.in_ok-write_classes.ensures.text e
    ∙ ap (λ (l : List ℕ). c.args.text.now.items ++ l) (sym (some_line words p ts ends test)))
    c.write_end.ensures.text
