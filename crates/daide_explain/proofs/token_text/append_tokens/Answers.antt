use Rattle.daide_explain.proofs.Common.{◌≡◌, ◌%◌, ◌++◌, ℕ, List, length, take, arith, sym, ap, ◌∙◌, subst, tokens_of}
use Rattle.daide_explain.proofs.Common.{on_ok_weaker, take-append-drop, Named, Some}
use Rattle.daide_token.proofs.WholeText.{rest_of_text-start}
use Rattle.daide_token.proofs.TextParts.{end_on, part_on}
use Rattle.daide_token.specs.Text.{text_with}
use Rattle.daide_explain.proofs.token_text.append_tokens.Goals as goal

pub tokens-init : goal.tokens-init
tokens-init g c = record {
  even = c.requires;
  completes = λ final h.
      h ∙ ap (λ (l : List ℕ). c.args.text.now.items ++ l)
      (rest_of_text-start c.names-added.result.now (tokens_of c.args.tokens.now));
}

pub tokens-preserved : goal.tokens-preserved
tokens-preserved g c =
    let rest = c.tokens.rest.now in
    let some = c.split_at.result.0.now in
    let more = c.split_at.result.1.now in
    let whole : some ++ more ≡ rest =
    ap (λ (l : List ℕ). l ++ more) c.split_at.ensures.front
    ∙ ap (λ (l : List ℕ). take c.min.result rest ++ l) c.split_at.ensures.back ∙ take-append-drop c.min.result rest in
    let even : length some % 2 ≡ 0 =
    omega (arith, c.tokens.invariant.even, c.split_at.ensures.front_len, c.min.ensures) in record {
      even = omega (arith, c.tokens.invariant.even, c.split_at.ensures.back_len, c.min.ensures);
      completes = λ final h.
          c.tokens.invariant.completes final
          (part_on c.names-added.result.now (Some c.tokens.text.items) (Some c.append.new.list.items) (Some final)
          c.tokens.place c.put_tokens-printed.result.place rest some more _ whole even
          c.put_tokens-printed.ensures.place c.put_tokens-printed.ensures.text c.in_ok-append.ensures.appended h);
    }

pub returns-clause-text : goal.returns-clause-text
returns-clause-text g c =
    on_ok_weaker c.append-2.result
    (λ written. c.tokens.invariant.completes c.append-2.new.list.items
    (end_on c.names-added.result.now (Some c.tokens.text.items) (Some c.append-2.new.list.items)
    c.tokens.place c.tokens.rest.now c.end_of.result.now (sym c.is_empty.ensures ∙ c.tokens-test.false)
    c.end_of.ensures.text written)
    ∙ ap (λ (l : List Named). c.args.text.now.items ++ text_with l (tokens_of c.args.tokens.now)) c.names-added.ensures.names)
    c.append-2.ensures.appended
