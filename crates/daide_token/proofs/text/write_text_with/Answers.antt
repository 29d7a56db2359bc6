use Rattle.std.proofs.lemmas.Result.{on_ok_weaker}
use Rattle.std.proofs.lemmas.List.{take-append-drop}
use Rattle.daide_token.proofs.Common.{◌≡◌, ◌%◌, ◌++◌, ℕ, List, length, take, arith, sym, ap, ◌∙◌, tokens_of}
use Rattle.daide_token.proofs.WholeText.{rest_of_text-start}
use Rattle.daide_token.proofs.TextParts.{end_on, part_on}
use Rattle.daide_token.proofs.text.write_text_with.Goals as goal

pub tokens-init : goal.tokens-init
tokens-init g c = record {
  even = c.requires;
  completes = λ final h. rw (← rest_of_text-start c.args.added.now (tokens_of c.args.tokens.now)) h;
}

pub tokens-preserved : goal.tokens-preserved
tokens-preserved g c =
    let rest = c.tokens.rest.now in
    let some = c.split_at.result.0.now in
    let more = c.split_at.result.1.now in
    let whole : some ++ more ≡ rest =
    ap (λ (l : List ℕ). l ++ more) c.split_at.ensures.front
    ∙ ap (λ (l : List ℕ). take c.min.result rest ++ l) c.split_at.ensures.back ∙ take-append-drop c.min.result rest in
    let even : length some % 2 ≡ 0 =
    omega (arith, c.tokens.invariant.even, c.split_at.ensures.front_len, c.min.ensures) in record {
      even = omega (arith, c.tokens.invariant.even, c.split_at.ensures.back_len, c.min.ensures);
      completes = λ final h.
          c.tokens.invariant.completes final
          (part_on c.args.added.now (g.W.Write.contents c.tokens.writer) (g.W.Write.contents c.write_all.new.self) final
          c.tokens.place c.put_tokens-printed.result.place rest some more _ whole even
          c.put_tokens-printed.ensures.place c.put_tokens-printed.ensures.text (c.in_ok-write_all.ensures).bytes h);
    }

pub returns : goal.returns
returns g c = record {
  text = on_ok_weaker c.write_all-2.result (λ written.
      c.tokens.invariant.completes (g.W.Write.contents c.write_all-2.new.self)
      (end_on c.args.added.now (g.W.Write.contents c.tokens.writer) (g.W.Write.contents c.write_all-2.new.self)
      c.tokens.place c.tokens.rest.now c.end_of.result.now (sym c.is_empty.ensures ∙ c.tokens-test.false)
      c.end_of.ensures.text written))
      c.write_all-2.ensures.bytes;
}
