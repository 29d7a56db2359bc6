use Rattle.daide_log.proofs.Common.{◌≡◌, ◌==◌, ◌%◌, ◌++◌, true, ℕ, List, [], ◌∷◌, length, take, arith, refl, sym, ap}
use Rattle.daide_log.proofs.Common.{◌∙◌, take-append-drop, nat_tests, all_of, place_past, some_text, tokens_of}
use Rattle.daide_log.proofs.Common.{PrinterState, names_of, words_of}
use Rattle.daide_token.proofs.TextParts.{past_by_parts, some_by_parts}
use Rattle.daide_log.proofs.PageTexts.{puts_all, puts_more, puts_none}
use Rattle.daide_log.proofs.page.put_tokens.Goals as goal

empty : (rest : List ℕ) → (length rest == 0) ≡ true → rest ≡ []
empty [] e = refl
empty (x ∷ rest) e = absurd (grind (arith, nat_tests, e))

pub tokens-init : goal.tokens-init
tokens-init g c = record {
  even = c.requires;
  text = puts_none (all_of g.W.Write.contents c.args.output.now) _;
  place = refl;
  same_writer = refl;
}

pub tokens-preserved : goal.tokens-preserved
tokens-preserved g c =
    let names = names_of (words_of c.args.words.now) in
    let rest = c.tokens.rest.now in
    let some = c.split_at.result.0.now in
    let more = c.split_at.result.1.now in
    let next = c.in_ok-place.place in
    let whole : some ++ more ≡ rest =
    ap (λ (l : List ℕ). l ++ more) c.split_at.ensures.front
    ∙ ap (λ (l : List ℕ). take c.min.result rest ++ l) c.split_at.ensures.back ∙ take-append-drop c.min.result rest in
    let even : length some % 2 ≡ 0 =
    omega (arith, c.tokens.invariant.even, c.split_at.ensures.front_len, c.min.ensures) in record {
      even = omega (arith, c.tokens.invariant.even, c.split_at.ensures.back_len, c.min.ensures);
      text = puts_more (all_of g.W.Write.contents c.args.output.now) (all_of g.W.Write.contents c.tokens.output)
          (all_of g.W.Write.contents c.put_some.new.output) _ (some_text names c.tokens.place (tokens_of rest))
          (some_text names c.tokens.place (tokens_of some)) (some_text names next (tokens_of more))
          c.tokens.invariant.text
          (some_by_parts names c.tokens.place rest some more whole even
          ∙ ap (λ (q : PrinterState).
          some_text names c.tokens.place (tokens_of some) ++ some_text names q (tokens_of more))
          (sym c.in_ok-place.ensures.place))
          c.in_ok-place.ensures.text;
      place = ap (λ (q : PrinterState). place_past q (tokens_of more)) c.in_ok-place.ensures.place
          ∙ sym (past_by_parts c.tokens.place rest some more whole even) ∙ c.tokens.invariant.place;
      same_writer = c.put_some.ensures.same_writer ∙ c.tokens.invariant.same_writer;
    }

pub returns-clause-text : goal.returns-clause-text
returns-clause-text g c =
    let none = empty c.tokens.rest.now (sym c.is_empty.ensures ∙ c.tokens-test.false) in
    puts_all (all_of g.W.Write.contents c.args.output.now) (all_of g.W.Write.contents c.tokens.output) _ _
    c.tokens.invariant.text
    (ap (λ (l : List ℕ). some_text (names_of (words_of c.args.words.now)) c.tokens.place (tokens_of l)) none)

pub returns-clause-place : goal.returns-clause-place
returns-clause-place g c =
    let none = empty c.tokens.rest.now (sym c.is_empty.ensures ∙ c.tokens-test.false) in
    ap (λ (l : List ℕ). place_past c.tokens.place (tokens_of l)) (sym none) ∙ c.tokens.invariant.place
