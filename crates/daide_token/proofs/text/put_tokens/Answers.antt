use Rattle.daide_token.proofs.Common.{arith, take, ap, ◌∙◌, ◌++◌, List, ℕ, tokens_of, place_past, some_text}
use Rattle.daide_token.proofs.TextParts.{left_length, place_on, place_put, text_put, token_on}
use Rattle.daide_token.proofs.text.put_tokens.Goals as goal

pub tokens-preserved : goal.tokens-preserved
tokens-preserved c =
    let one = c.put_any-one.result in record {
      len = omega (
        arith,
        left_length c.tokens.rest.now c.in-len2-up.len_at_least,
        c.tokens.invariant.len,
        c.put_any-one.ensures.len,
        c.put_words_behind-run.ensures.len,
        c.put_words_behind-run.ensures.count,
        c.split_at.ensures.back_len,
      );
      text = ap (λ (l : List ℕ). take c.put_words_behind-run.result.len c.put_words_behind-run.new.line
          ++ some_text c.args.added.now one.place (tokens_of l)) c.split_at.ensures.back
          ∙ c.put_words_behind-run.ensures.text c.args.added.now
          ∙ token_on c.args.added.now c.tokens.printed.place one.place
          (take c.tokens.printed.len c.tokens.line) (take one.len c.put_any-one.new.line) _
          c.tokens.rest.now c.from_be-token.result c.in-len2-up.len_at_least c.from_be-token.ensures
          c.put_any-one.ensures.place c.put_any-one.ensures.text c.tokens.invariant.text;
      place = ap (λ (l : List ℕ). place_past one.place (tokens_of l)) c.split_at.ensures.back
          ∙ c.put_words_behind-run.ensures.place
          ∙ place_on c.tokens.printed.place one.place _ c.tokens.rest.now c.from_be-token.result
          c.in-len2-up.len_at_least c.from_be-token.ensures c.put_any-one.ensures.place c.tokens.invariant.place;
    }

pub returns-clause-text : goal.returns-clause-text
returns-clause-text c =
    text_put c.args.added.now c.tokens.printed.place _ _ c.tokens.rest.now c.in_default.len_below c.tokens.invariant.text

pub returns-clause-place : goal.returns-clause-place
returns-clause-place c =
    place_put c.tokens.printed.place _ c.tokens.rest.now c.in_default.len_below c.tokens.invariant.place
