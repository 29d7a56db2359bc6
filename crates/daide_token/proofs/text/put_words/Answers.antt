use Rattle.daide_token.proofs.Common.{arith, refl, take}
use Rattle.daide_token.proofs.TextParts.{past_on, word_on}
use Rattle.daide_token.proofs.text.put_words.Goals as goal

pub words-preserved : goal.words-preserved
words-preserved c = record {
  count = omega arith;
  len = omega (arith, c.words.invariant.len, c.in-Some.ensures.len);
  text = λ added.
      word_on added (take c.words.len c.words.line) (take c.in-Some.end c.put_if_word.new.line) _ c.args.tokens.now
      c.words.count _ (omega arith) refl c.in-Some.ensures.place (c.in-Some.ensures.text added) (c.words.invariant.text added);
  place = past_on _ c.args.tokens.now c.words.count _ (omega arith) refl c.in-Some.ensures.place c.words.invariant.place;
}
