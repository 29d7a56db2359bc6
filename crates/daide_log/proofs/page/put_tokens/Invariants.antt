use Rattle.daide_log.proofs.Common.{◌≡◌, ◌%◌, length, IsSameWriter, all_of, place_past, some_text, tokens_of, Start}
use Rattle.daide_log.proofs.Common.{names_of, words_of}
use Rattle.daide_log.proofs.PageTexts.{Puts}
use Rattle.daide_log.proofs.page.put_tokens.Given as goal

abbrev pub invariant-tokens : goal.invariant-tokens
invariant-tokens g l = record {
  even : length l.rest % 2 ≡ 0;
  text : Puts (all_of g.W.Write.contents l.fn.output) (all_of g.W.Write.contents l.output)
      (some_text (names_of (words_of l.words)) Start (tokens_of l.tokens))
      (some_text (names_of (words_of l.words)) l.place (tokens_of l.rest));
  place : place_past l.place (tokens_of l.rest) ≡ place_past Start (tokens_of l.tokens);
  same_writer : IsSameWriter l.fn.output l.output;
}

abbrev pub decreases-tokens : goal.decreases-tokens
decreases-tokens g l = length l.rest
