use Rattle.daide_token.proofs.Common.{length, List, ℕ, Option, ◌≡◌, ◌%◌, Appends, text_with, tokens_of, rest_of_text}
use Rattle.daide_token.proofs.text.write_text_with.Given as goal

-- the text so far, completed by the text of the remaining tokens, is the whole text
abbrev pub invariant-tokens : goal.invariant-tokens
invariant-tokens g l = record {
  even : length l.rest % 2 ≡ 0;
  completes : (final : Option (List ℕ)) →
      Appends (g.W.Write.contents l.writer) final (rest_of_text l.added l.place (tokens_of l.rest))
      → Appends (g.W.Write.contents l.initial.writer) final (text_with l.added (tokens_of l.tokens));
}

abbrev pub decreases-tokens : goal.decreases-tokens
decreases-tokens g l = length l.rest
