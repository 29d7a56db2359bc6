use Rattle.daide_explain.proofs.Common.{length, List, ℕ, ◌≡◌, ◌%◌, ◌++◌, tokens_of, Named}
use Rattle.daide_token.specs.Text.{text_with}
use Rattle.daide_token.specs.TextSteps.{rest_of_text}
use Rattle.daide_explain.proofs.token_text.append_tokens.Given as goal

-- the text so far, completed by the text of the remaining tokens, is the whole text
abbrev pub invariant-tokens : goal.invariant-tokens
invariant-tokens g l = record {
  even : length l.rest % 2 ≡ 0;
  completes : (final : List ℕ) → final ≡ l.text.items ++ rest_of_text l.added l.place (tokens_of l.rest)
      → final ≡ l.initial.text.items ++ text_with l.added (tokens_of l.tokens);
}

abbrev pub decreases-tokens : goal.decreases-tokens
decreases-tokens g l = length l.rest
