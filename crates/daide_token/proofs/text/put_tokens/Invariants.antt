use Rattle.daide_token.proofs.Common.{◌≡◌, ◌≤◌, ◌+◌, ◌*◌, ◌++◌, length, take, tokens_of, place_past, some_text}
use Rattle.daide_token.proofs.text.put_tokens.Given as goal

abbrev pub invariant-tokens : goal.invariant-tokens
invariant-tokens l = record {
  len : l.printed.len + 4 * length l.rest ≤ l.fn.from.len + 4 * length l.tokens;
  text : take l.printed.len l.line ++ some_text l.added l.printed.place (tokens_of l.rest)
      ≡ take l.fn.from.len l.initial.line ++ some_text l.added l.fn.from.place (tokens_of l.tokens);
  place : place_past l.printed.place (tokens_of l.rest) ≡ place_past l.fn.from.place (tokens_of l.tokens);
}

abbrev pub decreases-tokens : goal.decreases-tokens
decreases-tokens l = length l.rest
