use Rattle.daide_token.proofs.Common.{◌≡◌, ◌≤◌, ◌+◌, ◌-◌, ◌*◌, ◌++◌, List, length, take, drop, Named, tokens_of}
use Rattle.daide_token.proofs.Common.{place_past, some_text}
use Rattle.daide_token.specs.declared.text.PrinterState.TheVariants.{Word}
use Rattle.daide_token.proofs.text.put_words.Given as goal

abbrev pub invariant-words : goal.invariant-words
invariant-words l = record {
  count : l.count ≤ length l.tokens;
  len : l.len ≤ l.fn.from + 4 * l.count;
  text : (added : List Named) →
      take l.len l.line ++ some_text added Word (tokens_of (drop l.count l.tokens))
      ≡ take l.fn.from l.initial.line ++ some_text added Word (tokens_of l.tokens);
  place : place_past Word (tokens_of (drop l.count l.tokens)) ≡ place_past Word (tokens_of l.tokens);
}

abbrev pub decreases-words : goal.decreases-words
decreases-words l = length l.tokens - l.count
