use Rattle.daide_protocol.proofs.Common.{◌≡◌, ◌≤◌, ◌+◌, ◌*◌, ◌++◌, [], length, map, take, token_of_character}
use Rattle.daide_token.specs.TextSteps.{place_past, some_text}
use Rattle.daide_protocol.proofs.bot_name.put_characters.Given as goal

abbrev pub invariant-characters : goal.invariant-characters
invariant-characters l = record {
  len : l.printed.len + 8 * length l.rest ≤ l.fn.from.len + 8 * length l.characters;
  text : take l.printed.len l.line ++ some_text [] l.printed.place (map token_of_character l.rest)
      ≡ take l.fn.from.len l.initial.line ++ some_text [] l.fn.from.place (map token_of_character l.characters);
  place : place_past l.printed.place (map token_of_character l.rest)
      ≡ place_past l.fn.from.place (map token_of_character l.characters);
}

abbrev pub decreases-characters : goal.decreases-characters
decreases-characters l = length l.rest
