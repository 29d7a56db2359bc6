use Rattle.std.proofs.Common.{◌≡◌, ◌++◌, length, map}
use Rattle.daide_text.specs.Line.{character_token}
use Rattle.daide_text.proofs.pieces.append_characters.Given as goal

-- the tokens appended so far, followed by those of the rest, are the tokens of all
abbrev pub invariant-loop-rest : goal.invariant-loop-rest
invariant-loop-rest g l =
    l.tokens.items ++ map character_token l.rest ≡ l.initial.tokens.items ++ map character_token l.characters

abbrev pub decreases-loop-rest : goal.decreases-loop-rest
decreases-loop-rest g l = length l.rest
