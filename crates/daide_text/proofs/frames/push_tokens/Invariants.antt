use Rattle.std.proofs.Common.{◌≡◌, ◌++◌, length}
use Rattle.daide_token.specs.Token.{bytes_of_tokens}
use Rattle.daide_text.specs.Frames.{more_pairs}
use Rattle.daide_text.proofs.frames.push_tokens.Given as goal

-- the digits appended so far, followed by those of the rest, are the digits of all
abbrev pub invariant-loop-rest : goal.invariant-loop-rest
invariant-loop-rest g l =
    l.text.items ++ more_pairs (bytes_of_tokens l.rest)
    ≡ l.initial.text.items ++ more_pairs (bytes_of_tokens l.tokens)

abbrev pub decreases-loop-rest : goal.decreases-loop-rest
decreases-loop-rest g l = length l.rest
