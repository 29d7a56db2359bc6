use Rattle.std.proofs.Common.{length}
use Rattle.daide_words.specs.Word.{names_of}
use Rattle.daide_words.specs.Words.{words_of}
use Rattle.daide_text.specs.Pieces.{IsReadUpTo}
use Rattle.daide_text.proofs.line.read_tokens.Given as goal

-- the result for the line is the tokens so far, followed by the result for the rest
abbrev pub invariant-loop-rest : goal.invariant-loop-rest
invariant-loop-rest g l = IsReadUpTo (names_of (words_of l.words)) l.line l.rest l.tokens.items

abbrev pub decreases-loop-rest : goal.decreases-loop-rest
decreases-loop-rest g l = length l.rest
