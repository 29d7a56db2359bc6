use Rattle.daide_words.proofs.Common.{◌≡◌, ◌+◌, length, place_from}
use Rattle.daide_words.proofs.words.place_in.Given as goal

-- the names before the index belong to other tokens
abbrev pub invariant-loop-rest : goal.invariant-loop-rest
invariant-loop-rest l = record {
  counted : l.place + length l.rest ≡ length l.names;
  others : place_from l.place l.rest l.code ≡ place_from 0 l.names l.code;
}

abbrev pub decreases-loop-rest : goal.decreases-loop-rest
decreases-loop-rest l = length l.rest
