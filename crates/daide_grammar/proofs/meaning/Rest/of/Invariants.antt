use Rattle.daide_grammar.proofs.Common.{◌≡◌, take, length}
use Rattle.daide_grammar.proofs.meaning.Rest.of.Given as goal

-- the symbols so far are copied
abbrev pub invariant-loop-i : goal.invariant-loop-i
invariant-loop-i g l = record {
  room : length l.all ≡ 5;
  same : take l.i l.all ≡ take l.i l.symbol-items;
}
