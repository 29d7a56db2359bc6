use Rattle.std.proofs.Common.{◌≡◌, take, true}
use Rattle.std.specs.List.{list_all}
use Rattle.daide_text.specs.Line.{is_in_quote}
use Rattle.daide_text.proofs.pieces.quote_end.Given as goal

abbrev pub invariant-loop-end : goal.invariant-loop-end
invariant-loop-end l = list_all is_in_quote (take l.end l.bytes) ≡ true
