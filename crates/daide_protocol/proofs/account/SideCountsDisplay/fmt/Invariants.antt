use Rattle.daide_protocol.proofs.Common.{◌++◌, take, codes}
use Rattle.std.specs.Fmt.{decimal, HasWritten, IsPlainFormatter}
use Rattle.std.specs.List.{flat_map}
use Rattle.daide_protocol.specs.Account.{all_counters, side_count}
use Rattle.daide_protocol.specs.AccountText.{counter_name}
use Rattle.daide_protocol.proofs.account.SideCountsDisplay.fmt.Given as goal

abbrev pub invariant-loop-counter : goal.invariant-loop-counter
invariant-loop-counter g l =
    IsPlainFormatter l.fn.f → HasWritten g.W.Write.write_str_gives l.fn.f
    (flat_map (λ counter. codes " " ++ decimal (side_count counter l.self) ++ codes " " ++ counter_name counter)
    (take l.counter-index all_counters)) l.f
