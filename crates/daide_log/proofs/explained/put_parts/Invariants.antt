use Rattle.daide_log.proofs.Common.{◌≡◌, ◌+◌, ◌*◌, ◌≤◌, All, length, IsSameWriter, all_of, states_of, IsIdle}
use Rattle.daide_log.specs.Explained.{parts_from}
use Rattle.daide_log.proofs.PartLemmas.{PutsParts}
use Rattle.daide_log.proofs.explained.put_parts.Given as goal

abbrev pub invariant-sessions : goal.invariant-sessions
invariant-sessions g l =
    PutsParts (parts_from l.version 1 (states_of l.fn.sessions)) (parts_from l.version l.number (states_of l.rest)) l.count
    (all_of g.W.Write.contents l.fn.output) (all_of g.W.Write.contents l.output)
    × (l.count ≤ 2 * l.number) × (l.number + length l.rest ≡ 1 + length l.fn.sessions) × All IsIdle l.rest
    × IsSameWriter l.fn.output l.output

abbrev pub decreases-sessions : goal.decreases-sessions
decreases-sessions g l = length l.rest
