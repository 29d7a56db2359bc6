use Rattle.std.proofs.Common.{length, refl, ap}
use Rattle.daide_sockets.specs.Table.{Table}
use Rattle.daide_sockets.proofs.KeptRowLemmas.{reports_hold, turn_beside}
use Rattle.daide_sockets.proofs.system.SocketsSystemSocketPortsConnection.begin_turn.Goals as goal

pub returns-in-Some-clause-ports : goal.returns-in-Some-clause-ports
returns-in-Some-clause-ports g c =
    rw c.stop.ensures (c.begin_turn.ensures.begins, c.begin_turn.ensures.settles, c.begin_turn.ensures.timers)

-- an operator stops the session, or not
pub returns-in-Some-clause-system : goal.returns-in-Some-clause-system
returns-in-Some-clause-system g c = rw c.stop.ensures (λ held. (
  reports_hold _ _ c.args.place _ c.begin_turn.ensures.takes.table held,
  refl,
  (
    record {
      places = ap (λ (t : Table). length t.deadlines) c.begin_turn.ensures.takes.table;
      bounded = c.is_bounded.ensures;
    },
    (refl, c.begin_turn.ensures.takes),
  ),
  ((refl, refl), refl),
  refl,
  turn_beside _ _ c.args.place c.begin_turn.ensures.takes.table,
  refl,
))

pub returns-in_default-clause-system : goal.returns-in_default-clause-system
returns-in_default-clause-system g c = λ held. (
  reports_hold _ _ c.args.place _ c.begin_turn.ensures.takes.table held,
  refl,
  (
    record {
      places = ap (λ (t : Table). length t.deadlines) c.begin_turn.ensures.takes.table;
      bounded = c.is_bounded.ensures;
    },
    (refl, c.begin_turn.ensures.takes),
  ),
  ((refl, refl), refl),
  refl,
  turn_beside _ _ c.args.place c.begin_turn.ensures.takes.table,
  refl,
)
