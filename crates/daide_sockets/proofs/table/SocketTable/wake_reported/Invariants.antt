use Rattle.std.proofs.Common.{◌≡◌, ◌*◌, drop, length}
use Rattle.daide_io.specs.ReadyQueue.{woken_all}
use Rattle.daide_sockets.specs.Table.{event_places}
use Rattle.daide_sockets.proofs.table.SocketTable.wake_reported.Given as goal

-- the rest of the events is still to be looked at
abbrev pub invariant-loop-event : goal.invariant-loop-event
invariant-loop-event g l =
    woken_all (event_places (2 * length l.self.deadlines) (drop l.event-index l.socket_events)) l.ready
    ≡ woken_all (event_places (2 * length l.self.deadlines) l.socket_events) l.initial.ready
