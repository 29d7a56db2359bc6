use Rattle.std.proofs.Common.{◌≡◌, drop}
use Rattle.daide_sockets.specs.Table.{with_events}
use Rattle.daide_sockets.proofs.table.SocketTable.note_events.Given as goal

-- the rest of the events is still to be added
abbrev pub invariant-loop-event : goal.invariant-loop-event
invariant-loop-event l = record {
  rows : with_events l.self.rows (drop l.event-index l.socket_events) ≡ with_events l.initial.self.rows l.socket_events;
  rest : l.self ≡ record l.initial.self { rows = l.self.rows };
}
