use Rattle.std.proofs.Common.{◌≡◌, ◌++◌, drop, map}
use Rattle.daide_sockets.specs.OsEvents.{socket_event_of}
use Rattle.daide_sockets.proofs.os_network.pass_on.Given as goal

-- the rest is still to be passed on
abbrev pub invariant-loop-event : goal.invariant-loop-event
invariant-loop-event g l =
    l.socket_events.items ++ map socket_event_of (drop l.event-index l.events) ≡ map socket_event_of l.events
