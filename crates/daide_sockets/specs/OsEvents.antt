-- What the network of the operating system passes on of its polls. (own)
use Rattle.std.specs.Prelude.{◌≡◌, ◌⊎◌, ℕ, List, map}
use Rattle.mio.specs.Event.{event_token, is_readable, is_writable, is_read_closed, is_write_closed, is_error, is_priority}
use Rattle.mio.specs.declared.event.event.Event.{Event}
use Rattle.daide_causes.specs.Causes.{WasRefused}
use Rattle.daide_io.specs.Network.{NetworkCall, Polls}
use Rattle.daide_io.specs.declared.network.SocketEvent.{SocketEvent}

-- the report of one event: the key under which its socket is followed, and its flags as the system has them
abbrev pub socket_event_of : Event → SocketEvent
socket_event_of event = record {
  key = (event_token event).0;
  is_readable = is_readable event;
  is_writable = is_writable event;
  is_read_closed = is_read_closed event;
  is_write_closed = is_write_closed event;
  is_error = is_error event;
  is_priority = is_priority event;
}

-- A poll reports each event that the system gave, in their order, unless the allocator refused room for it. Of any other call
-- nothing is said.
abbrev pub PassesOn : {C : Type 0} → (ℕ → Type 0) → List Event → NetworkCall C → Type 0
PassesOn Refuses events (Polls timeout socket_events) =
    (socket_events ≡ map socket_event_of events) ⊎ WasRefused Refuses
PassesOn Refuses events _ = Unit {0}
