use Rattle.std.proofs.Common.{List, refl, ap, ◌∙◌}
use Rattle.daide_io.specs.declared.network.SocketEvent.{SocketEvent}
use Rattle.daide_sockets.specs.Table.{Table, latest, with_events}
use Rattle.daide_sockets.proofs.poller.Poller.poll.Goals as goal

pub returns : goal.returns
returns g c =
    let before : Table = c.args.self.now.table in
    let now = c.now-now.result in (
      c.poll_time-timeout.result,
      c.poll_time-timeout.ensures,
      record {
        socket_events = c.poll.new.socket_events.items;
        polled = c.poll.new.self;
        reading = now;
        polls = c.poll.ensures;
        reads = c.now-now.ensures;
        table = c.note_now.ensures ∙ ap (λ (t : Table). record t { reading = latest t.reading now }) c.note_events.ensures
            ∙ ap (λ (events : List SocketEvent). record before {
              reading = latest before.reading now;
              rows = with_events before.rows events;
            }) c.as_slice.ensures.value;
      },
      refl,
    )
