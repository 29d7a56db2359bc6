use Rattle.std.proofs.Common.{◌≡◌, ◌++◌, Bool, true, nat_le, refl, sym, ap, ◌∙◌, subst}
use Rattle.std.specs.Prelude.{◌||◌, ◌&&◌, not}
use Rattle.daide_io.specs.ReadyQueue.{ReadyView, woken_all}
use Rattle.daide_io.proofs.ReadyLemmas.{woken_both}
use Rattle.daide_sockets.specs.PollTimes.{listener_armed, others_armed}
use Rattle.daide_sockets.specs.Table.{arming_all}
use Rattle.daide_sockets.specs.Rows.{closing_keys}
use Rattle.daide_sockets.specs.Table.{IsPollTime}
use Rattle.daide_sockets.specs.Accepting.{shut_if}
use Rattle.daide_sockets.specs.Stops.{stop_begins}
use Rattle.daide_sockets.specs.declared.admission.Acceptor.{Acceptor}
use Rattle.daide_sockets.specs.declared.control.Control.{Control}
use Rattle.daide_sockets.proofs.AcceptLemmas.{kept_came}
use Rattle.daide_sockets.proofs.RunPollLemmas.{among_later, orders_run, polls_run}
use Rattle.daide_sockets.proofs.system.SocketsSystemSocketPortsConnection.poll.Goals as goal

pub returns-clause-transition : goal.returns-clause-transition
returns-clause-transition g c =
    let old = c.args.self.now in
    let polled = c.poll_places.ensures.polls in
    let arms = subst (λ s. IsPollTime c.args.may_block (arming_all s.poller.table (others_armed s.poller.table
    (listener_armed s.poller.table s.acceptor) s.closings.streams)) polled.2) c.note_capacity.ensures.same polled.3 in
    let asleep = rw c.note_capacity.ensures.same at polled.5 in
    let places = rw c.note_capacity.ensures.same at polled.7 in
    let acceptor = rw (c.poll_places.ensures.same, c.note_capacity.ensures.same) at c.tidy.ensures.acceptor in
    let before = c.tidy.new.self in
    let closes = (c.take_orders-orders.result.stops_accepting && not before.control.stops_accepting)
    || (nat_le before.bots_in_all before.acceptor.came && not before.acceptor.is_closed) in
    let closing = rw (c.poll_places.ensures.same, c.note_capacity.ensures.same) at c.tidy.ensures.closing in
    let control = rw (c.poll_places.ensures.same, c.note_capacity.ensures.same) at c.tidy.ensures.control in
    let rows = rw (c.poll_places.ensures.same, c.note_capacity.ensures.same) at c.tidy.ensures.rows in
    let armed = c.take_orders-orders.ensures.armed in
    let goes = rw c.tidy.ensures.network at c.take_orders-orders.ensures.calls in
    let asked = c.take_orders-orders.ensures.control in
    let more = c.wake_stopped.ensures in
    let all = polls_run g.N.Network.transition g.N.Connection.Duplex.to_give g.N.Connection.Duplex.taken g.N.Connection.Duplex.calls polled.2 polled.0 more.0 old.poller.network c.poll_places.new.self.poller.network
    c.take_orders-orders.new.self.poller.network old.poller.table polled.4 polled.6 c.poll_places.new.self.poller.table
    c.tidy.new.self.poller.table armed.0 c.take_orders-orders.new.self.poller.table (closing_keys old.closings.streams)
    (closing_keys c.tidy.new.self.closings.streams) c.take_orders-orders.new.self.control asleep places polled.8 rows armed.1
    armed.2 (others_armed old.poller.table (listener_armed old.poller.table old.acceptor) old.closings.streams)
    c.args.may_block arms goes in
    rw (c.take_orders-orders.ensures.same, c.tidy.ensures.same, c.poll_places.ensures.same, c.note_capacity.ensures.same) (
      polled.0 ++ more.0,
      more.1 ∙ ap (λ (q : ReadyView). woken_all more.0 q) polled.1 ∙ sym (woken_both polled.0 more.0 _),
      λ held. (
        (all.2 held).0,
        (
          kept_came closes _ c.tidy.new.self.acceptor c.take_orders-orders.ensures.acceptor
              ∙ ap (λ (a : Acceptor). a.came) acceptor,
          refl,
          (_, closing),
        ),
        (record { places = all.0; bounded = c.is_bounded.ensures }, (_, (all.2 held).1)),
        (
          (refl, refl),
          (all.2 held).1,
          closes,
          rw all.1 (c.take_orders-orders.ensures.acceptor ∙ ap (shut_if closes) acceptor),
        ),
        rw all.1 closing,
        tt,
        orders_run g.N.Network.transition g.N.Connection.Duplex.to_give g.N.Connection.Duplex.taken g.N.Connection.Duplex.calls
            polled.2 polled.0 more.0 old.poller.network c.poll_places.new.self.poller.network
            c.take_orders-orders.new.self.poller.network old.poller.table polled.4 polled.6 c.poll_places.new.self.poller.table
            c.tidy.new.self.poller.table armed.0 c.take_orders-orders.new.self.poller.table (closing_keys old.closings.streams)
            (closing_keys c.tidy.new.self.closings.streams) c.take_orders-orders.new.self.control asleep places polled.8 rows
            armed.1 armed.2 (old.idle_time, old.stall_time) old.acceptor c.tidy.new.self.acceptor old.arrivals.items old.closings
            old.control _ c.take_orders-orders.result asked.2 asked.0 _ held acceptor
            (_, _, _, _, rw (c.tidy.ensures.same, c.poll_places.ensures.same, c.note_capacity.ensures.same) at asked.1)
            (rw (c.tidy.ensures.same, c.poll_places.ensures.same, c.note_capacity.ensures.same, c.tidy.ensures.network) at asked.3)
            asked.4,
      ),
    )

pub returns-clause-stops : goal.returns-clause-stops
returns-clause-stops g c =
    let polled = c.poll_places.ensures.polls in
    let control = rw (c.poll_places.ensures.same, c.note_capacity.ensures.same) at c.tidy.ensures.control in
    let more = c.wake_stopped.ensures in
    λ stops. (
      polled.0 ++ more.0,
      more.1 ∙ ap (λ (q : ReadyView). woken_all more.0 q) polled.1 ∙ sym (woken_both polled.0 more.0 _),
      λ place lt. among_later place polled.0 more.0 (more.2
          (subst (λ (was : Bool). stop_begins c.take_orders-orders.new.self.control was ≡ true)
          (sym (c.stops_now-was_stopped.ensures ∙ ap (λ (k : Control g.row.N-Connection.Denot). k.stops_now) control)) stops)
          place lt),
    )
