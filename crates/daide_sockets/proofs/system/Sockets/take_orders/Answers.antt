use Rattle.std.proofs.Common.{◌≡◌, refl, sym, ap, ◌∙◌, inl, inr, Bool}
use Rattle.std.specs.Prelude.{nat_le}
use Rattle.daide_io.specs.Network.{StopsListening}
use Rattle.daide_sockets.specs.Accepting.{shut_if, ClosesOrNot}
use Rattle.daide_sockets.specs.Wakeups.{GoesBy, is_after_poll}
use Rattle.daide_sockets.proofs.AtRestLemmas.{all_close, all_reached, nothing_closes, reached_all, some_status, stop_closes}
use Rattle.daide_sockets.proofs.KeptRowLemmas.{changes_none}
use Rattle.daide_sockets.proofs.NetworkCallLemmas.{both, none, one}
use Rattle.daide_sockets.proofs.system.Sockets.take_orders.Goals as goal
use Rattle.daide_sockets.proofs.system.Sockets.take_orders.Goals.{then-closes, else-closes}

pub returns-then-has_no_orders-clause-control : goal.returns-then-has_no_orders-clause-control
returns-then-has_no_orders-clause-control g c =
    let some = some_status _ _ _ _ _ _ _ _ _ in
    (some.0, some.1, c.args.self.now.poller.network, c.orders_at_rest.ensures.control some.0 c.args.self.now.present.bots.items, inl refl)

pub returns-then-has_no_orders-clause-armed : goal.returns-then-has_no_orders-clause-armed
returns-then-has_no_orders-clause-armed g c =
    (c.args.self.now.poller.table, changes_none _ _ _ refl, c.has_no_orders.ensures.armed c.if-has_no_orders.true)

pub returns-then-has_no_orders-clause-calls : goal.returns-then-has_no_orders-clause-calls
returns-then-has_no_orders-clause-calls g c = none g.N.Network.transition is_after_poll _ _ refl

pub returns-then-has_no_orders-clause-acceptor : goal.returns-then-has_no_orders-clause-acceptor
returns-then-has_no_orders-clause-acceptor g c =
    let own = c.args.self.now in
    let still = nothing_closes own.control.stops_accepting c.orders_at_rest.result.stops_accepting
    (nat_le own.bots_in_all own.acceptor.came) own.acceptor.is_closed c.orders_at_rest.ensures.stops
    (λ all. c.has_no_orders.ensures.open c.if-has_no_orders.true (reached_all own.bots_in_all own.acceptor.came all)) in
    ap (λ (b : Bool). shut_if b own.acceptor) (sym still)

-- the next poll watches it as it is after the listener for bots was closed, or was not
pub returns-clause-armed : goal.returns-clause-armed
returns-clause-armed g c =
    let same : c.if-closes.self.poller.table ≡ c.begin_round-orders.new.poller.table = elim c.if-closes.branch [
      | then-closes w ↦ rw w.self-is w.close.ensures.table
      | else-closes w ↦ rw w.self-is refl
    ] in
    (c.if-closes.self.poller.table, rw same c.begin_round-orders.ensures.table, c.arm.ensures)

pub returns-clause-calls : goal.returns-clause-calls
returns-clause-calls g c =
    let goes : GoesBy is_after_poll g.N.Network.transition c.begin_round-orders.new.poller.network c.if-closes.self.poller.network =
    elim c.if-closes.branch [
      | then-closes w ↦ rw w.self-is (one g.N.Network.transition is_after_poll _ _ StopsListening refl w.close.ensures.closes)
      | else-closes w ↦ rw w.self-is (none g.N.Network.transition is_after_poll _ _ refl)
    ] in
    both g.N.Network.transition is_after_poll _ _ _ c.begin_round-orders.ensures.calls goes

pub returns-clause-kept : goal.returns-clause-kept
returns-clause-kept g c =
    let same : c.if-closes.self.control ≡ c.begin_round-orders.new.self = elim c.if-closes.branch [
      | then-closes w ↦ rw w.self-is refl
      | else-closes w ↦ rw w.self-is refl
    ] in
    rw same c.begin_round-orders.ensures.kept

pub returns-clause-now_kept : goal.returns-clause-now_kept
returns-clause-now_kept g c =
    let same : c.if-closes.self.control ≡ c.begin_round-orders.new.self = elim c.if-closes.branch [
      | then-closes w ↦ rw w.self-is refl
      | else-closes w ↦ rw w.self-is refl
    ] in
    rw same c.begin_round-orders.ensures.now_kept

pub returns-clause-control : goal.returns-clause-control
returns-clause-control g c =
    let same : c.if-closes.self.control ≡ c.begin_round-orders.new.self = elim c.if-closes.branch [
      | then-closes w ↦ rw w.self-is refl
      | else-closes w ↦ rw w.self-is refl
    ] in
    let closes : ClosesOrNot g.N.Network.transition c.begin_round-orders.new.poller.network c.if-closes.self.poller.network =
    elim c.if-closes.branch [
      | then-closes w ↦ rw w.self-is (inr w.close.ensures.closes)
      | else-closes w ↦ rw w.self-is (inl refl)
    ] in (
      c.run_status-run.result,
      c.run_status-run.ensures,
      c.begin_round-orders.new.poller.network,
      rw same c.begin_round-orders.ensures.control,
      closes,
    )

pub returns-clause-closes : goal.returns-clause-closes
returns-clause-closes g c = λ stops was. elim c.if-closes.branch [
  | then-closes w ↦ rw w.self-is (c.begin_round-orders.new.poller.network, w.close.ensures.closes)
  | else-closes w ↦ absurd (stop_closes c.begin_round-orders.result.stops_accepting c.stops_accepting-was_stopped.result _ stops
      (c.stops_accepting-was_stopped.ensures ∙ was) w.if-closes.false)
]

pub returns-clause-all_came : goal.returns-clause-all_came
returns-clause-all_came g c = λ bots still. elim c.if-closes.branch [
  | then-closes w ↦ rw w.self-is (c.begin_round-orders.new.poller.network, w.close.ensures.closes)
  | else-closes w ↦ absurd (all_close _ c.has_all_bots.result c.is_closed.result
      (c.has_all_bots.ensures ∙ all_reached c.args.self.now.bots_in_all c.args.self.now.acceptor.came bots)
      (c.is_closed.ensures ∙ still) w.if-closes.false)
]

pub returns-clause-acceptor : goal.returns-clause-acceptor
returns-clause-acceptor g c =
    let own = c.args.self.now.acceptor in elim c.if-closes.branch [
      | then-closes w ↦
          let on = rw (c.stops_accepting-was_stopped.ensures, c.has_all_bots.ensures, c.is_closed.ensures) at w.if-closes.true in
          rw w.self-is (w.close.ensures.shut ∙ ap (λ (b : Bool). shut_if b own) (sym on))
      | else-closes w ↦
          let off = rw (c.stops_accepting-was_stopped.ensures, c.has_all_bots.ensures, c.is_closed.ensures) at w.if-closes.false in
          rw w.self-is (ap (λ (b : Bool). shut_if b own) (sym off))
    ]
