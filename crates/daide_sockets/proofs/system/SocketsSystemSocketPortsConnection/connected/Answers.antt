use Rattle.std.proofs.Common.{◌≡◌, ℕ, Bool, true, false, List, Option, Some, length, refl, sym, ap, ◌∙◌, subst}
use Rattle.std.specs.Prelude.{slice_get}
use Rattle.daide_frame.specs.declared.side.Side.TheVariants.{Bot, Server}
use Rattle.daide_sockets.specs.Pairing.{Arriving, arrival_at, arrival_in}
use Rattle.daide_sockets.specs.Stops.{is_connect_stopped, is_stop_requested}
use Rattle.daide_sockets.specs.declared.control.Control.{Control}
use Rattle.daide_sockets.specs.Table.{Table, key_of, report_at}
use Rattle.daide_sockets.proofs.AcceptLemmas.{unreached}
use Rattle.daide_sockets.proofs.ConnectLemmas.{connected_joins, connected_reports, connected_to, ready_is, key_fits, rests_for, rests_unchanged}
use Rattle.daide_sockets.proofs.KeptRowLemmas.{changes_none, connect_beside, connect_bot, connect_holds, connect_kept, connect_others}
use Rattle.daide_sockets.proofs.KeptRowLemmas.{failed_beside, failed_holds, failed_others, failed_places, rested_holds, rested_places, same_deadlines}
use Rattle.daide_sockets.proofs.PairingLemmas.{put_back, there_again, unchanged_pending}
use Rattle.daide_sockets.proofs.NetworkCallLemmas.{both, none, tries}
use Rattle.daide_sockets.specs.Accepting.{HasConnected}
use Rattle.daide_sockets.specs.Scheduling.{pair_of}
use Rattle.daide_sockets.specs.declared.ports.SocketPorts.{SocketPorts}
use Rattle.daide_sockets.specs.Wakeups.{is_of_connect}
use Rattle.daide_sockets.proofs.system.SocketsSystemSocketPortsConnection.connected.Goals as goal

-- whether the bot at a place is stopped is that of its number
stopped_there : {S : Type 0} (control : Control S) (arrivals : List (Option (Arriving S))) (place : ℕ) (arrival : Arriving S)
    (stops : Bool) → slice_get arrivals place ≡ Some (Some arrival) → is_stop_requested control arrival.identity.number ≡ stops →
    is_connect_stopped control (arrival_at arrivals place) ≡ stops
stopped_there control arrivals place arrival stops there e =
    ap (λ (item : Option (Option (Arriving _))). is_connect_stopped control (arrival_in item)) there ∙ e

pub returns-in_default-clause-transition : goal.returns-in_default-clause-transition
returns-in_default-clause-transition g c =
    let nothing = c.in_default.ensures.none in
    rw (c.take_arrival.ensures.same, nothing.1) (λ held. (
      held,
      (unchanged_pending c.args.self.now.arrivals.items c.args.place, refl, refl),
      (
        record { places = refl; bounded = rw c.take_arrival.ensures.same at c.is_bounded.ensures },
        (none g.N.Network.transition is_of_connect _ _ refl, λ other lt ne. record { reports = λ side. refl; deadline = refl }, refl),
      ),
      (((refl, refl), refl), rests_unchanged c.args.self.now.arrivals.items c.args.self.now.poller.table c.args.place nothing.0),
      refl,
      λ key le. refl,
      refl,
    ))

-- sessions end now: the connect is given up
pub returns-then-is_stop_requested-clause-transition : goal.returns-then-is_stop_requested-clause-transition
returns-then-is_stop_requested-clause-transition g c =
    let old = c.args.self.now.poller.table in
    let lt = c.in-Some.ensures.rows.0 in
    let closes = rw (c.give_up.ensures.1, c.take_arrival.ensures.same) at c.let_go.ensures.closes in
    let rows = rw c.take_arrival.ensures.same at c.let_go.ensures.rows in
    rw (c.let_go.ensures.same, c.take_arrival.ensures.same) (λ held. (
      failed_holds old old _ c.args.place _ _ _ lt refl (changes_none _ _ _ refl) rows held,
      (c.in-Some.arrival, c.in-Some.ensures.some, (_, closes), refl),
      (
        record {
          places = failed_places old old _ c.args.place _ _ _ lt refl (changes_none _ _ _ refl) rows held;
          bounded = c.is_bounded-then-is_stop_requested.ensures;
        },
        (
          rw c.take_arrival.ensures.same at c.let_go.ensures.calls,
          failed_others old old _ c.args.place _ _ _ lt refl (changes_none _ _ _ refl) rows held,
          tt,
        ),
      ),
      ((refl, refl), refl),
      (_, closes),
      failed_beside old old _ c.args.place _ _ _ lt refl (changes_none _ _ _ refl) rows held,
      refl,
    ))

pub returns-then-is_stop_requested-clause-leaves : goal.returns-then-is_stop_requested-clause-leaves
returns-then-is_stop_requested-clause-leaves g c = λ failed.
    let present = rw (c.give_up.ensures.0, c.take_arrival.ensures.same) at c.let_go.ensures.present in
    let logged = rw (c.give_up.ensures.0, c.take_arrival.ensures.same) at c.let_go.ensures.logged in
    let on = stopped_there c.args.self.now.control c.args.self.now.arrivals.items c.args.place c.in-Some.arrival true c.in-Some.ensures.some.there
    (rw (c.number.ensures, c.take_arrival.ensures.same) at (sym c.is_stop_requested.ensures ∙ c.if-is_stop_requested.true)) in
    rw (c.let_go.ensures.same, on) (c.in-Some.arrival, c.in-Some.ensures.some, present, c.args.self.now.errors, logged)

-- it is still pending: its place rests
pub returns-then-advances-clause-transition : goal.returns-then-advances-clause-transition
returns-then-advances-clause-transition g c =
    let old = c.args.self.now in
    let later = c.advances.new.self in
    let new = c.put_arrival.new.self.arrivals.items in
    let out = c.in-Some.ensures.some in
    let lt = c.in-Some.ensures.rows.0 in
    let key = key_fits c.args.place _ c.server_key.result Server c.server_key.ensures c.in-Some.ensures.rows.1 in
    let table = rw c.take_arrival.ensures.same at c.advances.ensures.table in
    let tried = rw c.take_arrival.ensures.same at c.advances.ensures.tries in
    let early = rw c.take_arrival.ensures.same at (c.advances.ensures.late c.if-advances.true) in
    let moves = rw c.take_arrival.ensures.same at (c.advances.ensures.moves c.if-advances.true) in
    rw (c.put_arrival.ensures.same, c.take_arrival.ensures.same) (λ held. (
      rested_holds _ _ c.args.place _ _ c.rest.ensures (connect_holds _ _ c.args.place _ _ lt key table held),
      (
        put_back old.arrivals.items c.take_arrival.new.self.arrivals.items new c.args.place c.in-Some.arrival later out
            c.advances.ensures.goes_on c.put_arrival.ensures.put,
        refl,
        refl,
      ),
      (
        record {
          places = rested_places _ _ c.args.place _ c.rest.ensures ∙ ap length (same_deadlines _ _ _ table);
          bounded = rw c.put_arrival.ensures.same at c.is_bounded-then-advances.ensures;
        },
        (
          tries g.N.Network.transition _ _ _ _ _ _ tried,
          connect_others _ _ _ c.args.place _ _ key table c.rest.ensures,
          ap (λ (t : Table). report_at t (key_of c.args.place Bot)) c.rest.ensures
              ∙ connect_bot _ _ c.args.place _ key table,
        ),
      ),
      (
        ((refl, refl), refl),
        rests_for old.poller.table c.advances.new.poller.table c.rest.new.self c.args.place c.server_key.result c.in-Some.arrival
            later c.due.result (arrival_at new c.args.place)
            (there_again old.arrivals.items c.take_arrival.new.self.arrivals.items new c.args.place c.in-Some.arrival later out
            c.put_arrival.ensures.put)
            key table c.rest.ensures c.due.ensures c.advances.ensures.goes_on early moves
            (c.advances.ensures.still c.if-advances.true),
      ),
      refl,
      λ row le. ap (λ (t : Table). report_at t row) c.rest.ensures
          ∙ connect_beside _ _ c.args.place _ lt key table row le,
      refl,
    ))

-- it is done: its ports begin
pub returns-in-Ok-clause-transition : goal.returns-in-Ok-clause-transition
returns-in-Ok-clause-transition g c =
    let old = c.args.self.now.poller.table in
    let lt = c.in-Some.ensures.rows.0 in
    let key = key_fits c.args.place _ c.server_key.result Server c.server_key.ensures c.in-Some.ensures.rows.1 in
    let table = rw c.take_arrival.ensures.same at c.advances.ensures.table in
    let tried = rw c.take_arrival.ensures.same at c.advances.ensures.tries in
    let reported = rw (c.take_arrival.ensures.same, key) at (c.advances.ensures.reported c.if-advances.false) in
    let reading = c.now-now.ensures ∙ ap (λ (t : Table). t.reading) table.same in
    let begins = rw (reading, c.take_arrival.ensures.same) at c.in-Ok.ensures.begins in
    let joined = connected_joins c.in-Some.arrival c.advances.new.self _ (c.advances.ensures.reached c.if-advances.false)
    c.in-Ok.ensures.joined in
    rw (c.log_server.ensures, c.note_reached.ensures.same, c.take_arrival.ensures.same) (λ held. (
      connect_holds _ _ c.args.place _ _ lt key table held,
      (c.in-Some.arrival, c.in-Some.ensures.some, joined, refl, refl),
      (
        record {
          places = ap length (same_deadlines _ _ _ table);
          bounded = rw (c.log_server.ensures, c.note_reached.ensures.same) at c.is_bounded-in-Ok.ensures;
        },
        (
          tries g.N.Network.transition _ _ _ _ _ _ tried,
          connect_kept _ _ c.args.place _ key table,
          (
            connect_bot _ _ c.args.place _ key table,
            connected_reports c.advances.new.self.known c.in-Ok.ports.sides.server.readiness
                (report_at old (key_of c.args.place Server)) reported c.in-Ok.ensures.known,
          ),
        ),
      ),
      (((refl, refl), refl), begins),
      refl,
      connect_beside _ _ c.args.place _ lt key table,
      refl,
    ))

pub returns-in-Ok-clause-connected : goal.returns-in-Ok-clause-connected
returns-in-Ok-clause-connected g c = λ ports ready.
    let reached = connected_to g.N.Network.transition _ _ c.advances.new.self (pair_of c.in-Ok.ports)
    (c.advances.ensures.connected c.if-advances.false) c.in-Ok.ensures.joined in
    subst (λ (p : SocketPorts g.row.N-Connection.Denot). HasConnected g.N.Network.transition p.sides.server.stream.stream
    c.args.self.now.poller.network c.log_server.new.self.poller.network) (ready_is c.in-Ok.ports ports ready)
    (rw (c.log_server.ensures, c.note_reached.ensures.same) (rw c.take_arrival.ensures.same at reached))

-- its server was not reached
pub returns-in-Err-clause-transition : goal.returns-in-Err-clause-transition
returns-in-Err-clause-transition g c =
    let old = c.args.self.now.poller.table in
    let mid = c.advances.new.poller.table in
    let lt = c.in-Some.ensures.rows.0 in
    let key = key_fits c.args.place _ c.server_key.result Server c.server_key.ensures c.in-Some.ensures.rows.1 in
    let table = rw c.take_arrival.ensures.same at c.advances.ensures.table in
    let tried = rw c.take_arrival.ensures.same at c.advances.ensures.tries in
    let bot = c.in-Err.ensures.unreached.1 ∙ c.advances.ensures.goes_on.bot in
    let reading = ap (λ (t : Table). t.reading) table.same in
    let closes = rw (c.note_away.ensures.same, bot, reading, c.take_arrival.ensures.same) at c.let_go-in-Err.ensures.closes in
    let rows = rw (c.note_away.ensures.same, c.take_arrival.ensures.same) at c.let_go-in-Err.ensures.rows in
    rw (c.let_go-in-Err.ensures.same, c.note_away.ensures.same, c.take_arrival.ensures.same) (λ held. (
      failed_holds old mid _ c.args.place _ _ _ lt key table rows held,
      (c.in-Some.arrival, c.in-Some.ensures.some, (_, closes), refl),
      (
        record {
          places = failed_places old mid _ c.args.place _ _ _ lt key table rows held;
          bounded = c.is_bounded-in-Err.ensures;
        },
        (
          both g.N.Network.transition is_of_connect _ _ _ (tries g.N.Network.transition _ _ _ _ _ _ tried)
              (rw c.note_away.ensures.same at c.let_go-in-Err.ensures.calls),
          failed_others old mid _ c.args.place _ _ _ lt key table rows held,
          tt,
        ),
      ),
      ((refl, refl), refl),
      (_, closes),
      failed_beside old mid _ c.args.place _ _ _ lt key table rows held,
      refl,
    ))

pub returns-in-Err-clause-leaves : goal.returns-in-Err-clause-leaves
returns-in-Err-clause-leaves g c = λ failed.
    let identity = c.in-Err.ensures.unreached.0 ∙ c.advances.ensures.goes_on.identity in
    let present = rw (c.note_away.ensures.same, identity, c.take_arrival.ensures.same) at c.let_go-in-Err.ensures.present in
    let table = rw c.take_arrival.ensures.same at c.advances.ensures.table in
    let reading = ap (λ (t : Table). t.reading) table.same in
    let logged = rw (c.note_away.ensures.same, identity, reading, c.take_arrival.ensures.same) at c.let_go-in-Err.ensures.logged in
    let off = stopped_there c.args.self.now.control c.args.self.now.arrivals.items c.args.place c.in-Some.arrival false c.in-Some.ensures.some.there
    (rw (c.number.ensures, c.take_arrival.ensures.same) at (sym c.is_stop_requested.ensures ∙ c.if-is_stop_requested.false)) in
    rw (c.let_go-in-Err.ensures.same, c.note_away.ensures.same, off) (
      c.in-Some.arrival,
      c.in-Some.ensures.some,
      present,
      c.note_away.new.self.errors,
      logged,
    )

pub returns-in-Err-clause-unreached : goal.returns-in-Err-clause-unreached
returns-in-Err-clause-unreached g c = λ failed off.
    let all = rw c.take_arrival.ensures.same at c.advances.ensures.all in
    let key = key_fits c.args.place _ c.server_key.result Server c.server_key.ensures c.in-Some.ensures.rows.1 in
    let tried = rw c.take_arrival.ensures.same at c.advances.ensures.tries in
    rw (c.let_go-in-Err.ensures.same, c.note_away.ensures.same, c.take_arrival.ensures.same) (
      c.in-Some.arrival,
      c.advances.new.poller.network,
      c.in-Some.ensures.some,
      unreached g.N.Network.transition _ _ _ _ _ _ _ _ (λ early. all early c.in-Err.ensures.unreached.2) (rw key at tried),
    )
