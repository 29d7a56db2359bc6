use Rattle.std.proofs.Common.{refl, rules}
use Rattle.daide_frame.specs.declared.side.Side.TheVariants.{Bot, Server}
use Rattle.daide_sockets.proofs.ConnectLemmas.{key_fits}
use Rattle.daide_sockets.proofs.KeptRowLemmas.{accept_only, accept_then, changes_none}
use Rattle.daide_sockets.proofs.system.Sockets.accept_next.Goals as goal

pub returns-clause-comes : goal.returns-clause-comes
returns-clause-comes g c = record {
  arrival = c.new-arrival.result;
  came = search rules;
  free = search rules;
  arrivals = search rules;
  number = search rules;
  bot = search rules;
  server = search rules;
  closing = search rules;
}

pub returns-clause-times : goal.returns-clause-times
returns-clause-times g c = (c.new-arrival.result, search rules, search rules, search rules)

pub returns-clause-admitted : goal.returns-clause-admitted
returns-clause-admitted g c =
    let has = c.has_place.ensures.rows c.if-not-has_place.false in
    let key = key_fits c.args.place _ c.bot_key.result Bot c.bot_key.ensures has.1 in
    let server = key_fits c.args.place _ c.server_key-key.result Server c.server_key-key.ensures has.1 in (
      c.in-Ok.next.0.address,
      search rules,
      record {
        arrival = c.new-arrival.result;
        mid = c.next_bot-next.new.poller.network;
        brings = search rules;
        connects = search rules;
        arrivals = search rules;
        identity = search rules;
        may = search rules;
        present = search rules;
      },
    )

pub returns-in-Err-clause-left : goal.returns-in-Err-clause-left
returns-in-Err-clause-left g c = λ lt free few due.
    rw c.await_bots.ensures at (c.in-Err.ensures.left (rw c.await_bots.ensures few) due)

pub returns-then-not-has_place-clause-table : goal.returns-then-not-has_place-clause-table
returns-then-not-has_place-clause-table g c = changes_none _ _ _ refl

pub returns-in-Err-clause-table : goal.returns-in-Err-clause-table
returns-in-Err-clause-table g c =
    let has = c.has_place.ensures.rows c.if-not-has_place.false in
    let lt = has.0 in
    let key = key_fits c.args.place _ c.bot_key.result Bot c.bot_key.ensures has.1 in
    accept_only _ _ c.args.place _ lt key c.next_bot-next.ensures.table

pub returns-clause-table : goal.returns-clause-table
returns-clause-table g c =
    let has = c.has_place.ensures.rows c.if-not-has_place.false in
    let lt = has.0 in
    let bot = key_fits c.args.place _ c.bot_key.result Bot c.bot_key.ensures has.1 in
    let server = key_fits c.args.place _ c.server_key-key.result Server c.server_key-key.ensures has.1 in
    rw c.put_arrival.ensures.same
    (accept_then _ _ _ c.args.place _ _ lt bot server c.next_bot-next.ensures.table c.new-arrival.ensures.table)

pub returns-in-Err-clause-made : goal.returns-in-Err-clause-made
returns-in-Err-clause-made g c = λ lt free few due. record {
  mid = c.next_bot-next.new.poller.network;
  accepts = rw c.await_bots.ensures at (c.next_bot-next.ensures.once (rw c.await_bots.ensures due) (rw c.await_bots.ensures few));
  tried = 0;
  connects = refl;
}

pub returns-clause-made : goal.returns-clause-made
returns-clause-made g c = λ lt free few due.
    let has = c.has_place.ensures.rows c.if-not-has_place.false in
    let server = key_fits c.args.place _ c.server_key-key.result Server c.server_key-key.ensures has.1 in
    rw c.put_arrival.ensures.same (record {
      mid = c.next_bot-next.new.poller.network;
      accepts = rw c.await_bots.ensures at (c.next_bot-next.ensures.once (rw c.await_bots.ensures due) (rw c.await_bots.ensures few));
      tried = c.new-arrival.result.tried;
      connects = rw server at c.new-arrival.ensures.calls;
    })

pub returns-in-Err-clause-kept : goal.returns-in-Err-clause-kept
returns-in-Err-clause-kept g c = λ lt free few due places.
    rw c.await_bots.ensures at (c.in-Err.ensures.kept (rw c.await_bots.ensures few) (rw c.await_bots.ensures due) places)
