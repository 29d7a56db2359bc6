use Rattle.std.proofs.Common.{◌<◌, Some, length, refl, sym, ap, ◌∙◌, rules}
use Rattle.std.proofs.lemmas.Option.{slice_get_read}
use Rattle.daide_sockets.proofs.PairingLemmas.{none_taken}
use Rattle.daide_sockets.proofs.system.Sockets.take_arrival.Goals as goal

pub returns-clause-none : goal.returns-clause-none
returns-clause-none g c =
    let arrivals = c.args.self.now.arrivals.items in
    let lt : c.args.place < length arrivals = search rules in
    none_taken {S = g.row.N-Connection.Denot} arrivals _ c.args.place (length c.args.self.now.poller.table.deadlines) c.take.result
    (slice_get_read arrivals (length arrivals) c.args.place c.index_mut.result.now refl lt c.index_mut.ensures.value
    ∙ ap Some (sym c.take.ensures.value)) (search rules)
