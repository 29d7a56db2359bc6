use Rattle.std.proofs.Common.{refl, sym, ap, ◌∙◌, Option}
use Rattle.std.specs.declared.time.Instant.{Instant}
use Rattle.daide_sockets.specs.Table.{Table, resting}
use Rattle.daide_sockets.proofs.KeptRowLemmas.{rested_holds, rested_places}
use Rattle.daide_sockets.proofs.system.SocketsSystemSocketPortsConnection.rest.Goals as goal

pub returns-clause-transition : goal.returns-clause-transition
returns-clause-transition g c = λ held. (
  rested_holds _ _ c.args.place _ _ c.rest.ensures held,
  refl,
  (
    record { places = rested_places _ _ c.args.place _ c.rest.ensures; bounded = c.is_bounded-2.ensures },
    (
      refl,
      (
        sym c.may_go_on.ensures ∙ c.if-may_go_on.false,
        c.rest.ensures ∙ ap (λ (due : Option Instant). resting c.args.self.now.poller.table c.args.place due) c.due.ensures,
      ),
    ),
  ),
  ((refl, refl), refl),
  refl,
  ap (λ (t : Table). t.rows) c.rest.ensures,
  refl,
)
