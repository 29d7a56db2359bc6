use Rattle.std.proofs.Common.{[], ◌∷◌, refl, ap, ◌∙◌}
use Rattle.daide_protocol.specs.Wires.{SessionView}
use Rattle.daide_io.specs.System.{BeginsTurn}
use Rattle.daide_driver.specs.Slab.{with_ports_at_place}
use Rattle.daide_event_loop.proofs.BeginningLemmas.{lent, lent_there}
use Rattle.daide_event_loop.proofs.serving.take_turn.Goals as goal

pub turn-requires : goal.turn-requires
turn-requires g c =
    lent_there g.P.Ports.transition c.args.slab.now c.args.place c.account-account.result c.ports_mut.result.now c.begin_turn.new.ports
    c.requires (λ now at. c.account-account.ensures ∙ ap (λ (s : SessionView). s.account) (c.session.ensures now at))
    c.ports_mut.ensures.value c.begin_turn.ensures.ports

pub returns : goal.returns
returns g c =
    let old = c.ports_mut.result.now in
    let new = c.begin_turn.new.ports in (
      BeginsTurn c.args.place c.account-account.result old new ∷ [],
      (c.begin_turn.new.self, c.begin_turn.ensures.system, refl),
      record {
        begun = with_ports_at_place c.args.slab.now c.args.place new;
        begins = lent g.P.Ports.transition c.args.slab.now c.args.place c.account-account.result old new c.requires
            (λ now at. c.account-account.ensures ∙ ap (λ (s : SessionView). s.account) (c.session.ensures now at))
            c.ports_mut.ensures.value c.begin_turn.ensures.ports;
        runs = c.turn.ensures;
      },
    )
