use Rattle.std.proofs.Common.{◌≡◌, Bool, true, sym, ap, ◌∙◌, subst}
use Rattle.std.specs.Prelude.{if◌then◌else◌}
use Rattle.daide_protocol.specs.Wires.{is_closed}
use Rattle.daide_io.specs.ReadyQueue.{ReadyView}
use Rattle.daide_driver.specs.Slab.{is_at, is_held}
use Rattle.daide_event_loop.specs.Serving.{ServiceView, queued_again}
use Rattle.daide_event_loop.proofs.VisitLemmas.{HadVisit, there_after, retired, left_open}
use Rattle.daide_event_loop.proofs.serving.Service.give_turns.Goals as goal

pub take_turns-turns-requires : goal.take_turns-turns-requires
take_turns-turns-requires g c =
    subst (λ (run : ServiceView g.row.P.Denot). is_at is_held run.slab.places c.args.place ≡ true) (sym c.self.view_is) c.requires

pub session-requires : goal.session-requires
session-requires g c =
    there_after g.P.Ports.transition g.S.System.transition _ _ _ _ c.args.place _ c.take_turns-turns.ensures

pub meter-meter-requires : goal.meter-meter-requires
meter-meter-requires g c =
    there_after g.P.Ports.transition g.S.System.transition _ _ _ _ c.args.place _ c.take_turns-turns.ensures

pub remove-removed-requires-clause-held : goal.remove-removed-requires-clause-held
remove-removed-requires-clause-held g c =
    there_after g.P.Ports.transition g.S.System.transition _ _ _ _ c.args.place _ c.take_turns-turns.ensures

pub remove-removed-requires-clause-closed : goal.remove-removed-requires-clause-closed
remove-removed-requires-clause-closed g c = λ held there.
    ap is_closed (sym (c.session.ensures held there)) ∙ sym c.is_closed.ensures ∙ c.if-is_closed.true

pub returns-then-is_closed : goal.returns-then-is_closed
returns-then-is_closed g c =
    let removed = c.remove-removed.ensures in
    subst (λ (old : ServiceView g.row.P.Denot). HadVisit g.P.Ports.transition g.S.System.transition c.args.system.now old c.args.place
    c.take_turns-turns.result (record {
      slab = c.remove-removed.new.self;
      counters = c.self.inside.counters;
      ready = c.self.inside.ready;
    }) c.retire_session.new.system) c.self.view_is
    (retired g.P.Ports.transition g.S.System.transition c.args.system.now c.take_turns-turns.new.system c.retire_session.new.system (record {
      slab = c.self.inside.slab;
      counters = c.self.inside.counters;
      ready = c.self.inside.ready;
    }) c.args.place c.take_turns-turns.result c.take_turns-turns.new.slab c.remove-removed.new.self c.session.result.now
    c.remove-removed.result.ports c.meter-meter.result c.remove-removed.result.account c.remove-removed.result.ending
    c.remove-removed.result.fault_field
    c.take_turns-turns.ensures c.session.ensures
    (sym c.is_closed.ensures ∙ c.if-is_closed.true) removed.frees removed.ports c.meter-meter.ensures removed.reported
    c.retire_session.ensures)

pub rests-requires : goal.rests-requires
rests-requires g c =
    there_after g.P.Ports.transition g.S.System.transition _ _ _ _ c.args.place _ c.take_turns-turns.ensures

pub returns-then-not-rests : goal.returns-then-not-rests
returns-then-not-rests g c =
    let turned : ServiceView g.row.P.Denot = record {
      slab = c.take_turns-turns.new.slab;
      counters = c.self.inside.counters;
      ready = c.self.inside.ready;
    } in
    subst (λ (old : ServiceView g.row.P.Denot). HadVisit g.P.Ports.transition g.S.System.transition c.args.system.now old c.args.place
    c.take_turns-turns.result (record turned { ready = c.put_back.new.self }) c.rests.new.system) c.self.view_is
    (left_open g.P.Ports.transition g.S.System.transition c.args.system.now c.take_turns-turns.new.system c.rests.new.system
    (record turned { slab = c.self.inside.slab }) (record turned { ready = c.put_back.new.self }) c.args.place c.take_turns-turns.result c.take_turns-turns.new.slab
    c.session.result.now c.rests.result c.take_turns-turns.ensures c.session.ensures
    (sym c.is_closed.ensures ∙ c.if-is_closed.false) c.rests.ensures
    (ap (λ (ready : ReadyView). record turned { ready = ready }) c.put_back.ensures
    ∙ sym (ap (λ (rests : Bool). if rests then turned else queued_again turned c.args.place) c.if-not-rests.true)))

pub returns-else-not-rests : goal.returns-else-not-rests
returns-else-not-rests g c =
    let turned : ServiceView g.row.P.Denot = record {
      slab = c.take_turns-turns.new.slab;
      counters = c.self.inside.counters;
      ready = c.self.inside.ready;
    } in
    subst (λ (old : ServiceView g.row.P.Denot). HadVisit g.P.Ports.transition g.S.System.transition c.args.system.now old c.args.place
    c.take_turns-turns.result turned c.rests.new.system) c.self.view_is
    (left_open g.P.Ports.transition g.S.System.transition c.args.system.now c.take_turns-turns.new.system c.rests.new.system
    (record turned { slab = c.self.inside.slab }) turned c.args.place c.take_turns-turns.result c.take_turns-turns.new.slab
    c.session.result.now c.rests.result c.take_turns-turns.ensures c.session.ensures
    (sym c.is_closed.ensures ∙ c.if-is_closed.false) c.rests.ensures
    (sym (ap (λ (rests : Bool). if rests then turned else queued_again turned c.args.place) c.if-not-rests.false)))
