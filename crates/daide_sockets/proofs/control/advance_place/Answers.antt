use Rattle.std.proofs.Common.{◌≡◌, ◌∙◌, ap, subst, refl, true, false, Option}
use Rattle.std.specs.declared.time.Instant.{Instant}
use Rattle.daide_sockets.specs.Control.{Advances}
use Rattle.daide_sockets.specs.Table.{Table}
use Rattle.daide_sockets.specs.declared.control_connection.ControlConnection.{ControlConnection}
use Rattle.daide_sockets.proofs.ControlLemmas.{noted}
use Rattle.daide_sockets.proofs.KeptRowLemmas.{changes_none, report_changes}
use Rattle.daide_sockets.proofs.control.advance_place.Goals as goal

pub returns-then-advance-clause-advances : goal.returns-then-advance-clause-advances
returns-then-advance-clause-advances g c =
    let clock : c.now.result ≡ c.args.table.now.reading =
    c.now.ensures ∙ ap (λ (t : Table). t.reading) c.take_report-report.ensures.table in
    rw c.in-Some.is (
      true,
      c.advance.new.self,
      subst (λ (k : ControlConnection g.row.S.Denot). Advances g.S.Duplex.to_give g.S.Duplex.taken g.S.Duplex.calls
          c.args.view.run.now c.args.view.present.now.bots.items c.args.has_room c.args.table.now.reading k true c.advance.new.self)
          (noted _ _ _ _ c.note_report.ensures c.take_report-report.ensures.report)
          (subst (λ (now : Option Instant). Advances g.S.Duplex.to_give g.S.Duplex.taken g.S.Duplex.calls c.args.view.run.now c.args.view.present.now.bots.items c.args.has_room now
          c.note_report.new.self true c.advance.new.self) clock c.if-advance.ensures.advances),
      refl,
    )

pub returns-clause-advances : goal.returns-clause-advances
returns-clause-advances g c =
    let clock : c.now.result ≡ c.args.table.now.reading =
    c.now.ensures ∙ ap (λ (t : Table). t.reading) c.take_report-report.ensures.table in
    rw c.in-Some.is (
      false,
      c.advance.new.self,
      subst (λ (k : ControlConnection g.row.S.Denot). Advances g.S.Duplex.to_give g.S.Duplex.taken g.S.Duplex.calls
          c.args.view.run.now c.args.view.present.now.bots.items c.args.has_room c.args.table.now.reading k false c.advance.new.self)
          (noted _ _ _ _ c.note_report.ensures c.take_report-report.ensures.report)
          (subst (λ (now : Option Instant). Advances g.S.Duplex.to_give g.S.Duplex.taken g.S.Duplex.calls c.args.view.run.now c.args.view.present.now.bots.items c.args.has_room now
          c.note_report.new.self false c.advance.new.self) clock c.if-advance.ensures.advances),
      refl,
    )

pub returns-then-advance-clause-table : goal.returns-then-advance-clause-table
returns-then-advance-clause-table g c = report_changes _ _ _ c.take_report-report.ensures.table

pub returns-clause-table : goal.returns-clause-table
returns-clause-table g c = report_changes _ _ _ c.take_report-report.ensures.table

pub returns-in_default-clause-table : goal.returns-in_default-clause-table
returns-in_default-clause-table g c = changes_none _ _ _ refl
