use Rattle.daide_log.proofs.Common.{◌∙◌, subst, Side, words_of, all_of, event_reported, events_of_line, ReportsEvents}
use Rattle.daide_log.proofs.PlayLemmas.{bare}
use Rattle.daide_causes.specs.Causes.{HasFailed}
use Rattle.daide_log.proofs.EventLemmas.{as_reported, on_ok, refused_late}
use Rattle.daide_log.proofs.judge.judge.Goals as goal

pub returns-in-Received-clause-judged : goal.returns-in-Received-clause-judged
returns-in-Received-clause-judged g c =
    rw c.in-Received.is (as_reported c.feed_all.result c.as_fault.result _ c.as_fault.ensures c.feed_all.ensures.reported)

pub returns-in-Received-clause-refused : goal.returns-in-Received-clause-refused
returns-in-Received-clause-refused g c =
    refused_late (HasFailed g.W.Sink.Fails) g.S.Style.refused (g.S.Style.form (words_of c.args.report.now.head.words)) c.feed_all.result c.as_fault.result c.as_fault.ensures
    c.feed_all.ensures.refused

pub apply-side-requires-clause-bare : goal.apply-side-requires-clause-bare
apply-side-requires-clause-bare g c = bare c.args.reported c.in_default.not-Received

pub report_move-requires-clause-under : goal.report_move-requires-clause-under
report_move-requires-clause-under g c =
    let under = c.requires.ready.under in
    record { limits = c.apply-side.ensures.limits ∙ under.limits; accepted = under.accepted }

pub report_move-requires-clause-moved : goal.report_move-requires-clause-moved
report_move-requires-clause-moved g c = (
  c.args.session.now,
  events_of_line (event_reported c.args.bytes.now c.args.reported),
  c.apply-side.ensures.moves c.args.bytes.now,
)

pub returns-clause-judged : goal.returns-clause-judged
returns-clause-judged g c =
    let bytes = c.args.bytes.now in
    let events = events_of_line (event_reported bytes c.args.reported) in
    as_reported c.report_move.result c.as_fault-2.result _ c.as_fault-2.ensures
    (on_ok c.report_move.result _ _ c.report_move.ensures.reported
    (λ reports. subst (λ (side : Side). ReportsEvents (g.S.Style.form (words_of c.args.report.now.head.words))
    (g.S.Style.knows (words_of c.args.report.now.head.words) c.args.report.now.style.now)
    (g.S.Style.knows (words_of c.args.report.now.head.words) c.report_move.new.report.style.now) c.args.source side
    c.args.session.now.state events c.report_move.new.session.state c.args.report.now.summary
    c.report_move.new.report.summary (all_of g.W.Write.contents c.args.report.now.output)
    (all_of g.W.Write.contents c.report_move.new.report.output)) (c.apply-side.ensures.side bytes)
    (reports c.args.session.now events (c.apply-side.ensures.moves bytes))))

pub returns-clause-refused : goal.returns-clause-refused
returns-clause-refused g c =
    refused_late (HasFailed g.W.Sink.Fails) g.S.Style.refused (g.S.Style.form (words_of c.args.report.now.head.words)) c.report_move.result c.as_fault-2.result
    c.as_fault-2.ensures c.report_move.ensures.refused
