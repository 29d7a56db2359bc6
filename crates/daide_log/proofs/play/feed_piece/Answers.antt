use Rattle.daide_log.proofs.Common.{refl, all_of, words_of, bytes_come, no_more}
use Rattle.daide_log.proofs.PlayLemmas.{idle_still, piece_made, piece_silent, ready_after, under_after, tells_none}
use Rattle.daide_log.proofs.EventLemmas.{on_ok}
use Rattle.daide_log.proofs.play.feed_piece.Goals as goal

pub returns-in-Nothing-clause-ready : goal.returns-in-Nothing-clause-ready
returns-in-Nothing-clause-ready g c =
    ready_after c.args.report.now.head.limits.config (words_of c.args.report.now.head.words) c.args.session.now
    c.feed-reported.new.self c.feed-reported.new.self (bytes_come c.args.side c.args.piece.now) c.feed-reported.result c.requires.ready
    c.feed-reported.ensures.goes refl
    (idle_still c.args.session.now c.feed-reported.new.self c.args.side c.args.piece.now c.feed-reported.result c.requires.few
    c.feed-reported.ensures.goes c.requires.ready.idle c.in-Nothing.is)

pub returns-in-Nothing-clause-few : goal.returns-in-Nothing-clause-few
returns-in-Nothing-clause-few g c = no_more 1 c.args.report.now.summary

pub returns-in-Nothing-clause-reported : goal.returns-in-Nothing-clause-reported
returns-in-Nothing-clause-reported g c =
    let words = words_of c.args.report.now.head.words in
    tells_none (g.S.Style.form words) (g.S.Style.knows words c.args.report.now.style.now) words (g.met.S.Style.lawful words) c.args.source c.args.side c.args.session.now.state
    c.feed-reported.new.self.state (bytes_come c.args.side c.args.piece.now) c.args.report.now.summary
    (all_of g.W.Write.contents c.args.report.now.output)
    (piece_silent c.args.session.now c.feed-reported.new.self c.args.side c.args.piece.now c.feed-reported.result c.requires.few
    c.feed-reported.ensures.goes c.in-Nothing.is)

pub report_move-requires-clause-under : goal.report_move-requires-clause-under
report_move-requires-clause-under g c =
    under_after c.args.report.now.head.limits.config (words_of c.args.report.now.head.words) c.args.session.now
    c.feed-reported.new.self (bytes_come c.args.side c.args.piece.now) c.feed-reported.result c.requires.ready.under
    c.feed-reported.ensures.goes

pub report_move-requires-clause-moved : goal.report_move-requires-clause-moved
report_move-requires-clause-moved g c = (
  c.args.session.now,
  bytes_come c.args.side c.args.piece.now,
  piece_made c.args.session.now c.feed-reported.new.self c.args.side c.args.piece.now c.feed-reported.result c.requires.few
      c.requires.tied c.feed-reported.ensures.goes c.feed-reported.ensures.takes c.in_default.not-Nothing,
)

pub returns-clause-reported : goal.returns-clause-reported
returns-clause-reported g c =
    on_ok c.report_move.result _ _ c.report_move.ensures.reported
    (λ moved. moved c.args.session.now (bytes_come c.args.side c.args.piece.now)
    (piece_made c.args.session.now c.feed-reported.new.self c.args.side c.args.piece.now c.feed-reported.result c.requires.few
    c.requires.tied c.feed-reported.ensures.goes c.feed-reported.ensures.takes c.in_default.not-Nothing))
