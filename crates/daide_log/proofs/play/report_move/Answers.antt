use Rattle.daide_log.proofs.Common.{all_of, words_of, no_more}
use Rattle.daide_log.proofs.PlayLemmas.{is_none, ready_again, tells_none, tells_one}
use Rattle.daide_log.proofs.EventLemmas.{on_ok}
use Rattle.daide_log.proofs.play.report_move.Goals as goal

pub write_move-written-requires-clause-made : goal.write_move-written-requires-clause-made
write_move-written-requires-clause-made g c = rw c.in-Some.is at c.requires.moved

pub returns-clause-ready : goal.returns-clause-ready
returns-clause-ready g c =
    ready_again c.args.report.now.head.limits.config (words_of c.args.report.now.head.words) c.args.session.now
    c.take_answers-2.new.session c.requires.under c.take_answers-2.ensures.state c.take_answers-2.ensures.idle

pub returns-clause-reported : goal.returns-clause-reported
returns-clause-reported g c =
    on_ok c.write_move-written.result _ _ c.write_move-written.ensures.text
    (λ t old events moved.
    tells_one (g.S.Style.form (words_of c.args.report.now.head.words))
    (g.S.Style.knows (words_of c.args.report.now.head.words) c.args.report.now.style.now)
    (g.S.Style.knows (words_of c.args.report.now.head.words) c.write_move-written.new.report.style.now) c.args.source old events
    c.args.side c.in-Some.reported c.args.session.now c.take_answers-2.new.session.state c.args.report.now.summary
    c.write_move-written.new.report.summary (all_of g.W.Write.contents c.args.report.now.output)
    (all_of g.W.Write.contents c.write_move-written.new.report.output) (rw c.in-Some.is at moved)
    c.take_answers-2.ensures.state t c.write_move-written.ensures.counted)

pub returns-in_default-clause-ready : goal.returns-in_default-clause-ready
returns-in_default-clause-ready g c =
    ready_again c.args.report.now.head.limits.config (words_of c.args.report.now.head.words) c.args.session.now
    c.take_answers.new.session c.requires.under c.take_answers.ensures.state c.take_answers.ensures.idle

pub returns-in_default-clause-few : goal.returns-in_default-clause-few
returns-in_default-clause-few g c = no_more 1 c.args.report.now.summary

pub returns-in_default-clause-reported : goal.returns-in_default-clause-reported
returns-in_default-clause-reported g c = λ old events moved.
    let words = words_of c.args.report.now.head.words in
    tells_none (g.S.Style.form words) (g.S.Style.knows words c.args.report.now.style.now) words (g.met.S.Style.lawful words) c.args.source c.args.side old.state
    c.take_answers.new.session.state events c.args.report.now.summary
    (all_of g.W.Write.contents c.args.report.now.output) (rw c.take_answers.ensures.state (rw (is_none c.args.reported c.in_default.not-Some) at moved))
