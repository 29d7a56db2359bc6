use Rattle.daide_log.proofs.Common.{◌≡◌, length, IsSameWriter, all_of, words_of}
use Rattle.daide_log.proofs.PlayLemmas.{HasFed}
use Rattle.daide_log.proofs.play.feed_pieces.Given as goal

abbrev pub invariant-loop-session : goal.invariant-loop-session
invariant-loop-session g l =
    HasFed (g.S.Style.form (words_of l.fn.report.head.words))
    (g.S.Style.knows (words_of l.fn.report.head.words) l.fn.report.style.now)
    (g.S.Style.knows (words_of l.fn.report.head.words) l.report.style.now) l.fn.report.head.limits.config
    (words_of l.fn.report.head.words) l.source l.side l.fn.bytes l.rest l.fn.session.state l.session
    l.fn.report.summary l.report.summary (all_of g.W.Write.contents l.fn.report.output)
    (all_of g.W.Write.contents l.report.output) × IsSameWriter l.fn.report.output l.report.output
    × (l.report.head ≡ l.fn.report.head)

abbrev pub decreases-loop-session : goal.decreases-loop-session
decreases-loop-session g l = length l.rest
