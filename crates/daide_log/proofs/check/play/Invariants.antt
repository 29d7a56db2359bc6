use Rattle.daide_log.proofs.Common.{◌≡◌, ◌-◌, length, IsSameWriter, all_of, words_of, StartsReport, states_of, IsReady}
use Rattle.daide_log_lines.specs.Input.{IsSameReader}
use Rattle.daide_log.proofs.EventLemmas.{Plays}
use Rattle.daide_log.proofs.check.play.Given as goal

-- all lines so far are reported
abbrev pub invariant-lines : goal.invariant-lines
invariant-lines g l =
    Plays (g.S.Style.form (words_of l.fn.report.head.words))
    (IsReady l.fn.report.head.limits.config (words_of l.fn.report.head.words))
    (g.S.Style.knows (words_of l.fn.report.head.words) l.report.style.now)
    (StartsReport (g.S.Style.form (words_of l.fn.report.head.words)) (g.R.LogReader.reader_view l.fn.input.reader.now) l.fn.input.block
    l.lines l.fn.report.head.version (states_of l.fn.sessions.items) (all_of g.W.Write.contents l.fn.report.output))
    (g.R.LogReader.reader_view l.input.reader.now) l.input.block l.count l.fn.report.head.version l.sessions.items
    (length l.fn.sessions.items) l.report.summary (all_of g.W.Write.contents l.report.output)
    × IsSameReader l.fn.input l.input × IsSameWriter l.fn.report.output l.report.output
    × (l.report.head ≡ l.fn.report.head)

-- the number of lines that may still follow
abbrev pub decreases-lines : goal.decreases-lines
decreases-lines g l = 1000000 - l.count
