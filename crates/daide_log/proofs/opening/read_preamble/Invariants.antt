use Rattle.daide_log.proofs.Common.{◌-◌, IsSameWriter, all_of}
use Rattle.daide_log_lines.specs.Input.{IsSameReader}
use Rattle.daide_log.proofs.PreambleLemmas.{IsReading}
use Rattle.daide_log.proofs.opening.read_preamble.Given as goal

abbrev pub invariant-lines : goal.invariant-lines
invariant-lines g l =
    IsReading g.S.Style.form (g.R.LogReader.reader_view l.fn.input.reader.now) (g.R.LogReader.reader_view l.input.reader.now) l.input.block l.count l.heading
    (all_of g.W.Write.contents l.fn.output)
    (all_of g.W.Write.contents l.output) × IsSameReader l.fn.input l.input × IsSameWriter l.fn.output l.output

-- the number of lines that may still follow
abbrev pub decreases-lines : goal.decreases-lines
decreases-lines g l = 1000000 - l.count
