use Rattle.std.specs.Io.KnownBytes.{Keeps}
use Rattle.daide_log_lines.specs.Input.{IsSameReader}
use Rattle.daide_log_lines.specs.Output.{IsSameWriter, all_of}
use Rattle.daide_log_lines.proofs.LineLemmas.{HasScanned}
use Rattle.daide_log_lines.proofs.lines.next_line.Given as goal

abbrev pub invariant-loop-turn : goal.invariant-loop-turn
invariant-loop-turn g l =
    HasScanned (all_of g.W.Write.contents l.fn.output) (g.R.LogReader.reader_view l.fn.input.reader.now) l.fn.input.block l.fn.count
    (g.R.LogReader.reader_view l.input.reader.now) l.input.text.items l.input.block l._turn
    × Keeps (all_of g.W.Write.contents l.fn.output) (all_of g.W.Write.contents l.output)
    × IsSameReader l.fn.input l.input × IsSameWriter l.fn.output l.output
