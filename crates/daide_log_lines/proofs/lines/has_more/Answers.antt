use Rattle.std.proofs.Common.{sym, ◌∙◌}
use Rattle.daide_log_lines.specs.Output.{all_of}
use Rattle.daide_log_lines.proofs.LineLemmas.{more_read, none_left}
use Rattle.daide_log_lines.proofs.lines.has_more.Goals as goal

pub returns-clause-more : goal.returns-clause-more
returns-clause-more g c =
    more_read (all_of g.W.Write.contents c.args.output.now) (g.R.LogReader.reader_view c.args.reader.now) (g.R.LogReader.reader_view c.read_on.new.reader) c.args.block.now
    c.read_on.new.block c.read_on.result
    (sym c.as_slice.ensures.value
    ∙ none_left c.as_slice.result.now (sym c.is_empty.ensures ∙ c.if-not-is_empty.false))
    c.read_on.ensures.read
