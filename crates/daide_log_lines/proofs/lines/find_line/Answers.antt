use Rattle.daide_log_lines.specs.Output.{all_of}
use Rattle.daide_log_lines.proofs.LineLemmas.{found_held, found_copied, lies_copied}
use Rattle.daide_log_lines.proofs.lines.find_line.Goals as goal

pub returns-in-Some-clause-found : goal.returns-in-Some-clause-found
returns-in-Some-clause-found g c =
    found_held (all_of g.W.Write.contents c.args.output.now) (g.R.LogReader.reader_view c.args.input.now.reader.now) c.args.input.now.block c.args.count c.in-Some.end
    c.in-Some.ensures

pub returns-in-None-clause-found : goal.returns-in-None-clause-found
returns-in-None-clause-found g c =
    found_copied (all_of g.W.Write.contents c.args.output.now) (g.R.LogReader.reader_view c.args.input.now.reader.now) (g.R.LogReader.reader_view c.next_line.new.input.reader.now)
    c.args.input.now.block c.next_line.new.input.block c.next_line.new.input.text.items c.args.count c.next_line.result
    c.next_line.ensures.copied c.next_line.ensures.found

pub returns-in-None-clause-lies : goal.returns-in-None-clause-lies
returns-in-None-clause-lies g c = lies_copied c.next_line.new.input.block c.next_line.result c.next_line.ensures.copied

pub returns-in-Some-clause-lies : goal.returns-in-Some-clause-lies
returns-in-Some-clause-lies g c = (c.in-Some.ensures.0, c.in-Some.ensures.3)
