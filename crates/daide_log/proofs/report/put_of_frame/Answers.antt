use Rattle.daide_log.proofs.Common.{codes, decimal}
use Rattle.daide_log.proofs.TextLemmas.{four_lines}
use Rattle.daide_log.proofs.report.put_of_frame.Goals as goal

pub returns-clause-text : goal.returns-clause-text
returns-clause-text c =
    four_lines c.args.line.now.items (decimal c.args.came) (codes " of ") (decimal c.args.size) (codes " bytes of a frame")
    c.put_number.new.line.items c.put.new.line.items c.put_number-2.new.line.items c.put-2.new.line.items
    c.put_number.ensures.text c.put.ensures.text c.put_number-2.ensures.text c.put-2.ensures.text
