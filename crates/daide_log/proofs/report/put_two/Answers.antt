use Rattle.daide_log.proofs.Common.{◌∙◌, arith}
use Rattle.daide_log.proofs.ReportLemmas.{digit_behind}
use Rattle.daide_log.proofs.report.put_two.Goals as goal

pub returns-clause-text : goal.returns-clause-text
returns-clause-text c =
    c.put_last.ensures.text
    ∙ digit_behind c.args.line.now.items c.put_one.new.line.items c.args.number (omega (arith, c.requires.least))
    (omega (arith, c.requires.few)) c.put_one.ensures.text
