use Rattle.daide_log.proofs.Common.{ap, length, length-append, arith, ◌∙◌, decimal}
use Rattle.daide_log.proofs.ReportLemmas.{decimal_few}
use Rattle.daide_log.proofs.report.put_number.Goals as goal

pub put_digits-requires : goal.put_digits-requires
put_digits-requires c = omega (arith, decimal_few c.args.number c.ranges.number.fits, c.requires)

pub returns-in_default-clause-few : goal.returns-in_default-clause-few
returns-in_default-clause-few c =
    omega (
      arith,
      decimal_few c.args.number c.ranges.number.fits,
      ap length c.put_digits.ensures ∙ length-append c.args.line.now.items (decimal c.args.number),
    )
