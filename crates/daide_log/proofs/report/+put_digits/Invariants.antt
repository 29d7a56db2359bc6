use Rattle.daide_log.proofs.report.+put_digits.Given as goal

abbrev pub decreases-put_digits : goal.decreases-put_digits
decreases-put_digits l = l.number
