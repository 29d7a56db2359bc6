use Rattle.daide_token.proofs.text.+put_digits.Given as goal

abbrev pub decreases-put_digits : goal.decreases-put_digits
decreases-put_digits l = l.value
