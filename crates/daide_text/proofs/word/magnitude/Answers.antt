use Rattle.std.proofs.Common.{arith}
use Rattle.daide_text.proofs.Digits.{too_great_rest}
use Rattle.daide_text.proofs.word.magnitude.Goals as goal

pub returns-then-value-gt-MOST_BEFORE_A_DIGIT-clause-value :
    goal.returns-then-value-gt-MOST_BEFORE_A_DIGIT-clause-value
returns-then-value-gt-MOST_BEFORE_A_DIGIT-clause-value c =
    too_great_rest c.args.digits.now c.loop-rest.value c.loop-rest.rest.now c.loop-rest.invariant.value
    (omega (arith, c.in-len1-up.len_at_least)) (omega (arith, c.if-value-gt-MOST_BEFORE_A_DIGIT.true))
