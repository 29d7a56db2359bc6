use Rattle.daide_token.proofs.Common.{◌+◌, arith, ◌∙◌, take}
use Rattle.daide_token.proofs.DecimalText.{digit_behind, front_shorter, only_digit, only_length}
use Rattle.daide_token.proofs.text.+put_digits.Goals as goal

pub put-requires : goal.put-requires
put-requires t c = omega (arith, only_length c.args.value (omega arith), c.requires)

pub returns-then-value-lt10-clause-text : goal.returns-then-value-lt10-clause-text
returns-then-value-lt10-clause-text t c =
    c.put.ensures.text ∙ only_digit (take c.args.len c.args.line.now) c.args.value (omega arith)

pub returns-then-value-lt10-clause-len : goal.returns-then-value-lt10-clause-len
returns-then-value-lt10-clause-len t c = omega (arith, only_length c.args.value (omega arith), c.put.ensures.len)

pub put_digits-front-requires : goal.put_digits-front-requires
put_digits-front-requires t c = (
  omega arith,
  omega (arith, front_shorter c.args.value c.if-value-lt10.false (omega arith), c.requires),
)

pub put-requires-2 : goal.put-requires-2
put-requires-2 t c =
    omega (arith, front_shorter c.args.value c.if-value-lt10.false (omega arith), c.requires, c.put_digits-front.ensures.len)

pub returns-clause-text : goal.returns-clause-text
returns-clause-text t c =
    c.put-2.ensures.text
    ∙ digit_behind (take c.args.len c.args.line.now) (take c.put_digits-front.result c.put_digits-front.new.line)
    c.args.value c.if-value-lt10.false (omega arith) c.put_digits-front.ensures.text

pub returns-clause-len : goal.returns-clause-len
returns-clause-len t c =
    omega (arith, front_shorter c.args.value c.if-value-lt10.false (omega arith), c.put_digits-front.ensures.len, c.put-2.ensures.len)
