use Rattle.daide_token.proofs.Common.{ℕ, List, [], ◌∷◌, ◌++◌, ◌<◌, take, ap, ◌∙◌, append_assoc, arith, decimal}
use Rattle.daide_token.proofs.DecimalText.{four_digits, negative, positive, value_is}
use Rattle.daide_token.proofs.text.put_number.Goals as goal

pub put_digits-requires : goal.put_digits-requires
put_digits-requires c =
    let few : c.unsigned_abs-value.result < 10000 =
    omega (
      arith,
      value_is c.args.number c.unsigned_abs-value.result c.ranges.number c.unsigned_abs-value.ensures.value,
      c.requires.small,
    ) in
    omega (arith, four_digits c.unsigned_abs-value.result few, c.put-digits.ensures.len, c.requires.room)

pub put_digits-requires-2 : goal.put_digits-requires-2
put_digits-requires-2 c =
    let few : c.unsigned_abs-value.result < 10000 =
    omega (
      arith,
      value_is c.args.number c.unsigned_abs-value.result c.ranges.number c.unsigned_abs-value.ensures.value,
      c.requires.small,
    ) in
    omega (arith, four_digits c.unsigned_abs-value.result few, c.requires.room)

pub returns-then-number-lt0-clause-text : goal.returns-then-number-lt0-clause-text
returns-then-number-lt0-clause-text c =
    let before = take c.args.len c.args.line.now in
    let digits = decimal c.unsigned_abs-value.result in
    c.put_digits.ensures.text
    ∙ ap (λ (l : List ℕ). l ++ digits) c.put-digits.ensures.text
    ∙ append_assoc before (45 ∷ []) digits
    ∙ ap (λ (l : List ℕ). before ++ l)
    (negative c.args.number c.unsigned_abs-value.result c.ranges.number c.unsigned_abs-value.ensures.value
    c.if-number-lt0.true)

pub returns-then-number-lt0-clause-len : goal.returns-then-number-lt0-clause-len
returns-then-number-lt0-clause-len c =
    let few : c.unsigned_abs-value.result < 10000 =
    omega (
      arith,
      value_is c.args.number c.unsigned_abs-value.result c.ranges.number c.unsigned_abs-value.ensures.value,
      c.requires.small,
    ) in
    omega (arith, four_digits c.unsigned_abs-value.result few, c.put-digits.ensures.len, c.put_digits.ensures.len)

pub returns-clause-text : goal.returns-clause-text
returns-clause-text c =
    c.put_digits-2.ensures.text
    ∙ ap (λ (l : List ℕ). take c.args.len c.args.line.now ++ l)
    (positive c.args.number c.unsigned_abs-value.result c.ranges.number c.unsigned_abs-value.ensures.value
    c.if-number-lt0.false)

pub returns-clause-len : goal.returns-clause-len
returns-clause-len c =
    let few : c.unsigned_abs-value.result < 10000 =
    omega (
      arith,
      value_is c.args.number c.unsigned_abs-value.result c.ranges.number c.unsigned_abs-value.ensures.value,
      c.requires.small,
    ) in
    omega (arith, four_digits c.unsigned_abs-value.result few, c.put_digits-2.ensures.len)
