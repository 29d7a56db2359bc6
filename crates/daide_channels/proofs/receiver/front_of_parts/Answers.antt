use Rattle.daide_channels.proofs.Common.{◌-◌, length, arith}
use Rattle.daide_channels.proofs.PartsLemmas.{below, not_below, rest_of}
use Rattle.daide_channels.proofs.receiver.front_of_parts.Goals as goal

pub returns-then-place-header : goal.returns-then-place-header
returns-then-place-header c =
    let p = c.args in
    rw (below p.place (length p.parts.header.now) (omega arith)) (rest_of p.parts.header.now p.place)

pub returns-then-place-opening : goal.returns-then-place-opening
returns-then-place-opening c =
    let p = c.args in
    rw (
      not_below p.place (length p.parts.header.now) (omega arith),
      below (p.place - length p.parts.header.now) (length p.parts.opening.now) (omega arith),
    ) (rest_of p.parts.opening.now (p.place - length p.parts.header.now))

pub returns-then-place-before : goal.returns-then-place-before
returns-then-place-before c =
    let p = c.args in
    rw (
      not_below p.place (length p.parts.header.now) (omega arith),
      not_below (p.place - length p.parts.header.now) (length p.parts.opening.now) (omega arith),
      below (p.place - length p.parts.header.now - length p.parts.opening.now) (length p.parts.before.now) (omega arith),
    ) (rest_of p.parts.before.now (p.place - length p.parts.header.now - length p.parts.opening.now))

pub returns-then-place-mark : goal.returns-then-place-mark
returns-then-place-mark c =
    let p = c.args in
    rw (
      not_below p.place (length p.parts.header.now) (omega arith),
      not_below (p.place - length p.parts.header.now) (length p.parts.opening.now) (omega arith),
      not_below (p.place - length p.parts.header.now - length p.parts.opening.now) (length p.parts.before.now) (omega arith),
      below (p.place - length p.parts.header.now - length p.parts.opening.now - length p.parts.before.now) (length p.parts.mark.now) (omega arith),
    ) (rest_of p.parts.mark.now (p.place - length p.parts.header.now - length p.parts.opening.now - length p.parts.before.now))

pub returns-then-place-after : goal.returns-then-place-after
returns-then-place-after c =
    let p = c.args in
    rw (
      not_below p.place (length p.parts.header.now) (omega arith),
      not_below (p.place - length p.parts.header.now) (length p.parts.opening.now) (omega arith),
      not_below (p.place - length p.parts.header.now - length p.parts.opening.now) (length p.parts.before.now) (omega arith),
      not_below (p.place - length p.parts.header.now - length p.parts.opening.now - length p.parts.before.now) (length p.parts.mark.now) (omega arith),
      below (p.place - length p.parts.header.now - length p.parts.opening.now - length p.parts.before.now - length p.parts.mark.now) (length p.parts.after.now)
          (omega arith),
    ) (rest_of p.parts.after.now (p.place - length p.parts.header.now - length p.parts.opening.now - length p.parts.before.now - length p.parts.mark.now))
