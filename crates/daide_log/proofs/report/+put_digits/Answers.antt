use Rattle.daide_log.proofs.Common.{◌≡◌, ◌+◌, ◌/◌, ◌%◌, [], ◌∷◌, ◌++◌, length, ap, arith, ◌∙◌, decimal}
use Rattle.daide_log.proofs.ReportLemmas.{digit_behind, front_shorter, one_digit, room_behind, room_for_one}
use Rattle.daide_log.proofs.report.+put_digits.Goals as goal
use Rattle.daide_log.proofs.report.+put_digits.Goals.{then-number-ge10, else-number-ge10}

pub put_digits-requires : goal.put_digits-requires
put_digits-requires t c = (
  omega arith,
  omega (arith, front_shorter c.args.number c.if-number-ge10.true c.ranges.number.fits, c.requires),
)

pub push-requires : goal.push-requires
push-requires t c =
    elim c.if-number-ge10.branch [
      | then-number-ge10 w ↦
          let e : c.if-number-ge10.line.items ≡ c.args.line.now.items ++ decimal (c.args.number / 10) = cc in
          room_behind c.args.line.now.items c.if-number-ge10.line.items c.args.number 8192 w.if-number-ge10.true
          c.ranges.number.fits c.requires e
      | else-number-ge10 w ↦
          let room = room_for_one c.args.line.now.items c.args.number 8192 c.ranges.number.fits c.requires in
          let e : c.if-number-ge10.line.items ≡ c.args.line.now.items = cc in
          omega (arith, room, ap length e)
    ]

pub returns : goal.returns
returns t c =
    elim c.if-number-ge10.branch [
      | then-number-ge10 w ↦
          let e : c.if-number-ge10.line.items ≡ c.args.line.now.items ++ decimal (c.args.number / 10) = cc in
          c.push.ensures.items
          ∙ digit_behind c.args.line.now.items c.if-number-ge10.line.items c.args.number w.if-number-ge10.true
          c.ranges.number.fits e
      | else-number-ge10 w ↦
          let e : c.push.new.self.items ≡ c.args.line.now.items ++ (48 + c.args.number % 10) ∷ [] = cc in
          e ∙ one_digit c.args.line.now.items c.args.number w.if-number-ge10.false
    ]
