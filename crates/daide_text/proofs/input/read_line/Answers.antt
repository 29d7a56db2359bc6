use Rattle.std.proofs.Common.{rules, refl, sym, ◌∙◌, arith}
use Rattle.std.proofs.lemmas.Bool.{eqb-true, eqb-false}
use Rattle.daide_text.proofs.InputLines.{byte_read, line_ended, line_last, line_too_long, no_line}
use Rattle.daide_text.proofs.input.read_line.Goals.{then-is_empty, else-is_empty}
use Rattle.daide_text.proofs.input.read_line.Goals as goal

pub returns-in-Ok-eq0-clause-line : goal.returns-in-Ok-eq0-clause-line
returns-in-Ok-eq0-clause-line g c =
    let nothing = rw c.in-Ok-eq0.field-0-test at c.in-Ok-eq0.ensures.bytes.0 in
    let at_end = c.in-Ok-eq0.ensures.bytes.1 c.in-Ok-eq0.field-0-test (search rules) in
    elim c.if-is_empty.branch [
      | then-is_empty w ↦ rw w.result-is (no_line (g.R.Read.remaining c.args.reader.now)
          (g.R.Read.remaining c.loop-count.reader) (g.R.Read.remaining c.read_some.new.self) c.loop-count.line.items
          c.loop-count.invariant.given nothing at_end
          (omega (arith, c.loop-count.line.ok.0, eqb-true c.loop-count.line.len 0 (sym c.is_empty.ensures ∙ w.if-is_empty.true))))
      | else-is_empty w ↦ rw w.result-is (
        omega (arith, c.loop-count.invariant.counted, c.loop-count-test.true),
        line_last (g.R.Read.remaining c.args.reader.now)
            (g.R.Read.remaining c.loop-count.reader) (g.R.Read.remaining c.read_some.new.self) c.loop-count.line.items
            c.loop-count.invariant.given nothing at_end
            (omega (arith, c.loop-count.line.ok.0, eqb-false c.loop-count.line.len 0 (sym c.is_empty.ensures ∙ w.if-is_empty.false))) c.loop-count.invariant.unbroken,
      )
    ]

pub returns-then-piece-eq10-clause-line : goal.returns-then-piece-eq10-clause-line
returns-then-piece-eq10-clause-line g c = (
  omega (arith, c.loop-count.invariant.counted, c.loop-count-test.true),
  line_ended (g.R.Read.remaining c.args.reader.now) (g.R.Read.remaining c.loop-count.reader)
      (g.R.Read.remaining c.read_some.new.self) c.loop-count.line.items 10 c.loop-count.invariant.given
      (rw (byte_read c.in-Ok.field-0 c.read_some.new.buffer 10 (search rules) (search rules) (search rules)) at c.in-Ok.ensures.bytes.0)
      refl c.loop-count.invariant.unbroken,
)

pub returns-clause-refused : goal.returns-clause-refused
returns-clause-refused g c = (
  refl,
  line_too_long (g.R.Read.remaining c.args.reader.now) (g.R.Read.remaining c.loop-count.reader)
      c.loop-count.line.items c.loop-count.invariant.given c.loop-count.invariant.unbroken
      (omega (arith, c.loop-count.invariant.counted, c.loop-count-test.false)),
)
