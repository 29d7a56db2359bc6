use Rattle.std.proofs.Common.{arith, subst, List, ℕ}
use Rattle.std.specs.Prelude.{IfSome}
use Rattle.daide_log_lines.specs.Lines.{IsHeldLine}
use Rattle.daide_log_lines.proofs.LineLemmas.{held_whole}
use Rattle.daide_log_lines.proofs.lines.held_line.Goals as goal

pub returns : goal.returns
returns c =
    subst (λ (l : List ℕ). IfSome c.line_end.result (IsHeldLine l c.args.count)) c.as_slice-buffered.ensures.value
    (held_whole c.as_slice-buffered.result.now c.min.result c.args.count c.line_end.result (omega (arith, c.min.ensures))
    (omega (arith, c.min.ensures)) (omega arith) c.as_slice-buffered.ensures.fits c.line_end.ensures)
