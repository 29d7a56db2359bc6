use Rattle.daide_show.proofs.Common.{ℕ, List, arith, subst, IfOk, longest_body}
use Rattle.daide_show.specs.Shown.{WritesShown, fault_shown, lines_if}
use Rattle.daide_show.proofs.FaultLines.{lines_of_parts}
use Rattle.daide_show.proofs.frame_view.text.write_bytes_fault.Goals as goal

pub returns-clause-text : goal.returns-clause-text
returns-clause-text g c =
    let old = c.args.text.now.items in
    subst
    (λ (lines : List ℕ). IfOk c.write_fault.result (λ relayed. WritesShown old c.write_fault.new.text.items relayed
    (fault_shown c.args.code (lines_if c.args.is_explained lines))))
    (lines_of_parts longest_body c.from.result c.args.code c.args.bytes.now c.split_at.result.0.now c.split_at.result.1.now
    c.front.result.now c.faulty_body-body.result.now c.split_at.ensures.front c.split_at.ensures.back (omega arith)
    c.front.ensures.value c.faulty_body-body.ensures.value)
    c.write_fault.ensures.text
