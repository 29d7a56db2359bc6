use Rattle.std.proofs.Common.{sym, arith}
use Rattle.daide_log_lines.proofs.PartedLemmas.{parted_here, parted_none}
use Rattle.daide_log_lines.proofs.parts.parted_at_space.Goals as goal

pub returns-then-c-eq32 : goal.returns-then-c-eq32
returns-then-c-eq32 c = parted_here c.args.text.now c.loop-i.i (omega arith) c.if-c-eq32.true c.loop-i.invariant

pub returns : goal.returns
returns c = sym (parted_none c.args.text.now (λ k less. c.loop-i.invariant k (omega arith)))
