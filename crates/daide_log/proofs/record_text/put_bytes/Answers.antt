use Rattle.daide_log.proofs.Common.{◌++◌, List, ℕ, sym, ap, ◌∙◌, append-nil, arith}
use Rattle.daide_log.proofs.RecordLines.{encode_none}
use Rattle.daide_log.proofs.record_text.put_bytes.Goals as goal

pub loop-i-init : goal.loop-i-init
loop-i-init c = (
  sym (ap (λ (l : List ℕ). c.args.line.now.items ++ l) encode_none ∙ append-nil c.args.line.now.items),
  omega arith,
)
