use Rattle.std.proofs.Common.{min}
use Rattle.daide_log.proofs.Common.{◌≡◌, ℕ, List, ◌++◌, length, sym, subst, append-nil, arith}
use Rattle.daide_log.specs.RecordItem.{address_text}
use Rattle.daide_log.proofs.CommentLemmas.{address_whole}
use Rattle.daide_log.proofs.comment.put_address.Goals as goal

pub loop-i-init : goal.loop-i-init
loop-i-init c = (sym (append-nil c.args.line.now.items), omega arith)

pub returns-clause-text : goal.returns-clause-text
returns-clause-text c =
    let count : c.loop-i.i ≡ min (length c.as_bytes-bytes.result.now) 64 =
    omega (arith, c.loop-i.auto.i-end, c.loop-i-test.false, c.min-count.ensures, c.as_bytes-bytes.ensures.len) in
    subst (λ (bytes : List ℕ). c.loop-i.line.items ≡ c.args.line.now.items ++ address_text bytes) c.as_bytes-bytes.ensures.value
    (address_whole c.args.line.now.items c.loop-i.line.items c.as_bytes-bytes.result.now c.loop-i.i (omega (arith, count))
    (omega (arith, count)) (λ less. omega (arith, count, less)) c.loop-i.invariant.0)
