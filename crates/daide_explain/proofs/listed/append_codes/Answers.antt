use Rattle.daide_explain.proofs.Common.{arith}
use Rattle.daide_explain.proofs.Filtered.{one_more_at, all_taken}
use Rattle.daide_explain.proofs.listed.append_codes.Goals as goal

pub loop-code-preserved : goal.loop-code-preserved
loop-code-preserved g c = λ done h.
    one_more_at _ done c.args.codes.now c.loop-code.code-index _ _ _ c.loop-code-test.true c.from_code.ensures
    (c.loop-code.invariant done h) c.in_ok-append_if_expected.ensures.appended

pub returns-clause-filtered : goal.returns-clause-filtered
returns-clause-filtered g c = λ done h.
    all_taken _ done c.args.codes.now c.loop-code.code-index _ (let over = c.loop-code-test.false in omega arith)
    (c.loop-code.invariant done h)
