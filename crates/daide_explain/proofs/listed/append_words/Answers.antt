use Rattle.daide_explain.proofs.Filtered.{named_more, all_named}
use Rattle.daide_explain.proofs.listed.append_words.Goals as goal

pub loop-named-preserved : goal.loop-named-preserved
loop-named-preserved g c = λ done h.
    named_more _ done c.names-named-items.result.now c.loop-named.named-index c.named-item.result _ _
    c.loop-named-test.true c.named-item.is (c.loop-named.invariant done h) c.in_ok-append_if_expected.ensures.appended

pub returns-clause-filtered : goal.returns-clause-filtered
returns-clause-filtered g c = λ done h.
    all_named _ done c.names-named-items.result.now _ c.loop-named.named-index _ c.loop-named-test.false
    c.names-named-items.ensures.names (c.loop-named.invariant done h)
