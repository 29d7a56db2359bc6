use Rattle.daide_settings.proofs.Common.{arith}
use Rattle.daide_settings.proofs.ReportLemmas.{none_written, parts_next, parts_over}
use Rattle.daide_settings.proofs.settings.judged.write_key_faults.Goals as goal

pub loop-rest-init : goal.loop-rest-init
loop-rest-init g c = none_written _ c.args.keys.now c.args.report.now.items

pub loop-rest-preserved : goal.loop-rest-preserved
loop-rest-preserved g c =
    parts_next _ _ c.loop-rest.rest.now _ _ _ _ _ c.loop-rest.invariant c.in-len1-up.len_at_least (omega arith)
    c.in_ok-write_fault_of.ensures.written

pub returns-clause-written : goal.returns-clause-written
returns-clause-written g c = parts_over _ _ c.loop-rest.rest.now _ _ c.in_default.len_below c.loop-rest.invariant
