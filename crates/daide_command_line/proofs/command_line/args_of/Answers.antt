use Rattle.clap.specs.Words.{rule_of}
use Rattle.daide_command_line.specs.CommandTable.{rule_for}
use Rattle.daide_command_line.proofs.CommandLemmas.{all_made, one_more, one_more_local}
use Rattle.daide_command_line.proofs.command_line.args_of.Goals as goal

pub loop-row-preserved : goal.loop-row-preserved
loop-row-preserved c = record {
  rules = λ plain. rw c.in_ok-push.ensures.items (one_more rule_of rule_for c.loop-row.args.items c.args.rows.now c.loop-row.row-index c.arg_of.result _
      c.loop-row-test.true (c.arg_of.ensures.rule plain) (c.loop-row.invariant.rules plain));
  local = rw c.in_ok-push.ensures.items (one_more_local _ _ c.loop-row.invariant.local c.arg_of.ensures.local);
}

pub returns-clause-rules : goal.returns-clause-rules
returns-clause-rules c = λ plain.
    all_made rule_of rule_for c.loop-row.args.items c.args.rows.now c.loop-row.row-index c.loop-row-test.false
    (c.loop-row.invariant.rules plain)
