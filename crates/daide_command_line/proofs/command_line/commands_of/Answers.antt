use Rattle.clap.specs.Words.{shape_of}
use Rattle.daide_command_line.specs.CommandTable.{shape_for}
use Rattle.daide_command_line.proofs.CommandLemmas.{all_made, one_more, one_more_plain}
use Rattle.daide_command_line.proofs.command_line.commands_of.Goals as goal

pub loop-row-preserved : goal.loop-row-preserved
loop-row-preserved c = record {
  shapes = λ plain. rw c.in_ok-push.ensures.items (one_more shape_of shape_for c.loop-row.commands.items c.args.rows.now
      c.loop-row.row-index _ _ c.loop-row-test.true (c.in_ok-command_of.ensures.shape plain) (c.loop-row.invariant.shapes plain));
  local = rw c.in_ok-push.ensures.items (one_more_plain _ _ c.loop-row.invariant.local c.in_ok-command_of.ensures.local);
}

pub returns-clause-shapes : goal.returns-clause-shapes
returns-clause-shapes c = λ plain.
    all_made shape_of shape_for c.loop-row.commands.items c.args.rows.now c.loop-row.row-index c.loop-row-test.false
    (c.loop-row.invariant.shapes plain)
