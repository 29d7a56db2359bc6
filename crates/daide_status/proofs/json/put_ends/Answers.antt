use Rattle.std.proofs.Common.{◌++◌, ap, ◌∙◌}
use Rattle.std.specs.Prelude.{get_or}
use Rattle.daide_frame.specs.declared.side.Side.TheVariants.{Bot}
use Rattle.daide_status.specs.declared.counts.EndCause.TheVariants.{Ended}
use Rattle.daide_status.specs.Counts.{end_count, other_causes}
use Rattle.daide_status.specs.Json.{json_further}
use Rattle.daide_status.proofs.Taken.{taken_more}
use Rattle.daide_status.proofs.json.put_ends.Goals as goal

pub loop-cause-preserved : goal.loop-cause-preserved
loop-cause-preserved g c =
    let index = c.loop-cause.cause-index in
    let middle = c.loop-cause.out.items in
    taken_more (λ cause. json_further cause (end_count cause c.args.ends.now)) other_causes index (Ended Bot) c.put_ended.new.out.items
    middle c.put_further.new.out.items c.loop-cause-test.true c.loop-cause.invariant
    (c.in_ok-put_further.ensures
    ∙ ap (λ count. middle ++ json_further (get_or other_causes index (Ended Bot)) count) c.of.ensures)
