use Rattle.std.proofs.Common.{◌++◌, ap, ◌∙◌}
use Rattle.std.specs.Prelude.{get_or}
use Rattle.daide_frame.specs.declared.side.Side.TheVariants.{Bot}
use Rattle.daide_status.specs.declared.counts.EndCause.TheVariants.{Ended}
use Rattle.daide_status.specs.Counts.{all_causes, end_count}
use Rattle.daide_status.specs.Totals.{end_sample}
use Rattle.daide_status.proofs.Taken.{taken_more}
use Rattle.daide_status.proofs.totals.put_end_samples.Goals as goal

pub loop-cause-preserved : goal.loop-cause-preserved
loop-cause-preserved g c =
    let index = c.loop-cause.cause-index in
    let middle = c.loop-cause.out.items in
    taken_more (λ cause. end_sample cause (end_count cause c.args.ends.now)) all_causes index (Ended Bot) c.args.out.now.items middle
    c.put_end_sample.new.out.items c.loop-cause-test.true c.loop-cause.invariant
    (c.in_ok-put_end_sample.ensures
    ∙ ap (λ count. middle ++ end_sample (get_or all_causes index (Ended Bot)) count) c.of.ensures)
