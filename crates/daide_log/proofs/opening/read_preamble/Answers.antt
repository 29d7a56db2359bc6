use Rattle.daide_log.proofs.Common.{◌∙◌, refl, sym, ap, subst, arith, List, ℕ, [], Ok, all_of, More, Unnamed}
use Rattle.daide_log.proofs.Common.{heading_after, heading_of, HasRead, IsPreambleProgress}
use Rattle.daide_log.specs.Log.{Opening}
use Rattle.daide_log_lines.proofs.PageLemmas.{keeps_all, keeps_more}
use Rattle.daide_log.proofs.CauseLemmas.{head_cause}
use Rattle.daide_log.proofs.LogLemmas.{nothing_read}
use Rattle.daide_log.proofs.PreambleLemmas.{head_judged, step_kept, fault_keeps, next_is, next_held, done_held}
use Rattle.daide_log.proofs.opening.read_preamble.Goals as goal

pub lines-init : goal.lines-init
lines-init g c =
    let old = g.R.LogReader.reader_view c.args.input.now.reader.now in
    let first = all_of g.W.Write.contents c.args.output.now in (
      record {
        has_read = λ words.
            subst (λ (buffered : List ℕ). HasRead (g.S.Style.form words) first old old buffered 0 [] (Opening Unnamed)) (sym c.requires)
            (nothing_read (g.S.Style.form words) first old);
        held_well = tt;
        fits = omega arith;
        kept = keeps_all (all_of g.W.Write.contents c.args.output.now);
      },
      refl,
      refl,
    )

pub returns-in-Err-clause-opened : goal.returns-in-Err-clause-opened
returns-in-Err-clause-opened g c =
    let old = g.R.LogReader.reader_view c.args.input.now.reader.now in
    let now = g.R.LogReader.reader_view c.lines.input.reader.now in
    let new = g.R.LogReader.reader_view c.next_line-found.new.input.reader.now in
    subst (IsPreambleProgress g.S.Style.form (all_of g.W.Write.contents c.args.output.now) old new c.next_line-found.new.input.block c.lines.count) (sym c.after_line.ensures ∙ c.in-Err.is)
    (head_judged g.S.Style.form g.met.S.Style.lawful (all_of g.W.Write.contents c.args.output.now) (all_of g.W.Write.contents c.lines.output) old now new c.lines.input.block c.next_line-found.new.input.text.items c.next_line-found.new.input.block c.lines.count
    c.next_line-found.result c.lines.heading c.with_next-more.result c.lines.invariant.0.has_read c.lines.invariant.0.kept
    c.next_line-found.ensures.found
    (c.with_next-more.ensures.heading ∙ ap (heading_after (heading_of c.lines.heading)) c.as_slice.ensures.value))

pub returns-in-Err-clause-cause : goal.returns-in-Err-clause-cause
returns-in-Err-clause-cause g c =
    head_cause g.R.LogReader.Fails g.W.Sink.Fails c.next_line-found.result c.with_next-more.result c.lines.count ⊥ c.in-Err.fault
    (sym c.after_line.ensures ∙ c.in-Err.is) c.next_line-found.ensures.cause

pub returns-in-Err-clause-kept_at_fault : goal.returns-in-Err-clause-kept_at_fault
returns-in-Err-clause-kept_at_fault g c other =
    let first = all_of g.W.Write.contents c.args.output.now in
    let mid = all_of g.W.Write.contents c.lines.output in
    let last = all_of g.W.Write.contents c.next_line-found.new.output in
    keeps_more first mid last c.lines.invariant.0.kept
    (fault_keeps c.next_line-found.result c.with_next-more.result c.lines.count c.in-Err.fault _
    (sym c.after_line.ensures ∙ c.in-Err.is) c.next_line-found.ensures.kept c.next_line-found.ensures.kept_at_fault other)

pub returns-in-Ok-Done-clause-within : goal.returns-in-Ok-Done-clause-within
returns-in-Ok-Done-clause-within g c =
    done_held c.next_line-found.result c.with_next-more.result c.lines.count c.in-Ok-Done.opened
    (sym c.after_line.ensures ∙ c.in-Ok-Done.is ∙ ap Ok c.in-Ok-Done.field-0-is) c.with_next-more.ensures.within

pub returns-in-Ok-Done-clause-opened : goal.returns-in-Ok-Done-clause-opened
returns-in-Ok-Done-clause-opened g c =
    let old = g.R.LogReader.reader_view c.args.input.now.reader.now in
    let now = g.R.LogReader.reader_view c.lines.input.reader.now in
    let new = g.R.LogReader.reader_view c.next_line-found.new.input.reader.now in
    subst (IsPreambleProgress g.S.Style.form (all_of g.W.Write.contents c.args.output.now) old new c.next_line-found.new.input.block c.lines.count)
    (sym c.after_line.ensures ∙ c.in-Ok-Done.is ∙ ap Ok c.in-Ok-Done.field-0-is)
    (head_judged g.S.Style.form g.met.S.Style.lawful (all_of g.W.Write.contents c.args.output.now) (all_of g.W.Write.contents c.lines.output) old now new c.lines.input.block c.next_line-found.new.input.text.items c.next_line-found.new.input.block c.lines.count
    c.next_line-found.result c.lines.heading c.with_next-more.result c.lines.invariant.0.has_read c.lines.invariant.0.kept
    c.next_line-found.ensures.found
    (c.with_next-more.ensures.heading ∙ ap (heading_after (heading_of c.lines.heading)) c.as_slice.ensures.value))

pub lines-preserved : goal.lines-preserved
lines-preserved g c =
    let old = g.R.LogReader.reader_view c.args.input.now.reader.now in
    let now = g.R.LogReader.reader_view c.lines.input.reader.now in
    let new = g.R.LogReader.reader_view c.next_line-found.new.input.reader.now in
    let first = all_of g.W.Write.contents c.args.output.now in
    let mid = all_of g.W.Write.contents c.lines.output in
    let last = all_of g.W.Write.contents c.next_line-found.new.output in
    let is = sym c.after_line.ensures ∙ c.in-Ok-More.is ∙ ap Ok c.in-Ok-More.field-0-is in
    let step : IsPreambleProgress g.S.Style.form (all_of g.W.Write.contents c.args.output.now) old new c.next_line-found.new.input.block c.lines.count (Ok (More c.in-Ok-More.next)) =
    subst (IsPreambleProgress g.S.Style.form (all_of g.W.Write.contents c.args.output.now) old new c.next_line-found.new.input.block c.lines.count) is
    (head_judged g.S.Style.form g.met.S.Style.lawful (all_of g.W.Write.contents c.args.output.now) (all_of g.W.Write.contents c.lines.output) old now new c.lines.input.block c.next_line-found.new.input.text.items c.next_line-found.new.input.block c.lines.count
    c.next_line-found.result c.lines.heading c.with_next-more.result c.lines.invariant.0.has_read c.lines.invariant.0.kept
    c.next_line-found.ensures.found
    (c.with_next-more.ensures.heading ∙ ap (heading_after (heading_of c.lines.heading)) c.as_slice.ensures.value)) in (
      record {
        has_read = step.0;
        held_well = next_held c.with_next-more.result c.in-Ok-More.next
            (next_is c.next_line-found.result c.with_next-more.result c.lines.count c.in-Ok-More.next is)
            c.with_next-more.ensures.within;
        fits = omega (arith, step.1);
        kept = keeps_more first mid last c.lines.invariant.0.kept
            (step_kept c.next_line-found.result c.with_next-more.result c.lines.count (More c.in-Ok-More.next) _ is
            c.next_line-found.ensures.kept);
      },
      c.next_line-found.ensures.same_reader ∙ c.lines.invariant.1,
      c.next_line-found.ensures.same_writer ∙ c.lines.invariant.2,
    )
