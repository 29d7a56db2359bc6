use Rattle.std.proofs.Common.{arith, rules, refl, ap, sym, ◌∙◌, subst, length, Ok, Err, true}
use Rattle.daide_log_lines.specs.Output.{all_of}
use Rattle.daide_log_lines.specs.Lines.{ReadsOn}
use Rattle.daide_log_lines.proofs.LineLemmas.{begun, emptied, reads_kept, scanned_on, failed_read, found_behind_all}
use Rattle.daide_log_lines.proofs.LineLemmas.{found_end, found_last, found_line, found_too_long}
use Rattle.daide_log_lines.proofs.PageLemmas.{keeps_all, keeps_more}
use Rattle.daide_frame.proofs.FeedingLemmas.{not_empty}
use Rattle.daide_log_lines.proofs.lines.next_line.Goals as goal

pub returns-in-Err-clause-found : goal.returns-in-Err-clause-found
returns-in-Err-clause-found g c =
    found_behind_all (all_of g.W.Write.contents c.args.output.now) (g.R.LogReader.reader_view c.args.input.now.reader.now)
    c.args.input.now.block c.args.count c.clear.new.self.items (g.R.LogReader.reader_view c.has_more.new.reader)
    c.has_more.new.block (Err c.in-Err.fault) c.if-count-eq-MOST_LINES.true c.in-Err.ensures.more

pub loop-turn-init : goal.loop-turn-init
loop-turn-init g c = (
  begun (all_of g.W.Write.contents c.args.output.now) (g.R.LogReader.reader_view c.args.input.now.reader.now) c.args.input.now.block
      c.args.count c.clear.new.self.items (omega arith) c.clear.ensures,
  keeps_all (all_of g.W.Write.contents c.args.output.now),
  refl,
  refl,
)

pub returns-then-scan-clause-found : goal.returns-then-scan-clause-found
returns-then-scan-clause-found g c =
    found_line (all_of g.W.Write.contents c.args.output.now) (g.R.LogReader.reader_view c.args.input.now.reader.now) c.args.input.now.block c.args.count (g.R.LogReader.reader_view c.loop-turn.input.reader.now)
    c.loop-turn.input.text.items c.loop-turn.input.block c.scan.new.text.items c.scan.new.block c.drop_cr.new.text.items
    c.loop-turn._turn c.loop-turn.invariant.0 c.if-scan.ensures c.drop_cr.ensures

pub returns-then-scan-clause-kept : goal.returns-then-scan-clause-kept
returns-then-scan-clause-kept g c = c.loop-turn.invariant.1

pub returns-then-len-eq-TOO_LONG-clause-found : goal.returns-then-len-eq-TOO_LONG-clause-found
returns-then-len-eq-TOO_LONG-clause-found g c =
    found_too_long (all_of g.W.Write.contents c.args.output.now) (g.R.LogReader.reader_view c.args.input.now.reader.now) c.args.input.now.block c.args.count (g.R.LogReader.reader_view c.loop-turn.input.reader.now)
    c.loop-turn.input.text.items c.loop-turn.input.block c.scan.new.text.items c.scan.new.block c.loop-turn._turn
    c.loop-turn.invariant.0 c.if-scan.ensures (sym c.len.ensures.value ∙ c.if-len-eq-TOO_LONG.true)

pub returns-in-Ok-false-read_on-clause-found : goal.returns-in-Ok-false-read_on-clause-found
returns-in-Ok-false-read_on-clause-found g c =
    found_end (all_of g.W.Write.contents c.args.output.now) (g.R.LogReader.reader_view c.args.input.now.reader.now) c.args.input.now.block c.args.count (g.R.LogReader.reader_view c.loop-turn.input.reader.now)
    c.scan.new.text.items c.loop-turn._turn (g.R.LogReader.reader_view c.read_on.new.reader) c.read_on.new.block
    (emptied (all_of g.W.Write.contents c.args.output.now) (g.R.LogReader.reader_view c.args.input.now.reader.now) c.args.input.now.block c.args.count (g.R.LogReader.reader_view c.loop-turn.input.reader.now)
    c.loop-turn.input.text.items c.loop-turn.input.block c.scan.new.text.items c.scan.new.block c.loop-turn._turn
    c.loop-turn.invariant.0 c.if-scan.ensures (λ e. c.if-len-eq-TOO_LONG.false (c.len.ensures.value ∙ e))
    (omega (arith, c.len.ensures.value, c.len.ensures.fits)))
    (search rules) (sym c.is_empty.ensures ∙ c.if-is_empty.true)

pub returns-in-Ok-false-read_on-clause-kept : goal.returns-in-Ok-false-read_on-clause-kept
returns-in-Ok-false-read_on-clause-kept g c =
    keeps_more _ _ _ c.loop-turn.invariant.1 c.in-Ok-false-read_on.ensures.kept

pub returns-in-Ok-false-2-clause-kept : goal.returns-in-Ok-false-2-clause-kept
returns-in-Ok-false-2-clause-kept g c =
    keeps_more _ _ _ c.loop-turn.invariant.1 c.in-Ok-false-read_on.ensures.kept

pub returns-in-Err-read_on-clause-kept_at_fault : goal.returns-in-Err-read_on-clause-kept_at_fault
returns-in-Err-read_on-clause-kept_at_fault g c other =
    keeps_more _ _ _ c.loop-turn.invariant.1 (c.in-Err-read_on.ensures.kept_at_fault other)

pub returns-in-Ok-false-2-clause-found : goal.returns-in-Ok-false-2-clause-found
returns-in-Ok-false-2-clause-found g c =
    found_last (all_of g.W.Write.contents c.args.output.now) (g.R.LogReader.reader_view c.args.input.now.reader.now) c.args.input.now.block c.args.count (g.R.LogReader.reader_view c.loop-turn.input.reader.now)
    c.scan.new.text.items c.loop-turn._turn (g.R.LogReader.reader_view c.read_on.new.reader) c.read_on.new.block
    (emptied (all_of g.W.Write.contents c.args.output.now) (g.R.LogReader.reader_view c.args.input.now.reader.now) c.args.input.now.block c.args.count (g.R.LogReader.reader_view c.loop-turn.input.reader.now)
    c.loop-turn.input.text.items c.loop-turn.input.block c.scan.new.text.items c.scan.new.block c.loop-turn._turn
    c.loop-turn.invariant.0 c.if-scan.ensures (λ e. c.if-len-eq-TOO_LONG.false (c.len.ensures.value ∙ e))
    (omega (arith, c.len.ensures.value, c.len.ensures.fits)))
    (search rules)
    (not_empty (length c.scan.new.text.items) (sym c.is_empty.ensures ∙ c.if-is_empty.false))

pub returns-in-Err-read_on-clause-found : goal.returns-in-Err-read_on-clause-found
returns-in-Err-read_on-clause-found g c =
    failed_read (all_of g.W.Write.contents c.args.output.now) (g.R.LogReader.reader_view c.args.input.now.reader.now) c.args.input.now.block c.args.count (g.R.LogReader.reader_view c.loop-turn.input.reader.now)
    c.scan.new.text.items c.loop-turn._turn (g.R.LogReader.reader_view c.read_on.new.reader) c.read_on.new.block
    c.in-Err-read_on.fault
    (emptied (all_of g.W.Write.contents c.args.output.now) (g.R.LogReader.reader_view c.args.input.now.reader.now) c.args.input.now.block c.args.count (g.R.LogReader.reader_view c.loop-turn.input.reader.now)
    c.loop-turn.input.text.items c.loop-turn.input.block c.scan.new.text.items c.scan.new.block c.loop-turn._turn
    c.loop-turn.invariant.0 c.if-scan.ensures (λ e. c.if-len-eq-TOO_LONG.false (c.len.ensures.value ∙ e))
    (omega (arith, c.len.ensures.value, c.len.ensures.fits)))
    (reads_kept (all_of g.W.Write.contents c.args.output.now) (all_of g.W.Write.contents c.loop-turn.output)
    (g.R.LogReader.reader_view c.loop-turn.input.reader.now) (g.R.LogReader.reader_view c.read_on.new.reader) c.read_on.new.block
    (Err c.in-Err-read_on.fault) c.loop-turn.invariant.1
    (subst (ReadsOn _ (g.R.LogReader.reader_view c.loop-turn.input.reader.now) (g.R.LogReader.reader_view c.read_on.new.reader) c.read_on.new.block)
    c.in-Err-read_on.is c.read_on.ensures.read))

pub loop-turn-preserved : goal.loop-turn-preserved
loop-turn-preserved g c = (
  scanned_on (all_of g.W.Write.contents c.args.output.now) (g.R.LogReader.reader_view c.args.input.now.reader.now) c.args.input.now.block c.args.count (g.R.LogReader.reader_view c.loop-turn.input.reader.now)
      c.scan.new.text.items c.loop-turn._turn (g.R.LogReader.reader_view c.read_on.new.reader) c.read_on.new.block
      (emptied (all_of g.W.Write.contents c.args.output.now) (g.R.LogReader.reader_view c.args.input.now.reader.now) c.args.input.now.block c.args.count (g.R.LogReader.reader_view c.loop-turn.input.reader.now)
      c.loop-turn.input.text.items c.loop-turn.input.block c.scan.new.text.items c.scan.new.block c.loop-turn._turn
      c.loop-turn.invariant.0 c.if-scan.ensures (λ e. c.if-len-eq-TOO_LONG.false (c.len.ensures.value ∙ e))
      (omega (arith, c.len.ensures.value, c.len.ensures.fits)))
      (reads_kept (all_of g.W.Write.contents c.args.output.now) (all_of g.W.Write.contents c.loop-turn.output)
      (g.R.LogReader.reader_view c.loop-turn.input.reader.now) (g.R.LogReader.reader_view c.read_on.new.reader) c.read_on.new.block
      (Ok true) c.loop-turn.invariant.1
      (subst (ReadsOn _ (g.R.LogReader.reader_view c.loop-turn.input.reader.now) (g.R.LogReader.reader_view c.read_on.new.reader) c.read_on.new.block)
      (c.in-Ok-true-read_on.is ∙ ap Ok c.in-Ok-true-read_on.field-0-test) c.read_on.ensures.read)),
  keeps_more _ _ _ c.loop-turn.invariant.1 c.in-Ok-true-read_on.ensures.kept,
  c.loop-turn.invariant.2,
  c.read_on.ensures.same_writer ∙ c.loop-turn.invariant.3,
)

pub unreachable-requires : goal.unreachable-requires
unreachable-requires g c = let t = c.loop-turn.invariant.0.turns in let s = c.loop-turn.invariant.0.short in omega arith
