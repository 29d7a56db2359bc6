use Rattle.std.proofs.Common.{◌∙◌, ap, sym, arith}
use Rattle.daide_io.specs.Streams.{Written, outcome_by}
use Rattle.daide_io.specs.declared.outcome.IoResult.{IoResult}
use Rattle.daide_io.specs.declared.outcome.IoResult.TheVariants.{Interrupted}
use Rattle.daide_buffered_io.proofs.AgainLemmas.{again_appended, last_tried, write_within, write_taken, write_kept}
use Rattle.daide_buffered_io.proofs.calls.write_on.Goals as goal

pub returns-in_default : goal.returns-in_default
returns-in_default g c =
    let call = λ (o : IoResult). Written c.args.bytes.now o in
    let few = c.loop-test.true in
    record {
      tries = last_tried call _ _ _ c.loop.counter c.of.result (call (outcome_by c.write.result))
          (ap call (sym c.of.ensures)) (omega arith) (λ e. absurd (c.in_default.not-Interrupted e))
          c.loop.invariant.2 c.write.ensures.appended;
      within = write_within c.of.result c.write.result c.of.ensures c.args.bytes.now c.write.ensures.within;
      taken = write_taken c.of.result c.write.result c.of.ensures c.args.bytes.now _ _ _ c.loop.invariant.0
          c.write.ensures.taken;
      apart = c.write.ensures.apart ∙ c.loop.invariant.1;
    }

pub loop-preserved : goal.loop-preserved
loop-preserved g c =
    let call = λ (o : IoResult). Written c.args.bytes.now o in (
      write_kept c.of.result c.write.result c.of.ensures c.args.bytes.now _ _ _ c.in-Interrupted.is c.loop.invariant.0
          c.write.ensures.taken,
      c.write.ensures.apart ∙ c.loop.invariant.1,
      again_appended (call Interrupted) _ _ _ c.loop.counter (call (outcome_by c.write.result))
          (ap call (sym c.of.ensures ∙ c.in-Interrupted.is)) c.loop.invariant.2 c.write.ensures.appended,
    )

pub returns-clause-tries : goal.returns-clause-tries
returns-clause-tries g c =
    let call = λ (o : IoResult). Written c.args.bytes.now o in
    let most = c.loop.auto.counter-end in
    let least = c.loop-test.false in
    last_tried call _ _ _ c.loop.counter c.of-2.result (call (outcome_by c.write-2.result))
    (ap call (sym c.of-2.ensures)) (omega arith) (λ e. omega arith) c.loop.invariant.2 c.write-2.ensures.appended

pub returns-clause-within : goal.returns-clause-within
returns-clause-within g c =
    write_within c.of-2.result c.write-2.result c.of-2.ensures c.args.bytes.now c.write-2.ensures.within

pub returns-clause-taken : goal.returns-clause-taken
returns-clause-taken g c =
    write_taken c.of-2.result c.write-2.result c.of-2.ensures c.args.bytes.now _ _ _ c.loop.invariant.0
    c.write-2.ensures.taken
