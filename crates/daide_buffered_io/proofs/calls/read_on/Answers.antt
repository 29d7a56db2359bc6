use Rattle.std.proofs.Common.{◌∙◌, ℕ, ap, sym, arith, length}
use Rattle.daide_io.specs.Streams.{Read, outcome_by}
use Rattle.daide_io.specs.declared.outcome.IoResult.{IoResult}
use Rattle.daide_io.specs.declared.outcome.IoResult.TheVariants.{Interrupted}
use Rattle.daide_buffered_io.proofs.AgainLemmas.{again_appended, last_tried, read_within, read_given, read_kept}
use Rattle.daide_buffered_io.proofs.calls.read_on.Goals as goal

pub returns-in_default : goal.returns-in_default
returns-in_default g c =
    let call = λ (o : IoResult). Read (length c.args.buffer.now) o in
    let few = c.loop-test.true in
    record {
      tries = last_tried call _ _ _ c.loop.counter c.of.result (Read (length c.loop.buffer) (outcome_by c.read.result))
          (ap (λ (n : ℕ). Read n (outcome_by c.read.result)) c.loop.invariant.0 ∙ ap call (sym c.of.ensures))
          (omega arith) (λ e. absurd (c.in_default.not-Interrupted e)) c.loop.invariant.3 c.read.ensures.appended;
      within = read_within c.of.result c.read.result c.of.ensures c.read.new.buffer _
          (c.read.auto.buffer ∙ c.loop.invariant.0) c.read.ensures.within;
      len = c.read.auto.buffer ∙ c.loop.invariant.0;
      given = read_given c.of.result c.read.result c.of.ensures c.read.new.buffer _ _ _ c.loop.invariant.1
          c.read.ensures.given;
      apart = c.read.ensures.apart ∙ c.loop.invariant.2;
    }

pub loop-preserved : goal.loop-preserved
loop-preserved g c =
    let call = λ (o : IoResult). Read (length c.args.buffer.now) o in (
      c.read.auto.buffer ∙ c.loop.invariant.0,
      read_kept c.of.result c.read.result c.of.ensures c.read.new.buffer _ _ _ c.in-Interrupted.is c.loop.invariant.1
          c.read.ensures.given,
      c.read.ensures.apart ∙ c.loop.invariant.2,
      again_appended (call Interrupted) _ _ _ c.loop.counter (Read (length c.loop.buffer) (outcome_by c.read.result))
          (ap (λ (n : ℕ). Read n (outcome_by c.read.result)) c.loop.invariant.0
          ∙ ap call (sym c.of.ensures ∙ c.in-Interrupted.is)) c.loop.invariant.3 c.read.ensures.appended,
    )

pub returns-clause-tries : goal.returns-clause-tries
returns-clause-tries g c =
    let call = λ (o : IoResult). Read (length c.args.buffer.now) o in
    let most = c.loop.auto.counter-end in
    let least = c.loop-test.false in
    last_tried call _ _ _ c.loop.counter c.of-2.result (Read (length c.loop.buffer) (outcome_by c.read-2.result))
    (ap (λ (n : ℕ). Read n (outcome_by c.read-2.result)) c.loop.invariant.0 ∙ ap call (sym c.of-2.ensures))
    (omega arith) (λ e. omega arith) c.loop.invariant.3 c.read-2.ensures.appended

pub returns-clause-within : goal.returns-clause-within
returns-clause-within g c =
    read_within c.of-2.result c.read-2.result c.of-2.ensures c.read-2.new.buffer _
    (c.read-2.auto.buffer ∙ c.loop.invariant.0) c.read-2.ensures.within

pub returns-clause-given : goal.returns-clause-given
returns-clause-given g c =
    read_given c.of-2.result c.read-2.result c.of-2.ensures c.read-2.new.buffer _ _ _ c.loop.invariant.1
    c.read-2.ensures.given
