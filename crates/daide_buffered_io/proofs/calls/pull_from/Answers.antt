use Rattle.std.proofs.Common.{◌≡◌, ◌∙◌, ◌<◌, ℕ, ap, inl, inr, length, rules, sym}
use Rattle.daide_buffered_io.specs.Calls.{after_read, pull_of}
use Rattle.daide_io.specs.declared.ports.Pull.TheVariants.{Ended}
use Rattle.daide_buffered_io.proofs.CallLemmas.{some_room, no_room, got_is, idle_is, idle_pull, made_pull}
use Rattle.daide_buffered_io.proofs.calls.pull_from.Goals as goal
use Rattle.daide_buffered_io.proofs.calls.pull_from.Goals.{then-is_empty-via-then-is_empty}
use Rattle.daide_buffered_io.proofs.calls.pull_from.Goals.{then-is_empty-via-else-is_empty+then-not-readiness}

pub returns-then-is_empty-clause-asked : goal.returns-then-is_empty-clause-asked
returns-then-is_empty-clause-asked g c =
    idle_pull g.S.Duplex.calls (length c.args.buffer.now) c.args.readiness.now c.args.stream.now
    (elim c.then-is_empty.branch [
      | then-is_empty-via-then-is_empty w ↦ inr (no_room _ (sym w.if-is_empty.true ∙ c.is_empty.ensures))
      | then-is_empty-via-else-is_empty+then-not-readiness w ↦ inl w.if-not-readiness.true
    ])

pub returns-in-Moved-clause-asked : goal.returns-in-Moved-clause-asked
returns-in-Moved-clause-asked g c =
    let some : 0 < c.in-Moved.count = search rules in
    made_pull g.S.Duplex.calls _ c.args.readiness.now _ _ _ _ c.read_on-outcome.result c.if-not-readiness.false
    (some_room _ c.if-is_empty.ensures) c.read_on-outcome.ensures.tries
    (got_is c.read_on-outcome.result c.in-Moved.count c.in-Moved.is some)
    (c.note_read.ensures.value
    ∙ ap (λ (n : ℕ). after_read c.args.readiness.now n c.read_on-outcome.result) c.read_on-outcome.ensures.len)

pub returns-in-Interrupted-clause-asked : goal.returns-in-Interrupted-clause-asked
returns-in-Interrupted-clause-asked g c =
    made_pull g.S.Duplex.calls _ c.args.readiness.now _ _ _ _ c.read_on-outcome.result c.if-not-readiness.false
    (some_room _ c.if-is_empty.ensures) c.read_on-outcome.ensures.tries
    (idle_is c.read_on-outcome.result c.in-Interrupted.is)
    (c.note_read.ensures.value
    ∙ ap (λ (n : ℕ). after_read c.args.readiness.now n c.read_on-outcome.result) c.read_on-outcome.ensures.len)

pub returns-in-Moved-eq0-clause-asked : goal.returns-in-Moved-eq0-clause-asked
returns-in-Moved-eq0-clause-asked g c =
    let ended : Ended ≡ pull_of c.read_on-outcome.result = search rules in
    made_pull g.S.Duplex.calls _ c.args.readiness.now _ _ _ _ c.read_on-outcome.result c.if-not-readiness.false
    (some_room _ c.if-is_empty.ensures) c.read_on-outcome.ensures.tries ended
    (c.note_read.ensures.value
    ∙ ap (λ (n : ℕ). after_read c.args.readiness.now n c.read_on-outcome.result) c.read_on-outcome.ensures.len)

pub returns-in-Moved-eq0-2-clause-asked : goal.returns-in-Moved-eq0-2-clause-asked
returns-in-Moved-eq0-2-clause-asked g c =
    let ended : Ended ≡ pull_of c.read_on-outcome.result = search rules in
    made_pull g.S.Duplex.calls _ c.args.readiness.now _ _ _ _ c.read_on-outcome.result c.if-not-readiness.false
    (some_room _ c.if-is_empty.ensures) c.read_on-outcome.ensures.tries ended
    (c.note_read.ensures.value
    ∙ ap (λ (n : ℕ). after_read c.args.readiness.now n c.read_on-outcome.result) c.read_on-outcome.ensures.len)
