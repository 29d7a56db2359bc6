use Rattle.std.proofs.Common.{ap, sym, rules, take}
use Rattle.std.proofs.lemmas.List.{take_min}
use Rattle.daide_buffered_io.specs.Calls.{put_of}
use Rattle.daide_buffered_io.proofs.CallLemmas.{none_is, spared_put, made_put}
use Rattle.daide_buffered_io.proofs.calls.put_to.Goals as goal

pub returns-then-not-readiness-clause-asked : goal.returns-then-not-readiness-clause-asked
returns-then-not-readiness-clause-asked g c =
    spared_put g.S.Duplex.calls _ c.args.readiness.now c.args.stream.now c.if-not-readiness.true

pub returns-in-Moved-clause-asked : goal.returns-in-Moved-clause-asked
returns-in-Moved-clause-asked g c =
    let front = take c.min.result c.args.bytes.now in
    made_put g.S.Duplex.calls (take 16384 c.args.bytes.now) front c.args.readiness.now _ _ _ _ c.write_on-outcome.result
    (search (rules, take_min, c.min.ensures)) c.if-not-readiness.false c.write_on-outcome.ensures.tries
    (ap put_of (sym c.in-Moved.is)) c.note_write.ensures.value

pub returns-in-Interrupted-clause-asked : goal.returns-in-Interrupted-clause-asked
returns-in-Interrupted-clause-asked g c =
    let front = take c.min.result c.args.bytes.now in
    made_put g.S.Duplex.calls (take 16384 c.args.bytes.now) front c.args.readiness.now _ _ _ _ c.write_on-outcome.result
    (search (rules, take_min, c.min.ensures)) c.if-not-readiness.false c.write_on-outcome.ensures.tries
    (none_is c.write_on-outcome.result c.in-Interrupted.is) c.note_write.ensures.value

pub returns-in-Failed-clause-asked : goal.returns-in-Failed-clause-asked
returns-in-Failed-clause-asked g c =
    let front = take c.min.result c.args.bytes.now in
    made_put g.S.Duplex.calls (take 16384 c.args.bytes.now) front c.args.readiness.now _ _ _ _ c.write_on-outcome.result
    (search (rules, take_min, c.min.ensures)) c.if-not-readiness.false c.write_on-outcome.ensures.tries
    (ap put_of (sym c.in-Failed.is)) c.note_write.ensures.value
