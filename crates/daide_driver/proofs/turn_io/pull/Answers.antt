use Rattle.std.proofs.Common.{◌≡◌, ℕ, refl, ap, ◌∙◌, rules, arith}
use Rattle.std.specs.Prelude.{min}
use Rattle.daide_protocol.specs.Wires.{room_of}
use Rattle.daide_reader.proofs.ReadingLemmas.{raised_none}
use Rattle.daide_driver.specs.Meter.{Moving}
use Rattle.daide_driver.specs.Totals.{Working}
use Rattle.daide_driver.specs.Turn.{Pulls}
use Rattle.daide_driver.proofs.Stretches.{carries_nothing}
use Rattle.daide_driver.proofs.TurnLemmas.{no_pull}
use Rattle.daide_session.proofs.WorkLemmas.{paid_same}
use Rattle.daide_driver.proofs.turn_io.pull.Goals as goal

pub returns-then-room-eq0-clause-pulls : goal.returns-then-room-eq0-clause-pulls
returns-then-room-eq0-clause-pulls g c =
    let now = c.args.session.now in
    let moved = c.args.moved.now in
    carries_nothing g.P.Ports.transition (Moving moved moved (Working (Pulls c.args.side))) now now c.args.ports.now (
      (
        no_pull c.args.side c.room-room.result now c.room-room.ensures.missing c.if-room-eq0.true,
        λ side. paid_same side now now refl refl,
      ),
      refl,
    )

pub returns-then-room-eq0-clause-asked : goal.returns-then-room-eq0-clause-asked
returns-then-room-eq0-clause-asked g c = raised_none _ _ refl

pub pull_into-requires-clause-room : goal.pull_into-requires-clause-room
pull_into-requires-clause-room g c =
    let some = c.if-room-eq0.false in
    let same = c.room-room.ensures.missing in
    omega (arith, some, same)

pub pull_into-requires-clause-len : goal.pull_into-requires-clause-len
pull_into-requires-clause-len g c =
    let small : c.min-len.result ≡ min (room_of c.args.session.now c.args.side) 512 =
    c.min-len.ensures ∙ ap (λ (n : ℕ). min n 512) c.room-room.ensures.missing in
    search rules
