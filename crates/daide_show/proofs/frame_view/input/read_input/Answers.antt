use Rattle.daide_show.proofs.Common.{rules, take, ◌++◌, length-append, arith, length-take-le, limit}
use Rattle.daide_show.proofs.Reading.{front_few, kept_more, none_more, none_read, read_more}
use Rattle.daide_show.proofs.Reading.{longer_input, turn_more, whole_input}
use Rattle.daide_show.proofs.frame_view.input.read_input.Goals as goal

pub returns-in-Ok-eq0-clause-whole : goal.returns-in-Ok-eq0-clause-whole
returns-in-Ok-eq0-clause-whole g c =
    whole_input _ (g.R.Read.remaining c.loop-turn.reader)
    (g.R.Read.remaining c.read_some.new.self) _ c.loop-turn.invariant.given
    (rw c.in-Ok-eq0.field-0-test at c.in-Ok-eq0.ensures.bytes.0)
    (c.in-Ok-eq0.ensures.bytes.1 c.in-Ok-eq0.field-0-test (search rules))

pub returns-then-count-len-clause-too_long : goal.returns-then-count-len-clause-too_long
returns-then-count-len-clause-too_long g c _ =
    longer_input _ (g.R.Read.remaining c.loop-turn.reader) (g.R.Read.remaining c.read_some.new.self) c.loop-turn.input.items
    (take c.in-Ok.count c.read_some.new.buffer) limit
    c.loop-turn.invariant.given c.in-Ok.ensures.bytes.0
    (omega (arith, c.in-Ok.ensures.bound.1, c.len.ensures, c.loop-turn.input.ok.0))

pub returns-then-count-len-clause-read : goal.returns-then-count-len-clause-read
returns-then-count-len-clause-read g c =
    let piece = take c.in-Ok.count c.read_some.new.buffer in (
      c.loop-turn.input.items ++ piece,
      read_more _ (g.R.Read.remaining c.loop-turn.reader)
          _ c.loop-turn.input.items piece c.loop-turn.invariant.given c.in-Ok.ensures.bytes.0,
      omega (
        arith,
        length-append c.loop-turn.input.items piece,
        c.in-Ok.ensures.bound.0,
        c.in-Ok.ensures.bound.1,
        c.read_some.auto.buffer,
        front_few c.min-room.result c.loop-turn.piece,
      ),
    )

pub returns-in_default-clause-read : goal.returns-in_default-clause-read
returns-in_default-clause-read g c =
    let piece = take c.in-Ok.count c.read_some.new.buffer in (
      c.loop-turn.input.items ++ piece,
      read_more _ (g.R.Read.remaining c.loop-turn.reader)
          _ c.loop-turn.input.items piece c.loop-turn.invariant.given c.in-Ok.ensures.bytes.0,
      omega (
        arith,
        length-append c.loop-turn.input.items piece,
        length-take-le c.in-Ok.count c.read_some.new.buffer c.in-Ok.ensures.bound.0,
      ),
    )

pub loop-turn-init : goal.loop-turn-init
loop-turn-init g c =
    none_read (g.R.Read.remaining c.args.reader.now) c.new-input.result.items c.new-input.ensures.items

pub returns-in-Ok-eq0-clause-fits : goal.returns-in-Ok-eq0-clause-fits
returns-in-Ok-eq0-clause-fits g c = c.loop-turn.invariant.fits

pub returns-in-Ok-eq0-clause-read : goal.returns-in-Ok-eq0-clause-read
returns-in-Ok-eq0-clause-read g c = (
  c.loop-turn.input.items,
  none_more _ (g.R.Read.remaining c.loop-turn.reader) (g.R.Read.remaining c.read_some.new.self) c.loop-turn.input.items
      c.loop-turn.invariant.given (rw c.in-Ok-eq0.field-0-test at c.in-Ok-eq0.ensures.bytes.0),
  omega (arith, c.loop-turn.invariant.fits),
)

pub unreachable-requires : goal.unreachable-requires
unreachable-requires g c =
    let fits = c.loop-turn.invariant.fits in
    let turns = c.loop-turn.invariant.each_turn in
    omega arith

pub returns-in-Err-clause-read : goal.returns-in-Err-clause-read
returns-in-Err-clause-read g c = (
  c.loop-turn.input.items,
  kept_more _ (g.R.Read.remaining c.loop-turn.reader) (g.R.Read.remaining c.read_some.new.self) c.loop-turn.input.items
      c.loop-turn.invariant.given c.in-Err.ensures.bytes,
  omega (arith, c.loop-turn.invariant.fits),
)

pub loop-turn-preserved : goal.loop-turn-preserved
loop-turn-preserved g c =
    turn_more _ (g.R.Read.remaining c.loop-turn.reader) (g.R.Read.remaining c.read_some.new.self) c.loop-turn.input.items
    c.read_some.new.buffer _ c.append.new.list.items c.in-Ok.count c.loop-turn._turn c.loop-turn.invariant
    c.in-Ok.ensures.bytes.0 c.in-Ok-append.ensures.appended c.in-Ok.ensures.bound.0 (omega arith)
    (omega (arith, c.len-in-loop-turn.ensures, c.loop-turn.input.ok.0))
