-- A mutable borrow of the value at one side.
use Rattle.std.specs.Borrow.{Fml, Lends, MutBor, RattleType}
use Rattle.daide_frame.specs.declared.side.Side.{Side}
use Rattle.daide_frame.specs.PerSide.{PerSide, put}
use Rattle.daide_frame.specs.contracts.per_side.PerSide.{the_row}

-- the last value written through the borrow is that side's new value; the other side's value stays
abbrev pub LendsSide : (T : RattleType) → MutBor (PerSide T.Denot) → Side → MutBor T.Denot → Fml
LendsSide T b side lent = Lends (the_row T) T b lent (put b.now side)
