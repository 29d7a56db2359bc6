-- Two sides: the opposite of one, and whether two are the same.
use Rattle.std.specs.Prelude.{Bool, true, false}
use Rattle.daide_frame.specs.declared.side.Side.{Side}
use Rattle.daide_frame.specs.declared.side.Side.TheVariants.{Bot, Server}

-- the opposite side
abbrev pub other : Side → Side
other Bot = Server
other Server = Bot

-- whether two sides are the same
abbrev pub same_side : Side → Side → Bool
same_side Bot Bot = true
same_side Bot Server = false
same_side Server Bot = false
same_side Server Server = true
