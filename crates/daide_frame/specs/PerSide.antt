-- One value for each side. A statement about a side is made and proved once.
use Rattle.daide_frame.specs.declared.side.Side.{Side}
use Rattle.daide_frame.specs.declared.side.Side.TheVariants.{Bot, Server}

pub record PerSide (A : Type 0) : Type 0 where
  pub bot : A
  pub server : A

abbrev pub both : {A : Type 0} → A → A → PerSide A
both x y = record { bot = x; server = y }

abbrev pub at : {A : Type 0} → PerSide A → Side → A
at b Bot = b.bot
at b Server = b.server

-- the same pair with another value for one side
abbrev pub put : {A : Type 0} → PerSide A → Side → A → PerSide A
put b Bot x = record { bot = x; server = b.server }
put b Server x = record { bot = b.bot; server = x }
