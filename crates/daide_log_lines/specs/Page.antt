-- The bytes of a page. (own)
use Rattle.std.specs.Prelude.{ℕ, List}

-- bytes in order
pub record Held : Type 0 where
  pub items : List ℕ
