-- The least level above a given one at which a message is relayed. (own)
use Rattle.std.specs.Prelude.{ℕ, ◌<◌, List, Option, None, Some}
use Rattle.daide_grammar.specs.declared.level.Level.{Level}
use Rattle.daide_grammar.specs.declared.side.Side2.{Side2}
use Rattle.daide_grammar.specs.Level.{level_number}
use Rattle.daide_grammar.specs.SideMessages.{IsMessageOver}
use Rattle.daide_grammar.specs.Words.{Words}
use Rattle.daide_reader.specs.Verdict.{IsRelayed}

-- the first level is below the second
abbrev pub IsBelow : Level → Level → Type 0
IsBelow low high = level_number low < level_number high

-- the message is relayed at the level
abbrev pub IsRelayedAt : Words → Side2 → Level → ℕ → List ℕ → Type 0
IsRelayedAt words end level max_depth m = IsRelayed (IsMessageOver words end level) max_depth m

-- with a level: it is above the given one, and the message is relayed there but at no level between; without one: the
-- message is relayed at no level above the given one
abbrev pub IsLowestAbove : Words → Side2 → Level → ℕ → List ℕ → Option Level → Type 0
IsLowestAbove words end level max_depth m None =
    (high : Level) → IsBelow level high → ¬ IsRelayedAt words end high max_depth m
IsLowestAbove words end level max_depth m (Some least) =
    IsBelow level least × IsRelayedAt words end least max_depth m
    × ((between : Level) → IsBelow level between → IsBelow between least → ¬ IsRelayedAt words end between max_depth m)
