-- The number of look-ups of a table. (own)
use Rattle.std.specs.Prelude.{ℕ}
use Rattle.daide_grammar.specs.declared.dense.Dense.{Dense}
use Rattle.daide_grammar.specs.declared.plain.Plain.{Plain}

-- the look-ups so far, modulo 2^64
abbrev pub plain_look_ups : Plain → ℕ
plain_look_ups table = table.asked

-- the same for the constant table
abbrev pub look_ups : Dense → ℕ
look_ups table = table.asked
