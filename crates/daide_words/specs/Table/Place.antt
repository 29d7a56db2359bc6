-- The positions for words in the grammar, as the code names them. (own)
use Rattle.daide_grammar.specs.declared.level.Level.{Level}
use Rattle.daide_grammar.specs.declared.level.Level.TheVariants.{L50, L60}
use Rattle.daide_grammar.specs.Forms.{Slot, Press_slot, Arrangement_slot, Flat_slot}
use Rattle.daide_words.specs.declared.place.WordPosition.{WordPosition}
use Rattle.daide_words.specs.declared.place.WordPosition.TheVariants as places

-- the grammar's slot for a position
abbrev pub grammar_place : WordPosition → Slot
grammar_place places.Press = Press_slot
grammar_place places.Arrangement = Arrangement_slot
grammar_place places.Flat = Flat_slot

-- the position of an operand of AND and ORR: below level 50 a flat one
abbrev pub operand_place : Level → WordPosition
operand_place L50 = places.Arrangement
operand_place L60 = places.Arrangement
operand_place _ = places.Flat
