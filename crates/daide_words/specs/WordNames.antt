-- The names of slots and operands in an operator's settings, and a word from its parts. (own)
use Rattle.std.specs.Prelude.{ℕ, List, codes, bytes_eq, Option, Some, None, if◌then◌else◌}
use Rattle.daide_grammar.specs.declared.level.Level.{Level}
use Rattle.daide_words.specs.declared.word.Word.{Word}
use Rattle.daide_words.specs.declared.slot.Slot.{Slot}
use Rattle.daide_words.specs.declared.slot.Slot.TheVariants as slots
use Rattle.daide_words.specs.declared.operand.Operand.{Operand}
use Rattle.daide_words.specs.declared.operand.Operand.TheVariants as operands

-- the slot with a name, letter for letter
abbrev pub slot_named : List ℕ → Option Slot
slot_named name =
    if bytes_eq name (codes "press") then Some slots.Press else
    if bytes_eq name (codes "arrangement") then Some slots.Arrangement else
    None

-- the operand with a name, letter for letter
abbrev pub operand_named : List ℕ → Option Operand
operand_named name =
    if bytes_eq name (codes "power") then Some operands.Power else
    if bytes_eq name (codes "powers") then Some operands.Powers else
    if bytes_eq name (codes "provinces") then Some operands.Provinces else
    if bytes_eq name (codes "order") then Some operands.Order else
    if bytes_eq name (codes "arrangement") then Some operands.Arrangement else
    if bytes_eq name (codes "press") then Some operands.Press else
    None

-- the only name of each slot, and of each operand
abbrev pub slot_name : Slot → List ℕ
slot_name slots.Press = codes "press"
slot_name slots.Arrangement = codes "arrangement"

abbrev pub operand_name : Operand → List ℕ
operand_name operands.Power = codes "power"
operand_name operands.Powers = codes "powers"
operand_name operands.Provinces = codes "provinces"
operand_name operands.Order = codes "order"
operand_name operands.Arrangement = codes "arrangement"
operand_name operands.Press = codes "press"

-- a word from its parts, if all are present
abbrev pub word_of_parts : Option (List ℕ) → Option ℕ → Option Slot → Option Level → Option Operand → Option Word
word_of_parts (Some name) (Some code) (Some slot) (Some level) (Some operand) =
    Some (record { name = name; code = code; slot = slot; level = level; operand = operand })
word_of_parts _ _ _ _ _ = None
