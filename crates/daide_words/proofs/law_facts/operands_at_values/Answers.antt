use Rattle.daide_words.proofs.Common.{refl, ◌≡◌, codes, sym, ap, Operand, Slot}
use Rattle.daide_words.specs.declared.operand.Operand.TheVariants as operands
use Rattle.daide_words.specs.declared.slot.Slot.TheVariants as slots
use Rattle.daide_words.specs.WordNames.{operand_name, slot_name}
use Rattle.daide_words.proofs.Apart.{texts_apart}
use Rattle.daide_words.proofs.law_facts.operands_at_values.Goals as goal

no_orders : (operand : Operand) → codes "orders" ≡ operand_name operand → ⊥
no_orders operands.Power e = texts_apart (codes "orders") (operand_name operands.Power) refl e
no_orders operands.Powers e = texts_apart (codes "orders") (operand_name operands.Powers) refl e
no_orders operands.Provinces e = texts_apart (codes "orders") (operand_name operands.Provinces) refl e
no_orders operands.Order e = texts_apart (codes "orders") (operand_name operands.Order) refl e
no_orders operands.Arrangement e = texts_apart (codes "orders") (operand_name operands.Arrangement) refl e
no_orders operands.Press e = texts_apart (codes "orders") (operand_name operands.Press) refl e

no_capital : (slot : Slot) → codes "Press" ≡ slot_name slot → ⊥
no_capital slots.Press e = texts_apart (codes "Press") (slot_name slots.Press) refl e
no_capital slots.Arrangement e = texts_apart (codes "Press") (slot_name slots.Arrangement) refl e

pub returns-clause-orders : goal.returns-clause-orders
returns-clause-orders c operand read =
    no_orders operand ((c.operands_have_one_name.ensures.operand (codes "orders") operand).0 read)

pub returns-clause-order : goal.returns-clause-order
returns-clause-order c name read = (c.operands_have_one_name.ensures.operand name operands.Order).0 read

pub returns-clause-read : goal.returns-clause-read
returns-clause-read c operand is =
    (c.operands_have_one_name.ensures.operand (codes "order") operand).1 (ap operand_name (sym is))

pub returns-clause-press : goal.returns-clause-press
returns-clause-press c slot read =
    no_capital slot ((c.operands_have_one_name.ensures.slot (codes "Press") slot).0 read)
