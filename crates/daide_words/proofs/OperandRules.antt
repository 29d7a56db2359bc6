-- The rules of the table that leave a word's operand.
use Rattle.daide_words.proofs.Common.{◌≡◌, ◌+◌, [], ◌∷◌, Option, Some, None, refl, Level, L0, L10, L20, L30, L40, L50}
use Rattle.daide_words.proofs.Common.{L60, Sym, ProvincesGroup, Press, LEAVES_ARRANGEMENT_GROUP, LEAVES_OPERAND_GROUP}
use Rattle.daide_words.proofs.Common.{LEAVES_PRESS_GROUP, Take, action, slot_of, grammar_place}
use Rattle.daide_grammar.specs.declared.symbol.Sym.TheVariants.{PowerGroup, PowersGroup, OrderGroup, ArrangementGroup}
use Rattle.daide_grammar.specs.declared.symbol.Sym.TheVariants.{OperandGroup, PressGroup, Arrangement, Fact, Operand}
use Rattle.daide_grammar.specs.declared.numbers.TheConstants.{LEAVES_ORDER_GROUP, LEAVES_POWER_GROUP}
use Rattle.daide_grammar.specs.declared.numbers.TheConstants.{LEAVES_POWERS_GROUP, LEAVES_PROVINCES_GROUP}
use Rattle.daide_grammar.specs.Table.Numbers.{level_place}
use Rattle.daide_grammar.specs.Table.ParseActions.{rest_of_action}
use Rattle.daide_grammar.specs.Forms.{Slot}
use Rattle.daide_words.specs.Table.Place.{operand_place}

pub power_rule : action LEAVES_POWER_GROUP ≡ Take (PowerGroup ∷ [])
unfolding action rest_of_action
power_rule = refl

pub powers_rule : action LEAVES_POWERS_GROUP ≡ Take (PowersGroup ∷ [])
unfolding action rest_of_action
powers_rule = refl

pub provinces_rule : action LEAVES_PROVINCES_GROUP ≡ Take (ProvincesGroup ∷ [])
unfolding action rest_of_action
provinces_rule = refl

pub order_rule : action LEAVES_ORDER_GROUP ≡ Take (OrderGroup ∷ [])
unfolding action rest_of_action
order_rule = refl

pub arrangement_rule : (l : Level) → action (LEAVES_ARRANGEMENT_GROUP + level_place l) ≡ Take (ArrangementGroup l ∷ [])
unfolding action rest_of_action
arrangement_rule L0 = refl
arrangement_rule L10 = refl
arrangement_rule L20 = refl
arrangement_rule L30 = refl
arrangement_rule L40 = refl
arrangement_rule L50 = refl
arrangement_rule L60 = refl

pub flat_rule : (l : Level) → action (LEAVES_OPERAND_GROUP + level_place l) ≡ Take (OperandGroup l ∷ [])
unfolding action rest_of_action
flat_rule L0 = refl
flat_rule L10 = refl
flat_rule L20 = refl
flat_rule L30 = refl
flat_rule L40 = refl
flat_rule L50 = refl
flat_rule L60 = refl

pub press_rule : (l : Level) → action (LEAVES_PRESS_GROUP + level_place l) ≡ Take (PressGroup l ∷ [])
unfolding action rest_of_action
press_rule L0 = refl
press_rule L10 = refl
press_rule L20 = refl
press_rule L30 = refl
press_rule L40 = refl
press_rule L50 = refl
press_rule L60 = refl

-- the slot of an operand of AND and ORR is that of its level
pub operand_slot : (l : Level) → Some (grammar_place (operand_place l), l) ≡ slot_of (Operand l)
unfolding slot_of
operand_slot L0 = refl
operand_slot L10 = refl
operand_slot L20 = refl
operand_slot L30 = refl
operand_slot L40 = refl
operand_slot L50 = refl
operand_slot L60 = refl

-- no other symbol has a slot
pub no_slot : (s : Sym) → ((l : Level) → s ≡ Press l → ⊥) → ((l : Level) → s ≡ Arrangement l → ⊥) →
    ((l : Level) → s ≡ Fact l → ⊥) → ((l : Level) → s ≡ Operand l → ⊥) →
    ◌≡◌ {A = Option (Slot × Level)} None (slot_of s)
unfolding slot_of
no_slot (Press l) p a f o = absurd (p l refl)
no_slot (Arrangement l) p a f o = absurd (a l refl)
no_slot (Fact l) p a f o = absurd (f l refl)
no_slot (Operand l) p a f o = absurd (o l refl)
no_slot _ p a f o = refl
