-- The numbers that the code exports by name. Only other crates read some of them, so that no other proof here would
-- notice a wrong one: the rules that leave a word's operand, and the class of tokens without a meaning.
use Rattle.daide_grammar.proofs.Common.{◌≡◌, ℕ, ◌+◌, List, [], ◌∷◌, map, length, refl, Ket, Other, Level, L0, L10, L20}
use Rattle.daide_grammar.proofs.Common.{L30, L40, L50, L60, Sym, class_number, TableEntry, Take, Skip, Stop, class_at}
use Rattle.daide_grammar.proofs.Common.{classes, symbols, action, rest_of_action}
use Rattle.daide_grammar.specs.declared.numbers.TheConstants.{LEAVES_ARRANGEMENT_GROUP, LEAVES_OPERAND_GROUP}
use Rattle.daide_grammar.specs.declared.numbers.TheConstants.{LEAVES_ORDER_GROUP, LEAVES_POWER_GROUP}
use Rattle.daide_grammar.specs.declared.numbers.TheConstants.{LEAVES_POWERS_GROUP, LEAVES_PRESS_GROUP}
use Rattle.daide_grammar.specs.declared.numbers.TheConstants.{LEAVES_PROVINCES_GROUP, CLASS_COUNT, KET, OTHER}
use Rattle.daide_grammar.specs.declared.numbers.TheConstants.{OWN_CLASSES, RULE_COUNT, SKIP, STOP, SYMBOL_COUNT}
use Rattle.daide_grammar.specs.declared.numbers.TheConstants.{TOKEN_COUNT, WORD_COUNT}
use Rattle.daide_grammar.specs.declared.symbol.Sym.TheVariants.{PowerGroup, PowersGroup, ProvincesGroup, OrderGroup}
use Rattle.daide_grammar.specs.declared.symbol.Sym.TheVariants.{ArrangementGroup, OperandGroup, PressGroup}

-- ---- rules

-- 0 stops and 1 skips
without_a_rest : (action STOP ≡ Stop) × (action SKIP ≡ Skip)
unfolding action rest_of_action
without_a_rest = (refl, refl)

-- a power, powers, provinces or an order, each in brackets
without_a_level : (action LEAVES_POWER_GROUP ≡ Take (PowerGroup ∷ []))
    × (action LEAVES_POWERS_GROUP ≡ Take (PowersGroup ∷ []))
    × (action LEAVES_PROVINCES_GROUP ≡ Take (ProvincesGroup ∷ []))
    × (action LEAVES_ORDER_GROUP ≡ Take (OrderGroup ∷ []))
unfolding action rest_of_action
without_a_level = (refl, refl, refl, refl)

-- seven rules from a first one on, which leave a symbol of level 0, of level 10, and so on to level 60
abbrev seven_from : ℕ → List TableEntry
seven_from rule = map (λ n. action (rule + n)) (0 ∷ 1 ∷ 2 ∷ 3 ∷ 4 ∷ 5 ∷ 6 ∷ [])

abbrev leaving : (Level → Sym) → List TableEntry
leaving symbol = map (λ l. Take (symbol l ∷ [])) (L0 ∷ L10 ∷ L20 ∷ L30 ∷ L40 ∷ L50 ∷ L60 ∷ [])

-- an arrangement, an operand of AND and ORR, or a press, each in brackets
with_a_level : (seven_from LEAVES_ARRANGEMENT_GROUP ≡ leaving ArrangementGroup)
    × (seven_from LEAVES_OPERAND_GROUP ≡ leaving OperandGroup)
    × (seven_from LEAVES_PRESS_GROUP ≡ leaving PressGroup)
unfolding action rest_of_action
with_a_level = (refl, refl, refl)

-- ---- classes, and their number

brackets_and_others : (class_at KET ≡ Ket) × (class_at OTHER ≡ Other) × (class_number Ket ≡ KET)
    × (class_number Other ≡ OTHER)
brackets_and_others = (refl, refl, refl, refl)

counts : (length classes ≡ CLASS_COUNT) × (OWN_CLASSES + WORD_COUNT ≡ CLASS_COUNT) × (length symbols ≡ SYMBOL_COUNT)
    × (OWN_CLASSES ≡ 79) × (WORD_COUNT ≡ 16) × (RULE_COUNT ≡ 256) × (TOKEN_COUNT ≡ 65536)
counts = (refl, refl, refl, refl, refl, refl, refl)
