use Rattle.daide_words.proofs.Common.{◌+◌, [], ◌∷◌, sym, ap, ◌∙◌, LEAVES_PRESS_GROUP, Take, action, grammar_operand}
use Rattle.daide_words.proofs.Common.{grammar_place, operand_symbol, Operand}
use Rattle.daide_words.proofs.OperandRules.{power_rule, powers_rule, provinces_rule, order_rule, press_rule}
use Rattle.daide_words.proofs.place.operand_rule.Goals as goal

pub returns-in-Power : goal.returns-in-Power
returns-in-Power c =
    power_rule ∙ ap (λ (o : Operand).
    Take (operand_symbol (grammar_operand o) (grammar_place c.args.place) c.args.level ∷ [])) (sym c.in-Power.is)

pub returns-in-Powers : goal.returns-in-Powers
returns-in-Powers c =
    powers_rule ∙ ap (λ (o : Operand).
    Take (operand_symbol (grammar_operand o) (grammar_place c.args.place) c.args.level ∷ [])) (sym c.in-Powers.is)

pub returns-in-Provinces : goal.returns-in-Provinces
returns-in-Provinces c =
    provinces_rule ∙ ap (λ (o : Operand).
    Take (operand_symbol (grammar_operand o) (grammar_place c.args.place) c.args.level ∷ []))
    (sym c.in-Provinces.is)

pub returns-in-Order : goal.returns-in-Order
returns-in-Order c =
    order_rule ∙ ap (λ (o : Operand).
    Take (operand_symbol (grammar_operand o) (grammar_place c.args.place) c.args.level ∷ [])) (sym c.in-Order.is)

pub returns-in-Arrangement : goal.returns-in-Arrangement
returns-in-Arrangement c =
    c.arrangement_rule.ensures
    ∙ ap (λ (o : Operand). Take (operand_symbol (grammar_operand o) (grammar_place c.args.place) c.args.level ∷ []))
    (sym c.in-Arrangement.is)

pub returns-in-Press : goal.returns-in-Press
returns-in-Press c =
    ap (λ n. action (LEAVES_PRESS_GROUP + n)) c.level_place.ensures.place ∙ press_rule c.args.level
    ∙ ap (λ (o : Operand). Take (operand_symbol (grammar_operand o) (grammar_place c.args.place) c.args.level ∷ []))
    (sym c.in-Press.is)
