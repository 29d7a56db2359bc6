use Rattle.daide_words.proofs.Common.{◌+◌, [], ◌∷◌, sym, ap, ◌∙◌, LEAVES_ARRANGEMENT_GROUP, LEAVES_OPERAND_GROUP, Take}
use Rattle.daide_words.proofs.Common.{action, an_arrangement, grammar_place, operand_symbol}
use Rattle.daide_words.specs.declared.place.WordPosition.{WordPosition}
use Rattle.daide_words.proofs.OperandRules.{arrangement_rule, flat_rule}
use Rattle.daide_words.proofs.place.arrangement_rule.Goals as goal

pub returns-in-Press : goal.returns-in-Press
returns-in-Press c =
    ap (λ n. action (LEAVES_ARRANGEMENT_GROUP + n)) c.level_place-step.ensures.place ∙ arrangement_rule c.args.level
    ∙ ap (λ (p : WordPosition). Take (operand_symbol an_arrangement (grammar_place p) c.args.level ∷ [])) (sym c.in-Press.is)

pub returns-in-Arrangement : goal.returns-in-Arrangement
returns-in-Arrangement c =
    ap (λ n. action (LEAVES_ARRANGEMENT_GROUP + n)) c.level_place-step.ensures.place ∙ arrangement_rule c.args.level
    ∙ ap (λ (p : WordPosition). Take (operand_symbol an_arrangement (grammar_place p) c.args.level ∷ []))
    (sym c.in-Arrangement.is)

pub returns-in-Flat : goal.returns-in-Flat
returns-in-Flat c =
    ap (λ n. action (LEAVES_OPERAND_GROUP + n)) c.level_place-step.ensures.place ∙ flat_rule c.args.level
    ∙ ap (λ (p : WordPosition). Take (operand_symbol an_arrangement (grammar_place p) c.args.level ∷ [])) (sym c.in-Flat.is)
