use Rattle.daide_grammar.proofs.Common.{sym, subst, HasRule}
use Rattle.daide_grammar.proofs.RowsAgree.{has_rule}
use Rattle.daide_grammar.proofs.plain.move_of.Goals as goal

pub rule_of-requires : goal.rule_of-requires
rule_of-requires c =
    subst HasRule (sym c.meaning_of.ensures) (has_rule c.sym.result c.class.result c.class.ensures.few)
