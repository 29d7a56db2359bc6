use Rattle.daide_words.proofs.Common.{Some, sym, ap, ◌∙◌, slot_of, grammar_place}
use Rattle.daide_words.proofs.OperandRules.{operand_slot, no_slot}
use Rattle.daide_words.proofs.place.slot_of.Goals as goal

pub returns-in-Press : goal.returns-in-Press
unfolding slot_of
returns-in-Press c = sym (ap slot_of c.in-Press.is)

pub returns-in-Arrangement : goal.returns-in-Arrangement
unfolding slot_of
returns-in-Arrangement c = sym (ap slot_of c.in-Arrangement.is)

pub returns-in-Fact : goal.returns-in-Fact
unfolding slot_of
returns-in-Fact c = sym (ap slot_of c.in-Fact.is)

pub returns-in-Operand : goal.returns-in-Operand
returns-in-Operand c =
    ap (λ place. Some (grammar_place place, c.in-Operand.level)) c.operand_place.ensures
    ∙ operand_slot c.in-Operand.level ∙ sym (ap slot_of c.in-Operand.is)

pub returns-in_default : goal.returns-in_default
returns-in_default c =
    no_slot c.args.sym c.in_default.not-Press c.in_default.not-Arrangement c.in_default.not-Fact
    c.in_default.not-Operand
