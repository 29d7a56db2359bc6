use Rattle.daide_grammar.proofs.Common.{[], ◌∷◌, refl, class_of, Bra, bra, ket, L60, entries, may_end_of, table_answer}
use Rattle.daide_grammar.specs.declared.symbol.Sym.TheVariants.{Any, Closing, MaybeNumber, Operands, Press, Texts}
use Rattle.daide_grammar.proofs.law_facts.moves_at_values.Goals as goal

pub returns-clause-takes : goal.returns-clause-takes
unfolding class_of table_answer entries may_end_of
returns-clause-takes c m = (c.moves_agree.ensures.takes Closing [] ket m refl).0

pub returns-clause-skips : goal.returns-clause-skips
unfolding class_of table_answer entries may_end_of
returns-clause-skips c m = (c.moves_agree.ensures.skips Texts ket m refl).1

pub returns-clause-stops : goal.returns-clause-stops
unfolding class_of table_answer entries may_end_of
returns-clause-stops c m = (c.moves_agree.ensures.stops Closing bra m refl).1

pub returns-clause-ends : goal.returns-clause-ends
unfolding may_end_of
returns-clause-ends c = (c.moves_agree.ensures.ends (Operands L60)).0 refl

pub returns-clause-some : goal.returns-clause-some
returns-clause-some c = c.no_language_is_empty.ensures (Press L60)

pub returns-clause-alternatives : goal.returns-clause-alternatives
returns-clause-alternatives c = c.alternatives_differ.ensures Any Bra

pub returns-clause-neighbours : goal.returns-clause-neighbours
unfolding may_end_of
returns-clause-neighbours c brackets m n lawful =
    c.neighbours_differ.ensures MaybeNumber (Closing ∷ []) brackets 0x0005 m n lawful refl
