use Rattle.daide_grammar.proofs.Common.{◌≡◌, ℕ, [], ◌∷◌, refl, subst, arith, Bra, Gof, Tme, L60, IsLawful, entries}
use Rattle.daide_grammar.proofs.Common.{may_end_of, table_answer}
use Rattle.daide_grammar.specs.declared.side.Side2.TheVariants.{Client as BotSide}
use Rattle.daide_grammar.specs.declared.symbol.Sym.TheVariants.{Client, Closing, MaybeNumberGroup, OneNumber, Press}
use Rattle.daide_grammar.proofs.law_facts.stacks_at_values.Goals as goal

pub returns-clause-begins : goal.returns-clause-begins
returns-clause-begins c = c.stacks_stay_lawful.ensures.begins BotSide L60

pub returns-clause-take : goal.returns-clause-take
unfolding table_answer entries may_end_of
returns-clause-take c lawful =
    c.stacks_stay_lawful.ensures.take (Client L60) (MaybeNumberGroup ∷ []) [] 0 Tme lawful refl (λ e. cc) (λ e. cc)

pub returns-clause-bra : goal.returns-clause-bra
unfolding table_answer entries may_end_of
returns-clause-bra c lawful =
    c.stacks_stay_lawful.ensures.bra MaybeNumberGroup (OneNumber ∷ Closing ∷ []) [] 0 lawful refl

pub returns-clause-ket : goal.returns-clause-ket
unfolding table_answer entries may_end_of
returns-clause-ket c lawful =
    let less = c.stacks_stay_lawful.ensures.ket Closing [] [] 1 lawful refl in
    let one = less.1 in
    let none : less.0 ≡ 0 = omega (arith, one) in
    subst (λ (n : ℕ). IsLawful table_answer [] n) none less.2

pub returns-clause-skip : goal.returns-clause-skip
unfolding table_answer entries may_end_of
returns-clause-skip c lawful = c.stacks_stay_lawful.ensures.skip MaybeNumberGroup [] 0 Gof lawful refl

pub returns-clause-entries : goal.returns-clause-entries
returns-clause-entries c stack = c.stack_is_bounded.ensures.entries stack 254

pub returns-clause-rests : goal.returns-clause-rests
returns-clause-rests c class rest = c.stack_is_bounded.ensures.rests (Press L60) class rest

pub returns-clause-skips : goal.returns-clause-skips
returns-clause-skips c stack = c.lookups_are_bounded.ensures.skips stack 1 Bra

pub returns-clause-ends : goal.returns-clause-ends
returns-clause-ends c stack = c.lookups_are_bounded.ensures.ends stack
