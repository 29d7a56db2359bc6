use Rattle.daide_words.proofs.Common.{[], ◌∷◌, refl, ap, bra, Closing, entries, may_end_of, table_answer, grammar_words}
use Rattle.daide_words.proofs.Common.{answer_over}
use Rattle.daide_token.specs.declared.class.Class.TheVariants as classes
use Rattle.daide_grammar.specs.declared.symbol.Sym.TheVariants.{OnePower, PowerGroup}
use Rattle.daide_words.proofs.law_facts.prediction_at_values.Goals as goal

pub returns-clause-takes : goal.returns-clause-takes
unfolding answer_over table_answer entries may_end_of
returns-clause-takes c word rest accepted =
    let laws = c.added_words_keep_the_laws.ensures (word ∷ []) accepted in
    laws.takes PowerGroup bra (OnePower ∷ Closing ∷ [])
    (ap (answer_over (grammar_words (word ∷ [])) PowerGroup) ((laws.only_bra bra).1 refl)) rest

pub returns-clause-entries : goal.returns-clause-entries
returns-clause-entries c word stack accepted =
    (c.added_words_keep_the_laws.ensures (word ∷ []) accepted).few_entries stack 62

pub returns-clause-skips : goal.returns-clause-skips
returns-clause-skips c word stack accepted =
    (c.added_words_keep_the_laws.ensures (word ∷ []) accepted).few_skips stack 1 (classes.Word 0)

pub returns-clause-ends : goal.returns-clause-ends
returns-clause-ends c word stack accepted = (c.added_words_keep_the_laws.ensures (word ∷ []) accepted).few_ends stack
