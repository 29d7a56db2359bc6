use Rattle.daide_reader.proofs.Common.{◌≡◌, [], ◌∷◌, Huh, Prn, Relay}
use Rattle.daide_grammar.specs.declared.level.Level.TheVariants.{L0, L60}
use Rattle.daide_grammar.specs.declared.side.Side2.TheVariants.{Client, ServerEnd}
use Rattle.daide_grammar.specs.Table.Symbols.{start_symbol_of}
use Rattle.daide_reader.proofs.law_facts.verdicts_at_values.Goals as goal

other_places : Huh 1 ≡ Huh 0 → ⊥
other_places e = cc

other_answers : Prn ≡ Relay → ⊥
other_answers e = cc

pub returns-clause-place : goal.returns-clause-place
returns-clause-place c m one none =
    other_places (c.message_has_one_verdict.ensures [] (start_symbol_of Client L0) 62 m (Huh 1) (Huh 0) one none)

pub returns-clause-prn : goal.returns-clause-prn
returns-clause-prn c m one other =
    other_answers (c.message_has_one_verdict.ensures [] (start_symbol_of ServerEnd L60) 62 m Prn Relay one other)

pub returns-clause-some : goal.returns-clause-some
returns-clause-some c = c.message_has_a_verdict.ensures [] Client L0 62 (0x4803 ∷ 0x4000 ∷ [])

pub returns-clause-grammar : goal.returns-clause-grammar
returns-clause-grammar c = c.grammar_has_a_verdict.ensures Client L0 62 (0x4803 ∷ 0x4000 ∷ [])

pub returns-clause-relayed : goal.returns-clause-relayed
returns-clause-relayed c table m = (c.plain_verdicts_are_the_grammars.ensures table Client L60 62 m Relay).1
