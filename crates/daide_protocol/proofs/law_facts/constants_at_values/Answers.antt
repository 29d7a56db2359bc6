use Rattle.daide_protocol.proofs.law_facts.constants_at_values.Goals as goal

pub returns-clause-prn : goal.returns-clause-prn
returns-clause-prn c = c.words_are_those_of_the_definitions.ensures.prn

pub returns-clause-huh : goal.returns-clause-huh
returns-clause-huh c = c.words_are_those_of_the_definitions.ensures.huh

pub returns-clause-err : goal.returns-clause-err
returns-clause-err c = c.words_are_those_of_the_definitions.ensures.err

pub returns-clause-close : goal.returns-clause-close
returns-clause-close c = c.words_are_those_of_the_definitions.ensures.close

pub returns-clause-fm : goal.returns-clause-fm
returns-clause-fm c = c.words_are_those_of_the_definitions.ensures.fm

pub returns-clause-body : goal.returns-clause-body
returns-clause-body c = c.bounds_are_those_of_the_definitions.ensures.body

pub returns-clause-least_body : goal.returns-clause-least_body
returns-clause-least_body c = c.bounds_are_those_of_the_definitions.ensures.least_body

pub returns-clause-depth : goal.returns-clause-depth
returns-clause-depth c = c.bounds_are_those_of_the_definitions.ensures.depth

pub returns-clause-least_depth : goal.returns-clause-least_depth
returns-clause-least_depth c = c.bounds_are_those_of_the_definitions.ensures.least_depth

pub returns-clause-entries : goal.returns-clause-entries
returns-clause-entries c = c.bounds_are_those_of_the_definitions.ensures.entries

pub returns-clause-sessions : goal.returns-clause-sessions
returns-clause-sessions c = c.bounds_are_those_of_the_definitions.ensures.sessions
