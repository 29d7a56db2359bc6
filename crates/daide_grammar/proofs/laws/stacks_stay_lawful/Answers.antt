use Rattle.daide_grammar.proofs.Common.{plain_laws, plain_begins}
use Rattle.daide_grammar.proofs.laws.stacks_stay_lawful.Goals as goal

pub returns-clause-begins : goal.returns-clause-begins
returns-clause-begins c = plain_begins

pub returns-clause-skip : goal.returns-clause-skip
returns-clause-skip c = λ s below k c l a. plain_laws.lawful_skip s c below k l a

pub returns-clause-take : goal.returns-clause-take
returns-clause-take c = λ s rest below k c l a. plain_laws.lawful_take s c rest below k l a

pub returns-clause-bra : goal.returns-clause-bra
returns-clause-bra c = λ s rest below k l a. plain_laws.lawful_open s rest below k l a

pub returns-clause-ket : goal.returns-clause-ket
returns-clause-ket c = λ s rest below k l a. plain_laws.lawful_close s rest below k l a
