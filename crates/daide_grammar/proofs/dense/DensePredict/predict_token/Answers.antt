use Rattle.daide_grammar.proofs.Common.{ap, ◌∙◌, table_answer}
use Rattle.daide_grammar.proofs.dense.DensePredict.predict_token.Goals as goal

pub returns-clause-answer : goal.returns-clause-answer
returns-clause-answer c = λ _. c.move_of.ensures ∙ ap (table_answer c.args.sym) c.requires

pub returns-clause-stops : goal.returns-clause-stops
returns-clause-stops c = λ _. c.move_of.ensures ∙ ap (table_answer c.args.sym) c.requires
