use Rattle.daide_grammar.proofs.Common.{ap, ◌∙◌, table_answer}
use Rattle.daide_grammar.proofs.dense.DensePredict.predict_word.Goals as goal

pub returns-clause-answer : goal.returns-clause-answer
returns-clause-answer c = c.predict.ensures.answer ∙ ap (table_answer c.args.sym) c.requires
