use Rattle.daide_grammar.proofs.Common.{ap, ◌∙◌, Sym, table_answer}
use Rattle.daide_grammar.proofs.plain.PlainPredict.predict_token.Goals as goal

pub returns-clause-answer : goal.returns-clause-answer
returns-clause-answer c = λ _. c.predict.ensures.answer
    ∙ (ap (λ (s : Sym). table_answer s c.args.column) c.symbol.ensures ∙ ap (table_answer c.args.sym) c.requires)

pub returns-clause-stops : goal.returns-clause-stops
returns-clause-stops c = λ _. c.predict.ensures.answer
    ∙ (ap (λ (s : Sym). table_answer s c.args.column) c.symbol.ensures ∙ ap (table_answer c.args.sym) c.requires)
