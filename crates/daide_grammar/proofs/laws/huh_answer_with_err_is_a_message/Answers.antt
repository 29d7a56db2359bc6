use Rattle.daide_grammar.proofs.Common.{◌∷◌, ◌++◌, take, drop, err}
use Rattle.daide_grammar.proofs.Languages.{huh-answer}
use Rattle.daide_grammar.proofs.ErrPutIn.{err-put-in, huh-err-depth}
use Rattle.daide_grammar.proofs.laws.huh_answer_with_err_is_a_message.Goals as goal

pub returns-clause-message : goal.returns-clause-message
returns-clause-message c = λ side level m place h. huh-answer side level (take place m ++ err ∷ drop place m)
    (err-put-in place m h)

pub returns-clause-depth : goal.returns-clause-depth
returns-clause-depth c = λ m place. huh-err-depth place m
