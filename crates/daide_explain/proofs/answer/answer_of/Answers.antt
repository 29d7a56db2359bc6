use Rattle.daide_explain.proofs.Common.{◌≡◌, ◌%◌, ◌++◌, List, ℕ, length, subst, sym, ◌∙◌, ap}
use Rattle.daide_explain.proofs.AnswerParts.{even_answer}
use Rattle.daide_protocol.specs.Answers.{answer_body}
use Rattle.daide_explain.proofs.answer.answer_of.Goals as goal

pub returns-clause-body : goal.returns-clause-body
returns-clause-body g c =
    c.in_ok-append_answer.ensures.answer
    ∙ ap (λ (l : List ℕ). l ++ answer_body c.args.body.now c.args.verdict) c.new-answer.ensures.items

pub returns-clause-even : goal.returns-clause-even
returns-clause-even g c =
    subst (λ (l : List ℕ). length l % 2 ≡ 0)
    (sym (c.in_ok-append_answer.ensures.answer
    ∙ ap (λ (l : List ℕ). l ++ answer_body c.args.body.now c.args.verdict) c.new-answer.ensures.items))
    (even_answer c.args.body.now c.args.verdict c.requires.even c.requires.within)
