use Rattle.daide_explain.proofs.Common.{on_ok_weaker}
use Rattle.daide_explain.proofs.AnswerParts.{prn_of_parts}
use Rattle.daide_explain.proofs.answer.append_prn.Goals as goal

pub returns-clause-answer : goal.returns-clause-answer
returns-clause-answer g c =
    on_ok_weaker c.append-3.result
    (λ e. prn_of_parts c.args.answer.now.items c.args.body.now _ _ _ c.in_ok-append.ensures.appended
    c.in_ok-append-2.ensures.appended e)
    c.append-3.ensures.appended
