use Rattle.daide_explain.proofs.Common.{on_ok_weaker}
use Rattle.daide_explain.proofs.AnswerParts.{huh_of_parts}
use Rattle.daide_explain.proofs.answer.append_huh.Goals as goal

pub returns-clause-answer : goal.returns-clause-answer
returns-clause-answer g c =
    on_ok_weaker c.append-5.result
    (λ e. huh_of_parts c.args.answer.now.items c.args.body.now c.args.place _ _ _ _ _ _ _ c.split_at.ensures.front
    c.split_at.ensures.back c.in_ok-append.ensures.appended c.in_ok-append-2.ensures.appended
    c.in_ok-append-3.ensures.appended c.in_ok-append-4.ensures.appended e)
    c.append-5.ensures.appended
