use Rattle.daide_tools.proofs.ControllingLemmas.{answered}
use Rattle.daide_tools.proofs.controlling.status_over.Goals as goal

pub returns-clause-answered : goal.returns-clause-answered
returns-clause-answered g c =
    answered _ _ _ _ c.send.new.stream _ c.in_ok-answer.answer.items _ _ _ c.print_answer.result c.as_slice.ensures.value
    c.in_ok-send.ensures.sent c.in_ok-answer.ensures.few c.in_ok-answer.ensures.whole c.print_answer.ensures.some
    c.print_answer.ensures.printed
