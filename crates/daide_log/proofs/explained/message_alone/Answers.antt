use Rattle.daide_log.proofs.Common.{sym, ◌∙◌}
use Rattle.daide_log.proofs.PageLines.{body_even, text_alone}
use Rattle.daide_log.proofs.explained.message_alone.Goals as goal

pub returns-in-Relay-clause-alone : goal.returns-in-Relay-clause-alone
returns-in-Relay-clause-alone g c = λ words limits announced.
    rw c.in-Frame.is (text_alone words limits announced c.args.side c.in-Frame.frame c.in-Frame.deed c.args.session.now
    c.body.result.now (sym c.is_message.ensures ∙ c.if-not-is_message.false) (sym c.verdict_by.ensures ∙ c.in-Relay.is)
    c.body.ensures.value)

pub returns-in-Relay-clause-even : goal.returns-in-Relay-clause-even
returns-in-Relay-clause-even g c = λ words config right.
    body_even words config c.args.side c.in-Frame.frame c.in-Frame.deed c.args.session.now c.body.result.now
    (sym c.is_message.ensures ∙ c.if-not-is_message.false) c.body.ensures.value (rw c.in-Frame.is at right)
