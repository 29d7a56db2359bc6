use Rattle.daide_log.proofs.Common.{sym, ap, ◌∙◌}
use Rattle.daide_log.specs.Recording.{line_event}
use Rattle.daide_log.proofs.EventLines.{lined_bytes}
use Rattle.daide_log.proofs.record.RecordedEvent.is_silent.Goals as goal

pub returns-in-Received-clause-lined : goal.returns-in-Received-clause-lined
returns-in-Received-clause-lined c = λ some.
    lined_bytes c.args.self c.in-Received.field-0 c.in-Received.bytes.now (ap line_event c.in-Received.is)
    (sym c.is_empty.ensures ∙ some)

pub returns-in-EndOf-clause-lined : goal.returns-in-EndOf-clause-lined
returns-in-EndOf-clause-lined c = λ some. (_, ap line_event c.in-EndOf.is)

pub returns-in-ImTimer-clause-lined : goal.returns-in-ImTimer-clause-lined
returns-in-ImTimer-clause-lined c = λ some. (_, ap line_event c.in-ImTimer.is)

pub returns-in-Stop-clause-lined : goal.returns-in-Stop-clause-lined
returns-in-Stop-clause-lined c = λ some. (_, ap line_event c.in-Stop.is)
