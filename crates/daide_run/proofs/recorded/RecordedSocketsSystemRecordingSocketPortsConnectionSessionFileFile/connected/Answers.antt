use Rattle.std.proofs.Common.{refl, ap}
use Rattle.daide_run.proofs.RecordLemmas.{none_begun, own_begun}
use Rattle.daide_run.proofs.recorded.RecordedSocketsSystemRecordingSocketPortsConnectionSessionFileFile.connected.Goals as goal

pub returns-in-Some : goal.returns-in-Some
returns-in-Some g c = (
  (λ holds. rw c.begin.ensures.ports (c.in-Ready.ensures.transition holds)),
  own_begun _ _ _ _ _ _ _ _ c.begin.ensures.ports c.identity-bot.ensures c.in-Some.is c.begin.ensures.record,
  refl,
)

pub returns-in_default : goal.returns-in_default
returns-in_default g c = (
  (λ holds. rw c.new.ensures (c.in-Ready.ensures.transition holds)),
  none_begun _ _ _ _ c.in_default.is (ap (λ made. made.record_of) c.new.ensures),
  refl,
)
