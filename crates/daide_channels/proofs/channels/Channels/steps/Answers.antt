use Rattle.daide_channels.proofs.Common.{◌≤◌, ◌∙◌, ap, is_some, subst, frame_tokens, Receiver, Side}
use Rattle.daide_channels.specs.Receiver.{message_look_ups}
use Rattle.daide_channels.proofs.AwaitedLemmas.{picked}
use Rattle.daide_channels.proofs.channels.Channels.steps.Goals as goal

pub returns-clause-value : goal.returns-clause-value
returns-clause-value g c =
    let h = picked c.self.invariant c.self.view_is c.at.ensures in
    rw h.arrival c.steps.ensures.value

pub returns-clause-few : goal.returns-clause-few
returns-clause-few g c =
    let h = picked c.self.invariant c.self.view_is c.at.ensures in
    rw (h.awaited, h.cap, h.arrival) c.steps.ensures.few

pub returns-clause-once : goal.returns-clause-once
returns-clause-once g c =
    let h = picked c.self.invariant c.self.view_is c.at.ensures in
    let side = ap (λ (r : Receiver). r.side) c.at.ensures ∙ c.self.invariant.its_side c.args.side in
    rw (h.awaited, h.cap, h.rules, h.arrival) (subst (λ (s : Side). c.steps.result
    ≤ message_look_ups c.at.result.now.rules s c.at.result.now.level
    (frame_tokens c.at.result.now.cap c.at.result.now.frame_bytes) (is_some c.at.result.now.verdict)) side
    c.steps.ensures.once)
