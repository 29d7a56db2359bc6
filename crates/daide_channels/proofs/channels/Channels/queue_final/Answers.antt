use Rattle.daide_channels.proofs.Common.{◌≡◌, ap, ◌∙◌, at, put, Queue, pushed}
use Rattle.daide_channels.specs.Channels.{ending_of, fields}
use Rattle.daide_channels.proofs.FrontsKept.{end_fronts}
use Rattle.daide_channels.proofs.QueueLemmas.{end_room, end_sound, end_waiting}
use Rattle.daide_channels.proofs.channels.Channels.queue_final.Goals as goal

pub push-requires : goal.push-requires
push-requires g c =
    let d = c.self.inside in
    let f = fields d.receivers d.wires in
    rw c.at_mut.ensures.value (end_room f c.args.self.now c.args.to c.self.view_is c.self.invariant c.requires)

pub invariant_of-self : goal.invariant_of-self
invariant_of-self g c =
    let d = c.self.inside in
    let f = fields d.receivers d.wires in
    let queue : c.push.new.self ≡ pushed (at d.wires c.args.to) (ending_of c.args.code) =
    c.push.ensures ∙ ap (λ (q : Queue). pushed q c.ending.result) c.at_mut.ensures.value
    ∙ ap (pushed (at d.wires c.args.to)) c.ending.ensures in
    end_sound f c.args.self.now c.args.to c.args.code _ c.self.view_is c.self.invariant c.requires
    (ap (put d.wires c.args.to) queue)

pub returns-clause-queued : goal.returns-clause-queued
returns-clause-queued g c =
    let d = c.self.inside in
    let f = fields d.receivers d.wires in
    let queue : c.push.new.self ≡ pushed (at d.wires c.args.to) (ending_of c.args.code) =
    c.push.ensures ∙ ap (λ (q : Queue). pushed q c.ending.result) c.at_mut.ensures.value
    ∙ ap (pushed (at d.wires c.args.to)) c.ending.ensures in
    end_waiting f c.args.self.now c.args.to c.args.code _ c.self.view_is c.self.invariant
    (ap (put d.wires c.args.to) queue)

pub returns-clause-fronts : goal.returns-clause-fronts
returns-clause-fronts g c =
    let d = c.self.inside in
    let f = fields d.receivers d.wires in
    let queue : c.push.new.self ≡ pushed (at d.wires c.args.to) (ending_of c.args.code) =
    c.push.ensures ∙ ap (λ (q : Queue). pushed q c.ending.result) c.at_mut.ensures.value
    ∙ ap (pushed (at d.wires c.args.to)) c.ending.ensures in
    end_fronts f c.args.self.now c.args.to c.args.code _ c.self.view_is (ap (put d.wires c.args.to) queue)
