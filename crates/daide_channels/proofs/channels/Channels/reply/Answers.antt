use Rattle.daide_channels.proofs.Common.{refl, put}
use Rattle.daide_channels.proofs.AwaitedLemmas.{reply_room, seen_free}
use Rattle.daide_channels.proofs.FrontsKept.{post_fronts}
use Rattle.daide_channels.proofs.SidesLemmas.{answered, keeps_side, raised_side, same_if_answered, unasked_side}
use Rattle.daide_channels.proofs.QueueLemmas.{answer_waits, post_right, post_sound, post_waiting}
use Rattle.daide_channels.proofs.channels.Channels.reply.Goals as goal

pub answer-verdict-requires-clause-free : goal.answer-verdict-requires-clause-free
answer-verdict-requires-clause-free g c =
    let h = seen_free c.self.invariant c.self.view_is refl c.requires.free in
    rw c.at_mut.ensures.value h.free

pub answer-verdict-requires-clause-head : goal.answer-verdict-requires-clause-head
answer-verdict-requires-clause-head g c =
    let h = seen_free c.self.invariant c.self.view_is refl c.requires.free in
    let head = rw (h.seen.cap, h.pending) at c.requires.head in
    rw c.at_mut.ensures.value head

pub push-requires : goal.push-requires
push-requires g c =
    let h = seen_free c.self.invariant c.self.view_is refl c.requires.free in
    rw c.at_mut-2.ensures.value (reply_room h _)

pub invariant_of-self : goal.invariant_of-self
invariant_of-self g c =
    let h = seen_free c.self.invariant c.self.view_is refl c.requires.free in
    let answers = rw c.at_mut.ensures.value at c.answer-verdict.ensures.answers in
    let waits = answer_waits c.self.inside.wires c.args.side c.destination-to.result _ _ _ c.push.ensures
    c.at_mut-2.ensures.value c.destination-to.ensures in
    post_sound _ h answers waits refl

pub returns-clause-right : goal.returns-clause-right
returns-clause-right g c =
    let h = seen_free c.self.invariant c.self.view_is refl c.requires.free in
    let right = rw c.at_mut.ensures.value at c.answer-verdict.ensures.right in
    post_right c.args.head c.answer-verdict.result h right

pub returns-clause-keeps : goal.returns-clause-keeps
returns-clause-keeps g c =
    let h = seen_free c.self.invariant c.self.view_is refl c.requires.free in
    let answers = rw c.at_mut.ensures.value at c.answer-verdict.ensures.answers in
    keeps_side c.answer-verdict.new.self (put c.self.inside.wires c.destination-to.result c.push.new.self) h.seen
    (same_if_answered answers)

pub returns-clause-queued : goal.returns-clause-queued
returns-clause-queued g c =
    let h = seen_free c.self.invariant c.self.view_is refl c.requires.free in
    let answers = rw c.at_mut.ensures.value at c.answer-verdict.ensures.answers in
    let waits = answer_waits c.self.inside.wires c.args.side c.destination-to.result _ _ _ c.push.ensures
    c.at_mut-2.ensures.value c.destination-to.ensures in
    post_waiting _ h answers waits

pub returns-clause-fronts : goal.returns-clause-fronts
returns-clause-fronts g c =
    let h = seen_free c.self.invariant c.self.view_is refl c.requires.free in
    let answers = rw c.at_mut.ensures.value at c.answer-verdict.ensures.answers in
    let waits = answer_waits c.self.inside.wires c.args.side c.destination-to.result _ _ _ c.push.ensures
    c.at_mut-2.ensures.value c.destination-to.ensures in
    post_fronts _ h answers waits refl

pub returns-clause-answered : goal.returns-clause-answered
returns-clause-answered g c =
    let h = seen_free c.self.invariant c.self.view_is refl c.requires.free in
    let answers = rw c.at_mut.ensures.value at c.answer-verdict.ensures.answers in
    answered (put c.self.inside.wires c.destination-to.result c.push.new.self) h.seen answers

pub returns-clause-raised : goal.returns-clause-raised
returns-clause-raised g c =
    let h = seen_free c.self.invariant c.self.view_is refl c.requires.free in
    let raised = rw c.at_mut.ensures.value at c.answer-verdict.ensures.raised in
    raised_side 4 c.answer-verdict.new.self (put c.self.inside.wires c.destination-to.result c.push.new.self) h.seen
    raised

pub returns-clause-no_message : goal.returns-clause-no_message
returns-clause-no_message g c =
    let h = seen_free c.self.invariant c.self.view_is refl c.requires.free in
    let unasked = rw c.at_mut.ensures.value at c.answer-verdict.ensures.no_message in
    λ no. unasked_side c.answer-verdict.new.self (put c.self.inside.wires c.destination-to.result c.push.new.self) h.seen
    (unasked no)
