use Rattle.daide_channels.proofs.Common.{◌≡◌, [], Some, sym, ap, ◌∙◌, QueuedFrame, Answer, at, Receiver, front_after}
use Rattle.daide_channels.proofs.Common.{first_of}
use Rattle.daide_channels.specs.Channels.{fields}
use Rattle.daide_channels.proofs.FrontLemmas.{front_for, front_none, front_of, front_some}
use Rattle.daide_channels.proofs.channels.Channels.front.Goals as goal

pub returns-in-None-clause-value : goal.returns-in-None-clause-value
returns-in-None-clause-value g c =
    let d = c.self.inside in
    let f = fields d.receivers d.wires in
    let wire = c.at-wire.result.now in
    (front_for f c.args.self.now c.args.to wire [] c.self.view_is c.self.invariant c.at-wire.ensures
    (front_none f.sides wire.written wire.items (sym c.first.ensures ∙ c.in-None.is))).value

pub returns-in-None-clause-front : goal.returns-in-None-clause-front
returns-in-None-clause-front g c =
    let d = c.self.inside in
    let f = fields d.receivers d.wires in
    let wire = c.at-wire.result.now in
    (front_for f c.args.self.now c.args.to wire [] c.self.view_is c.self.invariant c.at-wire.ensures
    (front_none f.sides wire.written wire.items (sym c.first.ensures ∙ c.in-None.is))).front

pub returns-in-Some-Answer-clause-value : goal.returns-in-Some-Answer-clause-value
returns-in-Some-Answer-clause-value g c =
    let d = c.self.inside in
    let f = fields d.receivers d.wires in
    let wire = c.at-wire.result.now in
    let first : first_of wire.items ≡ Some (Answer c.in-Some-Answer.side) =
    sym c.first.ensures ∙ c.in-Some-Answer.is
    ∙ ap (λ (x : QueuedFrame). Some x) c.in-Some-Answer.field-0-is in
    let part : c.part.result.now ≡ front_of f.sides wire.written wire.items =
    c.part.ensures ∙ ap (λ (i : Receiver). front_after i c.written.result) c.at.ensures
    ∙ ap (front_after (at d.receivers c.in-Some-Answer.side)) c.written.ensures
    ∙ front_some f.sides wire.written wire.items (Answer c.in-Some-Answer.side) first in
    (front_for f c.args.self.now c.args.to wire c.part.result.now c.self.view_is c.self.invariant c.at-wire.ensures
    part).value

pub returns-in-Some-Answer-clause-front : goal.returns-in-Some-Answer-clause-front
returns-in-Some-Answer-clause-front g c =
    let d = c.self.inside in
    let f = fields d.receivers d.wires in
    let wire = c.at-wire.result.now in
    let first : first_of wire.items ≡ Some (Answer c.in-Some-Answer.side) =
    sym c.first.ensures ∙ c.in-Some-Answer.is
    ∙ ap (λ (x : QueuedFrame). Some x) c.in-Some-Answer.field-0-is in
    let part : c.part.result.now ≡ front_of f.sides wire.written wire.items =
    c.part.ensures ∙ ap (λ (i : Receiver). front_after i c.written.result) c.at.ensures
    ∙ ap (front_after (at d.receivers c.in-Some-Answer.side)) c.written.ensures
    ∙ front_some f.sides wire.written wire.items (Answer c.in-Some-Answer.side) first in
    (front_for f c.args.self.now c.args.to wire c.part.result.now c.self.view_is c.self.invariant c.at-wire.ensures
    part).front
