use Rattle.daide_channels.proofs.Common.{◌≡◌, ◌-◌, ap, arith, refl, sym, ◌∙◌, first_len, at, Queue}
use Rattle.daide_channels.specs.Channels.{Channels, answer_at, fields, size_of_first}
use Rattle.daide_channels.proofs.FrontLemmas.{first_len_is, waits_at}
use Rattle.daide_channels.proofs.FrontsKept.{advanced_front, advanced_other}
use Rattle.daide_channels.proofs.GoneLemmas.{advance_sound, advanced_waiting, further}
use Rattle.daide_channels.proofs.channels.Channels.advance.Goals as goal

pub advance-requires : goal.advance-requires
advance-requires g c =
    let d = c.self.inside in
    let f = fields d.receivers d.wires in
    let size : c.first_frame_len-len.result ≡ size_of_first (answer_at f.sides) (at f.wires c.args.to).items =
    c.first_frame_len-len.ensures ∙ ap (λ (q : Queue). size_of_first (answer_at f.sides) q.items) c.at.ensures in
    let left : size_of_first (answer_at f.sides) (at f.wires c.args.to).items - (at f.wires c.args.to).written
    ≡ first_len (at c.args.self.now.queued c.args.to) =
    first_len_is f c.args.to
    ∙ ap first_len (sym (waits_at f c.args.to) ∙ ap (λ (v : Channels). at v.queued c.args.to) c.self.view_is) in
    rw c.at_mut.ensures.value (omega (arith, size, left, c.requires))

pub invariant_of-self : goal.invariant_of-self
invariant_of-self g c =
    let d = c.self.inside in
    let f = fields d.receivers d.wires in
    let further_on : c.advance.new.self ≡ further (at d.wires c.args.to) c.args.n =
    c.advance.ensures ∙ ap (λ (q : Queue). further q c.args.n) c.at_mut.ensures.value in
    advance_sound f c.args.self.now c.args.to c.args.to c.args.n c.advance.new.self c.self.view_is c.self.invariant refl
    c.requires further_on

pub returns-clause-queued : goal.returns-clause-queued
returns-clause-queued g c =
    let d = c.self.inside in
    let f = fields d.receivers d.wires in
    let further_on : c.advance.new.self ≡ further (at d.wires c.args.to) c.args.n =
    c.advance.ensures ∙ ap (λ (q : Queue). further q c.args.n) c.at_mut.ensures.value in
    advanced_waiting f c.args.self.now c.args.to c.args.n c.advance.new.self c.self.view_is further_on

pub returns-clause-own_front : goal.returns-clause-own_front
returns-clause-own_front g c =
    let d = c.self.inside in
    let f = fields d.receivers d.wires in
    let further_on : c.advance.new.self ≡ further (at d.wires c.args.to) c.args.n =
    c.advance.ensures ∙ ap (λ (q : Queue). further q c.args.n) c.at_mut.ensures.value in
    advanced_front f c.args.self.now c.args.to c.args.to c.args.n c.advance.new.self c.self.view_is refl further_on

pub returns-clause-other_front : goal.returns-clause-other_front
returns-clause-other_front g c =
    let d = c.self.inside in
    let f = fields d.receivers d.wires in
    advanced_other f c.args.self.now c.args.to c.advance.new.self c.self.view_is
