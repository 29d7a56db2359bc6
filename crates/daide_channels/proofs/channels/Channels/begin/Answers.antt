use Rattle.daide_channels.proofs.Common.{ap, drop, refl, sym, ◌∙◌}
use Rattle.daide_channels.proofs.AwaitedLemmas.{seen_free}
use Rattle.daide_channels.proofs.FrontsKept.{fronts_side}
use Rattle.daide_channels.proofs.SidesLemmas.{begun_sound, keeps_side, same_if_begun, started, waiting_side}
use Rattle.daide_channels.proofs.channels.Channels.begin.Goals as goal

pub begin-requires-clause-free : goal.begin-requires-clause-free
begin-requires-clause-free g c =
    let h = seen_free c.self.invariant c.self.view_is refl c.requires.free in
    rw c.at_mut.ensures.value h.free

pub begin-requires-clause-bodiless : goal.begin-requires-clause-bodiless
begin-requires-clause-bodiless g c =
    let h = seen_free c.self.invariant c.self.view_is refl c.requires.free in
    rw c.at_mut.ensures.value (sym (ap (drop 4) h.pending) ∙ c.requires.bodiless)

pub invariant_of-self : goal.invariant_of-self
invariant_of-self g c =
    let h = seen_free c.self.invariant c.self.view_is refl c.requires.free in
    let begins = rw c.at_mut.ensures.value at c.begin.ensures in
    begun_sound h begins

pub returns-clause-keeps : goal.returns-clause-keeps
returns-clause-keeps g c =
    let h = seen_free c.self.invariant c.self.view_is refl c.requires.free in
    let begins = rw c.at_mut.ensures.value at c.begin.ensures in
    keeps_side c.begin.new.self c.self.inside.wires h.seen (same_if_begun begins)

pub returns-clause-queued : goal.returns-clause-queued
returns-clause-queued g c =
    let h = seen_free c.self.invariant c.self.view_is refl c.requires.free in
    waiting_side c.begin.new.self h

pub returns-clause-fronts : goal.returns-clause-fronts
returns-clause-fronts g c =
    let h = seen_free c.self.invariant c.self.view_is refl c.requires.free in
    fronts_side c.begin.new.self h

pub returns-clause-started : goal.returns-clause-started
returns-clause-started g c =
    let h = seen_free c.self.invariant c.self.view_is refl c.requires.free in
    let begins = rw c.at_mut.ensures.value at c.begin.ensures in
    started h begins
