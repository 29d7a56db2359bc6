use Rattle.daide_channels.proofs.Common.{refl}
use Rattle.daide_channels.proofs.AwaitedLemmas.{seen_free}
use Rattle.daide_channels.proofs.FrontsKept.{fronts_side}
use Rattle.daide_channels.proofs.SidesLemmas.{begun_sound, cleared, keeps_side, same_if_begun, waiting_side}
use Rattle.daide_channels.proofs.channels.Channels.clear.Goals as goal

pub invariant_of-self : goal.invariant_of-self
invariant_of-self g c =
    let h = seen_free c.self.invariant c.self.view_is refl c.requires.free in
    let begins = rw c.at_mut.ensures.value at c.clear.ensures in
    begun_sound h begins

pub returns-clause-keeps : goal.returns-clause-keeps
returns-clause-keeps g c =
    let h = seen_free c.self.invariant c.self.view_is refl c.requires.free in
    let begins = rw c.at_mut.ensures.value at c.clear.ensures in
    keeps_side c.clear.new.self c.self.inside.wires h.seen (same_if_begun begins)

pub returns-clause-queued : goal.returns-clause-queued
returns-clause-queued g c =
    let h = seen_free c.self.invariant c.self.view_is refl c.requires.free in
    waiting_side c.clear.new.self h

pub returns-clause-fronts : goal.returns-clause-fronts
returns-clause-fronts g c =
    let h = seen_free c.self.invariant c.self.view_is refl c.requires.free in
    fronts_side c.clear.new.self h

pub returns-clause-cleared : goal.returns-clause-cleared
returns-clause-cleared g c =
    let h = seen_free c.self.invariant c.self.view_is refl c.requires.free in
    let begins = rw c.at_mut.ensures.value at c.clear.ensures in
    cleared h.seen begins
