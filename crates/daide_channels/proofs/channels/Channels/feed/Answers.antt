use Rattle.daide_channels.proofs.Common.{length, refl}
use Rattle.daide_channels.proofs.AwaitedLemmas.{seen_free}
use Rattle.daide_channels.proofs.FrontsKept.{fronts_side}
use Rattle.daide_channels.proofs.SidesLemmas.{fits_side, grown, keeps_side, looked_side, raised_ended, read_sound}
use Rattle.daide_channels.proofs.SidesLemmas.{same_if_read, told_of, waiting_side, held_side}
use Rattle.daide_channels.proofs.channels.Channels.feed.Goals as goal

pub feed-requires-clause-free : goal.feed-requires-clause-free
feed-requires-clause-free g c =
    let h = seen_free c.self.invariant c.self.view_is refl c.requires.free in
    rw c.at_mut.ensures.value h.free

pub feed-requires-clause-room : goal.feed-requires-clause-room
feed-requires-clause-room g c =
    let h = seen_free c.self.invariant c.self.view_is refl c.requires.free in
    rw c.at_mut.ensures.value (fits_side (length c.args.piece.now) h c.requires.room)

pub invariant_of-self : goal.invariant_of-self
invariant_of-self g c =
    let h = seen_free c.self.invariant c.self.view_is refl c.requires.free in
    let reads = rw c.at_mut.ensures.value at c.feed.ensures.reads in
    read_sound h reads

pub returns-clause-keeps : goal.returns-clause-keeps
returns-clause-keeps g c =
    let h = seen_free c.self.invariant c.self.view_is refl c.requires.free in
    let reads = rw c.at_mut.ensures.value at c.feed.ensures.reads in
    keeps_side c.feed.new.self c.self.inside.wires h.seen (same_if_read reads)

pub returns-clause-queued : goal.returns-clause-queued
returns-clause-queued g c =
    let h = seen_free c.self.invariant c.self.view_is refl c.requires.free in
    waiting_side c.feed.new.self h

pub returns-clause-fronts : goal.returns-clause-fronts
returns-clause-fronts g c =
    let h = seen_free c.self.invariant c.self.view_is refl c.requires.free in
    fronts_side c.feed.new.self h

pub returns-clause-grown : goal.returns-clause-grown
returns-clause-grown g c =
    let h = seen_free c.self.invariant c.self.view_is refl c.requires.free in
    let reads = rw c.at_mut.ensures.value at c.feed.ensures.reads in
    grown c.feed.new.self c.args.piece.now h reads

pub returns-clause-raised : goal.returns-clause-raised
returns-clause-raised g c =
    let h = seen_free c.self.invariant c.self.view_is refl c.requires.free in
    let raised = rw c.at_mut.ensures.value at c.feed.ensures.raised in
    raised_ended c.args.piece.now c.feed.new.self c.self.inside.wires h raised

pub returns-clause-looked_at : goal.returns-clause-looked_at
returns-clause-looked_at g c =
    let h = seen_free c.self.invariant c.self.view_is refl c.requires.free in
    let looked_at = rw c.at_mut.ensures.value at c.feed.ensures.looked_at in
    looked_side _ c.feed.new.self c.self.inside.wires h.seen looked_at

pub returns-clause-items : goal.returns-clause-items
returns-clause-items g c =
    let h = seen_free c.self.invariant c.self.view_is refl c.requires.free in
    let reads = rw c.at_mut.ensures.value at c.feed.ensures.reads in
    let items = rw c.at_mut.ensures.value at c.feed.ensures.items in
    let whole = rw c.at_mut.ensures.value at c.feed.ensures.whole in
    (told_of c.feed.new.self c.args.piece.now c.feed.result h reads (record { items = items; whole = whole })).items

pub returns-clause-whole : goal.returns-clause-whole
returns-clause-whole g c =
    let h = seen_free c.self.invariant c.self.view_is refl c.requires.free in
    let reads = rw c.at_mut.ensures.value at c.feed.ensures.reads in
    let items = rw c.at_mut.ensures.value at c.feed.ensures.items in
    let whole = rw c.at_mut.ensures.value at c.feed.ensures.whole in
    (told_of c.feed.new.self c.args.piece.now c.feed.result h reads (record { items = items; whole = whole })).whole

pub returns-clause-frame_bytes : goal.returns-clause-frame_bytes
returns-clause-frame_bytes g c =
    let h = seen_free c.self.invariant c.self.view_is refl c.requires.free in
    let reads = rw c.at_mut.ensures.value at c.feed.ensures.reads in
    held_side c.feed.result h reads c.feed.ensures.frame_bytes
