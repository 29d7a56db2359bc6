use Rattle.daide_channels.proofs.Common.{[], refl, ap, drop, rules, ghosts, extended_look_ups, Receiver, words_in}
use Rattle.daide_channels.proofs.ReceiverLemmas.{begins_of, fresh_on}
use Rattle.daide_channels.proofs.receiver.Receiver.clear.Goals as goal

-- The prover searches for the reader's new state. So a body that leaves the reader unchanged is refused by its meaning,
-- and not by a name.
pub invariant_of-self : goal.invariant_of-self
invariant_of-self g c =
    let i = c.self.inside in
    fresh_on ghosts extended_look_ups i.side i.level _ i.reader _ _ i.header _ c.self.invariant.four
    (rw c.reset.ensures.cap c.self.invariant.capped) (ap (drop 4) c.reset.ensures.empty) tt (search rules)
    (search rules) (search rules) (search rules) (search rules)

pub returns : goal.returns
returns g c =
    let i = c.self.inside in
    let e = c.start.ensures in
    begins_of words_in extended_look_ups i.side i.level i.level c.args.self.now.level i.cutter c.reset.new.self i.reader
    c.start.new.self i.hlo c.start-2.new.self i.header i.verdict _ [] c.args.self.now c.self.view_is
    (ap (λ (v : Receiver). v.level) c.self.view_is) c.reset.ensures.cap c.reset.ensures.empty refl
    e.stands_after.depth_kept e.table e.base c.start-2.ensures.looked_at
