use Rattle.daide_channels.proofs.Common.{[], refl, ap, ◌∙◌, drop, subst, rules, Side2, start_symbol_of, HasReadPrefix}
use Rattle.daide_channels.proofs.Common.{ghosts, extended_look_ups, spoken_words, Receiver, StartsFrame, words_in}
use Rattle.daide_channels.proofs.ReceiverLemmas.{begins_of, fresh_on}
use Rattle.daide_channels.proofs.receiver.Receiver.begin.Goals as goal

pub returns-then-eq : goal.returns-then-eq
returns-then-eq g c =
    let i = c.self.inside in
    let none = ap (λ (v : Receiver). v.verdict) c.self.view_is ∙ c.requires.free in
    let bare = ap (λ (v : Receiver). drop 4 v.frame_bytes) c.self.view_is ∙ c.requires.bodiless in
    subst (λ (v : Receiver). StartsFrame c.args.self.now c.args.level c.args.self.now.frame_bytes v) c.self.view_is
    (begins_of words_in extended_look_ups i.side i.level i.level c.args.level i.cutter i.cutter i.reader i.reader i.hlo
    i.hlo i.header i.verdict i.verdict c.args.self.now.frame_bytes c.args.self.now c.self.view_is (search rules) refl
    (ap (λ (v : Receiver). v.frame_bytes) c.self.view_is) none refl refl (c.self.invariant.unasked none bare) refl)

pub invariant_of-self : goal.invariant_of-self
invariant_of-self g c =
    let i = c.self.inside in
    let e = c.start.ensures in
    fresh_on ghosts extended_look_ups i.side c.args.level i.cutter i.reader c.start.new.self c.start-2.new.self i.header
    i.verdict c.self.invariant.four c.self.invariant.capped
    (ap (λ (v : Receiver). drop 4 v.frame_bytes) c.self.view_is ∙ c.requires.bodiless) c.self.invariant.place e.table e.base
    e.unfinished
    (subst (λ (s : Side2). HasReadPrefix ghosts (spoken_words i.reader.table) (start_symbol_of s c.args.level)
    i.reader.max_depth c.start.new.self []) c.side2_of.ensures e.stands_after) c.start-2.ensures.found

pub returns : goal.returns
returns g c =
    let i = c.self.inside in
    let e = c.start.ensures in
    begins_of words_in extended_look_ups i.side i.level c.args.level c.args.level i.cutter i.cutter i.reader c.start.new.self
    i.hlo c.start-2.new.self i.header i.verdict i.verdict c.args.self.now.frame_bytes c.args.self.now c.self.view_is refl refl
    (ap (λ (v : Receiver). v.frame_bytes) c.self.view_is)
    (ap (λ (v : Receiver). v.verdict) c.self.view_is ∙ c.requires.free) e.stands_after.depth_kept e.table e.base
    c.start-2.ensures.looked_at
