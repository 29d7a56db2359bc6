use Rattle.std.proofs.Common.{◌≡◌, ◌<◌, Bool, true, false, inl, inr, refl, rules, arith}
use Rattle.daide_sockets.proofs.AcceptLemmas.{accepts_one, brings_bot, brings_none, brings_declined, brings_refused}
use Rattle.daide_sockets.proofs.AcceptLemmas.{listened, listened_followed}
use Rattle.daide_sockets.proofs.KeptRowLemmas.{changes_none}
use Rattle.daide_sockets.proofs.admission.Acceptor.next_bot.Goals as goal

pub returns-in_default-accept-clause-once : goal.returns-in_default-accept-clause-once
returns-in_default-accept-clause-once g c = λ due few.
    accepts_one g.N.Network.transition c.args.self.now.descriptors _ _ _ _ (c.in_default-accept.ensures.once due) refl

pub returns-then-not-may_come-clause-once : goal.returns-then-not-may_come-clause-once
returns-then-not-may_come-clause-once g c = λ due few.
    accepts_one g.N.Network.transition c.args.self.now.descriptors _ _ _ _ (c.in-Some-accept.ensures.once due) (inl refl)

pub returns-in_default-new-clause-once : goal.returns-in_default-new-clause-once
returns-in_default-new-clause-once g c = λ due few.
    accepts_one g.N.Network.transition c.args.self.now.descriptors _ _ _ _ (c.in-Some-accept.ensures.once due)
    (inr (c.args.key, false, c.in_default-new.ensures.refused.0, c.in_default-new.ensures.refused.1))

pub returns-then-not-add-clause-once : goal.returns-then-not-add-clause-once
returns-then-not-add-clause-once g c = λ due few.
    accepts_one g.N.Network.transition c.args.self.now.descriptors _ _ _ _ (c.in-Some-accept.ensures.once due)
    (inr (c.args.key, true, _, rw c.in-Some-new.is at c.new.ensures.followed))

pub returns-clause-once : goal.returns-clause-once
returns-clause-once g c = λ due few.
    accepts_one g.N.Network.transition c.args.self.now.descriptors _ _ _ _ (c.in-Some-accept.ensures.once due)
    (inr (c.args.key, true, _, rw c.in-Some-new.is at c.new.ensures.followed))

pub returns-clause-accepted : goal.returns-clause-accepted
returns-clause-accepted g c =
    brings_bot g.N.Network.transition c.args.self.now.descriptors c.in-Some-accept.stream c.in-Some-accept.address c.args.key _ _ _ _
    (c.in-Some-accept.ensures.once c.in-Some-accept.ensures.due) (rw c.in-Some-new.is at c.new.ensures.followed)

pub returns-in_default-accept-clause-kept : goal.returns-in_default-accept-clause-kept
returns-in_default-accept-clause-kept g c = λ few due places.
    brings_none g.N.Network.transition c.args.self.now.descriptors _ _ _ (c.in_default-accept.ensures.once due)

pub returns-then-not-may_come-clause-kept : goal.returns-then-not-may_come-clause-kept
returns-then-not-may_come-clause-kept g c = λ few due places.
    brings_declined g.N.Network.transition c.args.self.now.descriptors _ _ _ (c.in-Some-accept.stream, c.in-Some-accept.address)
    (c.in-Some-accept.ensures.once due) (search rules)

pub returns-in_default-new-clause-kept : goal.returns-in_default-new-clause-kept
returns-in_default-new-clause-kept g c = λ few due places.
    brings_refused g.N.Network.transition c.args.self.now.descriptors _ _ _ (c.in-Some-accept.stream, c.in-Some-accept.address) _ c.args.key
    c.in_default-new.ensures.refused.0 (c.in-Some-accept.ensures.once due) c.in_default-new.ensures.refused.1

-- nothing is both
never : {A : Type 0} (due : Bool) → due ≡ true → due ≡ false → A
never true e f = absurd (cc)
never false e f = absurd (cc)

pub returns-then-not-add-clause-kept : goal.returns-then-not-add-clause-kept
returns-then-not-add-clause-kept g c = λ few due places. never _ (c.add.ensures.room places) c.if-not-add.true

pub returns-in_default-accept-clause-not_made : goal.returns-in_default-accept-clause-not_made
returns-in_default-accept-clause-not_made g c = λ none.
    let few : c.args.self.now.came < 4294967295 = omega (arith, c.in-Some.ensures.0) in
    (c.accept.ensures.not_made (none few)).1

pub returns-then-not-may_come-clause-not_made : goal.returns-then-not-may_come-clause-not_made
returns-then-not-may_come-clause-not_made g c = λ none.
    let few : c.args.self.now.came < 4294967295 = omega (arith, c.in-Some.ensures.0) in
    never _ c.in-Some-accept.ensures.due (none few)

pub returns-in_default-new-clause-not_made : goal.returns-in_default-new-clause-not_made
returns-in_default-new-clause-not_made g c = λ none.
    let few : c.args.self.now.came < 4294967295 = omega (arith, c.in-Some.ensures.0) in
    never _ c.in-Some-accept.ensures.due (none few)

pub returns-then-not-add-clause-not_made : goal.returns-then-not-add-clause-not_made
returns-then-not-add-clause-not_made g c = λ none.
    let few : c.args.self.now.came < 4294967295 = omega (arith, c.in-Some.ensures.0) in
    never _ c.in-Some-accept.ensures.due (none few)

pub returns-clause-not_made : goal.returns-clause-not_made
returns-clause-not_made g c = λ none.
    let few : c.args.self.now.came < 4294967295 = omega (arith, c.in-Some.ensures.0) in
    never _ c.in-Some-accept.ensures.due (none few)

pub returns-clause-due : goal.returns-clause-due
returns-clause-due g c =
    let few : c.args.self.now.came < 4294967295 = omega (arith, c.in-Some.ensures.0) in
    (few, c.in-Some-accept.ensures.due)

pub returns-in_default-clause-table : goal.returns-in_default-clause-table
returns-in_default-clause-table g c = changes_none _ _ _ refl

pub returns-in_default-accept-clause-table : goal.returns-in_default-accept-clause-table
returns-in_default-accept-clause-table g c = listened _ _ c.args.key c.accept.ensures.table

pub returns-then-not-may_come-clause-table : goal.returns-then-not-may_come-clause-table
returns-then-not-may_come-clause-table g c = listened _ _ c.args.key c.accept.ensures.table

pub returns-in_default-new-clause-table : goal.returns-in_default-new-clause-table
returns-in_default-new-clause-table g c = listened_followed _ _ _ c.args.key c.accept.ensures.table c.new.ensures.table

pub returns-then-not-add-clause-table : goal.returns-then-not-add-clause-table
returns-then-not-add-clause-table g c = listened_followed _ _ _ c.args.key c.accept.ensures.table c.new.ensures.table

pub returns-clause-table : goal.returns-clause-table
returns-clause-table g c = listened_followed _ _ _ c.args.key c.accept.ensures.table c.new.ensures.table
