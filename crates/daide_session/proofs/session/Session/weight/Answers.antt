use Rattle.daide_session.proofs.Common.{◌+◌, ◌≤◌, length, ap, ◌∙◌, subst, arith, SessionView}
use Rattle.daide_protocol.specs.Weight.{weight_of, weight_bound, IsTied}
use Rattle.daide_session.proofs.WeightLemmas.{IsLight, light, weight_is, weight_few, tied_by}
use Rattle.daide_session.proofs.session.Session.weight.Given.{Over}
use Rattle.daide_session.proofs.session.Session.weight.Goals.{After-entries, After-entries-2}
use Rattle.daide_session.proofs.session.Session.weight.Goals as goal

bot : (g : Over) (c : After-entries g) →
    IsLight c.self.inside.channels.cap c.self.inside.channels.sides.bot.holding.frame_bytes (length c.body.result.now)
    c.entries.result
bot g c =
    let t = c.self.inside.channels in
    light t.cap t.sides.bot.holding.frame_bytes c.body.result.now c.entries.result c.body.ensures.value c.body.ensures.within
    c.body.ensures.capped c.body.ensures.short c.entries.ensures.few

server : (g : Over) (c : After-entries-2 g) →
    IsLight c.self.inside.channels.cap c.self.inside.channels.sides.server.holding.frame_bytes (length c.body-2.result.now)
    c.entries-2.result
server g c =
    let t = c.self.inside.channels in
    light t.cap t.sides.server.holding.frame_bytes c.body-2.result.now c.entries-2.result c.body-2.ensures.value
    c.body-2.ensures.within c.body-2.ensures.capped c.body-2.ensures.short c.entries-2.ensures.few

pub overflow_add-bot : goal.overflow_add-bot
overflow_add-bot g c =
    let small = (bot g (goal.at.overflow_add-bot g c).After-entries).small in
    omega (arith, small)

pub overflow_add-server : goal.overflow_add-server
overflow_add-server g c =
    let small = (server g (goal.at.overflow_add-server g c).After-entries-2).small in
    omega (arith, small)

pub overflow_add-result : goal.overflow_add-result
overflow_add-result g c =
    let a = (bot g (goal.at.overflow_add-result g c).After-entries).small in
    let b = (server g (goal.at.overflow_add-result g c).After-entries-2).small in
    omega (arith, a, b)

pub overflow_add-result-3 : goal.overflow_add-result-3
overflow_add-result-3 g c =
    let a = (bot g (goal.at.overflow_add-result-3 g c).After-entries).small in
    let b = (server g (goal.at.overflow_add-result-3 g c).After-entries-2).small in
    omega (arith, a, b, c.count.ensures.at_most_three, c.count-2.ensures.at_most_three)

pub returns-clause-value : goal.returns-clause-value
returns-clause-value g c =
    weight_is c.self.inside.channels c.self.inside.protocol c.body.result.now c.body-2.result.now c.entries.result
    c.entries-2.result c.count.result c.count-2.result c.body.ensures.value c.entries.ensures.value
    c.body-2.ensures.value c.entries-2.ensures.value c.count.ensures.value c.count-2.ensures.value
    ∙ ap weight_of c.self.view_is

pub returns-clause-weight : goal.returns-clause-weight
returns-clause-weight g c =
    let a = bot g (goal.at.returns-clause-weight g c).After-entries in
    let b = server g (goal.at.returns-clause-weight g c).After-entries-2 in
    subst (λ (v : SessionView). length c.body.result.now + c.entries.result
    + (length c.body-2.result.now + c.entries-2.result) + (c.count.result + c.count-2.result) ≤ weight_bound v)
    c.self.view_is
    (weight_few c.self.inside.channels c.self.inside.protocol (length c.body.result.now) c.entries.result
    (length c.body-2.result.now) c.entries-2.result c.count.result c.count-2.result a.within b.within
    c.count.ensures.at_most_three c.count-2.ensures.at_most_three)

pub returns-clause-tied : goal.returns-clause-tied
returns-clause-tied g c = subst IsTied c.self.view_is
    (tied_by c.self.inside.channels c.self.inside.protocol c.body.ensures.tied c.body-2.ensures.tied)
