use Rattle.std.proofs.Common.{Option, ℕ, refl, ap, ◌∙◌}
use Rattle.std.specs.declared.time.Instant.{Instant}
use Rattle.daide_protocol.specs.Account.{nothing_accounted}
use Rattle.daide_sockets.specs.Lines.{milliseconds_between}
use Rattle.daide_sockets.specs.Table.{Table}
use Rattle.daide_sockets.specs.declared.session_notice.SessionNotice.TheVariants.{Ended}
use Rattle.daide_sockets.proofs.NetworkCallLemmas.{follows}
use Rattle.daide_sockets.specs.Wakeups.{is_of_connect}
use Rattle.daide_sockets.proofs.system.Sockets.let_go.Goals as goal

pub returns-clause-calls : goal.returns-clause-calls
returns-clause-calls g c =
    follows g.N.Network.transition is_of_connect (λ before key is_followed after. refl) _ _ _
    (rw c.log_session.ensures.same at c.begin.ensures.calls)

pub returns-clause-closes : goal.returns-clause-closes
returns-clause-closes g c = rw (c.log_session.ensures.same, c.forget.ensures) at c.begin.ensures.closes

pub returns-clause-rows : goal.returns-clause-rows
returns-clause-rows g c = rw (c.log_session.ensures.same, c.forget.ensures) at c.begin.ensures.rows

pub returns-clause-logged : goal.returns-clause-logged
returns-clause-logged g c =
    let bot = c.args.left.identity in
    let now = c.now.ensures ∙ ap (λ (t : Table). t.reading) c.forget.ensures in
    let lasted = c.between-lasted.ensures ∙ ap (λ (now : Option Instant). milliseconds_between bot.since now) now in
    let notice =
    ap (λ (time : Option ℕ). Ended bot.number (record { milliseconds = time }) c.args.why nothing_accounted) lasted in
    rw (c.new.ensures, notice) at c.log_session.ensures.logged
