use Rattle.std.proofs.Common.{ℕ, sym, subst}
use Rattle.daide_protocol.specs.Machine.{Limits}
use Rattle.daide_driver.specs.Totals.{HasTotals}
use Rattle.daide_event_loop.specs.Served.{run_limits, IsEndOf}
use Rattle.daide_event_loop.proofs.IndependenceLemmas.{alike, end_alike}
use Rattle.daide_event_loop.proofs.laws.sessions_are_independent.Goals as goal

pub returns : goal.returns
returns g c = λ settings other_settings trace other_trace now other_now session other_session rules same.
    let limits = run_limits settings in
    let other_totals : HasTotals limits other_session.history other_now.session =
    subst (λ (l : Limits). HasTotals l other_session.history other_now.session) (sym rules.limits) other_session.stands.1 in
    let both = alike limits session.history other_session.history same now.session other_now.session session.stands.1 other_totals in (
      both,
      λ end other_end h k.
          let other_is : IsEndOf limits settings.turns other_session.history other_now.session other_end =
          subst (λ (l : Limits). IsEndOf l settings.turns other_session.history other_now.session other_end) (sym rules.limits)
          (subst (λ (n : ℕ). IsEndOf (run_limits other_settings) n other_session.history other_now.session other_end)
          (sym rules.turns) k) in
          end_alike limits session.history other_session.history same settings.turns now.session other_now.session end other_end both.counts
          h other_is,
    )
