use Rattle.std.proofs.Common.{◌≡◌, ℕ, Option, refl, ap}
use Rattle.daide_sockets.specs.declared.session_notice.Lasted.{Lasted}
use Rattle.daide_sockets.proofs.KeptRowLemmas.{retire_beside, retire_holds, retire_others, retire_places}
use Rattle.daide_sockets.proofs.NetworkCallLemmas.{both, follows}
use Rattle.daide_sockets.specs.Wakeups.{is_follow}
use Rattle.daide_sockets.proofs.system.SocketsSystemSocketPortsConnection.retire.Goals as goal

pub returns-clause-transition : goal.returns-clause-transition
returns-clause-transition g c =
    let closes = rw (c.forget.ensures, c.log_session.ensures.same) at c.begin_both.ensures.closes in
    let rows = rw (c.forget.ensures, c.log_session.ensures.same) at c.begin_both.ensures.rows in
    let calls = rw c.log_session.ensures.same at c.begin_both.ensures.calls in
    rw c.log_session.ensures.same (λ held. (
      retire_holds _ _ c.args.place _ _ rows held,
      ((closes.0, (_, closes.1), (_, closes.2)), refl, refl),
      (
        record { places = retire_places _ _ c.args.place _ _ rows held; bounded = c.is_bounded.ensures },
        (
          both g.N.Network.transition is_follow _ _ _
              (follows g.N.Network.transition is_follow (λ before key is_followed after. refl) _ _ _ calls.1)
              (follows g.N.Network.transition is_follow (λ before key is_followed after. refl) _ _ _ calls.2),
          retire_others _ _ c.args.place _ _ rows held,
        ),
      ),
      ((refl, refl), refl),
      closes,
      λ lt. retire_beside _ _ c.args.place _ _ rows held lt,
      refl,
    ))

-- the time of its session, and why it is over
lasted_is : (found : Lasted) (time : Option ℕ) → found.milliseconds ≡ time → found ≡ record { milliseconds = time }
lasted_is found time e = ap (λ (m : Option ℕ). record { milliseconds = m }) e

pub returns-clause-logged : goal.returns-clause-logged
returns-clause-logged g c =
    let lasted = lasted_is c.between-lasted.result _ c.between-lasted.ensures in
    rw (
      lasted,
      c.why_of-why.ensures,
      c.new-timed.ensures,
      c.stop_cause-stop.ensures,
      c.at.ensures,
      c.at-2.ensures,
      c.sockets-sockets.ensures,
      c.now.ensures,
      c.identity-number.ensures,
    ) at c.log_session.ensures.logged
