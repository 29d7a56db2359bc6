use Rattle.std.proofs.Common.{◌≡◌, Result, Err, refl, ap}
use Rattle.daide_sockets.specs.declared.admission.NoBot.{NoBot}
use Rattle.daide_sockets.specs.declared.admission.NoBot.TheVariants.{NoneCame}
use Rattle.daide_sockets.specs.declared.session_notice.SessionNotice.{SessionNotice}
use Rattle.daide_sockets.proofs.KeptRowLemmas.{accept_beside, accept_holds, accept_others, same_deadlines}
use Rattle.daide_sockets.proofs.PairingLemmas.{same_sockets}
use Rattle.std.proofs.Common.{length}
use Rattle.daide_sockets.proofs.system.Sockets.accept_due.Goals as goal

failed_is : (result : Result SessionNotice NoBot) (one other : NoBot) → result ≡ Err one → result ≡ Err other → one ≡ other
failed_is result one other e h = cc

pub returns-in-Err-clause-transition : goal.returns-in-Err-clause-transition
returns-in-Err-clause-transition g c =
    let asked = c.accept_next.ensures in
    let none = c.in-Err.ensures.none in
    rw (c.note_no_bot.ensures.same, asked.same) (λ held. (
      accept_holds _ _ c.args.place _ asked.table held,
      same_sockets _ _ _ _ _ none.0 none.1,
      (
        record {
          places = ap length (same_deadlines _ _ _ asked.table);
          bounded = rw c.note_no_bot.ensures.same at c.is_bounded.ensures;
        },
        accept_others _ _ c.args.place asked.table,
      ),
      (
        (refl, refl),
        record {
          made = λ room due. (c.args.self.now.servers.now, asked.made room.0 room.1 room.2 due);
          not_made = λ none. asked.not_made (λ lt free few. none (lt, free, few));
          awaited = asked.awaited;
        },
      ),
      refl,
      accept_beside _ _ c.args.place asked.table,
      refl,
    ))

pub returns-clause-admitted : goal.returns-clause-admitted
returns-clause-admitted g c = λ _.
    let asked = c.accept_next.ensures in
    let admitted = c.in-Ok.ensures.admitted in
    let logged = rw (asked.same, admitted.1) at c.log_session.ensures.logged in
    rw c.log_session.ensures.same (admitted.0, admitted.2, logged)

pub returns-in-Err-clause-kept : goal.returns-in-Err-clause-kept
returns-in-Err-clause-kept g c = λ none.
    let asked = c.accept_next.ensures in
    let why = c.in-Err.why in
    rw c.note_no_bot.ensures.same (
      why,
      rw asked.same at c.note_no_bot.ensures.logged,
      rw asked.same at c.note_no_bot.ensures.counted,
      λ off. failed_is c.accept_next.result why NoneCame c.in-Err.is (asked.none_due off),
      c.in-Err.ensures.kept,
    )

pub returns-clause-transition : goal.returns-clause-transition
returns-clause-transition g c =
    let asked = c.accept_next.ensures in
    rw (c.log_session.ensures.same, asked.same) (λ held. (
      accept_holds _ _ c.args.place _ asked.table held,
      rw asked.same at c.in-Ok.ensures.comes,
      (
        record {
          places = ap length (same_deadlines _ _ _ asked.table);
          bounded = rw c.log_session.ensures.same at c.is_bounded-2.ensures;
        },
        accept_others _ _ c.args.place asked.table,
      ),
      (
        (refl, refl),
        record {
          made = λ room due. (c.args.self.now.servers.now, asked.made room.0 room.1 room.2 due);
          not_made = λ none. asked.not_made (λ lt free few. none (lt, free, few));
          awaited = asked.awaited;
        },
      ),
      refl,
      accept_beside _ _ c.args.place asked.table,
      refl,
    ))
