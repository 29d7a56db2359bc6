use Rattle.std.proofs.Common.{refl}
use Rattle.daide_sockets.specs.declared.admission.NoBot.TheVariants.{NoneCame}
use Rattle.daide_sockets.proofs.system.SocketsSystemSocketPortsConnection.accept.Goals as goal

pub returns-then-not-is_due-clause-kept : goal.returns-then-not-is_due-clause-kept
returns-then-not-is_due-clause-kept g c = λ none. (
  NoneCame,
  refl,
  refl,
  λ off. refl,
  λ lt free few due. absurd (let known = c.is_due.ensures in let off = c.if-not-is_due.true in cc),
)

-- no accept is due
pub returns-then-not-is_due-clause-transition : goal.returns-then-not-is_due-clause-transition
returns-then-not-is_due-clause-transition g c = rw c.await_bots.ensures (λ held. (
  held,
  refl,
  (
    record { places = refl; bounded = c.is_bounded.ensures },
    λ other lt ne. record { reports = λ side. refl; deadline = refl },
  ),
  (
    (refl, refl),
    record {
      made = λ room due. absurd (let known = c.is_due.ensures in let off = c.if-not-is_due.true in cc);
      not_made = λ off. refl;
      awaited = refl;
    },
  ),
  refl,
  λ key le. refl,
  refl,
))
