use Rattle.daide_explain.proofs.Common.{◌≡◌, false, true, refl}
use Rattle.daide_explain.proofs.Relayed.{relay_is, is_relay}
use Rattle.daide_explain.proofs.expected.is_relayed.Goals as goal

pub returns-in-Relay : goal.returns-in-Relay
returns-in-Relay c = (λ _. relay_is _ _ _ _ c.verdict_of.ensures.verdict c.in-Relay.is, λ _. refl)

pub returns-in_default : goal.returns-in_default
returns-in_default c = (
  λ f. let no : false ≡ true = f in absurd cc,
  λ h. absurd (c.in_default.not-Relay
      (is_relay _ _ _ _ (c.laws_hold_over.ensures.paired c.args.rules.now.end c.args.rules.now.level _ h.is_message) c.verdict_of.ensures.verdict h)),
)
