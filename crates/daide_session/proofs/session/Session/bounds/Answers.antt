use Rattle.daide_session.proofs.Common.{ℕ, ◌≤◌, subst, arith, Bot, Server, Side, holding, steps_of, steps_bound}
use Rattle.daide_protocol.specs.Weight.{weight_bound}
use Rattle.daide_frame.proofs.PerSideLemmas.{on_both}
use Rattle.daide_session.proofs.session.Session.bounds.Goals as goal

pub returns : goal.returns
returns g c =
    let now = c.args.self.now in
    let three = c.weight.ensures.at_most_three in
    record {
      each_direction = c.weight.ensures.directions;
      further = omega (arith, three.0, three.1);
      weight = subst (λ (n : ℕ). n ≤ weight_bound now) c.weight.ensures.value c.weight.ensures.weight;
      steps = on_both (λ (side : Side). steps_of (holding now side) ≤ steps_bound now side)
          (subst (λ (n : ℕ). n ≤ steps_bound now Bot) c.steps.ensures.value c.steps.ensures.steps)
          (subst (λ (n : ℕ). n ≤ steps_bound now Server) c.steps-2.ensures.value c.steps-2.ensures.steps);
    }
