use Rattle.std.proofs.Common.{ℕ, Bool, Option, ◌∙◌, ap, subst}
use Rattle.daide_driver.specs.declared.meter.Meter.{Meter}
use Rattle.daide_driver.specs.declared.meter.Moved.{Moved}
use Rattle.daide_driver.specs.Meter.{with_turn_begun, is_stopped_by, moved_by, StopsIf}
use Rattle.daide_driver.proofs.slot.SessionSlot.turn.Goals as goal

abbrev own : Option ℕ → Moved → Meter
own left moved = record { turns_left = left; moved = moved }

pub returns : goal.returns
returns g c =
    let exchange = c.turn_through.ensures.exchange in
    let old = c.args.self.now.meter in
    let begun = c.begin_turn-is_spent.new.self in
    let counts = c.begin_turn-is_spent.ensures.counts ∙ ap (λ (over : Bool). with_turn_begun over old) c.is_over.ensures in
    record {
      turned = record {
        exchange = record { call = exchange.call; session = exchange.session.0.0; ports = exchange.ports };
        asked = c.turn_through.ensures.asked;
        weight = c.turn_through.ensures.weight;
        limits = c.turn_through.ensures.limits;
      };
      meter = ap (λ (moved : Moved). own begun.turns_left moved) exchange.session.0.1
          ∙ ap (λ (meter : Meter). own meter.turns_left (moved_by exchange.call meter.moved)) counts;
      stops = subst (λ (spent : Bool). StopsIf spent exchange.call)
          (c.begin_turn-is_spent.ensures.stops ∙ ap (λ (over : Bool). is_stopped_by over old) c.is_over.ensures)
          exchange.session.1;
    }
