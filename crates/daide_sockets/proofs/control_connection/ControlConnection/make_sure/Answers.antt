use Rattle.std.proofs.Common.{◌≡◌, ℕ, Bool, true, false, List, Option, Some, None, refl, sym, ap, ◌∙◌}
use Rattle.std.specs.Option.{is_some}
use Rattle.std.specs.declared.time.Instant.{Instant}
use Rattle.daide_io.specs.Streams.{StreamCall}
use Rattle.daide_sockets.specs.Control.{WritesFirst, WritesOn}
use Rattle.daide_sockets.specs.ControlAnswer.{waits_by}
use Rattle.daide_sockets.specs.declared.control_connection.ControlConnection.{ControlConnection}
use Rattle.daide_sockets.specs.declared.control_connection.Stage.TheVariants.{Writes}
use Rattle.daide_sockets.specs.declared.control_request.RequestedStop.{RequestedStop}
use Rattle.daide_sockets.proofs.control_connection.ControlConnection.make_sure.Goals as goal

pub returns-in-Ended : goal.returns-in-Ended
returns-in-Ended g c = record {
  pull = _;
  heard = record c.args.self.now { stream = c.pull_from.new.stream; readiness = c.pull_from.new.readiness };
  pulled = c.in-Ended.ensures.asked;
  rest = refl;
  counts = (refl, refl);
}

pub returns-in-Got : goal.returns-in-Got
returns-in-Got g c = record {
  pull = _;
  heard = record c.args.self.now { stream = c.pull_from.new.stream; readiness = c.pull_from.new.readiness };
  pulled = c.in-Got.ensures.asked;
  rest = refl;
  counts = (refl, refl);
}

module _ {S : Type 0} (to_give taken : S → Option (List ℕ)) (calls : S → Option (List StreamCall)) (now : Option Instant)
    (answered : ControlConnection S) (is_open : Bool) (new : ControlConnection S) where
  -- the answer to a stop that waits is written at once
  first_now : (waits : Option RequestedStop) → is_some waits ≡ true → WritesOn to_give taken calls now answered 0 is_open new →
      WritesFirst to_give taken calls waits now answered is_open new
  first_now (Some order) on h = h
  first_now None on h = absurd (cc)

  -- any other is written with the next round
  first_later : (waits : Option RequestedStop) → is_some waits ≡ false →
      (is_open ≡ true) × (new ≡ record answered { stage = Writes 0 }) →
      WritesFirst to_give taken calls waits now answered is_open new
  first_later None off h = h
  first_later (Some order) off h = absurd (cc)

pub returns-then-is_some : goal.returns-then-is_some
returns-then-is_some g c =
    let heard = record c.args.self.now { stream = c.pull_from.new.stream; readiness = c.pull_from.new.readiness } in
    let answered = record heard { answer = c.answer_to.result } in
    let waits : is_some (waits_by c.answer_to.result) ≡ true =
    ap (λ (o : Option RequestedStop). is_some o) (sym c.waits.ensures) ∙ sym c.is_some.ensures ∙ c.if-is_some.true in
    record {
      pull = _;
      heard = heard;
      pulled = c.in-Idle.ensures.asked;
      rest = refl;
      counts = (
        answered,
        c.answer_to.ensures,
        refl,
        first_now _ _ _ c.args.now answered _ _ (waits_by c.answer_to.result) waits c.write_on.ensures,
      );
    }

pub returns-else-is_some : goal.returns-else-is_some
returns-else-is_some g c =
    let heard = record c.args.self.now { stream = c.pull_from.new.stream; readiness = c.pull_from.new.readiness } in
    let answered = record heard { answer = c.answer_to.result } in
    let waits : is_some (waits_by c.answer_to.result) ≡ false =
    ap (λ (o : Option RequestedStop). is_some o) (sym c.waits.ensures) ∙ sym c.is_some.ensures ∙ c.if-is_some.false in
    record {
      pull = _;
      heard = heard;
      pulled = c.in-Idle.ensures.asked;
      rest = refl;
      counts = (
        answered,
        c.answer_to.ensures,
        refl,
        first_later _ _ _ c.args.now answered _ _ (waits_by c.answer_to.result) waits (refl, refl),
      );
    }
