use Rattle.std.proofs.Common.{ℕ, ◌+◌, List, length, ap, arith, refl, inl, inr, ◌∙◌}
use Rattle.daide_sockets.specs.Rows.{AreRowsOf, taken_at}
use Rattle.daide_sockets.specs.Table.{Table, ForgetsPlaces}
use Rattle.daide_sockets.proofs.LingeringLemmas.{one_round_more}
use Rattle.daide_sockets.proofs.FinishingLemmas.{one_wait_more}
use Rattle.daide_sockets.proofs.FinishingLemmas.{waits_due, waits_hold}
use Rattle.daide_sockets.proofs.RowLemmas.{held_alike}
use Rattle.daide_sockets.proofs.lingering_close.Closings.finish.Goals as goal

pub loop-round-init : goal.loop-round-init
loop-round-init g c = record {
  rounds = refl;
  readings = refl;
  rows = λ held. held;
  none = ap (λ (t : Table). t.due) c.forget_places.ensures.same;
}

pub returns-then-is_empty-clause-rounds : goal.returns-then-is_empty-clause-rounds
returns-then-is_empty-clause-rounds g c = (
  c.loop-round._round + 1,
  one_round_more g.S.Duplex.to_give g.S.Duplex.taken g.S.Duplex.calls _ _ _ _ c.loop-round.invariant.rounds
      (_, c.advance.ensures.looks),
  inl (c.is_empty.ensures.none c.if-is_empty.true),
)

pub returns-then-is_empty-clause-readings : goal.returns-then-is_empty-clause-readings
returns-then-is_empty-clause-readings g c = record {
  rounds = c.loop-round._round;
  first = _;
  last = _;
  begins = (refl, ap (λ (t : Table). t.reading) c.forget_places.ensures.same, refl);
  made = c.loop-round.invariant.readings;
  ends = inl (c.advance.ensures.looks, c.is_empty.ensures.none c.if-is_empty.true);
}

pub returns-clause-rounds : goal.returns-clause-rounds
returns-clause-rounds g c =
    let past = c.loop-round-test.false in
    let few = c.loop-round.auto._round-end in
    (c.loop-round._round, c.loop-round.invariant.rounds, inr (omega (arith, past, few)))

pub returns-clause-readings : goal.returns-clause-readings
returns-clause-readings g c =
    let past = c.loop-round-test.false in
    let few = c.loop-round.auto._round-end in
    record {
      rounds = c.loop-round._round;
      first = _;
      last = _;
      begins = (refl, ap (λ (t : Table). t.reading) c.forget_places.ensures.same, refl);
      made = c.loop-round.invariant.readings;
      ends = inr (omega (arith, past, few), refl);
    }

forgets_hold : (old new : Table) (keys : List ℕ) → ForgetsPlaces old new → AreRowsOf old keys → AreRowsOf new keys
forgets_hold old new keys h =
    held_alike old new keys (λ key. ap (λ (t : Table). taken_at t key) h.same) (ap (λ (t : Table). length t.rows) h.same) h.places

pub returns-then-is_empty-clause-rows : goal.returns-then-is_empty-clause-rows
returns-then-is_empty-clause-rows g c = λ held.
    c.advance.ensures.rows.taken (c.loop-round.invariant.rows (forgets_hold _ _ _ c.forget_places.ensures held))

pub returns-clause-rows : goal.returns-clause-rows
returns-clause-rows g c = λ held. c.loop-round.invariant.rows (forgets_hold _ _ _ c.forget_places.ensures held)

pub loop-round-preserved : goal.loop-round-preserved
loop-round-preserved g c = record {
  rounds = one_round_more g.S.Duplex.to_give g.S.Duplex.taken g.S.Duplex.calls _ _ _ _ c.loop-round.invariant.rounds
      (_, c.advance.ensures.looks);
  readings = one_wait_more g.N.Network.transition g.S.Duplex.to_give g.S.Duplex.taken g.S.Duplex.calls _ _ _ _
      c.loop-round.invariant.readings
      (record {
        table = _;
        clock = c.advance.ensures.clock;
        none = ap (λ (t : Table). t.due) c.advance.ensures.rows.same ∙ c.loop-round.invariant.none;
        advances = c.advance.ensures.looks;
        waits = c.rest.ensures;
      });
  rows = λ held. waits_hold g.N.Network.transition _ _ _ _ _ c.rest.ensures _
      (c.advance.ensures.rows.taken (c.loop-round.invariant.rows held));
  none = waits_due g.N.Network.transition _ _ _ _ _ c.rest.ensures
      ∙ ap (λ (t : Table). t.due) c.advance.ensures.rows.same ∙ c.loop-round.invariant.none;
}
