use Rattle.std.proofs.Common.{refl, ◌∙◌, arith}
use Rattle.daide_sockets.proofs.LingeringLemmas.{none_looked_at, next_inside, next_looked}
use Rattle.daide_sockets.proofs.RowLemmas.{keeps_none, keeps_both}
use Rattle.daide_sockets.proofs.lingering_close.ClosingSockets.look_along.Goals as goal

pub loop-place-init : goal.loop-place-init
loop-place-init g c =
    let order = c.requires.order in
    let there = c.requires.there in
    record {
      looked = none_looked_at g.S.Duplex.to_give g.S.Duplex.taken g.S.Duplex.calls c.args.now c.args.from _
          (omega (arith, order, there));
      clock = refl;
      rows = keeps_none _ _;
    }

pub look_at-at-requires : goal.look_at-at-requires
look_at-at-requires g c =
    next_inside g.S.Duplex.to_give g.S.Duplex.taken g.S.Duplex.calls c.args.now c.args.from c.args.to _ _ _ _
    c.loop-place.invariant.looked c.loop-place-test.true c.requires.there

pub loop-place-preserved : goal.loop-place-preserved
loop-place-preserved g c = record {
  looked = next_looked g.S.Duplex.to_give g.S.Duplex.taken g.S.Duplex.calls c.args.now c.args.from _ _ _ _ _ _
      c.loop-place.invariant.looked c.look_at-at.ensures.looks;
  clock = c.look_at-at.ensures.clock ∙ c.loop-place.invariant.clock;
  rows = keeps_both _ _ _ _ _ _ c.loop-place.invariant.rows c.look_at-at.ensures.rows;
}
