use Rattle.std.proofs.Common.{◌+◌, List, drop, sym, ap, ◌∙◌}
use Rattle.daide_sockets.specs.PollTimes.{closings_armed}
use Rattle.daide_sockets.specs.Table.{arming_all}
use Rattle.daide_sockets.specs.Lingering.{ClosingStream}
use Rattle.daide_sockets.specs.Table.{Table}
use Rattle.std.proofs.lemmas.List.{drop_all}
use Rattle.daide_sockets.proofs.BesideLemmas.{next_closing}
use Rattle.daide_sockets.proofs.lingering_close.ClosingSockets.arm.Goals as goal

pub loop-closing-preserved : goal.loop-closing-preserved
loop-closing-preserved g c =
    let items = c.deref-closing-items.result.now in
    record {
      armed = ap (λ (t : Table). arming_all t
          (closings_armed c.args.table.now (drop (c.loop-closing.closing-index + 1) items))) c.arm.ensures
          ∙ sym (next_closing c.args.table.now c.loop-closing.table items c.loop-closing.closing-index
          c.closing-item.result c.loop-closing-test.true c.closing-item.is c.loop-closing.invariant.rows)
          ∙ c.loop-closing.invariant.armed;
      rows = ap (λ (t : Table). t.rows) c.arm.ensures ∙ c.loop-closing.invariant.rows;
    }

pub returns : goal.returns
returns g c =
    let items = c.deref-closing-items.result.now in
    sym (ap (λ (rest : List (ClosingStream g.row.S.Denot)). arming_all c.loop-closing.table (closings_armed c.args.table.now rest))
    (drop_all c.loop-closing.closing-index items c.loop-closing-test.false))
    ∙ c.loop-closing.invariant.armed
    ∙ ap (λ (all : List (ClosingStream g.row.S.Denot)). arming_all c.args.table.now (closings_armed c.args.table.now all))
    (c.deref-closing-items.ensures.value ∙ c.self.view_is)
