use Rattle.std.proofs.Common.{sym, ◌∙◌, add-one}
use Rattle.daide_event_loop.proofs.ServingLemmas.{shown, show_none}
use Rattle.daide_event_loop.proofs.serving.show_sessions.Goals as goal
use Rattle.daide_event_loop.proofs.serving.show_sessions.Goals.{then-has, else-has}

pub loop-place-preserved : goal.loop-place-preserved
loop-place-preserved g c =
    let go = g.S.System.transition in
    let places = c.args.slab.now.places in
    let i = c.loop-place.place in
    elim c.if-has.branch [
      | then-has w ↦ rw (add-one, w.system-is)
          (shown go c.args.system.now c.loop-place.system w.show.new.self places i w.session.result.now w.ports.result.now
          w.meter.result w.session_status-status.result (sym c.has.ensures ∙ w.if-has.true) w.session.ensures
          w.ports.ensures w.meter.ensures w.session_status-status.ensures c.loop-place.invariant w.show.ensures)
      | else-has w ↦ rw (add-one, w.system-is, show_none places i (sym c.has.ensures ∙ w.if-has.false)) c.loop-place.invariant
    ]
