use Rattle.std.proofs.Common.{◌<◌, Option, length, ap, refl, subst, sym, ◌∙◌}
use Rattle.std.specs.declared.time.Duration.{Duration}
use Rattle.daide_sockets.specs.Lingering.{ClosingStream, ClosingList, IsClosingBound, WritesOut, begins_closing}
use Rattle.daide_buffered_io.specs.Buffers.{Buffer}
use Rattle.daide_sockets.specs.Rows.{KeepsClosingRows, closing_keys}
use Rattle.daide_sockets.proofs.LingeringLemmas.{room_time, appended}
use Rattle.daide_sockets.proofs.RowLemmas.{keeps_both, one_begins}
use Rattle.daide_sockets.proofs.lingering_close.Closings.begin.Goals as goal

pub returns-clause-closes : goal.returns-clause-closes
returns-clause-closes g c =
    let last = c.end_writing.new.self in
    let bound = c.new-closing.result.closes_at in
    let room = c.self.view_is ∙ c.make_room.ensures.last_ones in
    let time = ap (λ (l : ClosingList g.row.S.Denot). l.stall_time) room
    ∙ room_time g.S.Duplex.to_give g.S.Duplex.taken g.S.Duplex.calls c.now-now.result _ in
    rw (sym c.now-now.ensures)
    (record {
      key = c.moved-socket.result.key;
      known = c.moved-socket.result.readiness;
      moved = c.moved-socket.result.stream.stream;
      is_same = c.moved-socket.ensures.same;
      bound = bound;
      bounded = subst (λ (t : Option Duration). IsClosingBound c.now-now.result t bound) time c.new-closing.ensures.bound;
      last = last;
      writes = subst (λ (first : ClosingStream g.row.S.Denot).
          WritesOut g.S.Duplex.to_give g.S.Duplex.taken g.S.Duplex.calls c.now-now.result first last)
          (c.new-closing.ensures.begins ∙ ap (λ (t : Option Duration).
          begins_closing t bound c.moved-socket.result.key c.moved-socket.result.readiness c.moved-socket.result.stream) time
          ∙ ap (λ (s : Buffer g.row.S.Denot).
          begins_closing c.args.self.now.stall_time bound c.moved-socket.result.key c.moved-socket.result.readiness s) c.moved-socket.ensures.stream)
          c.end_writing.ensures.writes;
      now = appended g.S.Duplex.to_give g.S.Duplex.taken g.S.Duplex.calls c.now-now.result _ _ last _ room c.push.ensures;
    })

pub returns-clause-rows : goal.returns-clause-rows
returns-clause-rows g c =
    rw c.push.ensures
    (keeps_both _ _ _ _ _ _
    (subst (λ (l : ClosingList g.row.S.Denot). KeepsClosingRows c.args.poller.now.table (closing_keys c.args.self.now.streams)
    c.make_room.new.table (closing_keys l.streams)) (sym c.self.view_is) c.make_room.ensures.rows)
    (one_begins _ _ c.self.inside.sockets c.end_writing.new.self c.moved-socket.result.key 256
    (c.end_writing.ensures.writes.key ∙ c.end_writing.ensures.writes.tries.key
    ∙ ap (λ (o : ClosingStream g.row.S.Denot). o.key) c.new-closing.ensures.begins) refl
    (subst (λ (l : ClosingList g.row.S.Denot). length l.streams < 256) (sym c.self.view_is) c.make_room.ensures.room)
    c.moved-socket.ensures.row))
