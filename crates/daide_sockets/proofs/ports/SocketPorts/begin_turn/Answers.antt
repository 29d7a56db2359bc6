use Rattle.std.proofs.Common.{◌≡◌, Option, sym, ap, ◌∙◌, subst}
use Rattle.std.specs.declared.time.Instant.{Instant}
use Rattle.daide_frame.specs.declared.side.Side.{Side}
use Rattle.daide_frame.specs.declared.side.Side.TheVariants.{Bot, Server}
use Rattle.daide_frame.specs.PerSide.{PerSide, at}
use Rattle.daide_frame.proofs.PerSideLemmas.{on_both}
use Rattle.daide_buffered_io.specs.Buffers.{Buffer}
use Rattle.daide_buffered_io.proofs.StreamLemmas.{begun_moves}
use Rattle.daide_sockets.specs.declared.ports.SocketPorts.{SocketPorts}
use Rattle.daide_sockets.specs.Clock.{due_after, is_past}
use Rattle.daide_sockets.specs.Table.{key_of, merged, report_at}
use Rattle.daide_sockets.specs.Timers.{BeginsInTime}
use Rattle.daide_sockets.specs.Wakeups.{BeginsToSettle, BeginsWriting}
use Rattle.daide_sockets.proofs.SocketLemmas.{reported_begins}
use Rattle.daide_sockets.proofs.ports.SocketPorts.begin_turn.Goals as goal

pub returns-clause-begins : goal.returns-clause-begins
returns-clause-begins g c =
    let bot = ap (λ (streams : PerSide (Buffer g.row.S.Denot)). streams.bot) c.take_reports.ensures.streams in
    let server = ap (λ (streams : PerSide (Buffer g.row.S.Denot)). streams.server) c.take_reports.ensures.streams in
    rw c.read_deadline.ensures
    (begun_moves g.S.Duplex.to_give g.S.Duplex.taken _ _
    (rw c.note_reading.ensures at (rw bot at c.begin_both.ensures.bot))
    (rw c.note_reading.ensures at (rw bot at c.begin_both.ensures.bot_unread))
    (rw c.note_reading.ensures at (rw server at c.begin_both.ensures.server))
    (rw c.note_reading.ensures at (rw server at c.begin_both.ensures.server_unread)))

pub returns-clause-settles : goal.returns-clause-settles
returns-clause-settles g c =
    let reports = c.take_reports.ensures in
    let both = c.begin_both.ensures in
    rw c.read_deadline.ensures (on_both
    (λ (side : Side). BeginsToSettle g.S.Duplex.calls (at c.args.self.now.sides side) (at c.begin_both.new.self.sides side)) (
      rw (reports.bot, c.note_reading.ensures) at both.keys.0,
      _,
      report_at c.args.table.now (key_of c.args.place Bot),
      rw (reports.bot, c.note_reading.ensures) at both.bot_writes,
    ) (
      rw (reports.server, c.note_reading.ensures) at both.keys.1,
      _,
      report_at c.args.table.now (key_of c.args.place Server),
      rw (reports.server, c.note_reading.ensures) at both.server_writes,
    ))

pub returns-clause-timers : goal.returns-clause-timers
returns-clause-timers g c =
    let before = c.args.self.now in
    let after = c.begin_both.new.self in
    let reports = c.take_reports.ensures in
    let both = c.begin_both.ensures in
    let time : after.idle.time ≡ before.idle.time =
    ap (λ (p : SocketPorts g.row.S.Denot). p.idle.time) both.rest ∙ ap (λ (p : SocketPorts g.row.S.Denot). p.idle.time) reports.rest
    ∙ ap (λ (p : SocketPorts g.row.S.Denot). p.idle.time) c.note_reading.ensures in
    let im_due : after.im_due ≡ before.im_due =
    ap (λ (p : SocketPorts g.row.S.Denot). p.im_due) both.rest ∙ ap (λ (p : SocketPorts g.row.S.Denot). p.im_due) reports.rest
    ∙ ap (λ (p : SocketPorts g.row.S.Denot). p.im_due) c.note_reading.ensures in
    let reading = ap (λ (p : SocketPorts g.row.S.Denot). p.idle.reading) both.rest in
    let report = λ (side : Side). merged (at before.sides side).readiness (report_at c.args.table.now (key_of c.args.place side)) in
    let begins = λ (side : Side). BeginsInTime after.idle.reading (at before.sides side) (at after.sides side) in
    rw c.read_deadline.ensures (
      time,
      ap (λ (due : Option Instant). is_past after.idle.reading due) im_due,
      ap (λ (due : Option Instant). due_after after.idle.reading due) im_due,
      on_both begins
          (subst (λ (r : Option Instant). BeginsInTime r before.sides.bot after.sides.bot) (sym reading)
          (reported_begins _ (report Bot) before.sides.bot after.sides.bot (rw (reports.bot, c.note_reading.ensures) at both.bot_time)))
          (subst (λ (r : Option Instant). BeginsInTime r before.sides.server after.sides.server) (sym reading)
          (reported_begins _ (report Server) before.sides.server after.sides.server
          (rw (reports.server, c.note_reading.ensures) at both.server_time))),
    )

pub returns-clause-takes : goal.returns-clause-takes
returns-clause-takes g c =
    let before = c.args.self.now.sides in
    let after = c.begin_both.new.self in
    let reports = c.take_reports.ensures in
    let both = c.begin_both.ensures in
    let reading = ap (λ (p : SocketPorts g.row.S.Denot). p.idle.reading) both.rest in
    let writes : Option Instant → Side → Type 0 = λ reading side. BeginsWriting g.S.Duplex.calls reading
    (merged (at before side).readiness (report_at c.args.table.now (key_of c.args.place side))) (at before side) (at after.sides side) in
    rw c.read_deadline.ensures (record {
      writes = on_both (writes after.idle.reading)
          (subst (λ (r : Option Instant). writes r Bot) (sym reading)
          (rw (reports.bot, c.note_reading.ensures) at both.bot_writes))
          (subst (λ (r : Option Instant). writes r Server) (sym reading)
          (rw (reports.server, c.note_reading.ensures) at both.server_writes));
      table = reports.table;
    })
