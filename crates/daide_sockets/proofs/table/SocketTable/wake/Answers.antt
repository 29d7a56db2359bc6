use Rattle.std.proofs.Common.{List, ℕ, ◌*◌, ◌++◌, length, drop, ap, sym, refl, subst, ◌∙◌}
use Rattle.std.specs.Prelude.{Option}
use Rattle.std.specs.declared.time.Instant.{Instant}
use Rattle.daide_io.proofs.ReadyLemmas.{woken_both}
use Rattle.daide_io.specs.ReadyQueue.{ReadyView, woken_all}
use Rattle.daide_sockets.specs.Table.{Table, WakesPlaces, event_places}
use Rattle.daide_sockets.proofs.TableLemmas.{refilled, wakes_late, wakes_reported}
use Rattle.daide_sockets.proofs.table.SocketTable.wake.Goals as goal

pub returns-then-is_past : goal.returns-then-is_past
returns-then-is_past g c =
    let woken = c.wake_late-self-inside.ensures.woken in
    let events : List ℕ = event_places (2 * length c.args.self.now.deadlines) c.args.socket_events.now in
    let new : List (Option Instant) → Table = λ deadlines. record {
      reading = c.self.inside.reading;
      deadlines = deadlines;
      due = c.wake_late-self-inside.result;
      armed_work = c.self.inside.armed_work;
      armed_due = c.self.inside.armed_due;
      rows = c.self.inside.rows.items;
    } in
    let left = c.wake_late-self-inside.new.deadlines in
    let places = c.wake_late-self-inside.ensures.places in (
      events ++ woken.0,
      woken.1 ∙ ap (λ (q : ReadyView). woken_all woken.0 q) c.wake_reported.ensures
          ∙ sym (woken_both events woken.0 c.args.ready.now),
      subst (λ (l : List (Option Instant)). WakesPlaces c.args.socket_events.now (events ++ woken.0) c.args.self.now (new l))
          (sym (refilled left (drop (length left) c.self.inside.deadlines.items) c.self.inside.deadlines.len
          (places ∙ ap length c.deref_mut.ensures.value ∙ sym c.self.inside.deadlines.ok.0)))
          (wakes_late c.args.socket_events.now woken.0 _ c.args.self.now (new left) c.deref_mut.result.now c.self.view_is
          c.deref_mut.ensures.value refl places c.wake_late-self-inside.ensures.bounded woken.2),
    )

pub returns-else-is_past : goal.returns-else-is_past
returns-else-is_past g c = (
  event_places (2 * length c.args.self.now.deadlines) c.args.socket_events.now,
  c.wake_reported.ensures,
  wakes_reported c.args.socket_events.now _ c.args.self.now c.self.view_is c.self.invariant.2
      (sym c.is_past.ensures.past ∙ c.if-is_past.false),
)
