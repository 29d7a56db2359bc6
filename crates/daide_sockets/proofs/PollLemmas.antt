-- What a poll does to the places.
use Rattle.std.proofs.Common.{◌≡◌, ℕ, ◌*◌, ◌<◌, Bool, true, false, List, length, refl, ap, ◌∙◌, arith}
use Rattle.std.specs.Prelude.{Option}
use Rattle.std.specs.declared.time.Duration.{Duration}
use Rattle.std.specs.declared.time.Instant.{Instant}
use Rattle.daide_frame.specs.declared.side.Side.{Side}
use Rattle.daide_frame.specs.declared.side.Side.TheVariants.{Bot, Server}
use Rattle.daide_io.specs.declared.network.SocketEvent.{SocketEvent}
use Rattle.daide_io.specs.Network.{NetworkCall}
use Rattle.daide_io.specs.ReadyQueue.{is_among}
use Rattle.daide_sockets.specs.declared.table.Row.{Row}
use Rattle.daide_sockets.specs.Table.{Table, PollsOnce, WakesPlaces, deadline_at, event_places, key_of, report_at, row_at, with_events}
use Rattle.daide_sockets.specs.Clock.{is_past}
use Rattle.daide_sockets.specs.Wakeups.{PollsPlaces}
use Rattle.daide_sockets.proofs.TableLemmas.{row_untouched}

-- a place that is not woken is not among those of which something was reported
unreported : (place : ℕ) (events woken : List ℕ) → (is_among place events ≡ true → is_among place woken ≡ true) →
    is_among place woken ≡ false → is_among place events ≡ false
unreported place events woken more away = by (is_among place events) refl
  where
    by : (there : Bool) → is_among place events ≡ there → is_among place events ≡ false
    by false e = e
    by true e = let yes = more e in absurd (cc)

own_key : (place places : ℕ) (side : Side) → place < places → key_of place side < 2 * places
own_key place places Bot lt = omega (arith, lt)
own_key place places Server lt = omega (arith, lt)

pub polls_places : {N C : Type 0} (transition : N → NetworkCall C → N → Type 0) (time : Option Duration) (socket_events : List SocketEvent)
    (woken : List ℕ) (old : N) (before : Table) (new : N) (mid after : Table) →
    (polls : PollsOnce transition time old before new mid) → polls.socket_events ≡ socket_events → WakesPlaces socket_events woken mid after →
    PollsPlaces transition time woken old before new after
polls_places transition time socket_events woken old before new mid after polls same wakes = record {
  reported = mid;
  polls = polls;
  asleep = λ place lt away. (
    record {
      reports = λ side. reports place lt away side;
      deadline = (wakes.asleep place away).0 ∙ ap (λ (t : Table). deadline_at t place) polls.table;
    },
    ap (λ (reading : Option Instant). is_past reading (deadline_at after place)) reading
        ∙ ap (λ (due : Option Instant). is_past mid.reading due) (wakes.asleep place away).0 ∙ (wakes.asleep place away).1,
  );
  places = wakes.places ∙ count;
  bounded = wakes.bounded;
  same = wakes.same;
}
  where
    reading : after.reading ≡ mid.reading
    reading = ap (λ (t : Table). t.reading) wakes.same

    count : length mid.deadlines ≡ length before.deadlines
    count = ap (λ (t : Table). length t.deadlines) polls.table

    reports : (place : ℕ) → place < length before.deadlines → is_among place woken ≡ false → (side : Side) →
        report_at after (key_of place side) ≡ report_at before (key_of place side)
    reports place lt away side =
        let none = unreported place (event_places (2 * length mid.deadlines) socket_events) woken (wakes.reported place) away in
        ap (λ (t : Table). report_at t (key_of place side)) wakes.same
        ∙ ap (λ (t : Table). report_at t (key_of place side)) polls.table
        ∙ ap (λ (events : List SocketEvent). (row_at (with_events before.rows events) (key_of place side)).report) same
        ∙ ap (λ (row : Row). row.report)
        (row_untouched (2 * length mid.deadlines) place side socket_events before.rows
        (own_key place (length mid.deadlines) side (omega (arith, lt, count))) none)
