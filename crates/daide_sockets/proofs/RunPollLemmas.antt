-- A poll of a run: the places are polled, closing streams advance, and the control socket does.
use Rattle.std.proofs.Common.{◌≡◌, ℕ, zero, suc, ◌+◌, ◌≤◌, ◌<◌, Bool, true, false, List, [], ◌∷◌, ◌++◌, length, refl, sym, ap, ◌∙◌, subst, arith}
use Rattle.std.proofs.Common.{Option, Some, None}
use Rattle.std.specs.Prelude.{slice_get}
use Rattle.std.specs.declared.time.Duration.{Duration}
use Rattle.std.specs.declared.time.Instant.{Instant}
use Rattle.daide_frame.specs.declared.side.Side.{Side}
use Rattle.daide_frame.specs.declared.side.Side.TheVariants.{Server}
use Rattle.daide_frame.specs.declared.side.Side.TheVariants as Sides
use Rattle.daide_io.specs.Network.{NetworkCall}
use Rattle.daide_io.specs.Streams.{StreamCall}
use Rattle.daide_io.specs.declared.system.Orders.{Orders}
use Rattle.daide_status.specs.declared.snapshot.RunStatus.{RunStatus}
use Rattle.daide_sockets.specs.declared.admission.Acceptor.{Acceptor}
use Rattle.daide_io.specs.ReadyQueue.{is_among, occurrences_of, is_same}
use Rattle.daide_io.specs.declared.network.SocketEvent.{SocketEvent}
use Rattle.daide_sockets.specs.Control.{has_control_work, control_due}
use Rattle.daide_sockets.specs.Accepting.{ClosesOrNot, round_begun}
use Rattle.daide_sockets.specs.ControlSlots.{BeginsRound, IsControlRow, has_free, arming_control, arming_listener, arming_places}
use Rattle.daide_sockets.specs.KeptRows.{ChangesRows, IsFixedRow, KeepsReportsOf}
use Rattle.daide_sockets.specs.Lingering.{ClosingList}
use Rattle.daide_sockets.specs.Pairing.{Arriving}
use Rattle.daide_sockets.specs.Scheduling.{BringsOrders, IsStatusOf, RunState, run_state}
use Rattle.daide_sockets.specs.Rows.{AreRowsOf, KeepsClosingRows}
use Rattle.daide_sockets.specs.declared.present.Bot.{Bot}
use Rattle.daide_sockets.specs.Table.{Table, IsPollTime, changed, deadline_at, deadline_in, first_closing, key_of, latest, listener_key}
use Rattle.daide_sockets.specs.Table.{merged, report_at, report_of, row_at, disarmed, arming, with_event, with_events}
use Rattle.daide_sockets.specs.Clock.{is_past}
use Rattle.daide_sockets.specs.Table.{arming_all}
use Rattle.daide_sockets.specs.Wakeups.{GoesBy, PollsForPlaces, PollsPlaces, is_after_poll}
use Rattle.daide_sockets.specs.declared.control.Control.{Control}
use Rattle.daide_sockets.specs.declared.listener.Listener.{Listener}
use Rattle.daide_sockets.specs.declared.control_connection.ControlConnection.{ControlConnection}
use Rattle.daide_sockets.specs.declared.table.Row.{Row}
use Rattle.daide_io.proofs.ReadyLemmas.{same_is_one}
use Rattle.daide_sockets.proofs.KeptRowLemmas.{holds_rows, same_holds}

-- ---- what is watched changes nothing else

-- nothing changed but what is watched
abbrev pub IsArmed : Table → Table → Type 0
IsArmed old new = new ≡ record old { armed_work = new.armed_work; armed_due = new.armed_due }

armed_then : (old mid new : Table) → IsArmed old mid → IsArmed mid new → IsArmed old new
armed_then old mid new h k =
    k ∙ ap (λ (t : Table). record t { armed_work = new.armed_work; armed_due = new.armed_due }) h

pub armed_all : (table : Table) (others : List (Bool × Option Instant)) → IsArmed table (arming_all table others)
armed_all table [] = refl
armed_all table (one ∷ others) =
    armed_then table (arming table one.0 one.1) (arming_all (arming table one.0 one.1) others) refl
    (armed_all (arming table one.0 one.1) others)

armed_places : {S : Type 0} (table : Table) (rest : List (Option (ControlConnection S))) → IsArmed table (arming_places table rest)
armed_places table [] = refl
armed_places table (None ∷ rest) = armed_places table rest
armed_places table (Some connection ∷ rest) =
    let next = arming table (has_control_work connection) (control_due connection) in
    armed_then table next (arming_places next rest) refl (armed_places next rest)

armed_listener : (table : Table) (has_room : Bool) (found : Option Listener) →
    IsArmed table (arming_listener table has_room found)
armed_listener table has_room None = refl
armed_listener table true (Some listener) = refl
armed_listener table false (Some listener) = refl

pub armed_control : {S : Type 0} (table : Table) (control : Control S) → IsArmed table (arming_control table control)
armed_control table control =
    let first = arming_listener table (has_free control.slots) control.listener in
    armed_then table first (arming_places first control.slots)
    (armed_listener table (has_free control.slots) control.listener)
    (armed_places first control.slots)

-- the time of a poll that may block is that of a table in which others are watched; that of any other is of none
pub blocks_armed : (may_block : Bool) (base armed : Table) (others : List (Bool × Option Instant)) (time : Option Duration) →
    (may_block ≡ true → armed ≡ arming_all base others) → IsPollTime may_block armed time →
    IsPollTime may_block (arming_all base others) time
blocks_armed true base armed others time h lasts = subst (λ (t : Table). IsPollTime true t time) (h refl) lasts
blocks_armed false base armed others time h lasts = lasts

pub is_armed : (may_block : Bool) (base armed : Table) (others : List (Bool × Option Instant)) →
    (may_block ≡ true → armed ≡ arming_all base others) → (may_block ≡ false → armed ≡ base) → IsArmed base armed
is_armed true base armed others on off = subst (IsArmed base) (sym (on refl)) (armed_all base others)
is_armed false base armed others on off = subst (IsArmed base) (sym (off refl)) refl

-- ---- rows stay taken through a poll

event_taken : (rows : List Row) (at key : ℕ) (row : Row) → row.is_taken ≡ (row_at rows at).is_taken →
    (row_at (changed rows at row) key).is_taken ≡ (row_at rows key).is_taken
event_taken [] at key row h = refl
event_taken (first ∷ rows) zero zero row h = h
event_taken (first ∷ rows) zero (suc key) row h = refl
event_taken (first ∷ rows) (suc at) zero row h = refl
event_taken (first ∷ rows) (suc at) (suc key) row h = event_taken rows at key row h

events_taken : (events : List SocketEvent) (rows : List Row) (key : ℕ) →
    (row_at (with_events rows events) key).is_taken ≡ (row_at rows key).is_taken
events_taken [] rows key = refl
events_taken (event ∷ events) rows key =
    events_taken events (with_event rows event) key
    ∙ event_taken rows event.key key (record (row_at rows event.key) { report = merged (row_at rows event.key).report (report_of event) }) refl

count_changed : (rows : List Row) (at : ℕ) (row : Row) → length (changed rows at row) ≡ length rows
count_changed [] at row = refl
count_changed (first ∷ rows) zero row = refl
count_changed (first ∷ rows) (suc at) row = ap suc (count_changed rows at row)

events_count : (events : List SocketEvent) (rows : List Row) → length (with_events rows events) ≡ length rows
events_count [] rows = refl
events_count (event ∷ events) rows =
    events_count events (with_event rows event)
    ∙ count_changed rows event.key (record (row_at rows event.key) { report = merged (row_at rows event.key).report (report_of event) })

-- ---- lists of places

occurs_both : (place : ℕ) (xs ys : List ℕ) → occurrences_of place (xs ++ ys) ≡ occurrences_of place xs + occurrences_of place ys
occurs_both place [] ys = omega arith
occurs_both place (x ∷ xs) ys = let rest = occurs_both place xs ys in omega (arith, rest)

-- a place among some is among more
pub among_more : (place : ℕ) (xs ys : List ℕ) → is_among place xs ≡ true → is_among place (xs ++ ys) ≡ true
among_more place xs ys h = let all = occurs_both place xs ys in grind (arith, h, all)

pub among_later : (place : ℕ) (xs ys : List ℕ) → is_among place ys ≡ true → is_among place (xs ++ ys) ≡ true
among_later place xs ys h = let all = occurs_both place xs ys in grind (arith, h, all)

pub among_last : (place other : ℕ) (xs : List ℕ) → other ≡ place → is_among place (xs ++ other ∷ []) ≡ true
among_last place other xs same =
    let all = occurs_both place xs (other ∷ []) in
    let one = same_is_one place in
    let own : is_same other place ≡ is_same place place = ap (λ (k : ℕ). is_same k place) same in
    grind (arith, all, one, own)

module _ {N S : Type 0} (transition : N → NetworkCall S → N → Type 0) (to_give taken : S → Option (List ℕ))
    (calls : S → Option (List StreamCall)) (time : Option Duration) (woken more : List ℕ)
    (network polled_network new_network : N) (before armed polled first second third last : Table) (given left : List ℕ)
    (control : Control S) (same_armed : IsArmed before armed)
    (polls : PollsPlaces transition time woken network armed polled_network polled) (forgets : first ≡ disarmed polled)
    (advances : KeepsClosingRows first given second left) (orders : ChangesRows (IsControlRow second) second third)
    (arms : last ≡ arming_control third control) where
  abbrev socket_events : List SocketEvent
  socket_events = polls.polls.socket_events

  -- what the poll reported, in the table before it
  abbrev reported : Table
  reported = record before {
    reading = latest before.reading polls.polls.reading;
    rows = with_events before.rows socket_events;
  }

  polled_is : polled ≡ record polls.reported { deadlines = polled.deadlines; due = polled.due }
  polled_is = polls.same

  reported_rows : polls.reported.rows ≡ with_events before.rows socket_events
  reported_rows = ap (λ (t : Table). t.rows) polls.polls.table
      ∙ ap (λ (t : Table). with_events t.rows socket_events) same_armed

  reported_reading : polls.reported.reading ≡ latest before.reading polls.polls.reading
  reported_reading = ap (λ (t : Table). t.reading) polls.polls.table
      ∙ ap (λ (t : Table). latest t.reading polls.polls.reading) same_armed

  first_rows : first.rows ≡ with_events before.rows socket_events
  first_rows = ap (λ (t : Table). t.rows) forgets ∙ ap (λ (t : Table). t.rows) polled_is ∙ reported_rows

  first_deadlines : first.deadlines ≡ polled.deadlines
  first_deadlines = ap (λ (t : Table). t.deadlines) forgets

  last_rows : last.rows ≡ third.rows
  last_rows = ap (λ (t : Table). t.rows) (arms ∙ armed_control third control)

  last_deadlines : last.deadlines ≡ polled.deadlines
  last_deadlines = ap (λ (t : Table). t.deadlines) (arms ∙ armed_control third control)
      ∙ ap (λ (t : Table). t.deadlines) orders.same ∙ ap (λ (t : Table). t.deadlines) advances.same ∙ first_deadlines

  reading_stays : last.reading ≡ first.reading
  reading_stays = ap (λ (t : Table). t.reading) (arms ∙ armed_control third control)
      ∙ ap (λ (t : Table). t.reading) orders.same ∙ ap (λ (t : Table). t.reading) advances.same

  last_reading : last.reading ≡ polled.reading
  last_reading = reading_stays ∙ ap (λ (t : Table). t.reading) forgets

  armed_deadlines : armed.deadlines ≡ before.deadlines
  armed_deadlines = ap (λ (t : Table). t.deadlines) same_armed

  count : length polled.deadlines ≡ length before.deadlines
  count = polls.places ∙ ap length armed_deadlines

  second_count : length second.deadlines ≡ length before.deadlines
  second_count = ap (λ (t : Table). length t.deadlines) advances.same ∙ ap length first_deadlines ∙ count

  first_holds : AreRowsOf before given → AreRowsOf first given
  first_holds rows = same_holds before first given (ap length first_deadlines ∙ count)
      (ap length first_rows ∙ events_count socket_events before.rows)
      (λ key. ap (λ (r : List Row). (row_at r key).is_taken) first_rows ∙ events_taken socket_events before.rows key) rows

  -- each taken row stays that of one closing stream
  holds : AreRowsOf before given → AreRowsOf last left
  holds rows = same_holds third last left
      (ap length last_deadlines ∙ sym (ap (λ (t : Table). length t.deadlines) orders.same
      ∙ ap (λ (t : Table). length t.deadlines) advances.same ∙ ap length first_deadlines))
      (ap length last_rows) (λ key. ap (λ (r : List Row). (row_at r key).is_taken) last_rows)
      (holds_rows (IsControlRow second) second third left (λ key own. own.1) orders (advances.taken (first_holds rows)))

  -- a row up to the listener's keeps what was reported
  row_kept : AreRowsOf before given → (key : ℕ) → key ≤ listener_key before →
      row_at last.rows key ≡ row_at (with_events before.rows socket_events) key
  row_kept rows key le =
      let below : key < first_closing first = let same = ap length first_deadlines ∙ count in omega (arith, le, same) in
      ap (λ (r : List Row). row_at r key) last_rows
      ∙ orders.others key (λ own. absurd (let lt = own.0 in let same = second_count in omega (arith, lt, le, same)))
      ∙ advances.others (first_holds rows) key below ∙ ap (λ (r : List Row). row_at r key) first_rows

  polled_rows : polled.rows ≡ with_events before.rows socket_events
  polled_rows = ap (λ (t : Table). t.rows) polled_is ∙ reported_rows

  place_key : (place : ℕ) (side : Side) → place < length before.deadlines → key_of place side ≤ listener_key before
  place_key place Sides.Bot lt = omega (arith, lt)
  place_key place Server lt = omega (arith, lt)

  report_kept : AreRowsOf before given → (place : ℕ) (side : Side) → place < length before.deadlines →
      report_at last (key_of place side) ≡ report_at polled (key_of place side)
  report_kept rows place side lt =
      ap (λ (r : Row). r.report) (row_kept rows (key_of place side) (place_key place side lt)
      ∙ sym (ap (λ (r : List Row). row_at r (key_of place side)) polled_rows))

  deadline_kept : (place : ℕ) → deadline_at last place ≡ deadline_at polled place
  deadline_kept place = ap (λ (d : List (Option Instant)). deadline_in (slice_get d place)) last_deadlines

  first_not : (place : ℕ) → is_among place (woken ++ more) ≡ false → is_among place woken ≡ false
  first_not place none =
      let all = occurs_both place woken more in
      grind (arith, none, all)

  polls_for_places : AreRowsOf before given → (others : List (Bool × Option Instant)) (may_block : Bool) →
      IsPollTime may_block (arming_all before others) time → GoesBy is_after_poll transition polled_network new_network →
      PollsForPlaces transition others may_block (woken ++ more) network before new_network last
  polls_for_places rows others may_block lasts goes = record {
    time = time;
    polled = polled_network;
    reported = reported;
    lasts = lasts;
    polls = record {
      socket_events = socket_events;
      polled = polls.polls.polled;
      reading = polls.polls.reading;
      polls = polls.polls.polls;
      reads = polls.polls.reads;
      table = refl;
    };
    goes_on = goes;
    reading = last_reading ∙ ap (λ (t : Table). t.reading) polled_is ∙ reported_reading;
    reports = λ key le. ap (λ (r : Row). r.report) (row_kept rows key le);
    asleep = λ place lt none.
        let lt_armed : place < length armed.deadlines = let same = ap length armed_deadlines in omega (arith, lt, same) in
        let asleep = polls.asleep place lt_armed (first_not place none) in (
          record {
            reports = λ side. report_kept rows place side lt ∙ asleep.0.reports side
                ∙ ap (λ (t : Table). report_at t (key_of place side)) same_armed;
            deadline = deadline_kept place ∙ asleep.0.deadline ∙ ap (λ (t : Table). deadline_at t place) same_armed;
          },
          ap (λ (d : Option Instant). is_past last.reading d) (deadline_kept place)
              ∙ ap (λ (r : Option Instant). is_past r (deadline_at polled place)) last_reading ∙ asleep.1,
        );
  }

  -- what was reported beside the places is in their rows as the control socket begins its round
  fixed_kept : AreRowsOf before given → KeepsReportsOf (IsFixedRow before) reported second
  fixed_kept rows key fixed =
      let below : key < first_closing first =
      let same = ap length first_deadlines ∙ count in let lt = fixed.1 in omega (arith, lt, same) in
      ap (λ (r : Row). r.report) (advances.others (first_holds rows) key below ∙ ap (λ (r : List Row). row_at r key) first_rows)

  -- a round of the control socket by what the poll reported, and after it the listener for bots is closed, or no call is made
  pub orders_run : (times : Option Duration × Option Duration) (acceptor tidied : Acceptor)
      (arrivals : List (Option (Arriving S))) (closing : ClosingList S) (own : Control S) (new : RunState N S) (result : Orders)
      (heard : N) (run : RunStatus) (bots : List Bot) → AreRowsOf before given → tidied ≡ round_begun first.reading acceptor →
      IsStatusOf (run_state (network, second) times tidied arrivals closing own) (length bots) run →
      BeginsRound transition to_give taken calls run bots second polled_network own result heard new.control →
      ClosesOrNot transition heard new.network →
      BringsOrders transition to_give taken calls (run_state (network, before) times acceptor arrivals closing own) result new
  orders_run times acceptor tidied arrivals closing own new result heard run bots rows began status round closes =
      let same = ap (λ (t : Table). t.reading) forgets ∙ ap (λ (t : Table). t.reading) polled_is ∙ reported_reading in
      let tidied_is = began ∙ ap (λ (reading : Option Instant). round_begun reading acceptor) same in record {
        time = time;
        polled = polled_network;
        reported = reported;
        polls = record {
          socket_events = socket_events;
          polled = polls.polls.polled;
          reading = polls.polls.reading;
          polls = polls.polls.polls;
          reads = polls.polls.reads;
          table = refl;
        };
        table = second;
        reading = ap (λ (t : Table). t.reading) advances.same ∙ same;
        places = second_count;
        reports = fixed_kept rows;
        bots = bots;
        run = run;
        status = subst (λ (a : Acceptor). IsStatusOf (run_state (network, second) times a arrivals closing own) (length bots) run)
            tidied_is status;
        heard = heard;
        round = round;
        closes = closes;
      }

  -- the poll of a run: the places stay, and the clock is not read again; the rows stay those of closing streams
  pub polls_run : (others : List (Bool × Option Instant)) (may_block : Bool) →
      IsPollTime may_block (arming_all before others) time → GoesBy is_after_poll transition polled_network new_network →
      (length last.deadlines ≡ length before.deadlines) × (last.reading ≡ first.reading)
      × (AreRowsOf before given → AreRowsOf last left
      × PollsForPlaces transition others may_block (woken ++ more) network before new_network last)
  polls_run others may_block lasts goes = (
    ap length last_deadlines ∙ count,
    reading_stays,
    λ rows. (holds rows, polls_for_places rows others may_block lasts goes),
  )
