-- The rows of the control socket: each place by its number, and the listener.
use Rattle.std.proofs.Common.{◌≡◌, ℕ, Bool, nat_lt, ◌+◌, ◌*◌, ◌<◌, List, [], ◌∷◌, ◌++◌, true, length, refl, sym, ap, ◌∙◌, subst, Option, Some, None, arith}
use Rattle.std.specs.declared.time.Instant.{Instant}
use Rattle.daide_buffered_io.specs.declared.readiness.Readiness.{Readiness}
use Rattle.daide_io.specs.Network.{NetworkCall}
use Rattle.daide_io.specs.Streams.{StreamCall}
use Rattle.daide_status.specs.declared.snapshot.RunStatus.{RunStatus}
use Rattle.daide_sockets.specs.ControlSlots.{AsksControl, IsControlRow, PlaceAdvances, PlacesAdvance, TakesPlace, are_places_free, is_listener_due, room_after}
use Rattle.daide_sockets.specs.KeptRows.{ChangesRows}
use Rattle.daide_sockets.specs.Table.{Table, control_connection_key, control_key, freed, merged, report_at, without_report}
use Rattle.daide_sockets.specs.declared.control_connection.ControlConnection.{ControlConnection}
use Rattle.daide_sockets.specs.declared.listener.Listener.{Listener}
use Rattle.daide_sockets.specs.declared.present.Bot.{Bot}
use Rattle.daide_sockets.proofs.KeptRowLemmas.{changes_more, changes_then, freed_changes, keeps_report, report_changes, same_deadlines, same_reading}

-- a connection that took a report has that of its row
pub noted : {S : Type 0} (old new : ControlConnection S) (taken report : Readiness) →
    new ≡ record old { readiness = merged old.readiness taken } → taken ≡ report →
    new ≡ record old { readiness = merged old.readiness report }
noted old new taken report e same = e ∙ ap (λ (r : Readiness). record old { readiness = merged old.readiness r }) same

-- a control row of a table is one of a table with as many places
same_row : (old new : Table) (key : ℕ) → length new.deadlines ≡ length old.deadlines → IsControlRow new key → IsControlRow old key
same_row old new key count h =
    let low = h.0 in
    let high = h.1 in
    (omega (arith, low, count), omega (arith, high, count))

count_of : (own : ℕ → Type 0) (old new : Table) → ChangesRows own old new → length new.deadlines ≡ length old.deadlines
count_of own old new h = ap length (same_deadlines own old new h)

pub control_then : (old mid new : Table) → ChangesRows (IsControlRow old) old mid → ChangesRows (IsControlRow mid) mid new →
    ChangesRows (IsControlRow old) old new
control_then old mid new h k =
    changes_then (IsControlRow old) old mid new h
    (changes_more (IsControlRow mid) (IsControlRow old) mid new
    (λ key. same_row old mid key (count_of (IsControlRow old) old mid h)) k)

pub connection_row : (table : Table) (key number : ℕ) → number < 8 → key ≡ 2 * length table.deadlines + 2 + number →
    IsControlRow table key
connection_row table key number few e = (omega (arith, few, e), omega (arith, few, e))

pub listener_reported : (old new : Table) (key : ℕ) → key ≡ 2 * length old.deadlines + 1 → new ≡ without_report old key →
    ChangesRows (IsControlRow old) old new
listener_reported old new key e h =
    changes_more (λ row. row ≡ key) (IsControlRow old) old new
    (λ row is. (omega (arith, e, is), omega (arith, e, is))) (report_changes old new key h)

pub listener_followed : (old mid new : Table) (own key : ℕ) → own ≡ 2 * length old.deadlines + 1 → mid ≡ without_report old own →
    new ≡ freed mid key → IsControlRow old key → ChangesRows (IsControlRow old) old new
listener_followed old mid new own key e h k is =
    changes_then (IsControlRow old) old mid new (listener_reported old mid own e h)
    (changes_more (λ row. row ≡ key) (IsControlRow old) mid new (λ row same. subst (IsControlRow old) (sym same) is)
    (freed_changes mid new key k))

pub one_more_free : {S : Type 0} (slots : List (Option (ControlConnection S))) → are_places_free slots ≡ true →
    are_places_free (slots ++ None ∷ []) ≡ true
one_more_free [] free = refl
one_more_free (None ∷ rest) free = one_more_free rest free
one_more_free (Some connection ∷ rest) free = absurd (cc)

-- the row of one place is a control row, and not that of the listener
pub one_row : (old new : Table) (key number : ℕ) → number < 8 → key ≡ control_connection_key old number →
    ChangesRows (λ row. row ≡ key) old new → ChangesRows (IsControlRow old) old new
one_row old new key number few is h =
    changes_more (λ row. row ≡ key) (IsControlRow old) old new
    (λ row same. (omega (arith, few, is, same), omega (arith, few, is, same))) h

pub listener_beside : (old new : Table) (key number : ℕ) → key ≡ control_connection_key old number →
    ChangesRows (λ row. row ≡ key) old new → report_at new (control_key old) ≡ report_at old (control_key old)
listener_beside old new key number is h =
    keeps_report (λ row. row ≡ key) old new (control_key old) (λ own. absurd (omega (arith, is, own))) h

pub listener_then : (old mid new : Table) → ChangesRows (IsControlRow old) old mid →
    report_at mid (control_key old) ≡ report_at old (control_key old) →
    report_at new (control_key mid) ≡ report_at mid (control_key mid) →
    report_at new (control_key old) ≡ report_at old (control_key old)
listener_then old mid new h one other =
    let key : control_key mid ≡ control_key old = let count = count_of (IsControlRow old) old mid h in omega (arith, count) in
    subst (λ (k : ℕ). report_at new k ≡ report_at mid k) key other ∙ one

module _ {S : Type 0} (to_give taken : S → Option (List ℕ)) (calls : S → Option (List StreamCall)) (run : RunStatus)
    (bots : List Bot) where
  abbrev Advance : Bool → Option Instant → Readiness → Option (ControlConnection S) → Option (ControlConnection S) → Type 0
  Advance = PlaceAdvances to_give taken calls run bots

  -- places advance by their own rows, which one before them leaves as they are
  pub later_advance : (old mid : Table) (key before number room : ℕ) (these those : List (Option (ControlConnection S))) →
      before < number → key ≡ control_connection_key old before → ChangesRows (λ row. row ≡ key) old mid →
      PlacesAdvance to_give taken calls run bots mid number room these those →
      PlacesAdvance to_give taken calls run bots old number room these those
  later_advance old mid key before number room [] [] lt is h all = tt
  later_advance old mid key before number room [] (new ∷ those) lt is h all = absurd all
  later_advance old mid key before number room (one ∷ these) [] lt is h all = absurd all
  later_advance old mid key before number room (one ∷ these) (new ∷ those) lt is h all = (
    subst (λ (report : Readiness). Advance (nat_lt 0 room) old.reading report one new) report
        (subst (λ (reading : Option Instant). Advance (nat_lt 0 room) reading
        (report_at mid (control_connection_key mid number)) one new) (same_reading (λ row. row ≡ key) old mid h) all.0),
    later_advance old mid key before (number + 1) (room_after room one new) these those (omega (arith, lt)) is h all.1,
  )
    where
      own : control_connection_key mid number ≡ control_connection_key old number
      own = let count = count_of (λ row. row ≡ key) old mid h in omega (arith, count)

      report : report_at mid (control_connection_key mid number) ≡ report_at old (control_connection_key old number)
      report = ap (λ (k : ℕ). report_at mid k) own
          ∙ keeps_report (λ row. row ≡ key) old mid (control_connection_key old number)
          (λ same. absurd (omega (arith, same, is, lt))) h

-- The listener is asked as by the table before the connections advanced: its row and the reading are the same.
module _ {N S : Type 0} (transition : N → NetworkCall S → N → Type 0) (old mid : Table) (listener : Option Listener)
    (network after : N) (before now : List (Option (ControlConnection S))) where
  same_due : ChangesRows (IsControlRow old) old mid → report_at mid (control_key old) ≡ report_at old (control_key old) →
      is_listener_due mid listener ≡ is_listener_due old listener
  same_due h same = by listener
    where
      key : control_key mid ≡ control_key old
      key = let count = count_of (IsControlRow old) old mid h in omega (arith, count)

      by : (found : Option Listener) → is_listener_due mid found ≡ is_listener_due old found
      by None = refl
      by (Some one) = rw (same_reading (IsControlRow old) old mid h, key, same) refl

  pub asked_before : ChangesRows (IsControlRow old) old mid → report_at mid (control_key old) ≡ report_at old (control_key old) →
      AsksControl transition mid listener network after before now → AsksControl transition old listener network after before now
  asked_before h same asks = record {
    made = λ due room.
        let made = asks.made (same_due h same ∙ due) room in (
          made.0,
          same_row old mid made.0 (count_of (IsControlRow old) old mid h) made.1,
          made.2,
          made.3,
          subst (λ (reading : Option Instant). TakesPlace reading made.2 before now) (same_reading (IsControlRow old) old mid h) made.4,
        );
    not_made = λ no. asks.not_made (rw (same_due h same) no);
  }
