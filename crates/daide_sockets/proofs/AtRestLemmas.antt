-- A round in which the control socket has no connection.
use Rattle.std.proofs.Common.{◌≡◌, ℕ, ◌+◌, ◌-◌, Bool, true, false, List, [], ◌∷◌, Option, Some, None, refl, sym, ap, ◌∙◌, subst, arith}
use Rattle.std.specs.Prelude.{◌||◌, ◌&&◌, ◌≤◌, nat_le, not}
use Rattle.daide_io.specs.Network.{NetworkCall}
use Rattle.daide_io.specs.Streams.{StreamCall}
use Rattle.daide_status.specs.declared.counts.RunCounts.{RunCounts}
use Rattle.daide_status.specs.declared.snapshot.RunStatus.{RunStatus}
use Rattle.daide_status.specs.declared.snapshot.ServerStatus.{ServerStatus}
use Rattle.daide_sockets.specs.Control.{gathers_at, stops_run, stops_run_now}
use Rattle.daide_sockets.specs.ControlAnswer.{ordered_by}
use Rattle.daide_sockets.specs.ControlSlots.{are_places_free, at_some, is_listener_due, room_beside, most_waiting, PlacesAdvance, BeginsRound, arming_control, arming_listener, arming_places, has_free}
use Rattle.daide_sockets.specs.Snapshot.{counted, IsRunStatus}
use Rattle.daide_sockets.specs.Table.{Table}
use Rattle.daide_sockets.specs.declared.control.Control.{Control}
use Rattle.daide_sockets.specs.declared.control_connection.ControlConnection.{ControlConnection}
use Rattle.daide_sockets.specs.declared.listener.Listener.{Listener}
use Rattle.daide_sockets.specs.declared.present.Bot.{Bot}

-- a run has a status
pub some_status : (came present pending lost : ℕ) (waiting stopping : Bool) (seconds : ℕ) (server : ServerStatus)
    (counts : RunCounts) → (run : RunStatus) × IsRunStatus came present pending lost waiting stopping seconds server counts run
some_status came present pending lost waiting stopping seconds server counts = (
  record {
    «open» = counted present - counted pending;
    connecting = counted pending;
    served = (came - counted present) - lost;
    unreached = lost;
    has_waiting = waiting;
    is_stopping = stopping;
    seconds = seconds;
    server = server;
    counts = counts;
  },
  record {
    connecting = refl;
    in_session = refl;
    served = refl;
    unreached = refl;
    has_waiting = refl;
    is_stopping = refl;
    up = refl;
    known = refl;
    counted = refl;
  },
)

-- the listener is closed if a stop is ordered that was not before, and if all bots came
pub stop_closes : (stops was other : Bool) → stops ≡ true → was ≡ false → ((stops && not was) || other) ≡ false → ⊥
stop_closes stops was other on off stays = absurd (cc)

pub all_close : (other all closed : Bool) → all ≡ true → closed ≡ false → (other || (all && not closed)) ≡ false → ⊥
all_close true all closed on off stays = absurd (cc)
all_close false all closed on off stays = absurd (cc)

pub all_reached : (most came : ℕ) → most ≤ came → nat_le most came ≡ true
all_reached most came le = by (nat_le most came) refl
  where
    by : (reached : Bool) → nat_le most came ≡ reached → reached ≡ true
    by true e = refl
    by false e = absurd (grind (arith, e, le))

pub reached_all : (most came : ℕ) → nat_le most came ≡ true → most ≤ came
reached_all most came e = grind (arith, e)

none_new : (b : Bool) → (b && not b) ≡ false
none_new true = refl
none_new false = refl

no_more : (all closed : Bool) → (all ≡ true → closed ≡ true) → (all && not closed) ≡ false
no_more true closed h = ap not (h refl)
no_more false closed h = refl

-- without an order nothing closes it
pub nothing_closes : (stops now all closed : Bool) → now ≡ stops → (all ≡ true → closed ≡ true) →
    ((now && not stops) || (all && not closed)) ≡ false
nothing_closes stops now all closed same h = rw (same, none_new stops) (no_more all closed h)

or_false : (b : Bool) → b ≡ (b || false)
or_false true = refl
or_false false = refl

none_at : {S : Type 0} (test : ControlConnection S → Bool) (slots : List (Option (ControlConnection S))) →
    are_places_free slots ≡ true → at_some test slots ≡ false
none_at test [] free = refl
none_at test (None ∷ rest) free = none_at test rest free
none_at test (Some connection ∷ rest) free = absurd (cc)

free_armed : {S : Type 0} (table : Table) (slots : List (Option (ControlConnection S))) → are_places_free slots ≡ true →
    arming_places table slots ≡ table
free_armed table [] free = refl
free_armed table (None ∷ rest) free = free_armed table rest free
free_armed table (Some connection ∷ rest) free = absurd (cc)

listener_armed : (table : Table) (room : Bool) (listener : Option Listener) → table ≡ arming_listener table true listener →
    table ≡ arming_listener table room listener
listener_armed table true listener same = same
listener_armed table false None same = refl
listener_armed table false (Some listener) same = refl

-- the next poll has nothing to watch for a control socket at rest
pub rest_armed : {S : Type 0} (table : Table) (control : Control S) → are_places_free control.slots ≡ true →
    table ≡ arming_listener table true control.listener → table ≡ arming_control table control
rest_armed table control free same =
    listener_armed table (has_free control.slots) control.listener same
    ∙ sym (free_armed (arming_listener table (has_free control.slots) control.listener) control.slots free)

module _ {N S : Type 0} (transition : N → NetworkCall S → N → Type 0) (to_give taken : S → Option (List ℕ))
    (calls : S → Option (List StreamCall)) (run : RunStatus) (bots : List Bot) (table : Table) where
  free_advance : (number room : ℕ) (slots : List (Option (ControlConnection S))) → are_places_free slots ≡ true →
      PlacesAdvance to_give taken calls run bots table number room slots slots
  free_advance number room [] free = tt
  free_advance number room (None ∷ rest) free = (refl, free_advance (number + 1) room rest free)
  free_advance number room (Some connection ∷ rest) free = absurd (cc)

  -- the control socket stays as it is, and its orders are those before
  pub rests : (network : N) (old : Control S) → are_places_free old.slots ≡ true → is_listener_due table old.listener ≡ false →
      BeginsRound transition to_give taken calls run bots table network old
      (record { stops_accepting = old.stops_accepting; shows_sessions = false }) network old
  rests network old free not_due = record {
    mid = old.slots;
    advances = free_advance 0 (room_beside most_waiting old.slots) old.slots free;
    accepts = record { made = λ due room. absurd (cc); not_made = λ no. (refl, refl) };
    stops = or_false old.stops_accepting
        ∙ ap (λ (b : Bool). old.stops_accepting || b)
        (sym (none_at (λ connection. stops_run (ordered_by connection.answer)) old.slots free));
    at_once = or_false old.stops_now
        ∙ ap (λ (b : Bool). old.stops_now || b)
        (sym (none_at (λ connection. stops_run_now (ordered_by connection.answer)) old.slots free));
    returned = ap (λ (b : Bool). record { stops_accepting = old.stops_accepting; shows_sessions = b })
        (sym (none_at (λ connection. gathers_at connection.stage) old.slots free));
  }
