-- A place that rests by the trace of a run is quiet by its table.
use Rattle.std.proofs.Common.{◌≡◌, ◌≢◌, ℕ, zero, suc, ◌<◌, Bool, true, false, List, [], ◌∷◌, length, refl, sym, ap, ◌∙◌, subst, arith, eq-eqb}
use Rattle.std.specs.Prelude.{◌||◌, ◌&&◌, not, ◌==◌, if◌then◌else◌, Option, Some, slice_get, slice_set}
use Rattle.std.specs.declared.time.Instant.{Instant}
use Rattle.daide_frame.specs.declared.side.Side.{Side}
use Rattle.daide_frame.specs.declared.side.Side.TheVariants.{Bot, Server}
use Rattle.daide_io.specs.Network.{NetworkCall}
use Rattle.daide_io.specs.ReadyQueue.{is_among}
use Rattle.daide_io.specs.Streams.{StreamCall}
use Rattle.daide_io.specs.System.{SystemCall, Polls, Shows, Accepts, Connects, BeginsTurn, Rests, Retires, Notifies}
use Rattle.daide_io.specs.System.{TransitsBy, is_about, last_about}
use Rattle.daide_buffered_io.specs.declared.readiness.Readiness.{Readiness}
use Rattle.daide_sockets.specs.declared.socket.Socket.{Socket}
use Rattle.daide_sockets.specs.Sockets.{has_socket_work, is_some_byte}
use Rattle.daide_sockets.specs.Table.{Table, row_at, row_or_free, no_report, report_at, has_report, is_reported_at, key_of, deadline_at}
use Rattle.daide_sockets.specs.Table.{AreDeadlinesBounded, deadline_in, resting, without_report, without_reports}
use Rattle.daide_sockets.specs.Wakeups.{Wakes, RestsFor, KeepsPlace, SessionSockets, may_go_on, may_session_go_on, session_due, socket_at}

left_false : (a b : Bool) → (a || b) ≡ false → a ≡ false
left_false false b e = refl
left_false true b e = absurd (cc)

right_false : (a b : Bool) → (a || b) ≡ false → b ≡ false
right_false false b e = e
right_false true b e = absurd (cc)

-- nothing may be done at once for the session at a place, and the place has the session's deadline
pub record IsQuiet {S : Type 0} (table : Table) (place : ℕ) (session : SessionSockets S) : Type 0 where
  pub none : may_session_go_on table place session ≡ false
  pub due : deadline_at table place ≡ session_due session

-- something may be done at once for a socket with this report in its row
abbrev may_go_by : {S : Type 0} → Readiness → Socket S → Bool
may_go_by report socket = has_report report || has_socket_work socket.stream socket.readiness socket.tries_again

-- what a place keeps, its session keeps
kept : {S : Type 0} (old : Table) (place : ℕ) (new : Table) (session : SessionSockets S) → KeepsPlace old place new →
    IsQuiet old place session → IsQuiet new place session
kept old place new session keeps quiet = record {
  none = ap (λ (r : Readiness). may_go_by r session.sides.bot || may_go_on new (key_of place Server) session.sides.server)
      (keeps.reports Bot)
      ∙ ap (λ (r : Readiness). may_go_on old (key_of place Bot) session.sides.bot || may_go_by r session.sides.server)
      (keeps.reports Server)
      ∙ quiet.none;
  due = keeps.deadline ∙ quiet.due;
}

module _ {S : Type 0} (table : Table) (place : ℕ) (session : SessionSockets S) (quiet : IsQuiet table place session) where
  still : (side : Side) → may_go_on table (key_of place side) (socket_at session side) ≡ false
  still Bot = left_false (may_go_on table (key_of place Bot) session.sides.bot) (may_go_on table (key_of place Server) session.sides.server) quiet.none
  still Server = right_false (may_go_on table (key_of place Bot) session.sides.bot) (may_go_on table (key_of place Server) session.sides.server) quiet.none

  abbrev work : Side → Bool
  work side = has_socket_work (socket_at session side).stream (socket_at session side).readiness (socket_at session side).tries_again

  -- nothing is reported of either socket
  pub none_reported : (side : Side) → is_reported_at table (key_of place side) ≡ false
  none_reported side = left_false (is_reported_at table (key_of place side)) (work side) (still side)

  pub no_tries : (side : Side) → (socket_at session side).tries_again ≡ false
  no_tries side =
      left_false (socket_at session side).tries_again
      ((is_some_byte (socket_at session side).stream.write_buffer && not (socket_at session side).stream.has_failed)
      && (socket_at session side).readiness.may_write)
      (right_false (is_reported_at table (key_of place side)) (work side) (still side))

  pub no_writes : (side : Side) → ((is_some_byte (socket_at session side).stream.write_buffer
      && not (socket_at session side).stream.has_failed) && (socket_at session side).readiness.may_write) ≡ false
  no_writes side =
      right_false (socket_at session side).tries_again
      ((is_some_byte (socket_at session side).stream.write_buffer && not (socket_at session side).stream.has_failed)
      && (socket_at session side).readiness.may_write)
      (right_false (is_reported_at table (key_of place side)) (work side) (still side))

pub set_other : {X : Type 0} (xs : List X) (i j : ℕ) (x : X) → i ≢ j → slice_get (slice_set xs i x) j ≡ slice_get xs j
set_other [] i j x e = refl
set_other (y ∷ ys) zero zero x e = absurd (e refl)
set_other (y ∷ ys) zero (suc j) x e = refl
set_other (y ∷ ys) (suc i) zero x e = refl
set_other (y ∷ ys) (suc i) (suc j) x e = set_other ys i j x (λ h. e (ap (λ (n : ℕ). suc n) h))

set_own : {X : Type 0} (xs : List X) (i : ℕ) (x : X) → i < length xs → slice_get (slice_set xs i x) i ≡ Some x
set_own [] i x l = absurd (omega (arith, l))
set_own (y ∷ ys) zero x l = refl
set_own (y ∷ ys) (suc i) x l = set_own ys i x (omega (arith, l))

different : (i j : ℕ) → (i == j) ≡ false → i ≢ j
different i j e h = absurd (let yes : (i == j) ≡ true = eq-eqb i j h in cc)

-- another key keeps its report
taken_other : (table : Table) (one key : ℕ) → one ≢ key → report_at (without_report table one) key ≡ report_at table key
taken_other table one key ne =
    ap (λ r. (row_or_free r).report) (set_other table.rows one key (record (row_at table.rows one) { report = no_report }) ne)

keys_differ : (one other : ℕ) (side at : Side) → one ≢ other → key_of one side ≢ key_of other at
keys_differ one other Bot Bot ne h = ne (omega (arith, h))
keys_differ one other Bot Server ne h = absurd (omega (arith, h))
keys_differ one other Server Bot ne h = absurd (omega (arith, h))
keys_differ one other Server Server ne h = ne (omega (arith, h))

-- a turn takes no report of another place
taken : (old : Table) (place other : ℕ) → (place == other) ≡ false → KeepsPlace old other (without_reports old place)
taken old place other e = record {
  reports = λ side. taken_other (without_report old (key_of place Bot)) (key_of place Server) (key_of other side) (keys_differ place other Server side (different place other e))
      ∙ taken_other old (key_of place Bot) (key_of other side) (keys_differ place other Bot side (different place other e));
  deadline = refl;
}

-- a place that rests leaves the others
rested : (old : Table) (place other : ℕ) (due : Option Instant) → (place == other) ≡ false → KeepsPlace old other (resting old place due)
rested old place other due e = record {
  reports = λ side. refl;
  deadline = ap (λ (d : Option (Option Instant)). deadline_in d) (set_other old.deadlines place other due (different place other e));
}

same : (old : Table) (place : ℕ) → KeepsPlace old place old
same old place = record { reports = λ side. refl; deadline = refl }

module _ {P S N C : Type 0} (transition : N → NetworkCall C → N → Type 0) (calls : S → Option (List StreamCall))
    (view : P → SessionSockets S) where
  abbrev pub Quiet : ℕ → Option (SystemCall P) → Table → Type 0
  Quiet place last table = (ports : P) → last ≡ Some (Rests place ports true) → IsQuiet table place (view ports)

  -- a call that is about a place or keeps it
  about : (place : ℕ) (b : Bool) (call : SystemCall P) (last : Option (SystemCall P)) (old new : Table) →
      (b ≡ false → KeepsPlace old place new) → ((ports : P) → Some call ≡ Some (Rests place ports true) → IsQuiet new place (view ports)) →
      Quiet place last old → Quiet place (if b then Some call else last) new
  about place true call last old new keeps own quiet ports e = own ports e
  about place false call last old new keeps own quiet ports e = kept old place new (view ports) (keeps refl) (quiet ports e)

  own_rest : (place other : ℕ) (rests : Bool) (mine ports : P) (old new : Table) → place < length old.deadlines →
      RestsFor rests old other (view mine) new → Some (Rests other mine rests) ≡ Some (Rests place ports true) →
      IsQuiet new place (view ports)
  own_rest place other false mine ports old new l h e = absurd (cc)
  own_rest place other true mine ports old new l h e =
      let at : other ≡ place = cc in
      let of : mine ≡ ports = cc in
      subst (λ (p : P). IsQuiet new place (view p)) of (subst (λ (k : ℕ). IsQuiet new k (view mine)) at
      (subst (λ (t : Table). IsQuiet t other (view mine)) (sym h.1) (record {
        none = h.0;
        due = ap (λ (d : Option (Option Instant)). deadline_in d) (set_own old.deadlines other (session_due (view mine)) (subst (λ (k : ℕ). k < length old.deadlines) (sym at) l));
      })))

  rest_other : (place other : ℕ) (rests : Bool) (mine : P) (old new : Table) → (other == place) ≡ false →
      RestsFor rests old other (view mine) new → KeepsPlace old place new
  rest_other place other false mine old new e h = subst (λ (t : Table). KeepsPlace old place t) (sym h.1) (same old place)
  rest_other place other true mine old new e h =
      subst (λ (t : Table). KeepsPlace old place t) (sym h.1) (rested old other place (session_due (view mine)) e)

  step : (old new : N × Table) (call : SystemCall P) (last : Option (SystemCall P)) (place : ℕ) → place < length old.1.deadlines →
      Wakes transition calls view old call new → Quiet place last old.1 →
      Quiet place (if is_about place call then Some call else last) new.1
  step old new (Polls may_block woken orders) last place l h quiet =
      about place (is_among place woken) (Polls may_block woken orders) last old.1 new.1
      (λ e. (h.1.1.asleep place l e).0) (λ ports e. absurd (cc)) quiet
  step old new (Shows ports status) last place l h quiet = subst (λ (s : N × Table). Quiet place last s.1) (sym h.1) quiet
  step old new (Accepts other came) last place l h quiet =
      about place (other == place) (Accepts other came) last old.1 new.1 (λ e. h.1 place l e) (λ ports e. absurd (cc)) quiet
  step old new (Connects other connect) last place l h quiet =
      about place (other == place) (Connects other connect) last old.1 new.1 (λ e. h.1.1 place l e) (λ ports e. absurd (cc)) quiet
  step old new (BeginsTurn other account before after) last place l h quiet =
      about place (other == place) (BeginsTurn other account before after) last old.1 new.1
      (λ e. subst (λ (t : Table). KeepsPlace old.1 place t) (sym h.1.1.table) (taken old.1 other place e)) (λ ports e. absurd (cc)) quiet
  step old new (Rests other mine rests) last place l h quiet =
      about place (other == place) (Rests other mine rests) last old.1 new.1
      (λ e. rest_other place other rests mine old.1 new.1 e h.1.1)
      (λ ports e. own_rest place other rests mine ports old.1 new.1 l h.1.1 e) quiet
  step old new (Retires other ports end) last place l h quiet =
      about place (other == place) (Retires other ports end) last old.1 new.1 (λ e. h.1.1 place l e) (λ ports e. absurd (cc)) quiet
  step old new (Notifies notice) last place l h quiet = subst (λ (s : N × Table). Quiet place last s.1) (sym h.1) quiet

  -- after any calls the session of a place at rest is quiet
  pub rests_quiet : (trace : List (SystemCall P)) (old new : N × Table) (last : Option (SystemCall P)) (place : ℕ) → place < length old.1.deadlines →
      TransitsBy (Wakes transition calls view) old trace new → Quiet place last old.1 →
      Quiet place (last_about place last trace) new.1
  rests_quiet [] old new last place l h quiet = subst (λ (s : N × Table). Quiet place last s.1) (sym h) quiet
  rests_quiet (call ∷ trace) old new last place l h quiet =
      rests_quiet trace h.0 new (if is_about place call then Some call else last) place
      (subst (λ (n : ℕ). place < n) (sym h.1.0.places) l) h.2 (step old h.0 call last place l h.1 quiet)

  -- each call keeps the number of places
  pub places_kept : (trace : List (SystemCall P)) (old new : N × Table) → TransitsBy (Wakes transition calls view) old trace new →
      length new.1.deadlines ≡ length old.1.deadlines
  places_kept [] old new h = ap (λ (s : N × Table). length s.1.deadlines) h
  places_kept (call ∷ trace) old new h = places_kept trace h.0 new h.2 ∙ h.1.0.places

  -- after any call no place has a deadline before `due`
  pub bounded_after : (call : SystemCall P) (trace : List (SystemCall P)) (old new : N × Table) →
      TransitsBy (Wakes transition calls view) old (call ∷ trace) new → AreDeadlinesBounded new.1
  bounded_after call [] old new h = subst (λ (s : N × Table). AreDeadlinesBounded s.1) (sym h.2) h.1.0.bounded
  bounded_after call (next ∷ trace) old new h = bounded_after next trace h.0 new h.2
