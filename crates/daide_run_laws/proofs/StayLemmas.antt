-- While no byte moves, the timeouts of a peer stay.
use Rattle.std.proofs.Common.{◌≡◌, ◌⊎◌, ℕ, ◌<◌, Bool, true, false, List, [], ◌∷◌, ◌+◌, length, refl, ap, ◌∙◌, subst, arith, inl, inr, ⊎_elim}
use Rattle.std.proofs.Common.{Option, Some, None}
use Rattle.std.specs.Prelude.{nat_lt}
use Rattle.std.proofs.lemmas.Bool.{le-ltb}
use Rattle.std.specs.declared.time.Duration.{Duration}
use Rattle.std.specs.declared.time.Instant.{Instant}
use Rattle.daide_frame.specs.declared.side.Side.{Side}
use Rattle.daide_frame.specs.Side.{other}
use Rattle.daide_protocol.proofs.WireLemmas.{same_self}
use Rattle.daide_buffered_io.proofs.StreamLemmas.{of_both}
use Rattle.daide_io.specs.declared.ports.Pull.{Pull}
use Rattle.daide_io.specs.declared.ports.Put.{Put}
use Rattle.daide_io.specs.declared.ports.Put.TheVariants.{Took}
use Rattle.daide_io.specs.Ports.{PortCall, TurnBegins, Clock, Pulled, Offered, EvolvesBy}
use Rattle.daide_sockets.specs.declared.socket.Socket.{Socket}
use Rattle.daide_sockets.specs.Timers.{SessionTimers, StallGoesOn, FlushesInTime, BeginsInTime, PullsInTime, PutsInTime, StallsAfterPut, SetsTimers, is_got}
use Rattle.daide_sockets.specs.Clock.{StallsNext}
use Rattle.daide_run_laws.specs.FreedPlaces.{held_len, MovesNoByte, KeepsTimeouts, IsQuietFor, TimeoutsStay}
use Rattle.daide_run_laws.proofs.TimedSessions.{PortsSetTimers, own, step_stall}

next_stays : (time : Option Duration) (now before after : Option Instant) (took : Bool) → took ≡ false →
    StallsNext time now before took after → (moment : Instant) → before ≡ Some moment → after ≡ Some moment
next_stays time now None after took none h moment e = absurd (cc)
next_stays time now (Some one) after true none h moment e = absurd (cc)
next_stays time now (Some one) after false none h moment e = h ∙ e

module _ {S : Type 0} where
  same_timeouts : (old new : Socket S) → new ≡ old → KeepsTimeouts old new
  same_timeouts old new e = record {
    silence = ap (λ (s : Socket S). s.silent_from) e;
    stall = λ moment is. inl (ap (λ (s : Socket S). s.stalls_at) e ∙ is);
  }

  -- a stall timeout that goes on unless the wire failed
  unless_failed : (old new : Socket S) → new.silent_from ≡ old.silent_from →
      (new.stream.has_failed ≡ false → StallGoesOn old new) → KeepsTimeouts old new
  unless_failed old new silence on = record {
    silence = silence;
    stall = λ moment is. by new.stream.has_failed refl moment is;
  }
    where
      by : (failed : Bool) → new.stream.has_failed ≡ failed → (moment : Instant) → old.stalls_at ≡ Some moment →
          (new.stalls_at ≡ Some moment) ⊎ (new.stream.has_failed ≡ true)
      by true e moment is = inr e
      by false e moment is = inl (on e moment is)

  flushed_stays : (reading : Option Instant) (old new : Socket S) → FlushesInTime reading old new →
      held_len new ≡ held_len old → KeepsTimeouts old new
  flushed_stays reading old new h same = unless_failed old new h.kept.silent_from (λ fine. h.stall.goes_on fine same)

  begun_stays : (reading : Option Instant) (old new : Socket S) → BeginsInTime reading old new →
      held_len new ≡ held_len old → KeepsTimeouts old new
  begun_stays reading old new h same = unless_failed old new h.kept.silent_from (λ fine. h.stall.goes_on fine same)

  pulled_stays : (reading : Option Instant) (time : Option Duration) (pull : Pull) (old new : Socket S) →
      PullsInTime reading time pull old new → is_got pull ≡ false → KeepsTimeouts old new
  pulled_stays reading time pull old new h none = record {
    silence = h.goes_on none;
    stall = λ moment is. inl (h.stalls_at ∙ is);
  }

  put_stays : (reading : Option Instant) (bytes : List ℕ) (put : Put) (old new : Socket S) →
      PutsInTime reading bytes put old new → put ≡ Took 0 → 0 < length bytes → held_len new ≡ held_len old →
      KeepsTimeouts old new
  put_stays reading bytes put old new h none some same = record {
    silence = h.kept.silent_from;
    stall = λ moment is. inl (next_stays old.stall_time reading old.stalls_at new.stalls_at
        (nat_lt (length new.stream.write_buffer) (length old.stream.write_buffer + 0))
        (le-ltb (length new.stream.write_buffer) (length old.stream.write_buffer + 0) (omega (arith, same)))
        ((subst (λ (p : Put). StallsAfterPut reading (length bytes) p old new) none h.stall).0 (inl some)) moment is);
  }

  call_stays : (call : PortCall) (old new : SessionTimers S) → SetsTimers call old new → (side : Side) →
      MovesNoByte side call → held_len (own new side) ≡ held_len (own old side) → KeepsTimeouts (own old side) (own new side)
  call_stays TurnBegins old new h = λ side quiet same.
      begun_stays new.sockets.reading (own old side) (own new side) (h.3 side) same
  call_stays (Clock event) old new h = λ side quiet same.
      same_timeouts (own old side) (own new side) (ap (λ (s : SessionTimers S). own s side) h.1)
  call_stays (Pulled side room pull bytes) old new h =
      of_both (λ (one : Side). MovesNoByte one (Pulled side room pull bytes) → held_len (own new one) ≡ held_len (own old one) →
      KeepsTimeouts (own old one) (own new one)) side
      (λ quiet same. pulled_stays old.sockets.reading old.idle_time pull (own old side) (own new side) h.1 (quiet (same_self side)))
      (λ quiet same. flushed_stays old.sockets.reading (own old (other side)) (own new (other side)) h.2 same)
  call_stays (Offered side bytes put) old new h =
      of_both (λ (one : Side). MovesNoByte one (Offered side bytes put) → held_len (own new one) ≡ held_len (own old one) →
      KeepsTimeouts (own old one) (own new one)) side
      (λ quiet same. let none = quiet (same_self side) in
      put_stays old.sockets.reading bytes put (own old side) (own new side) h.1 none.0 none.1 same)
      (λ quiet same. flushed_stays old.sockets.reading (own old (other side)) (own new (other side)) h.2 same)

  -- one call after another: a wire that failed stays failed
  stays_then : (a b c : Socket S) → KeepsTimeouts a b → KeepsTimeouts b c →
      (b.stream.has_failed ≡ true → c.stream.has_failed ≡ true) → KeepsTimeouts a c
  stays_then a b c h k fails = record {
    silence = k.silence ∙ h.silence;
    stall = λ moment is. ⊎_elim (λ (e : b.stalls_at ≡ Some moment). k.stall moment e)
        (λ (e : b.stream.has_failed ≡ true). inr (fails e)) (h.stall moment is);
  }

module _ {P S : Type 0} (port_transition : P → PortCall → P → Type 0) (timers : P → SessionTimers S)
    (keeps : PortsSetTimers port_transition timers) (side : Side) where
  abbrev at : P → Socket S
  at ports = own (timers ports) side

  one_stays : (call : PortCall) (a b : P) → port_transition a call b → MovesNoByte side call →
      held_len (at b) ≡ held_len (at a) → KeepsTimeouts (at a) (at b)
  one_stays call a b h quiet same = call_stays call (timers a) (timers b) (keeps a b call h) side quiet same

  one_fails : (call : PortCall) (a b : P) → port_transition a call b →
      (at a).stream.has_failed ≡ true → (at b).stream.has_failed ≡ true
  one_fails call a b h failed = ((step_stall call (timers a) (timers b) (keeps a b call h) side).failed failed).0

  fails_on : (calls : List PortCall) (a b : P) → EvolvesBy port_transition a calls b →
      (at a).stream.has_failed ≡ true → (at b).stream.has_failed ≡ true
  fails_on [] a b h failed = ap (λ (ports : P). (at ports).stream.has_failed) h ∙ failed
  fails_on (call ∷ calls) a b h failed = fails_on calls h.0 b h.2 (one_fails call a h.0 h.1 failed)

  all_stay : (calls : List PortCall) (a b : P) (h : EvolvesBy port_transition a calls b) →
      IsQuietFor port_transition timers side calls a b h → KeepsTimeouts (at a) (at b)
  all_stay [] a b h quiet = same_timeouts (at a) (at b) (ap at h)
  all_stay (call ∷ calls) a b h quiet =
      stays_then (at a) (at h.0) (at b) (one_stays call a h.0 h.1 quiet.0 quiet.1) (all_stay calls h.0 b h.2 quiet.2)
      (fails_on calls h.0 b h.2)

pub timeouts_stay : {P S : Type 0} (port_transition : P → PortCall → P → Type 0) (timers : P → SessionTimers S) →
    PortsSetTimers port_transition timers → TimeoutsStay port_transition timers
timeouts_stay port_transition timers keeps =
    λ settings trace mid late place side from quiet.
    all_stay port_transition timers keeps side late mid place.ports from.since quiet
