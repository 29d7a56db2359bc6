-- What the sockets of a session know after a turn that made no progress.
use Rattle.std.proofs.Common.{◌≡◌, ℕ, zero, suc, ◌<◌, Bool, true, false, List, [], ◌∷◌, Option, length, get_or}
use Rattle.std.proofs.Common.{refl, sym, ◌∙◌, subst, arith, ◌⊎◌, inl, inr, ⊎_elim}
use Rattle.std.specs.Prelude.{All}
use Rattle.std.proofs.lemmas.List.Elements.{All-head, All-tail}
use Rattle.daide_frame.specs.declared.side.Side.{Side}
use Rattle.daide_frame.specs.PerSide.{PerSide, at}
use Rattle.daide_frame.specs.Side.{other}
use Rattle.daide_io.specs.declared.ports.Pull.{Pull}
use Rattle.daide_io.specs.declared.ports.Put.{Put}
use Rattle.daide_io.specs.declared.ports.Put.TheVariants.{Took}
use Rattle.daide_io.specs.Streams.{StreamCall}
use Rattle.daide_io.specs.Ports.{PortCall, TurnBegins, Clock, Pulled, Offered, EvolvesBy}
use Rattle.daide_event_loop.specs.Waiting.{MakesNoProgress, IsOfTurn}
use Rattle.daide_buffered_io.proofs.StreamLemmas.{of_both}
use Rattle.daide_sockets.specs.declared.socket.Socket.{Socket}
use Rattle.daide_sockets.specs.Wakeups.{StaysUnread, IsNothing, IsPulled, IsOffered, Settles, SessionSockets, socket_at}

-- ---- one socket

module _ {S : Type 0} where
  -- nothing is left that may be read, or something must be tried again
  abbrev pub IsQuiet : Socket S → Type 0
  IsQuiet socket = (socket.tries_again ≡ true) ⊎ ((socket.readiness.may_read ≡ false) × (socket.stream.read_buffer ≡ []))

  -- it is not writable, or something must be tried again
  abbrev pub IsFull : Socket S → Type 0
  IsFull socket = (socket.tries_again ≡ true) ⊎ (socket.readiness.may_write ≡ false)

  quiet_pulled : (room : ℕ) (pull : Pull) (old new : Socket S) → IsPulled room pull old new → IsNothing pull → 0 < room →
      IsQuiet new
  quiet_pulled room pull old new h none some = by new.tries_again refl
    where
      by : (tries : Bool) → new.tries_again ≡ tries → IsQuiet new
      by true e = inl e
      by false e = inr (h.none_left none some e)

  full_pulled : (room : ℕ) (pull : Pull) (old new : Socket S) → IsPulled room pull old new → IsFull old → IsFull new
  full_pulled room pull old new h f = ⊎_elim (λ (t : old.tries_again ≡ true). inl (h.tries_again t))
      (λ (w : old.readiness.may_write ≡ false). inr (h.writes ∙ w)) f

module _ {S : Type 0} {streams : S → Option (List StreamCall)} where
  quiet_stays : (old new : Socket S) → StaysUnread streams old new → IsQuiet old → IsQuiet new
  quiet_stays old new h q = ⊎_elim (λ (t : old.tries_again ≡ true). inl (h.tries_again t))
      (λ (r : (old.readiness.may_read ≡ false) × (old.stream.read_buffer ≡ [])). inr (h.may_read ∙ r.0, h.ahead ∙ r.1)) q

  full_stays : (old new : Socket S) → StaysUnread streams old new → IsFull old → IsFull new
  full_stays old new h f = ⊎_elim (λ (t : old.tries_again ≡ true). inl (h.tries_again t))
      (λ (w : old.readiness.may_write ≡ false). inr (h.full w)) f

  full_offered : (bytes : List ℕ) (put : Put) (old new : Socket S) → IsOffered streams bytes put old new → put ≡ Took 0 →
      0 < length bytes → IsFull new
  full_offered bytes put old new h none some = by new.tries_again refl
    where
      by : (tries : Bool) → new.tries_again ≡ tries → IsFull new
      by true e = inl e
      by false e = inr (h.none_taken none some e)

-- ---- one call

module _ {S : Type 0} where
  -- what `Settles` says, by the calls of some streams
  abbrev pub AreSettled : PortCall → PerSide (Socket S) → PerSide (Socket S) → Type 0
  AreSettled call old new = (streams : S → Option (List StreamCall)) × Settles streams call old new

  quiet_step : (call : PortCall) (old new : PerSide (Socket S)) → AreSettled call old new → MakesNoProgress call →
      IsOfTurn call → (side : Side) → IsQuiet (at old side) → IsQuiet (at new side)
  quiet_step TurnBegins old new h still made = absurd made
  quiet_step (Clock event) old new h still made =
      λ side q. subst (λ (sides : PerSide (Socket S)). IsQuiet (at sides side)) (sym h.1) q
  quiet_step (Pulled side room pull bytes) old new h still made =
      of_both (λ (one : Side). IsQuiet (at old one) → IsQuiet (at new one)) side
      (λ q. quiet_pulled room pull (at old side) (at new side) h.1.0 still made)
      (quiet_stays (at old (other side)) (at new (other side)) h.1.1)
  quiet_step (Offered side bytes put) old new h still made =
      of_both (λ (one : Side). IsQuiet (at old one) → IsQuiet (at new one)) side
      (quiet_stays (at old side) (at new side) h.1.0.unread) (quiet_stays (at old (other side)) (at new (other side)) h.1.1)

  full_step : (call : PortCall) (old new : PerSide (Socket S)) → AreSettled call old new → IsOfTurn call →
      (side : Side) → IsFull (at old side) → IsFull (at new side)
  full_step TurnBegins old new h made = absurd made
  full_step (Clock event) old new h made =
      λ side f. subst (λ (sides : PerSide (Socket S)). IsFull (at sides side)) (sym h.1) f
  full_step (Pulled side room pull bytes) old new h made =
      of_both (λ (one : Side). IsFull (at old one) → IsFull (at new one)) side
      (full_pulled room pull (at old side) (at new side) h.1.0) (full_stays (at old (other side)) (at new (other side)) h.1.1)
  full_step (Offered side bytes put) old new h made =
      of_both (λ (one : Side). IsFull (at old one) → IsFull (at new one)) side
      (full_stays (at old side) (at new side) h.1.0.unread) (full_stays (at old (other side)) (at new (other side)) h.1.1)

-- ---- the calls of a turn

-- the calls of ports do to the sockets of their session what `Settles` says
abbrev pub PortsSettle : {P S : Type 0} → (P → PortCall → P → Type 0) → (P → SessionSockets S) → Type 0
PortsSettle {P} port_transition view = (old new : P) (call : PortCall) → port_transition old call new →
    AreSettled call (view old).sides (view new).sides

module _ {P S : Type 0} (port_transition : P → PortCall → P → Type 0) (view : P → SessionSockets S)
    (settles : PortsSettle port_transition view) (side : Side) where
  abbrev own : P → Socket S
  own ports = socket_at (view ports) side

  quiet_later : (calls : List PortCall) (a b : P) → EvolvesBy port_transition a calls b → All MakesNoProgress calls →
      All IsOfTurn calls → IsQuiet (own a) → IsQuiet (own b)
  quiet_later [] a b h still made q = subst (λ (ports : P). IsQuiet (own ports)) (sym h) q
  quiet_later (call ∷ calls) a b h still made q =
      quiet_later calls h.0 b h.2 (All-tail MakesNoProgress call calls still) (All-tail IsOfTurn call calls made)
      (quiet_step call (view a).sides (view h.0).sides (settles a h.0 call h.1) (All-head MakesNoProgress call calls still)
      (All-head IsOfTurn call calls made) side q)

  full_later : (calls : List PortCall) (a b : P) → EvolvesBy port_transition a calls b → All IsOfTurn calls →
      IsFull (own a) → IsFull (own b)
  full_later [] a b h made f = subst (λ (ports : P). IsFull (own ports)) (sym h) f
  full_later (call ∷ calls) a b h made f =
      full_later calls h.0 b h.2 (All-tail IsOfTurn call calls made)
      (full_step call (view a).sides (view h.0).sides (settles a h.0 call h.1) (All-head IsOfTurn call calls made) side f)

  -- after a pull of the side that returned nothing
  pub quiet_found : (room : ℕ) (pull : Pull) (bytes : List ℕ) (calls : List PortCall) (k : ℕ) → k < length calls →
      get_or calls k (Pulled side room pull bytes) ≡ Pulled side room pull bytes → (a b : P) →
      EvolvesBy port_transition a calls b → All MakesNoProgress calls → All IsOfTurn calls → IsQuiet (own b)
  quiet_found room pull bytes [] k less is a b h still made = absurd (omega (arith, less))
  quiet_found room pull bytes (call ∷ calls) zero less is a b h still made =
      quiet_later calls h.0 b h.2 (All-tail MakesNoProgress call calls still) (All-tail IsOfTurn call calls made)
      (quiet_pulled room pull (own a) (own h.0)
      (settles a h.0 (Pulled side room pull bytes) (subst (λ (c : PortCall). port_transition a c h.0) is h.1)).1.0
      (subst MakesNoProgress is (All-head MakesNoProgress call calls still))
      (subst IsOfTurn is (All-head IsOfTurn call calls made)))
  quiet_found room pull bytes (call ∷ calls) (suc k) less is a b h still made =
      quiet_found room pull bytes calls k (omega (arith, less)) is h.0 b h.2 (All-tail MakesNoProgress call calls still)
      (All-tail IsOfTurn call calls made)

  -- after a put to the side that nothing was taken of
  pub full_found : (bytes : List ℕ) (calls : List PortCall) (k : ℕ) → k < length calls →
      get_or calls k (Offered side bytes (Took 0)) ≡ Offered side bytes (Took 0) → (a b : P) →
      EvolvesBy port_transition a calls b → All IsOfTurn calls → IsFull (own b)
  full_found bytes [] k less is a b h made = absurd (omega (arith, less))
  full_found bytes (call ∷ calls) zero less is a b h made =
      full_later calls h.0 b h.2 (All-tail IsOfTurn call calls made)
      (full_offered bytes (Took 0) (own a) (own h.0)
      (settles a h.0 (Offered side bytes (Took 0)) (subst (λ (c : PortCall). port_transition a c h.0) is h.1)).1.0 refl
      (subst IsOfTurn is (All-head IsOfTurn call calls made)))
  full_found bytes (call ∷ calls) (suc k) less is a b h made =
      full_found bytes calls k (omega (arith, less)) is h.0 b h.2 (All-tail IsOfTurn call calls made)
