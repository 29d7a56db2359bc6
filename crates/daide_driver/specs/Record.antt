-- The effect of a trace of port calls on a session: its moves, and the bytes of each wire.
use Rattle.std.specs.Prelude.{◌≡◌, ℕ, Bool, true, false, List, [], ◌++◌}
use Rattle.daide_frame.specs.declared.side.Side.{Side}
use Rattle.daide_protocol.specs.Machine.{Effect, Runs, is_over}
use Rattle.daide_io.specs.Ports.{PortCall, EvolvesBy, events_of, taken, has_failed}
use Rattle.daide_protocol.specs.Wires.{SessionView, queued, sent_to, sent_bytes}

-- ---- the bytes sent and the bytes queued are the output

-- One wire: the bytes queued before, and the machine's output, are the bytes accepted and the bytes queued now. If the
-- wire failed, the bytes accepted are a front of them, nothing is queued, and the session is over.
abbrev pub Moved : Bool → Bool → List ℕ → List ℕ → List ℕ → List ℕ → Type 0
Moved false over waited answers took waits = waited ++ answers ≡ took ++ waits
Moved true over waited answers took waits =
    (over ≡ true) × (waits ≡ []) × ((rest : List ℕ) × (waited ++ answers ≡ took ++ rest))

-- By this trace the session goes from old to new. Its state is the machine's after the events of the trace. The bytes
-- that each wire accepted, with those that are queued, are the machine's output.
pub record DeliversOutput (old : SessionView) (trace : List PortCall) (new : SessionView) : Type 0 where
  pub effects : List Effect
  pub run : Runs old.state (events_of trace) effects new.state
  pub wires : (side : Side) → Moved (has_failed side trace) (is_over new.state.phase) (sent_bytes (queued old side))
      (sent_bytes (sent_to side effects)) (taken side trace) (sent_bytes (queued new side))

-- ---- a call

-- A call of this kind: by one trace of port calls, recorded or not, the session and the ports went from one pair to the
-- other.
pub record EvolveTogether {P : Type 0} (transition : P → PortCall → P → Type 0)
    (Kind : SessionView → List PortCall → SessionView → Type 0) (old new : SessionView × P) : Type 0 where
  pub call : List PortCall
  pub session : Kind old.0 call new.0
  pub ports : EvolvesBy transition old.1 call new.1
