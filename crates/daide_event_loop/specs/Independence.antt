-- Sessions of runs do not influence one another: what a session's own port calls returned decides its state, its bytes,
-- its counts and its end, whatever the other sessions, the system and the network do. (own)
use Rattle.std.specs.Prelude.{◌≡◌, ℕ, List, [], ◌∷◌, length}
use Rattle.daide_frame.specs.declared.side.Side.{Side}
use Rattle.daide_protocol.specs.Wires.{SessionView, queued, sent_bytes}
use Rattle.daide_io.specs.declared.ports.ClockEvent.{ClockEvent}
use Rattle.daide_io.specs.declared.ports.Pull.{Pull}
use Rattle.daide_io.specs.declared.ports.Put.{Put}
use Rattle.daide_io.specs.declared.system.SessionEnd.{SessionEnd}
use Rattle.daide_io.specs.Ports.{PortCall, TurnBegins, Clock, Pulled, Offered, taken}
use Rattle.daide_io.specs.System.{SystemCall}
use Rattle.daide_settings.specs.declared.settings.Settings.{Settings}
use Rattle.daide_driver.specs.Slab.{SlotView}
use Rattle.daide_event_loop.specs.Served.{run_limits, IsServed, IsEndOf}

-- What one step of the ports returned, without what the session handed in: a turn began; what the clock reported;
-- the result of a pull, with the bytes received; the result of a put.
pub data PortResult : Type 0 where
  TurnBegan : PortResult
  ClockRead : (event : ClockEvent) → PortResult
  Received : (side : Side) → (pull : Pull) → (bytes : List ℕ) → PortResult
  Handed : (side : Side) → (put : Put) → PortResult

abbrev pub result_of : PortCall → PortResult
result_of TurnBegins = TurnBegan
result_of (Clock event) = ClockRead event
result_of (Pulled side buffer pull bytes) = Received side pull bytes
result_of (Offered side bytes put) = Handed side put

-- the results of a trace of port calls
abbrev pub results_of : List PortCall → List PortResult
results_of [] = []
results_of (call ∷ calls) = result_of call ∷ results_of calls

-- two runs judge by the same limits, and give a session the same number of turns; their other settings may differ
pub record HaveSameRules (one other : Settings) : Type 0 where
  pub limits : run_limits one ≡ run_limits other
  pub turns : one.turns ≡ other.turns

-- Two sessions, each with all its port calls: they have the same state and the same counts. If the wires to a side took
-- as many bytes, they took the same bytes, and the same bytes are queued.
pub record AreAlike (one : SessionView) (calls : List PortCall) (other : SessionView) (other_calls : List PortCall) :
    Type 0 where
  pub state : one.state ≡ other.state
  pub counts : one.account ≡ other.account
  pub sent : (side : Side) → length (taken side calls) ≡ length (taken side other_calls) →
      (taken side calls ≡ taken side other_calls) × (sent_bytes (queued one side) ≡ sent_bytes (queued other side))

-- Take a session of each of two runs with the same rules, of any two systems with any two kinds of ports. If the port
-- calls of the two sessions returned the same, the sessions are alike, and so are the ends that are reported of them.
abbrev pub SessionsAreIndependent : {P Q : Type 0} → (P → PortCall → P → Type 0) → (Q → PortCall → Q → Type 0) → Type 0
SessionsAreIndependent {P} {Q} transition other_transition =
    (settings other_settings : Settings) (trace : List (SystemCall P)) (other_trace : List (SystemCall Q))
    (now : SlotView P) (other_now : SlotView Q)
    (session : IsServed transition settings trace now)
    (other_session : IsServed other_transition other_settings other_trace other_now) →
    HaveSameRules settings other_settings → results_of session.history ≡ results_of other_session.history →
    AreAlike now.session session.history other_now.session other_session.history
    × ((end other_end : SessionEnd) → IsEndOf (run_limits settings) settings.turns session.history now.session end →
    IsEndOf (run_limits other_settings) other_settings.turns other_session.history other_now.session other_end →
    end ≡ other_end)
