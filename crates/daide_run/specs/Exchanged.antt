-- The bytes that a session exchanges with the two streams of its ports, for one session and for each session of a run.
use Rattle.std.specs.Prelude.{◌≡◌, ℕ, true, false, List, [], ◌++◌, Option, Contains}
use Rattle.std.specs.Io.KnownBytes.{Consumes, Appends}
use Rattle.daide_frame.specs.declared.side.Side.{Side}
use Rattle.daide_frame.specs.PerSide.{PerSide, at}
use Rattle.daide_protocol.specs.Heard.{bytes_from}
use Rattle.daide_protocol.specs.Machine.{Effect, Limits, Runs, initial_state}
use Rattle.daide_io.specs.Ports.{PortCall, EvolvesBy, events_of, taken, has_failed}
use Rattle.daide_io.specs.System.{SystemCall, Connects}
use Rattle.daide_protocol.specs.Wires.{SessionView, sent_to, sent_bytes, is_closed}
use Rattle.daide_io.specs.declared.system.Connect.TheVariants.{Ready}
use Rattle.daide_driver.specs.Headline.{IsBoundedAndExact}
use Rattle.daide_driver.specs.Slab.{SlotView}
use Rattle.daide_settings.specs.declared.settings.Settings.{Settings}
use Rattle.daide_event_loop.specs.Served.{IsServed, run_limits}
use Rattle.daide_buffered_io.specs.Buffers.{Buffer, Passes}
use Rattle.daide_buffered_io.specs.Streams.{Transfers}

-- ---- a session and its streams

-- By a trace of port calls a session and its two buffered streams went from a first state to the present one. The
-- machine handled events with the bytes that each side's stream returned, in order. The bytes put to each stream are a
-- front of the machine's output for these events; they are all of it if the session is closed and the wire did not
-- fail.
pub record Exchanges {S : Type 0} (to_give got : S → Option (List ℕ)) (limits : Limits) (history : List PortCall)
    (first : PerSide (Buffer S)) (g : SessionView) (now : PerSide (Buffer S)) : Type 0 where
  pub effects : List Effect
  pub run : Runs (initial_state limits) (events_of history) effects g.state
  pub passes : (side : Side) → Passes to_give got (at first side) (bytes_from side (events_of history))
      (taken side history) (at now side)
  pub front : (side : Side) → (rest : List ℕ) × (sent_bytes (sent_to side effects) ≡ taken side history ++ rest)
  pub all : is_closed g ≡ true → (side : Side) → has_failed side history ≡ false →
      taken side history ≡ sent_bytes (sent_to side effects)
  -- For a stream that began with empty buffers: the bytes that it gave are those that the session heard, followed by
  -- its read buffer. The bytes that it accepted, followed by its write buffer, are a front of the machine's output. If
  -- that buffer is empty, the session closed and the wire not failed, it accepted the whole output.
  pub heard : (side : Side) → (at first side).read_buffer ≡ [] →
      Consumes (to_give (at first side).stream) (to_give (at now side).stream)
      (bytes_from side (events_of history) ++ (at now side).read_buffer)
  pub sent : (side : Side) → (at first side).write_buffer ≡ [] →
      (went rest : List ℕ) × Appends (got (at first side).stream) (got (at now side).stream) went
      × (sent_bytes (sent_to side effects) ≡ went ++ ((at now side).write_buffer ++ rest))
  pub whole : is_closed g ≡ true → (side : Side) → has_failed side history ≡ false →
      (at first side).write_buffer ≡ [] → (at now side).write_buffer ≡ [] →
      Appends (got (at first side).stream) (got (at now side).stream) (sent_bytes (sent_to side effects))

-- A session that is bounded and exact by the trace of ports over two buffered streams exchanges with these streams
-- exactly the machine's input and output.
abbrev pub SessionsExchange : {S : Type 0} → (S → Option (List ℕ)) → (S → Option (List ℕ)) → Type 0
SessionsExchange {S} to_give got =
    (limits : Limits) (history : List PortCall) (first now : PerSide (Buffer S)) (g : SessionView) →
    EvolvesBy (Transfers to_give got) first history now → IsBoundedAndExact limits history g →
    Exchanges to_give got limits history first g now

-- ---- the sessions of a run

-- A session that a run served, over ports with two buffered streams. Since the connect of a place delivered its ports, it
-- exchanged with their streams exactly the machine's input and output.
abbrev pub ServedSessionsExchange : {P S : Type 0} → (P → PortCall → P → Type 0) → (P → PerSide (Buffer S)) →
    (S → Option (List ℕ)) → (S → Option (List ℕ)) → Type 0
ServedSessionsExchange {P} {S} transition streams to_give taken = (settings : Settings) (trace : List (SystemCall P))
    (now : SlotView P) → IsServed transition settings trace now →
    (place : ℕ) × (ports : P) × Contains trace (Connects place (Ready ports)) × ((history : List PortCall) ×
    Exchanges to_give taken (run_limits settings) history (streams ports) now.session (streams now.ports))
