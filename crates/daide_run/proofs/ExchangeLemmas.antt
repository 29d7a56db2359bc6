-- Ports over two streams move the bytes of their calls, in a run too.
use Rattle.std.proofs.Common.{ℕ, List, [], ◌∷◌, Option, ap}
use Rattle.std.specs.Prelude.{Contains}
use Rattle.daide_frame.specs.PerSide.{PerSide}
use Rattle.daide_io.specs.Ports.{PortCall, TurnBegins, Clock, Pulled, Offered, EvolvesBy}
use Rattle.daide_io.specs.declared.ports.Pull.TheVariants.{Got, Idle, Ended}
use Rattle.daide_settings.specs.declared.settings.Settings.{Settings}
use Rattle.daide_io.specs.declared.system.Connect.TheVariants.{Ready}
use Rattle.daide_driver.specs.Slab.{SlotView}
use Rattle.daide_event_loop.specs.Served.{IsServed, run_limits}
use Rattle.daide_io.specs.System.{SystemCall, Connects}
use Rattle.daide_log.specs.Recording.{asked_within}
use Rattle.daide_buffered_io.specs.Buffers.{Buffer}
use Rattle.daide_buffered_io.specs.Streams.{Transfers}
use Rattle.daide_run.specs.Exchanged.{Exchanges}
use Rattle.daide_run.proofs.StreamLemmas.{exchanged}

-- a pull moves the same bytes, however large its buffer is
pub transfers_within : {S : Type 0} (to_give taken : S → Option (List ℕ)) (call : PortCall) (old new : PerSide (Buffer S)) →
    Transfers to_give taken old (asked_within call) new → Transfers to_give taken old call new
transfers_within to_give taken TurnBegins old new h = h
transfers_within to_give taken (Clock event) old new h = h
transfers_within to_give taken (Pulled side room (Got n) bytes) old new h =
    record { passes = h.passes; unread = h.unread; unchanged = h.unchanged }
transfers_within to_give taken (Pulled side room Idle bytes) old new h =
    record { passes = h.passes; unread = h.unread; unchanged = h.unchanged }
transfers_within to_give taken (Pulled side room Ended bytes) old new h =
    record { passes = h.passes; unread = h.unread; unchanged = h.unchanged }
transfers_within to_give taken (Offered side bytes put) old new h = h

-- ports whose calls move the bytes of two streams, whatever else they do
module _ {P S : Type 0} (streams : P → PerSide (Buffer S)) (to_give taken : S → Option (List ℕ))
    (transition : P → PortCall → P → Type 0)
    (moves : (old : P) (answer : PortCall) (new : P) → transition old answer new →
    Transfers to_give taken (streams old) answer (streams new)) where
  all_move : (history : List PortCall) (old new : P) → EvolvesBy transition old history new →
      EvolvesBy (Transfers to_give taken) (streams old) history (streams new)
  all_move [] old new h = ap streams h
  all_move (answer ∷ history) old new h = (streams h.0, moves old answer h.0 h.1, all_move history h.0 new h.2)

  pub served_exchange : (settings : Settings) (trace : List (SystemCall P)) (now : SlotView P) →
      IsServed transition settings trace now →
      (place : ℕ) × (ports : P) × Contains trace (Connects place (Ready ports)) × ((history : List PortCall) ×
      Exchanges to_give taken (run_limits settings) history (streams ports) now.session (streams now.ports))
  served_exchange settings trace now h = (
    h.place,
    h.ports,
    h.came,
    (
      h.history,
      exchanged to_give taken (run_limits settings) h.history (streams h.ports) (streams now.ports) now.session
          (all_move h.history h.ports now.ports h.answered) h.stands.0,
    ),
  )
