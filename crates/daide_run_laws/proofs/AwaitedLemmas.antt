-- A poll that may block while a bot may be accepted is for bots too.
use Rattle.std.proofs.Common.{◌≡◌, ℕ, Bool, true, false, List, [], ◌∷◌, ◌++◌, ap, ◌∙◌, subst}
use Rattle.daide_io.specs.Network.{NetworkCall}
use Rattle.daide_io.specs.Ports.{PortCall}
use Rattle.daide_io.specs.System.{SystemCall, Accepts, TransitsBy}
use Rattle.daide_event_loop.proofs.AcceptLemmas.{no_bot_is_left_out}
use Rattle.daide_sockets.specs.Scheduling.{RunState, Schedules}
use Rattle.daide_sockets.specs.Timers.{SessionTimers}
use Rattle.daide_sockets.proofs.SchedulingLemmas.{awaits_bots}
use Rattle.daide_run_laws.specs.NoLostWakeups.{NoBotWaits}
use Rattle.daide_run_laws.proofs.AsleepLemmas.{found_empty}

module _ {P S N C : Type 0} (port_transition : P → PortCall → P → Type 0) (timers : P → SessionTimers S)
    (transition : N → NetworkCall C → N → Type 0) where
  -- after a call that asks for a bot the next poll is for bots too
  awaited : (place : ℕ) (came : Bool) (calls : List (SystemCall P)) (old new : RunState N S) →
      TransitsBy (Schedules transition timers) old (calls ++ Accepts place came ∷ []) new → new.acceptor.awaits_bots ≡ true
  awaited place came [] old new h = ap (λ (s : RunState N S). s.acceptor.awaits_bots) h.2 ∙ h.1.1.awaited
  awaited place came (call ∷ calls) old new h = awaited place came calls h.0 new h.2

  pub no_bot_waits : NoBotWaits port_transition timers transition
  no_bot_waits = λ settings n before others woken orders run next place first old new rounds may free round trace poll.
      let asked = no_bot_is_left_out port_transition settings n before run rounds
      (found_empty port_transition woken orders others run next round) may place free in
      awaits_bots transition timers true woken orders old new
      (awaited asked.1 false asked.0 first old
      (subst (λ (l : List (SystemCall P)). TransitsBy (Schedules transition timers) first l old) asked.2 trace)) poll
