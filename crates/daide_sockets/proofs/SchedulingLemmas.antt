-- A poll after an accept is for bots too.
use Rattle.std.proofs.Common.{◌≡◌, ℕ, Bool, true, false, List, ap, ◌∙◌}
use Rattle.std.specs.Prelude.{◌&&◌, Option}
use Rattle.std.specs.declared.time.Duration.{Duration}
use Rattle.daide_io.specs.Network.{NetworkCall}
use Rattle.daide_io.specs.System.{Polls}
use Rattle.daide_io.specs.declared.system.Orders.{Orders}
use Rattle.daide_sockets.specs.Accepting.{is_bot_due}
use Rattle.daide_sockets.specs.PollTimes.{listener_armed, others_armed}
use Rattle.daide_sockets.specs.Table.{arming_all}
use Rattle.daide_sockets.specs.Scheduling.{RunState, Schedules, AwaitsBots}
use Rattle.daide_sockets.specs.Table.{IsPollTime}
use Rattle.daide_sockets.specs.Clock.{IsNoTime}
use Rattle.daide_sockets.specs.Timers.{SessionTimers}
use Rattle.daide_sockets.proofs.BesideLemmas.{beside_in_time}

module _ {N C P S : Type 0} (transition : N → NetworkCall C → N → Type 0) (timers : P → SessionTimers S) where
  -- a poll that is for bots too
  pub awaits_bots : (may_block : Bool) (woken : List ℕ) (orders : Orders) (old new : RunState N S) →
      old.acceptor.awaits_bots ≡ true → Schedules transition timers old (Polls may_block woken orders) new →
      AwaitsBots transition may_block woken old new
  awaits_bots may_block woken orders old new awaited h = record {
    polls = h.1;
    awaits = λ due. by may_block h.1.time h.1.lasts (both due);
  }
    where
      both : is_bot_due old.table old.acceptor ≡ true → (listener_armed old.table old.acceptor).0 ≡ true
      both due = ap (λ (b : Bool). b && is_bot_due old.table old.acceptor) awaited ∙ due

      by : (may_block : Bool) (time : Option Duration) →
          IsPollTime may_block (arming_all old.table (others_armed old.table
          (listener_armed old.table old.acceptor) old.closing.streams)) time →
          (listener_armed old.table old.acceptor).0 ≡ true → IsNoTime time
      by false time lasts due = lasts
      by true time lasts due =
          (beside_in_time old.table time (listener_armed old.table old.acceptor) old.closing.streams lasts).accepts.work due
