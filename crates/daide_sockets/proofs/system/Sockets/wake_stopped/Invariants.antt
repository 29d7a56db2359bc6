use Rattle.std.proofs.Common.{◌≡◌, ℕ, ◌<◌, true, List}
use Rattle.daide_io.specs.ReadyQueue.{is_among, woken_all}
use Rattle.daide_sockets.proofs.system.Sockets.wake_stopped.Given as goal

-- the places so far are woken
abbrev pub invariant-loop-place : goal.invariant-loop-place
invariant-loop-place g l = (places : List ℕ) × (l.ready ≡ woken_all places l.initial.ready)
    × ((place : ℕ) → place < l.place → is_among place places ≡ true)
