use Rattle.std.proofs.Common.{◌≡◌, ℕ, ◌≤◌, false, length, [], vec_capacity}
use Rattle.std.specs.VecDeque.{deque_capacity}
use Rattle.daide_io.specs.ReadyQueue.{mark_at}
use Rattle.daide_io.proofs.ready_queue.ReadyQueue.new.Given as goal

abbrev pub invariant-loop-place : goal.invariant-loop-place
invariant-loop-place g l = ((k : ℕ) → mark_at l.marks.items k ≡ false) × (length l.marks.items ≡ l._place)
    × (l.places ≤ vec_capacity l.marks) × (l.places ≤ deque_capacity l.fresh) × (l.places ≤ deque_capacity l.moving)
    × (l.fresh.items ≡ []) × (l.moving.items ≡ [])
