use Rattle.std.proofs.Common.{ℕ, ◌≤◌, ◌++◌, ◌∷◌, false, arith, subst, List}
use Rattle.daide_io.specs.ReadyQueue.{AreMarked, mark_at, one_if}
use Rattle.daide_io.proofs.ReadyLemmas.{is_there, same_is_one, length_set, leaves, less_moving}
use Rattle.daide_io.proofs.ready_queue.ReadyQueue.next_moving.Goals as goal

pub index_mut-requires : goal.index_mut-requires
index_mut-requires g c =
    let s = c.self.inside in
    let before : AreMarked s.marks.items (s.fresh.items ++ c.in_ok-place.place ∷ c.pop_front.new.self.items)
    = subst (λ (xs : List ℕ). AreMarked s.marks.items (s.fresh.items ++ xs)) c.in_ok-place.ensures.items c.self.invariant.0 in
    let marked : 1 ≤ one_if (mark_at s.marks.items c.in_ok-place.place) = omega (
      arith,
      before c.in_ok-place.place,
      same_is_one c.in_ok-place.place,
      less_moving s.fresh.items c.pop_front.new.self.items c.in_ok-place.place c.in_ok-place.place,
    ) in
    omega (arith, is_there s.marks.items c.in_ok-place.place marked, s.marks.ok.0)

pub invariant_of-self-2 : goal.invariant_of-self-2
invariant_of-self-2 g c =
    let s = c.self.inside in
    let before : AreMarked s.marks.items (s.fresh.items ++ c.in_ok-place.place ∷ c.pop_front.new.self.items)
    = subst (λ (xs : List ℕ). AreMarked s.marks.items (s.fresh.items ++ xs)) c.in_ok-place.ensures.items c.self.invariant.0 in (
      leaves (s.fresh.items ++ c.in_ok-place.place ∷ c.pop_front.new.self.items) (s.fresh.items ++ c.pop_front.new.self.items)
          s.marks.items c.in_ok-place.place (less_moving s.fresh.items c.pop_front.new.self.items c.in_ok-place.place) before,
      omega (arith, c.self.invariant.1, length_set s.marks.items c.in_ok-place.place false, c.in_ok-place.ensures.capacity),
      omega (arith, c.self.invariant.2, length_set s.marks.items c.in_ok-place.place false, c.in_ok-place.ensures.capacity),
    )
