use Rattle.std.proofs.Common.{ℕ, ◌≤◌, ◌++◌, ◌∷◌, false, arith, subst, List}
use Rattle.daide_io.specs.ReadyQueue.{AreMarked, mark_at, one_if}
use Rattle.daide_io.proofs.ReadyLemmas.{is_there, same_is_one, length_set, leaves}
use Rattle.daide_io.proofs.ready_queue.ReadyQueue.next_fresh.Goals as goal

pub index_mut-requires : goal.index_mut-requires
index_mut-requires g c =
    let s = c.self.inside in
    let before : AreMarked s.marks.items ((c.in_ok-place.place ∷ c.pop_front.new.self.items) ++ s.moving.items)
    = subst (λ (xs : List ℕ). AreMarked s.marks.items (xs ++ s.moving.items)) c.in_ok-place.ensures.items c.self.invariant.0 in
    let marked : 1 ≤ one_if (mark_at s.marks.items c.in_ok-place.place) = omega (arith, before c.in_ok-place.place, same_is_one c.in_ok-place.place) in
    omega (arith, is_there s.marks.items c.in_ok-place.place marked, s.marks.ok.0)

pub invariant_of-self-2 : goal.invariant_of-self-2
invariant_of-self-2 g c =
    let s = c.self.inside in
    let before : AreMarked s.marks.items ((c.in_ok-place.place ∷ c.pop_front.new.self.items) ++ s.moving.items)
    = subst (λ (xs : List ℕ). AreMarked s.marks.items (xs ++ s.moving.items)) c.in_ok-place.ensures.items c.self.invariant.0 in (
      leaves ((c.in_ok-place.place ∷ c.pop_front.new.self.items) ++ s.moving.items) (c.pop_front.new.self.items ++ s.moving.items)
          s.marks.items c.in_ok-place.place (λ k. omega arith) before,
      omega (arith, c.self.invariant.1, length_set s.marks.items c.in_ok-place.place false, c.in_ok-place.ensures.capacity),
      omega (arith, c.self.invariant.2, length_set s.marks.items c.in_ok-place.place false, c.in_ok-place.ensures.capacity),
    )
