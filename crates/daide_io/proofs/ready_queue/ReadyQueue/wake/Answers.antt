use Rattle.std.proofs.Common.{◌≡◌, ℕ, ◌<◌, ◌++◌, [], ◌∷◌, true, false, length, arith, subst, sym, List, slice_set}
use Rattle.daide_io.specs.ReadyQueue.{AreMarked, mark_at}
use Rattle.daide_io.proofs.ReadyLemmas.{read_false, room, joins, more_fresh, length_set}
use Rattle.daide_io.proofs.ready_queue.ReadyQueue.wake.Goals as goal

pub push_back_reserved-requires : goal.push_back_reserved-requires
push_back_reserved-requires g c =
    let s = c.self.inside in
    let free : mark_at s.marks.items c.args.place ≡ false
    = read_false s.marks.items c.args.place c.index.result.now c.index.ensures c.if-index.false in
    let there : c.args.place < length s.marks.items
    = omega (arith, c.len.ensures, c.if-place-len.false, s.marks.ok.0) in
    omega (
      arith,
      room s.fresh.items s.moving.items s.marks.items c.args.place c.self.invariant.0 there free,
      c.self.invariant,
    )

pub invariant_of-self : goal.invariant_of-self
invariant_of-self g c =
    let s = c.self.inside in
    let free : mark_at s.marks.items c.args.place ≡ false
    = read_false s.marks.items c.args.place c.index.result.now c.index.ensures c.if-index.false in
    let there : c.args.place < length s.marks.items
    = omega (arith, c.len.ensures, c.if-place-len.false, s.marks.ok.0) in (
      subst (λ (xs : List ℕ). AreMarked (slice_set s.marks.items c.args.place true) (xs ++ s.moving.items))
          (sym c.push_back_reserved.ensures.items)
          (joins (s.fresh.items ++ s.moving.items) ((s.fresh.items ++ c.args.place ∷ []) ++ s.moving.items) s.marks.items c.args.place
          (more_fresh s.fresh.items s.moving.items c.args.place) c.self.invariant.0 there free),
      omega (arith, c.self.invariant.1, length_set s.marks.items c.args.place true, c.push_back_reserved.ensures.capacity),
      omega (arith, c.self.invariant.2, length_set s.marks.items c.args.place true, c.push_back_reserved.ensures.capacity),
    )
