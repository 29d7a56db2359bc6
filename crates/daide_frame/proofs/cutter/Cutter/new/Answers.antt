use Rattle.std.proofs.Common.{false, [], ◌∷◌, None, refl, arith}
use Rattle.daide_frame.proofs.CutterLemmas.{consistent_short}
use Rattle.daide_frame.proofs.cutter.Cutter.new.Goals as goal

pub invariant_of-result : goal.invariant_of-result
invariant_of-result g c =
    consistent_short c.args.cap 0 (0 ∷ 0 ∷ 0 ∷ 0 ∷ []) None false _ _
    (omega arith) refl c.in_ok-with_capacity.ensures.items refl refl
    (omega (arith, c.in_ok-with_capacity.ensures.capacity))
