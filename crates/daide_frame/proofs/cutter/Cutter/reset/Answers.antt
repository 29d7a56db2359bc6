use Rattle.std.proofs.Common.{false, None, refl, arith}
use Rattle.daide_frame.proofs.CutterLemmas.{consistent_short}
use Rattle.daide_frame.proofs.cutter.Cutter.reset.Goals as goal

pub invariant_of-self : goal.invariant_of-self
invariant_of-self g c =
    let a = c.self.inside in
    consistent_short a.cap 0 a.header None false _ _ (omega arith) c.self.told c.clear.ensures.items refl refl
    (omega (arith, c.clear.ensures.capacity, c.self.invariant.reserved))
