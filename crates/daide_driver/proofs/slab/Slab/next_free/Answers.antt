use Rattle.std.proofs.Common.{arith}
use Rattle.daide_driver.proofs.SlabLemmas.{none_free}
use Rattle.daide_driver.proofs.slab.Slab.next_free.Goals as goal

pub returns-else-self-len-clause-full : goal.returns-else-self-len-clause-full
returns-else-self-len-clause-full g c =
    let s = c.self.inside in
    none_free _ _ _ _ c.self.view_is s.next
    (omega (arith, s.places.ok.0)) c.self.invariant
