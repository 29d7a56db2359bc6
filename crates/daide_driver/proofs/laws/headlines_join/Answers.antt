use Rattle.daide_driver.proofs.ApartLemmas.{headline_then}
use Rattle.daide_driver.proofs.laws.headlines_join.Goals as goal

pub returns : goal.returns
returns g c = λ a b d h k. headline_then g.P.Ports.transition a b d h k
