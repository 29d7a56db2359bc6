use Rattle.daide_run.proofs.AcceptedLemmas.{all_counted}
use Rattle.daide_run.proofs.laws.bots_are_counted.Goals as goal

pub returns : goal.returns
returns g c = λ pair old new trace h. all_counted g.S.Duplex.to_give g.S.Duplex.taken g.S.Duplex.calls pair trace old new h
