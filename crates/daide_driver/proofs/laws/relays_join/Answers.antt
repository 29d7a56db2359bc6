use Rattle.daide_driver.proofs.Stretches.{relays_append}
use Rattle.daide_driver.proofs.laws.relays_join.Goals as goal

pub returns : goal.returns
returns w = λ a b c xs ys h k. relays_append a xs b ys c h k
