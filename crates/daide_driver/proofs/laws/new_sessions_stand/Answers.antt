use Rattle.daide_driver.proofs.Standing.{new_stands}
use Rattle.daide_driver.proofs.laws.new_sessions_stand.Goals as goal

pub returns : goal.returns
returns c = new_stands
