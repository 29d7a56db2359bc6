use Rattle.daide_driver.proofs.DueLemmas.{due_go}
use Rattle.daide_driver.proofs.laws.due_bytes_go.Goals as goal

pub returns : goal.returns
returns c = due_go
