use Rattle.daide_status.proofs.TextLemmas.{text_of_snapshot}
use Rattle.daide_status.proofs.laws.status_is_of_the_snapshot.Goals as goal

pub returns : goal.returns
returns c = text_of_snapshot
