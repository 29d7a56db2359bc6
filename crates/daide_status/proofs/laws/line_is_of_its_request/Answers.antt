use Rattle.daide_status.proofs.RequestLemmas.{line_of_request}
use Rattle.daide_status.proofs.laws.line_is_of_its_request.Goals as goal

pub returns : goal.returns
returns c = line_of_request
