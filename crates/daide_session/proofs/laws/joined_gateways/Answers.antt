use Rattle.daide_session.proofs.JoinedRuns.{joined_over}
use Rattle.daide_session.proofs.laws.joined_gateways.Goals as goal

pub returns : goal.returns
returns c = λ words accepted. joined_over words (c.two_gateways_in_a_row.ensures words accepted)
