use Rattle.daide_protocol.proofs.Common.{L60, Client, Prn}
use Rattle.daide_protocol.proofs.law_facts.held_at_values.Goals as goal

pub returns : goal.returns
returns c m = (c.verdicts_over.ensures Client L60 62 m Prn).0
