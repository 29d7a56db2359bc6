use Rattle.std.proofs.Output.{has_written_of_eq}
use Rattle.daide_protocol.proofs.Common.{append_assoc}
use Rattle.daide_protocol.specs.AccountText.{rest_text}
use Rattle.daide_protocol.proofs.account.AccountRestDisplay.fmt.Goals as goal

pub returns-clause-writes : goal.returns-clause-writes
unfolding rest_text
returns-clause-writes g c plain ok =
    has_written_of_eq _ _ _ _ _ (simp (append_assoc, c.number-level.ensures)) (c.write.ensures.writes plain ok)
