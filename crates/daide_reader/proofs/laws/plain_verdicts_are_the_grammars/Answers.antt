use Rattle.daide_reader.proofs.PlainVerdicts.{plain_verdicts}
use Rattle.daide_reader.proofs.laws.plain_verdicts_are_the_grammars.Goals as goal

pub returns : goal.returns
returns c table = plain_verdicts
