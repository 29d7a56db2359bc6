use Rattle.daide_log.proofs.TokenLemmas.{tokens_shown}
use Rattle.daide_log.proofs.laws.invalid_tokens_are_shown.Goals as goal

pub returns : goal.returns
returns c = tokens_shown
