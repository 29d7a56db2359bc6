use Rattle.daide_show.proofs.InvalidTokens.{invalid_token_shown}
use Rattle.daide_show.proofs.laws.invalid_token_is_explained.Goals as goal

pub returns : goal.returns
returns c = invalid_token_shown
