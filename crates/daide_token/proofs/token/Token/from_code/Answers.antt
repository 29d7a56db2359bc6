use Rattle.daide_token.proofs.Common.{refl}
use Rattle.daide_token.proofs.token.Token.from_code.Goals as goal

pub returns : goal.returns
returns c = refl
