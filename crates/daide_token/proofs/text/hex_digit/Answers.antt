use Rattle.daide_token.proofs.Common.{refl}
use Rattle.daide_token.proofs.text.hex_digit.Goals as goal

pub returns : goal.returns
returns c = refl
