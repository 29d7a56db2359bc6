use Rattle.daide_token.proofs.Common.{refl, names}
use Rattle.daide_token.proofs.names.letters.Goals as goal

pub returns : goal.returns
unfolding names
returns c = refl
