use Rattle.daide_token.proofs.ClassNumbers.{told-apart}
use Rattle.daide_token.proofs.laws.numbers_tell_classes_apart.Goals as goal

pub returns : goal.returns
returns c = told-apart
