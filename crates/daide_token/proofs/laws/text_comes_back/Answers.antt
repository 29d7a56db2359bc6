use Rattle.daide_token.proofs.TextBack.{same_text}
use Rattle.daide_token.proofs.laws.text_comes_back.Goals as goal

pub returns : goal.returns
returns c = same_text
