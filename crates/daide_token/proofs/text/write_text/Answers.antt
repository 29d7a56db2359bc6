use Rattle.daide_token.proofs.Common.{text_of, text_with}
use Rattle.daide_token.proofs.text.write_text.Goals as goal

pub returns : goal.returns
unfolding text_of text_with
returns g c = c.write_text_with.ensures
