use Rattle.daide_token.proofs.Common.{ap, ◌∙◌, name_of}
use Rattle.daide_token.proofs.token.Token.name.Goals as goal

pub returns : goal.returns
returns c = c.name_of.ensures ∙ ap name_of c.code.ensures
