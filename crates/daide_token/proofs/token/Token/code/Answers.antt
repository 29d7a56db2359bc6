use Rattle.daide_token.proofs.token.Token.code.Goals as goal

pub returns : goal.returns
returns c = c.self.view_is
