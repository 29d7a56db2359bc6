use Rattle.daide_token.proofs.token.Token.from_be.Goals as goal

pub returns : goal.returns
returns c = c.from_be_bytes.ensures
