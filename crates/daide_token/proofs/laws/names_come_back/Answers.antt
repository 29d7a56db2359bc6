use Rattle.daide_token.proofs.NameLaws.{name_of-token_named, token_named-name_of}
use Rattle.daide_token.proofs.laws.names_come_back.Goals as goal

pub returns-clause-token : goal.returns-clause-token
returns-clause-token c = token_named-name_of

pub returns-clause-name : goal.returns-clause-name
returns-clause-name c = name_of-token_named
