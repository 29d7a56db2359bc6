use Rattle.daide_token.proofs.ClassLaws.{class_of-token_of, only_token, standard_class}
use Rattle.daide_token.proofs.laws.single_tokens_stand_alone.Goals as goal

pub returns-clause-alone : goal.returns-clause-alone
returns-clause-alone c = only_token

pub returns-clause-standard : goal.returns-clause-standard
returns-clause-standard c = standard_class

pub returns-clause-own : goal.returns-clause-own
returns-clause-own c = class_of-token_of
