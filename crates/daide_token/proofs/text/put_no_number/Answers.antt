use Rattle.daide_token.proofs.Common.{sym}
use Rattle.daide_token.proofs.NameLaws.{name_of-length}
use Rattle.daide_token.proofs.text.put_no_number.Goals as goal

pub put_name-requires-clause-three : goal.put_name-requires-clause-three
put_name-requires-clause-three c = name_of-length c.args.token c.in-Some.name.now (sym c.in-Some.ensures)
