use Rattle.daide_token.proofs.Common.{◌≡◌, Some, negsuc}
use Rattle.daide_token.proofs.law_facts.numbers_at_values.Goals as goal

pub returns-clause-token : goal.returns-clause-token
returns-clause-token c t is =
    let there : Some 0x2000 ≡ Some t = c.numbers_come_back.ensures.token t (negsuc 8191) is in
    cc

pub returns-clause-number : goal.returns-clause-number
returns-clause-number c n is =
    let there : Some (negsuc 0) ≡ Some n = c.numbers_come_back.ensures.number n 0x3FFF is in
    cc
