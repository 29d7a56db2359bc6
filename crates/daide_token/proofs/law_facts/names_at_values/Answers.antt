use Rattle.daide_token.proofs.Common.{◌≡◌, Some, codes, name_of, names, token_named}
use Rattle.daide_token.proofs.law_facts.names_at_values.Goals as goal

pub returns-clause-token : goal.returns-clause-token
unfolding token_named names
returns-clause-token c t is =
    let there : Some 0x4806 ≡ Some t = c.names_come_back.ensures.token t (codes "HUH") is in
    cc

pub returns-clause-name : goal.returns-clause-name
unfolding name_of names
returns-clause-name c name is =
    let there : Some (codes "HUH") ≡ Some name = c.names_come_back.ensures.name name 0x4806 is in
    cc
