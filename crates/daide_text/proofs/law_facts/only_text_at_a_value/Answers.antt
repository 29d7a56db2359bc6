use Rattle.std.proofs.Common.{◌≡◌, [], ◌∷◌, true, false}
use Rattle.daide_text.proofs.law_facts.only_text_at_a_value.Goals as goal

pub returns : goal.returns
returns c ts h =
    let no : false ≡ true = c.text_alone_is_read.ensures [] (71 ∷ 11 ∷ []) ts h in absurd cc
