use Rattle.std.proofs.Common.{[], ◌∷◌, refl, rules}
use Rattle.std.specs.Fmt.{digits}
use Rattle.daide_token.specs.Names.{name_of, names}
use Rattle.daide_token.specs.Text.{text_with}
use Rattle.daide_text.proofs.law_facts.printed_text_at_a_value.Goals as goal

pub returns : goal.returns
unfolding digits text_with name_of names
returns c =
    c.printed_text_is_read_back.ensures [] (0x4803 ∷ 0x4000 ∷ 0x3FFF ∷ 0x4001 ∷ []) refl (search rules) (search rules)
