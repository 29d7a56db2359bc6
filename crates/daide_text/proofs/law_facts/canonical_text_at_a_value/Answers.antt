use Rattle.std.proofs.Common.{[], ◌∷◌, codes, refl, rules}
use Rattle.std.specs.Fmt.{digits}
use Rattle.daide_token.specs.Names.{name_of, names, token_named}
use Rattle.daide_token.specs.Text.{text_with}
use Rattle.daide_text.specs.Line.{Sign, Word}
use Rattle.daide_text.proofs.LineFacts.{read}
use Rattle.daide_text.proofs.law_facts.canonical_text_at_a_value.Goals as goal

pub returns : goal.returns
unfolding digits text_with name_of names token_named
returns c =
    c.canonical_text_is_read_alike.ensures [] (codes "TME(007)") (0x481B ∷ 0x4000 ∷ 7 ∷ 0x4001 ∷ []) refl
    (search rules) (read [] (Word (codes "TME") ∷ Sign 40 ∷ Word (codes "007") ∷ Sign 41 ∷ []) refl)
