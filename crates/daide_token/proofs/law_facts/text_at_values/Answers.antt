use Rattle.daide_token.proofs.Common.{◌≡◌, [], ◌∷◌, codes, refl, sym, ◌∙◌, rules, name_of, names, text_of}
use Rattle.daide_token.proofs.law_facts.text_at_values.Goals as goal

pub returns : goal.returns
unfolding name_of names text_of
returns c ts small is =
    let written : text_of (0x4803 ∷ 0x4000 ∷ []) ≡ codes "GOF (" = refl in
    c.text_comes_back.ensures ts (0x4803 ∷ 0x4000 ∷ []) small (search rules) (is ∙ sym written)
