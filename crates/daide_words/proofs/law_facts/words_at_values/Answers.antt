use Rattle.daide_words.proofs.Common.{[], ◌∷◌, refl}
use Rattle.daide_words.proofs.Apart.{numbers_apart}
use Rattle.daide_words.proofs.law_facts.words_at_values.Goals as goal

pub returns-clause-name : goal.returns-clause-name
returns-clause-name c one other accepted same =
    numbers_apart 0 1 refl
    (c.accepted_words_differ.ensures.names (one ∷ other ∷ []) 0 1 one other accepted refl refl same)

pub returns-clause-code : goal.returns-clause-code
returns-clause-code c one other accepted same =
    numbers_apart 0 1 refl
    (c.accepted_words_differ.ensures.codes (one ∷ other ∷ []) 0 1 one other accepted refl refl same)
