use Rattle.daide_token.proofs.Common.{sym, ap, ◌∙◌, append_assoc, refl, ◌++◌, List, ℕ, take, ◌∷◌, [], ◌%◌}
use Rattle.daide_token.proofs.Common.{text_of_token, before_item, before_character}
use Rattle.daide_token.proofs.text.put_any.Goals as goal

pub returns-then-quotable-clause-text : goal.returns-then-quotable-clause-text
returns-then-quotable-clause-text c =
    rw (sym c.quotable.ensures ∙ c.if-quotable.true)
    (c.put_character.ensures.text
    ∙ append_assoc (take c.args.from.len c.args.line.now) (before_character c.args.from.place) ((c.args.token % 256) ∷ []))

pub returns-then-quotable-clause-place : goal.returns-then-quotable-clause-place
returns-then-quotable-clause-place c =
    rw (sym c.quotable.ensures ∙ c.if-quotable.true) c.put_character.ensures.place

pub returns-clause-text : goal.returns-clause-text
returns-clause-text c =
    rw (sym c.quotable.ensures ∙ c.if-quotable.false)
    (c.put_by_itself.ensures.text
    ∙ ap (λ (t : List ℕ). t ++ text_of_token c.args.added.now c.args.token) c.put_before_item-len.ensures.text
    ∙ append_assoc (take c.args.from.len c.args.line.now) (before_item c.args.from.place)
    (text_of_token c.args.added.now c.args.token))

pub returns-clause-place : goal.returns-clause-place
returns-clause-place c = rw (sym c.quotable.ensures ∙ c.if-quotable.false) refl
