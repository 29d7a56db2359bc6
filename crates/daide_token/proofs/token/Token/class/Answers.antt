use Rattle.daide_token.proofs.Common.{ℕ, List, get_or, sym, ap, ◌∙◌, class_in, class_of}
use Rattle.daide_token.proofs.token.Token.class.Goals as goal

pub returns-in-16384 : goal.returns-in-16384
unfolding class_of
returns-in-16384 c = ap class_of (sym c.in-16384.is ∙ c.code.ensures)

pub returns-in-16385 : goal.returns-in-16385
unfolding class_of
returns-in-16385 c = ap class_of (sym c.in-16385.is ∙ c.code.ensures)

pub returns-in_default : goal.returns-in_default
unfolding class_of
returns-in_default c =
    c.class_in.ensures ∙ ap (λ (b : List ℕ). class_in (get_or b 0 0) (get_or b 1 0)) c.to_be.ensures
