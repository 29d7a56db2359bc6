use Rattle.daide_grammar.proofs.Common.{◌<◌, sym, ap, subst, ◌∙◌, class_number, all_classes, class_number_back}
use Rattle.daide_grammar.proofs.column.Column.class.Goals as goal

pub returns-clause-class : goal.returns-clause-class
returns-clause-class c = c.listed.ensures ∙ c.self.view_is

pub returns-clause-few : goal.returns-clause-few
returns-clause-few c =
    let number = ap class_number c.listed.ensures ∙ class_number_back c.self.inside.number c.self.invariant in
    subst (λ n. n < all_classes) (sym number) c.self.invariant
