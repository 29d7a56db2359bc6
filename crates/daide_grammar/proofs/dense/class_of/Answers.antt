use Rattle.daide_grammar.proofs.Common.{◌<◌, ap, sym, subst, ◌∙◌, class_of, all_classes, class_at}
use Rattle.daide_grammar.proofs.ColumnsAgree.{class_found, number_small}
use Rattle.daide_grammar.proofs.dense.class_of.Goals as goal

pub of-requires : goal.of-requires
of-requires c =
    let t = c.code-bits.result in
    subst (λ n. n < all_classes) (sym c.class_cell.ensures) (number_small t c.code-bits.type_inv)

pub returns : goal.returns
returns c =
    let t = c.code-bits.result in
    c.of.ensures ∙ ap class_at c.class_cell.ensures ∙ class_found t c.code-bits.type_inv
    ∙ ap class_of c.code-bits.ensures
