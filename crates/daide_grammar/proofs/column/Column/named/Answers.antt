use Rattle.daide_grammar.proofs.Common.{ap, ◌∙◌, class_at}
use Rattle.daide_grammar.proofs.WordColumns.{class_told}
use Rattle.daide_grammar.proofs.column.Column.named.Goals as goal

pub returns : goal.returns
returns c = ap class_at c.number.ensures ∙ class_told c.args.class c.requires
