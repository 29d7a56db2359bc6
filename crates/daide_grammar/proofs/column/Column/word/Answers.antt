use Rattle.daide_grammar.proofs.WordColumns.{word_at}
use Rattle.daide_grammar.proofs.column.Column.word.Goals as goal

pub returns : goal.returns
returns c = word_at c.args.place c.requires
