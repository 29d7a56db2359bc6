use Rattle.daide_grammar.proofs.Common.{[]}
use Rattle.daide_grammar.proofs.Alike.{row_seen}
use Rattle.daide_grammar.proofs.dense.row_of.Goals as goal

pub returns : goal.returns
returns c = row_seen (λ row. row.now) c.whole.result.now.rows _ c.args.class _ [] c.whole.ensures.rows c.requires
