use Rattle.daide_grammar.proofs.Common.{arith}
use Rattle.daide_grammar.proofs.RulesFit.{cell_small}
use Rattle.daide_grammar.proofs.predict.cell_of.Goals as goal

pub of-requires : goal.of-requires
of-requires c = omega (arith, c.cell_at.ensures, cell_small c.args.rule c.args.place)
