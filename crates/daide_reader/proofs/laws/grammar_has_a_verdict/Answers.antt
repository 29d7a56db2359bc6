use Rattle.daide_reader.proofs.SomeVerdict.{plain_verdict, plain_verdict_right}
use Rattle.daide_reader.proofs.laws.grammar_has_a_verdict.Goals as goal

pub returns : goal.returns
returns c = λ side level max_depth m.
    (plain_verdict side level max_depth m, plain_verdict_right side level max_depth m)
