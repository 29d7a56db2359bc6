use Rattle.daide_reader.proofs.SomeVerdict.{verdict_by, verdict_by_right}
use Rattle.daide_reader.proofs.laws.message_has_a_verdict.Goals as goal

pub returns : goal.returns
returns c = λ c' words side level max_depth m.
    let first = c.T.Predict.start_symbol side level in (
      verdict_by (c.T.Predict.class_of words) (c.T.Predict.moves words) (c.T.Predict.ends words) max_depth first m,
      verdict_by_right _ _ _ _ _ (c.met.T.Predict.laws words) first max_depth
          (c.met.T.Predict.begins words side level) m,
    )
