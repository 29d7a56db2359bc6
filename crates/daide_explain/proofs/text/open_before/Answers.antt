use Rattle.daide_explain.proofs.Common.{tokens_of}
use Rattle.daide_explain.proofs.Allowed.{read_nothing}
use Rattle.daide_explain.proofs.text.open_before.Goals as goal

pub returns : goal.returns
returns c =
    let b = c.args.before.now in
    c.open.ensures.open _ _ _ (tokens_of b)
    (c.read.ensures.stands_after _ _ _ (read_nothing _ _ _ _ _ b c.start.ensures.stands_after))
