use Rattle.daide_log.proofs.Common.{words_of}
use Rattle.daide_log.specs.Explained.{explained}
use Rattle.daide_causes.specs.Causes.{WasRefused}
use Rattle.daide_log.proofs.CauseLemmas.{handed_write}
use Rattle.daide_log.proofs.explained.ExplainingStyle.close.Goals as goal

pub put_rest-requires-clause-idle : goal.put_rest-requires-clause-idle
put_rest-requires-clause-idle g c k d less = (c.requires.ready k d less).idle

pub returns-in_err-unfinished-clause-refused : goal.returns-in_err-unfinished-clause-refused
returns-in_err-unfinished-clause-refused g c =
    handed_write g.W.Sink.Fails (explained (words_of c.args.head.now.words)) (WasRefused g.B.Memory.Refuses) c.from_residual.result
    c.in_err-unfinished.field-0.0 c.from_residual.ensures.1 c.in_err-unfinished.ensures.refused
