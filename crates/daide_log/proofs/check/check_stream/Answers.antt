use Rattle.daide_causes.specs.Causes.{WasRefused}
use Rattle.daide_log.proofs.CauseLemmas.{plain_causes}
use Rattle.daide_log.proofs.check.check_stream.Goals as goal

pub returns-clause-cause : goal.returns-clause-cause
returns-clause-cause g c = plain_causes g.R.LogReader.Fails g.W.Sink.Fails (WasRefused g.A.Memory.Refuses) c.report_stream.result c.report_stream.ensures.cause
