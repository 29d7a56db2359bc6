use Rattle.daide_log.proofs.Common.{sym}
use Rattle.daide_causes.specs.Causes.{WasRefused}
use Rattle.daide_log.proofs.CauseLemmas.{explained_causes}
use Rattle.daide_log.proofs.observer.explain_observed.Goals as goal

pub report_stream-requires : goal.report_stream-requires
report_stream-requires g c = record { fresh = λ words. sym c.new.ensures }

pub returns-clause-cause : goal.returns-clause-cause
returns-clause-cause g c = explained_causes g.R.Source.Fails g.W.Sink.Fails (WasRefused g.A.Memory.Refuses) c.report_stream.result c.report_stream.ensures.cause
