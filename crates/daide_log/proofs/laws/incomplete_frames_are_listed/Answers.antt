use Rattle.daide_log.proofs.UnfinishedLemmas.{frames_listed}
use Rattle.daide_log.proofs.laws.incomplete_frames_are_listed.Goals as goal

pub returns : goal.returns
returns c = frames_listed
