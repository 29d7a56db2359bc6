-- The ending of a session is known exactly if it is over.
use Rattle.std.proofs.Common.{is_some}
use Rattle.daide_protocol.proofs.Common.{◌≡◌, refl, SessionPhase, WaitIm, WaitRm, Open, Over, ending_in, is_over}

pub ending_known : (phase : SessionPhase) → is_some (ending_in phase) ≡ is_over phase
ending_known WaitIm = refl
ending_known WaitRm = refl
ending_known (Open level) = refl
ending_known (Over ending) = refl
