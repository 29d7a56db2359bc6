-- What a message does to the phase.
use Rattle.daide_protocol.proofs.Common.{◌≡◌, ℕ, List, refl, Side, Bot, Server, Dm, Level, Verdict, Relay, Prn}
use Rattle.daide_protocol.proofs.Common.{Huh, SessionPhase, WaitIm, WaitRm, Open, Over, is_over, phase_after}

-- a message neither ends a session nor opens one that is over
pub message_ends_nothing : (top : Level) (side : Side) (v : Verdict) (tokens : List ℕ) (phase : SessionPhase) →
    is_over (phase_after top Dm side v tokens phase) ≡ is_over phase
message_ends_nothing top Bot v tokens phase = refl
message_ends_nothing top Server Relay tokens WaitIm = refl
message_ends_nothing top Server Relay tokens WaitRm = refl
message_ends_nothing top Server Relay tokens (Open level) = refl
message_ends_nothing top Server Relay tokens (Over ending) = refl
message_ends_nothing top Server Prn tokens phase = refl
message_ends_nothing top Server (Huh place) tokens phase = refl
