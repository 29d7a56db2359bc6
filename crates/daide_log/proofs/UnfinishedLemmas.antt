-- An incomplete frame is listed, unless its side's fault ended the session.
use Rattle.daide_log.proofs.Common.{◌≡◌, ◌≢◌, ℕ, List, [], ◌∷◌, ◌++◌, length, Option, Some, None, Bool, true, false, refl, ap}
use Rattle.daide_log.proofs.Common.{Side, Bot, Server, Code, coming, Ending}
use Rattle.daide_protocol.specs.Machine.{ending_in}
use Rattle.daide_protocol.specs.declared.ending.Ending.TheVariants as Endings
use Rattle.daide_log.specs.Explained.{Part, part_of, is_at_fault, IncompleteFramesAreListed}

-- only a side's own fault makes it be at fault
at_fault_by : (side : Side) (ending : Option Ending) → is_at_fault side ending ≡ true →
    (code : Code) × (ending ≡ Some (Endings.Fault side code))
at_fault_by side None e = absurd cc
at_fault_by Bot (Some (Endings.Fault Bot code)) e = (code, refl)
at_fault_by Bot (Some (Endings.Fault Server code)) e = absurd cc
at_fault_by Server (Some (Endings.Fault Bot code)) e = absurd cc
at_fault_by Server (Some (Endings.Fault Server code)) e = (code, refl)
at_fault_by side (Some (Endings.Ended at)) e = absurd cc
at_fault_by side (Some (Endings.Lost at)) e = absurd cc
at_fault_by side (Some (Endings.Final at)) e = absurd cc
at_fault_by side (Some (Endings.Error at)) e = absurd cc
at_fault_by side (Some Endings.Stopped) e = absurd cc

not_at_fault : (side : Side) (ending : Option Ending) → ((code : Code) → ending ≢ Some (Endings.Fault side code)) →
    is_at_fault side ending ≡ false
not_at_fault side ending other = go (is_at_fault side ending) refl
  where
    go : (b : Bool) → is_at_fault side ending ≡ b → b ≡ false
    go true e = let by = at_fault_by side ending e in absurd (other by.0 by.1)
    go false e = refl

record IsListed (session : Option ℕ) (side : Side) (bytes : List ℕ) (parts : List Part) : Type 0 where
  part : Part
  alone : parts ≡ part ∷ []
  session_is : part.session ≡ session
  side_is : part.side ≡ side
  came_is : part.came ≡ length bytes

part_listed : (session : Option ℕ) (side : Side) (cap : ℕ) (at_fault : Bool) (bytes : List ℕ) → at_fault ≡ false →
    bytes ≢ [] → IsListed session side bytes (part_of session side cap at_fault bytes)
part_listed session side cap true bytes e some = absurd cc
part_listed session side cap false [] e some = absurd (some refl)
part_listed session side cap false (byte ∷ bytes) e some = record {
  part = _;
  alone = refl;
  session_is = refl;
  side_is = refl;
  came_is = refl;
}

pub frames_listed : IncompleteFramesAreListed
frames_listed session state Bot some other =
    let server = part_of session Server state.limits.cap (is_at_fault Server (ending_in state.phase)) (coming state Server).pending in
    let p = part_listed session Bot state.limits.cap (is_at_fault Bot (ending_in state.phase)) (coming state Bot).pending
    (not_at_fault Bot (ending_in state.phase) other) some in
    ([], p.part, server, ap (λ (l : List Part). l ++ server) p.alone, p.session_is, p.side_is, p.came_is)
frames_listed session state Server some other =
    let bot = part_of session Bot state.limits.cap (is_at_fault Bot (ending_in state.phase)) (coming state Bot).pending in
    let p = part_listed session Server state.limits.cap (is_at_fault Server (ending_in state.phase)) (coming state Server).pending
    (not_at_fault Server (ending_in state.phase) other) some in
    (bot, p.part, [], ap (λ (l : List Part). bot ++ l) p.alone, p.session_is, p.side_is, p.came_is)
