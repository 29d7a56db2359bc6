-- How much the counts grew, and by how much they can still grow: callers need name no count.
use Rattle.daide_protocol.proofs.Common.{ℕ, ◌+◌, ◌≤◌, arith, Summary}
use Rattle.daide_protocol.specs.Summary.{HasRoom, IsMoreBy}

pub no_more : (n : ℕ) (s : Summary) → IsMoreBy n s s
no_more n s = record { relayed = omega arith; prn = omega arith; huh = omega arith; faults = omega arith }

pub more_by : (m n : ℕ) (r s : Summary) → IsMoreBy m r s → m ≤ n → IsMoreBy n r s
more_by m n r s h less = record {
  relayed = omega (arith, h.relayed, less);
  prn = omega (arith, h.prn, less);
  huh = omega (arith, h.huh, less);
  faults = omega (arith, h.faults, less);
}

-- one growth after another
pub more_then : (m n : ℕ) (r s t : Summary) → IsMoreBy m r s → IsMoreBy n s t → IsMoreBy (m + n) r t
more_then m n r s t h k = record {
  relayed = omega (arith, h.relayed, k.relayed);
  prn = omega (arith, h.prn, k.prn);
  huh = omega (arith, h.huh, k.huh);
  faults = omega (arith, h.faults, k.faults);
}

pub less_room : (m n : ℕ) (s : Summary) → HasRoom n s → m ≤ n → HasRoom m s
less_room m n s h less = record {
  relayed = omega (arith, h.relayed, less);
  prn = omega (arith, h.prn, less);
  huh = omega (arith, h.huh, less);
  faults = omega (arith, h.faults, less);
}

-- the room that is left after a growth
pub room_after : (m n : ℕ) (s t : Summary) → HasRoom (m + n) s → IsMoreBy m s t → HasRoom n t
room_after m n s t h k = record {
  relayed = omega (arith, h.relayed, k.relayed);
  prn = omega (arith, h.prn, k.prn);
  huh = omega (arith, h.huh, k.huh);
  faults = omega (arith, h.faults, k.faults);
}
