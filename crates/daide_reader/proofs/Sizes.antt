-- The size of a stack of symbols.
use Rattle.daide_reader.proofs.Common.{ℕ, ◌+◌, ◌*◌, ◌^◌, ◌<◌, ◌≤◌, arith}
use prog.Memory.{up}

-- n cells of one byte, and their count
pub cells_fit : (n : ℕ) → n ≤ 4096 → up 8 (up 8 (0 + n * 1) + 8) < 2 ^ 63
cells_fit n few = omega arith
