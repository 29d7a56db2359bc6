-- A token with its bytes exchanged. (own)
use Rattle.std.specs.Prelude.{ℕ, ◌+◌, ◌*◌, ◌/◌, ◌%◌}

-- two bytes in the other order
abbrev pub exchanged : ℕ → ℕ
exchanged code = code % 256 * 256 + code / 256
