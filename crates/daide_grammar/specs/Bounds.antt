-- The bounds of a parse stack, and of the table steps for a message. (own)
use Rattle.std.specs.Prelude.{ℕ, ◌+◌, ◌*◌, Bool, if◌then◌else◌}

-- the maximum number of stack entries for a number of open brackets: eight for each of them, plus sixteen
abbrev pub entries_bound : ℕ → ℕ
entries_bound brackets = 8 * brackets + 16

-- the maximum height of a reachable stack for a number of open brackets, by the entries of the table: five for each of
-- them, plus eight
abbrev pub height_bound : ℕ → ℕ
height_bound brackets = 5 * brackets + 8

-- The number of cells that a stack needs for a depth limit. Eight cells are written at once, from the top of a stack
-- with one open bracket fewer.
abbrev pub cells_bound : ℕ → ℕ
cells_bound max_depth = 5 * max_depth + 10

-- the maximum number of table steps for one token, and for the end of a message
abbrev pub most_steps : ℕ
most_steps = 4

-- the maximum number of table steps for a number of tokens of one message, and for its end if it has ended
abbrev pub message_steps : ℕ → Bool → ℕ
message_steps tokens ended = most_steps * tokens + (if ended then most_steps else 0)
