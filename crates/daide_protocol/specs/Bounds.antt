-- The limits on a peer, and on the number of sessions. (own)
use Rattle.std.specs.Prelude.{ℕ, ◌-◌, ◌<◌, ◌≤◌}
use Rattle.daide_reader.specs.Bounds.{longest_message}

-- the longest body: the longest message, less the eight bytes that a HUH adds to it
abbrev pub longest_body : ℕ
longest_body = longest_message - 8

-- the minimum of the operator's cap
abbrev pub least_body : ℕ
least_body = 512

-- the maximum of the operator's depth limit
abbrev pub greatest_depth : ℕ
greatest_depth = 254

-- the minimum of the operator's depth limit
abbrev pub least_depth : ℕ
least_depth = 4

-- the maximum number of sessions at a time
abbrev pub most_sessions : ℕ
most_sessions = 256

-- a number of sessions at a time: at least one, and at most `most_sessions`
abbrev pub IsSessionCount : ℕ → Type 0
IsSessionCount n = (0 < n) × (n ≤ most_sessions)
