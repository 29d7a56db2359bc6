-- The limits of a reader. (own)
use Rattle.std.specs.Prelude.{ℕ}

-- The numbers below are literals, since the arithmetic of proofs reads them as such.

-- the longest message, in bytes: the greatest even length in two bytes
abbrev pub longest_message : ℕ
longest_message = 65534

-- the maximum number of tokens of a message: half its bytes
abbrev pub most_tokens : ℕ
most_tokens = 32767

-- the number of open brackets in sixteen bits after a KET with nothing open: one below zero, which wraps
abbrev pub below_zero : ℕ
below_zero = 65535

-- the maximum height of a reader's stack
abbrev pub most_symbols : ℕ
most_symbols = 4096
