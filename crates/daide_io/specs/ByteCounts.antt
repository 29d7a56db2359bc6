-- How many bytes the ports of a session delivered and took, modulo 2^64. (own)
use Rattle.std.specs.Prelude.{ℕ, ◌+◌, ◌%◌, ◌^◌}
use Rattle.std.specs.Prelude.{List, [], ◌∷◌, if◌then◌else◌}
use Rattle.daide_frame.specs.declared.side.Side.{Side}
use Rattle.daide_frame.specs.declared.side.Side.TheVariants.{Bot, Server}
use Rattle.daide_frame.specs.Side.{same_side}
use Rattle.daide_io.specs.declared.byte_counts.ByteCounts.{ByteCounts}
use Rattle.daide_io.specs.declared.ports.Pull.{Pull}
use Rattle.daide_io.specs.declared.ports.Put.{Put}
use Rattle.daide_io.specs.declared.ports.Put.TheVariants.{Took, Failed}
use Rattle.daide_io.specs.Ports.{PortCall, TurnBegins, Clock, Pulled, Offered, pulled_len}

abbrev pub more_bytes : ℕ → ℕ → ℕ
more_bytes count bytes = (count + bytes) % 2 ^ 64

-- the number of bytes that a put took
abbrev pub put_len : Put → ℕ
put_len (Took n) = n
put_len Failed = 0

abbrev pub no_bytes : ByteCounts
no_bytes = record { from_bot = 0; from_server = 0; to_bot = 0; to_server = 0 }

abbrev pub pull_counted : Side → Pull → ByteCounts → ByteCounts
pull_counted Bot pull c = record {
  from_bot = more_bytes c.from_bot (pulled_len pull);
  from_server = c.from_server;
  to_bot = c.to_bot;
  to_server = c.to_server;
}
pull_counted Server pull c = record {
  from_bot = c.from_bot;
  from_server = more_bytes c.from_server (pulled_len pull);
  to_bot = c.to_bot;
  to_server = c.to_server;
}

abbrev pub put_counted : Side → Put → ByteCounts → ByteCounts
put_counted Bot put c = record {
  from_bot = c.from_bot;
  from_server = c.from_server;
  to_bot = more_bytes c.to_bot (put_len put);
  to_server = c.to_server;
}
put_counted Server put c = record {
  from_bot = c.from_bot;
  from_server = c.from_server;
  to_bot = c.to_bot;
  to_server = more_bytes c.to_server (put_len put);
}

-- the counts after a call
abbrev pub counted_after : PortCall → ByteCounts → ByteCounts
counted_after TurnBegins c = c
counted_after (Clock event) c = c
counted_after (Pulled side buffer pull bytes) c = pull_counted side pull c
counted_after (Offered side bytes put) c = put_counted side put c

-- ---- over a trace

-- the number of bytes that a call delivered from a side, and the number that it took for a side
abbrev pub delivers : Side → PortCall → ℕ
delivers side TurnBegins = 0
delivers side (Clock event) = 0
delivers side (Pulled from buffer pull bytes) = if same_side from side then pulled_len pull else 0
delivers side (Offered to bytes put) = 0

abbrev pub takes : Side → PortCall → ℕ
takes side TurnBegins = 0
takes side (Clock event) = 0
takes side (Pulled from buffer pull bytes) = 0
takes side (Offered to bytes put) = if same_side to side then put_len put else 0

abbrev pub sum_of : (PortCall → ℕ) → List PortCall → ℕ
sum_of count [] = 0
sum_of count (call ∷ trace) = count call + sum_of count trace

-- the counts of all calls of a trace
abbrev pub bytes_of : List PortCall → ByteCounts
bytes_of trace = record {
  from_bot = sum_of (delivers Bot) trace % 2 ^ 64;
  from_server = sum_of (delivers Server) trace % 2 ^ 64;
  to_bot = sum_of (takes Bot) trace % 2 ^ 64;
  to_server = sum_of (takes Server) trace % 2 ^ 64;
}
