-- The bytes of a put that a stream accepted. (own)
use Rattle.std.specs.Prelude.{ℕ, Bool, true, false, List, take, Option}
use Rattle.std.specs.Io.KnownBytes.{Appends, Keeps}
use Rattle.daide_io.specs.declared.ports.Put.{Put}
use Rattle.daide_io.specs.declared.ports.Put.TheVariants.{Took, Failed}

-- a put that returned `Took n` wrote exactly the first `n` bytes; a put that failed wrote none
abbrev pub IsTaken : Option (List ℕ) → List ℕ → Put → Option (List ℕ) → Type 0
IsTaken old bytes (Took n) new = Appends old new (take n bytes)
IsTaken old bytes Failed new = Keeps old new

-- whether a put failed
abbrev pub has_put_failed : Put → Bool
has_put_failed (Took n) = false
has_put_failed Failed = true

-- the number of bytes that a put accepted
abbrev pub taken_len : Put → ℕ
taken_len (Took n) = n
taken_len Failed = 0

-- the bytes that a put accepted: a prefix of those offered
abbrev pub bytes_taken : Put → List ℕ → List ℕ
bytes_taken put bytes = take (taken_len put) bytes
