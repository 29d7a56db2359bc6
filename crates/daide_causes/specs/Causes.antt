-- What happened outside of the program, as the cause of a fault. (own)
use Rattle.std.specs.Prelude.{ℕ}

-- an allocation was refused, by the allocator's relation `Refuses`
abbrev pub WasRefused : (ℕ → Type 0) → Type 0
WasRefused Refuses = (count : ℕ) × Refuses count

-- a call of a reader or a writer returned an error, by the relation `Fails` of the stream
abbrev pub HasFailed : {S : Type 0} → (S → S → Type 0) → Type 0
HasFailed {S} Fails = (old new : S) × Fails old new
