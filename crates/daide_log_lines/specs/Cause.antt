-- What the faults of a log name. (own)
use Rattle.std.specs.Prelude.{⊤}
use Rattle.daide_causes.specs.Causes.{HasFailed}
use Rattle.daide_log_lines.specs.declared.fault.LogFault.{LogFault}
use Rattle.daide_log_lines.specs.declared.fault.LogFault.TheVariants.{BadLine, LineTooLong, TooManyLines}
use Rattle.daide_log_lines.specs.declared.fault.LogFault.TheVariants.{Read, Write, Memory}

-- What a fault names has happened: a read failed, a write failed, or memory was refused. The others are the log's own.
-- The relations are the reader's and the writer's `Fails`.
abbrev pub HasCause : {R W : Type 0} → (R → R → Type 0) → (W → W → Type 0) → Type 0 → LogFault → Type 0
HasCause Reads Writes refused (BadLine n) = ⊤
HasCause Reads Writes refused (LineTooLong n) = ⊤
HasCause Reads Writes refused TooManyLines = ⊤
HasCause Reads Writes refused Read = HasFailed Reads
HasCause Reads Writes refused Write = HasFailed Writes
HasCause Reads Writes refused Memory = refused
