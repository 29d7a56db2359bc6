-- The record of ports in memory. (own)
use Rattle.std.specs.Prelude.{List, map, Option, Some, None}
use Rattle.std.specs.Prelude.{Vec}
use Rattle.daide_test_support.specs.declared.memory_ports.Call.{Call}
use Rattle.daide_test_support.specs.declared.memory_ports.Call.TheVariants as Calls
use Rattle.daide_io.specs.Ports.{PortCall, TurnBegins, Clock, Pulled, Offered}

-- a stored call as a port call
abbrev pub answer_stored : {A : Type 0} → Call A → PortCall
answer_stored Calls.TurnBegins = TurnBegins
answer_stored (Calls.Clock event) = Clock event
answer_stored (Calls.Pulled side buffer pull bytes) = Pulled side buffer pull bytes.items
answer_stored (Calls.Offered side bytes put) = Offered side bytes.items put

-- all stored calls, or none once memory for them was refused
abbrev pub answers_stored : {A : Type 0} → Option (Vec (Call A) A) → Option (List PortCall)
answers_stored None = None
answers_stored (Some calls) = Some (map answer_stored calls.items)
