use Rattle.std.proofs.Common.{ap}
use Rattle.std.specs.Prelude.{map, Some}
use Rattle.daide_test_support.specs.MemoryPorts.{answer_stored}
use Rattle.daide_test_support.proofs.memory_ports.MemoryPorts.new.Goals as goal

pub returns : goal.returns
returns g c = ap (λ calls. Some (map answer_stored calls)) c.new.ensures.items
