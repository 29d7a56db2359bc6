use Rattle.std.proofs.Common.{refl}
use Rattle.daide_io.specs.Ports.{TurnBegins}
use Rattle.daide_test_support.proofs.StoredLemmas.{tells}
use Rattle.daide_test_support.proofs.memory_ports.MemoryPorts.begin_turn.Goals as goal

pub returns : goal.returns
returns g c =
    tells c.args.self.now.calls c.take-calls.result c.with_call.result _ TurnBegins c.take-calls.ensures.value
    c.with_call.ensures refl
