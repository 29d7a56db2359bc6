use Rattle.std.proofs.Common.{refl}
use Rattle.daide_io.specs.Ports.{Clock}
use Rattle.daide_test_support.proofs.StoredLemmas.{tells}
use Rattle.daide_test_support.proofs.memory_ports.MemoryPortsPorts.clock.Goals as goal

pub returns-clause-transition : goal.returns-clause-transition
returns-clause-transition g c =
    tells c.args.self.now.calls c.take-calls.result c.with_call.result _ (Clock c.clock_event-event.result)
    c.take-calls.ensures.value c.with_call.ensures refl
