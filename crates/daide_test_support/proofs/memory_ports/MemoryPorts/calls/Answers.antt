use Rattle.std.proofs.Common.{sym, ap, ◌∙◌}
use Rattle.std.specs.Prelude.{map, Some}
use Rattle.daide_test_support.specs.MemoryPorts.{answer_stored, answers_stored}
use Rattle.daide_test_support.proofs.memory_ports.MemoryPorts.calls.Goals as goal

pub returns-in-Some : goal.returns-in-Some
returns-in-Some g c =
    ap (λ calls. Some (map answer_stored calls)) c.as_slice.ensures.value ∙ sym (ap answers_stored c.in-Some.is)

pub returns-in-None : goal.returns-in-None
returns-in-None g c = sym (ap answers_stored c.in-None.is)
