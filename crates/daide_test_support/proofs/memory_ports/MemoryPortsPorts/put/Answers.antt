use Rattle.std.proofs.Common.{◌≡◌, ap, ◌∙◌, rules}
use Rattle.daide_io.specs.Ports.{Offered}
use Rattle.daide_test_support.proofs.StoredLemmas.{copied, tells}
use Rattle.daide_test_support.proofs.memory_ports.MemoryPortsPorts.put.Goals.{in-Bot, in-Server}
use Rattle.daide_test_support.proofs.memory_ports.MemoryPortsPorts.put.Goals as goal

pub returns-clause-transition : goal.returns-clause-transition
returns-clause-transition g c =
    let same : c.match-side.self.calls ≡ c.args.self.now.calls =
    elim c.match-side.branch [
      | in-Bot w ↦ ap (λ m. m.calls) w.self-is
      | in-Server w ↦ ap (λ m. m.calls) w.self-is
    ] in
    tells c.args.self.now.calls c.take-calls.result c.with_call.result c.map-call.result
    (Offered c.args.side c.args.bytes.now c.match-side.put) (c.take-calls.ensures.value ∙ same) c.with_call.ensures
    (copied c.from_slice.result c.map-call.result _ c.args.bytes.now _ c.map-call.ensures.cases
    c.from_slice.ensures.items
    (λ x one items made. search rules))
