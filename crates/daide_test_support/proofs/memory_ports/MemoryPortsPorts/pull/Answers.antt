use Rattle.std.proofs.Common.{◌≡◌, length, take, ap, ◌∙◌, rules}
use Rattle.daide_io.specs.Ports.{Pulled, pulled_len}
use Rattle.daide_test_support.proofs.StoredLemmas.{copied, tells}
use Rattle.daide_test_support.proofs.memory_ports.MemoryPortsPorts.pull.Goals.{in-Bot, in-Server}
use Rattle.daide_test_support.proofs.memory_ports.MemoryPortsPorts.pull.Goals as goal

pub returns-clause-transition : goal.returns-clause-transition
returns-clause-transition g c =
    let same : c.match-side.self.calls ≡ c.args.self.now.calls =
    elim c.match-side.branch [
      | in-Bot w ↦ ap (λ m. m.calls) w.self-is
      | in-Server w ↦ ap (λ m. m.calls) w.self-is
    ] in
    let bytes = take (pulled_len c.match-side.pull) c.match-side.buffer in
    tells c.args.self.now.calls c.take-calls.result c.with_call.result c.map-call.result
    (Pulled c.args.side (length c.args.buffer.now) c.match-side.pull bytes) (c.take-calls.ensures.value ∙ same)
    c.with_call.ensures
    (copied c.from_slice-came.result c.map-call.result _ bytes _ c.map-call.ensures.cases
    (rw c.count_of.ensures at c.from_slice-came.ensures.items)
    (λ x one items made. search rules))
