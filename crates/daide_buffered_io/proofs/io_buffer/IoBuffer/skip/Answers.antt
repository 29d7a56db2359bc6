use Rattle.std.proofs.Common.{ap, ◌∙◌, ◌≤◌, ◌-◌, ℕ, List, length, drop, subst, sym}
use Rattle.daide_buffered_io.specs.Buffers.{Roomful}
use Rattle.daide_buffered_io.proofs.BufferLemmas.{skipped}
use Rattle.daide_buffered_io.proofs.io_buffer.IoBuffer.skip.Goals as goal

pub returns : goal.returns
returns c =
    let bytes = ap (λ (h : Roomful). h.bytes) c.self.view_is in
    let with_bytes : List ℕ → Roomful = λ l. record { bytes = l; free_space = 16384 - c.self.inside.to } in
    ap with_bytes
    (skipped c.self.inside.bytes.items c.self.inside.from c.self.inside.to c.args.count
    (subst (λ (l : List ℕ). c.args.count ≤ length l) (sym bytes) c.requires))
    ∙ ap (λ (h : Roomful). record h { bytes = drop c.args.count h.bytes }) c.self.view_is
