use Rattle.std.proofs.Common.{rules, ◌≡◌, ◌++◌, ℕ, List, ap, sym, ◌∙◌}
use Rattle.daide_buffered_io.specs.Buffers.{buffered_bytes}
use Rattle.daide_buffered_io.specs.Taking.{bytes_taken}
use Rattle.daide_buffered_io.proofs.BufferLemmas.{of_view, held_passes}
use Rattle.daide_buffered_io.proofs.buffered.Buffered.take_behind.Goals as goal

pub returns-clause-passes : goal.returns-clause-passes
returns-clause-passes g c =
    let same : buffered_bytes c.self.inside.write_buffer ≡ c.in-Some.storage.bytes = search rules in
    of_view g.S.Duplex.to_give g.S.Duplex.taken _ _ _ _ _ c.self.view_is
    (held_passes g.S.Duplex.to_give g.S.Duplex.taken _ _ _ c.hold.ensures.rest.0 c.hold.ensures.rest.1
    (c.hold.ensures.write_buffer ∙ ap (λ (l : List ℕ). l ++ bytes_taken c.hold.result c.args.bytes.now) (sym same)))
