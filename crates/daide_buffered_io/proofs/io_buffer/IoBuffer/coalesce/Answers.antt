use Rattle.std.proofs.Common.{rules, ap, ◌∙◌, ◌≡◌, ◌≤◌, ◌++◌, ◌+◌, ◌-◌, ℕ, List, length, take, drop}
use Rattle.std.proofs.lemmas.List.{places, with_items_is}
use Rattle.daide_buffered_io.specs.Buffers.{Roomful}
use Rattle.daide_buffered_io.proofs.BufferLemmas.{gathered}
use Rattle.daide_buffered_io.proofs.io_buffer.IoBuffer.coalesce.Goals as goal
use borrow.Rule.Slice.PartMut.{put_mid, post_of}

pub returns-clause-bytes : goal.returns-clause-bytes
returns-clause-bytes c =
    let before = c.deref_mut.result.now in
    let piece = c.copy_from_slice.new.self in
    let from = c.self.inside.from in
    let to = c.self.inside.to in
    let count = c.min-count.result in
    let after = put_mid to ((to + count) - to) before piece in
    let same : piece ≡ take count c.args.bytes.now = search rules in
    let size : length piece ≡ count = search rules in
    let within : to ≤ length before = search rules in
    let below : from ≤ to = search rules in
    let whole : length after ≡ c.self.inside.bytes.len = search (rules, places) in
    ap (λ (l : List ℕ). take ((to + count) - from) (drop from l)) (with_items_is c.self.inside.bytes after whole)
    ∙ gathered before piece (post_of to ((to + count) - to) before) from to count below within size
    ∙ ap (λ (l : List ℕ). take (to - from) (drop from l) ++ piece) c.deref_mut.ensures.value
    ∙ ap (λ (h : Roomful). h.bytes ++ piece) c.self.view_is
    ∙ ap (λ (l : List ℕ). c.args.self.now.bytes ++ l) same
