use Rattle.std.proofs.Common.{rules, ◌≡◌, ◌∙◌, [], ap, sym, length, inl, inr}
use Rattle.daide_buffered_io.specs.Buffers.{Buffer}
use Rattle.daide_buffered_io.proofs.BufferLemmas.{out_passes, still_passes}
use Rattle.daide_buffered_io.proofs.CallLemmas.{no_room, is_some, left_alone}
use Rattle.daide_buffered_io.proofs.buffered.Buffered.pull.Goals as goal
use Rattle.daide_buffered_io.proofs.buffered.Buffered.pull.Goals.{then-is_empty-via-then-is_empty}
use Rattle.daide_buffered_io.proofs.buffered.Buffered.pull.Goals.{then-is_empty-via-else-is_empty+then-not-readiness}

pub returns-in-Some-clause-passes : goal.returns-in-Some-clause-passes
returns-in-Some-clause-passes g c =
    let same : c.args.self.now.read_buffer ≡ c.in-Some.storage.bytes = search rules in
    out_passes g.S.Duplex.to_give g.S.Duplex.taken c.args.self.now _ c.in-Some.storage.bytes _
    (c.hand_out.ensures.rest.0 ∙ ap (λ (b : Buffer g.row.S.Denot). b.stream) c.take_ahead.ensures.rest) same
    c.hand_out.ensures.bytes
    (c.hand_out.ensures.rest.1 ∙ ap (λ (b : Buffer g.row.S.Denot). b.write_buffer) c.take_ahead.ensures.rest)

pub returns-then-is_empty-clause-passes : goal.returns-then-is_empty-clause-passes
returns-then-is_empty-clause-passes g c =
    let none : [] ≡ c.args.self.now.read_buffer = search rules in
    still_passes g.S.Duplex.to_give g.S.Duplex.taken c.args.self.now _
    (record {
      read_buffer = ap (λ (b : Buffer g.row.S.Denot). b.read_buffer) c.take_ahead.ensures.rest ∙ none;
      gives = ap (λ (b : Buffer g.row.S.Denot). g.S.Duplex.to_give b.stream) c.take_ahead.ensures.rest;
    })
    (record {
      write_buffer = ap (λ (b : Buffer g.row.S.Denot). b.write_buffer) c.take_ahead.ensures.rest;
      takes = ap (λ (b : Buffer g.row.S.Denot). g.S.Duplex.taken b.stream) c.take_ahead.ensures.rest;
    })

pub returns-in-Some-clause-asked : goal.returns-in-Some-clause-asked
returns-in-Some-clause-asked g c = λ none.
    absurd (is_some c.in-Some.storage.bytes c.args.self.now.read_buffer c.in-Some.ensures.bytes c.in-Some.ensures.some none)

pub returns-then-is_empty-clause-asked : goal.returns-then-is_empty-clause-asked
returns-then-is_empty-clause-asked g c =
    left_alone g.S.Duplex.calls c.args.self.now.read_buffer (length c.args.buffer.now) c.args.readiness.now
    c.args.self.now.stream _ (ap (λ (b : Buffer g.row.S.Denot). b.stream) c.take_ahead.ensures.rest)
    (elim c.then-is_empty.branch [
      | then-is_empty-via-then-is_empty w ↦ inr (no_room _ (sym w.if-is_empty.true ∙ c.is_empty.ensures))
      | then-is_empty-via-else-is_empty+then-not-readiness w ↦ inl w.if-not-readiness.true
    ])
