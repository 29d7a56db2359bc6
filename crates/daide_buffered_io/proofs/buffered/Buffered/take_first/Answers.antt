use Rattle.std.proofs.Common.{rules, refl, ◌≡◌, [], ◌++◌, ℕ, List, take, ap, sym, ◌∙◌, arith}
use Rattle.daide_buffered_io.specs.Buffers.{Roomful, buffered_bytes}
use Rattle.daide_buffered_io.specs.Taking.{bytes_taken}
use Rattle.daide_buffered_io.proofs.BufferLemmas.{of_view, straight_passes, held_passes}
use Rattle.daide_buffered_io.proofs.CallLemmas.{stopped, some_front, one_put}
use Rattle.daide_buffered_io.proofs.buffered.Buffered.take_first.Goals as goal

pub returns-in-Some-clause-passes : goal.returns-in-Some-clause-passes
returns-in-Some-clause-passes g c =
    let none : c.in-Some.storage.bytes ≡ c.args.self.now.write_buffer =
    ap (λ (h : Roomful). h.bytes) c.in-Some.ensures ∙ sym c.requires in
    held_passes g.S.Duplex.to_give g.S.Duplex.taken c.args.self.now c.hold.new.self _ c.hold.ensures.rest.0
    c.hold.ensures.rest.1
    (c.hold.ensures.write_buffer ∙ ap (λ (l : List ℕ). l ++ bytes_taken c.hold.result c.args.bytes.now) none)

pub returns-clause-passes : goal.returns-clause-passes
returns-clause-passes g c =
    let none : buffered_bytes c.self.inside.write_buffer ≡ [] = search rules in
    of_view g.S.Duplex.to_give g.S.Duplex.taken _ _ _ _ _ c.self.view_is
    (straight_passes g.S.Duplex.to_give g.S.Duplex.taken _ _ c.args.bytes.now c.put_to-put.result none none
    c.put_to-put.ensures.taken (record { read_buffer = refl; gives = c.put_to-put.ensures.apart }))

pub returns-clause-waits : goal.returns-clause-waits
returns-clause-waits g c = λ none some.
    stopped g.S.Duplex.calls (take 16384 c.args.bytes.now) _ _ _ _ _ 0 c.put_to-put.ensures.asked none
    (some_front 16384 c.args.bytes.now (omega arith) some)

pub returns-clause-writes : goal.returns-clause-writes
returns-clause-writes g c =
    rw (sym c.self.view_is)
    (one_put g.S.Duplex.calls (take 16384 c.args.bytes.now) _ _ _ _ _ c.put_to-put.ensures.asked)
