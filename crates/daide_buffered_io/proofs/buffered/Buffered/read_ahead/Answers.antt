use Rattle.std.proofs.Common.{rules, length, inl, inr, refl, ◌≡◌, [], ◌++◌, ℕ, List, take, ap, sym, ◌∙◌, append-nil}
use Rattle.daide_io.specs.Ports.{pulled_len}
use Rattle.daide_io.specs.declared.ports.Pull.TheVariants.{Got, Idle, Ended}
use Rattle.daide_buffered_io.specs.Buffers.{Buffer, buffered_bytes}
use Rattle.daide_buffered_io.proofs.BufferLemmas.{of_view, ahead_passes, none_passes}
use Rattle.daide_buffered_io.proofs.CallLemmas.{own_pull, more_pull, short}
use Rattle.daide_buffered_io.proofs.buffered.Buffered.read_ahead.Goals as goal
use Rattle.daide_buffered_io.proofs.buffered.Buffered.read_ahead.Goals.{then-buffer-lt-MOST_HELD, else-buffer-lt-MOST_HELD}

pub returns-in_default-clause-passes : goal.returns-in_default-clause-passes
returns-in_default-clause-passes g c =
    let none : buffered_bytes c.self.inside.read_buffer ≡ [] = search rules in
    let out = take (pulled_len c.pull_from.result) c.pull_from.new.buffer in
    of_view g.S.Duplex.to_give g.S.Duplex.taken _ _ _ _ _ c.self.view_is
    (ahead_passes g.S.Duplex.to_give g.S.Duplex.taken _ _ c.pull_from.new.stream out out c.pull_from.ensures.given
    c.pull_from.ensures.apart refl none (sym (append-nil out) ∙ ap (λ (l : List ℕ). out ++ l) (sym none)) refl)

pub returns-in-Got-clause-passes : goal.returns-in-Got-clause-passes
returns-in-Got-clause-passes g c =
    let none : buffered_bytes c.self.inside.read_buffer ≡ [] = search rules in
    of_view g.S.Duplex.to_give g.S.Duplex.taken _ _ _ _ _ c.self.view_is
    (ahead_passes g.S.Duplex.to_give g.S.Duplex.taken _ _ c.refill.new.stream c.refill.new.self.bytes _
    c.refill.ensures.given c.refill.ensures.apart c.hand_out.ensures.rest.0 none c.hand_out.ensures.bytes
    c.hand_out.ensures.rest.1)

pub returns-in_default-clause-asked : goal.returns-in_default-clause-asked
returns-in_default-clause-asked g c =
    own_pull g.S.Duplex.calls c.args.self.now.read_buffer _ _ c.self.inside.stream c.args.self.now.stream _ _ _
    (ap (λ (b : Buffer g.row.S.Denot). b.stream) c.self.view_is) c.pull_from.ensures.asked

pub returns-in-Got-clause-asked : goal.returns-in-Got-clause-asked
returns-in-Got-clause-asked g c =
    let free_space = short (length c.args.buffer.now) 16384 _ c.in-Some.storage c.in-Some.is
    (elim c.if-buffer-lt-MOST_HELD.branch [
      | then-buffer-lt-MOST_HELD w ↦ inl w.if-buffer-lt-MOST_HELD.true
      | else-buffer-lt-MOST_HELD w ↦ inr w.free_space-is
    ]) in
    more_pull g.S.Duplex.calls c.args.self.now.read_buffer _ 16384 _ _ c.self.inside.stream _ c.refill.new.stream _
    (Got c.hand_out.result) (Got c.in-Got._count) (ap (λ (b : Buffer g.row.S.Denot). b.stream) c.self.view_is) free_space
    c.hand_out.ensures.rest.0 refl c.in-Got.ensures.asked

pub returns-in-Idle-clause-asked : goal.returns-in-Idle-clause-asked
returns-in-Idle-clause-asked g c =
    let free_space = short (length c.args.buffer.now) 16384 _ c.in-Some.storage c.in-Some.is
    (elim c.if-buffer-lt-MOST_HELD.branch [
      | then-buffer-lt-MOST_HELD w ↦ inl w.if-buffer-lt-MOST_HELD.true
      | else-buffer-lt-MOST_HELD w ↦ inr w.free_space-is
    ]) in
    more_pull g.S.Duplex.calls c.args.self.now.read_buffer _ 16384 _ _ c.self.inside.stream _ c.refill.new.stream _
    Idle Idle (ap (λ (b : Buffer g.row.S.Denot). b.stream) c.self.view_is) free_space refl refl
    c.in-Idle.ensures.asked

pub returns-in-Ended-clause-asked : goal.returns-in-Ended-clause-asked
returns-in-Ended-clause-asked g c =
    let free_space = short (length c.args.buffer.now) 16384 _ c.in-Some.storage c.in-Some.is
    (elim c.if-buffer-lt-MOST_HELD.branch [
      | then-buffer-lt-MOST_HELD w ↦ inl w.if-buffer-lt-MOST_HELD.true
      | else-buffer-lt-MOST_HELD w ↦ inr w.free_space-is
    ]) in
    more_pull g.S.Duplex.calls c.args.self.now.read_buffer _ 16384 _ _ c.self.inside.stream _ c.refill.new.stream _
    Ended Ended (ap (λ (b : Buffer g.row.S.Denot). b.stream) c.self.view_is) free_space refl refl
    c.in-Ended.ensures.asked

pub returns-in-Idle-clause-passes : goal.returns-in-Idle-clause-passes
returns-in-Idle-clause-passes g c =
    of_view g.S.Duplex.to_give g.S.Duplex.taken _ _ _ _ _ c.self.view_is
    (none_passes g.S.Duplex.to_give g.S.Duplex.taken _ _ c.refill.new.self.bytes c.in-Idle.ensures.count
    c.in-Idle.ensures.given refl (record { write_buffer = refl; takes = c.in-Idle.ensures.apart }))

pub returns-in-Ended-clause-passes : goal.returns-in-Ended-clause-passes
returns-in-Ended-clause-passes g c =
    of_view g.S.Duplex.to_give g.S.Duplex.taken _ _ _ _ _ c.self.view_is
    (none_passes g.S.Duplex.to_give g.S.Duplex.taken _ _ c.refill.new.self.bytes c.in-Ended.ensures.count
    c.in-Ended.ensures.given refl (record { write_buffer = refl; takes = c.in-Ended.ensures.apart }))
