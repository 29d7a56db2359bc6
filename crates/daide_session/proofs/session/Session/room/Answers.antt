use Rattle.daide_session.proofs.Common.{ℕ, ◌<◌, sym, ap, ◌∙◌, subst, missing, Coming, coming, is_over, SessionView}
use Rattle.daide_session.proofs.Common.{Holding, holding, queued, room_of, is_awaited, not_both, view_of}
use Rattle.daide_session.proofs.EmitsLemmas.{room_over, room_awaited, room_open, coming_at}
use Rattle.daide_session.proofs.FrameEventsLemmas.{holding_at}
use Rattle.daide_session.proofs.session.Session.room.Goals.{then-is_over-via-then-is_over}
use Rattle.daide_session.proofs.session.Session.room.Goals.{then-is_over-via-else-is_over+then-is_awaited}
use Rattle.daide_session.proofs.session.Session.room.Goals as goal

pub returns-then-is_over-clause-missing : goal.returns-then-is_over-clause-missing
returns-then-is_over-clause-missing g c = elim c.then-is_over.branch [
  | then-is_over-via-then-is_over w ↦
      sym (room_over c.args.self.now c.args.side (sym c.is_over.ensures ∙ w.if-is_over.true))
  | then-is_over-via-else-is_over+then-is_awaited w ↦
      let t = c.self.inside.channels in
      let s = c.self.inside.protocol in
      sym (room_awaited (view_of t s) c.args.side (sym w.is_awaited.ensures.value
      ∙ w.if-is_awaited.true))
      ∙ ap (λ (v : SessionView). room_of v c.args.side) c.self.view_is
]

pub returns-then-is_over-clause-waited_for : goal.returns-then-is_over-clause-waited_for
returns-then-is_over-clause-waited_for g c = λ live free. elim c.then-is_over.branch [
  | then-is_over-via-then-is_over w ↦
      absurd (not_both (is_over c.args.self.now.state.phase) (sym c.is_over.ensures ∙ w.if-is_over.true) live)
  | then-is_over-via-else-is_over+then-is_awaited w ↦
      let t = c.self.inside.channels in
      let s = c.self.inside.protocol in
      absurd (not_both (is_awaited (queued c.args.self.now) c.args.side)
      (ap (λ (v : SessionView). is_awaited (queued v) c.args.side) (sym c.self.view_is) ∙ (sym w.is_awaited.ensures.value
      ∙ w.if-is_awaited.true)) free)
]

-- the number of bytes that the side's next frame lacks
pub returns-clause-missing : goal.returns-clause-missing
returns-clause-missing g c =
    let t = c.self.inside.channels in
    let s = c.self.inside.protocol in
    let side = c.args.side in
    let free = sym c.is_awaited.ensures.value ∙ c.if-is_awaited.false in
    let live = ap (λ (v : SessionView). is_over v.state.phase) c.self.view_is
    ∙ (sym c.is_over.ensures ∙ c.if-is_over.false) in
    c.room.ensures
    ∙ (ap (missing t.cap) (c.is_awaited.ensures.tied free)
    ∙ (ap (λ (x : Coming). missing t.cap x.pending) (sym (coming_at t s side))
    ∙ (sym (room_open (view_of t s) side live free)
    ∙ ap (λ (v : SessionView). room_of v side) c.self.view_is)))

pub returns-clause-waited_for : goal.returns-clause-waited_for
returns-clause-waited_for g c = λ live free.
    let t = c.self.inside.channels in
    let s = c.self.inside.protocol in
    let side = c.args.side in
    let here = ap (λ (v : SessionView). is_over v.state.phase) c.self.view_is ∙ live in
    let some = c.self.invariant.wanted here side in
    subst (λ (n : ℕ). 0 < n)
    (ap (λ (x : Coming). missing t.cap x.pending) (coming_at t s side)
    ∙ (sym (ap (missing t.cap) (c.is_awaited.ensures.tied (sym c.is_awaited.ensures.value ∙ c.if-is_awaited.false)))
    ∙ sym c.room.ensures))
    some

pub returns-then-is_over-clause-tied : goal.returns-then-is_over-clause-tied
returns-then-is_over-clause-tied g c = λ live free. elim c.then-is_over.branch [
  | then-is_over-via-then-is_over w ↦
      absurd (not_both (is_over c.args.self.now.state.phase) (sym c.is_over.ensures ∙ w.if-is_over.true) live)
  | then-is_over-via-else-is_over+then-is_awaited w ↦
      absurd (not_both (is_awaited (queued c.args.self.now) c.args.side)
      (ap (λ (v : SessionView). is_awaited (queued v) c.args.side) (sym c.self.view_is) ∙ (sym w.is_awaited.ensures.value
      ∙ w.if-is_awaited.true)) free)
]

pub returns-clause-tied : goal.returns-clause-tied
returns-clause-tied g c = λ live free.
    let t = c.self.inside.channels in
    let s = c.self.inside.protocol in
    let side = c.args.side in
    ap (λ (v : SessionView). (holding v side).frame_bytes) (sym c.self.view_is)
    ∙ (ap (λ (h : Holding). h.frame_bytes) (holding_at t s side)
    ∙ (c.is_awaited.ensures.tied (sym c.is_awaited.ensures.value ∙ c.if-is_awaited.false)
    ∙ (ap (λ (x : Coming). x.pending) (sym (coming_at t s side))
    ∙ ap (λ (v : SessionView). (coming v.state side).pending) c.self.view_is)))
