use Rattle.std.proofs.Common.{◌≡◌, ℕ, ◌+◌, Bool, true, false, Option, refl, sym, ap, ◌∙◌, inl, arith}
use Rattle.std.specs.declared.time.Instant.{Instant}
use Rattle.daide_sockets.specs.Accepting.{ConnectsFrom}
use Rattle.daide_sockets.specs.Clock.{is_past}
use Rattle.daide_sockets.specs.KeptRows.{ChangesRows}
use Rattle.daide_sockets.specs.Pairing.{Arriving, StaysPending}
use Rattle.daide_sockets.proofs.ConnectLemmas.{next_not_past, tries_over}
use Rattle.daide_sockets.proofs.KeptRowLemmas.{changes_none, changes_then, same_reading}
use Rattle.daide_sockets.proofs.PairingLemmas.{same_pending, stays_both}
use Rattle.daide_sockets.proofs.admission.PendingConnection.advances.Goals as goal
use Rattle.daide_sockets.proofs.admission.PendingConnection.advances.Goals.{in-Failed, in-Pending, then-moves_on, else-moves_on}

pub returns-clause-table : goal.returns-clause-table
returns-clause-table g c =
    let Own : ℕ → Type 0 = λ row. row ≡ c.args.key in
    let second : ChangesRows Own c.progress.new.poller.table c.if-moves_on.poller.table =
    elim c.if-moves_on.branch [
      | then-moves_on w ↦ rw w.poller-is w.try_next.ensures.table
      | else-moves_on w ↦ rw w.poller-is (changes_none _ _ _ refl)
    ] in
    changes_then Own _ _ _ c.progress.ensures.table second

pub returns-clause-goes_on : goal.returns-clause-goes_on
returns-clause-goes_on g c =
    let first : StaysPending c.args.self.now c.progress.new.self = rw c.progress.ensures.rest
    (record { identity = refl; bot = refl; server = inl refl; tried = omega arith; gives_up = refl; im_due = refl; part = refl }) in
    let second : StaysPending c.progress.new.self c.if-moves_on.self = elim c.if-moves_on.branch [
      | then-moves_on w ↦ rw w.self-is w.try_next.ensures.goes_on
      | else-moves_on w ↦ rw w.self-is (same_pending _)
    ] in
    stays_both _ _ _ (stays_both _ _ _ first second) c.drop_if_late.ensures.goes_on

pub returns-clause-tries : goal.returns-clause-tries
returns-clause-tries g c =
    let own = c.args.self.now in
    let mid = c.if-moves_on.self in
    let tried_first : c.progress.new.self.tried ≡ own.tried =
    ap (λ (a : Arriving g.row.S.Denot). a.tried) c.progress.ensures.rest in
    let tried_last : c.drop_if_late.new.self.tried ≡ mid.tried =
    by (is_past c.if-moves_on.poller.table.reading mid.gives_up) refl in
    let connects : (count : ℕ) × (mid.tried ≡ own.tried + count) × ConnectsFrom g.N.Network.transition c.args.servers.now c.args.key
    own.tried count c.progress.new.poller.network c.if-moves_on.poller.network = elim c.if-moves_on.branch [
      | then-moves_on w ↦ rw (w.self-is, w.poller-is) (rw tried_first at w.try_next.ensures.calls)
      | else-moves_on w ↦ rw (w.self-is, w.poller-is) (0, omega (arith, tried_first), refl)
    ] in
    tries_over g.N.Network.transition c.args.servers.now c.args.key own.tried c.drop_if_late.new.self.tried _ _ _
    c.progress.ensures.calls (connects.0, tried_last ∙ connects.1, connects.2)
  where
    by : (late : Bool) → is_past c.if-moves_on.poller.table.reading c.if-moves_on.self.gives_up ≡ late →
        c.drop_if_late.new.self.tried ≡ c.if-moves_on.self.tried
    by true late = ap (λ (a : Arriving g.row.S.Denot). a.tried) (c.drop_if_late.ensures.late late)
    by false early = ap (λ (a : Arriving g.row.S.Denot). a.tried) (c.drop_if_late.ensures.in_time early)

pub returns-clause-moves : goal.returns-clause-moves
returns-clause-moves g c = λ _.
    let reading = same_reading (λ row. row ≡ c.args.key) _ _ c.progress.ensures.table in
    let own : c.progress.new.self.moves_on ≡ c.self.inside.moves_on = ap (λ (a : Arriving g.row.S.Denot). a.moves_on) (sym c.self.view_is) in
    let mid : is_past c.args.poller.now.table.reading c.if-moves_on.self.moves_on ≡ false = elim c.if-moves_on.branch [
      | then-moves_on w ↦ rw w.self-is (rw reading at (next_not_past _ _ _ _ w.try_next.ensures.moves_on))
      | else-moves_on w ↦ rw w.self-is (elim c.match-progress.branch [
        | in-Failed v ↦ absurd (let on = v.moves_on-is in let off = w.if-moves_on.false in cc)
        | in-Pending v ↦ rw (← own, reading) at (sym v.is_over-moves_on.ensures ∙ sym v.moves_on-is ∙ w.if-moves_on.false)
      ])
    ] in
    ap (λ (due : Option Instant). is_past c.args.poller.now.table.reading due)
    (by (is_past c.if-moves_on.poller.table.reading c.if-moves_on.self.gives_up) refl)
    ∙ mid
  where
    by : (late : Bool) → is_past c.if-moves_on.poller.table.reading c.if-moves_on.self.gives_up ≡ late →
        c.drop_if_late.new.self.moves_on ≡ c.if-moves_on.self.moves_on
    by true late = ap (λ (a : Arriving g.row.S.Denot). a.moves_on) (c.drop_if_late.ensures.late late)
    by false early = ap (λ (a : Arriving g.row.S.Denot). a.moves_on) (c.drop_if_late.ensures.in_time early)
