-- A reachable session is bounded and exact after each further call.
use Rattle.std.proofs.Common.{◌≡◌, ℕ, ◌*◌, Bool, true, false, List, [], ◌∷◌, ◌++◌, refl, sym, ap, ◌∙◌, subst}
use Rattle.std.proofs.Common.{append_assoc, append-nil, arith, inr}
use Rattle.std.specs.Prelude.{◌&&◌}
use Rattle.daide_frame.specs.declared.side.Side.{Side}
use Rattle.daide_frame.specs.declared.side.Side.TheVariants.{Bot, Server}
use Rattle.daide_reader.specs.Reading.{IsRaised}
use Rattle.daide_protocol.specs.Machine.{Limits, Sent, SessionState, is_over}
use Rattle.daide_protocol.specs.Wires.{SessionView, IsNew, holding, queued, sent_bytes, is_closed, no_frame}
use Rattle.daide_io.specs.Ports.{PortCall, has_failed}
use Rattle.daide_driver.specs.Record.{Moved, DeliversOutput}
use Rattle.daide_driver.specs.Totals.{RefinesRun, Works, HasTotals, KeepsTotals, came}
use Rattle.daide_driver.specs.Turn.{Then}
use Rattle.daide_session.specs.Work.{unspent}
use Rattle.daide_session.specs.Bounds.{IsWithinBounds}
use Rattle.daide_driver.specs.Headline.{untouched, IsBoundedAndExact, Headline}
use Rattle.daide_driver.specs.Whole.{HasHeadline, WholeTurn}
use Rattle.daide_driver.proofs.Stretches.{delivers_append, relays_append}
use Rattle.daide_driver.proofs.TurnLemmas.{WorkingTurn, turn_in_order, turn_relays}
use Rattle.daide_session.proofs.WorkLemmas.{nothing_left, paid_idle}

-- ---- the queues of a closed session are empty

none_of : (frames : List Sent) → no_frame frames ≡ true → frames ≡ []
none_of [] e = refl
none_of (frame ∷ frames) e = absurd (cc)

all_three : (a b c : Bool) → (a && (b && c)) ≡ true → (b ≡ true) × (c ≡ true)
all_three true true true e = (refl, refl)
all_three true true false e = absurd (cc)
all_three true false c e = absurd (cc)
all_three false b c e = absurd (cc)

closed_wire : (g : SessionView) → is_closed g ≡ true → (side : Side) → queued g side ≡ []
closed_wire g e Bot =
    none_of g.wires.bot (all_three (is_over g.state.phase) (no_frame g.wires.bot) (no_frame g.wires.server) e).0
closed_wire g e Server =
    none_of g.wires.server (all_three (is_over g.state.phase) (no_frame g.wires.bot) (no_frame g.wires.server) e).1

nothing_waited : (limits : Limits) (side : Side) → sent_bytes (queued (untouched limits) side) ≡ []
nothing_waited limits Bot = refl
nothing_waited limits Server = refl

moved_all : (failed over : Bool) (waited answers took waits : List ℕ) → failed ≡ false → waited ≡ [] → waits ≡ [] →
    Moved failed over waited answers took waits → took ≡ answers
moved_all true over waited answers took waits f e n h = absurd (cc)
moved_all false over waited answers took waits f e n h =
    sym (ap (λ (x : List ℕ). x ++ answers) (sym e) ∙ h ∙ ap (λ (x : List ℕ). took ++ x) n ∙ append-nil took)

-- ---- the work since the opening of a run

whole_work : (limits : Limits) (history : List PortCall) (g : SessionView) →
    RefinesRun (untouched limits) history g → (side : Side) → IsRaised (2 * came side history) 0 (holding g side).total
whole_work limits history g stands side =
    let paid = stands.work side in
    let few = paid.few in
    let sum = paid.sum in
    record {
      by = paid.by;
      few = (let none = nothing_unspent limits side in omega (arith, few, none));
      sum = (let none = nothing_asked limits side in omega (arith, sum, none));
    }
  where
    nothing_unspent : (limits : Limits) (side : Side) → unspent (untouched limits) side ≡ 0
    nothing_unspent limits Bot = nothing_left limits.cap
    nothing_unspent limits Server = nothing_left limits.cap

    nothing_asked : (limits : Limits) (side : Side) → (holding (untouched limits) side).total ≡ 0
    nothing_asked limits Bot = refl
    nothing_asked limits Server = refl

-- ---- the headline

pub headline_of : (a : SessionView) (xs : List PortCall) (b : SessionView) → IsWithinBounds b → DeliversOutput a xs b →
    Headline a xs b
headline_of a xs b within r limits history stands =
    let all = delivers_append (untouched limits) history a xs b stands r in
    record {
      bounds = within;
      sends = all;
      all_sent = λ closed side ok. moved_all (has_failed side (history ++ xs)) (is_over b.state.phase) _ _ _ _ ok
          (nothing_waited limits side) (ap sent_bytes (closed_wire b closed side)) (all.wires side);
    }

-- ---- the totals

pub totals_of : (a : SessionView) (xs : List PortCall) (b : SessionView) → RefinesRun a xs b → KeepsTotals a xs b
totals_of a xs b r limits history whole =
    let all = relays_append (untouched limits) history a xs b whole r in
    record { whole = all; work = λ side. whole_work limits (history ++ xs) b all side }

-- a new session is at the opening of a run
pub new_stands : (limits : Limits) (g : SessionView) → IsNew limits g → RefinesRun (untouched limits) [] g
new_stands limits g n = record {
  sends = record {
    effects = [];
    run = (refl, n.state);
    wires = λ side. ap (λ (x : List ℕ). x ++ []) (nothing_waited limits side) ∙ sym (ap sent_bytes (n.quiet side));
  };
  counts = n.uncounted;
  work = work;
}
  where
    limits_set : g.state.limits ≡ limits
    limits_set = ap (λ (s : SessionState). s.limits) n.state

    work : Works (untouched limits) [] g
    work Bot = paid_idle Bot (untouched limits) g limits_set (n.unasked Bot) (inr (n.frame_bytes Bot))
    work Server = paid_idle Server (untouched limits) g limits_set (n.unasked Server) (inr (n.frame_bytes Server))

-- the whole effect of a turn's trace
pub one_turn : (a : SessionView) (xs : List PortCall) (b : SessionView) → IsWithinBounds b → WorkingTurn a xs b →
    WholeTurn a xs b
one_turn a xs b within t =
    let relays = turn_relays a xs b t in
    record {
      in_order = turn_in_order a xs b t;
      delivered = relays;
      bounds = within;
      headline = headline_of a xs b within relays.sends;
      totals = totals_of a xs b relays;
    }

-- two headlines, one after another, are a headline of the joined traces
pub headlines_join : (a : SessionView) (xs : List PortCall) (c : SessionView) → Then HasHeadline HasHeadline a xs c →
    HasHeadline a xs c
headlines_join a xs c h = (
  λ limits history stands.
      subst (λ (ys : List PortCall). IsBoundedAndExact limits ys c) (joined history)
      (h.5.0 limits (history ++ h.1) (h.4.0 limits history stands).sends),
  λ limits history whole.
      subst (λ (ys : List PortCall). HasTotals limits ys c) (joined history)
      (h.5.1 limits (history ++ h.1) (h.4.1 limits history whole).whole),
)
  where
    joined : (history : List PortCall) → (history ++ h.1) ++ h.2 ≡ history ++ xs
    joined history =
        append_assoc history h.1 h.2 ∙ ap (λ (ys : List PortCall). history ++ ys) (sym h.3)
