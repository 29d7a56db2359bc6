use Rattle.std.proofs.Common.{◌≡◌, ℕ, false, List, [], ◌∷◌, refl, sym, ap, ◌∙◌, subst}
use Rattle.std.specs.Prelude.{slice_get}
use Rattle.daide_io.specs.declared.system.Connect.TheVariants.{Ready, Failed, Pending}
use Rattle.daide_io.specs.Ports.{PortCall}
use Rattle.daide_io.specs.System.{SystemCall, Connects, TransitsBy}
use Rattle.daide_driver.specs.Slab.{SlabView, is_at, is_kept}
use Rattle.daide_event_loop.specs.Serving.{ServiceView, VisitsPlace, IsRefusedAt}
use Rattle.daide_event_loop.proofs.VisitLemmas.{passed_over, kept_in, visited_kept, opened_there}
use Rattle.daide_event_loop.proofs.serving.Service.join.Goals as goal

-- the visit, and then the calls of the system
abbrev Visited : {P S : Type 0} → (P → PortCall → P → Type 0) → (S → SystemCall P → S → Type 0) → S → ServiceView P → ℕ → ℕ →
    ServiceView P → S → Type 0
Visited {P} port_transition transition first old place turns new system =
    (trace : List (SystemCall P)) × TransitsBy transition first trace system × VisitsPlace port_transition old place turns trace new

pub returns-then-not-is_kept-clause-visits : goal.returns-then-not-is_kept-clause-visits
returns-then-not-is_kept-clause-visits g c =
    let run : ServiceView g.row.P.Denot = c.args.self.now in (
      [],
      refl,
      passed_over g.P.Ports.transition (slice_get run.slab.places c.args.place) run c.args.place c.requires
          (subst (λ (run : ServiceView g.row.P.Denot). is_at is_kept run.slab.places c.args.place ≡ false) c.self.view_is
          (sym c.is_kept.ensures ∙ c.if-not-is_kept.true)),
    )

pub give_up-requires : goal.give_up-requires
give_up-requires g c =
    kept_in (slice_get c.self.inside.slab.places c.args.place) (sym c.is_kept.ensures ∙ c.if-not-is_kept.false)

pub open-requires : goal.open-requires
open-requires g c =
    kept_in (slice_get c.self.inside.slab.places c.args.place) (sym c.is_kept.ensures ∙ c.if-not-is_kept.false)

pub give_turns-requires : goal.give_turns-requires
give_turns-requires g c =
    opened_there c.self.inside.slab c.args.place _ _ c.open.new.self
    (kept_in (slice_get c.self.inside.slab.places c.args.place) (sym c.is_kept.ensures ∙ c.if-not-is_kept.false))
    c.in-Ok.ensures.opens

pub returns-in-Pending-clause-visits : goal.returns-in-Pending-clause-visits
returns-in-Pending-clause-visits g c =
    let kept = kept_in (slice_get c.self.inside.slab.places c.args.place) (sym c.is_kept.ensures ∙ c.if-not-is_kept.false) in
    subst (λ (run : ServiceView g.row.P.Denot). Visited g.P.Ports.transition g.S.System.transition c.args.system.now run c.args.place 1 run
    c.connected.new.self) c.self.view_is (
      Connects c.args.place Pending ∷ [],
      (c.connected.new.self, c.in-Pending.ensures, refl),
      visited_kept g.P.Ports.transition _ c.args.place 1 Pending [] _ kept (refl, refl, refl),
    )

pub returns-in-Failed-clause-visits : goal.returns-in-Failed-clause-visits
returns-in-Failed-clause-visits g c =
    let kept = kept_in (slice_get c.self.inside.slab.places c.args.place) (sym c.is_kept.ensures ∙ c.if-not-is_kept.false) in
    let run : ServiceView g.row.P.Denot = record {
      slab = c.self.inside.slab;
      counters = c.self.inside.counters;
      ready = c.self.inside.ready;
    } in
    subst (λ (old : ServiceView g.row.P.Denot). Visited g.P.Ports.transition g.S.System.transition c.args.system.now old c.args.place 1
    (record run { slab = c.give_up.new.self }) c.connected.new.self) c.self.view_is (
      Connects c.args.place Failed ∷ [],
      (c.connected.new.self, c.in-Failed.ensures, refl),
      visited_kept g.P.Ports.transition run c.args.place 1 Failed [] (record run { slab = c.give_up.new.self })
          kept (refl, refl, ap (λ (slab : SlabView g.row.P.Denot). record run { slab = slab }) c.give_up.ensures),
    )

pub returns-in-Ok-clause-visits : goal.returns-in-Ok-clause-visits
returns-in-Ok-clause-visits g c =
    let kept = kept_in (slice_get c.self.inside.slab.places c.args.place) (sym c.is_kept.ensures ∙ c.if-not-is_kept.false) in
    let ports = c.in-Ready.ports in
    let run : ServiceView g.row.P.Denot = record {
      slab = c.self.inside.slab;
      counters = c.self.inside.counters;
      ready = c.self.inside.ready;
    } in
    let turns = c.give_turns.ensures in
    let opens = c.in-Ok.ensures.opens in
    subst (λ (old : ServiceView g.row.P.Denot). Visited g.P.Ports.transition g.S.System.transition c.args.system.now old c.args.place
    c.give_turns.result c.give_turns.new.self c.give_turns.new.system) c.self.view_is (
      Connects c.args.place (Ready ports) ∷ turns.0,
      (c.connected.new.self, c.in-Ready.ensures, turns.1),
      visited_kept g.P.Ports.transition run c.args.place c.give_turns.result (Ready ports) turns.0 c.give_turns.new.self kept
          (c.open.new.self, opens, turns.2),
    )

pub returns-in-Err-clause-broken_off : goal.returns-in-Err-clause-broken_off
returns-in-Err-clause-broken_off g c =
    let kept = kept_in (slice_get c.self.inside.slab.places c.args.place) (sym c.is_kept.ensures ∙ c.if-not-is_kept.false) in
    let ports = c.in-Ready.ports in
    let run : ServiceView g.row.P.Denot = record {
      slab = c.self.inside.slab;
      counters = c.self.inside.counters;
      ready = c.self.inside.ready;
    } in
    subst (λ (old : ServiceView g.row.P.Denot). (trace : List (SystemCall g.row.P.Denot))
    × TransitsBy g.S.System.transition c.args.system.now trace c.connected.new.self
    × IsRefusedAt g.A.Memory.Refuses old c.args.place trace (record run { slab = c.open.new.self })) c.self.view_is (
      Connects c.args.place (Ready ports) ∷ [],
      (c.connected.new.self, c.in-Ready.ensures, refl),
      record {
        ports = ports;
        pending = kept;
        asked = refl;
        refused = c.in-Err.ensures.refused;
        same = ap (λ (slab : SlabView g.row.P.Denot). record run { slab = slab }) c.in-Err.ensures.unchanged;
      },
    )
