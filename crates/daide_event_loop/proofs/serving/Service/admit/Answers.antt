use Rattle.std.proofs.Common.{◌≤◌, ◌≢◌, ◌+◌, Bool, true, false, List, [], ◌∷◌, refl, sym, ap, ◌∙◌, subst, inl, inr, arith}
use Rattle.std.proofs.lemmas.Bool.{eqb-false}
use Rattle.daide_io.specs.System.{SystemCall, Accepts, TransitsBy}
use Rattle.daide_driver.specs.Slab.{IsNoneFree}
use Rattle.daide_event_loop.specs.Serving.{ServiceView, Admits, have_all_come}
use Rattle.daide_event_loop.proofs.serving.Service.admit.Goals as goal

pub returns-then-have_all_come : goal.returns-then-have_all_come
returns-then-have_all_come g c = (
  [],
  refl,
  inr (
    inl (ap (λ (run : ServiceView g.row.P.Denot). have_all_come run.counters) (sym c.self.view_is) ∙ sym c.have_all_come.ensures
        ∙ c.if-have_all_come.true),
    refl,
    refl,
  ),
)

pub returns-in_default : goal.returns-in_default
returns-in_default g c = (
  [],
  refl,
  inr (
    inr (subst (λ (run : ServiceView g.row.P.Denot). IsNoneFree run.slab.places) c.self.view_is c.in_default.ensures.full),
    refl,
    refl,
  ),
)

pub keep-requires : goal.keep-requires
keep-requires g c = c.in-Some.ensures.free

pub invariant_of-self : goal.invariant_of-self
invariant_of-self g c =
    let counters = c.self.inside.counters in
    let within : counters.accepted ≤ counters.sessions = c.self.invariant in
    let differ : counters.accepted ≢ counters.sessions = eqb-false counters.accepted counters.sessions
    (sym c.have_all_come.ensures ∙ c.if-have_all_come.false) in
    omega (arith, within, differ)

pub returns-then-accept : goal.returns-then-accept
returns-then-accept g c =
    let go = g.S.System.transition in
    let place = c.in-Some.place in
    let run : ServiceView g.row.P.Denot = record {
      slab = c.self.inside.slab;
      counters = c.self.inside.counters;
      ready = c.self.inside.ready;
    } in
    let new : ServiceView g.row.P.Denot = record {
      slab = c.keep.new.self;
      counters = record run.counters { accepted = run.counters.accepted + 1 };
      ready = c.wake.new.self;
    } in
    subst (λ (old : ServiceView g.row.P.Denot). (trace : List (SystemCall g.row.P.Denot))
    × TransitsBy go c.args.system.now trace c.accept.new.self × Admits old trace new) c.self.view_is (
      Accepts place true ∷ [],
      (
        c.accept.new.self,
        subst (λ (came : Bool). go c.args.system.now (Accepts place came) c.accept.new.self) c.if-accept.true c.accept.ensures,
        refl,
      ),
      inl (record {
        place = place;
        came = true;
        due = sym c.have_all_come.ensures ∙ c.if-have_all_come.false;
        free = c.in-Some.ensures.free;
        asked = refl;
        then_kept = rw (c.keep.ensures, c.wake.ensures) refl;
      }),
    )

pub returns-else-accept : goal.returns-else-accept
returns-else-accept g c =
    let go = g.S.System.transition in
    let place = c.in-Some.place in
    subst (λ (run : ServiceView g.row.P.Denot). (trace : List (SystemCall g.row.P.Denot))
    × TransitsBy go c.args.system.now trace c.accept.new.self × Admits run trace run) c.self.view_is (
      Accepts place false ∷ [],
      (
        c.accept.new.self,
        subst (λ (came : Bool). go c.args.system.now (Accepts place came) c.accept.new.self) c.if-accept.false c.accept.ensures,
        refl,
      ),
      inl (record {
        place = place;
        came = false;
        due = sym c.have_all_come.ensures ∙ c.if-have_all_come.false;
        free = c.in-Some.ensures.free;
        asked = refl;
        then_kept = refl;
      }),
    )
