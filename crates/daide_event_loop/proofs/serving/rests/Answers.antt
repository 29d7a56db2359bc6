use Rattle.std.proofs.Common.{Bool, false, [], ◌∷◌, refl, sym, ap, ◌∙◌, subst}
use Rattle.daide_io.specs.System.{Rests}
use Rattle.daide_driver.specs.declared.meter.Meter.{Meter}
use Rattle.daide_event_loop.specs.Serving.{RestsBy}
use Rattle.daide_event_loop.proofs.serving.rests.Goals as goal

pub returns-then-meter : goal.returns-then-meter
returns-then-meter g c = λ item own.
    let moved = ap (λ (m : Meter). m.moved.made_progress) (sym (c.meter.ensures item own)) ∙ c.if-meter.true in
    ([], refl, subst (λ (b : Bool). RestsBy b c.args.place item.ports [] false) (sym moved) (refl, refl))

pub returns : goal.returns
returns g c = λ item own.
    let still = ap (λ (m : Meter). m.moved.made_progress) (sym (c.meter.ensures item own)) ∙ c.if-meter.false in
    let call = Rests c.args.place item.ports c.rest.result in (
      call ∷ [],
      (
        c.rest.new.self,
        subst (λ (ports : g.row.P.Denot). g.S.System.transition c.args.system.now (Rests c.args.place ports c.rest.result) c.rest.new.self)
            (c.ports.ensures item own) c.rest.ensures,
        refl,
      ),
      subst (λ (b : Bool). RestsBy b c.args.place item.ports (call ∷ []) c.rest.result) (sym still) refl,
    )
