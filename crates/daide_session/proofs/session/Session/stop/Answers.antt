use Rattle.daide_session.proofs.Common.{[], ◌∷◌, refl, subst, OperatorStops, SessionView, Refines, state_of, view_of}
use Rattle.daide_session.proofs.Common.{terminated, KeepsFront}
use Rattle.daide_session.proofs.SessionFronts.{fronts_seen}
use Rattle.daide_session.proofs.SessionLemmas.{goes_event, standing_on}
use Rattle.daide_session.proofs.session.Session.stop.Given.{Over}
use Rattle.daide_session.proofs.session.Session.stop.Goals as goal

went : (g : Over) (c : goal.After-on_stop g) →
    Refines (view_of c.self.inside.channels c.self.inside.protocol) (OperatorStops ∷ []) c.on_stop.result
    (view_of c.on_stop.new.channels c.on_stop.new.protocol)
went g c =
    let s = state_of c.self.inside.channels c.self.inside.protocol in
    goes_event (view_of c.self.inside.channels c.self.inside.protocol)
    (view_of c.on_stop.new.channels c.on_stop.new.protocol) OperatorStops (terminated s)
    c.on_stop.result refl refl c.on_stop.ensures.moves c.on_stop.ensures.note

pub invariant_of-self : goal.invariant_of-self
invariant_of-self g c = standing_on _ _ _ _ (went g c) c.self.invariant

pub returns-clause-goes : goal.returns-clause-goes
returns-clause-goes g c =
    subst (λ (v : SessionView). Refines v (OperatorStops ∷ []) c.on_stop.result
    (view_of c.on_stop.new.channels c.on_stop.new.protocol)) c.self.view_is (went g c)

pub returns-clause-fronts : goal.returns-clause-fronts
returns-clause-fronts g c = λ side.
    subst (λ (v : SessionView). KeepsFront v side (view_of c.on_stop.new.channels c.on_stop.new.protocol)) c.self.view_is
    (fronts_seen c.self.inside.channels c.on_stop.new.channels c.self.inside.protocol c.on_stop.new.protocol c.on_stop.ensures.fronts side)
