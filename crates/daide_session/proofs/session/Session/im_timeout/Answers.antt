use Rattle.daide_session.proofs.Common.{[], ◌∷◌, sym, ap, ◌∙◌, subst, ImTimerExpired, is_over, SessionView, Refines}
use Rattle.daide_session.proofs.Common.{has_final_frame, KeepsFront, view_of}
use Rattle.daide_session.proofs.SessionFronts.{fronts_seen}
use Rattle.daide_session.proofs.EmitsLemmas.{waiting_at}
use Rattle.daide_session.proofs.SessionLemmas.{goes_im_timer_expired, standing_on}
use Rattle.daide_session.proofs.session.Session.im_timeout.Given.{Over}
use Rattle.daide_session.proofs.session.Session.im_timeout.Goals as goal

pub fail-requires : goal.fail-requires
fail-requires g c = λ wire.
    let t = c.self.inside.channels in
    ap has_final_frame (sym (waiting_at t c.self.inside.protocol wire)) ∙ c.self.invariant.no_end (ap is_over c.in-WaitIm.is) wire

goes : (g : Over) (c : goal.After-fail g) →
    Refines (view_of c.self.inside.channels c.self.inside.protocol) (ImTimerExpired ∷ []) c.fail.result
    (view_of c.fail.new.channels c.fail.new.protocol)
goes g c = goes_im_timer_expired (view_of c.self.inside.channels c.self.inside.protocol)
    (view_of c.fail.new.channels c.fail.new.protocol) c.fail.result c.in-WaitIm.is c.fail.ensures.moves
    c.fail.ensures.note

pub invariant_of-self : goal.invariant_of-self
invariant_of-self g c = standing_on _ _ _ _ (goes g c) c.self.invariant

pub returns-in-WaitIm-clause-goes : goal.returns-in-WaitIm-clause-goes
returns-in-WaitIm-clause-goes g c =
    subst (λ (v : SessionView). Refines v (ImTimerExpired ∷ []) c.fail.result (view_of c.fail.new.channels c.fail.new.protocol))
    c.self.view_is (goes g c)

pub returns-in-WaitIm-clause-fronts : goal.returns-in-WaitIm-clause-fronts
returns-in-WaitIm-clause-fronts g c = λ side.
    subst (λ (v : SessionView). KeepsFront v side (view_of c.fail.new.channels c.fail.new.protocol)) c.self.view_is
    (fronts_seen c.self.inside.channels c.fail.new.channels c.self.inside.protocol c.fail.new.protocol c.fail.ensures.fronts
    side)
