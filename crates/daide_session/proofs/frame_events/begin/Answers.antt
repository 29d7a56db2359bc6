use Rattle.daide_session.proofs.Common.{refl, sym, ap, ◌∙◌, subst, at, Level}
use Rattle.daide_channels.specs.Channels.{IsStarted}
use Rattle.daide_session.specs.FrameEvents.{note_by}
use Rattle.daide_session.proofs.FrameEventsLemmas.{begun_alone}
use Rattle.daide_session.proofs.SessionFronts.{fronts_same}
use Rattle.daide_session.proofs.frame_events.begin.Goals as goal

-- the header is timely

pub returns-clause-reacts : goal.returns-clause-reacts
returns-clause-reacts g c =
    begun_alone c.args.channels.now c.begin.new.self c.args.protocol.now c.args.side c.args.head c.requires.ready.live
    (sym c.untimely.ensures ∙ c.in_default.is) c.requires.bodiless c.requires.ready.tied
    (record {
      protocol_kept = refl;
      keeps = c.begin.ensures.keeps;
      queued = c.begin.ensures.queued;
      fronts = c.begin.ensures.fronts;
      started = subst (λ (l : Level). IsStarted (at c.args.channels.now.sides c.args.side) l
          (at c.begin.new.self.sides c.args.side)) c.level.ensures c.begin.ensures.started;
    })

pub returns-clause-note : goal.returns-clause-note
returns-clause-note g c = sym (ap note_by (sym c.untimely.ensures ∙ c.in_default.is))

pub returns-clause-begun : goal.returns-clause-begun
returns-clause-begun g c = λ _. record {
  protocol_kept = refl;
  keeps = c.begin.ensures.keeps;
  queued = c.begin.ensures.queued;
  fronts = c.begin.ensures.fronts;
  started = subst (λ (l : Level). IsStarted (at c.args.channels.now.sides c.args.side) l
      (at c.begin.new.self.sides c.args.side)) c.level.ensures c.begin.ensures.started;
}

pub returns-clause-fronts : goal.returns-clause-fronts
returns-clause-fronts g c =
    fronts_same c.args.channels.now c.begin.new.self c.begin.ensures.fronts c.begin.ensures.queued
