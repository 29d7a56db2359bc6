use Rattle.daide_session.proofs.Common.{rules, ◌≡◌, ℕ, List, [], ◌∷◌, drop, ap, ◌∙◌, subst, Whole, Coming, Sent}
use Rattle.daide_session.proofs.Common.{is_awaited, PerSide, at, pending, view_of, HandlesFrameEvents}
use Rattle.daide_session.proofs.FrameEventsLemmas.{begun_and_empty, begun_late, no_code, some_code}
use Rattle.daide_session.proofs.SessionFronts.{fronts_from}
use Rattle.daide_session.proofs.frame_events.begin_and_complete.Goals as goal

pub complete-requires-clause-ready : goal.complete-requires-clause-ready
complete-requires-clause-ready g c =
    let begun = c.in-Nothing.ensures.begun (no_code _ c.in-Nothing.ensures.note) in
    record {
      live = search rules;
      no_end = search rules;
      free = ap (λ (w : PerSide (List Sent)). is_awaited (at w) c.args.side) begun.queued ∙ c.requires.ready.free;
      tied = search rules;
    }

pub returns-in-Nothing-clause-reacts : goal.returns-in-Nothing-clause-reacts
returns-in-Nothing-clause-reacts g c =
    let t = c.args.channels.now in
    let u = c.begin.new.channels in
    let side = c.args.side in
    let head = c.args.head in
    let timely = no_code _ c.in-Nothing.ensures.note in
    let begun = c.in-Nothing.ensures.begun timely in
    let still : drop 4 (pending u side) ≡ [] =
    ap (λ (x : Coming). drop 4 x.pending) begun.started.coming ∙ c.requires.bodiless in
    let last = subst (λ (b : List ℕ). HandlesFrameEvents (view_of u c.begin.new.protocol) side (Whole head b ∷ [])
    c.complete.result (view_of c.complete.new.channels c.complete.new.protocol)) still c.complete.ensures.reacts in
    begun_and_empty t u c.complete.new.channels c.args.protocol.now c.begin.new.protocol c.complete.new.protocol side head
    c.complete.result c.requires.ready.live timely (ap (drop 4) c.requires.ready.tied ∙ c.requires.bodiless) begun last

pub returns-in-Nothing-clause-fronts : goal.returns-in-Nothing-clause-fronts
returns-in-Nothing-clause-fronts g c =
    let begun = c.in-Nothing.ensures.begun (no_code _ c.in-Nothing.ensures.note) in
    fronts_from c.args.channels.now c.begin.new.channels c.complete.new.channels begun.fronts begun.queued
    c.complete.ensures.fronts

pub returns-in_default : goal.returns-in_default
returns-in_default g c =
    let late = some_code _ c.begin.result c.begin.ensures.note c.in_default.not-Nothing in
    record {
      reacts = begun_late _ _ c.args.side c.args.head c.begin.result late.0 late.1 c.begin.ensures.reacts;
      fronts = c.begin.ensures.fronts;
    }
