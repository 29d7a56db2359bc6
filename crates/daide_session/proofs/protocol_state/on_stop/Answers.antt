use Rattle.daide_session.proofs.Common.{List, None, sym, ap, ◌∙◌, subst, Bot, Server, PerSide, at, Sent, Successor}
use Rattle.daide_session.proofs.Common.{fm_to, frames_to, final_frame_to, has_final_frame, fronts_stay, state_of}
use Rattle.daide_session.proofs.Common.{view_of, Emits}
use Rattle.daide_session.proofs.EmitsLemmas.{waiting_at, other_post, halted}
use Rattle.daide_session.proofs.SessionFronts.{fronts_kept_on}
use Rattle.daide_session.proofs.SessionLemmas.{nothing_note, stopped_note, terminated_is}
use Rattle.daide_session.proofs.protocol_state.on_stop.Goals as goal

pub queue_final-requires : goal.queue_final-requires
queue_final-requires g c =
    ap has_final_frame (sym (waiting_at c.args.channels.now c.args.protocol.now Bot))
    ∙ c.requires.no_end (sym c.is_over.ensures ∙ c.if-is_over.false) Bot

pub terminate-requires : goal.terminate-requires
terminate-requires g c =
    let t = c.args.channels.now in
    ap (λ (w : PerSide (List Sent)). has_final_frame (at w Server)) c.queue_final.ensures.queued
    ∙ (ap has_final_frame (other_post t.queued Bot None)
    ∙ (ap has_final_frame (sym (waiting_at t c.args.protocol.now Server))
    ∙ c.requires.no_end (sym c.is_over.ensures ∙ c.if-is_over.false) Server))

pub returns-then-is_over-clause-fronts : goal.returns-then-is_over-clause-fronts
returns-then-is_over-clause-fronts g c = fronts_stay c.args.channels.now

pub returns-then-is_over-clause-note : goal.returns-then-is_over-clause-note
returns-then-is_over-clause-note g c =
    nothing_note (state_of c.args.channels.now c.args.protocol.now) (sym c.is_over.ensures ∙ c.if-is_over.true)

pub returns-clause-note : goal.returns-clause-note
returns-clause-note g c =
    stopped_note (state_of c.args.channels.now c.args.protocol.now) (sym c.is_over.ensures ∙ c.if-is_over.false)

pub returns-clause-moves : goal.returns-clause-moves
returns-clause-moves g c =
    let s = state_of c.args.channels.now c.args.protocol.now in
    subst (λ (o : Successor). Emits (view_of c.args.channels.now c.args.protocol.now) o (view_of c.terminate.new.channels c.terminate.new.protocol))
    (sym (terminated_is s (sym c.is_over.ensures ∙ c.if-is_over.false)))
    (halted c.args.channels.now c.queue_final.new.self c.terminate.new.channels c.args.protocol.now c.terminate.new.protocol
    (record {
      cap = c.terminate.ensures.keeps.cap ∙ c.queue_final.ensures.limits.0;
      rules = c.terminate.ensures.keeps.rules ∙ c.queue_final.ensures.limits.1;
      sides = c.terminate.ensures.keeps.sides ∙ c.queue_final.ensures.sides;
    })
    c.queue_final.ensures.queued c.terminate.ensures.protocol c.terminate.ensures.sent)

pub returns-clause-fronts : goal.returns-clause-fronts
returns-clause-fronts g c =
    fronts_kept_on c.args.channels.now c.queue_final.new.self c.terminate.new.channels (final_frame_to Bot None)
    (λ wire. frames_to wire (fm_to c.args.protocol.now.phase Server))
    c.queue_final.ensures.queued c.terminate.ensures.sent c.queue_final.ensures.fronts c.terminate.ensures.fronts
