use Rattle.daide_session.proofs.Common.{List, ap, ◌∙◌, Some, Sent, fm_to, frames_to, other, PerSide, at, final_frame_to}
use Rattle.daide_session.proofs.Common.{has_final_frame}
use Rattle.daide_session.proofs.SessionFronts.{fronts_kept_on}
use Rattle.daide_session.proofs.EmitsLemmas.{other_post, failed}
use Rattle.daide_session.proofs.protocol_state.fail.Goals as goal

pub terminate-requires : goal.terminate-requires
terminate-requires g c =
    let t = c.args.channels.now in
    ap (λ (w : PerSide (List Sent)). has_final_frame (at w (other c.args.side))) c.queue_final.ensures.queued
    ∙ (ap has_final_frame (other_post t.queued c.args.side (Some c.args.code)) ∙ c.requires (other c.args.side))

pub returns-clause-moves : goal.returns-clause-moves
returns-clause-moves g c = failed c.args.channels.now c.queue_final.new.self c.terminate.new.channels c.args.protocol.now
    c.terminate.new.protocol c.count_fault.new.self c.args.side c.args.code
    (record {
      cap = c.terminate.ensures.keeps.cap ∙ c.queue_final.ensures.limits.0;
      rules = c.terminate.ensures.keeps.rules ∙ c.queue_final.ensures.limits.1;
      sides = c.terminate.ensures.keeps.sides ∙ c.queue_final.ensures.sides;
    })
    c.queue_final.ensures.queued c.terminate.ensures.protocol c.count_fault.ensures c.terminate.ensures.sent

pub returns-clause-fronts : goal.returns-clause-fronts
returns-clause-fronts g c =
    fronts_kept_on c.args.channels.now c.queue_final.new.self c.terminate.new.channels (final_frame_to c.args.side (Some c.args.code))
    (λ wire. frames_to wire (fm_to c.args.protocol.now.phase (other c.args.side)))
    c.queue_final.ensures.queued c.terminate.ensures.sent c.queue_final.ensures.fronts c.terminate.ensures.fronts
