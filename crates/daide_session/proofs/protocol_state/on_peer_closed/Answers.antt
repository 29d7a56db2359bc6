use Rattle.daide_session.proofs.Common.{sym, ap, ◌∙◌, other, has_final_frame, fronts_stay}
use Rattle.daide_session.proofs.EmitsLemmas.{waiting_at}
use Rattle.daide_session.proofs.protocol_state.on_peer_closed.Goals as goal

pub terminate-requires : goal.terminate-requires
terminate-requires g c =
    let t = c.args.channels.now in
    let protocol = c.args.protocol.now in
    ap has_final_frame (sym (waiting_at t protocol (other c.args.side)))
    ∙ c.requires.no_end (sym c.is_over.ensures ∙ c.if-is_over.false) (other c.args.side)

pub returns-then-is_over-clause-fronts : goal.returns-then-is_over-clause-fronts
returns-then-is_over-clause-fronts g c = fronts_stay c.args.channels.now
