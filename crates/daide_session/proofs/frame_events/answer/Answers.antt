use Rattle.daide_session.proofs.Common.{ℕ, List, [], true, refl, sym, ap, ◌∙◌, drop, tokens_of, Side, Deed, at}
use Rattle.daide_session.proofs.Common.{frame_accounted, Account, deed_of, is_sent, frame_tokens, pending}
use Rattle.daide_protocol.specs.declared.note.Note.TheVariants as Note
use Rattle.daide_protocol.proofs.AccountLemmas.{message_recorded, recorded_account}
use Rattle.daide_session.proofs.FrameEventsLemmas.{account_held, answered_whole, dropped_whole, phase_held}
use Rattle.daide_session.proofs.SessionFronts.{fronts_same}
use Rattle.daide_session.proofs.frame_events.answer.Goals as goal

-- the frame must not be sent
pub returns-then-not-is_sent-clause-reacts : goal.returns-then-not-is_sent-clause-reacts
returns-then-not-is_sent-clause-reacts g c =
    let t = c.args.channels.now in
    let s = c.args.protocol.now in
    dropped_whole t c.clear.new.self s c.args.side c.args.head (drop 4 (pending t c.args.side))
    c.after-protocol.result c.requires.ready.live
    (ap (λ (to : Side). is_sent s.phase c.args.head.kind to) (sym c.other.ensures)
    ∙ (sym c.is_sent.ensures ∙ c.if-not-is_sent.true))
    c.requires.ready.tied c.requires.head (c.after-protocol.ensures [] refl) c.clear.ensures.keeps
    c.clear.ensures.queued
    c.clear.ensures.cleared

pub returns-then-not-is_sent-clause-fronts : goal.returns-then-not-is_sent-clause-fronts
returns-then-not-is_sent-clause-fronts g c =
    fronts_same c.args.channels.now c.clear.new.self c.clear.ensures.fronts c.clear.ensures.queued

pub returns-clause-reacts : goal.returns-clause-reacts
returns-clause-reacts g c =
    let t = c.args.channels.now in
    let s = c.args.protocol.now in
    let body = drop 4 (pending t c.args.side) in
    answered_whole t c.reply-verdict.new.self s c.args.side c.args.head body c.reply-verdict.result
    c.after-protocol-2.result c.record_message.new.self _
    c.requires.ready.live
    (ap (λ (to : Side). is_sent s.phase c.args.head.kind to) (sym c.other.ensures)
    ∙ (sym c.is_sent.ensures ∙ c.if-not-is_sent.false))
    c.requires.good c.requires.ready.tied c.requires.head c.reply-verdict.ensures.right c.reply-verdict.ensures.keeps
    c.reply-verdict.ensures.queued c.reply-verdict.ensures.answered c.reply-verdict.ensures.raised
    c.reply-verdict.ensures.no_message
    (c.after-protocol-2.ensures _ c.found.ensures
    ∙ phase_held t c.reply-verdict.new.self c.args.side s.top_level c.args.head c.reply-verdict.result s.phase
    c.reply-verdict.ensures.keeps c.reply-verdict.ensures.answered c.requires.ready.tied c.requires.head)
    (ap (λ (d : Deed). Note.Frame c.args.head d) c.deed_of-deed.ensures)
    (recorded_account s.top_level c.args.side c.args.head.kind (deed_of true c.reply-verdict.result) (tokens_of body) s.account
    c.count_frame.new.self c.record_message.new.self
    (c.count_frame.ensures _ c.found-2.ensures
    ∙ (ap (λ (d : Deed). record (frame_accounted s.top_level c.args.side c.args.head.kind d
    (frame_tokens c.reply-verdict.new.self.cap (at c.reply-verdict.new.self.sides c.args.side).holding.frame_bytes) s.account)
    { name = s.account.name; power = s.account.power })
    c.deed_of-deed.ensures
    ∙ ap (λ (a : Account). record a { name = s.account.name; power = s.account.power })
    (account_held t c.reply-verdict.new.self c.args.side s.top_level c.args.head (deed_of true c.reply-verdict.result)
    s.account c.reply-verdict.ensures.keeps c.reply-verdict.ensures.answered c.requires.ready.tied c.requires.head)))
    (c.record_message.ensures
    ∙ (ap (λ (d : Deed). message_recorded c.args.side c.args.head.kind d (tokens_of c.body.result.now) c.count_frame.new.self)
    c.deed_of-deed.ensures
    ∙ ap (λ (l : List ℕ). message_recorded c.args.side c.args.head.kind (deed_of true c.reply-verdict.result) (tokens_of l)
    c.count_frame.new.self)
    (c.body.ensures.value
    ∙ ap (λ (l : List ℕ). drop 4 l) (c.reply-verdict.ensures.answered.frame_bytes ∙ c.requires.ready.tied)))))
