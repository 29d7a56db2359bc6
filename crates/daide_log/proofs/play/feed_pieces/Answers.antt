use Rattle.daide_log.proofs.Common.{refl, sym, subst, ◌∙◌, inl, inr, length, arith, eqb-true, take-append-drop, all_of}
use Rattle.daide_log.proofs.Common.{words_of, bytes_come, IsReady, ReportsEvents, less_room}
use Rattle.daide_log.specs.declared.heading.Preamble.{Preamble}
use Rattle.daide_log.proofs.PlayLemmas.{piece_fed, all_fed, fed_few, idle_free, nothing_fed, reported_few}
use Rattle.daide_frame.proofs.FeedingLemmas.{not_empty}
use Rattle.daide_log.proofs.play.feed_pieces.Goals as goal

pub loop-session-init : goal.loop-session-init
loop-session-init g c =
    let head = c.args.report.now.head in
    let words = words_of head.words in (
      nothing_fed (g.S.Style.form words) (g.S.Style.knows words c.args.report.now.style.now) head.limits.config words (g.met.S.Style.lawful words) c.args.source c.args.side
          c.args.bytes.now c.args.session.now c.args.report.now.summary
          (all_of g.W.Write.contents c.args.report.now.output) c.requires.ready c.requires.room,
      refl,
      refl,
    )

pub feed_piece-requires-clause-ready : goal.feed_piece-requires-clause-ready
feed_piece-requires-clause-ready g c =
    subst (λ (h : Preamble). IsReady h.limits.config (words_of h.words) c.loop-session.session)
    (sym c.loop-session.invariant.2) c.loop-session.invariant.0.ready

pub feed_piece-requires-clause-tied : goal.feed_piece-requires-clause-tied
feed_piece-requires-clause-tied g c =
    c.room.ensures.tied (sym c.is_over.ensures ∙ c.if-not-is_over.true)
    (idle_free c.loop-session.session c.args.side c.loop-session.invariant.0.ready.idle)

pub feed_piece-requires-clause-room : goal.feed_piece-requires-clause-room
feed_piece-requires-clause-room g c =
    less_room 1 (length c.loop-session.rest.now) c.loop-session.report.summary c.loop-session.invariant.0.room
    (omega (arith, not_empty _ (sym c.is_empty.ensures ∙ c.loop-session-test.true)))

pub loop-session-smaller : goal.loop-session-smaller
loop-session-smaller g c =
    let live = sym c.is_over.ensures ∙ c.if-not-is_over.true in
    let free = idle_free c.loop-session.session c.args.side c.loop-session.invariant.0.ready.idle in
    let room = c.room.ensures.waited_for live free in
    let some = not_empty _ (sym c.is_empty.ensures ∙ c.loop-session-test.true) in
    omega (arith, some, room, c.split_at.ensures.front_len, c.split_at.ensures.back_len, c.min.ensures)

pub loop-session-preserved : goal.loop-session-preserved
loop-session-preserved g c =
    let head = c.args.report.now.head in
    let words = words_of head.words in
    let live = sym c.is_over.ensures ∙ c.if-not-is_over.true in
    let room = c.room.ensures.waited_for live (idle_free c.loop-session.session c.args.side c.loop-session.invariant.0.ready.idle) in (
      piece_fed (g.S.Style.form words) (g.S.Style.knows words c.args.report.now.style.now)
          (g.S.Style.knows words c.loop-session.report.style.now) (g.S.Style.knows words c.feed_piece.new.report.style.now)
          head.limits.config words (g.met.S.Style.lawful words) c.args.source c.args.side
          c.args.bytes.now c.loop-session.rest.now c.split_at.result.0.now
          c.split_at.result.1.now c.args.session.now.state c.loop-session.session c.feed_piece.new.session
          c.args.report.now.summary c.loop-session.report.summary c.feed_piece.new.report.summary
          (all_of g.W.Write.contents c.args.report.now.output)
          (all_of g.W.Write.contents c.loop-session.report.output)
          (all_of g.W.Write.contents c.feed_piece.new.report.output)
          c.loop-session.invariant.0
          (rw (c.split_at.ensures.front, c.split_at.ensures.back) (sym (take-append-drop _ c.loop-session.rest.now)))
          (omega (arith, not_empty _ (sym c.is_empty.ensures ∙ c.loop-session-test.true), room, c.split_at.ensures.front_len, c.min.ensures))
          (subst (λ (h : Preamble). ReportsEvents (g.S.Style.form (words_of h.words))
          (g.S.Style.knows (words_of h.words) c.loop-session.report.style.now)
          (g.S.Style.knows (words_of h.words) c.feed_piece.new.report.style.now) c.args.source c.args.side
          c.loop-session.session.state (bytes_come c.args.side c.split_at.result.0.now) c.feed_piece.new.session.state
          c.loop-session.report.summary c.feed_piece.new.report.summary
          (all_of g.W.Write.contents c.loop-session.report.output)
          (all_of g.W.Write.contents c.feed_piece.new.report.output)) c.loop-session.invariant.2
          c.in_ok-feed_piece.ensures.reported)
          (subst (λ (h : Preamble). IsReady h.limits.config (words_of h.words) c.feed_piece.new.session)
          c.loop-session.invariant.2 c.feed_piece.ensures.ready)
          c.feed_piece.ensures.few,
      c.feed_piece.ensures.same_writer ∙ c.loop-session.invariant.1,
      c.feed_piece.ensures.same_head ∙ c.loop-session.invariant.2,
    )

pub returns-in_err-feed_piece-clause-few : goal.returns-in_err-feed_piece-clause-few
returns-in_err-feed_piece-clause-few g c =
    let head = c.args.report.now.head in
    let words = words_of head.words in
    reported_few (g.S.Style.form words) (g.S.Style.knows words c.args.report.now.style.now)
    (g.S.Style.knows words c.loop-session.report.style.now) head.limits.config words c.args.source c.args.side c.args.bytes.now
    c.loop-session.rest.now c.args.session.now.state
    c.loop-session.session c.args.report.now.summary c.loop-session.report.summary c.feed_piece.new.report.summary
    (all_of g.W.Write.contents c.args.report.now.output)
    (all_of g.W.Write.contents c.loop-session.report.output) c.loop-session.invariant.0
    (not_empty _ (sym c.is_empty.ensures ∙ c.loop-session-test.true)) c.feed_piece.ensures.few

pub returns-in_err-feed_piece-clause-ready : goal.returns-in_err-feed_piece-clause-ready
returns-in_err-feed_piece-clause-ready g c =
    subst (λ (h : Preamble). IsReady h.limits.config (words_of h.words) c.feed_piece.new.session)
    c.loop-session.invariant.2 c.feed_piece.ensures.ready

pub returns-else-not-is_over-clause-reported : goal.returns-else-not-is_over-clause-reported
returns-else-not-is_over-clause-reported g c =
    let head = c.args.report.now.head in
    let words = words_of head.words in
    all_fed (g.S.Style.form words) (g.S.Style.knows words c.args.report.now.style.now)
    (g.S.Style.knows words c.loop-session.report.style.now) head.limits.config words (g.met.S.Style.lawful words) c.args.source c.args.side
    c.args.bytes.now c.loop-session.rest.now c.args.session.now.state
    c.loop-session.session c.args.report.now.summary c.loop-session.report.summary
    (all_of g.W.Write.contents c.args.report.now.output)
    (all_of g.W.Write.contents c.loop-session.report.output)
    c.loop-session.invariant.0 (inr (sym c.is_over.ensures ∙ c.if-not-is_over.false))

pub returns-else-not-is_over-clause-few : goal.returns-else-not-is_over-clause-few
returns-else-not-is_over-clause-few g c =
    let head = c.args.report.now.head in
    let words = words_of head.words in
    fed_few (g.S.Style.form words) (g.S.Style.knows words c.args.report.now.style.now)
    (g.S.Style.knows words c.loop-session.report.style.now) head.limits.config words c.args.source c.args.side c.args.bytes.now
    c.loop-session.rest.now c.args.session.now.state
    c.loop-session.session c.args.report.now.summary c.loop-session.report.summary
    (all_of g.W.Write.contents c.args.report.now.output)
    (all_of g.W.Write.contents c.loop-session.report.output) c.loop-session.invariant.0

pub returns-else-not-is_over-clause-ready : goal.returns-else-not-is_over-clause-ready
returns-else-not-is_over-clause-ready g c = c.loop-session.invariant.0.ready

pub returns-after-loop-session-clause-reported : goal.returns-after-loop-session-clause-reported
returns-after-loop-session-clause-reported g c =
    let head = c.args.report.now.head in
    let words = words_of head.words in
    all_fed (g.S.Style.form words) (g.S.Style.knows words c.args.report.now.style.now)
    (g.S.Style.knows words c.loop-session.report.style.now) head.limits.config words (g.met.S.Style.lawful words) c.args.source c.args.side
    c.args.bytes.now c.loop-session.rest.now c.args.session.now.state
    c.loop-session.session c.args.report.now.summary c.loop-session.report.summary
    (all_of g.W.Write.contents c.args.report.now.output)
    (all_of g.W.Write.contents c.loop-session.report.output)
    c.loop-session.invariant.0 (inl (eqb-true (length c.loop-session.rest.now) 0 (sym c.is_empty.ensures ∙ c.loop-session-test.false)))

pub returns-after-loop-session-clause-few : goal.returns-after-loop-session-clause-few
returns-after-loop-session-clause-few g c =
    let head = c.args.report.now.head in
    let words = words_of head.words in
    fed_few (g.S.Style.form words) (g.S.Style.knows words c.args.report.now.style.now)
    (g.S.Style.knows words c.loop-session.report.style.now) head.limits.config words c.args.source c.args.side c.args.bytes.now
    c.loop-session.rest.now c.args.session.now.state
    c.loop-session.session c.args.report.now.summary c.loop-session.report.summary
    (all_of g.W.Write.contents c.args.report.now.output)
    (all_of g.W.Write.contents c.loop-session.report.output) c.loop-session.invariant.0

pub returns-after-loop-session-clause-ready : goal.returns-after-loop-session-clause-ready
returns-after-loop-session-clause-ready g c = c.loop-session.invariant.0.ready
