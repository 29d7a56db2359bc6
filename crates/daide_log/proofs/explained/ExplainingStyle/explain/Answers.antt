use Rattle.daide_log.proofs.Common.{◌≡◌, ◌++◌, ◌∙◌, List, ℕ, subst, sym, ap, slice_set, Appends, tokens_of, all_of}
use Rattle.daide_log.proofs.Common.{words_of, Side, Level, limits_with, SessionView, Note, ReportKey}
use Rattle.daide_log.specs.Explained.{indented, level_announced, place_of_session, with_line_feed, message_text}
use Rattle.daide_log.specs.Explaining.{AreLinesBy, announced_by_held}
use Rattle.daide_log.proofs.EventLemmas.{on_ok}
use Rattle.daide_log.proofs.MadeLemmas.{rightly_reported, reported_with}
use Rattle.daide_log.proofs.explained.ExplainingStyle.explain.Goals as goal

-- the level that the server announced is recorded at the session's place
recorded : (source : ReportKey) (side : Side) (reported : Note) (session : SessionView) (levels announced : List Level)
    (before after : Level) (new : List Level) → levels ≡ announced → before ≡ level_announced announced source →
    after ≡ announced_by_held side reported session before →
    new ≡ slice_set announced (place_of_session source.session) after →
    slice_set levels (place_of_session source.session)
    (announced_by_held side reported session (level_announced levels source)) ≡ new
recorded source side reported session levels announced before after new known is next put =
    ap (λ (l : List Level). slice_set l (place_of_session source.session)
    (announced_by_held side reported session (level_announced l source))) known
    ∙ ap (λ (l : Level). slice_set announced (place_of_session source.session) (announced_by_held side reported session l)) (sym is)
    ∙ ap (slice_set announced (place_of_session source.session)) (sym next)
    ∙ sym put

pub put_message-requires : goal.put_message-requires
put_message-requires g c =
    c.in-Some.ensures.even (words_of c.args.head.now.words) c.args.head.now.limits.config
    (rightly_reported c.args.head.now.limits.config (words_of c.args.head.now.words) c.requires.made.0 c.args.side
    c.args.session.now c.requires.under c.requires.made.1 c.args.reported c.requires.made.2)

pub returns-in-Some-clause-text : goal.returns-in-Some-clause-text
returns-in-Some-clause-text g c =
    let config = c.args.head.now.limits.config in
    let words = words_of c.args.head.now.words in
    on_ok c.put_message.result _ _ c.put_message.ensures.text
    (λ appends levels known. (
      indented (with_line_feed (message_text words (tokens_of c.in-Some.body.now))),
      (λ old events made.
          let all = reported_with config words old c.args.side c.args.session.now c.requires.under levels events c.args.reported
          (with_line_feed (message_text words (tokens_of c.in-Some.body.now))) c.args.source made
          (c.in-Some.ensures.alone words (limits_with config words) (level_announced levels c.args.source)) in (
            all.0,
            all.1,
            all.2,
            all.3,
            all.4 ∙ recorded c.args.source c.args.side c.args.reported c.args.session.now levels
                c.args.self.now.announced c.level_announced-announced.result c.announced_after-after.result c.record_level.new.levels
                known c.level_announced-announced.ensures c.announced_after-after.ensures c.record_level.ensures,
          )),
      appends,
    ))

pub write_lines-requires : goal.write_lines-requires
write_lines-requires g c = record {
  right = rightly_reported c.args.head.now.limits.config (words_of c.args.head.now.words) c.requires.made.0 c.args.side
      c.args.session.now c.requires.under c.requires.made.1 c.args.reported c.requires.made.2;
}

pub returns-clause-text : goal.returns-clause-text
returns-clause-text g c =
    let config = c.args.head.now.limits.config in
    let words = words_of c.args.head.now.words in
    let written = c.in-Ok.ensures.text in
    let text = c.as_slice.ensures.value ∙ written.2 ∙ ap (λ (l : List ℕ). l ++ written.0) c.clear.ensures.items in
    on_ok c.put_indented.result _ _ c.put_indented.ensures.text
    (λ appends levels known. (
      indented written.0,
      (λ old events made.
          let all = reported_with config words old c.args.side c.args.session.now c.requires.under levels events c.args.reported
          written.0 c.args.source made
          (subst (λ (l : Level). AreLinesBy words (limits_with config words) l c.args.side c.args.reported c.args.session.now
          written.0) (c.level_announced-announced.ensures
          ∙ ap (λ (l : List Level). level_announced l c.args.source) (sym known)) written.1) in (
            all.0,
            all.1,
            all.2,
            all.3,
            all.4 ∙ recorded c.args.source c.args.side c.args.reported c.args.session.now levels
                c.args.self.now.announced c.level_announced-announced.result c.announced_after-after.result c.record_level.new.levels
                known c.level_announced-announced.ensures c.announced_after-after.ensures c.record_level.ensures,
          )),
      subst (λ (t : List ℕ). Appends (all_of g.W.Write.contents c.args.output.now)
          (all_of g.W.Write.contents c.put_indented.new.output) (indented t)) text appends,
    ))
