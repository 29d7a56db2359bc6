use Rattle.daide_log.proofs.Common.{subst, sym, [], List, None, arith, ap, length, ◌∙◌, IfOk, not, replicate}
use Rattle.daide_log.proofs.Common.{SessionView, all_of, SessionState, initial_state, limits_with, words_of}
use Rattle.daide_log.proofs.Common.{preamble_of, HasRead, HasReadAll, IsFinished, states_of, keeps_appends}
use Rattle.daide_log.proofs.Common.{◌⊎◌, inl, inr}
use Rattle.daide_causes.specs.Causes.{HasFailed, WasRefused}
use Rattle.daide_log_lines.specs.Cause.{HasCause}
use Rattle.daide_log.proofs.CauseLemmas.{late_causes, more_at_err, more_causes}
use Rattle.daide_log.specs.Log.{Playing, state_after_preamble}
use Rattle.daide_log.proofs.LogLemmas.{fault_at_once, finished, write_failed}
use Rattle.daide_log.proofs.PreambleLemmas.{as_many, opened_last, opened_more, memory_wanted}
use Rattle.daide_log.proofs.check.report_lines.Goals as goal

pub returns-in-Err-clause-reported : goal.returns-in-Err-clause-reported
returns-in-Err-clause-reported g c = (
  [],
  (
    tt,
    fault_at_once (g.S.Style.form []) (g.R.LogReader.reader_view c.args.input.now.reader.now)
        (g.R.LogReader.reader_view c.read_preamble.new.input.reader.now)
        (all_of g.W.Write.contents c.args.report.now.output)
        (all_of g.W.Write.contents c.read_preamble.new.output) c.in-Err.fault
        (c.in-Err.ensures.opened []) c.in-Err.ensures.kept_at_fault,
  ),
)

pub returns-in-Err-open_sessions-clause-reported : goal.returns-in-Err-open_sessions-clause-reported
returns-in-Err-open_sessions-clause-reported g c =
    let words = words_of c.in-Ok.opened.head.words in (
      words,
      (
        tt,
        memory_wanted (g.S.Style.form words) c.in-Ok.opened (g.R.LogReader.reader_view c.args.input.now.reader.now)
            (g.R.LogReader.reader_view c.read_preamble.new.input.reader.now)
            c.read_preamble.new.input.block (all_of g.W.Write.contents c.args.report.now.output)
            (all_of g.W.Write.contents c.read_preamble.new.output) c.in-Err-open_sessions.fault
            c.in-Err-open_sessions.ensures.refused.0 c.in-Ok.ensures.opened c.in-Ok.ensures.kept,
      ),
    )

pub returns-in-Err-clause-cause : goal.returns-in-Err-clause-cause
returns-in-Err-clause-cause g c = more_causes g.R.LogReader.Fails g.W.Sink.Fails c.in-Err.fault (λ never. absurd never) c.in-Err.ensures.cause

pub returns-in-Err-open_sessions-clause-cause : goal.returns-in-Err-open_sessions-clause-cause
returns-in-Err-open_sessions-clause-cause g c =
    subst (HasCause g.R.LogReader.Fails g.W.Sink.Fails (WasRefused g.A.Memory.Refuses ⊎ g.S.Style.refused))
    (sym c.in-Err-open_sessions.ensures.refused.0) (inl c.in-Err-open_sessions.ensures.refused.1)

pub returns-then-not-opened-clause-cause : goal.returns-then-not-opened-clause-cause
returns-then-not-opened-clause-cause g c =
    more_at_err g.R.LogReader.Fails g.W.Sink.Fails c.finish.result inr (late_causes g.R.LogReader.Fails g.W.Sink.Fails (g.S.Style.form (words_of c.in-Ok.opened.head.words)) g.S.Style.refused
    c.finish.result c.finish.ensures.refused)

pub returns-clause-cause : goal.returns-clause-cause
returns-clause-cause g c = more_at_err g.R.LogReader.Fails g.W.Sink.Fails c.play.result inr c.play.ensures.cause

pub open_sessions-requires : goal.open_sessions-requires
open_sessions-requires g c = c.in-Ok.ensures.within.2

pub finish-requires-clause-ready : goal.finish-requires-clause-ready
finish-requires-clause-ready g c = rw c.deref.ensures.value c.in-Ok-open_sessions.ensures.ready

pub finish-requires-clause-few : goal.finish-requires-clause-few
finish-requires-clause-few g c =
    let made = as_many c.in-Ok-open_sessions.sessions.items _ _ c.in-Ok-open_sessions.ensures.begun in
    omega (arith, made, c.in-Ok.ensures.within.1, ap (λ (l : List SessionView). length l) c.deref.ensures.value)

pub returns-then-not-opened-clause-reported : goal.returns-then-not-opened-clause-reported
returns-then-not-opened-clause-reported g c =
    let head = c.in-Ok.opened.head in
    let words = words_of head.words in
    let old = g.R.LogReader.reader_view c.args.input.now.reader.now in
    let new = g.R.LogReader.reader_view c.read_preamble.new.input.reader.now in
    let first = all_of g.W.Write.contents c.args.report.now.output in
    let mid = all_of g.W.Write.contents c.read_preamble.new.output in
    let read : HasReadAll (g.S.Style.form words) first old new c.in-Ok.opened.lines [] (state_after_preamble (preamble_of head)) =
    opened_last (g.S.Style.form words) c.in-Ok.opened first old new c.read_preamble.new.input.block (ap not c.if-not-opened.true)
    c.in-Ok.ensures.opened in (
      words,
      (
        finished (g.S.Style.form words) old new c.in-Ok.opened.lines []
            head.version (replicate head.limits.sessions (initial_state (limits_with head.limits.config words)))
            c.args.report.now.summary first mid (all_of g.W.Write.contents c.finish.new.report.output)
            c.finish.result read
            c.requires.nothing (keeps_appends first mid c.in-Ok.ensures.kept)
            (subst (λ (l : List SessionState). IfOk c.finish.result (λ answer. IsFinished (g.S.Style.form words) None head.version l
            c.args.report.now.summary mid (all_of g.W.Write.contents c.finish.new.report.output) answer))
            (ap states_of c.deref.ensures.value ∙ c.in-Ok-open_sessions.ensures.begun) c.finish.ensures.written),
        write_failed (g.S.Style.form words) (HasFailed g.W.Sink.Fails) g.S.Style.refused old new first (all_of g.W.Write.contents c.finish.new.report.output) c.finish.result
            (read.given, read.gives) c.finish.ensures.refused,
      ),
    )

pub play-requires-clause-some : goal.play-requires-clause-some
play-requires-clause-some g c =
    let made = as_many c.in-Ok-open_sessions.sessions.items _ _ c.in-Ok-open_sessions.ensures.begun in
    omega (arith, made, c.in-Ok.ensures.within.0)

pub play-requires-clause-few : goal.play-requires-clause-few
play-requires-clause-few g c =
    let made = as_many c.in-Ok-open_sessions.sessions.items _ _ c.in-Ok-open_sessions.ensures.begun in
    omega (arith, made, c.in-Ok.ensures.within.1)

pub play-requires-clause-ready : goal.play-requires-clause-ready
play-requires-clause-ready g c = c.in-Ok-open_sessions.ensures.ready

pub play-requires-clause-lines : goal.play-requires-clause-lines
play-requires-clause-lines g c = c.in-Ok.ensures.opened.1

pub returns-clause-reported : goal.returns-clause-reported
returns-clause-reported g c =
    let head = c.in-Ok.opened.head in
    let words = words_of head.words in
    let old = g.R.LogReader.reader_view c.args.input.now.reader.now in
    let now = g.R.LogReader.reader_view c.read_preamble.new.input.reader.now in
    let first = all_of g.W.Write.contents c.args.report.now.output in
    let read = subst (λ (s : List SessionState). HasRead (g.S.Style.form words) first old now
    c.read_preamble.new.input.block c.in-Ok.opened.lines []
    (Playing head.version s)) (sym c.in-Ok-open_sessions.ensures.begun)
    (opened_more (g.S.Style.form words) c.in-Ok.opened first old now c.read_preamble.new.input.block (ap not c.if-not-opened.false)
    c.in-Ok.ensures.opened) in (
      words,
      c.play.ensures.answered old first (read, c.in-Ok.ensures.kept),
    )

pub play-requires-clause-fresh : goal.play-requires-clause-fresh
play-requires-clause-fresh g c = c.requires.fresh (words_of c.in-Ok.opened.head.words)
