use Rattle.daide_log.proofs.Common.{◌≡◌, ◌+◌, ◌*◌, ◌≤◌, arith, refl, sym, ap, ◌∙◌, subst, Ok, Some, None, List, ℕ, ◌⊎◌}
use Rattle.daide_log.proofs.Common.{length, All, IfOk, IfErr, LineEnd, Line, BadLine, IsFound, most_lines, all_of}
use Rattle.daide_log.proofs.Common.{words_of, HasRoom, IsMoreBy, nothing_counted, SessionView, Summary, IsReady}
use Rattle.daide_log.proofs.Common.{IsLateFault, Judges, IsFinished, states_of}
use Rattle.daide_log_lines.specs.Input.{line_at, rest_after}
use Rattle.daide_log_lines.specs.LogLine.{longest_piece}
use Rattle.daide_protocol.specs.Bounds.{most_sessions}
use Rattle.daide_log.specs.declared.heading.Preamble.{Preamble}
use Rattle.daide_log.specs.Log.{event_in}
use Rattle.daide_log.proofs.EventLemmas.{plays_first, plays_more, finished_at_end, finished_at_last, finished_at_cut, fault_in_play}
use Rattle.daide_log.proofs.EventLemmas.{nothing_reported, unfinished, fault_handed_on, bad_in_play, at_end, at_last_line, as_line}
use Rattle.daide_causes.specs.Causes.{HasFailed}
use Rattle.daide_log.proofs.CauseLemmas.{handed_on, more_causes, judged_cause, late_causes}
use Rattle.daide_log.proofs.check.play.Goals as goal

-- a further line has room in the counts
room_left : (number : ℕ) (s : Summary) → IsMoreBy (1024 * number) nothing_counted s → number ≤ most_lines →
    HasRoom longest_piece s
room_left number s more fits = record {
  relayed = omega (arith, more.relayed, fits);
  prn = omega (arith, more.prn, fits);
  huh = omega (arith, more.huh, fits);
  faults = omega (arith, more.faults, fits);
}

pub lines-init : goal.lines-init
lines-init g c = (
  plays_first (g.S.Style.form (words_of c.args.report.now.head.words)) (IsReady c.args.report.now.head.limits.config (words_of c.args.report.now.head.words))
      (g.S.Style.knows (words_of c.args.report.now.head.words) c.args.report.now.style.now)
      (words_of c.args.report.now.head.words) (g.met.S.Style.lawful (words_of c.args.report.now.head.words)) (g.R.LogReader.reader_view c.args.input.now.reader.now) c.args.input.now.block c.args.lines
      c.args.report.now.head.version
      c.args.sessions.now.items c.args.report.now.summary (all_of g.W.Write.contents c.args.report.now.output)
      c.requires.ready c.requires.lines c.requires.nothing c.requires.fresh,
  refl,
  refl,
  refl,
)

pub returns-in_err-found-clause-answered : goal.returns-in_err-found-clause-answered
returns-in_err-found-clause-answered g c = λ first before starts. (
  nothing_reported (g.S.Style.form (words_of c.args.report.now.head.words)) _ _ c.from_residual.result c.from_residual.ensures.1,
  (
      fault_handed_on (g.S.Style.form (words_of c.args.report.now.head.words)) _ (g.R.LogReader.reader_view c.find_line.new.input.reader.now)
      (all_of g.W.Write.contents c.find_line.new.output) c.in_err-found.field-0.0 c.from_residual.result
      c.from_residual.ensures.1
      (fault_in_play (g.S.Style.form (words_of c.args.report.now.head.words)) (IsReady c.args.report.now.head.limits.config (words_of c.args.report.now.head.words)) _ _ (g.R.LogReader.reader_view c.lines.input.reader.now)
      (g.R.LogReader.reader_view c.find_line.new.input.reader.now) c.lines.input.block c.find_line.new.input.block
      c.find_line.new.input.text.items c.lines.count c.args.report.now.head.version c.lines.sessions.items
      (length c.args.sessions.now.items) c.lines.report.summary (all_of g.W.Write.contents c.lines.report.output)
      (all_of g.W.Write.contents c.find_line.new.output) c.in_err-found.field-0.0 c.lines.invariant.0
      c.in_err-found.ensures.found c.in_err-found.ensures.kept_at_fault)) first before starts,
)

pub returns-in_err-judge_line-clause-answered : goal.returns-in_err-judge_line-clause-answered
returns-in_err-judge_line-clause-answered g c = λ first before starts. (
  nothing_reported (g.S.Style.form (words_of c.args.report.now.head.words)) _ _ c.from_residual-in_err-judge_line.result c.from_residual-in_err-judge_line.ensures.1,
  (
      fault_handed_on (g.S.Style.form (words_of c.args.report.now.head.words)) _ (g.R.LogReader.reader_view c.find_line.new.input.reader.now)
      (all_of g.W.Write.contents c.judge_line.new.report.output) c.in_err-judge_line.field-0.0
      c.from_residual-in_err-judge_line.result c.from_residual-in_err-judge_line.ensures.1
      (bad_in_play (g.S.Style.form (words_of c.args.report.now.head.words)) (IsReady c.args.report.now.head.limits.config (words_of c.args.report.now.head.words)) _ _ (g.R.LogReader.reader_view c.lines.input.reader.now) (g.R.LogReader.reader_view c.find_line.new.input.reader.now)
      c.lines.input.block (rest_after c.in_ok-found.found c.find_line.new.input.block)
      (line_at c.in_ok-found.found c.find_line.new.input.block c.find_line.new.input.text.items) c.lines.count
      c.args.report.now.head.version
      c.lines.sessions.items (length c.args.sessions.now.items) c.lines.report.summary
      (all_of g.W.Write.contents c.lines.report.output) (all_of g.W.Write.contents c.find_line.new.output)
      (all_of g.W.Write.contents c.judge_line.new.report.output) c.in_ok-found.found c.in_err-judge_line.field-0.0
      c.lines.invariant.0 c.in_ok-found.ensures.found (sym c.is_end.ensures ∙ c.if-is_end.false)
      c.in_ok-found.ensures.kept
      (λ last wrong. c.is_cut.ensures.whole c.if-is_cut.false last
      (subst (λ (h : Preamble). event_in h.version (length c.lines.sessions.items) c.line-line.result.now ≡ None)
      (sym c.lines.invariant.3)
      (subst (λ (l : List ℕ). event_in c.args.report.now.head.version (length c.lines.sessions.items) l ≡ None)
      (sym c.line-line.ensures) wrong)) (words_of c.args.report.now.head.words))
      (subst (λ (h : Preamble). IsLateFault (g.S.Style.form (words_of h.words)) (HasFailed g.W.Sink.Fails) g.S.Style.refused c.in_err-judge_line.field-0.0
      ⊎ ((c.in_err-judge_line.field-0.0 ≡ BadLine (c.lines.count + 1))
      × (event_in h.version (length c.lines.sessions.items)
      (line_at c.in_ok-found.found c.find_line.new.input.block c.find_line.new.input.text.items) ≡ None)
      × (all_of g.W.Write.contents c.judge_line.new.report.output ≡ all_of g.W.Write.contents c.find_line.new.output))) c.lines.invariant.3
      (subst (λ (l : List ℕ). IsLateFault (g.S.Style.form (words_of c.lines.report.head.words)) (HasFailed g.W.Sink.Fails) g.S.Style.refused c.in_err-judge_line.field-0.0
      ⊎ ((c.in_err-judge_line.field-0.0 ≡ BadLine (c.lines.count + 1))
      × (event_in c.lines.report.head.version (length c.lines.sessions.items) l ≡ None)
      × (all_of g.W.Write.contents c.judge_line.new.report.output ≡ all_of g.W.Write.contents c.find_line.new.output)))
      c.line-line.ensures c.in_err-judge_line.ensures.refused)))) first before starts,
)

pub returns-in_err-found-clause-cause : goal.returns-in_err-found-clause-cause
returns-in_err-found-clause-cause g c =
    handed_on g.R.LogReader.Fails g.W.Sink.Fails g.S.Style.refused c.from_residual.result c.in_err-found.field-0.0 c.from_residual.ensures.1
    (more_causes g.R.LogReader.Fails g.W.Sink.Fails c.in_err-found.field-0.0 (λ never. absurd never) c.in_err-found.ensures.cause)

pub returns-in_err-judge_line-clause-cause : goal.returns-in_err-judge_line-clause-cause
returns-in_err-judge_line-clause-cause g c =
    handed_on g.R.LogReader.Fails g.W.Sink.Fails g.S.Style.refused c.from_residual-in_err-judge_line.result c.in_err-judge_line.field-0.0
    c.from_residual-in_err-judge_line.ensures.1
    (judged_cause g.R.LogReader.Fails g.W.Sink.Fails (g.S.Style.form (words_of c.lines.report.head.words)) g.S.Style.refused
    (event_in c.lines.report.head.version (length c.lines.sessions.items) c.line-line.result.now ≡ None)
    (all_of g.W.Write.contents c.judge_line.new.report.output ≡ all_of g.W.Write.contents c.find_line.new.output)
    c.in_err-judge_line.field-0.0 (c.lines.count + 1) c.in_err-judge_line.ensures.refused)

pub returns-then-is_end-clause-cause : goal.returns-then-is_end-clause-cause
returns-then-is_end-clause-cause g c =
    late_causes g.R.LogReader.Fails g.W.Sink.Fails (g.S.Style.form (words_of c.lines.report.head.words)) g.S.Style.refused c.finish.result c.finish.ensures.refused

pub returns-then-is_last-clause-cause : goal.returns-then-is_last-clause-cause
returns-then-is_last-clause-cause g c =
    late_causes g.R.LogReader.Fails g.W.Sink.Fails (g.S.Style.form (words_of c.judge_line.new.report.head.words)) g.S.Style.refused c.finish-then-is_last.result
    c.finish-then-is_last.ensures.refused

pub returns-then-is_cut-clause-cause : goal.returns-then-is_cut-clause-cause
returns-then-is_cut-clause-cause g c =
    late_causes g.R.LogReader.Fails g.W.Sink.Fails (g.S.Style.form (words_of c.lines.report.head.words)) g.S.Style.refused c.finish-then-is_cut.result
    c.finish-then-is_cut.ensures.refused

pub returns-then-is_end-clause-answered : goal.returns-then-is_end-clause-answered
returns-then-is_end-clause-answered g c = λ first before starts. (
  (
      finished_at_end (g.S.Style.form (words_of c.args.report.now.head.words)) (IsReady c.args.report.now.head.limits.config (words_of c.args.report.now.head.words)) _ _ (g.R.LogReader.reader_view c.lines.input.reader.now) (g.R.LogReader.reader_view c.find_line.new.input.reader.now)
      c.lines.input.block c.find_line.new.input.block c.find_line.new.input.text.items c.lines.count
      c.args.report.now.head.version
      c.lines.sessions.items (length c.args.sessions.now.items) c.lines.report.summary
      (all_of g.W.Write.contents c.lines.report.output) (all_of g.W.Write.contents c.find_line.new.output) (all_of g.W.Write.contents c.finish.new.report.output)
      c.finish.result c.lines.invariant.0
      (subst (λ (f : LineEnd). IsFound (all_of g.W.Write.contents c.lines.report.output) (g.R.LogReader.reader_view c.lines.input.reader.now) c.lines.input.block c.lines.count (Ok f)
      (line_at f c.find_line.new.input.block c.find_line.new.input.text.items)
      (g.R.LogReader.reader_view c.find_line.new.input.reader.now) (rest_after f c.find_line.new.input.block))
      (at_end c.in_ok-found.found (sym c.is_end.ensures ∙ c.if-is_end.true)) c.in_ok-found.ensures.found)
      c.in_ok-found.ensures.kept
      (subst (λ (h : Preamble). IfOk c.finish.result (λ answer. IsFinished (g.S.Style.form (words_of h.words)) None h.version
      (states_of c.lines.sessions.items) c.lines.report.summary (all_of g.W.Write.contents c.find_line.new.output)
      (all_of g.W.Write.contents c.finish.new.report.output) answer)) c.lines.invariant.3 (rw c.deref.ensures.value at c.finish.ensures.written))) first before starts,
  (
      unfinished (g.S.Style.form (words_of c.args.report.now.head.words)) (HasFailed g.W.Sink.Fails) g.S.Style.refused (IsReady c.args.report.now.head.limits.config (words_of c.args.report.now.head.words)) _ _ (g.R.LogReader.reader_view c.lines.input.reader.now) (g.R.LogReader.reader_view c.find_line.new.input.reader.now)
      c.lines.input.block (rest_after c.in_ok-found.found c.find_line.new.input.block)
      (line_at c.in_ok-found.found c.find_line.new.input.block c.find_line.new.input.text.items) c.lines.count
      c.args.report.now.head.version c.lines.sessions.items (length c.args.sessions.now.items) c.lines.report.summary
      (all_of g.W.Write.contents c.lines.report.output) (all_of g.W.Write.contents c.finish.new.report.output)
      c.in_ok-found.found c.finish.result c.lines.invariant.0 c.in_ok-found.ensures.found
      (subst (λ (h : Preamble). IfErr c.finish.result (IsLateFault (g.S.Style.form (words_of h.words)) (HasFailed g.W.Sink.Fails) g.S.Style.refused)) c.lines.invariant.3
      c.finish.ensures.refused)) first before starts,
)

pub returns-then-is_last-clause-answered : goal.returns-then-is_last-clause-answered
returns-then-is_last-clause-answered g c = λ first before starts. (
  (
      let line = line_at c.in_ok-found.found c.find_line.new.input.block c.find_line.new.input.text.items in
      finished_at_last (g.S.Style.form (words_of c.args.report.now.head.words)) (IsReady c.args.report.now.head.limits.config (words_of c.args.report.now.head.words)) _
      (g.S.Style.knows (words_of c.args.report.now.head.words) c.judge_line.new.report.style.now) _ (g.R.LogReader.reader_view c.lines.input.reader.now) (g.R.LogReader.reader_view c.find_line.new.input.reader.now)
      c.lines.input.block c.find_line.new.input.block c.find_line.new.input.text.items c.lines.count
      c.args.report.now.head.version
      c.lines.sessions.items c.judge_line.new.sessions.items (length c.args.sessions.now.items) c.lines.report.summary
      c.judge_line.new.report.summary (all_of g.W.Write.contents c.lines.report.output) (all_of g.W.Write.contents c.find_line.new.output)
      (all_of g.W.Write.contents c.judge_line.new.report.output)
      (all_of g.W.Write.contents c.finish-then-is_last.new.report.output) c.finish-then-is_last.result c.lines.invariant.0
      (subst (λ (f : LineEnd). IsFound (all_of g.W.Write.contents c.lines.report.output) (g.R.LogReader.reader_view c.lines.input.reader.now) c.lines.input.block c.lines.count (Ok f)
      (line_at f c.find_line.new.input.block c.find_line.new.input.text.items)
      (g.R.LogReader.reader_view c.find_line.new.input.reader.now) (rest_after f c.find_line.new.input.block))
      (at_last_line c.in_ok-found.found (sym c.is_last.ensures ∙ c.if-is_last.true)) c.in_ok-found.ensures.found)
      c.in_ok-found.ensures.kept
      (subst (λ (h : Preamble). Judges (g.S.Style.form (words_of h.words)) (g.S.Style.knows (words_of h.words) c.lines.report.style.now)
      (g.S.Style.knows (words_of h.words) c.judge_line.new.report.style.now) h.version (c.lines.count + 1)
      (states_of c.lines.sessions.items) c.find_line.new.input.text.items
      (states_of c.judge_line.new.sessions.items) c.lines.report.summary c.judge_line.new.report.summary
      (all_of g.W.Write.contents c.find_line.new.output) (all_of g.W.Write.contents c.judge_line.new.report.output)) c.lines.invariant.3
      (subst (λ (l : List ℕ). Judges (g.S.Style.form (words_of c.lines.report.head.words))
      (g.S.Style.knows (words_of c.lines.report.head.words) c.lines.report.style.now)
      (g.S.Style.knows (words_of c.lines.report.head.words) c.judge_line.new.report.style.now) c.lines.report.head.version
      (c.lines.count + 1) (states_of c.lines.sessions.items) l
      (states_of c.judge_line.new.sessions.items) c.lines.report.summary c.judge_line.new.report.summary
      (all_of g.W.Write.contents c.find_line.new.output) (all_of g.W.Write.contents c.judge_line.new.report.output))
      (c.line-line.ensures
      ∙ ap (λ (f : LineEnd). line_at f c.find_line.new.input.block c.find_line.new.input.text.items)
      (at_last_line c.in_ok-found.found (sym c.is_last.ensures ∙ c.if-is_last.true)))
      c.in_ok-judge_line.ensures.judged))
      (subst (λ (h : Preamble). IfOk c.finish-then-is_last.result (λ answer. IsFinished (g.S.Style.form (words_of h.words)) None
      h.version (states_of c.judge_line.new.sessions.items) c.judge_line.new.report.summary
      (all_of g.W.Write.contents c.judge_line.new.report.output) (all_of g.W.Write.contents c.finish-then-is_last.new.report.output) answer))
      (c.judge_line.ensures.same_head ∙ c.lines.invariant.3) (rw c.deref-then-is_last.ensures.value at c.finish-then-is_last.ensures.written))) first before starts,
  (
      unfinished (g.S.Style.form (words_of c.args.report.now.head.words)) (HasFailed g.W.Sink.Fails) g.S.Style.refused (IsReady c.args.report.now.head.limits.config (words_of c.args.report.now.head.words)) _ _ (g.R.LogReader.reader_view c.lines.input.reader.now) (g.R.LogReader.reader_view c.find_line.new.input.reader.now)
      c.lines.input.block (rest_after c.in_ok-found.found c.find_line.new.input.block)
      (line_at c.in_ok-found.found c.find_line.new.input.block c.find_line.new.input.text.items) c.lines.count
      c.args.report.now.head.version
      c.lines.sessions.items (length c.args.sessions.now.items) c.lines.report.summary
      (all_of g.W.Write.contents c.lines.report.output) (all_of g.W.Write.contents c.finish-then-is_last.new.report.output)
      c.in_ok-found.found c.finish-then-is_last.result c.lines.invariant.0 c.in_ok-found.ensures.found
      (subst (λ (h : Preamble). IfErr c.finish-then-is_last.result (IsLateFault (g.S.Style.form (words_of h.words)) (HasFailed g.W.Sink.Fails) g.S.Style.refused))
      (c.judge_line.ensures.same_head ∙ c.lines.invariant.3) c.finish-then-is_last.ensures.refused)) first before starts,
)

pub returns-then-is_cut-clause-answered : goal.returns-then-is_cut-clause-answered
returns-then-is_cut-clause-answered g c = λ first before starts. (
  (
      let cut = c.is_cut.ensures.cut c.if-is_cut.true in
      let last = at_last_line c.in_ok-found.found cut.0 in
      finished_at_cut (g.S.Style.form (words_of c.args.report.now.head.words)) (IsReady c.args.report.now.head.limits.config (words_of c.args.report.now.head.words)) _ _ (g.R.LogReader.reader_view c.lines.input.reader.now) (g.R.LogReader.reader_view c.find_line.new.input.reader.now)
      c.lines.input.block c.find_line.new.input.block c.find_line.new.input.text.items c.lines.count
      c.args.report.now.head.version
      c.lines.sessions.items (length c.args.sessions.now.items) c.lines.report.summary
      (all_of g.W.Write.contents c.lines.report.output) (all_of g.W.Write.contents c.find_line.new.output)
      (all_of g.W.Write.contents c.finish-then-is_cut.new.report.output) c.finish-then-is_cut.result c.lines.invariant.0
      (subst (λ (f : LineEnd). IsFound (all_of g.W.Write.contents c.lines.report.output) (g.R.LogReader.reader_view c.lines.input.reader.now) c.lines.input.block c.lines.count (Ok f)
      (line_at f c.find_line.new.input.block c.find_line.new.input.text.items)
      (g.R.LogReader.reader_view c.find_line.new.input.reader.now) (rest_after f c.find_line.new.input.block))
      last c.in_ok-found.ensures.found)
      c.in_ok-found.ensures.kept
      (subst (λ (h : Preamble). event_in h.version (length c.lines.sessions.items) c.find_line.new.input.text.items ≡ None)
      c.lines.invariant.3
      (subst (λ (l : List ℕ). event_in c.lines.report.head.version (length c.lines.sessions.items) l ≡ None)
      (c.line-line.ensures
      ∙ ap (λ (f : LineEnd). line_at f c.find_line.new.input.block c.find_line.new.input.text.items) last) cut.1))
      (cut.2 (words_of c.args.report.now.head.words))
      (subst (λ (h : Preamble). IfOk c.finish-then-is_cut.result (λ answer. IsFinished (g.S.Style.form (words_of h.words))
      (Some (c.lines.count + 1)) h.version (states_of c.lines.sessions.items) c.lines.report.summary
      (all_of g.W.Write.contents c.find_line.new.output) (all_of g.W.Write.contents c.finish-then-is_cut.new.report.output) answer))
      c.lines.invariant.3 (rw c.deref-then-is_cut.ensures.value at c.finish-then-is_cut.ensures.written))) first before starts,
  (
      unfinished (g.S.Style.form (words_of c.args.report.now.head.words)) (HasFailed g.W.Sink.Fails) g.S.Style.refused (IsReady c.args.report.now.head.limits.config (words_of c.args.report.now.head.words)) _ _ (g.R.LogReader.reader_view c.lines.input.reader.now) (g.R.LogReader.reader_view c.find_line.new.input.reader.now)
      c.lines.input.block (rest_after c.in_ok-found.found c.find_line.new.input.block)
      (line_at c.in_ok-found.found c.find_line.new.input.block c.find_line.new.input.text.items) c.lines.count
      c.args.report.now.head.version c.lines.sessions.items (length c.args.sessions.now.items) c.lines.report.summary
      (all_of g.W.Write.contents c.lines.report.output) (all_of g.W.Write.contents c.finish-then-is_cut.new.report.output)
      c.in_ok-found.found c.finish-then-is_cut.result c.lines.invariant.0 c.in_ok-found.ensures.found
      (subst (λ (h : Preamble). IfErr c.finish-then-is_cut.result (IsLateFault (g.S.Style.form (words_of h.words)) (HasFailed g.W.Sink.Fails) g.S.Style.refused)) c.lines.invariant.3
      c.finish-then-is_cut.ensures.refused)) first before starts,
)

pub finish-requires-then-is_cut-clause-ready : goal.finish-requires-then-is_cut-clause-ready
finish-requires-then-is_cut-clause-ready g c =
    subst (λ (l : List SessionView). All (IsReady c.lines.report.head.limits.config (words_of c.lines.report.head.words)) l)
    (sym c.deref-then-is_cut.ensures.value)
    (subst (λ (h : Preamble). All (IsReady h.limits.config (words_of h.words)) c.lines.sessions.items)
    (sym c.lines.invariant.3) c.lines.invariant.0.ready)

pub finish-requires-clause-ready : goal.finish-requires-clause-ready
finish-requires-clause-ready g c =
    subst (λ (l : List SessionView). All (IsReady c.lines.report.head.limits.config (words_of c.lines.report.head.words)) l)
    (sym c.deref.ensures.value)
    (subst (λ (h : Preamble). All (IsReady h.limits.config (words_of h.words)) c.lines.sessions.items)
    (sym c.lines.invariant.3) c.lines.invariant.0.ready)

pub finish-requires-then-is_last-clause-ready : goal.finish-requires-then-is_last-clause-ready
finish-requires-then-is_last-clause-ready g c =
    subst (λ (l : List SessionView). All (IsReady c.judge_line.new.report.head.limits.config
    (words_of c.judge_line.new.report.head.words)) l) (sym c.deref-then-is_last.ensures.value)
    (subst (λ (h : Preamble). All (IsReady h.limits.config (words_of h.words)) c.judge_line.new.sessions.items)
    (sym c.judge_line.ensures.same_head) c.judge_line.ensures.ready)

pub judge_line-requires-clause-ready : goal.judge_line-requires-clause-ready
judge_line-requires-clause-ready g c =
    subst (λ (h : Preamble). All (IsReady h.limits.config (words_of h.words)) c.lines.sessions.items)
    (sym c.lines.invariant.3) c.lines.invariant.0.ready

pub lines-preserved : goal.lines-preserved
lines-preserved g c =
    let now = g.R.LogReader.reader_view c.lines.input.reader.now in
    let new = g.R.LogReader.reader_view c.find_line.new.input.reader.now in
    let line = line_at c.in_ok-found.found c.find_line.new.input.block c.find_line.new.input.text.items in (
      plays_more (g.S.Style.form (words_of c.args.report.now.head.words)) (IsReady c.args.report.now.head.limits.config (words_of c.args.report.now.head.words)) _
          (g.S.Style.knows (words_of c.args.report.now.head.words) c.judge_line.new.report.style.now)
          (words_of c.args.report.now.head.words) (g.met.S.Style.lawful (words_of c.args.report.now.head.words)) _ now new c.lines.input.block c.pass_line.new.block line c.lines.count
          c.args.report.now.head.version
          c.lines.sessions.items c.judge_line.new.sessions.items (length c.args.sessions.now.items)
          c.lines.report.summary c.judge_line.new.report.summary (all_of g.W.Write.contents c.lines.report.output)
          (all_of g.W.Write.contents c.find_line.new.output) (all_of g.W.Write.contents c.judge_line.new.report.output) c.lines.invariant.0
          (subst (λ (rest : List ℕ). IsFound (all_of g.W.Write.contents c.lines.report.output) now c.lines.input.block c.lines.count (Ok Line) line new rest)
          (sym c.pass_line.ensures)
          (as_line (all_of g.W.Write.contents c.lines.report.output) now new c.lines.input.block (rest_after c.in_ok-found.found c.find_line.new.input.block) line c.lines.count
          c.in_ok-found.found (sym c.is_end.ensures ∙ c.if-is_end.false) (sym c.is_last.ensures ∙ c.if-is_last.false)
          c.in_ok-found.ensures.found))
          c.in_ok-found.ensures.kept
          (subst (λ (h : Preamble). Judges (g.S.Style.form (words_of h.words)) (g.S.Style.knows (words_of h.words) c.lines.report.style.now)
          (g.S.Style.knows (words_of h.words) c.judge_line.new.report.style.now) h.version (c.lines.count + 1)
          (states_of c.lines.sessions.items) line
          (states_of c.judge_line.new.sessions.items) c.lines.report.summary c.judge_line.new.report.summary
          (all_of g.W.Write.contents c.find_line.new.output) (all_of g.W.Write.contents c.judge_line.new.report.output)) c.lines.invariant.3
          (subst (λ (l : List ℕ). Judges (g.S.Style.form (words_of c.lines.report.head.words))
          (g.S.Style.knows (words_of c.lines.report.head.words) c.lines.report.style.now)
          (g.S.Style.knows (words_of c.lines.report.head.words) c.judge_line.new.report.style.now) c.lines.report.head.version
          (c.lines.count + 1) (states_of c.lines.sessions.items) l
          (states_of c.judge_line.new.sessions.items) c.lines.report.summary c.judge_line.new.report.summary
          (all_of g.W.Write.contents c.find_line.new.output)
          (all_of g.W.Write.contents c.judge_line.new.report.output))
          c.line-line.ensures c.in_ok-judge_line.ensures.judged))
          c.judge_line.ensures.few
          (subst (λ (h : Preamble). All (IsReady h.limits.config (words_of h.words)) c.judge_line.new.sessions.items)
          c.lines.invariant.3 c.judge_line.ensures.ready) c.judge_line.ensures.same,
      c.find_line.ensures.same_reader ∙ c.lines.invariant.1,
      c.judge_line.ensures.same_writer ∙ c.find_line.ensures.same_writer ∙ c.lines.invariant.2,
      c.judge_line.ensures.same_head ∙ c.lines.invariant.3,
    )

pub find_line-requires : goal.find_line-requires
find_line-requires g c = c.lines.invariant.0.fits

pub returns-in_err-found-clause-same_reader : goal.returns-in_err-found-clause-same_reader
returns-in_err-found-clause-same_reader g c = c.find_line.ensures.same_reader ∙ c.lines.invariant.1

pub returns-in_err-found-clause-same_writer : goal.returns-in_err-found-clause-same_writer
returns-in_err-found-clause-same_writer g c = c.find_line.ensures.same_writer ∙ c.lines.invariant.2

pub finish-requires-clause-few : goal.finish-requires-clause-few
finish-requires-clause-few g c =
    subst (λ (n : ℕ). n ≤ most_sessions)
    (sym c.lines.invariant.0.size ∙ ap (λ (l : List SessionView). length l) (sym c.deref.ensures.value)) c.requires.few

pub returns-then-is_end-clause-same_reader : goal.returns-then-is_end-clause-same_reader
returns-then-is_end-clause-same_reader g c = c.find_line.ensures.same_reader ∙ c.lines.invariant.1

pub returns-then-is_end-clause-same_writer : goal.returns-then-is_end-clause-same_writer
returns-then-is_end-clause-same_writer g c =
    c.finish.ensures.same_writer ∙ c.find_line.ensures.same_writer ∙ c.lines.invariant.2

pub line-line-requires : goal.line-line-requires
line-line-requires g c = c.in_ok-found.ensures.lies

pub is_cut-requires-clause-some : goal.is_cut-requires-clause-some
is_cut-requires-clause-some g c = subst (λ (n : ℕ). 1 ≤ n) (sym c.lines.invariant.0.size) c.requires.some

pub is_cut-requires-clause-few : goal.is_cut-requires-clause-few
is_cut-requires-clause-few g c = subst (λ (n : ℕ). n ≤ most_sessions) (sym c.lines.invariant.0.size) c.requires.few

pub finish-requires-then-is_cut-clause-few : goal.finish-requires-then-is_cut-clause-few
finish-requires-then-is_cut-clause-few g c =
    subst (λ (n : ℕ). n ≤ most_sessions)
    (sym c.lines.invariant.0.size ∙ ap (λ (l : List SessionView). length l) (sym c.deref-then-is_cut.ensures.value))
    c.requires.few

pub returns-then-is_cut-clause-same_reader : goal.returns-then-is_cut-clause-same_reader
returns-then-is_cut-clause-same_reader g c = c.find_line.ensures.same_reader ∙ c.lines.invariant.1

pub returns-then-is_cut-clause-same_writer : goal.returns-then-is_cut-clause-same_writer
returns-then-is_cut-clause-same_writer g c =
    c.finish-then-is_cut.ensures.same_writer ∙ c.find_line.ensures.same_writer ∙ c.lines.invariant.2

pub judge_line-requires-clause-some : goal.judge_line-requires-clause-some
judge_line-requires-clause-some g c = subst (λ (n : ℕ). 1 ≤ n) (sym c.lines.invariant.0.size) c.requires.some

pub judge_line-requires-clause-few : goal.judge_line-requires-clause-few
judge_line-requires-clause-few g c = subst (λ (n : ℕ). n ≤ most_sessions) (sym c.lines.invariant.0.size) c.requires.few

pub judge_line-requires-clause-room : goal.judge_line-requires-clause-room
judge_line-requires-clause-room g c =
    room_left c.lines.count c.lines.report.summary c.lines.invariant.0.few c.lines.invariant.0.fits

pub returns-in_err-judge_line-clause-same_reader : goal.returns-in_err-judge_line-clause-same_reader
returns-in_err-judge_line-clause-same_reader g c = c.find_line.ensures.same_reader ∙ c.lines.invariant.1

pub returns-in_err-judge_line-clause-same_writer : goal.returns-in_err-judge_line-clause-same_writer
returns-in_err-judge_line-clause-same_writer g c =
    c.judge_line.ensures.same_writer ∙ c.find_line.ensures.same_writer ∙ c.lines.invariant.2

pub finish-requires-then-is_last-clause-few : goal.finish-requires-then-is_last-clause-few
finish-requires-then-is_last-clause-few g c =
    subst (λ (n : ℕ). n ≤ most_sessions)
    (sym c.lines.invariant.0.size ∙ sym c.judge_line.ensures.same
    ∙ ap (λ (l : List SessionView). length l) (sym c.deref-then-is_last.ensures.value)) c.requires.few

pub returns-then-is_last-clause-same_reader : goal.returns-then-is_last-clause-same_reader
returns-then-is_last-clause-same_reader g c = c.find_line.ensures.same_reader ∙ c.lines.invariant.1

pub returns-then-is_last-clause-same_writer : goal.returns-then-is_last-clause-same_writer
returns-then-is_last-clause-same_writer g c =
    c.finish-then-is_last.ensures.same_writer ∙ c.judge_line.ensures.same_writer ∙ c.find_line.ensures.same_writer
    ∙ c.lines.invariant.2

pub pass_line-requires : goal.pass_line-requires
pass_line-requires g c = c.in_ok-found.ensures.lies
