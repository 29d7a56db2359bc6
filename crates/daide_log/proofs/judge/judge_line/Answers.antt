use Rattle.daide_log.proofs.Common.{◌≡◌, ◌∙◌, refl, sym, ap, subst, length, ℕ, arith, all_of, words_of, Summary, Judges}
use Rattle.daide_log.proofs.Common.{states_of, event_reported, no_more}
use Rattle.daide_log.specs.Log.{event_in}
use Rattle.daide_log.proofs.EventLemmas.{session_judged, nothing_judged, on_ok}
use Rattle.daide_log.proofs.judge.judge_line.Goals as goal

pub returns-in-None-clause-judged : goal.returns-in-None-clause-judged
returns-in-None-clause-judged g c = tt

pub returns-in-Some-Quiet-clause-judged : goal.returns-in-Some-Quiet-clause-judged
returns-in-Some-Quiet-clause-judged g c =
    let words = words_of c.args.report.now.head.words in
    let count : length c.args.sessions.now.items ≡ c.len-count.result =
    omega (arith, c.len-count.ensures, c.args.sessions.now.ok.0) in
    on_ok c.quote.result _ _ c.quote.ensures.text
    (λ t context knew.
    let judged = subst (λ (s : Summary). Judges (g.S.Style.form words) (g.S.Style.knows words c.args.report.now.style.now)
    (g.S.Style.knows words c.args.report.now.style.now) c.args.origin.version c.args.origin.line
    (states_of c.args.sessions.now.items) c.args.line.now (states_of c.args.sessions.now.items) c.args.report.now.summary s
    (all_of g.W.Write.contents c.args.report.now.output) (all_of g.W.Write.contents c.quote.new.report.output))
    (sym c.quote.ensures.same_summary)
    (nothing_judged (g.S.Style.form words) (g.S.Style.knows words c.args.report.now.style.now) words
    (g.met.S.Style.lawful words) c.args.origin.version c.args.origin.line c.args.line.now c.args.sessions.now.items
    c.args.report.now.summary (all_of g.W.Write.contents c.args.report.now.output)
    (all_of g.W.Write.contents c.quote.new.report.output) t.0
    (ap (λ (n : ℕ). event_in c.args.origin.version n c.args.line.now) count
    ∙ sym (rw c.in-Some-Quiet.field-0-is at c.in-Some-Quiet.ensures.reported)) t.1 t.2) context knew in
    (judged.0, judged.1, judged.2, judged.3, c.quote.ensures.known _ judged.4))

pub returns-in_ok-quote-in-Some-Of-clause-judged : goal.returns-in_ok-quote-in-Some-Of-clause-judged
returns-in_ok-quote-in-Some-Of-clause-judged g c =
    let words = words_of c.args.report.now.head.words in
    let count : length c.args.sessions.now.items ≡ c.len-count.result =
    omega (arith, c.len-count.ensures, c.args.sessions.now.ok.0) in
    let within = rw c.in-Some-Of.field-0-is at c.in-Some-Of.ensures.within in
    let quoted = c.in_ok-quote-in-Some-Of.ensures.text in
    on_ok c.judge.result _ _ c.judge.ensures.judged
    (λ reported.
    session_judged (g.S.Style.form words) (g.S.Style.knows words c.args.report.now.style.now)
    (g.S.Style.knows words c.judge.new.report.style.now) words (g.met.S.Style.lawful words) c.args.origin.version c.args.origin.line
    c.in-Some-Of.session
    (event_reported c.read_reported.new.bytes c.in-Some-Of.reported) c.args.line.now c.args.sessions.now.items c.index_mut.result.now
    c.judge.new.session c.source-source.result c.args.report.now.summary c.judge.new.report.summary
    (all_of g.W.Write.contents c.args.report.now.output)
    (all_of g.W.Write.contents c.quote-in-Some-Of.new.report.output)
    (all_of g.W.Write.contents c.judge.new.report.output) quoted.0
    (ap (λ (n : ℕ). event_in c.args.origin.version n c.args.line.now) count
    ∙ sym (rw c.in-Some-Of.field-0-is at c.in-Some-Of.ensures.reported))
    within.0 (omega (arith, within.1, count)) c.index_mut.ensures.value c.source-source.ensures quoted.1 quoted.2
    (let moved = rw (c.quote-in-Some-Of.ensures.same_head, c.quote-in-Some-Of.ensures.same_summary) at reported in
    λ context knew. moved context (c.quote-in-Some-Of.ensures.known context knew)))

pub returns-in-None-clause-same : goal.returns-in-None-clause-same
returns-in-None-clause-same g c = refl

pub returns-in-None-clause-ready : goal.returns-in-None-clause-ready
returns-in-None-clause-ready g c = c.requires.ready

pub returns-in-None-clause-few : goal.returns-in-None-clause-few
returns-in-None-clause-few g c = no_more 1024 c.args.report.now.summary

pub returns-in-None-clause-same_head : goal.returns-in-None-clause-same_head
returns-in-None-clause-same_head g c = refl

pub returns-in-Some-Quiet-clause-same : goal.returns-in-Some-Quiet-clause-same
returns-in-Some-Quiet-clause-same g c = refl

pub returns-in-Some-Quiet-clause-ready : goal.returns-in-Some-Quiet-clause-ready
returns-in-Some-Quiet-clause-ready g c = c.requires.ready

pub returns-in-Some-Quiet-clause-few : goal.returns-in-Some-Quiet-clause-few
returns-in-Some-Quiet-clause-few g c =
    rw c.quote.ensures.same_summary (no_more 1024 c.args.report.now.summary)

pub returns-in-Some-Quiet-clause-same_head : goal.returns-in-Some-Quiet-clause-same_head
returns-in-Some-Quiet-clause-same_head g c = c.quote.ensures.same_head

pub returns-in-Some-Quiet-clause-same_writer : goal.returns-in-Some-Quiet-clause-same_writer
returns-in-Some-Quiet-clause-same_writer g c = c.quote.ensures.same_writer

pub returns-in_err-quote-in-Some-Of-clause-same : goal.returns-in_err-quote-in-Some-Of-clause-same
returns-in_err-quote-in-Some-Of-clause-same g c = refl

pub returns-in_err-quote-in-Some-Of-clause-ready : goal.returns-in_err-quote-in-Some-Of-clause-ready
returns-in_err-quote-in-Some-Of-clause-ready g c = c.requires.ready

pub returns-in_err-quote-in-Some-Of-clause-few : goal.returns-in_err-quote-in-Some-Of-clause-few
returns-in_err-quote-in-Some-Of-clause-few g c =
    rw c.quote-in-Some-Of.ensures.same_summary (no_more 1024 c.args.report.now.summary)

pub returns-in_err-quote-in-Some-Of-clause-same_head : goal.returns-in_err-quote-in-Some-Of-clause-same_head
returns-in_err-quote-in-Some-Of-clause-same_head g c = c.quote-in-Some-Of.ensures.same_head

pub returns-in_err-quote-in-Some-Of-clause-same_writer : goal.returns-in_err-quote-in-Some-Of-clause-same_writer
returns-in_err-quote-in-Some-Of-clause-same_writer g c = c.quote-in-Some-Of.ensures.same_writer

pub judge-requires-clause-room : goal.judge-requires-clause-room
judge-requires-clause-room g c = rw c.quote-in-Some-Of.ensures.same_summary c.requires.room

pub returns-in_ok-quote-in-Some-Of-clause-few : goal.returns-in_ok-quote-in-Some-Of-clause-few
returns-in_ok-quote-in-Some-Of-clause-few g c = rw c.quote-in-Some-Of.ensures.same_summary at c.judge.ensures.few

pub returns-in_ok-quote-in-Some-Of-clause-same_head : goal.returns-in_ok-quote-in-Some-Of-clause-same_head
returns-in_ok-quote-in-Some-Of-clause-same_head g c =
    c.judge.ensures.same_head ∙ c.quote-in-Some-Of.ensures.same_head

pub returns-in_ok-quote-in-Some-Of-clause-same_writer : goal.returns-in_ok-quote-in-Some-Of-clause-same_writer
returns-in_ok-quote-in-Some-Of-clause-same_writer g c =
    c.judge.ensures.same_writer ∙ c.quote-in-Some-Of.ensures.same_writer
