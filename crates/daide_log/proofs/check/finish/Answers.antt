use Rattle.daide_log.proofs.Common.{refl, inl, inr, ◌∙◌, all_of, words_of, states_of, summary_line}
use Rattle.daide_log.proofs.PlayLemmas.{appends_more}
use Rattle.daide_log.proofs.check.finish.Goals as goal

pub close-requires-clause-few : goal.close-requires-clause-few
close-requires-clause-few g c = c.requires.few

pub close-requires-clause-ready : goal.close-requires-clause-ready
close-requires-clause-ready g c = c.requires.ready

pub returns-in-Err-Write-clause-written : goal.returns-in-Err-Write-clause-written
returns-in-Err-Write-clause-written g c = tt

pub returns-in-Err-Write-clause-refused : goal.returns-in-Err-Write-clause-refused
returns-in-Err-Write-clause-refused g c =
    inl (refl, rw c.in-Err-Write.field-0-is at c.in-Err-Write.ensures.refused)

pub returns-in-Err-Write-clause-same_writer : goal.returns-in-Err-Write-clause-same_writer
returns-in-Err-Write-clause-same_writer g c = c.close.ensures.same_writer

pub returns-in-Err-Memory-clause-written : goal.returns-in-Err-Memory-clause-written
returns-in-Err-Memory-clause-written g c = tt

pub returns-in-Err-Memory-clause-refused : goal.returns-in-Err-Memory-clause-refused
returns-in-Err-Memory-clause-refused g c =
    let h = rw c.in-Err-Memory.field-0-is at c.in-Err-Memory.ensures.refused in inr (refl, h.0, h.1)

pub returns-in-Err-Memory-clause-same_writer : goal.returns-in-Err-Memory-clause-same_writer
returns-in-Err-Memory-clause-same_writer g c = c.close.ensures.same_writer

pub returns-in-Ok-put_summary-clause-written : goal.returns-in-Ok-put_summary-clause-written
returns-in-Ok-put_summary-clause-written g c =
    let form = g.S.Style.form (words_of c.args.report.now.head.words) in (
      c.in-Ok.ensures.text.0,
      appends_more (all_of g.W.Write.contents c.args.report.now.output) (all_of g.W.Write.contents c.close.new.output)
          (all_of g.W.Write.contents c.put_summary.new.output)
          (form.closing c.args.cut c.args.report.now.head.version (states_of c.args.sessions.now))
          (summary_line c.args.report.now.summary) c.in-Ok.ensures.text.1 c.in-Ok-put_summary.ensures.text,
    )

pub returns-in-Ok-put_summary-clause-refused : goal.returns-in-Ok-put_summary-clause-refused
returns-in-Ok-put_summary-clause-refused g c = tt

pub returns-in-Ok-put_summary-clause-same_writer : goal.returns-in-Ok-put_summary-clause-same_writer
returns-in-Ok-put_summary-clause-same_writer g c = c.put_summary.ensures.same_writer ∙ c.close.ensures.same_writer

pub returns-in-Err-clause-written : goal.returns-in-Err-clause-written
returns-in-Err-clause-written g c = tt

pub returns-in-Err-clause-refused : goal.returns-in-Err-clause-refused
returns-in-Err-clause-refused g c = inl (refl, c.in-Err.ensures.refused.1)

pub returns-in-Err-clause-same_writer : goal.returns-in-Err-clause-same_writer
returns-in-Err-clause-same_writer g c = c.put_summary.ensures.same_writer ∙ c.close.ensures.same_writer
