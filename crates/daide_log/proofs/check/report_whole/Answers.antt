use Rattle.daide_log.proofs.Common.{all_of}
use Rattle.daide_log.proofs.LogLemmas.{refused_rest, reported_rest}
use Rattle.daide_log.proofs.CauseLemmas.{rest_cause}
use Rattle.daide_log.proofs.check.report_whole.Goals as goal

pub returns-clause-cause : goal.returns-clause-cause
returns-clause-cause g c =
    rest_cause g.R.LogReader.Fails g.W.Sink.Fails _ c.report_lines-answer.result c.hand_over_rest.result c.hand_over_rest.ensures.cause c.report_lines-answer.ensures.cause

pub returns-clause-reported : goal.returns-clause-reported
returns-clause-reported g c =
    let answered = c.report_lines-answer.ensures.reported in
    let old = g.R.LogReader.reader_view c.args.input.now.reader.now in
    let new = g.R.LogReader.reader_view c.report_lines-answer.new.input.reader.now in
    let first = g.W.Write.contents c.args.report.now.output.writer.now in
    let mid = all_of g.W.Write.contents c.report_lines-answer.new.report.output in
    let last = g.W.Write.contents c.hand_over_rest.new.output.writer.now in (
      answered.0,
      (
        reported_rest (g.S.Style.form answered.0) old new first mid last c.args.report.now.output.page.items
            c.hand_over_rest.new.output.page.items
            c.report_lines-answer.result c.hand_over_rest.result answered.1.0 c.hand_over_rest.ensures.whole c.requires.none_held,
        refused_rest (g.S.Style.form answered.0) old new first mid last c.args.report.now.output.page.items
            c.hand_over_rest.new.output.page.items
            c.report_lines-answer.result c.hand_over_rest.result answered.1.0 answered.1.1 c.hand_over_rest.ensures.whole
            c.requires.none_held,
      ),
    )
