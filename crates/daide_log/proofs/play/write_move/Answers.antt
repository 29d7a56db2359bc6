use Rattle.daide_log.proofs.Common.{all_of, move_line}
use Rattle.daide_log.proofs.EventLemmas.{on_ok}
use Rattle.daide_log.proofs.PlayLemmas.{appends_more}
use Rattle.daide_log.proofs.play.write_move.Goals as goal

pub returns-clause-text : goal.returns-clause-text
returns-clause-text g c =
    on_ok c.explain.result _ _ c.explain.ensures.text
    (λ moved context known. let t = moved context known in (
      t.0,
      t.1,
      appends_more (all_of g.W.Write.contents c.args.report.now.output) (all_of g.W.Write.contents c.put_move.new.output)
          (all_of g.W.Write.contents c.explain.new.output) (move_line c.args.source c.args.side c.args.reported) t.0
          c.in_ok-put_move.ensures.text t.2,
    ))
