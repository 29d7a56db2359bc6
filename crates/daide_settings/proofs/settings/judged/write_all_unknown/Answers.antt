use Rattle.daide_settings.proofs.Common.{on_ok_weaker, table_view}
use Rattle.daide_settings.proofs.LineLemmas.{ordered_lines}
use Rattle.daide_settings.proofs.settings.judged.write_all_unknown.Goals as goal

pub returns-clause-written : goal.returns-clause-written
returns-clause-written g c =
    on_ok_weaker c.write_unknown_lines.result
    (λ lines. (
      lines.0,
      ordered_lines (λ key. key.now) (table_view c.args.table.now) _ _ _ lines.0 c.in_ok-unknown.ensures.keys
          c.sort_unstable_by_key.ensures.permutation c.as_slice.ensures.value lines.1,
      lines.2,
    ))
    c.write_unknown_lines.ensures.written
