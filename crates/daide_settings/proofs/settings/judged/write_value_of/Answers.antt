use Rattle.daide_settings.proofs.Common.{◌≡◌, Option, None, refl, arith, common_steps, on_ok_weaker, Data, get_member}
use Rattle.daide_settings.proofs.Common.{table_view, key_text, default_line}
use Rattle.daide_settings.proofs.ReportLemmas.{value_line}
use Rattle.daide_settings.proofs.settings.judged.write_value_of.Goals as goal

pub returns-in_default-clause-written : goal.returns-in_default-clause-written
returns-in_default-clause-written g c =
    let absent : ◌≡◌ {A = Option Data} None (get_member (key_text c.args.key) (table_view c.args.table.now)) = grind (arith, common_steps) in
    on_ok_weaker c.write_default.result
    (λ last. (default_line c.args.key, value_line c.args.key _ None _ absent refl, last))
    c.write_default.ensures.written
