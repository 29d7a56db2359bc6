use Rattle.daide_settings.proofs.Common.{ap, ◌∙◌, on_ok_weaker, faulty_part, part_value}
use Rattle.daide_settings.proofs.LineLemmas.{fault_part}
use Rattle.daide_settings.proofs.settings.judged.write_fault_of.Goals as goal

pub returns-clause-written : goal.returns-clause-written
returns-clause-written g c =
    on_ok_weaker c.write_fault.result
    (λ line. (
      line.0,
      fault_part c.args.key _ _ _ c.in-Some.fault c.faulty_part-part.result line.0 c.in-Some.ensures
          (c.faulty_part-part.ensures ∙ ap (faulty_part c.args.key c.in-Some.fault) c.found-value.ensures)
          (c.part_value.ensures ∙ ap (part_value c.faulty_part-part.result) c.found-value.ensures)
          line.1,
      line.2,
    ))
    c.write_fault.ensures.written
