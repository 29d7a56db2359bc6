use Rattle.std.proofs.Common.{option_map}
use Rattle.daide_settings.proofs.Common.{ap, refl, on_ok_weaker, view}
use Rattle.daide_settings.proofs.LineLemmas.{given_line}
use Rattle.daide_settings.proofs.settings.judged.write_fault.Goals as goal

pub returns-clause-written : goal.returns-clause-written
returns-clause-written g c =
    on_ok_weaker c.append_text-2.result
    (λ e. (
      _,
      given_line c.args.finding.key _ c.args.finding.fault _ _ c.place_of-place.result.line _ _ _ _
          (ap (option_map (λ value. view value.now)) c.in-Some.is) c.in_ok-shown.ensures.text
          c.failing_text-failing.ensures c.must_be-range.ensures refl,
      e,
    ))
    c.append_text-2.ensures.appended
