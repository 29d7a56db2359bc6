use Rattle.daide_settings.proofs.Common.{refl, on_ok_weaker}
use Rattle.daide_settings.proofs.settings.judged.write_unknown.Goals as goal

pub returns-clause-written : goal.returns-clause-written
returns-clause-written g c =
    on_ok_weaker c.append_text.result
    (λ e. (_, (c.place_of-place.result.line, c.in_ok-known.known, refl), e))
    c.append_text.ensures.appended
