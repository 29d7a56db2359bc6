use Rattle.daide_settings.proofs.Common.{refl, on_ok_weaker}
use Rattle.daide_settings.proofs.settings.judged.write_no_document.Goals as goal

pub returns-clause-written : goal.returns-clause-written
returns-clause-written g c =
    on_ok_weaker c.append_text.result
    (λ e. (_, (c.last_line-line.result, c.message-why.result.now, refl), e))
    c.append_text.ensures.appended
