use Rattle.daide_settings.proofs.Common.{◌∙◌, parse_document}
use Rattle.daide_settings.proofs.JudgedLemmas.{document_right}
use Rattle.daide_settings.proofs.settings.judged.judge_settings.Goals as goal

pub returns-in-Ok-write_whole-clause-judged : goal.returns-in-Ok-write_whole-clause-judged
returns-in-Ok-write_whole-clause-judged g c = c.in-Ok.ensures.judged ∙ document_right (parse_document c.args.text.now)
