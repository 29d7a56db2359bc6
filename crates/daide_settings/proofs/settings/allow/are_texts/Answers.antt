use Rattle.daide_settings.proofs.Common.{◌∙◌}
use Rattle.daide_settings.proofs.RangeItems.{all_texts}
use Rattle.daide_settings.proofs.settings.allow.are_texts.Goals as goal

pub returns : goal.returns
returns c = c.each_is_text.ensures ∙ all_texts c.args.values.now
