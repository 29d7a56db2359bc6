use Rattle.daide_settings.proofs.Common.{sym, ap, ◌∙◌}
use Rattle.daide_settings.specs.Ranges.{is_range_count}
use Rattle.daide_settings.proofs.RangeItems.{counted}
use Rattle.daide_settings.proofs.settings.allow.has_range_count.Goals as goal

pub returns-clause-value : goal.returns-clause-value
returns-clause-value c = c.is_range_count.ensures.value ∙ ap is_range_count (sym (counted c.args.values.now))
