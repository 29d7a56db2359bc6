use Rattle.daide_settings.proofs.Common.{◌∙◌}
use Rattle.daide_settings.proofs.Members.{all_entries}
use Rattle.daide_settings.proofs.settings.words.are_entries.Goals as goal

pub returns : goal.returns
returns c = c.each_is_entry.ensures ∙ all_entries c.args.entries.now
