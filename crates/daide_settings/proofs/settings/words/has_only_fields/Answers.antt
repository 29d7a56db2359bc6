use Rattle.daide_settings.proofs.Common.{◌∙◌}
use Rattle.daide_settings.proofs.Members.{keys_only}
use Rattle.daide_settings.specs.WordSettings.{is_field}
use Rattle.daide_settings.proofs.settings.words.has_only_fields.Goals as goal

pub returns : goal.returns
returns c = c.keys_are_fields.ensures ∙ keys_only is_field c.args.table.now.entries
