use Rattle.daide_settings.proofs.Common.{◌∙◌, is_known}
use Rattle.daide_settings.proofs.Members.{keys_only}
use Rattle.daide_settings.proofs.settings.reading.has_only_known.Goals as goal

pub returns : goal.returns
returns c = c.keys_are_known.ensures ∙ keys_only is_known c.args.table.now.entries
