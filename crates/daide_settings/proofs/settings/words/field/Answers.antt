use Rattle.toml.proofs.Views.{table_get}
use Rattle.daide_settings.proofs.settings.words.field.Goals as goal

pub returns : goal.returns
returns c = table_get c.get.result c.args.name.now c.args.table.now.entries c.get.ensures.value
