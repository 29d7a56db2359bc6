use Rattle.toml.proofs.Views.{table_get}
use Rattle.daide_settings.proofs.settings.reading.found.Goals as goal

pub returns : goal.returns
returns c = rw c.text.ensures at (table_get c.get.result c.text.result.now c.args.table.now.entries c.get.ensures.value)
