use Rattle.std.proofs.Common.{refl}
use Rattle.daide_settings.specs.Given.{given_of}
use Rattle.daide_tools.proofs.settings_file.words_at.Goals as goal

pub returns-in-Ok-clause-words : goal.returns-in-Ok-clause-words
returns-in-Ok-clause-words g c = rw c.in-Some.is (given_of c.in-Ok.settings, c.in-Ok.ensures, refl)
