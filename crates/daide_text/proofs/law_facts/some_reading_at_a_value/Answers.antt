use Rattle.std.proofs.Common.{[], ◌∷◌}
use Rattle.daide_text.proofs.law_facts.some_reading_at_a_value.Goals as goal

pub returns : goal.returns
returns c = c.each_line_is_read.ensures [] (0xC3 ∷ [])
