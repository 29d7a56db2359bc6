use Rattle.std.proofs.Common.{[], ◌∷◌, Err, codes, refl}
use Rattle.daide_token.specs.Names.{token_named, names}
use Rattle.daide_text.specs.Line.{Blank, Word}
use Rattle.daide_text.proofs.LineFacts.{read}
use Rattle.daide_text.proofs.law_facts.one_reading_at_a_value.Goals as goal

pub returns : goal.returns
unfolding token_named names
returns c outcome h =
    c.lines_are_read_in_one_way.ensures [] (codes "GOF gof") outcome (Err 5) h
    (read [] (Word (codes "GOF") ∷ Blank 32 ∷ Word (codes "gof") ∷ []) refl)
