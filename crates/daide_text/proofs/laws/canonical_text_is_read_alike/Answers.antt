use Rattle.std.proofs.Common.{[]}
use Rattle.daide_words.specs.Word.{names_of}
use Rattle.daide_text.proofs.Small.{small_codes, text_small}
use Rattle.daide_text.proofs.laws.canonical_text_is_read_alike.Goals as goal

pub returns : goal.returns
returns c words line ts accepted named h =
    c.printed_text_is_read_back.ensures words ts accepted named
    (text_small (names_of words) (small_codes [] words accepted) line ts h)
