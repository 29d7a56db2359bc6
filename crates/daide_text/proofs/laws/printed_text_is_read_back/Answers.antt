use Rattle.daide_words.specs.Word.{names_of}
use Rattle.daide_text.proofs.AddedNames.{added_names_are_read, are_named}
use Rattle.daide_text.proofs.ReadBack.{text_back}
use Rattle.daide_text.proofs.laws.printed_text_is_read_back.Goals as goal

pub returns : goal.returns
returns c words ts accepted named all =
    text_back (names_of words) (added_names_are_read words accepted (are_named words named))
    c.names_come_back.ensures.token ts all
