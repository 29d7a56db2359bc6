use Rattle.std.proofs.lemmas.Str.{IsUtf8-from_ascii}
use Rattle.daide_words.proofs.WordLists.{capitals_are_ascii}
use Rattle.daide_text.proofs.word.protocol_token.Goals as goal

pub returns-in-Err : goal.returns-in-Err
returns-in-Err c =
    absurd (c.in-Err.ensures.cases.0 (IsUtf8-from_ascii c.args.name.now (capitals_are_ascii c.args.name.now c.requires)))
