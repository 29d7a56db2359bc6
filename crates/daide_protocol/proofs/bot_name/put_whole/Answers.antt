use Rattle.daide_protocol.proofs.NameTextLemmas.{whole_text}
use Rattle.daide_protocol.proofs.bot_name.put_whole.Goals as goal

pub returns-clause-text : goal.returns-clause-text
returns-clause-text c =
    whole_text _ _ _ _ c.put_tokens-printed.result.place c.put_tokens-printed.ensures.text
    c.put_tokens-printed.ensures.place c.end_of.ensures.text c.put.ensures.text
