use Rattle.daide_protocol.proofs.Common.{refl, text_with}
use Rattle.daide_protocol.proofs.bot_name.BotName.put_text.Goals as goal

pub returns-in-Unknown-clause-text : goal.returns-in-Unknown-clause-text
unfolding text_with
returns-in-Unknown-clause-text c = rw c.in-Unknown.is refl
