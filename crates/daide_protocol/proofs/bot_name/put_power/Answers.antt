use Rattle.daide_protocol.proofs.Common.{[], ◌∙◌, ap, sym, append-nil, text_with}
use Rattle.daide_protocol.proofs.NameTextLemmas.{iam_bytes}
use Rattle.daide_protocol.proofs.bot_name.put_power.Goals as goal

pub returns-clause-text : goal.returns-clause-text
returns-clause-text c =
    c.put_whole.ensures.text
    ∙ (ap (text_with [])
    (iam_bytes c.to_be_bytes.result c.to_be.result c.args.power c.to_be_bytes.ensures c.to_be.ensures)
    ∙ sym (append-nil _))
