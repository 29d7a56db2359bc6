use Rattle.daide_text.proofs.OnlyText.{read_text}
use Rattle.daide_text.proofs.laws.text_alone_is_read.Goals as goal

pub returns : goal.returns
returns c added line ts h = read_text added line ts h
