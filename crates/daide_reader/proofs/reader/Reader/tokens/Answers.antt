use Rattle.daide_reader.proofs.Common.{ap, Reading, tokens_read}
use Rattle.daide_reader.proofs.reader.Reader.tokens.Goals as goal

pub returns : goal.returns
returns g c = ap (λ (v : Reading g.row.T.Denot). tokens_read v) c.self.view_is
