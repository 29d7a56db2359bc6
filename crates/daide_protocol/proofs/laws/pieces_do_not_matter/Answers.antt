use Rattle.daide_protocol.proofs.WireLemmas.{bytes_come-append}
use Rattle.daide_protocol.proofs.laws.pieces_do_not_matter.Goals as goal

pub returns : goal.returns
returns c = bytes_come-append
