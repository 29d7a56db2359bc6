use Rattle.daide_event_loop.proofs.AcceptLemmas.{no_bot_is_left_out}
use Rattle.daide_event_loop.proofs.laws.no_bot_is_left_out.Goals as goal

pub returns : goal.returns
returns g c = no_bot_is_left_out g.P.Ports.transition
