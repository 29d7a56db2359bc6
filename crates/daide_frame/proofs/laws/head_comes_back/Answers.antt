use Rattle.daide_frame.proofs.HeadLemmas.{parse_head-head_bytes}
use Rattle.daide_frame.proofs.laws.head_comes_back.Goals as goal

pub returns : goal.returns
returns c = parse_head-head_bytes
