use Rattle.std.proofs.Common.{◌⊎◌, ◌∙◌, inl, inr, Result, Ok, Err, OnOk, OnErr}
use Rattle.daide_sockets.proofs.os_network.OsNetworkNetwork.poll.Goals as goal

-- what a result says of its success, or of its failure
either : {A B E F : Type 0} (result : Result A B) → OnOk result E → OnErr result F → E ⊎ F
either (Ok done) all refused = inl all
either (Err error) all refused = inr refused

pub returns : goal.returns
returns g c =
    let same = c.as_slice.ensures.value ∙ c.iter.ensures.rest in
    either c.pass_on.result (rw same at c.pass_on.ensures.all) c.pass_on.ensures.refused
