use Rattle.daide_sockets.proofs.lingering_close.LingeringClose.goes_on.Goals as goal

pub returns-clause-leaves : goal.returns-clause-leaves
returns-clause-leaves g c =
    let leaves = rw c.take_report.ensures.taken at c.lingers.ensures.leaves in
    λ e. leaves c.if-lingers.false
