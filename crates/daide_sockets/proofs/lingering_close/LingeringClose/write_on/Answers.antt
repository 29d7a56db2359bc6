use Rattle.std.proofs.Common.{refl}
use Rattle.daide_sockets.proofs.LingeringLemmas.{tried_writing}
use Rattle.daide_sockets.proofs.lingering_close.LingeringClose.write_on.Goals as goal

pub returns-clause-tries : goal.returns-clause-tries
returns-clause-tries g c =
    let tried = c.flush_in_time.ensures in
    tried_writing g.S.Duplex.to_give g.S.Duplex.taken g.S.Duplex.calls c.args.now _ _ _ c.self.view_is tried.writes.1
    (λ early writing. tried.written early refl writing) tried.nothing (tried.waits refl) tried.in_time.kept.stall_time tried.key
