use Rattle.std.proofs.Common.{ap}
use Rattle.daide_run.specs.Folder.{folder_head}
use Rattle.daide_run.proofs.RunLemmas.{serves_on}
use Rattle.daide_sockets.specs.Scheduling.{run_state}
use Rattle.daide_run.proofs.running.serve_opened.Goals as goal

pub returns : goal.returns
returns g c =
    serves_on _ _ _ _ _ _
    (λ system. run_state (system.sockets.now.poller.network, system.sockets.now.poller.table)
    (system.sockets.now.idle_time, system.sockets.now.stall_time) system.sockets.now.acceptor
    system.sockets.now.arrivals.items system.sockets.now.closings system.sockets.now.control)
    (λ system. folder_head system.folder)
    _ (λ old call new step. (step.0, step.1, ap folder_head step.2)) c.args.settings.now _ _ _ _
    c.serve_on-served.new.system _ _ _
    c.serve_on-served.result
    (ap (λ sockets. run_state (sockets.now.poller.network, sockets.now.poller.table)
    (sockets.now.idle_time, sockets.now.stall_time) sockets.now.acceptor sockets.now.arrivals.items sockets.now.closings
    sockets.now.control)
    c.new-system.ensures.sockets)
    (ap folder_head c.new-system.ensures.folder)
    c.serve_on-served.ensures.announced c.serve_on-served.ensures.served c.serve_on-served.ensures.given_up
    c.finish.ensures
