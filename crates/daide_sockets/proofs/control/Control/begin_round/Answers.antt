use Rattle.std.proofs.Common.{rules}
use Rattle.daide_sockets.proofs.ControlLemmas.{asked_before, control_then}
use Rattle.daide_sockets.proofs.control.Control.begin_round.Goals as goal

pub returns-clause-control : goal.returns-clause-control
returns-clause-control g c = record {
  mid = c.advance.new.self;
  advances = c.advance.ensures.advances;
  accepts = asked_before g.N.Network.transition c.args.poller.now.table c.advance.new.table c.args.self.now.listener _ _ _ _
      c.advance.ensures.table c.advance.ensures.listener c.accept.ensures.accepts;
  stops = search rules;
  at_once = search rules;
  returned = search rules;
}

pub returns-clause-table : goal.returns-clause-table
returns-clause-table g c = control_then _ _ _ c.advance.ensures.table c.accept.ensures.table
