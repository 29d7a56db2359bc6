use Rattle.std.proofs.Common.{ap, subst, Option}
use Rattle.daide_status.specs.declared.text.StatusText.{StatusText}
use Rattle.daide_sockets.specs.ControlAnswer.{Finishes}
use Rattle.daide_sockets.proofs.control_connection.ControlConnection.complete.Goals as goal

pub returns : goal.returns
returns g c = record {
  whole = record c.args.self.now { status = c.take.new.self; answer = c.finished.result };
  finishes = subst (λ (s : Option (StatusText _)). Finishes s c.finished.result) c.take.ensures.value c.finished.ensures;
  others = ap (λ (s : Option (StatusText _)). record c.args.self.now { status = s; answer = c.finished.result })
      c.take.ensures.after;
  writes = c.write_on.ensures;
}
