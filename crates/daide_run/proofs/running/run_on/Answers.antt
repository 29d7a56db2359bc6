use Rattle.std.proofs.Common.{inr}
use Rattle.daide_sockets.specs.Scheduling.{run_state}
use Rattle.daide_run.proofs.running.run_on.Goals as goal

pub returns : goal.returns
returns g c =
    let opened = c.in-Some.ensures in
    record {
      runs = inr (
        run_state (c.set_recorded.new.self.poller.network, c.set_recorded.new.self.poller.table)
            (c.set_recorded.new.self.idle_time, c.set_recorded.new.self.stall_time) c.set_recorded.new.self.acceptor
            c.set_recorded.new.self.arrivals.items c.set_recorded.new.self.closings c.set_recorded.new.self.control,
        rw (c.set_recorded.ensures, c.set_verbose.ensures) (record {
          listens = opened.listens;
          none = (c.in-Some.sockets.stall_time, opened.stall_time.0, opened.none_came.0, opened.none_pending.0, opened.none_pending.1);
          idle_time = opened.idle_time;
          stall_time = opened.stall_time.0;
          rows = opened.rows c.requires;
          no_orders = opened.no_orders;
        }),
        c.serve_opened.result,
        c.ending_of.ensures,
        c.serve_opened.ensures,
      );
    }
