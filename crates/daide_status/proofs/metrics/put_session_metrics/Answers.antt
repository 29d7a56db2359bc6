use Rattle.std.proofs.Common.{ℕ, ◌++◌, List, codes}
use Rattle.daide_status.specs.Metrics.{session_counters, session_metric}
use Rattle.daide_status.proofs.Chains.{chained, then_last}
use Rattle.daide_status.proofs.metrics.put_session_metrics.Goals as goal

pub returns : goal.returns
returns g c =
    let old : List ℕ = c.args.out.now.items in
    let samples = c.args.samples.now in
    let counters = session_counters samples.frames.items samples.bytes.items in
    let waiting = session_metric (codes "session_waiting_bytes") (codes "gauge") (codes "Bytes that wait for a side.")
    samples.waiting.items in
    let idle = session_metric (codes "session_idle_seconds") (codes "gauge")
    (codes "Seconds since the last byte from a side.") samples.idle.items in
    let levels = session_metric (codes "session_level") (codes "gauge") (codes "The level of press of a session.")
    samples.levels.items in
    then_last _ c.args.out.now c.put_session_metric-2.new.out c.put_session_metric-3.new.out c.put_session_metric-3.result
    (counters ++ waiting ++ idle) levels
    (chained old (counters ++ waiting) idle _ _
    (chained old counters waiting _ _ c.in_ok-put_counters.ensures c.in_ok-put_session_metric.ensures)
    c.in_ok-put_session_metric-2.ensures) c.put_session_metric-3.ensures
