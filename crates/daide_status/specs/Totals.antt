-- The counters of a run in the text format of Prometheus: of all sessions, also of those that ended. (own)
use Rattle.std.specs.Prelude.{ℕ, ◌++◌, List, codes}
use Rattle.std.specs.Fmt.{decimal}
use Rattle.std.specs.List.{flat_map}
use Rattle.daide_protocol.specs.declared.account.SideCounts.{SideCounts}
use Rattle.daide_protocol.specs.Account.{all_counters, side_count}
use Rattle.daide_protocol.specs.AccountText.{counter_name}
use Rattle.daide_status.specs.declared.counts.EndCause.{EndCause}
use Rattle.daide_status.specs.declared.counts.EndCounts.{EndCounts}
use Rattle.daide_status.specs.declared.counts.RunCounts.{RunCounts}
use Rattle.daide_status.specs.Counts.{all_causes, end_cause_name, end_count}
use Rattle.daide_status.specs.Metrics.{metric_head, run_metric}

-- a sample of the run with labels
unfoldable pub labelled_sample : List ℕ → List ℕ → ℕ → List ℕ
labelled_sample name labels value =
    codes "daide_gate_" ++ name ++ codes "{" ++ labels ++ codes "} " ++ decimal value ++ codes "\n"

-- ---- sessions that ended

-- the number of sessions that ended by a cause
unfoldable pub end_sample : EndCause → ℕ → List ℕ
end_sample cause count =
    codes "daide_gate_ended_total{cause=\"" ++ end_cause_name cause ++ codes "\"} " ++ decimal count ++ codes "\n"

abbrev pub end_samples : EndCounts → List ℕ
end_samples ends = flat_map (λ cause. end_sample cause (end_count cause ends)) all_causes

-- the sessions that ended, by cause
abbrev pub end_metric : EndCounts → List ℕ
end_metric ends =
    metric_head (codes "ended_total") (codes "counter") (codes "Sessions that ended, by cause.") ++ end_samples ends

-- ---- frames

-- the number of frames from a side that a counter of this name counts
unfoldable pub side_total : List ℕ → List ℕ → ℕ → List ℕ
side_total side name count =
    codes "daide_gate_frames_total{side=\"" ++ side ++ codes "\",result=\"" ++ name ++ codes "\"} " ++ decimal count ++ codes "\n"

-- the frames from a side, by what was done with them
abbrev pub side_totals : List ℕ → SideCounts → List ℕ
side_totals side c = flat_map (λ counter. side_total side (counter_name counter) (side_count counter c)) all_counters

-- the frames of all sessions, and the faults, which have no side
abbrev pub frame_totals : RunCounts → List ℕ
frame_totals c =
    side_totals (codes "bot") c.bot ++ side_totals (codes "server") c.server
    ++ labelled_sample (codes "frames_total") (codes "result=\"fault\"") c.faults

abbrev pub frame_metric : RunCounts → List ℕ
frame_metric c =
    metric_head (codes "frames_total") (codes "counter")
    (codes "Frames of all sessions, also of those that ended, by side and by what was done with them.") ++ frame_totals c

-- ---- all of them

-- the connections that got no session
abbrev pub lost_metrics : RunCounts → List ℕ
lost_metrics c =
    run_metric (codes "declined_total") (codes "counter") (codes "Connections that were closed at once, since their bot may not come.")
    c.declined
    ++ run_metric (codes "dropped_total") (codes "counter")
    (codes "Connections that were accepted, and that the system could not follow.") c.dropped

abbrev pub total_metrics : RunCounts → List ℕ
total_metrics c = lost_metrics c ++ end_metric c.ends ++ frame_metric c
