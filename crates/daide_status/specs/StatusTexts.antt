-- The text of a status: a function of the status of the run and of the rows of its sessions. What the run counted is that of
-- the sessions that ended and of those that have a row. (own)
use Rattle.std.specs.Prelude.{ℕ, ◌++◌, Bool, true, false, if◌then◌else◌, List, [], ◌∷◌, codes}
use Rattle.std.specs.List.{flat_map}
use Rattle.daide_status.specs.declared.request.Format.{Format}
use Rattle.daide_status.specs.declared.request.Format.TheVariants.{Table, Json, Prometheus}
use Rattle.daide_status.specs.declared.counts.RunCounts.{RunCounts}
use Rattle.daide_status.specs.declared.snapshot.RunStatus.{RunStatus}
use Rattle.daide_status.specs.declared.snapshot.SessionRow.{SessionRow}
use Rattle.daide_status.specs.declared.text.StatusText.{StatusText}
use Rattle.daide_status.specs.Columns.{table_head, table_row}
use Rattle.daide_status.specs.Counts.{row_counted, totals_of}
use Rattle.daide_status.specs.Json.{json_head, json_row, json_rows, json_end}
use Rattle.daide_status.specs.Metrics.{metrics_head, session_metrics, frame_samples, byte_samples, waiting_samples, idle_samples, level_sample}
use Rattle.daide_status.specs.Totals.{total_metrics}

-- the text of a status
abbrev pub status_text : Format → RunStatus → List SessionRow → List ℕ
status_text Table run rows = table_head run ++ flat_map table_row rows
status_text Json run rows = json_head run ++ json_rows rows ++ json_end (totals_of rows run.counts)
status_text Prometheus run rows =
    metrics_head run ++ total_metrics (totals_of rows run.counts)
    ++ session_metrics (flat_map frame_samples rows) (flat_map byte_samples rows) (flat_map waiting_samples rows)
    (flat_map idle_samples rows) (flat_map level_sample rows)

-- a text that is made row by row
pub record StatusView : Type 0 where
  pub format : Format
  pub has_rows : Bool
  pub counts : RunCounts
  pub text : List ℕ
  pub frames : List ℕ
  pub bytes : List ℕ
  pub waiting : List ℕ
  pub idle : List ℕ
  pub levels : List ℕ

abbrev pub status_view : {A : Type 0} → StatusText A → StatusView
status_view t = record {
  format = t.format;
  has_rows = t.has_rows;
  counts = t.counts;
  text = t.text.items;
  frames = t.samples.frames.items;
  bytes = t.samples.bytes.items;
  waiting = t.samples.waiting.items;
  idle = t.samples.idle.items;
  levels = t.samples.levels.items;
}

-- what comes before the first session
abbrev pub status_head : Format → RunStatus → List ℕ
status_head Table run = table_head run
status_head Json run = json_head run
status_head Prometheus run = metrics_head run

-- the text before any session
abbrev pub begun : Format → RunStatus → StatusView
begun format run = record {
  format = format;
  has_rows = false;
  counts = run.counts;
  text = status_head format run;
  frames = [];
  bytes = [];
  waiting = [];
  idle = [];
  levels = [];
}

-- with the line of one more session
abbrev pub with_line : SessionRow → StatusView → StatusView
with_line row view = record view { text = view.text ++ table_row row }

-- with the object of one more session
abbrev pub with_object : SessionRow → StatusView → StatusView
with_object row view = record view {
  has_rows = true;
  text = view.text ++ (if view.has_rows then codes ",\n" else codes "\n") ++ json_row row;
}

-- with the samples of one more session
abbrev pub with_samples : SessionRow → StatusView → StatusView
with_samples row view = record view {
  frames = view.frames ++ frame_samples row;
  bytes = view.bytes ++ byte_samples row;
  waiting = view.waiting ++ waiting_samples row;
  idle = view.idle ++ idle_samples row;
  levels = view.levels ++ level_sample row;
}

-- with one more session, by the format
abbrev pub with_row_as : Format → SessionRow → StatusView → StatusView
with_row_as Table row view = with_line row view
with_row_as Json row view = with_object row view
with_row_as Prometheus row view = with_samples row view

-- with the counts of one more session
abbrev pub with_counts : SessionRow → StatusView → StatusView
with_counts row view = record view { counts = row_counted row view.counts }

abbrev pub with_row : SessionRow → StatusView → StatusView
with_row row view = with_row_as view.format row (with_counts row view)

-- with the sessions of some rows, in their order
abbrev pub with_rows : List SessionRow → StatusView → StatusView
with_rows [] view = view
with_rows (row ∷ rows) view = with_rows rows (with_row row view)

-- the counters of the run, and the metrics of the sessions of a text
abbrev pub all_samples : StatusView → List ℕ
all_samples view =
    total_metrics view.counts ++ session_metrics view.frames view.bytes view.waiting view.idle view.levels

-- what a text ends with, by the format
abbrev pub status_end : Format → StatusView → List ℕ
status_end Table view = []
status_end Json view = json_end view.counts
status_end Prometheus view = all_samples view

-- the finished text
abbrev pub ended : StatusView → List ℕ
ended view = view.text ++ status_end view.format view
