-- The status of a run in the text format of Prometheus. An address, the name of a phase and a power need no escape in a
-- label; a bot's name may need one, and has printable characters alone. (own)
use Rattle.std.specs.Prelude.{ℕ, ◌+◌, ◌++◌, Bool, true, false, List, [], Option, Some, None, codes}
use Rattle.std.specs.Fmt.{decimal}
use Rattle.std.specs.List.{flat_map}
use Rattle.std.specs.Net.Text.{socket_text}
use Rattle.daide_grammar.specs.Level.{level_number}
use Rattle.daide_protocol.specs.Account.{all_counters, side_count}
use Rattle.daide_protocol.specs.AccountText.{counter_name}
use Rattle.daide_protocol.specs.declared.account.SideCounts.{SideCounts}
use Rattle.daide_protocol.specs.declared.bot_name.BotName.{BotName}
use Rattle.daide_protocol.specs.declared.bot_name.BotName.TheVariants.{Unknown, Nme, Iam}
use Rattle.daide_protocol.specs.declared.phase.Phase.{Phase}
use Rattle.daide_protocol.specs.declared.power.Power.{Power}
use Rattle.daide_protocol.specs.Power.{power_text}
use Rattle.daide_status.specs.declared.snapshot.RunStatus.{RunStatus}
use Rattle.daide_status.specs.declared.snapshot.ServerState.{ServerState}
use Rattle.daide_status.specs.declared.snapshot.ServerState.TheVariants.{Untried, Up, Away}
use Rattle.daide_status.specs.declared.snapshot.ServerStatus.{ServerStatus}
use Rattle.daide_status.specs.declared.snapshot.SessionRow.{SessionRow}
use Rattle.daide_status.specs.Pieces.{phase_name, quoted_name}

-- the help and the type of a metric
abbrev pub metric_head : List ℕ → List ℕ → List ℕ → List ℕ
metric_head name kind help =
    codes "# HELP daide_gate_" ++ name ++ codes " " ++ help ++ codes "\n# TYPE daide_gate_" ++ name ++ codes " " ++ kind
    ++ codes "\n"

-- the sample of a metric of the run
abbrev pub run_sample : List ℕ → ℕ → List ℕ
run_sample name value = codes "daide_gate_" ++ name ++ codes " " ++ decimal value ++ codes "\n"

-- a metric of the run, with its one sample
abbrev pub run_metric : List ℕ → List ℕ → List ℕ → ℕ → List ℕ
run_metric name kind help value = metric_head name kind help ++ run_sample name value

-- a flag as a number
abbrev pub flag_number : Bool → ℕ
flag_number true = 1
flag_number false = 0

-- whether bots may wait, whether the run is stopping, and its seconds
abbrev pub waiting_metrics : RunStatus → List ℕ
waiting_metrics run =
    run_metric (codes "bots_may_wait") (codes "gauge") (codes "Whether bots may wait for a place.") (flag_number run.has_waiting)
    ++ run_metric (codes "stopping") (codes "gauge") (codes "Whether the run accepts no further bot.")
    (flag_number run.is_stopping)
    ++ run_metric (codes "up_seconds") (codes "gauge") (codes "Seconds since the run began.") run.seconds

-- that the run answers, and which sessions it has
abbrev pub presence_metrics : RunStatus → List ℕ
presence_metrics run =
    run_metric (codes "up") (codes "gauge") (codes "Whether the run answers.") 1
    ++ run_metric (codes "sessions") (codes "gauge") (codes "Sessions that are open.") run.open
    ++ run_metric (codes "connecting") (codes "gauge") (codes "Bots that wait for a connection to the server.") run.connecting

-- the number of bots that were accepted: each has a session, is connected, was served, or did not reach the server
abbrev pub accepted_bots : RunStatus → ℕ
accepted_bots run = run.open + run.connecting + run.served + run.unreached

-- what became of the bots
abbrev pub admission_metrics : RunStatus → List ℕ
admission_metrics run =
    run_metric (codes "accepted_total") (codes "counter") (codes "Bots that were accepted.") (accepted_bots run)
    ++ run_metric (codes "served_total") (codes "counter") (codes "Sessions that are over.") run.served
    ++ run_metric (codes "unreached_total") (codes "counter") (codes "Bots for which the server could not be reached.") run.unreached

-- whether the last connect reached the server; no sample before the first
abbrev pub server_up_sample : ServerState → List ℕ
server_up_sample Untried = []
server_up_sample Up = run_sample (codes "server_up") 1
server_up_sample Away = run_sample (codes "server_up") 0

-- the state of the server, and the seconds since it began
abbrev pub server_metrics : ServerStatus → List ℕ
server_metrics server =
    metric_head (codes "server_up") (codes "gauge")
    (codes "Whether the last connect to the server succeeded. No sample before the first.")
    ++ server_up_sample server.state
    ++ run_metric (codes "server_state_seconds") (codes "gauge")
    (codes "Seconds since the first connect with this result; before any connect, since the run began.") server.seconds

-- the metrics of the run, but for its counters over all sessions
abbrev pub metrics_head : RunStatus → List ℕ
metrics_head run = presence_metrics run ++ admission_metrics run ++ waiting_metrics run ++ server_metrics run.server

-- a sample of a session up to its labels after the session's own
unfoldable pub sample_front : List ℕ → SessionRow → List ℕ
sample_front name row =
    codes "daide_gate_" ++ name ++ codes "{session=\"" ++ decimal row.number ++ codes "\",bot=\"" ++ socket_text row.bot
    ++ codes "\","

-- the end of a sample
abbrev pub sample_end : ℕ → List ℕ
sample_end value = codes "} " ++ decimal value ++ codes "\n"

-- a sample of a session, with one more label
unfoldable pub session_sample : List ℕ → SessionRow → List ℕ → ℕ → List ℕ
session_sample name row label value = sample_front name row ++ label ++ sample_end value

-- the labels of a count: its side, and the name of its counter
unfoldable pub count_labels : List ℕ → List ℕ → List ℕ
count_labels side name = codes "side=\"" ++ side ++ codes "\",result=\"" ++ name ++ codes "\""

-- the number of frames from a side that a counter of this name counts
unfoldable pub count_sample : SessionRow → List ℕ → List ℕ → ℕ → List ℕ
count_sample row side name count =
    sample_front (codes "session_frames_total") row ++ count_labels side name ++ sample_end count

-- the frames from a side, by what was done with them
abbrev pub side_samples : SessionRow → List ℕ → SideCounts → List ℕ
side_samples row side c =
    flat_map (λ counter. count_sample row side (counter_name counter) (side_count counter c)) all_counters

-- the frames of both, and the faults, which have no side
abbrev pub frame_samples : SessionRow → List ℕ
frame_samples row =
    side_samples row (codes "bot") row.account.bot ++ side_samples row (codes "server") row.account.server
    ++ session_sample (codes "session_frames_total") row (codes "result=\"fault\"") row.account.faults

-- the bytes received from each side, and those sent to each
abbrev pub byte_samples : SessionRow → List ℕ
byte_samples row =
    session_sample (codes "session_bytes_total") row (codes "side=\"bot\",direction=\"received\"") row.received_from_bot
    ++ session_sample (codes "session_bytes_total") row (codes "side=\"server\",direction=\"received\"")
    row.received_from_server
    ++ session_sample (codes "session_bytes_total") row (codes "side=\"bot\",direction=\"sent\"") row.sent_to_bot
    ++ session_sample (codes "session_bytes_total") row (codes "side=\"server\",direction=\"sent\"") row.sent_to_server

-- the bytes that wait for each side, in the session and in the side's socket
abbrev pub waiting_samples : SessionRow → List ℕ
waiting_samples row =
    session_sample (codes "session_waiting_bytes") row (codes "side=\"bot\"") (row.queued_to_bot + row.buffered_to_bot)
    ++ session_sample (codes "session_waiting_bytes") row (codes "side=\"server\"") (row.queued_to_server + row.buffered_to_server)

-- the seconds since a side's last byte, if it has sent one
abbrev pub idle_sample : SessionRow → List ℕ → Option ℕ → List ℕ
idle_sample row label None = []
idle_sample row label (Some seconds) = session_sample (codes "session_idle_seconds") row label seconds

-- the seconds since each side's last byte
abbrev pub idle_samples : SessionRow → List ℕ
idle_samples row =
    idle_sample row (codes "side=\"bot\"") row.bot_idle ++ idle_sample row (codes "side=\"server\"") row.server_idle

-- the label of a phase
abbrev pub phase_label : Phase → List ℕ
phase_label phase = codes "phase=\"" ++ phase_name phase ++ codes "\""

-- the label of a bot's name, if the bot has said one
abbrev pub name_label : BotName → List ℕ
name_label Unknown = []
name_label (Nme text) = codes ",name=" ++ quoted_name (Nme text)
name_label (Iam power) = codes ",name=" ++ quoted_name (Iam power)

-- the label of a bot's power, if the server has said one
abbrev pub power_label : Option Power → List ℕ
power_label None = []
power_label (Some power) = codes ",power=\"" ++ power_text power ++ codes "\""

-- the level of a session, with its phase, its bot's name and its power
abbrev pub level_sample : SessionRow → List ℕ
level_sample row =
    sample_front (codes "session_level") row ++ phase_label row.phase ++ name_label row.account.name
    ++ power_label row.account.power ++ sample_end (level_number row.level)

-- a metric of the sessions, with all its samples
abbrev pub session_metric : List ℕ → List ℕ → List ℕ → List ℕ → List ℕ
session_metric name kind help samples = metric_head name kind help ++ samples

-- the counters of the sessions, each with these samples
abbrev pub session_counters : List ℕ → List ℕ → List ℕ
session_counters frames bytes =
    session_metric (codes "session_frames_total") (codes "counter")
    (codes "Frames of a session, by side and by what was done with them.") frames
    ++ session_metric (codes "session_bytes_total") (codes "counter") (codes "Bytes of a session, by side and by direction.")
    bytes

-- the metrics of the sessions, each with these samples
abbrev pub session_metrics : List ℕ → List ℕ → List ℕ → List ℕ → List ℕ → List ℕ
session_metrics frames bytes waiting idle levels =
    session_counters frames bytes
    ++ session_metric (codes "session_waiting_bytes") (codes "gauge") (codes "Bytes that wait for a side.") waiting
    ++ session_metric (codes "session_idle_seconds") (codes "gauge") (codes "Seconds since the last byte from a side.") idle
    ++ session_metric (codes "session_level") (codes "gauge") (codes "The level of press of a session.") levels
