-- The status of a run with no session, with one and with two, in each format. The texts were worked out from
-- docs/FORMATS.md by hand.
use Rattle.std.proofs.Common.{◌≡◌, ℕ, ◌-◌, ◌^◌, ◌++◌, true, false, List, [], ◌∷◌, map, Some, None, codes, refl}
use Rattle.std.specs.Fmt.{digits}
use Rattle.daide_token.specs.Names.{name_of, names}
use Rattle.daide_token.specs.Text.{text_with}
use Rattle.daide_protocol.specs.declared.bot_name.BotName.TheVariants.{Unknown, Nme}
use Rattle.daide_protocol.specs.BotName.{kept}
use Rattle.daide_protocol.specs.Power.{of_token}
use Rattle.std.specs.declared.net.socket_addr.SocketAddr.{SocketAddr}
use Rattle.std.specs.declared.net.socket_addr.SocketAddr.TheVariants.{V4}
use Rattle.daide_grammar.specs.declared.level.Level.TheVariants.{L0, L10, L20, L30, L40, L50, L60}
use Rattle.daide_protocol.specs.declared.phase.Phase.TheVariants.{WaitIm, WaitRm, Open, Over}
use Rattle.daide_status.specs.declared.request.Format.TheVariants.{Table, Json, Prometheus}
use Rattle.daide_status.specs.declared.counts.EndCause.{EndCause}
use Rattle.daide_status.specs.declared.counts.EndCounts.{EndCounts}
use Rattle.daide_status.specs.declared.counts.RunCounts.{RunCounts}
use Rattle.daide_status.specs.declared.snapshot.RunStatus.{RunStatus}
use Rattle.daide_status.specs.declared.snapshot.ServerState.TheVariants.{Untried, Up, Away}
use Rattle.daide_status.specs.declared.snapshot.SessionRow.{SessionRow}
use Rattle.daide_status.specs.Columns.{phase_cell, server_line, side_cells}
use Rattle.daide_status.specs.Counts.{all_causes, declined_counted, dropped_counted, ending_counted, no_counts, row_counted}
use Rattle.daide_status.specs.Json.{json_ended, json_further, json_sides}
use Rattle.daide_status.specs.Metrics.{count_labels, count_sample, sample_front, server_up_sample, session_sample}
use Rattle.daide_status.specs.Pieces.{phase_name}
use Rattle.daide_status.specs.StatusTexts.{status_text}
use Rattle.daide_status.specs.Totals.{end_sample, labelled_sample, side_total}

-- ---- the snapshots

abbrev idle_run : RunStatus
idle_run =
    record {
      «open» = 0;
      connecting = 0;
      served = 0;
      unreached = 0;
      has_waiting = false;
      is_stopping = false;
      seconds = 7;
      server = record { state = Untried; seconds = 7; unreached = 0 };
      counts = no_counts;
    }

-- each cause has a number of its own
abbrev some_ends : EndCounts
some_ends = record {
  bot_ended = 101;
  server_ended = 102;
  bot_lost = 103;
  server_lost = 104;
  bot_final = 105;
  server_final = 106;
  bot_error = 107;
  server_error = 108;
  bot_fault = 109;
  server_fault = 110;
  no_im = 0;
  stopped = 112;
  bot_silent = 113;
  server_silent = 114;
  bot_stalled = 115;
  server_stalled = 116;
  bot_refused = 119;
  server_refused = 120;
  turns_spent = 117;
  no_server = 118;
}

abbrev busy_counts : RunCounts
busy_counts = record {
  bot = record { relayed = 1000; prn = 200; huh = 300 };
  server = record { relayed = 2000; prn = 400; huh = 500 };
  faults = 60;
  ends = some_ends;
  declined = 21;
  dropped = 22;
}

abbrev busy_run : RunStatus
busy_run =
    record {
      «open» = 2;
      connecting = 1;
      served = 30;
      unreached = 4;
      has_waiting = true;
      is_stopping = true;
      seconds = 125;
      server = record { state = Away; seconds = 40; unreached = 12 };
      counts = busy_counts;
    }

abbrev address : ℕ → ℕ → ℕ → ℕ → ℕ → SocketAddr
address a b c d port = V4 (record { ip = record { octets = a ∷ b ∷ c ∷ d ∷ [] }; port = port })

-- each number is another one, so that a number at another's place is seen
abbrev first : SessionRow
first = record {
  number = 1;
  bot = address 127 0 0 1 50000;
  port_to_server = Some 40000;
  phase = Open;
  level = L20;
  account = record {
    bot = record { relayed = 87; prn = 2; huh = 3 };
    server = record { relayed = 95; prn = 7; huh = 8 };
    faults = 6;
    level = L20;
    name = Nme (kept (codes "Al\"b\\rt"));
    power = Some (of_token 0x4100);
  };
  queued_to_bot = 10;
  queued_to_server = 12;
  buffered_to_bot = 30;
  buffered_to_server = 4;
  received_from_bot = 1234;
  received_from_server = 567890;
  sent_to_bot = 98765;
  sent_to_server = 4321;
  bot_idle = Some 0;
  server_idle = Some 61;
}

abbrev second : SessionRow
second = record {
  number = 12;
  bot = address 10 0 0 7 6;
  port_to_server = None;
  phase = WaitRm;
  level = L0;
  account = record {
    bot = record { relayed = 1; prn = 0; huh = 0 };
    server = record { relayed = 0; prn = 0; huh = 0 };
    faults = 0;
    level = L0;
    name = Unknown;
    power = None;
  };
  queued_to_bot = 0;
  queued_to_server = 0;
  buffered_to_bot = 0;
  buffered_to_server = 8;
  received_from_bot = 8;
  received_from_server = 0;
  sent_to_bot = 0;
  sent_to_server = 7;
  bot_idle = Some 5;
  server_idle = None;
}

-- ---- as a table

abbrev columns : List ℕ
columns =
    codes "                   from bot   from server     bytes for  bot\n"
    ++ codes "   no phase   relay PRN HUH relay PRN HUH    bot server idle bot, its name and its power\n"

table_of_none : status_text Table idle_run []
    ≡ codes "0 open, 0 connecting, 0 served, 0 unreached, up 7 s\nserver untried for 7 s, 0 unreached since\nended: 0 declined, 0 dropped\n"
    ++ columns
unfolding digits text_with name_of names
table_of_none = refl

-- no session ended for a late IM, so the table leaves that out
abbrev busy_line : List ℕ
busy_line =
    codes "2 open, 1 connecting, 30 served, 4 unreached, up 125 s; bots may wait for a place; stopping\n"
    ++ codes "server away for 40 s, 12 unreached since\n"
    ++ codes "ended: 21 declined, 22 dropped, 101 bot ended, 102 server ended, 103 bot lost, 104 server lost, 105 FM of bot"
    ++ codes ", 106 FM of server, 107 EM of bot, 108 EM of server, 109 fault of bot, 110 fault of server"
    ++ codes ", 112 stopped by the operator, 113 bot silent, 114 server silent, 115 bot took nothing, 116 server took nothing, 119 too many refusals of bot, 120 too many refusals of server"
    ++ codes ", 117 turns spent, 118 no server\n"

abbrev first_line : List ℕ
first_line = codes "    1 open 20    87   2   3    95   7   8     40     16    0 127.0.0.1:50000 NME 'Al\"b\\rt' AUS\n"

abbrev second_line : List ℕ
second_line = codes "   12 wait RM     1   0   0     0   0   0      0      8    5 10.0.0.7:6\n"

table_of_one : status_text Table busy_run (first ∷ []) ≡ busy_line ++ columns ++ first_line
unfolding digits text_with name_of names
table_of_one = refl

table_of_two : status_text Table busy_run (first ∷ second ∷ []) ≡ busy_line ++ columns ++ first_line ++ second_line
unfolding digits text_with name_of names
table_of_two = refl

-- each phase, and each level of an open session, has a cell of its own; a name has no blanks to fill its column
cells :
    (map (λ phase. phase_cell phase L30) (WaitIm ∷ WaitRm ∷ Over ∷ []) ≡ codes "wait IM" ∷ codes "wait RM" ∷ codes "over   " ∷ [])
    × (map (phase_cell Open) (L0 ∷ L10 ∷ L20 ∷ L30 ∷ L40 ∷ L50 ∷ L60 ∷ [])
    ≡ codes "open 0 " ∷ codes "open 10" ∷ codes "open 20" ∷ codes "open 30" ∷ codes "open 40" ∷ codes "open 50" ∷ codes "open 60" ∷ [])
    × (map phase_name (WaitIm ∷ WaitRm ∷ Open ∷ Over ∷ [])
    ≡ codes "wait IM" ∷ codes "wait RM" ∷ codes "open" ∷ codes "over" ∷ [])
cells = (refl, refl, refl)

-- the line of the server in each state
servers :
    (server_line (record { state = Up; seconds = 3; unreached = 0 }) ≡ codes "server up for 3 s, 0 unreached since\n")
    × (map server_up_sample (Untried ∷ Up ∷ Away ∷ [])
    ≡ [] ∷ codes "daide_gate_server_up 1\n" ∷ codes "daide_gate_server_up 0\n" ∷ [])
unfolding digits
servers = (refl, refl)

-- ---- as a document

document_of_none : status_text Json idle_run []
    ≡ codes "{\"open\":0,\"connecting\":0,\"served\":0,\"unreached\":0,\"bots_may_wait\":false,\"stopping\":false,\"seconds\":7"
    ++ codes ",\"server\":{\"state\":\"untried\",\"seconds\":7,\"unreached\":0},\"sessions\":["
    ++ codes "\n],\"counts\":{\"declined\":0,\"dropped\":0,\"frames\":{\"faults\":0,\"relayed\":{\"bot\":0,\"server\":0},\"prn\":{\"bot\":0,\"server\":0}"
    ++ codes ",\"huh\":{\"bot\":0,\"server\":0}}"
    ++ codes ",\"ends\":{\"bot ended\":0,\"server ended\":0,\"bot lost\":0,\"server lost\":0,\"FM of bot\":0,\"FM of server\":0"
    ++ codes ",\"EM of bot\":0,\"EM of server\":0,\"fault of bot\":0,\"fault of server\":0,\"no IM in time\":0,\"stopped by the operator\":0"
    ++ codes ",\"bot silent\":0,\"server silent\":0,\"bot took nothing\":0,\"server took nothing\":0,\"too many refusals of bot\":0,\"too many refusals of server\":0,\"turns spent\":0,\"no server\":0}}}\n"
unfolding digits text_with name_of names json_sides json_ended json_further
document_of_none = refl

abbrev busy_members : List ℕ
busy_members =
    codes "{\"open\":2,\"connecting\":1,\"served\":30,\"unreached\":4,\"bots_may_wait\":true,\"stopping\":true,\"seconds\":125"
    ++ codes ",\"server\":{\"state\":\"away\",\"seconds\":40,\"unreached\":12},\"sessions\":[\n"

-- the sessions that ended, which no session that is present changes
abbrev ends_members : List ℕ
ends_members =
    codes ",\"ends\":{\"bot ended\":101,\"server ended\":102,\"bot lost\":103,\"server lost\":104,\"FM of bot\":105,\"FM of server\":106"
    ++ codes ",\"EM of bot\":107,\"EM of server\":108,\"fault of bot\":109,\"fault of server\":110,\"no IM in time\":0,\"stopped by the operator\":112"
    ++ codes ",\"bot silent\":113,\"server silent\":114,\"bot took nothing\":115,\"server took nothing\":116,\"too many refusals of bot\":119,\"too many refusals of server\":120,\"turns spent\":117,\"no server\":118}}}\n"

-- the counts of the run and of the first session
abbrev counts_of_one : List ℕ
counts_of_one =
    codes "\n],\"counts\":{\"declined\":21,\"dropped\":22,\"frames\":{\"faults\":66,\"relayed\":{\"bot\":1087,\"server\":2095}"
    ++ codes ",\"prn\":{\"bot\":202,\"server\":407},\"huh\":{\"bot\":303,\"server\":508}}"
    ++ ends_members

-- and with the second
abbrev counts_of_two : List ℕ
counts_of_two =
    codes "\n],\"counts\":{\"declined\":21,\"dropped\":22,\"frames\":{\"faults\":66,\"relayed\":{\"bot\":1088,\"server\":2095}"
    ++ codes ",\"prn\":{\"bot\":202,\"server\":407},\"huh\":{\"bot\":303,\"server\":508}}"
    ++ ends_members

abbrev first_object : List ℕ
first_object =
    codes "{\"session\":1,\"bot\":\"127.0.0.1:50000\",\"phase\":\"open\",\"level\":20,\"port_to_server\":40000,\"name\":\"NME 'Al\\\"b\\\\rt'\",\"power\":\"AUS\",\"relayed\":{\"bot\":87,\"server\":95},\"prn\":{\"bot\":2,\"server\":7}"
    ++ codes ",\"huh\":{\"bot\":3,\"server\":8},\"faults\":6"
    ++ codes ",\"queued\":{\"bot\":10,\"server\":12},\"held\":{\"bot\":30,\"server\":4},\"received\":{\"bot\":1234,\"server\":567890},\"sent\":{\"bot\":98765,\"server\":4321},\"idle_seconds\":{\"bot\":0,\"server\":61}}"

abbrev second_object : List ℕ
second_object =
    codes "{\"session\":12,\"bot\":\"10.0.0.7:6\",\"phase\":\"wait RM\",\"level\":0,\"port_to_server\":null,\"name\":null,\"power\":null,\"relayed\":{\"bot\":1,\"server\":0},\"prn\":{\"bot\":0,\"server\":0}"
    ++ codes ",\"huh\":{\"bot\":0,\"server\":0},\"faults\":0"
    ++ codes ",\"queued\":{\"bot\":0,\"server\":0},\"held\":{\"bot\":0,\"server\":8},\"received\":{\"bot\":8,\"server\":0},\"sent\":{\"bot\":0,\"server\":7},\"idle_seconds\":{\"bot\":5,\"server\":null}}"

document_of_one : status_text Json busy_run (first ∷ []) ≡ busy_members ++ first_object ++ counts_of_one
unfolding digits text_with name_of names json_sides json_ended json_further
document_of_one = refl

document_of_two : status_text Json busy_run (first ∷ second ∷ [])
    ≡ busy_members ++ first_object ++ codes ",\n" ++ second_object ++ counts_of_two
unfolding digits text_with name_of names json_sides json_ended json_further
document_of_two = refl

-- ---- as metrics

abbrev frames_head : List ℕ
frames_head =
    codes "# HELP daide_gate_session_frames_total Frames of a session, by side and by what was done with them.\n# TYPE daide_gate_session_frames_total counter\n"

abbrev bytes_head : List ℕ
bytes_head =
    codes "# HELP daide_gate_session_bytes_total Bytes of a session, by side and by direction.\n# TYPE daide_gate_session_bytes_total counter\n"

abbrev waiting_head : List ℕ
waiting_head =
    codes "# HELP daide_gate_session_waiting_bytes Bytes that wait for a side.\n# TYPE daide_gate_session_waiting_bytes gauge\n"

abbrev idle_head : List ℕ
idle_head =
    codes "# HELP daide_gate_session_idle_seconds Seconds since the last byte from a side.\n# TYPE daide_gate_session_idle_seconds gauge\n"

abbrev level_head : List ℕ
level_head = codes "# HELP daide_gate_session_level The level of press of a session.\n# TYPE daide_gate_session_level gauge\n"

-- before the first connect the server has no sample
abbrev idle_metrics : List ℕ
idle_metrics =
    codes "# HELP daide_gate_up Whether the run answers.\n# TYPE daide_gate_up gauge\ndaide_gate_up 1\n"
    ++ codes "# HELP daide_gate_sessions Sessions that are open.\n# TYPE daide_gate_sessions gauge\ndaide_gate_sessions 0\n"
    ++ codes "# HELP daide_gate_connecting Bots that wait for a connection to the server.\n# TYPE daide_gate_connecting gauge\ndaide_gate_connecting 0\n"
    ++ codes "# HELP daide_gate_accepted_total Bots that were accepted.\n# TYPE daide_gate_accepted_total counter\ndaide_gate_accepted_total 0\n"
    ++ codes "# HELP daide_gate_served_total Sessions that are over.\n# TYPE daide_gate_served_total counter\ndaide_gate_served_total 0\n"
    ++ codes "# HELP daide_gate_unreached_total Bots for which the server could not be reached.\n# TYPE daide_gate_unreached_total counter\ndaide_gate_unreached_total 0\n"
    ++ codes "# HELP daide_gate_bots_may_wait Whether bots may wait for a place.\n# TYPE daide_gate_bots_may_wait gauge\ndaide_gate_bots_may_wait 0\n"
    ++ codes "# HELP daide_gate_stopping Whether the run accepts no further bot.\n# TYPE daide_gate_stopping gauge\ndaide_gate_stopping 0\n"
    ++ codes "# HELP daide_gate_up_seconds Seconds since the run began.\n# TYPE daide_gate_up_seconds gauge\ndaide_gate_up_seconds 7\n"
    ++ codes "# HELP daide_gate_server_up Whether the last connect to the server succeeded. No sample before the first.\n# TYPE daide_gate_server_up gauge\n"
    ++ codes "# HELP daide_gate_server_state_seconds Seconds since the first connect with this result; before any connect, since the run began.\n# TYPE daide_gate_server_state_seconds gauge\ndaide_gate_server_state_seconds 7\n"
    ++ codes "# HELP daide_gate_declined_total Connections that were closed at once, since their bot may not come.\n# TYPE daide_gate_declined_total counter\ndaide_gate_declined_total 0\n"
    ++ codes "# HELP daide_gate_dropped_total Connections that were accepted, and that the system could not follow.\n# TYPE daide_gate_dropped_total counter\ndaide_gate_dropped_total 0\n"
    ++ codes "# HELP daide_gate_ended_total Sessions that ended, by cause.\n# TYPE daide_gate_ended_total counter\n"
    ++ codes "daide_gate_ended_total{cause=\"bot ended\"} 0\n"
    ++ codes "daide_gate_ended_total{cause=\"server ended\"} 0\n"
    ++ codes "daide_gate_ended_total{cause=\"bot lost\"} 0\n"
    ++ codes "daide_gate_ended_total{cause=\"server lost\"} 0\n"
    ++ codes "daide_gate_ended_total{cause=\"FM of bot\"} 0\n"
    ++ codes "daide_gate_ended_total{cause=\"FM of server\"} 0\n"
    ++ codes "daide_gate_ended_total{cause=\"EM of bot\"} 0\n"
    ++ codes "daide_gate_ended_total{cause=\"EM of server\"} 0\n"
    ++ codes "daide_gate_ended_total{cause=\"fault of bot\"} 0\n"
    ++ codes "daide_gate_ended_total{cause=\"fault of server\"} 0\n"
    ++ codes "daide_gate_ended_total{cause=\"no IM in time\"} 0\n"
    ++ codes "daide_gate_ended_total{cause=\"stopped by the operator\"} 0\n"
    ++ codes "daide_gate_ended_total{cause=\"bot silent\"} 0\n"
    ++ codes "daide_gate_ended_total{cause=\"server silent\"} 0\n"
    ++ codes "daide_gate_ended_total{cause=\"bot took nothing\"} 0\n"
    ++ codes "daide_gate_ended_total{cause=\"server took nothing\"} 0\n"
    ++ codes "daide_gate_ended_total{cause=\"too many refusals of bot\"} 0\n"
    ++ codes "daide_gate_ended_total{cause=\"too many refusals of server\"} 0\n"
    ++ codes "daide_gate_ended_total{cause=\"turns spent\"} 0\n"
    ++ codes "daide_gate_ended_total{cause=\"no server\"} 0\n"
    ++ codes "# HELP daide_gate_frames_total Frames of all sessions, also of those that ended, by side and by what was done with them.\n# TYPE daide_gate_frames_total counter\n"
    ++ codes "daide_gate_frames_total{side=\"bot\",result=\"relayed\"} 0\n"
    ++ codes "daide_gate_frames_total{side=\"bot\",result=\"prn\"} 0\n"
    ++ codes "daide_gate_frames_total{side=\"bot\",result=\"huh\"} 0\n"
    ++ codes "daide_gate_frames_total{side=\"server\",result=\"relayed\"} 0\n"
    ++ codes "daide_gate_frames_total{side=\"server\",result=\"prn\"} 0\n"
    ++ codes "daide_gate_frames_total{side=\"server\",result=\"huh\"} 0\n"
    ++ codes "daide_gate_frames_total{result=\"fault\"} 0\n"

metrics_of_none : status_text Prometheus idle_run []
    ≡ idle_metrics ++ frames_head ++ bytes_head ++ waiting_head ++ idle_head ++ level_head
unfolding digits text_with name_of names sample_front session_sample count_labels count_sample end_sample labelled_sample side_total
metrics_of_none = refl

-- 2 + 1 + 30 + 4 bots were accepted
abbrev busy_metrics : List ℕ
busy_metrics =
    codes "# HELP daide_gate_up Whether the run answers.\n# TYPE daide_gate_up gauge\ndaide_gate_up 1\n"
    ++ codes "# HELP daide_gate_sessions Sessions that are open.\n# TYPE daide_gate_sessions gauge\ndaide_gate_sessions 2\n"
    ++ codes "# HELP daide_gate_connecting Bots that wait for a connection to the server.\n# TYPE daide_gate_connecting gauge\ndaide_gate_connecting 1\n"
    ++ codes "# HELP daide_gate_accepted_total Bots that were accepted.\n# TYPE daide_gate_accepted_total counter\ndaide_gate_accepted_total 37\n"
    ++ codes "# HELP daide_gate_served_total Sessions that are over.\n# TYPE daide_gate_served_total counter\ndaide_gate_served_total 30\n"
    ++ codes "# HELP daide_gate_unreached_total Bots for which the server could not be reached.\n# TYPE daide_gate_unreached_total counter\ndaide_gate_unreached_total 4\n"
    ++ codes "# HELP daide_gate_bots_may_wait Whether bots may wait for a place.\n# TYPE daide_gate_bots_may_wait gauge\ndaide_gate_bots_may_wait 1\n"
    ++ codes "# HELP daide_gate_stopping Whether the run accepts no further bot.\n# TYPE daide_gate_stopping gauge\ndaide_gate_stopping 1\n"
    ++ codes "# HELP daide_gate_up_seconds Seconds since the run began.\n# TYPE daide_gate_up_seconds gauge\ndaide_gate_up_seconds 125\n"
    ++ codes "# HELP daide_gate_server_up Whether the last connect to the server succeeded. No sample before the first.\n# TYPE daide_gate_server_up gauge\ndaide_gate_server_up 0\n"
    ++ codes "# HELP daide_gate_server_state_seconds Seconds since the first connect with this result; before any connect, since the run began.\n# TYPE daide_gate_server_state_seconds gauge\ndaide_gate_server_state_seconds 40\n"

-- the counters of the run and of the first session
abbrev totals_of_one : List ℕ
totals_of_one =
    codes "# HELP daide_gate_declined_total Connections that were closed at once, since their bot may not come.\n# TYPE daide_gate_declined_total counter\ndaide_gate_declined_total 21\n"
    ++ codes "# HELP daide_gate_dropped_total Connections that were accepted, and that the system could not follow.\n# TYPE daide_gate_dropped_total counter\ndaide_gate_dropped_total 22\n"
    ++ codes "# HELP daide_gate_ended_total Sessions that ended, by cause.\n# TYPE daide_gate_ended_total counter\n"
    ++ codes "daide_gate_ended_total{cause=\"bot ended\"} 101\n"
    ++ codes "daide_gate_ended_total{cause=\"server ended\"} 102\n"
    ++ codes "daide_gate_ended_total{cause=\"bot lost\"} 103\n"
    ++ codes "daide_gate_ended_total{cause=\"server lost\"} 104\n"
    ++ codes "daide_gate_ended_total{cause=\"FM of bot\"} 105\n"
    ++ codes "daide_gate_ended_total{cause=\"FM of server\"} 106\n"
    ++ codes "daide_gate_ended_total{cause=\"EM of bot\"} 107\n"
    ++ codes "daide_gate_ended_total{cause=\"EM of server\"} 108\n"
    ++ codes "daide_gate_ended_total{cause=\"fault of bot\"} 109\n"
    ++ codes "daide_gate_ended_total{cause=\"fault of server\"} 110\n"
    ++ codes "daide_gate_ended_total{cause=\"no IM in time\"} 0\n"
    ++ codes "daide_gate_ended_total{cause=\"stopped by the operator\"} 112\n"
    ++ codes "daide_gate_ended_total{cause=\"bot silent\"} 113\n"
    ++ codes "daide_gate_ended_total{cause=\"server silent\"} 114\n"
    ++ codes "daide_gate_ended_total{cause=\"bot took nothing\"} 115\n"
    ++ codes "daide_gate_ended_total{cause=\"server took nothing\"} 116\n"
    ++ codes "daide_gate_ended_total{cause=\"too many refusals of bot\"} 119\n"
    ++ codes "daide_gate_ended_total{cause=\"too many refusals of server\"} 120\n"
    ++ codes "daide_gate_ended_total{cause=\"turns spent\"} 117\n"
    ++ codes "daide_gate_ended_total{cause=\"no server\"} 118\n"
    ++ codes "# HELP daide_gate_frames_total Frames of all sessions, also of those that ended, by side and by what was done with them.\n# TYPE daide_gate_frames_total counter\n"
    ++ codes "daide_gate_frames_total{side=\"bot\",result=\"relayed\"} 1087\n"
    ++ codes "daide_gate_frames_total{side=\"bot\",result=\"prn\"} 202\n"
    ++ codes "daide_gate_frames_total{side=\"bot\",result=\"huh\"} 303\n"
    ++ codes "daide_gate_frames_total{side=\"server\",result=\"relayed\"} 2095\n"
    ++ codes "daide_gate_frames_total{side=\"server\",result=\"prn\"} 407\n"
    ++ codes "daide_gate_frames_total{side=\"server\",result=\"huh\"} 508\n"
    ++ codes "daide_gate_frames_total{result=\"fault\"} 66\n"

-- and with the second
abbrev totals_of_two : List ℕ
totals_of_two =
    codes "# HELP daide_gate_declined_total Connections that were closed at once, since their bot may not come.\n# TYPE daide_gate_declined_total counter\ndaide_gate_declined_total 21\n"
    ++ codes "# HELP daide_gate_dropped_total Connections that were accepted, and that the system could not follow.\n# TYPE daide_gate_dropped_total counter\ndaide_gate_dropped_total 22\n"
    ++ codes "# HELP daide_gate_ended_total Sessions that ended, by cause.\n# TYPE daide_gate_ended_total counter\n"
    ++ codes "daide_gate_ended_total{cause=\"bot ended\"} 101\n"
    ++ codes "daide_gate_ended_total{cause=\"server ended\"} 102\n"
    ++ codes "daide_gate_ended_total{cause=\"bot lost\"} 103\n"
    ++ codes "daide_gate_ended_total{cause=\"server lost\"} 104\n"
    ++ codes "daide_gate_ended_total{cause=\"FM of bot\"} 105\n"
    ++ codes "daide_gate_ended_total{cause=\"FM of server\"} 106\n"
    ++ codes "daide_gate_ended_total{cause=\"EM of bot\"} 107\n"
    ++ codes "daide_gate_ended_total{cause=\"EM of server\"} 108\n"
    ++ codes "daide_gate_ended_total{cause=\"fault of bot\"} 109\n"
    ++ codes "daide_gate_ended_total{cause=\"fault of server\"} 110\n"
    ++ codes "daide_gate_ended_total{cause=\"no IM in time\"} 0\n"
    ++ codes "daide_gate_ended_total{cause=\"stopped by the operator\"} 112\n"
    ++ codes "daide_gate_ended_total{cause=\"bot silent\"} 113\n"
    ++ codes "daide_gate_ended_total{cause=\"server silent\"} 114\n"
    ++ codes "daide_gate_ended_total{cause=\"bot took nothing\"} 115\n"
    ++ codes "daide_gate_ended_total{cause=\"server took nothing\"} 116\n"
    ++ codes "daide_gate_ended_total{cause=\"too many refusals of bot\"} 119\n"
    ++ codes "daide_gate_ended_total{cause=\"too many refusals of server\"} 120\n"
    ++ codes "daide_gate_ended_total{cause=\"turns spent\"} 117\n"
    ++ codes "daide_gate_ended_total{cause=\"no server\"} 118\n"
    ++ codes "# HELP daide_gate_frames_total Frames of all sessions, also of those that ended, by side and by what was done with them.\n# TYPE daide_gate_frames_total counter\n"
    ++ codes "daide_gate_frames_total{side=\"bot\",result=\"relayed\"} 1088\n"
    ++ codes "daide_gate_frames_total{side=\"bot\",result=\"prn\"} 202\n"
    ++ codes "daide_gate_frames_total{side=\"bot\",result=\"huh\"} 303\n"
    ++ codes "daide_gate_frames_total{side=\"server\",result=\"relayed\"} 2095\n"
    ++ codes "daide_gate_frames_total{side=\"server\",result=\"prn\"} 407\n"
    ++ codes "daide_gate_frames_total{side=\"server\",result=\"huh\"} 508\n"
    ++ codes "daide_gate_frames_total{result=\"fault\"} 66\n"

abbrev first_frames : List ℕ
first_frames =
    codes "daide_gate_session_frames_total{session=\"1\",bot=\"127.0.0.1:50000\",side=\"bot\",result=\"relayed\"} 87\n"
    ++ codes "daide_gate_session_frames_total{session=\"1\",bot=\"127.0.0.1:50000\",side=\"bot\",result=\"prn\"} 2\n"
    ++ codes "daide_gate_session_frames_total{session=\"1\",bot=\"127.0.0.1:50000\",side=\"bot\",result=\"huh\"} 3\n"
    ++ codes "daide_gate_session_frames_total{session=\"1\",bot=\"127.0.0.1:50000\",side=\"server\",result=\"relayed\"} 95\n"
    ++ codes "daide_gate_session_frames_total{session=\"1\",bot=\"127.0.0.1:50000\",side=\"server\",result=\"prn\"} 7\n"
    ++ codes "daide_gate_session_frames_total{session=\"1\",bot=\"127.0.0.1:50000\",side=\"server\",result=\"huh\"} 8\n"
    ++ codes "daide_gate_session_frames_total{session=\"1\",bot=\"127.0.0.1:50000\",result=\"fault\"} 6\n"

abbrev first_bytes : List ℕ
first_bytes =
    codes "daide_gate_session_bytes_total{session=\"1\",bot=\"127.0.0.1:50000\",side=\"bot\",direction=\"received\"} 1234\n"
    ++ codes "daide_gate_session_bytes_total{session=\"1\",bot=\"127.0.0.1:50000\",side=\"server\",direction=\"received\"} 567890\n"
    ++ codes "daide_gate_session_bytes_total{session=\"1\",bot=\"127.0.0.1:50000\",side=\"bot\",direction=\"sent\"} 98765\n"
    ++ codes "daide_gate_session_bytes_total{session=\"1\",bot=\"127.0.0.1:50000\",side=\"server\",direction=\"sent\"} 4321\n"

abbrev first_waiting : List ℕ
first_waiting =
    codes "daide_gate_session_waiting_bytes{session=\"1\",bot=\"127.0.0.1:50000\",side=\"bot\"} 40\n"
    ++ codes "daide_gate_session_waiting_bytes{session=\"1\",bot=\"127.0.0.1:50000\",side=\"server\"} 16\n"

abbrev first_idle : List ℕ
first_idle =
    codes "daide_gate_session_idle_seconds{session=\"1\",bot=\"127.0.0.1:50000\",side=\"bot\"} 0\n"
    ++ codes "daide_gate_session_idle_seconds{session=\"1\",bot=\"127.0.0.1:50000\",side=\"server\"} 61\n"

abbrev first_level : List ℕ
first_level = codes "daide_gate_session_level{session=\"1\",bot=\"127.0.0.1:50000\",phase=\"open\",name=\"NME 'Al\\\"b\\\\rt'\",power=\"AUS\"} 20\n"

metrics_of_one : status_text Prometheus busy_run (first ∷ [])
    ≡ busy_metrics ++ totals_of_one ++ frames_head ++ first_frames ++ bytes_head ++ first_bytes ++ waiting_head ++ first_waiting ++ idle_head ++ first_idle ++ level_head
    ++ first_level
unfolding digits text_with name_of names sample_front session_sample count_labels count_sample end_sample labelled_sample side_total
metrics_of_one = refl

-- a side that has sent nothing has no sample
metrics_of_two : status_text Prometheus busy_run (first ∷ second ∷ [])
    ≡ busy_metrics ++ totals_of_two ++ frames_head ++ first_frames
    ++ codes "daide_gate_session_frames_total{session=\"12\",bot=\"10.0.0.7:6\",side=\"bot\",result=\"relayed\"} 1\n"
    ++ codes "daide_gate_session_frames_total{session=\"12\",bot=\"10.0.0.7:6\",side=\"bot\",result=\"prn\"} 0\n"
    ++ codes "daide_gate_session_frames_total{session=\"12\",bot=\"10.0.0.7:6\",side=\"bot\",result=\"huh\"} 0\n"
    ++ codes "daide_gate_session_frames_total{session=\"12\",bot=\"10.0.0.7:6\",side=\"server\",result=\"relayed\"} 0\n"
    ++ codes "daide_gate_session_frames_total{session=\"12\",bot=\"10.0.0.7:6\",side=\"server\",result=\"prn\"} 0\n"
    ++ codes "daide_gate_session_frames_total{session=\"12\",bot=\"10.0.0.7:6\",side=\"server\",result=\"huh\"} 0\n"
    ++ codes "daide_gate_session_frames_total{session=\"12\",bot=\"10.0.0.7:6\",result=\"fault\"} 0\n"
    ++ bytes_head ++ first_bytes
    ++ codes "daide_gate_session_bytes_total{session=\"12\",bot=\"10.0.0.7:6\",side=\"bot\",direction=\"received\"} 8\n"
    ++ codes "daide_gate_session_bytes_total{session=\"12\",bot=\"10.0.0.7:6\",side=\"server\",direction=\"received\"} 0\n"
    ++ codes "daide_gate_session_bytes_total{session=\"12\",bot=\"10.0.0.7:6\",side=\"bot\",direction=\"sent\"} 0\n"
    ++ codes "daide_gate_session_bytes_total{session=\"12\",bot=\"10.0.0.7:6\",side=\"server\",direction=\"sent\"} 7\n"
    ++ waiting_head ++ first_waiting
    ++ codes "daide_gate_session_waiting_bytes{session=\"12\",bot=\"10.0.0.7:6\",side=\"bot\"} 0\n"
    ++ codes "daide_gate_session_waiting_bytes{session=\"12\",bot=\"10.0.0.7:6\",side=\"server\"} 8\n"
    ++ idle_head ++ first_idle ++ codes "daide_gate_session_idle_seconds{session=\"12\",bot=\"10.0.0.7:6\",side=\"bot\"} 5\n"
    ++ level_head ++ first_level ++ codes "daide_gate_session_level{session=\"12\",bot=\"10.0.0.7:6\",phase=\"wait RM\"} 0\n"
unfolding digits text_with name_of names sample_front session_sample count_labels count_sample end_sample labelled_sample side_total
metrics_of_two = refl

-- ---- a number that is wider than its column

wide_numbers : side_cells (record { relayed = 123456789; prn = 12345; huh = 10000 }) ≡ codes " 123456789 12345 10000"
unfolding digits
wide_numbers = refl

-- ---- counting

-- every number is modulo 2^64, each of its own
counted_up :
    (row_counted first (record no_counts { faults = 2 ^ 64 - 4; bot = record { relayed = 2 ^ 64 - 1; prn = 0; huh = 5 } })
    ≡ record no_counts {
      bot = record { relayed = 86; prn = 2; huh = 8 };
      server = record { relayed = 95; prn = 7; huh = 8 };
      faults = 2;
    })
counted_up = refl

-- each end adds one to the number of its cause
abbrev each_once : List EndCause → RunCounts → RunCounts
each_once [] c = c
each_once (cause ∷ causes) c = each_once causes (ending_counted cause c)

counted_once : each_once all_causes (record no_counts { ends = some_ends })
    ≡ record no_counts {
      ends = record {
        bot_ended = 102;
        server_ended = 103;
        bot_lost = 104;
        server_lost = 105;
        bot_final = 106;
        server_final = 107;
        bot_error = 108;
        server_error = 109;
        bot_fault = 110;
        server_fault = 111;
        no_im = 1;
        stopped = 113;
        bot_silent = 114;
        server_silent = 115;
        bot_stalled = 116;
        server_stalled = 117;
        bot_refused = 120;
        server_refused = 121;
        turns_spent = 118;
        no_server = 119;
      };
    }
counted_once = refl

turned_away : declined_counted (dropped_counted (dropped_counted no_counts))
    ≡ record no_counts { declined = 1; dropped = 2 }
turned_away = refl
