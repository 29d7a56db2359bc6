-- The status of a run as one JSON document. An address, the name of a phase and a power need no escape; a bot's name may
-- need one, and has printable characters alone. (own)
use Rattle.std.specs.Prelude.{ℕ, ◌++◌, Bool, if◌then◌else◌, List, [], ◌∷◌, Option, Some, None}
use Rattle.std.specs.Prelude.{codes}
use Rattle.std.specs.List.{flat_map}
use Rattle.std.specs.Fmt.{decimal}
use Rattle.std.specs.Net.Text.{socket_text}
use Rattle.daide_grammar.specs.Level.{level_number}
use Rattle.daide_protocol.specs.Account.{all_counters, side_count}
use Rattle.daide_protocol.specs.AccountText.{counter_name}
use Rattle.daide_protocol.specs.declared.account.Account.{Account}
use Rattle.daide_protocol.specs.declared.account.SideCounts.{SideCounts}
use Rattle.daide_protocol.specs.declared.bot_name.BotName.{BotName}
use Rattle.daide_protocol.specs.declared.bot_name.BotName.TheVariants.{Unknown, Nme, Iam}
use Rattle.daide_protocol.specs.declared.power.Power.{Power}
use Rattle.daide_protocol.specs.Power.{power_text}
use Rattle.daide_frame.specs.declared.side.Side.TheVariants.{Bot}
use Rattle.daide_status.specs.declared.counts.EndCause.{EndCause}
use Rattle.daide_status.specs.declared.counts.EndCause.TheVariants.{Ended}
use Rattle.daide_status.specs.declared.counts.EndCounts.{EndCounts}
use Rattle.daide_status.specs.declared.counts.RunCounts.{RunCounts}
use Rattle.daide_status.specs.declared.snapshot.RunStatus.{RunStatus}
use Rattle.daide_status.specs.declared.snapshot.ServerStatus.{ServerStatus}
use Rattle.daide_status.specs.declared.snapshot.SessionRow.{SessionRow}
use Rattle.daide_status.specs.Counts.{end_cause_name, end_count, other_causes}
use Rattle.daide_status.specs.Pieces.{phase_name, number_or_null, quoted_name, server_state_name}

-- a flag
abbrev pub json_flag : Bool → List ℕ
json_flag flag = if flag then codes "true" else codes "false"

-- the numbers of the run
abbrev pub json_run_counts : RunStatus → List ℕ
json_run_counts run =
    codes "{\"open\":" ++ decimal run.open ++ codes ",\"connecting\":" ++ decimal run.connecting
    ++ codes ",\"served\":" ++ decimal run.served ++ codes ",\"unreached\":" ++ decimal run.unreached

-- the flags of the run and its seconds
abbrev pub json_run_state : RunStatus → List ℕ
json_run_state run =
    codes ",\"bots_may_wait\":" ++ json_flag run.has_waiting ++ codes ",\"stopping\":" ++ json_flag run.is_stopping
    ++ codes ",\"seconds\":" ++ decimal run.seconds

-- the state of the server, and the beginning of the array of sessions
abbrev pub json_server : ServerStatus → List ℕ
json_server server =
    codes ",\"server\":{\"state\":\"" ++ server_state_name server.state ++ codes "\",\"seconds\":" ++ decimal server.seconds
    ++ codes ",\"unreached\":" ++ decimal server.unreached ++ codes "},\"sessions\":["

-- the members of the run, and the beginning of the array of sessions
abbrev pub json_head : RunStatus → List ℕ
json_head run = json_run_counts run ++ json_run_state run ++ json_server run.server

-- the number of a session, its bot's address, its phase and its level
abbrev pub json_session : SessionRow → List ℕ
json_session row =
    codes "{\"session\":" ++ decimal row.number ++ codes ",\"bot\":\"" ++ socket_text row.bot
    ++ codes "\",\"phase\":\"" ++ phase_name row.phase ++ codes "\",\"level\":" ++ decimal (level_number row.level)

-- the port of a session toward the server
abbrev pub json_port : SessionRow → List ℕ
json_port row = codes ",\"port_to_server\":" ++ number_or_null row.port_to_server

-- what the bot calls itself, or `null`
abbrev pub name_or_null : BotName → List ℕ
name_or_null Unknown = codes "null"
name_or_null (Nme text) = quoted_name (Nme text)
name_or_null (Iam power) = quoted_name (Iam power)

abbrev pub json_name : BotName → List ℕ
json_name name = codes ",\"name\":" ++ name_or_null name

-- the power that the bot plays, or `null`
abbrev pub json_power : Option Power → List ℕ
json_power None = codes ",\"power\":null"
json_power (Some power) = codes ",\"power\":\"" ++ power_text power ++ codes "\""

-- all that comes before the counts
abbrev pub json_identity : SessionRow → List ℕ
json_identity row = json_session row ++ json_port row ++ json_name row.account.name ++ json_power row.account.power

-- two numbers, of the bot and of the server
unfoldable pub json_sides : List ℕ → ℕ → ℕ → List ℕ
json_sides name bot server =
    codes ",\"" ++ name ++ codes "\":{\"bot\":" ++ decimal bot ++ codes ",\"server\":" ++ decimal server ++ codes "}"

-- the faults of a session
abbrev pub json_faults : ℕ → List ℕ
json_faults faults = codes ",\"faults\":" ++ decimal faults

-- what is counted for each side
abbrev pub json_counters : SideCounts → SideCounts → List ℕ
json_counters bot server =
    flat_map (λ counter. json_sides (counter_name counter) (side_count counter bot) (side_count counter server)) all_counters

-- the counts of a session, by side
abbrev pub json_counts : Account → List ℕ
json_counts a = json_counters a.bot a.server ++ json_faults a.faults

-- the bytes that wait for each side, in the session and in the side's socket
abbrev pub json_waiting : SessionRow → List ℕ
json_waiting row =
    json_sides (codes "queued") row.queued_to_bot row.queued_to_server
    ++ json_sides (codes "held") row.buffered_to_bot row.buffered_to_server

-- the bytes received from each side, and those sent to each
abbrev pub json_bytes : SessionRow → List ℕ
json_bytes row =
    json_sides (codes "received") row.received_from_bot row.received_from_server
    ++ json_sides (codes "sent") row.sent_to_bot row.sent_to_server

-- the seconds since each side's last byte, and the end of the object
abbrev pub json_idle : SessionRow → List ℕ
json_idle row =
    codes ",\"idle_seconds\":{\"bot\":" ++ number_or_null row.bot_idle ++ codes ",\"server\":"
    ++ number_or_null row.server_idle ++ codes "}}"

-- the object of a session
abbrev pub json_row : SessionRow → List ℕ
json_row row =
    json_identity row ++ json_counts row.account ++ json_waiting row ++ json_bytes row ++ json_idle row

-- the objects of all sessions, each on a line, with commas between them
abbrev pub json_rows : List SessionRow → List ℕ
json_rows [] = []
json_rows (row ∷ rows) = codes "\n" ++ json_row row ++ flat_map (λ other. codes ",\n" ++ json_row other) rows

-- ---- what the run counted

-- the connections that got no session, the end of the array before them, and the frames of all sessions up to their faults
abbrev pub json_lost : RunCounts → List ℕ
json_lost c =
    codes "\n],\"counts\":{\"declined\":" ++ decimal c.declined ++ codes ",\"dropped\":" ++ decimal c.dropped
    ++ codes ",\"frames\":{\"faults\":" ++ decimal c.faults

-- the number of sessions that ended by a cause
unfoldable pub json_ended : EndCause → ℕ → List ℕ
json_ended cause count = codes "\"" ++ end_cause_name cause ++ codes "\":" ++ decimal count

-- each further cause comes after a comma
unfoldable pub json_further : EndCause → ℕ → List ℕ
json_further cause count = codes "," ++ json_ended cause count

-- the sessions that ended, by cause
abbrev pub json_ends : EndCounts → List ℕ
json_ends e =
    json_ended (Ended Bot) e.bot_ended ++ flat_map (λ cause. json_further cause (end_count cause e)) other_causes

-- the end of the array, what the run counted, and the end of the document
abbrev pub json_end : RunCounts → List ℕ
json_end c =
    json_lost c ++ json_counters c.bot c.server ++ codes "},\"ends\":{" ++ json_ends c.ends ++ codes "}}}\n"
