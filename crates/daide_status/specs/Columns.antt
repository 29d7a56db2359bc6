-- The status of a run as a table: a line of the run, one of the server and one of what ended, the names of the columns, and
-- a line for each session. (own)
use Rattle.std.specs.Prelude.{ℕ, ◌+◌, ◌++◌, ◌==◌, if◌then◌else◌, List, [], Option, Some, None, codes}
use Rattle.std.specs.List.{flat_map}
use Rattle.std.specs.Fmt.{decimal}
use Rattle.std.specs.Net.Text.{socket_text}
use Rattle.daide_grammar.specs.declared.level.Level.{Level}
use Rattle.daide_grammar.specs.declared.level.Level.TheVariants.{L0, L10, L20, L30, L40, L50, L60}
use Rattle.daide_protocol.specs.declared.account.SideCounts.{SideCounts}
use Rattle.daide_protocol.specs.declared.bot_name.BotName.{BotName}
use Rattle.daide_protocol.specs.declared.bot_name.BotName.TheVariants.{Unknown, Nme, Iam}
use Rattle.daide_protocol.specs.declared.account.Counter.{Counter}
use Rattle.daide_protocol.specs.declared.account.Counter.TheVariants.{Relayed, Prn, Huh}
use Rattle.daide_protocol.specs.Account.{all_counters, side_count}
use Rattle.daide_protocol.specs.declared.power.Power.{Power}
use Rattle.daide_protocol.specs.BotName.{name_text}
use Rattle.daide_protocol.specs.Power.{power_text}
use Rattle.daide_protocol.specs.declared.phase.Phase.{Phase}
use Rattle.daide_protocol.specs.declared.phase.Phase.TheVariants.{WaitIm, WaitRm, Open, Over}
use Rattle.daide_status.specs.declared.counts.EndCause.{EndCause}
use Rattle.daide_status.specs.declared.counts.EndCounts.{EndCounts}
use Rattle.daide_status.specs.declared.counts.RunCounts.{RunCounts}
use Rattle.daide_status.specs.declared.snapshot.RunStatus.{RunStatus}
use Rattle.daide_status.specs.declared.snapshot.ServerStatus.{ServerStatus}
use Rattle.daide_status.specs.declared.snapshot.SessionRow.{SessionRow}
use Rattle.daide_status.specs.Counts.{all_causes, end_cause_name, end_count}
use Rattle.daide_status.specs.Pieces.{cell, number_or_dash, server_state_name, text_if}

-- the phase of an open session with its level, in a column of seven bytes
abbrev pub open_cell : Level → List ℕ
open_cell L0 = codes "open 0 "
open_cell L10 = codes "open 10"
open_cell L20 = codes "open 20"
open_cell L30 = codes "open 30"
open_cell L40 = codes "open 40"
open_cell L50 = codes "open 50"
open_cell L60 = codes "open 60"

-- the phase in a column of seven bytes
abbrev pub phase_cell : Phase → Level → List ℕ
phase_cell WaitIm level = codes "wait IM"
phase_cell WaitRm level = codes "wait RM"
phase_cell Open level = open_cell level
phase_cell Over level = codes "over   "

-- the numbers of the run
abbrev pub totals : RunStatus → List ℕ
totals run =
    decimal run.open ++ codes " open, " ++ decimal run.connecting ++ codes " connecting, " ++ decimal run.served
    ++ codes " served, " ++ decimal run.unreached ++ codes " unreached, up " ++ decimal run.seconds ++ codes " s"

-- the line of the run
abbrev pub run_line : RunStatus → List ℕ
run_line run =
    totals run ++ text_if run.has_waiting (codes "; bots may wait for a place") ++ text_if run.is_stopping (codes "; stopping")
    ++ codes "\n"

-- the line of the server
abbrev pub server_line : ServerStatus → List ℕ
server_line server =
    codes "server " ++ server_state_name server.state ++ codes " for " ++ decimal server.seconds ++ codes " s, "
    ++ decimal server.unreached ++ codes " unreached since\n"

-- the number of sessions that ended by a cause, before the cause; nothing if there is none
abbrev pub ended_item : EndCause → ℕ → List ℕ
ended_item cause count = if count == 0 then [] else codes ", " ++ decimal count ++ codes " " ++ end_cause_name cause

abbrev pub ended_items : EndCounts → List ℕ
ended_items ends = flat_map (λ cause. ended_item cause (end_count cause ends)) all_causes

-- the connections that got no session
abbrev pub no_sessions : RunCounts → List ℕ
no_sessions c = codes "ended: " ++ decimal c.declined ++ codes " declined, " ++ decimal c.dropped ++ codes " dropped"

-- the line of what ended: connections that got no session, and sessions by cause
abbrev pub ended_line : RunCounts → List ℕ
ended_line c = no_sessions c ++ ended_items c.ends ++ codes "\n"

-- the names of the columns, in two lines
abbrev pub column_names : List ℕ
column_names =
    codes "                   from bot   from server     bytes for  bot\n"
    ++ codes "   no phase   relay PRN HUH relay PRN HUH    bot server idle bot, its name and its power\n"

-- the lines before the first session
abbrev pub table_head : RunStatus → List ℕ
table_head run = run_line run ++ server_line run.server ++ ended_line run.counts ++ column_names

-- the width of the column of a counter
abbrev pub counter_width : Counter → ℕ
counter_width Relayed = 5
counter_width Prn = 3
counter_width Huh = 3

-- the counts of a side, each in its column
abbrev pub side_cells : SideCounts → List ℕ
side_cells c = flat_map (λ counter. cell (counter_width counter) (decimal (side_count counter c))) all_counters

-- the name of a bot after its address; nothing if the bot has said none
abbrev pub name_cell : BotName → List ℕ
name_cell Unknown = []
name_cell (Nme text) = codes " " ++ name_text (Nme text)
name_cell (Iam power) = codes " " ++ name_text (Iam power)

-- the power of a bot after its name; nothing if the server has said none
abbrev pub power_cell : Option Power → List ℕ
power_cell None = []
power_cell (Some power) = codes " " ++ power_text power

-- the bot of a session, and the end of its line
abbrev pub bot_cells : SessionRow → List ℕ
bot_cells row =
    codes " " ++ socket_text row.bot ++ name_cell row.account.name ++ power_cell row.account.power ++ codes "\n"

-- the number of a session and its phase
abbrev pub session_cells : SessionRow → List ℕ
session_cells row = cell 4 (decimal row.number) ++ codes " " ++ phase_cell row.phase row.level

-- the bytes that wait for each side, in the session's queue and in the side's socket, and the seconds since the bot's
-- last byte
abbrev pub waiting_cells : SessionRow → List ℕ
waiting_cells row =
    cell 6 (decimal (row.queued_to_bot + row.buffered_to_bot))
    ++ cell 6 (decimal (row.queued_to_server + row.buffered_to_server)) ++ number_or_dash 4 row.bot_idle

-- the line of a session
abbrev pub table_row : SessionRow → List ℕ
table_row row =
    session_cells row ++ side_cells row.account.bot ++ side_cells row.account.server ++ waiting_cells row ++ bot_cells row
