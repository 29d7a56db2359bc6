-- The report of a session's end, and of the timeout that caused it, and the line of each notice. (own)
use Rattle.std.specs.Prelude.{◌≡◌, ◌⊎◌, ℕ, ◌-◌, ◌/◌, ◌%◌, ◌++◌, Bool, true, false, List, [], codes, Option, Some, None, if◌then◌else◌}
use Rattle.std.specs.Fmt.{decimal}
use Rattle.std.specs.Io.KnownBytes.{Appends}
use Rattle.std.specs.Net.Text.{socket_text}
use Rattle.std.specs.Time.{instant_nanos}
use Rattle.std.specs.declared.time.Instant.{Instant}
use Rattle.daide_frame.specs.Code.{code_number}
use Rattle.daide_frame.specs.declared.code.Code.TheVariants.{ImTimeout}
use Rattle.daide_frame.specs.declared.side.Side.{Side}
use Rattle.daide_frame.specs.declared.side.Side.TheVariants as Sides
use Rattle.daide_frame.specs.PerSide.{PerSide, at}
use Rattle.daide_protocol.specs.AccountText.{account_text}
use Rattle.daide_protocol.specs.declared.ending.Ending.{Ending}
use Rattle.daide_protocol.specs.declared.ending.Ending.TheVariants.{Ended, Lost, Final, Error, Fault, Stopped}
use Rattle.daide_io.specs.FaultField.{cause_text, padded_hex}
use Rattle.daide_io.specs.declared.fault_field.FaultField.{FaultField}
use Rattle.daide_io.specs.declared.system.Cause.{Cause}
use Rattle.daide_io.specs.declared.system.Cause.TheVariants as Causes
use Rattle.daide_io.specs.declared.system.SessionEnd.{SessionEnd}
use Rattle.daide_protocol.specs.declared.account.Account.{Account}
use Rattle.daide_status.specs.Counts.{declined_counted, dropped_counted}
use Rattle.daide_status.specs.declared.counts.EndCause.{EndCause}
use Rattle.daide_status.specs.declared.counts.EndCause.TheVariants as EndCauses
use Rattle.daide_status.specs.declared.counts.RunCounts.{RunCounts}
use Rattle.daide_sockets.specs.declared.admission.NoBot.{NoBot}
use Rattle.daide_sockets.specs.declared.admission.NoBot.TheVariants.{NoneCame, MayNotCome, NotFollowed}
use Rattle.daide_sockets.specs.declared.ports.StopCause.{StopCause}
use Rattle.daide_sockets.specs.declared.ports.StopCause.TheVariants.{Refusals}
use Rattle.daide_sockets.specs.declared.present.Bot.{Bot}
use Rattle.daide_sockets.specs.declared.session_notice.Lasted.{Lasted}
use Rattle.daide_sockets.specs.declared.session_notice.SessionNotice.{SessionNotice}
use Rattle.daide_sockets.specs.declared.session_notice.SessionNotice.TheVariants as Notices
use Rattle.daide_sockets.specs.declared.session_notice.Why.{Why}
use Rattle.daide_sockets.specs.declared.session_notice.Why.TheVariants as Whys
use Rattle.daide_sockets.specs.declared.socket.Socket.{Socket}
use Rattle.daide_sockets.specs.declared.timed.Timed.{Timed}

-- a side that ended is reported as silent or stalled if it counts as ended for that
abbrev pub why_ended : Side → Timed → ℕ → Why
why_ended side timed seconds =
    if timed.is_silent then Whys.Silent side
    else if timed.ends_stalled then Whys.Stalled side seconds
    else Whys.Ended (Causes.Session (Ended side)) None

-- a lost side is reported as stalled if its writes fail for that
abbrev pub why_lost : Side → Timed → ℕ → Why
why_lost side timed seconds =
    if timed.is_stalled then Whys.Stalled side seconds else Whys.Ended (Causes.Session (Lost side)) None

-- a stopped session is reported with the side whose messages were refused too often, if it was stopped for that
abbrev pub why_stopped : Option StopCause → Why
why_stopped (Some (Refusals side)) = Whys.Refused side
why_stopped other = Whys.Ended (Causes.Session Stopped) None

-- Any other cause is reported as it is, and a fault with the field that it is about. `seconds` is the stall timeout.
abbrev pub why_by : Cause → Option FaultField → PerSide Timed → Option StopCause → ℕ → Why
why_by Causes.TurnsSpent field timed stop seconds = Whys.Ended Causes.TurnsSpent None
why_by (Causes.Session (Ended side)) field timed stop seconds = why_ended side (at timed side) seconds
why_by (Causes.Session (Lost side)) field timed stop seconds = why_lost side (at timed side) seconds
why_by (Causes.Session (Final side)) field timed stop seconds = Whys.Ended (Causes.Session (Final side)) None
why_by (Causes.Session (Error side)) field timed stop seconds = Whys.Ended (Causes.Session (Error side)) None
why_by (Causes.Session (Fault side code)) field timed stop seconds = Whys.Ended (Causes.Session (Fault side code)) field
why_by (Causes.Session Stopped) field timed stop seconds = why_stopped stop

-- the whole milliseconds from one moment until another; none without one of them
abbrev pub milliseconds_between : Option Instant → Option Instant → Option ℕ
milliseconds_between None later = None
milliseconds_between (Some moment) None = None
milliseconds_between (Some moment) (Some later) = Some ((instant_nanos later - instant_nanos moment) / 1000000)

-- ---- the line of a notice

-- a side's name
abbrev pub side_name : Side → List ℕ
side_name Sides.Bot = codes "bot"
side_name Sides.Server = codes "server"

-- the time in seconds with one digit after the point; nothing without a clock
abbrev pub lasted_text : Option ℕ → List ℕ
lasted_text None = []
lasted_text (Some time) =
    codes " after " ++ decimal (time / 1000) ++ codes "." ++ decimal (time % 1000 / 100) ++ codes " s"

-- the event that ended a session: `fault 0E of bot: invalid token 6000 at byte 6`
abbrev pub ending_text : Ending → Option FaultField → List ℕ
ending_text (Ended side) field = side_name side ++ codes " ended"
ending_text (Lost side) field = side_name side ++ codes " lost"
ending_text (Final side) field = codes "FM of " ++ side_name side
ending_text (Error side) field = codes "EM of " ++ side_name side
ending_text (Fault side ImTimeout) field = codes "no IM in time"
ending_text (Fault side code) field = codes "fault " ++ padded_hex 2 (code_number code) ++ codes " of " ++ side_name side
    ++ codes ": " ++ cause_text code field
ending_text Stopped field = codes "stopped by the operator"

-- why a session is over
abbrev pub why_text : Why → List ℕ
why_text (Whys.Ended (Causes.Session ending) field) = ending_text ending field
why_text (Whys.Ended Causes.TurnsSpent field) = codes "turns spent"
why_text (Whys.Silent side) = side_name side ++ codes " silent"
why_text (Whys.Stalled side seconds) = side_name side ++ codes " took nothing for " ++ decimal seconds ++ codes " s"
why_text (Whys.Refused side) = codes "too many refusals of " ++ side_name side
why_text Whys.NoServer = codes "no server"

abbrev pub notice_text : SessionNotice → List ℕ
notice_text (Notices.Began number bot) =
    codes "session " ++ (decimal number ++ (codes " began: bot at " ++ socket_text bot))
notice_text (Notices.Declined bot) = codes "bot at " ++ socket_text bot ++ codes " may not come"
notice_text (Notices.Dropped bot) =
    codes "bot at " ++ socket_text bot ++ codes " is dropped: the system cannot follow its connection"
notice_text (Notices.Reached number own) =
    codes "session " ++ (decimal number ++ (codes " reached the server from " ++ socket_text own))
notice_text (Notices.Ended number lasted why account) = codes "session " ++ decimal number ++ codes " ended"
    ++ lasted_text lasted.milliseconds ++ codes ": " ++ why_text why ++ codes "; " ++ account_text account

-- the whole line of a notice
abbrev pub line_of : SessionNotice → List ℕ
line_of notice = codes "daide-gate: " ++ notice_text notice ++ codes "\n"

-- With lines of sessions, the line of a notice was written, or that write failed. Without them nothing was written.
abbrev pub Logs : {E : Type 0} → (E → Option (List ℕ)) → (E → E → Type 0) → Bool → SessionNotice → E → E → Type 0
Logs contents Fails true notice old new = Appends (contents old) (contents new) (line_of notice) ⊎ Fails old new
Logs contents Fails false notice old new = new ≡ old

-- The line of the bot that was accepted and closed at once, with why. If none came, nothing was written.
abbrev pub LogsNoBot : {E : Type 0} → (E → Option (List ℕ)) → (E → E → Type 0) → Bool → NoBot → E → E → Type 0
LogsNoBot contents Fails is_verbose NoneCame old new = new ≡ old
LogsNoBot contents Fails is_verbose (MayNotCome bot) old new = Logs contents Fails is_verbose (Notices.Declined bot) old new
LogsNoBot contents Fails is_verbose (NotFollowed bot) old new = Logs contents Fails is_verbose (Notices.Dropped bot) old new

-- the time of a bot's session until this reading of the clock
abbrev pub lasted_until : Bot → Option Instant → Lasted
lasted_until bot now = record { milliseconds = milliseconds_between bot.since now }

-- the notice of a bot's session that is over for this reason, with this account
abbrev pub end_notice : Bot → Option Instant → Why → Account → SessionNotice
end_notice bot now why account = Notices.Ended bot.number (lasted_until bot now) why account

-- the timeouts that the sockets of a session reported
abbrev pub timed_of : {S : Type 0} → PerSide (Socket S) → PerSide Timed
timed_of sides = record { bot = sides.bot.timed; server = sides.server.timed }

-- why a session is over whose sockets reported these timeouts, and that was stopped for this, if it was
abbrev pub why_retired : SessionEnd → PerSide Timed → Option StopCause → ℕ → Why
why_retired end timed stop stall_seconds = why_by end.cause end.fault_field timed stop stall_seconds

-- why a session is over whose server was not reached: since sessions are to end now, or not
abbrev pub why_unreached : Bool → Why
why_unreached true = Whys.Ended (Causes.Session Stopped) None
why_unreached false = Whys.NoServer

-- ---- counts

-- the cause by which a session is counted that an event ended
abbrev pub ending_cause : Ending → EndCause
ending_cause (Ended side) = EndCauses.Ended side
ending_cause (Lost side) = EndCauses.Lost side
ending_cause (Final side) = EndCauses.Final side
ending_cause (Error side) = EndCauses.Error side
ending_cause (Fault side ImTimeout) = EndCauses.NoIm
ending_cause (Fault side code) = EndCauses.Fault side
ending_cause Stopped = EndCauses.Stopped

-- the cause by which a session is counted that is over for this reason
abbrev pub end_cause_of : Why → EndCause
end_cause_of (Whys.Ended Causes.TurnsSpent field) = EndCauses.TurnsSpent
end_cause_of (Whys.Ended (Causes.Session ending) field) = ending_cause ending
end_cause_of (Whys.Silent side) = EndCauses.Silent side
end_cause_of (Whys.Stalled side seconds) = EndCauses.Stalled side
end_cause_of (Whys.Refused side) = EndCauses.Refused side
end_cause_of Whys.NoServer = EndCauses.NoServer

-- the counts of a run after an accept that brought no bot, for this reason
abbrev pub no_bot_counted : NoBot → RunCounts → RunCounts
no_bot_counted NoneCame counts = counts
no_bot_counted (MayNotCome bot) counts = declined_counted counts
no_bot_counted (NotFollowed bot) counts = dropped_counted counts
