-- Why a session is stopped by its run: the operator requested it, or too many messages of a side were refused. (own)
use Rattle.std.specs.Prelude.{ℕ, ◌+◌, ◌&&◌, ◌||◌, not, nat_le, nat_lt, Bool, true, false, Option, Some, None, if◌then◌else◌}
use Rattle.daide_frame.specs.declared.side.Side.{Side}
use Rattle.daide_frame.specs.declared.side.Side.TheVariants.{Bot, Server}
use Rattle.daide_protocol.specs.declared.account.Account.{Account}
use Rattle.daide_protocol.specs.declared.account.SideCounts.{SideCounts}
use Rattle.daide_sockets.specs.ControlSlots.{ends_session, ends_some}
use Rattle.daide_sockets.specs.Pairing.{Arriving}
use Rattle.daide_sockets.specs.declared.control.Control.{Control}
use Rattle.daide_sockets.specs.declared.ports.StopCause.{StopCause}
use Rattle.daide_sockets.specs.declared.ports.StopCause.TheVariants.{Operator, Refusals}

-- ---- the operator

-- the operator requested the stop of all sessions, or of the one with this number
abbrev pub is_stop_requested : {S : Type 0} → Control S → ℕ → Bool
is_stop_requested control number = control.stops_now || ends_session control number

-- the same for the session of a bot whose connect is pending, if there is one
abbrev pub is_connect_stopped : {S : Type 0} → Control S → Option (Arriving S) → Bool
is_connect_stopped control None = control.stops_now
is_connect_stopped control (Some arrival) = is_stop_requested control arrival.identity.number

-- a stop of all sessions begins, or the end of one is ordered
abbrev pub stop_begins : {S : Type 0} → Control S → Bool → Bool
stop_begins control was_stopped = (control.stops_now && not was_stopped) || ends_some control

-- ---- refused messages

-- as many messages of a side were refused, with PRN or with HUH, as may be; 0 is no limit
abbrev pub is_refused_often : ℕ → SideCounts → Bool
is_refused_often most counts = nat_lt 0 most && nat_le most (counts.prn + counts.huh)

-- the side of which that is so, the bot first
abbrev pub refused_side : ℕ → Account → Option Side
refused_side most account =
    if is_refused_often most account.bot then Some Bot
    else if is_refused_often most account.server then Some Server
    else None

abbrev pub for_refusals : Option Side → Option StopCause
for_refusals None = None
for_refusals (Some side) = Some (Refusals side)

-- ---- one session

-- Why a session with this account is stopped when its turn begins: the operator requested that, or too many messages were
-- refused.
abbrev pub stop_due : Bool → ℕ → Account → Option StopCause
stop_due is_requested most account =
    if is_requested then Some Operator else for_refusals (refused_side most account)

-- a session is stopped once: the first cause stays
abbrev pub first_stop : Option StopCause → Option StopCause → Option StopCause
first_stop None due = due
first_stop (Some cause) due = Some cause
