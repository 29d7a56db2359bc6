-- What a status shows of a run and of its sessions. (own)
use Rattle.std.specs.Prelude.{◌≡◌, ℕ, ◌-◌, ◌/◌, min, Bool, length, Option, Some, None}
use Rattle.std.specs.Time.{instant_nanos}
use Rattle.std.specs.declared.time.Instant.{Instant}
use Rattle.daide_frame.specs.PerSide.{PerSide}
use Rattle.daide_io.specs.declared.system.SessionStatus.{SessionStatus}
use Rattle.daide_status.specs.declared.counts.RunCounts.{RunCounts}
use Rattle.daide_status.specs.declared.snapshot.RunStatus.{RunStatus}
use Rattle.daide_status.specs.declared.snapshot.ServerStatus.{ServerStatus}
use Rattle.daide_status.specs.declared.snapshot.SessionRow.{SessionRow}
use Rattle.daide_sockets.specs.declared.present.Bot.{Bot}
use Rattle.daide_sockets.specs.declared.socket.Socket.{Socket}

-- a number of bots, in 32 bits
abbrev pub counted : ℕ → ℕ
counted count = min count 4294967295

-- the whole seconds from one moment until another; none without one of them
abbrev pub seconds_between : Option Instant → Option Instant → Option ℕ
seconds_between None later = None
seconds_between (Some moment) None = None
seconds_between (Some moment) (Some later) = Some ((instant_nanos later - instant_nanos moment) / 1000000000)

abbrev pub or_zero : Option ℕ → ℕ
or_zero None = 0
or_zero (Some seconds) = seconds

-- The status of a run in which so many bots came: `present` of them are there, `pending` of which have a connect under way,
-- and the server could not be reached for `lost`. All others were served. What is known of the server, and the counts, are those of
-- the run.
pub record IsRunStatus (came present pending lost : ℕ) (waiting stopping : Bool) (seconds : ℕ) (server : ServerStatus)
    (counts : RunCounts) (run : RunStatus) : Type 0 where
  pub connecting : run.connecting ≡ counted pending
  pub in_session : run.open ≡ counted present - counted pending
  pub served : run.served ≡ (came - counted present) - lost
  pub unreached : run.unreached ≡ lost
  pub has_waiting : run.has_waiting ≡ waiting
  pub is_stopping : run.is_stopping ≡ stopping
  pub up : run.seconds ≡ seconds
  pub known : run.server ≡ server
  pub counted : run.counts ≡ counts

-- The row of the session of a bot: its number, the bot's address, its status, the bytes that the sockets of its bot and of the
-- server hold, and the seconds since the last byte of each at this reading of the clock.
pub record IsSessionRow {S : Type 0} (reading : Option Instant) (identity : Bot) (sockets : PerSide (Socket S))
    (shown : SessionStatus) (row : SessionRow) : Type 0 where
  pub number : row.number ≡ identity.number
  pub bot : row.bot ≡ identity.address
  pub phase : row.phase ≡ shown.phase
  pub level : row.level ≡ shown.level
  pub account : row.account ≡ shown.account
  pub queued_to_bot : row.queued_to_bot ≡ shown.queued_to_bot
  pub queued_to_server : row.queued_to_server ≡ shown.queued_to_server
  pub buffered_to_bot : row.buffered_to_bot ≡ length sockets.bot.stream.write_buffer
  pub buffered_to_server : row.buffered_to_server ≡ length sockets.server.stream.write_buffer
  pub received_from_bot : row.received_from_bot ≡ shown.bytes.from_bot
  pub received_from_server : row.received_from_server ≡ shown.bytes.from_server
  pub sent_to_bot : row.sent_to_bot ≡ shown.bytes.to_bot
  pub sent_to_server : row.sent_to_server ≡ shown.bytes.to_server
  pub bot_idle : row.bot_idle ≡ seconds_between sockets.bot.heard_at reading
  pub server_idle : row.server_idle ≡ seconds_between sockets.server.heard_at reading
