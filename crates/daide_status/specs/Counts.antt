-- What a run counts from its start on. Every number is modulo 2^64. (own)
use Rattle.std.specs.Prelude.{ℕ, ◌+◌, ◌%◌, ◌^◌, List, [], ◌∷◌, codes}
use Rattle.daide_frame.specs.declared.side.Side.TheVariants.{Bot, Server}
use Rattle.daide_protocol.specs.declared.account.Account.{Account}
use Rattle.daide_protocol.specs.declared.account.SideCounts.{SideCounts}
use Rattle.daide_protocol.specs.Account.{no_frames}
use Rattle.daide_status.specs.declared.counts.EndCause.{EndCause}
use Rattle.daide_status.specs.declared.counts.EndCause.TheVariants.{Ended, Lost, Final, Error, Fault, NoIm, Stopped, Silent, Stalled, Refused, TurnsSpent, NoServer}
use Rattle.daide_status.specs.declared.counts.EndCounts.{EndCounts}
use Rattle.daide_status.specs.declared.counts.RunCounts.{RunCounts}
use Rattle.daide_status.specs.declared.snapshot.SessionRow.{SessionRow}

-- a count with a further one
abbrev pub count_sum : ℕ → ℕ → ℕ
count_sum count more = (count + more) % 2 ^ 64

-- ---- the causes

-- all causes but the first, and all causes, in the order in which texts have them
abbrev pub other_causes : List EndCause
other_causes =
    Ended Server ∷ Lost Bot ∷ Lost Server ∷ Final Bot ∷ Final Server ∷ Error Bot ∷ Error Server ∷ Fault Bot ∷ Fault Server
    ∷ NoIm ∷ Stopped ∷ Silent Bot ∷ Silent Server ∷ Stalled Bot ∷ Stalled Server ∷ Refused Bot ∷ Refused Server
    ∷ TurnsSpent ∷ NoServer ∷ []

abbrev pub all_causes : List EndCause
all_causes = Ended Bot ∷ other_causes

-- the name of a cause: that of the line `ended`, without what differs from session to session
abbrev pub end_cause_name : EndCause → List ℕ
end_cause_name (Ended Bot) = codes "bot ended"
end_cause_name (Ended Server) = codes "server ended"
end_cause_name (Lost Bot) = codes "bot lost"
end_cause_name (Lost Server) = codes "server lost"
end_cause_name (Final Bot) = codes "FM of bot"
end_cause_name (Final Server) = codes "FM of server"
end_cause_name (Error Bot) = codes "EM of bot"
end_cause_name (Error Server) = codes "EM of server"
end_cause_name (Fault Bot) = codes "fault of bot"
end_cause_name (Fault Server) = codes "fault of server"
end_cause_name NoIm = codes "no IM in time"
end_cause_name Stopped = codes "stopped by the operator"
end_cause_name (Silent Bot) = codes "bot silent"
end_cause_name (Silent Server) = codes "server silent"
end_cause_name (Stalled Bot) = codes "bot took nothing"
end_cause_name (Stalled Server) = codes "server took nothing"
end_cause_name (Refused Bot) = codes "too many refusals of bot"
end_cause_name (Refused Server) = codes "too many refusals of server"
end_cause_name TurnsSpent = codes "turns spent"
end_cause_name NoServer = codes "no server"

-- ---- how often each came

abbrev pub no_ends : EndCounts
no_ends = record {
  bot_ended = 0;
  server_ended = 0;
  bot_lost = 0;
  server_lost = 0;
  bot_final = 0;
  server_final = 0;
  bot_error = 0;
  server_error = 0;
  bot_fault = 0;
  server_fault = 0;
  no_im = 0;
  stopped = 0;
  bot_silent = 0;
  server_silent = 0;
  bot_stalled = 0;
  server_stalled = 0;
  bot_refused = 0;
  server_refused = 0;
  turns_spent = 0;
  no_server = 0;
}

-- the number of sessions that ended by a cause
abbrev pub end_count : EndCause → EndCounts → ℕ
end_count (Ended Bot) e = e.bot_ended
end_count (Ended Server) e = e.server_ended
end_count (Lost Bot) e = e.bot_lost
end_count (Lost Server) e = e.server_lost
end_count (Final Bot) e = e.bot_final
end_count (Final Server) e = e.server_final
end_count (Error Bot) e = e.bot_error
end_count (Error Server) e = e.server_error
end_count (Fault Bot) e = e.bot_fault
end_count (Fault Server) e = e.server_fault
end_count NoIm e = e.no_im
end_count Stopped e = e.stopped
end_count (Silent Bot) e = e.bot_silent
end_count (Silent Server) e = e.server_silent
end_count (Stalled Bot) e = e.bot_stalled
end_count (Stalled Server) e = e.server_stalled
end_count (Refused Bot) e = e.bot_refused
end_count (Refused Server) e = e.server_refused
end_count TurnsSpent e = e.turns_spent
end_count NoServer e = e.no_server

-- after one more session that ended by a cause
abbrev pub end_counted : EndCause → EndCounts → EndCounts
end_counted (Ended Bot) e = record e { bot_ended = count_sum e.bot_ended 1 }
end_counted (Ended Server) e = record e { server_ended = count_sum e.server_ended 1 }
end_counted (Lost Bot) e = record e { bot_lost = count_sum e.bot_lost 1 }
end_counted (Lost Server) e = record e { server_lost = count_sum e.server_lost 1 }
end_counted (Final Bot) e = record e { bot_final = count_sum e.bot_final 1 }
end_counted (Final Server) e = record e { server_final = count_sum e.server_final 1 }
end_counted (Error Bot) e = record e { bot_error = count_sum e.bot_error 1 }
end_counted (Error Server) e = record e { server_error = count_sum e.server_error 1 }
end_counted (Fault Bot) e = record e { bot_fault = count_sum e.bot_fault 1 }
end_counted (Fault Server) e = record e { server_fault = count_sum e.server_fault 1 }
end_counted NoIm e = record e { no_im = count_sum e.no_im 1 }
end_counted Stopped e = record e { stopped = count_sum e.stopped 1 }
end_counted (Silent Bot) e = record e { bot_silent = count_sum e.bot_silent 1 }
end_counted (Silent Server) e = record e { server_silent = count_sum e.server_silent 1 }
end_counted (Stalled Bot) e = record e { bot_stalled = count_sum e.bot_stalled 1 }
end_counted (Stalled Server) e = record e { server_stalled = count_sum e.server_stalled 1 }
end_counted (Refused Bot) e = record e { bot_refused = count_sum e.bot_refused 1 }
end_counted (Refused Server) e = record e { server_refused = count_sum e.server_refused 1 }
end_counted TurnsSpent e = record e { turns_spent = count_sum e.turns_spent 1 }
end_counted NoServer e = record e { no_server = count_sum e.no_server 1 }

-- ---- frames

-- the counts of a side with further ones
abbrev pub side_sum : SideCounts → SideCounts → SideCounts
side_sum c more = record {
  relayed = count_sum c.relayed more.relayed;
  prn = count_sum c.prn more.prn;
  huh = count_sum c.huh more.huh;
}

-- ---- the counts of a run

abbrev pub no_counts : RunCounts
no_counts = record {
  bot = no_frames;
  server = no_frames;
  faults = 0;
  ends = no_ends;
  declined = 0;
  dropped = 0;
}

-- with the frames and the faults of a session
abbrev pub session_counted : Account → RunCounts → RunCounts
session_counted account c = record c {
  bot = side_sum c.bot account.bot;
  server = side_sum c.server account.server;
  faults = count_sum c.faults account.faults;
}

-- after one more session that ended by a cause
abbrev pub ending_counted : EndCause → RunCounts → RunCounts
ending_counted cause c = record c { ends = end_counted cause c.ends }

-- after one more connection of a bot that may not come, and after one more that the system could not follow
abbrev pub declined_counted : RunCounts → RunCounts
declined_counted c = record c { declined = count_sum c.declined 1 }

abbrev pub dropped_counted : RunCounts → RunCounts
dropped_counted c = record c { dropped = count_sum c.dropped 1 }

-- ---- with the sessions that are present

-- with the frames and the faults of a session that is present
abbrev pub row_counted : SessionRow → RunCounts → RunCounts
row_counted row c = session_counted row.account c

-- the counts of a run with those of these sessions
abbrev pub totals_of : List SessionRow → RunCounts → RunCounts
totals_of [] c = c
totals_of (row ∷ rows) c = totals_of rows (row_counted row c)
