-- What the connects of a run showed of its server. (own)
use Rattle.std.specs.Prelude.{ℕ, ◌+◌, min, Option}
use Rattle.std.specs.declared.time.Instant.{Instant}
use Rattle.daide_status.specs.Counts.{count_sum}
use Rattle.daide_status.specs.declared.snapshot.ServerState.{ServerState}
use Rattle.daide_status.specs.declared.snapshot.ServerState.TheVariants.{Untried, Up, Away}
use Rattle.daide_status.specs.declared.snapshot.ServerStatus.{ServerStatus}
use Rattle.daide_sockets.specs.Snapshot.{seconds_between, or_zero}
use Rattle.daide_sockets.specs.declared.server_state.KnownServer.{KnownServer}

-- no connect came to an end, since this reading of the clock
abbrev pub untried_at : Option Instant → KnownServer
untried_at now = record { state = Untried; since = now; unreached = 0 }

-- The server was reached. It is up since the first connect that showed it.
abbrev pub reached_from : ServerState → Option Instant → KnownServer → KnownServer
reached_from Up now known = known
reached_from Untried now known = record { state = Up; since = now; unreached = 0 }
reached_from Away now known = record { state = Up; since = now; unreached = 0 }

abbrev pub reached_at : Option Instant → KnownServer → KnownServer
reached_at now known = reached_from known.state now known

-- The server could not be reached. It is away since the first connect that showed it, and each bot since then counts.
abbrev pub away_from : ServerState → Option Instant → KnownServer → KnownServer
away_from Away now known = record { state = Away; since = known.since; unreached = count_sum known.unreached 1 }
away_from Untried now known = record { state = Away; since = now; unreached = 1 }
away_from Up now known = record { state = Away; since = now; unreached = 1 }

abbrev pub away_at : Option Instant → KnownServer → KnownServer
away_at now known = away_from known.state now known

-- the number of bots for which the server could not be reached, after one more, in 32 bits
abbrev pub one_more_unreached : ℕ → ℕ
one_more_unreached unreached = min (unreached + 1) 4294967295

-- what a status shows of it
abbrev pub server_shown : Option Instant → KnownServer → ServerStatus
server_shown now known = record {
  state = known.state;
  seconds = or_zero (seconds_between known.since now);
  unreached = known.unreached;
}
