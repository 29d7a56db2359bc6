-- The main theorem: whatever bytes the two sides send, in whatever pieces and order, a session keeps in each direction
-- at most one message's announced length, capped, and eight stack entries for each open bracket plus sixteen, with 64
-- further entries in all, takes at most four table steps a token and four more a message, and sends exactly the
-- grammar's answers. What a session counts is beside it, in Totals.
use Rattle.std.specs.Prelude.{◌≡◌, true, false, List, [], ◌++◌}
use Rattle.daide_frame.specs.declared.side.Side.{Side}
use Rattle.daide_frame.specs.PerSide.{both}
use Rattle.daide_protocol.specs.Machine.{Limits, initial_state}
use Rattle.daide_protocol.specs.Account.{nothing_accounted}
use Rattle.daide_protocol.specs.Wires.{SessionView, Holding, sent_to, sent_bytes, is_closed}
use Rattle.daide_session.specs.Bounds.{IsWithinBounds}
use Rattle.daide_io.specs.Ports.{PortCall, taken, has_failed}
use Rattle.daide_driver.specs.Record.{DeliversOutput}

-- ---- reachable sessions

-- the held state of an untouched side
abbrev pub nothing_held : Holding
nothing_held = record { frame_bytes = []; entries = 0; total = 0; total_before = 0; looked_at = 0 }

-- a session that has received nothing
abbrev pub untouched : Limits → SessionView
untouched limits = record {
  state = initial_state limits;
  wires = both [] [];
  parts = both [] [];
  sides = both nothing_held nothing_held;
  account = nothing_accounted;
}

-- A run from the opening leads to this session, by its port calls since it was created. Its state is the machine's. The
-- bytes accepted and the bytes queued are the machine's output.
abbrev pub IsReachable : Limits → List PortCall → SessionView → Type 0
IsReachable limits history g = DeliversOutput (untouched limits) history g

-- ---- the headline

-- the properties of a session after all its port calls since it was created
pub record IsBoundedAndExact (limits : Limits) (history : List PortCall) (g : SessionView) : Type 0 where
  -- it keeps in each direction at most one message's announced length, capped, and eight stack entries for each open
  -- bracket plus sixteen, with 64 further entries in all, takes at most four table steps a token and four a message,
  pub bounds : IsWithinBounds g
  -- and sends exactly the grammar's answers: the bytes that each wire accepted are a front of them, and, unless the
  -- wire failed, the queued bytes are the rest
  pub sends : IsReachable limits history g
  -- so once the session is closed, each wire has accepted all of them, unless it failed
  pub all_sent : is_closed g ≡ true → (side : Side) → has_failed side history ≡ false →
      taken side history ≡ sent_bytes (sent_to side sends.effects)

-- Whatever the ports return in a call, and whatever they returned before: if the session was reachable by the history,
-- it is bounded and exact by history and call.
abbrev pub Headline : SessionView → List PortCall → SessionView → Type 0
Headline old call new = (limits : Limits) (history : List PortCall) →
    IsReachable limits history old → IsBoundedAndExact limits (history ++ call) new
