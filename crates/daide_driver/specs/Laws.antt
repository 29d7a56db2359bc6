-- Laws about all traces of port calls.
use Rattle.std.specs.Prelude.{List, [], ◌++◌}
use Rattle.daide_protocol.specs.Machine.{Limits}
use Rattle.daide_protocol.specs.Wires.{SessionView, IsNew}
use Rattle.daide_io.specs.Ports.{PortCall}
use Rattle.daide_driver.specs.Record.{EvolveTogether}
use Rattle.daide_driver.specs.Headline.{untouched}
use Rattle.daide_driver.specs.Totals.{RefinesRun}
use Rattle.daide_driver.specs.Whole.{HasHeadline}

-- the traces of two calls, one after the other, join to the trace of one call
abbrev pub RelaysJoin : Type 0
RelaysJoin = (a b c : SessionView) (first second : List PortCall) →
    RefinesRun a first b → RefinesRun b second c → RefinesRun a (first ++ second) c

-- a new session is reachable (`sends`), before its first port call, and has counted nothing
abbrev pub NewSessionsAreReachable : Type 0
NewSessionsAreReachable = (limits : Limits) (g : SessionView) → IsNew limits g → RefinesRun (untouched limits) [] g

-- relaying twice is relaying once, by the joined traces
abbrev pub HeadlinesJoin : {P : Type 0} → (P → PortCall → P → Type 0) → Type 0
HeadlinesJoin {P} transition = (a b c : SessionView × P) →
    EvolveTogether transition HasHeadline a b → EvolveTogether transition HasHeadline b c →
    EvolveTogether transition HasHeadline a c
