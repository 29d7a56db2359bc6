use Rattle.std.proofs.Common.{take}
use Rattle.daide_io.specs.System.{TransitsBy}
use Rattle.daide_event_loop.specs.Serving.{shows}
use Rattle.daide_event_loop.proofs.serving.show_sessions.Given as goal

-- the sessions at the places before this one are shown
abbrev pub invariant-loop-place : goal.invariant-loop-place
invariant-loop-place g l = TransitsBy g.S.System.transition l.initial.system (shows (take l.place l.slab.places)) l.system
