use Rattle.daide_sockets.proofs.TableLemmas.{AreWoken}
use Rattle.daide_sockets.proofs.table.wake_late.Given as goal

-- those passed are woken if they are late
abbrev pub invariant-loop-place : goal.invariant-loop-place
invariant-loop-place g l = AreWoken l.now l.place l.initial.deadlines l.initial.ready l.deadlines l.ready l.nearest
