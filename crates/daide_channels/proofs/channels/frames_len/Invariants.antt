use Rattle.daide_channels.proofs.Common.{◌≡◌, ◌*◌, ◌≤◌, take, sum_by}
use Rattle.daide_channels.specs.Channels.{answer_at}
use Rattle.daide_channels.proofs.QueuedLemmas.{len_in}
use Rattle.daide_channels.proofs.channels.frames_len.Given as goal

-- the lengths of the frames so far, each within its bound
abbrev pub invariant-loop-frame : goal.invariant-loop-frame
invariant-loop-frame g l = record {
  sum : l.total ≡ sum_by (len_in (answer_at l.receivers)) (take l.frame-index l.frames);
  small : l.total ≤ l.frame-index * 65538;
}
