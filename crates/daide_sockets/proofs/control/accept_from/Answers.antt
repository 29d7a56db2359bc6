use Rattle.std.proofs.Common.{refl}
use Rattle.daide_io.specs.Network.{AcceptsControl, ChecksDescriptors, Follows}
use Rattle.daide_sockets.proofs.ControlLemmas.{listener_reported, listener_followed}
use Rattle.daide_sockets.proofs.KeptRowLemmas.{changes_none}
use Rattle.daide_sockets.proofs.NetworkCallLemmas.{both, none, one}
use Rattle.daide_sockets.specs.ControlSlots.{Fails, IsFollowed, IsRefused, LacksDescriptors}
use Rattle.daide_sockets.specs.Wakeups.{is_after_poll}
use Rattle.daide_sockets.proofs.control.accept_from.Goals as goal

pub returns-then-not-is_due-clause-table : goal.returns-then-not-is_due-clause-table
returns-then-not-is_due-clause-table g c = changes_none _ _ _ refl

pub returns-then-not-is_due-clause-calls : goal.returns-then-not-is_due-clause-calls
returns-then-not-is_due-clause-calls g c = none g.N.Network.transition is_after_poll _ _ refl

-- descriptors are missing
pub returns-in-Err-clause-made : goal.returns-in-Err-clause-made
returns-in-Err-clause-made g c = λ due. LacksDescriptors c.in-Err.error (rw c.in-Err.is at c.check_descriptors.ensures) refl

pub returns-in-Err-clause-calls : goal.returns-in-Err-clause-calls
returns-in-Err-clause-calls g c =
    one g.N.Network.transition is_after_poll _ _ (ChecksDescriptors 1 c.check_descriptors.result) refl c.check_descriptors.ensures

pub returns-in-Err-clause-table : goal.returns-in-Err-clause-table
returns-in-Err-clause-table g c = listener_reported _ _ _ c.control_key-own.ensures c.note_accept.ensures.table

-- the accept fails
pub returns-in-Err-accept_control-clause-made : goal.returns-in-Err-accept_control-clause-made
returns-in-Err-accept_control-clause-made g c = λ due. Fails c.check_descriptors.new.self c.in-Err-accept_control.error
    (rw c.in_default.is at c.check_descriptors.ensures) (rw c.in-Err-accept_control.is at c.accept_control.ensures) refl

pub returns-in-Err-accept_control-clause-calls : goal.returns-in-Err-accept_control-clause-calls
returns-in-Err-accept_control-clause-calls g c =
    both g.N.Network.transition is_after_poll _ _ _
    (one g.N.Network.transition is_after_poll _ _ (ChecksDescriptors 1 c.check_descriptors.result) refl c.check_descriptors.ensures)
    (one g.N.Network.transition is_after_poll _ _ (AcceptsControl c.accept_control.result) refl c.accept_control.ensures)

pub returns-in-Err-accept_control-clause-table : goal.returns-in-Err-accept_control-clause-table
returns-in-Err-accept_control-clause-table g c =
    listener_reported _ _ _ c.control_key-own.ensures c.note_accept-in-Err-accept_control.ensures.table

-- the system refuses to follow the connection
pub returns-then-not-follow-clause-made : goal.returns-then-not-follow-clause-made
returns-then-not-follow-clause-made g c = λ due. IsRefused c.check_descriptors.new.self c.accept_control.new.self c.in-Ok.connection _
    (rw c.in_default.is at c.check_descriptors.ensures) (rw c.in-Ok.is at c.accept_control.ensures)
    (rw c.if-not-follow.true at c.follow.ensures.call) refl

pub returns-then-not-follow-clause-calls : goal.returns-then-not-follow-clause-calls
returns-then-not-follow-clause-calls g c =
    both g.N.Network.transition is_after_poll _ _ _
    (one g.N.Network.transition is_after_poll _ _ (ChecksDescriptors 1 c.check_descriptors.result) refl c.check_descriptors.ensures)
    (both g.N.Network.transition is_after_poll _ _ _
    (one g.N.Network.transition is_after_poll _ _ (AcceptsControl c.accept_control.result) refl c.accept_control.ensures)
    (one g.N.Network.transition is_after_poll _ _ (Follows _ c.args.key c.follow.result _) refl c.follow.ensures.call))

pub returns-then-not-follow-clause-table : goal.returns-then-not-follow-clause-table
returns-then-not-follow-clause-table g c =
    listener_followed _ _ _ _ c.args.key c.control_key-own.ensures c.note_accept-2.ensures.table c.follow.ensures.table c.requires

pub returns-clause-made : goal.returns-clause-made
returns-clause-made g c = λ due. IsFollowed c.check_descriptors.new.self c.accept_control.new.self c.in-Ok.connection _
    (rw c.in_default.is at c.check_descriptors.ensures) (rw c.in-Ok.is at c.accept_control.ensures)
    (rw c.if-not-follow.false at c.follow.ensures.call) refl

pub returns-clause-calls : goal.returns-clause-calls
returns-clause-calls g c =
    both g.N.Network.transition is_after_poll _ _ _
    (one g.N.Network.transition is_after_poll _ _ (ChecksDescriptors 1 c.check_descriptors.result) refl c.check_descriptors.ensures)
    (both g.N.Network.transition is_after_poll _ _ _
    (one g.N.Network.transition is_after_poll _ _ (AcceptsControl c.accept_control.result) refl c.accept_control.ensures)
    (one g.N.Network.transition is_after_poll _ _ (Follows _ c.args.key c.follow.result _) refl c.follow.ensures.call))

pub returns-clause-table : goal.returns-clause-table
returns-clause-table g c =
    listener_followed _ _ _ _ c.args.key c.control_key-own.ensures c.note_accept-2.ensures.table c.follow.ensures.table c.requires
