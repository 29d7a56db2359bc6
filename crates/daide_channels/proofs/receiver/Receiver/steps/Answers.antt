use Rattle.daide_channels.proofs.Common.{◌≡◌, ℕ, ◌+◌, ◌≤◌, Bool, true, false, Option, None, Some, is_some, subst, arith}
use Rattle.daide_channels.proofs.Common.{refl, if◌then◌else◌, start_symbol_of, side2_of, frame_tokens, spoken_words}
use Rattle.daide_channels.proofs.Common.{Receiver, Verdict}
use Rattle.daide_channels.specs.Receiver.{message_look_ups}
use Rattle.daide_channels.proofs.receiver.Receiver.steps.Goals as goal

-- a frame without a verdict has not ended
ended_or_not : (result asked ends : ℕ) (report finished : Bool) (o : Option Verdict) → (o ≡ None → finished ≡ false)
    → result ≤ (if report then 0 else asked + (if finished then ends else 0))
    → result ≤ (if report then 0 else asked + (if is_some o then ends else 0))
ended_or_not result asked ends true finished o opens few = few
ended_or_not result asked ends false true None opens few = let f : true ≡ false = opens refl in absurd cc
ended_or_not result asked ends false false None opens few = few
ended_or_not result asked ends false true (Some verdict) opens few = few
ended_or_not result asked ends false false (Some verdict) opens few = omega (arith, few)

pub returns-clause-once : goal.returns-clause-once
returns-clause-once g c =
    let i = c.self.inside in
    subst (λ (v : Receiver). c.steps.result
    ≤ message_look_ups v.rules v.side v.level (frame_tokens v.cap v.frame_bytes) (is_some v.verdict)) c.self.view_is
    (ended_or_not c.steps.result _ _ _ i.reader.finished i.verdict c.self.invariant.unfinished
    (c.steps.ensures.once (spoken_words i.reader.table) (start_symbol_of (side2_of i.side) i.level) i.reader.max_depth
    (frame_tokens i.cutter.cap i.cutter.bytes) c.self.invariant.stands))
