use Rattle.std.proofs.Common.{[], ◌∷◌, ◌++◌, refl, sym, ap, ◌∙◌, below_more, arith}
use Rattle.daide_io.specs.ReadyQueue.{ReadyView, woken}
use Rattle.daide_io.proofs.ReadyLemmas.{woken_both}
use Rattle.daide_sockets.proofs.RunPollLemmas.{among_last, among_more}
use Rattle.daide_sockets.proofs.system.Sockets.wake_stopped.Goals as goal

pub loop-place-init : goal.loop-place-init
loop-place-init g c = ([], refl, λ place lt. absurd (omega (arith, lt)))

pub loop-place-preserved : goal.loop-place-preserved
loop-place-preserved g c = (
  c.loop-place.invariant.0 ++ c.loop-place.place ∷ [],
  c.wake.ensures ∙ ap (λ (q : ReadyView). woken q c.loop-place.place) c.loop-place.invariant.1
      ∙ sym (woken_both c.loop-place.invariant.0 (c.loop-place.place ∷ []) _),
  below_more _ _ (λ place lt. among_more place _ _ (c.loop-place.invariant.2 place lt))
      (among_last _ _ c.loop-place.invariant.0 refl),
)
