use Rattle.daide_protocol.proofs.Common.{⊎_elim}
use Rattle.daide_protocol.proofs.HloLemmas.{no_hlo-stays, number-stays}
use Rattle.daide_protocol.proofs.hlo.LvlScan.is_settled.Goals as goal

pub returns-in-NoHlo : goal.returns-in-NoHlo
returns-in-NoHlo c = ⊎_elim
    (λ e. rw e (λ _ tokens more h. no_hlo-stays tokens more h))
    (λ e. rw e.1 (λ _ tokens more h. number-stays tokens more _ h))
    c.in-NoHlo.is
