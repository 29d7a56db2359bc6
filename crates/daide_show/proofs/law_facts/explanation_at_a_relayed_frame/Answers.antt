use Rattle.daide_show.proofs.Common.{◌++◌, [], ℕ, List, Ok, codes, refl, ◌∙◌, ap, Bot, L0}
use Rattle.daide_show.proofs.FrameFacts.{fm, fm_shown}
use Rattle.daide_show.proofs.law_facts.explanation_at_a_relayed_frame.Goals as goal

pub returns : goal.returns
returns c explained h =
    let only = c.explanation_only_adds.ensures [] Bot L0 (codes "03 00 00 00") (Ok fm_shown) (Ok explained) fm h in
    only.1 ∙ ap (λ (lines : List ℕ). fm_shown.text ++ lines) (only.3 refl)
