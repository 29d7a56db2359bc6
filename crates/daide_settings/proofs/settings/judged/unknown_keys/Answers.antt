use Rattle.daide_settings.proofs.Common.{◌++◌, map, sym, ap, ◌∙◌, append-nil}
use Rattle.daide_settings.proofs.ReportLemmas.{unknown_members, unknown_of}
use Rattle.daide_settings.proofs.settings.judged.unknown_keys.Goals as goal

pub returns-clause-keys : goal.returns-clause-keys
returns-clause-keys g c =
    let known = map (λ key. key.now) c.loop-key.unknown.items in
    sym (append-nil known) ∙ sym (ap (λ left. known ++ unknown_of left) c.in-None.ensures.steps.0)
    ∙ c.loop-key.invariant ∙ unknown_members c.args.table.now.entries
