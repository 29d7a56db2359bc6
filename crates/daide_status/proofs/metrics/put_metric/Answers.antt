use Rattle.std.proofs.Common.{◌≡◌, ◌++◌, ℕ, List, append_assoc, codes}
use Rattle.daide_status.proofs.Chains.{appended_as}
use Rattle.daide_status.proofs.metrics.put_metric.Goals as goal

-- the pieces of the text, as the format string joins them and as the definition does
joined : (a name b help c kind d : List ℕ) →
    a ++ (name ++ (b ++ (help ++ (c ++ (name ++ (b ++ (kind ++ d)))))))
    ≡ a ++ name ++ b ++ help ++ c ++ name ++ b ++ kind ++ d
joined a name b help c kind d = simp append_assoc

pub returns : goal.returns
returns g c =
    appended_as _ c.args.out.now c.append_text.new.text c.append_text.result _ _ c.append_text.ensures.appended
    c.append_text.ensures.refused
    (joined (codes "# HELP daide_gate_") c.args.name.now (codes " ") c.args.help.now (codes "\n# TYPE daide_gate_")
    c.args.kind.now (codes "\n"))
