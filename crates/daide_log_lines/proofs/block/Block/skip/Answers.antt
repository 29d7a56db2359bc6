use Rattle.std.proofs.Common.{ap, ◌∙◌, ◌≤◌, ℕ, List, length, drop, subst, sym}
use Rattle.daide_log_lines.proofs.LineLemmas.{skipped}
use Rattle.daide_log_lines.proofs.block.Block.skip.Goals as goal

pub returns : goal.returns
returns c =
    skipped c.self.inside.bytes c.self.inside.from c.self.inside.to c.args.count
    (subst (λ (l : List ℕ). c.args.count ≤ length l) (sym c.self.view_is) c.requires)
    ∙ ap (drop c.args.count) c.self.view_is
