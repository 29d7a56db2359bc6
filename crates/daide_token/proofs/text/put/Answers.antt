use Rattle.std.proofs.lemmas.Slice.{take-put_mid}
use Rattle.daide_token.proofs.Common.{◌+◌, ◌-◌, List, ℕ, ◌++◌, ap, ◌∙◌, arith, take}
use Rattle.daide_token.proofs.text.put.Goals as goal

pub returns-clause-text : goal.returns-clause-text
returns-clause-text g c =
    take-put_mid c.args.len (c.args.len + g.row.N - c.args.len) c.args.line.now
    c.copy_from_slice.new.self (c.args.len + g.row.N) (omega arith) (omega arith)
    ∙ ap (λ (t : List ℕ). take c.args.len c.args.line.now ++ t) c.copy_from_slice.ensures.after
