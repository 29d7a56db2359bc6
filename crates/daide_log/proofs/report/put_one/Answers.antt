use Rattle.std.proofs.lemmas.Fmt.{decimal_digit}
use Rattle.daide_log.proofs.Common.{◌≡◌, ◌+◌, ◌∷◌, ◌++◌, [], ◌∙◌, ap, sym}
use Rattle.daide_log.proofs.report.put_one.Goals as goal

pub returns-clause-text : goal.returns-clause-text
returns-clause-text c =
    let digit : c.args.line.now.items ++ (48 + c.args.number) ∷ [] ≡ c.args.line.now.items ++ _ =
    ap (λ l. c.args.line.now.items ++ l) (sym (decimal_digit c.args.number c.requires.few)) in
    c.push.ensures.items ∙ digit
