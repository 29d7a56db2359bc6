use Rattle.std.proofs.Common.{◌≢◌, inl, inr, refl, rules, Err}
use Rattle.daide_log_lines.specs.declared.fault.LogFault.TheVariants.{Read}
use Rattle.daide_tools.specs.Opened.{standard_input}
use Rattle.daide_tools.proofs.CheckingLemmas.{said_of}
use Rattle.daide_tools.proofs.checking.check_named.Goals as goal

pub returns-in-Err-clause-checked : goal.returns-in-Err-clause-checked
returns-in-Err-clause-checked g c =
    let other : c.args.name.now ≢ standard_input = search rules in
    said_of c.print_log_fault.result _ c.print_log_fault.ensures.status c.print_log_fault.ensures.said
    (λ status one said. (
      Err Read,
      inr (other, refl, Err c.in-Err.field-0, c.in-Err.ensures, (refl, refl)),
      (
        ((λ same. absurd (other same)), λ named. inl (c.in-Err.field-0, c.in-Err.ensures)),
        rw c.without_line-refused.ensures at said,
      ),
      one,
    ))
