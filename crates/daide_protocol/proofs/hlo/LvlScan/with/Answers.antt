use Rattle.std.proofs.lemmas.Int.{to_z-of_z}
use Rattle.daide_protocol.proofs.Common.{true, false, Option, sym, ap, ◌∙◌, ⊎_elim, rules, arith, ℤ}
use mir.Syntax.{w16}
use mir.Val.{SFits}
use Rattle.daide_protocol.proofs.HloLemmas.{first_found, found_with, number-next, no_hlo-next, no_number-next, none_came}
use Rattle.daide_protocol.proofs.hlo.LvlScan.with.Goals as goal

pub returns-then-code-eq-HLO : goal.returns-then-code-eq-HLO
returns-then-code-eq-HLO c = λ tokens e.
    rw (c.from_code.ensures, c.from_code-then-code-eq-HLO.ensures, none_came tokens (sym c.in-NoToken.is ∙ e))
    (sym (first_found c.args.token true (search rules)))

pub returns-else-code-eq-HLO : goal.returns-else-code-eq-HLO
returns-else-code-eq-HLO c = λ tokens e.
    rw (none_came tokens (sym c.in-NoToken.is ∙ e)) (sym (first_found c.args.token false (search rules)))

pub returns-in-Some : goal.returns-in-Some
returns-in-Some c = λ tokens e.
    let k = c.in-NoNumber in
    let found = ap (λ (o : Option ℤ). found_with o k.second k.last c.args.token)
    (sym c.in-Some.is ∙ c.option_number.ensures)
    ∙ no_number-next tokens c.args.token k.third k.second k.last (sym k.is ∙ e) in
    let fits : SFits w16 c.in-Some.number = search rules in
    grind (arith, to_z-of_z)

pub returns-in-None : goal.returns-in-None
returns-in-None c = λ tokens e.
    let k = c.in-NoNumber in
    ap (λ (o : Option ℤ). found_with o k.second k.last c.args.token) (sym c.in-None.is ∙ c.option_number.ensures)
    ∙ no_number-next tokens c.args.token k.third k.second k.last (sym k.is ∙ e)

pub returns-in-NoHlo : goal.returns-in-NoHlo
returns-in-NoHlo c = ⊎_elim
    (λ e. rw e (λ tokens h. no_hlo-next tokens c.args.token h))
    (λ e. rw e.1 (λ tokens h. number-next tokens c.args.token _ h))
    c.in-NoHlo.is
