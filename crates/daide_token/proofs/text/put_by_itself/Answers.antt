use Rattle.daide_token.proofs.Common.{ap, sym, ◌∙◌, ◌++◌, take, List, ℕ, rules, to_z-of_z, w16}
use mir.Val.{SFits}
use Rattle.daide_token.proofs.TextWords.{number_few, number_word}
use Rattle.daide_token.proofs.text.put_by_itself.Goals as goal

pub put_number-requires-clause-small : goal.put_number-requires-clause-small
put_number-requires-clause-small c =
    let fits : SFits w16 c.in-Some.number = search rules in
    simp to_z-of_z (number_few c.args.token c.in-Some.number (sym c.in-Some.ensures))

pub returns-in-Some-clause-text : goal.returns-in-Some-clause-text
returns-in-Some-clause-text c =
    let fits : SFits w16 c.in-Some.number = search rules in
    (simp to_z-of_z at c.put_number.ensures.text)
    ∙ ap (λ (t : List ℕ). take c.args.len c.args.line.now ++ t)
    (sym (number_word c.args.added.now c.args.token c.in-Some.number (sym c.in-Some.ensures)))
