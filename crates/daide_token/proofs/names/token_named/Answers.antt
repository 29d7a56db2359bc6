use Rattle.daide_token.proofs.Common.{ap, ◌∙◌, find}
use Rattle.daide_token.proofs.NamesByLetter.{told_by_letter}
use Rattle.daide_token.specs.NamesByLetter.{codes_with, is_named}
use Rattle.daide_token.proofs.names.token_named.Goals as goal

pub returns : goal.returns
returns c =
    c.code_in.ensures
    ∙ ap (find (is_named c.args.name.now)) (c.codes_with.ensures ∙ ap codes_with c.first_letter.ensures)
    ∙ told_by_letter c.args.name.now
