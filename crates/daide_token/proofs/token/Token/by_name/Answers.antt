use Rattle.daide_token.proofs.Common.{Some, sym, ap, ◌∙◌}
use Rattle.daide_token.proofs.token.Token.by_name.Goals as goal

pub returns-in_err-code : goal.returns-in_err-code
returns-in_err-code c = c.from_residual.ensures ∙ sym c.in_err-code.was ∙ c.token_named.ensures

pub returns : goal.returns
returns c = ap Some c.from_code.ensures ∙ sym c.in_ok-code.was ∙ c.token_named.ensures
