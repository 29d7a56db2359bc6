use Rattle.daide_token.proofs.Common.{sym, ap, ◌∙◌, arith, tokens_of}
use Rattle.daide_token.specs.Token.{token_of_bytes}
use Rattle.daide_token.proofs.law_facts.bytes_at_values.Goals as goal

pub returns-clause-token : goal.returns-clause-token
returns-clause-token c t is = sym (c.bytes_come_back.ensures.token t) ∙ ap token_of_bytes is

pub returns-clause-bytes : goal.returns-clause-bytes
returns-clause-bytes c high = c.bytes_come_back.ensures.bytes high 0xFF (omega arith)

pub returns-clause-tokens : goal.returns-clause-tokens
returns-clause-tokens c ts is = sym (c.bytes_come_back.ensures.tokens ts) ∙ ap tokens_of is
