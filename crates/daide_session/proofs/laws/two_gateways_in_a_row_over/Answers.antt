use Rattle.daide_words.specs.Words.{words_of}
use Rattle.daide_session.proofs.laws.two_gateways_in_a_row_over.Goals as goal

pub returns : goal.returns
returns c = c.two_gateways_in_a_row.ensures (words_of c.args.words.now) c.are_accepted.ensures
