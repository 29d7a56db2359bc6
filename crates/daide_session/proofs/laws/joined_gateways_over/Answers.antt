use Rattle.daide_words.specs.Words.{words_of}
use Rattle.daide_session.proofs.laws.joined_gateways_over.Goals as goal

pub returns : goal.returns
returns c = c.joined_gateways.ensures (words_of c.args.words.now) c.are_accepted.ensures
