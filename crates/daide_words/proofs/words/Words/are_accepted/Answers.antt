use Rattle.daide_words.proofs.Common.{words_of}
use Rattle.daide_words.proofs.words.Words.are_accepted.Goals as goal

pub returns : goal.returns
unfolding words_of
returns c = c.args.self.now.accepted
