use Rattle.daide_words.specs.Words.{words_of}
use Rattle.daide_protocol.proofs.laws.verdicts_over.Goals as goal

pub returns : goal.returns
returns c side level max_depth m v =
    c.verdicts_with_words_are_the_grammars.ensures (words_of c.args.words.now) side level max_depth m v
    c.are_accepted.ensures
