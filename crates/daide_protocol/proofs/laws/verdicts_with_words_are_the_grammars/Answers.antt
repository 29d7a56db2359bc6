use Rattle.daide_protocol.proofs.Common.{grammar_words, accepted_free}
use Rattle.daide_protocol.proofs.WordedVerdicts.{free_verdicts}
use Rattle.daide_protocol.proofs.laws.verdicts_with_words_are_the_grammars.Goals as goal

pub returns : goal.returns
returns c words side level max_depth m v accepted =
    free_verdicts (grammar_words words) (accepted_free words accepted) side level max_depth m v
