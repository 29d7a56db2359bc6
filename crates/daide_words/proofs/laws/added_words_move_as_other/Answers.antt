use Rattle.daide_words.proofs.DifferentWords.{class_without, own_class}
use Rattle.daide_words.proofs.MovesAsOther.{moves_as_other, stands_there}
use Rattle.daide_words.proofs.laws.added_words_move_as_other.Goals as goal

pub returns-clause-class : goal.returns-clause-class
returns-clause-class c words place word accepted at =
    (own_class words place word accepted at, class_without words place word accepted at)

pub returns-clause-stands : goal.returns-clause-stands
returns-clause-stands c words place word sym slot level accepted at =
    stands_there words place word sym accepted at slot level

pub returns-clause-elsewhere : goal.returns-clause-elsewhere
returns-clause-elsewhere c words place word sym accepted at = moves_as_other words place word sym accepted at
