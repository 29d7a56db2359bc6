use Rattle.daide_show.proofs.Common.{greatest_depth, side2_of}
use Rattle.daide_show.proofs.OneWay.{shown_is_one}
use Rattle.daide_show.proofs.laws.input_is_shown_in_one_way.Goals as goal

pub returns : goal.returns
returns c =
    λ asked. shown_is_one asked
    (c.explained_in_one_way.ensures asked.words (side2_of asked.side) asked.level greatest_depth)
