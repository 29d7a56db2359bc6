use Rattle.daide_reader.proofs.Common.{refl}
use Rattle.daide_reader.proofs.BodyLemmas.{tokens_of-length}
use Rattle.daide_reader.proofs.outline.Outline.on.Goals as goal

pub returns : goal.returns
returns c = rw (tokens_of-length c.args.body.now, c.begins_on.ensures, c.second_is_bra.ensures, c.last_is_ket.ensures)
    refl
