use Rattle.std.proofs.Output.{has_written_append, has_written_of_eq}
use Rattle.daide_show.proofs.Common.{append_assoc, refl}
use Rattle.daide_show.proofs.groups.OddGroupDisplay.fmt.Goals as goal

pub returns-clause-writes : goal.returns-clause-writes
returns-clause-writes g c = λ p ok.
    let first = c.in_ok-write.ensures.writes p refl in
    let second = c.write_str.ensures.writes first.plain ok in
    has_written_of_eq _ _ _ _ _ (simp append_assoc) (has_written_append _ _ _ _ _ _ first second)
