use Rattle.daide_log.proofs.Common.{◌∷◌, [], ◌++◌, ap, refl, Note, count_note, move_line}
use Rattle.daide_log.proofs.PlayLemmas.{appends_none}
use Rattle.daide_log.proofs.style.PlainStyleStyle.explain.Goals as goal

pub returns-clause-text : goal.returns-clause-text
returns-clause-text g c context known = (
  [],
  (λ old events made. (
    record { source = c.args._source; side = c.args._side; reported = made.move.reported } ∷ [],
    refl,
    ap (λ (r : Note). move_line c.args._source c.args._side r ++ []) made.same,
    (λ before. ap (λ (r : Note). count_note r before) made.same),
    tt,
  )),
  appends_none _,
)
