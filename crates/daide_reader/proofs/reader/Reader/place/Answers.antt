use Rattle.daide_reader.proofs.Common.{ap, Reading}
use Rattle.daide_reader.proofs.Fronts.{place_said}
use Rattle.daide_reader.proofs.ReadingLemmas.{stands_along}
use Rattle.daide_reader.proofs.reader.Reader.place.Goals as goal

-- a stack says more than that there is no error place
pub returns : goal.returns
returns g c =
    let Predict = g.T.Predict in
    record {
      exact = ap (λ (v : Reading g.row.T.Denot). v.place) c.self.view_is;
      place = λ words first max_depth p plain h.
          place_said (Predict.language words) first max_depth _ _ p
          ((stands_along Predict words first max_depth _ _ p c.self.view_is h).place plain);
    }
