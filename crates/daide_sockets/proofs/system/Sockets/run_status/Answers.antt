use Rattle.std.proofs.Common.{List, Option, refl, ap, ◌∙◌, rules}
use Rattle.daide_sockets.specs.Pairing.{Arriving, pending_connects}
use Rattle.daide_sockets.specs.Snapshot.{counted}
use Rattle.daide_sockets.proofs.system.Sockets.run_status.Goals as goal

pub returns : goal.returns
returns g c =
    let connecting = c.counted-connecting.ensures ∙ ap counted (c.pending_count.ensures
    ∙ ap (λ (l : List (Option (Arriving g.row.N-Connection.Denot))). pending_connects l) c.as_slice.ensures.value) in
    record {
      connecting = connecting;
      in_session = search rules;
      served = search rules;
      unreached = refl;
      has_waiting = search rules;
      is_stopping = search rules;
      up = search rules;
      known = search rules;
      counted = refl;
    }
