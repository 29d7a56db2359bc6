-- The sockets count each accept.
use Rattle.std.proofs.Common.{◌≡◌, ℕ, ◌+◌, true, false, List, [], ◌∷◌, Option, ap, arith}
use Rattle.daide_io.specs.System.{SystemCall, Polls, Shows, Accepts, Connects, BeginsTurn, Rests, Retires, Notifies, TransitsBy}
use Rattle.daide_io.specs.declared.system.Connect.TheVariants.{Ready, Failed, Pending}
use Rattle.daide_event_loop.specs.Served.{sum_over_calls, comes}
use Rattle.daide_io.specs.Streams.{StreamCall}
use Rattle.daide_sockets.specs.Pairing.{Paired, RunSockets, Transits}

module _ {P S : Type 0} (to_give taken : S → Option (List ℕ)) (calls : S → Option (List StreamCall)) (pair : P → Paired S) where
  one : (call : SystemCall P) (old new : RunSockets S) → Transits to_give taken calls pair old call new →
      new.came ≡ old.came + comes call
  one (Polls may_block woken orders) old new h = let e = h.0 in omega (arith, e)
  one (Shows ports status) old new h = let e = ap (λ (s : RunSockets S). s.came) h in omega (arith, e)
  one (Accepts place true) old new h = h.came
  one (Accepts place false) old new h = let e = ap (λ (s : RunSockets S). s.came) h in omega (arith, e)
  one (Connects place (Ready ports)) old new h = let e = h.3 in omega (arith, e)
  one (Connects place Failed) old new h = let e = h.3 in omega (arith, e)
  one (Connects place Pending) old new h = let e = h.1 in omega (arith, e)
  one (BeginsTurn place account before after) old new h = let e = ap (λ (s : RunSockets S). s.came) h in omega (arith, e)
  one (Rests place ports rests) old new h = let e = ap (λ (s : RunSockets S). s.came) h in omega (arith, e)
  one (Retires place ports end) old new h = let e = h.1 in omega (arith, e)
  one (Notifies notice) old new h = let e = ap (λ (s : RunSockets S). s.came) h in omega (arith, e)

  pub all_counted : (trace : List (SystemCall P)) (old new : RunSockets S) →
      TransitsBy (Transits to_give taken calls pair) old trace new → new.came ≡ old.came + sum_over_calls comes trace
  all_counted [] old new h = let e = ap (λ (s : RunSockets S). s.came) h in omega (arith, e)
  all_counted (call ∷ trace) old new h =
      let a = one call old h.0 h.1 in
      let b = all_counted trace h.0 new h.2 in
      omega (arith, a, b)
