-- Each session number is given once.
use Rattle.std.proofs.Common.{◌≡◌, ◌≤◌, ℕ, ◌+◌, Bool, true, false, List, [], ◌∷◌, Option, Some, None, refl, ap, ◌∙◌, arith}
use Rattle.std.specs.Prelude.{nat_lt, if◌then◌else◌}
use Rattle.daide_io.specs.System.{SystemCall, Polls, Shows, Accepts, Connects, BeginsTurn, Rests, Retires, Notifies, TransitsBy}
use Rattle.daide_io.specs.declared.system.Connect.TheVariants.{Ready, Failed, Pending}
use Rattle.daide_io.specs.Streams.{StreamCall}
use Rattle.daide_sockets.specs.Pairing.{Arriving, Paired, RunSockets, StaysPending, Transits, pending_connects, sum_over}
use Rattle.daide_sockets.specs.PairedOnce.{one_if_same, handed}
use Rattle.daide_sockets.specs.declared.present.Bot.{Bot}
use Rattle.daide_sockets.proofs.PairingLemmas.{sum_in, sum_out, sum_stays}

-- 1 if the number is not given yet
abbrev to_come : ℕ → ℕ → ℕ
to_come n came = if nat_lt came n then 1 else 0

next_given : (n came : ℕ) → one_if_same (came + 1) n + to_come n (came + 1) ≤ to_come n came
next_given n came = grind (arith)

at_most_one : (n came : ℕ) → to_come n came ≤ 1
at_most_one n came = by (nat_lt came n)
  where
    by : (b : Bool) → (if b then 1 else 0) ≤ 1
    by true = omega (arith)
    by false = omega (arith)

module _ {S : Type 0} (n : ℕ) where
  -- 1 if the bot at a place has the number
  abbrev numbered : Option (Arriving S) → ℕ
  numbered None = 0
  numbered (Some arrival) = one_if_same arrival.identity.number n

  abbrev left : RunSockets S → ℕ
  left sockets = sum_over numbered sockets.arrivals + to_come n sockets.came

  -- no bot that is pending has the number
  none_pending : (arrivals : List (Option (Arriving S))) → pending_connects arrivals ≡ 0 → sum_over numbered arrivals ≡ 0
  none_pending [] h = refl
  none_pending (None ∷ arrivals) h =
      let rest = none_pending arrivals (omega (arith, h)) in
      omega (arith, rest)
  none_pending (Some arrival ∷ arrivals) h = absurd (omega (arith, h))

  stays : (before after : Arriving S) → StaysPending before after → numbered (Some after) ≡ numbered (Some before)
  stays before after h = ap (λ (b : Bot). one_if_same b.number n) h.identity

  module _ {P : Type 0} (to_give taken : S → Option (List ℕ))
      (calls : S → Option (List StreamCall)) (pair : P → Paired S) where
    kept : (old new : RunSockets S) → new.came ≡ old.came → new.arrivals ≡ old.arrivals → left new ≡ left old
    kept old new came arrivals =
        let a : sum_over numbered new.arrivals ≡ sum_over numbered old.arrivals = ap (sum_over numbered) arrivals in
        let b : to_come n new.came ≡ to_come n old.came = ap (to_come n) came in
        omega (arith, a, b)

    one : (call : SystemCall P) (old new : RunSockets S) → Transits to_give taken calls pair old call new →
        handed pair n (call ∷ []) + left new ≤ left old
    one (Polls may_block woken orders) old new h = let e = kept old new h.0 h.1 in omega (arith, e)
    one (Shows ports status) old new h = let e : left new ≡ left old = ap left h in omega (arith, e)
    one (BeginsTurn place account before after) old new h = let e : left new ≡ left old = ap left h in omega (arith, e)
    one (Rests place ports rests) old new h = let e : left new ≡ left old = ap left h in omega (arith, e)
    one (Accepts place true) old new h =
        let a = sum_in numbered old.arrivals new.arrivals place h.arrival refl h.free h.arrivals in
        let c : one_if_same h.arrival.identity.number n ≡ one_if_same (old.came + 1) n =
        ap (λ (m : ℕ). one_if_same m n) (h.number ∙ h.came) in
        let d : to_come n new.came ≡ to_come n (old.came + 1) = ap (to_come n) h.came in
        let e = next_given n old.came in
        omega (arith, a, c, d, e)
    one (Accepts place false) old new h = let e : left new ≡ left old = ap left h in omega (arith, e)
    one (Connects place (Ready ports)) old new h =
        let a = sum_out numbered old.arrivals new.arrivals place h.0 refl h.1 in
        let b : one_if_same (pair ports).identity.number n ≡ one_if_same h.0.identity.number n =
        ap (λ (own : Bot). one_if_same own.number n) h.2.identity in
        let c : to_come n new.came ≡ to_come n old.came = ap (to_come n) h.3 in
        omega (arith, a, b, c)
    one (Connects place Failed) old new h =
        let a = sum_out numbered old.arrivals new.arrivals place h.0 refl h.1 in
        let c : to_come n new.came ≡ to_come n old.came = ap (to_come n) h.3 in
        omega (arith, a, c)
    one (Connects place Pending) old new h =
        let a = sum_stays numbered old.arrivals new.arrivals place stays h.0 in
        let c : to_come n new.came ≡ to_come n old.came = ap (to_come n) h.1 in
        omega (arith, a, c)
    one (Retires place ports end) old new h = let e = kept old new h.1 h.2 in omega (arith, e)
    one (Notifies notice) old new h = let e : left new ≡ left old = ap left h in omega (arith, e)

    handed_first : (call : SystemCall P) (trace : List (SystemCall P)) →
        handed pair n (call ∷ trace) ≡ handed pair n (call ∷ []) + handed pair n trace
    handed_first (Polls may_block woken orders) trace = omega (arith)
    handed_first (Shows ports status) trace = omega (arith)
    handed_first (BeginsTurn place account before after) trace = omega (arith)
    handed_first (Rests place ports rests) trace = omega (arith)
    handed_first (Accepts place came) trace = omega (arith)
    handed_first (Connects place (Ready ports)) trace = omega (arith)
    handed_first (Connects place Failed) trace = omega (arith)
    handed_first (Connects place Pending) trace = omega (arith)
    handed_first (Retires place ports end) trace = omega (arith)
    handed_first (Notifies notice) trace = omega (arith)

    all : (trace : List (SystemCall P)) (old new : RunSockets S) →
        TransitsBy (Transits to_give taken calls pair) old trace new → handed pair n trace ≤ left old
    all [] old new h = omega (arith)
    all (call ∷ trace) old new h =
        let a = one call old h.0 h.1 in
        let b = all trace h.0 new h.2 in
        let c = handed_first call trace in
        omega (arith, a, b, c)

    pub come_once : (old new : RunSockets S) (trace : List (SystemCall P)) → old.came ≡ 0 → pending_connects old.arrivals ≡ 0 →
        TransitsBy (Transits to_give taken calls pair) old trace new → handed pair n trace ≤ 1
    come_once old new trace came arrivals h =
        let a = all trace old new h in
        let b = none_pending old.arrivals arrivals in
        let c = at_most_one n old.came in
        omega (arith, a, b, c)
