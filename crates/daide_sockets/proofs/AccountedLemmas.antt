-- Each bot and each closing stream is counted along the calls of a run.
use Rattle.std.proofs.Common.{◌≡◌, ◌≤◌, ℕ, suc, ◌+◌, ◌-◌, ◌*◌, Bool, true, false, List, [], ◌∷◌, ◌++◌, length, Option, Some, refl, ap, arith}
use Rattle.std.proofs.Common.{inl, inr}
use Rattle.std.specs.Prelude.{nat_lt, nat_eq, if◌then◌else◌, remove}
use Rattle.std.proofs.lemmas.List.{length-append}
use Rattle.std.specs.declared.time.Instant.{Instant}
use Rattle.daide_buffered_io.specs.Buffers.{Buffer}
use Rattle.daide_io.specs.System.{SystemCall, Polls, Shows, Accepts, Connects, BeginsTurn, Rests, Retires, Notifies, TransitsBy}
use Rattle.daide_io.specs.declared.system.Connect.TheVariants.{Ready, Failed, Pending}
use Rattle.daide_io.specs.Streams.{StreamCall}
use Rattle.daide_sockets.specs.Accounted.{bots_joined, bots_given_up, sessions_retired, IsAccounted}
use Rattle.daide_sockets.specs.Lingering.{ClosingStream, ClosingList, IsLookedAt, LooksAtEach, ClosingsGoOn, in_pass}
use Rattle.daide_sockets.specs.Pairing.{Arriving, Paired, RunSockets, StaysPending, ClosesAt, Transits, one_if_arrives, pending_connects, with_room}
use Rattle.daide_sockets.proofs.PairingLemmas.{sum_in, sum_out, sum_stays}

module _ {P S : Type 0} (to_give taken : S → Option (List ℕ)) (calls : S → Option (List StreamCall))
    (pair : P → Paired S) where
  abbrev Streams : Type 0
  Streams = List (ClosingStream S)

  -- ---- streams that close

  each_len : (now : Option Instant) (seen moved : Streams) → LooksAtEach to_give taken calls now seen moved →
      length moved ≤ length seen
  each_len now [] moved h = let none : length moved ≡ 0 = ap length h in omega (arith, none)
  each_len now (stream ∷ seen) moved h = by (each_len now seen h.0 h.1) h.2
    where
      by : length h.0 ≤ length seen → IsLookedAt to_give taken calls now stream h.0 moved →
          length moved ≤ length (stream ∷ seen)
      by rest (inl a) =
          let whole : length moved ≡ suc (length h.0) = ap length a.1 in
          omega (arith, rest, whole)
      by rest (inr a) =
          let whole : length moved ≡ length h.0 = ap length a.0 in
          omega (arith, rest, whole)

  pass_len : (old : ClosingList S) → length (in_pass old).streams ≡ length old.streams
  pass_len old = by (nat_eq old.next old.pass_end)
    where
      by : (b : Bool) → length (if b then record old { next = 0; pass_end = length old.streams } else old).streams
          ≡ length old.streams
      by true = refl
      by false = refl

  -- a round adds none
  round_len : (old new : ClosingList S) → ClosingsGoOn to_give taken calls old new →
      length new.streams ≤ length old.streams
  round_len old new h =
      let looked = h.1.looked in
      let before : length (in_pass old).streams ≡ length (looked.front ++ looked.seen ++ looked.rest) =
      ap length looked.before in
      let after : length new.streams ≡ length (looked.front ++ looked.moved ++ looked.rest) = ap length looked.after in
      let a = length-append (looked.front ++ looked.seen) looked.rest in
      let b = length-append looked.front looked.seen in
      let c = length-append (looked.front ++ looked.moved) looked.rest in
      let d = length-append looked.front looked.moved in
      let fewer = each_len h.0 looked.seen looked.moved looked.looked in
      let pass = pass_len old in
      omega (arith, before, after, a, b, c, d, fewer, pass)

  remove_len : (xs : Streams) → length (remove xs 0) ≤ length xs - 1
  remove_len [] = omega arith
  remove_len (x ∷ xs) = omega arith

  room_len : (old : ClosingList S) → (length (with_room old).streams ≤ length old.streams)
      × (length old.streams ≤ 256 → length (with_room old).streams ≤ 255)
  room_len old = by (nat_lt (length old.streams) 256) refl
    where
      by : (b : Bool) → nat_lt (length old.streams) 256 ≡ b →
          (length (if b then old
          else record old { streams = remove old.streams 0; next = old.next - 1; pass_end = old.pass_end - 1 }).streams
          ≤ length old.streams)
          × (length old.streams ≤ 256 → length (if b then old
          else record old { streams = remove old.streams 0; next = old.next - 1; pass_end = old.pass_end - 1 }).streams ≤ 255)
      by true e = (omega arith, λ h. grind (arith, e))
      by false e = let less = remove_len old.streams in (omega (arith, less), λ h. omega (arith, less, h))

  -- one closes more, and at most 256 do
  closes_len : (reading : Option Instant) (old : ClosingList S) (stream : Buffer S) (new : ClosingList S) →
      ClosesAt to_give taken calls reading old stream new → (length new.streams ≤ length old.streams + 1)
      × (length old.streams ≤ 256 → length new.streams ≤ 256)
  closes_len reading old stream new h =
      let now : length new.streams ≡ length ((with_room old).streams ++ h.last ∷ []) = ap (λ (l : ClosingList S). length l.streams) h.now in
      let more = length-append (with_room old).streams (h.last ∷ []) in
      let room = room_len old in
      let fewer = room.0 in (
        omega (arith, now, more, fewer),
        λ few. let left = room.1 few in omega (arith, now, more, left),
      )

  -- ---- the bots

  stays : (before after : Arriving S) → StaysPending before after → one_if_arrives (Some after) ≡ one_if_arrives (Some before)
  stays before after h = refl

  -- the effect of calls on what is counted
  pub record Counts (trace : List (SystemCall P)) (old new : RunSockets S) : Type 0 where
    pub bots : new.came + pending_connects old.arrivals ≡ old.came + (pending_connects new.arrivals + (bots_joined trace + bots_given_up trace))
    pub closing : length new.closing.streams ≤ length old.closing.streams + (bots_given_up trace + 2 * sessions_retired trace)
    pub few : length old.closing.streams ≤ 256 → length new.closing.streams ≤ 256

  same_counts : (call : SystemCall P) (old new : RunSockets S) → new ≡ old → bots_joined (call ∷ []) ≡ 0 →
      bots_given_up (call ∷ []) ≡ 0 → Counts (call ∷ []) old new
  same_counts call old new e none no_other =
      let came : new.came ≡ old.came = ap (λ (s : RunSockets S). s.came) e in
      let arrivals : pending_connects new.arrivals ≡ pending_connects old.arrivals = ap (λ (s : RunSockets S). pending_connects s.arrivals) e in
      let closing : length new.closing.streams ≡ length old.closing.streams =
      ap (λ (s : RunSockets S). length s.closing.streams) e in
      record {
        bots = omega (arith, came, arrivals, none, no_other);
        closing = omega (arith, closing);
        few = λ h. omega (arith, closing, h);
      }

  one : (call : SystemCall P) (old new : RunSockets S) → Transits to_give taken calls pair old call new →
      Counts (call ∷ []) old new
  one (Polls may_block woken orders) old new h =
      let came = h.0 in
      let arrivals : pending_connects new.arrivals ≡ pending_connects old.arrivals = ap pending_connects h.1 in
      let fewer = round_len old.closing new.closing h.2 in
      record {
        bots = omega (arith, came, arrivals);
        closing = omega (arith, fewer);
        few = λ few. omega (arith, fewer, few);
      }
  one (Shows ports status) old new h = same_counts (Shows ports status) old new h refl refl
  one (BeginsTurn place account before after) old new h = same_counts (BeginsTurn place account before after) old new h refl refl
  one (Rests place ports rests) old new h = same_counts (Rests place ports rests) old new h refl refl
  one (Accepts place true) old new h =
      let came = h.came in
      let more = sum_in one_if_arrives old.arrivals new.arrivals place h.arrival refl h.free h.arrivals in
      let closing : length new.closing.streams ≡ length old.closing.streams =
      ap (λ (l : ClosingList S). length l.streams) h.closing in
      record {
        bots = omega (arith, came, more);
        closing = omega (arith, closing);
        few = λ few. omega (arith, closing, few);
      }
  one (Accepts place false) old new h = same_counts (Accepts place false) old new h refl refl
  one (Connects place (Ready ports)) old new h =
      let out = sum_out one_if_arrives old.arrivals new.arrivals place h.0 refl h.1 in
      let came = h.3 in
      let closing : length new.closing.streams ≡ length old.closing.streams =
      ap (λ (l : ClosingList S). length l.streams) h.4 in
      record {
        bots = omega (arith, came, out);
        closing = omega (arith, closing);
        few = λ few. omega (arith, closing, few);
      }
  one (Connects place Failed) old new h =
      let out = sum_out one_if_arrives old.arrivals new.arrivals place h.0 refl h.1 in
      let came = h.3 in
      let more = closes_len h.2.0 old.closing h.0.bot new.closing h.2.1 in
      let longer = more.0 in
      record {
        bots = omega (arith, came, out);
        closing = omega (arith, longer);
        few = more.1;
      }
  one (Connects place Pending) old new h =
      let len = sum_stays one_if_arrives old.arrivals new.arrivals place stays h.0 in
      let came = h.1 in
      let closing : length new.closing.streams ≡ length old.closing.streams =
      ap (λ (l : ClosingList S). length l.streams) h.2 in
      record {
        bots = omega (arith, came, len);
        closing = omega (arith, closing);
        few = λ few. omega (arith, closing, few);
      }
  one (Retires place ports end) old new h =
      let both = h.0 in
      let first = closes_len both.1.0 old.closing (pair ports).bot both.0 both.1.1 in
      let second = closes_len both.2.0 both.0 (pair ports).server new.closing both.2.1 in
      let one_more = first.0 in
      let two_more = second.0 in
      let came = h.1 in
      let arrivals : pending_connects new.arrivals ≡ pending_connects old.arrivals = ap pending_connects h.2 in
      record {
        bots = omega (arith, came, arrivals);
        closing = omega (arith, one_more, two_more);
        few = λ few. second.1 (first.1 few);
      }
  one (Notifies notice) old new h = same_counts (Notifies notice) old new h refl refl

  -- the first call is counted apart from the rest
  joined_first : (call : SystemCall P) (trace : List (SystemCall P)) →
      bots_joined (call ∷ trace) ≡ bots_joined (call ∷ []) + bots_joined trace
  joined_first (Polls may_block woken orders) trace = omega arith
  joined_first (Shows ports status) trace = omega arith
  joined_first (BeginsTurn place account before after) trace = omega arith
  joined_first (Rests place ports rests) trace = omega arith
  joined_first (Accepts place came) trace = omega arith
  joined_first (Connects place (Ready ports)) trace = omega arith
  joined_first (Connects place Failed) trace = omega arith
  joined_first (Connects place Pending) trace = omega arith
  joined_first (Retires place ports end) trace = omega arith
  joined_first (Notifies notice) trace = omega arith

  given_up_first : (call : SystemCall P) (trace : List (SystemCall P)) →
      bots_given_up (call ∷ trace) ≡ bots_given_up (call ∷ []) + bots_given_up trace
  given_up_first (Polls may_block woken orders) trace = omega arith
  given_up_first (Shows ports status) trace = omega arith
  given_up_first (BeginsTurn place account before after) trace = omega arith
  given_up_first (Rests place ports rests) trace = omega arith
  given_up_first (Accepts place came) trace = omega arith
  given_up_first (Connects place (Ready ports)) trace = omega arith
  given_up_first (Connects place Failed) trace = omega arith
  given_up_first (Connects place Pending) trace = omega arith
  given_up_first (Retires place ports end) trace = omega arith
  given_up_first (Notifies notice) trace = omega arith

  retired_first : (call : SystemCall P) (trace : List (SystemCall P)) →
      sessions_retired (call ∷ trace) ≡ sessions_retired (call ∷ []) + sessions_retired trace
  retired_first (Polls may_block woken orders) trace = omega arith
  retired_first (Shows ports status) trace = omega arith
  retired_first (BeginsTurn place account before after) trace = omega arith
  retired_first (Rests place ports rests) trace = omega arith
  retired_first (Accepts place came) trace = omega arith
  retired_first (Connects place connect) trace = omega arith
  retired_first (Retires place ports end) trace = omega arith
  retired_first (Notifies notice) trace = omega arith

  counted : (old new : RunSockets S) (trace : List (SystemCall P)) →
      TransitsBy (Transits to_give taken calls pair) old trace new → Counts trace old new
  counted old new [] h =
      let came : new.came ≡ old.came = ap (λ (s : RunSockets S). s.came) h in
      let arrivals : pending_connects new.arrivals ≡ pending_connects old.arrivals = ap (λ (s : RunSockets S). pending_connects s.arrivals) h in
      let closing : length new.closing.streams ≡ length old.closing.streams =
      ap (λ (s : RunSockets S). length s.closing.streams) h in
      record {
        bots = omega (arith, came, arrivals);
        closing = omega (arith, closing);
        few = λ few. omega (arith, closing, few);
      }
  counted old new (call ∷ trace) h =
      let first = one call old h.0 h.1 in
      let rest = counted h.0 new trace h.2 in
      let a = first.bots in
      let b = rest.bots in
      let c = joined_first call trace in
      let d = given_up_first call trace in
      let e = retired_first call trace in
      let f = first.closing in
      let g = rest.closing in
      record {
        bots = omega (arith, a, b, c, d);
        closing = omega (arith, f, g, d, e);
        few = λ few. rest.few (first.few few);
      }

  pub accounted : (old new : RunSockets S) (trace : List (SystemCall P)) → old.came ≡ 0 → pending_connects old.arrivals ≡ 0 →
      old.closing.streams ≡ [] → TransitsBy (Transits to_give taken calls pair) old trace new → IsAccounted trace new
  accounted old new trace none no_arrivals no_closing h =
      let counts = counted old new trace h in
      let bots = counts.bots in
      let closing = counts.closing in
      let streams : length old.closing.streams ≡ 0 = ap length no_closing in
      record {
        bots = omega (arith, bots, none, no_arrivals);
        closing = omega (arith, closing, streams);
        few = counts.few (omega (arith, streams));
      }
