-- The bytes that a meter counts are those of all port calls.
use Rattle.std.proofs.Common.{◌≡◌, ℕ, ◌+◌, ◌%◌, ◌^◌, List, [], ◌∷◌, ◌++◌, refl, ap, ◌∙◌, arith}
use Rattle.daide_frame.specs.declared.side.Side.TheVariants.{Bot, Server}
use Rattle.daide_io.specs.declared.byte_counts.ByteCounts.{ByteCounts}
use Rattle.daide_io.specs.ByteCounts.{put_len, pull_counted, put_counted, delivers, takes, sum_of, bytes_of}
use Rattle.daide_io.specs.Ports.{PortCall, TurnBegins, Clock, Pulled, Offered, pulled_len}
use Rattle.daide_driver.specs.declared.meter.Moved.{Moved}
use Rattle.daide_driver.specs.Meter.{clock_moved, pull_moved, put_moved, moved_by}

-- four numbers as counts
abbrev counts : ℕ → ℕ → ℕ → ℕ → ByteCounts
counts a b c d =
    record { from_bot = a % 2 ^ 64; from_server = b % 2 ^ 64; to_bot = c % 2 ^ 64; to_server = d % 2 ^ 64 }

same_counts : (a k b l c m d n : ℕ) → a ≡ k → b ≡ l → c ≡ m → d ≡ n → counts a b c d ≡ counts k l m n
same_counts a k b l c m d n e f g h =
    λ i. record {
      from_bot = e i % 2 ^ 64;
      from_server = f i % 2 ^ 64;
      to_bot = g i % 2 ^ 64;
      to_server = h i % 2 ^ 64;
    }

-- bytes added to a count, and to the number that is counted
added : (a n : ℕ) → (a % 2 ^ 64 + n) % 2 ^ 64 ≡ (a + n) % 2 ^ 64
added a n = omega arith

-- the counts of four numbers, and of the bytes of a trace beside them
abbrev beside : ℕ → ℕ → ℕ → ℕ → List PortCall → ByteCounts
beside a b c d history =
    counts (a + sum_of (delivers Bot) history) (b + sum_of (delivers Server) history)
    (c + sum_of (takes Bot) history) (d + sum_of (takes Server) history)

bytes_by : (calls : List PortCall) (a b c d : ℕ) (moved : Moved) → moved.bytes ≡ counts a b c d →
    (moved_by calls moved).bytes ≡ beside a b c d calls
bytes_by [] a b c d moved e = e ∙ same_counts a _ b _ c _ d _ (omega arith) (omega arith) (omega arith) (omega arith)
bytes_by (TurnBegins ∷ calls) a b c d moved e =
    bytes_by calls a b c d moved e
    ∙ same_counts _ _ _ _ _ _ _ _ (omega arith) (omega arith) (omega arith) (omega arith)
bytes_by (Clock event ∷ calls) a b c d moved e =
    bytes_by calls a b c d (clock_moved event moved) e
    ∙ same_counts _ _ _ _ _ _ _ _ (omega arith) (omega arith) (omega arith) (omega arith)
bytes_by (Pulled Bot buffer pull bytes ∷ calls) a b c d moved e =
    bytes_by calls (a + pulled_len pull) b c d (pull_moved Bot pull moved)
    (ap (pull_counted Bot pull) e ∙ (λ i. record (counts a b c d) { from_bot = added a (pulled_len pull) i }))
    ∙ same_counts _ _ _ _ _ _ _ _ (omega arith) (omega arith) (omega arith) (omega arith)
bytes_by (Pulled Server buffer pull bytes ∷ calls) a b c d moved e =
    bytes_by calls a (b + pulled_len pull) c d (pull_moved Server pull moved)
    (ap (pull_counted Server pull) e ∙ (λ i. record (counts a b c d) { from_server = added b (pulled_len pull) i }))
    ∙ same_counts _ _ _ _ _ _ _ _ (omega arith) (omega arith) (omega arith) (omega arith)
bytes_by (Offered Bot bytes put ∷ calls) a b c d moved e =
    bytes_by calls a b (c + put_len put) d (put_moved Bot put moved)
    (ap (put_counted Bot put) e ∙ (λ i. record (counts a b c d) { to_bot = added c (put_len put) i }))
    ∙ same_counts _ _ _ _ _ _ _ _ (omega arith) (omega arith) (omega arith) (omega arith)
bytes_by (Offered Server bytes put ∷ calls) a b c d moved e =
    bytes_by calls a b c (d + put_len put) (put_moved Server put moved)
    (ap (put_counted Server put) e ∙ (λ i. record (counts a b c d) { to_server = added d (put_len put) i }))
    ∙ same_counts _ _ _ _ _ _ _ _ (omega arith) (omega arith) (omega arith) (omega arith)

sum_append : (count : PortCall → ℕ) (xs ys : List PortCall) → sum_of count (xs ++ ys) ≡ sum_of count xs + sum_of count ys
sum_append count [] ys = omega arith
sum_append count (x ∷ xs) ys = let rest = sum_append count xs ys in omega (arith, rest)

-- the bytes of a history and of one more turn
pub bytes_then : (history calls : List PortCall) (moved : Moved) → moved.bytes ≡ bytes_of history →
    (moved_by calls moved).bytes ≡ bytes_of (history ++ TurnBegins ∷ calls)
bytes_then history calls moved e =
    bytes_by calls _ _ _ _ moved e
    ∙ same_counts _ _ _ _ _ _ _ _ (each (delivers Bot) refl) (each (delivers Server) refl) (each (takes Bot) refl)
    (each (takes Server) refl)
  where
    each : (count : PortCall → ℕ) → count TurnBegins ≡ 0 →
        sum_of count history + sum_of count calls ≡ sum_of count (history ++ TurnBegins ∷ calls)
    each count none = let all = sum_append count history (TurnBegins ∷ calls) in omega (arith, all, none)
