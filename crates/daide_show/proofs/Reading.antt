-- The bytes that a reader returned, over all reads.
use Rattle.std.proofs.Common.{zero, suc, ◌<◌, IfSome}
use Rattle.std.specs.Io.KnownBytes.{Consumes, Keeps, IsAtEnd}
use Rattle.daide_show.proofs.Common.{◌≡◌, ℕ, ◌+◌, ◌≤◌, take, List, [], ◌∷◌, ◌++◌, length, Option, Some, None}
use Rattle.daide_show.proofs.Common.{append-nil, append_assoc, length-append, arith, refl, subst, ap, sym, ◌∙◌}
use Rattle.daide_show.proofs.Common.{length-take-le, take-append-le, limit}
use Rattle.daide_show.specs.Input.{IsPartlyRead}

-- a prefix is at most as long as requested
pub front_few : (n : ℕ) (l : List ℕ) → length (take n l) ≤ n
front_few zero l = omega arith
front_few (suc n) [] = omega arith
front_few (suc n) (x ∷ l) = omega (arith, front_few n l)

-- one more piece
pub read_more : (old now new : Option (List ℕ)) (input piece : List ℕ) → Consumes old now input → Consumes now new piece
    → Consumes old new (input ++ piece)
read_more None now new input piece given more = tt
read_more (Some xs) None new input piece given more = absurd given
read_more (Some xs) (Some ys) None input piece given more = absurd more
read_more (Some xs) (Some ys) (Some zs) input piece given more =
    given ∙ ap (λ (rest : List ℕ). input ++ rest) more ∙ sym (append_assoc input piece zs)

-- no more bytes
pub none_more : (old now new : Option (List ℕ)) (input : List ℕ) → Consumes old now input → Consumes now new [] →
    Consumes old new input
none_more old now new input given more =
    subst (Consumes old new) (append-nil input) (read_more old now new input [] given more)

-- a failed read
pub kept_more : (old now new : Option (List ℕ)) (input : List ℕ) → Consumes old now input → Keeps now new →
    Consumes old new input
kept_more None now new input given kept = tt
kept_more (Some xs) None new input given kept = absurd given
kept_more (Some xs) (Some ys) None input given kept = absurd kept
kept_more (Some xs) (Some ys) (Some zs) input given kept = given ∙ ap (λ (rest : List ℕ). input ++ rest) (sym kept)

-- before the first turn
pub none_read : (old : Option (List ℕ)) (input : List ℕ) → input ≡ [] → IsPartlyRead old old input 0
none_read old (x ∷ input) e = absurd (cc)
none_read None [] e = record { given = tt; fits = omega arith; each_turn = omega arith }
none_read (Some xs) [] e = record { given = refl; fits = omega arith; each_turn = omega arith }

-- at the end, the input is all bytes of the reader
pub whole_input : (old now new : Option (List ℕ)) (input : List ℕ) → Consumes old now input → Consumes now new [] →
    IsAtEnd new
    → IfSome old (λ all. input ≡ all)
whole_input None now new input given last ended = tt
whole_input (Some xs) None new input given last ended = absurd given
whole_input (Some xs) (Some ys) None input given last ended = absurd last
whole_input (Some xs) (Some ys) (Some zs) input given last ended =
    let left : ys ≡ [] = last ∙ ended in
    sym (given ∙ ap (λ (rest : List ℕ). input ++ rest) left ∙ append-nil input)

-- one more piece beyond the limit makes the whole too long
pub longer_input : (old now new : Option (List ℕ)) (input piece : List ℕ) (limit : ℕ) → Consumes old now input →
    Consumes now new piece
    → limit < length input + length piece → IfSome old (λ all. limit < length all)
longer_input None now new input piece limit given more long = tt
longer_input (Some xs) None new input piece limit given more long = absurd given
longer_input (Some xs) (Some ys) None input piece limit given more long = absurd more
longer_input (Some xs) (Some ys) (Some zs) input piece limit given more long =
    omega (arith, ap length given, ap length more, length-append input ys, length-append piece zs)

-- one more turn, whose piece is at the front of the buffer
pub turn_more : (old now new : Option (List ℕ)) (input buf rest longer : List ℕ) (count turns : ℕ) →
    IsPartlyRead old now input turns → Consumes now new (take count buf) → longer ≡ input ++ take count (buf ++ rest)
    → count ≤ length buf → 0 < count → length input + count ≤ limit → IsPartlyRead old new longer (turns + 1)
turn_more old now new input buf rest longer count turns part more whole within some fits =
    let piece = take count buf in
    let joined : longer ≡ input ++ piece =
    whole ∙ ap (λ (l : List ℕ). input ++ l) (take-append-le count buf rest within) in
    let taken : length piece ≡ count = length-take-le count buf within in
    let long : length longer ≡ length input + length piece = ap length joined ∙ length-append input piece in
    let turned : turns ≤ length input = part.each_turn in
    record {
      given = subst (Consumes old new) (sym joined) (read_more old now new input piece part.given more);
      fits = omega arith;
      each_turn = omega arith;
    }
