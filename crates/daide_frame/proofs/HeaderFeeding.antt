-- A piece of a header that is fed all at once.
use Rattle.std.proofs.Common.{◌≡◌, ℕ, inr, ◌+◌, ◌<◌, ◌≤◌, List, [], ◌∷◌, ◌++◌, length, take, drop, refl, sym, ap, ◌∙◌}
use Rattle.std.proofs.Common.{arith, length-append, append_assoc, append-nil}
use Rattle.daide_frame.proofs.Common.{Step, More, IsFed}
use Rattle.daide_frame.specs.Frames.{last_items, fed, fed_items, step_of_events, items_of_step, head_in, missing, IsEnd, HoldsFrame}
use Rattle.daide_frame.proofs.FramesLemmas.{last_items-short}
use Rattle.daide_frame.proofs.FeedingLemmas.{fed-on, fed-one}

-- bytes are appended to the held ones, while there is no body
pub bytes_put : (have n : ℕ) (header new body piece : List ℕ) → body ≡ [] →
    take (have + n) new ≡ take have header ++ piece → take (have + n) new ++ body ≡ (take have header ++ body) ++ piece
bytes_put have n header new body piece b e =
    rw b (rw (append-nil (take (have + n) new)) (rw (append-nil (take have header)) e))

-- no event ends before the fourth byte
fed_header : (limit : ℕ) (old : List ℕ) (x : ℕ) (piece : List ℕ) → length old + length (x ∷ piece) ≤ 4 →
    (fed limit old (x ∷ piece) ≡ old ++ x ∷ piece) × (fed_items limit old (x ∷ piece) ≡ last_items limit (old ++ x ∷ piece))
fed_header limit old x [] h = fed-one limit old x
fed_header limit old x (y ∷ piece) h =
    let size = length-append old (x ∷ []) in
    let on = fed-on limit old x (y ∷ piece) (last_items-short limit (old ++ x ∷ []) (omega (arith, size))) in
    let next = fed_header limit (old ++ x ∷ []) y piece (omega (arith, size)) in
    let joined = append_assoc old (x ∷ []) (y ∷ piece) in
    (on.0 ∙ next.0 ∙ joined, on.1 ∙ next.1 ∙ ap (last_items limit) joined)

-- if the header is still incomplete
pub short_fed : (limit : ℕ) (old piece new : List ℕ) → new ≡ old ++ piece → length new < 4 →
    IsFed limit old piece More new
short_fed limit old [] new e h = record {
  bytes = e ∙ append-nil old;
  answer = refl;
  items = refl;
  whole = inr e;
  frame_bytes = tt;
  closed = λ k. absurd k;
}
short_fed limit old (x ∷ piece) new e h =
    let f = fed_header limit old x piece (omega (arith, h, ap length e, length-append old (x ∷ piece))) in
    let none : fed_items limit old (x ∷ piece) ≡ [] = f.1 ∙ ap (last_items limit) (sym e) ∙ last_items-short limit new h in
    record {
      bytes = e ∙ sym f.0;
      answer = ap step_of_events (sym none);
      items = none;
      whole = inr e;
      frame_bytes = tt;
      closed = λ k. absurd k;
    }

-- if the header is whole, by the event at its last byte
pub fourth_fed : (limit : ℕ) (old piece new : List ℕ) (step : Step) → length old < 4 → new ≡ old ++ piece →
    length new ≡ 4 → step_of_events (last_items limit new) ≡ step →
    last_items limit new ≡ items_of_step step (drop 4 new) →
    HoldsFrame step (head_in limit new) (drop 4 new) → (IsEnd step → missing limit new ≡ 0) →
    IsFed limit old piece step new
fourth_fed limit old [] new step less e h answer items frame_bytes closed =
    absurd (omega (arith, ap length e, length-append old []))
fourth_fed limit old (x ∷ piece) new step less e h answer items frame_bytes closed =
    let f = fed_header limit old x piece (omega (arith, h, ap length e, length-append old (x ∷ piece))) in
    let same = f.1 ∙ ap (last_items limit) (sym e) in
    record {
      bytes = e ∙ sym f.0;
      answer = sym answer ∙ ap step_of_events (sym same);
      items = same ∙ items;
      whole = inr e;
      frame_bytes = frame_bytes;
      closed = closed;
    }
