-- The bytes queued for a wire: the unsent bytes of all its frames.
use Rattle.std.proofs.lemmas.List.Sums.{sum_by-cons}
use Rattle.daide_channels.proofs.Common.{◌≡◌, ℕ, ◌-◌, ◌≤◌, List, [], ◌∷◌, length, drop, refl, arith, length-drop}
use Rattle.daide_channels.proofs.Common.{length-append, map, sum_by, Side, at, sent_bytes, QueuedFrame}
use Rattle.daide_channels.specs.Channels.{Fields, IsPartlySent, IsSound, answer_at, queued_bytes, frame_of_queued, frames_of, queued_frames_to}

-- the length of a queued frame
abbrev pub len_in : (Side → List ℕ) → QueuedFrame → ℕ
len_in answers item = length (queued_bytes answers item)

-- the bytes of all queued frames, less those already sent
all_queued : (to : Side) (a : Side → List ℕ) (items : List QueuedFrame) →
    sum_by (len_in a) items ≡ length (sent_bytes (map (frame_of_queued to a) items))
all_queued to a [] = refl
all_queued to a (item ∷ items) =
    let first = sum_by-cons (len_in a) item items in
    let rest = all_queued to a items in
    let both = length-append (queued_bytes a item) (sent_bytes (map (frame_of_queued to a) items)) in
    omega (arith, first, rest, both)

queued_in : (to : Side) (a : Side → List ℕ) (gone : ℕ) (items : List QueuedFrame) → IsPartlySent a gone items →
    (gone ≤ sum_by (len_in a) items)
    × (sum_by (len_in a) items - gone
    ≡ length (sent_bytes (frames_of to a (record { written = gone; items = items }))))
queued_in to a gone [] h = (omega (arith, h), omega (arith, h))
queued_in to a gone (item ∷ items) h =
    let all = sum_by-cons (len_in a) item items in
    let rest = all_queued to a items in
    let first = length-drop gone (queued_bytes a item) in
    let both = length-append (drop gone (queued_bytes a item)) (sent_bytes (map (frame_of_queued to a) items)) in
    (omega (arith, h, all), omega (arith, h, all, rest, first, both))

pub queued_len_is : (f : Fields) (to : Side) → IsSound f →
    ((at f.wires to).written ≤ sum_by (len_in (answer_at f.sides)) (at f.wires to).items)
    × (sum_by (len_in (answer_at f.sides)) (at f.wires to).items - (at f.wires to).written
    ≡ length (sent_bytes (queued_frames_to f to)))
queued_len_is f to i = queued_in to (answer_at f.sides) (at f.wires to).written (at f.wires to).items (i.begun to)
