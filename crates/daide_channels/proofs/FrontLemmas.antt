-- The next chunk of a wire is a front of the first frame queued for it.
use Rattle.daide_channels.proofs.Common.{◌≡◌, ℕ, ◌-◌, ◌<◌, ◌≤◌, Bool, true, false, List, [], ◌∷◌, length, drop, Some}
use Rattle.daide_channels.proofs.Common.{None, refl, sym, ap, ◌∙◌, subst, arith, length-drop, append-nil, nat_lt, Side}
use Rattle.daide_channels.proofs.Common.{Bot, Server, first_len, parts_after, QueuedFrame, Answer, Em, Fm, PerSide, at}
use Rattle.daide_channels.proofs.Common.{Receiver, front_after, front_in, answer_parts, Queue, first_of}
use Rattle.daide_protocol.specs.Machine.{em_bytes, fm_bytes}
use Rattle.daide_protocol.specs.Wires.{IsFrontOf, next_part}
use Rattle.daide_channels.specs.Channels.{Fields, IsPartlySent, IsSound, Channels, answer_at, queued_bytes, frames_of, queued_frames_to}
use Rattle.daide_channels.specs.Channels.{parts_left, parts_to, size_of_first, channels_of}
use Rattle.daide_channels.proofs.PartsLemmas.{front_of_answer, is_below, is_not_below}

pub waits_at : (f : Fields) (to : Side) → at (channels_of f).queued to ≡ queued_frames_to f to
waits_at f Bot = refl
waits_at f Server = refl

pub parts_at : (f : Fields) (to : Side) → at (channels_of f).parts to ≡ parts_to f to
parts_at f Bot = refl
parts_at f Server = refl

-- ---- lengths

begun_in : (a : Side → List ℕ) (gone : ℕ) (items : List QueuedFrame) → IsPartlySent a gone items → gone ≤ size_of_first a items
begun_in a gone [] h = omega (arith, h)
begun_in a gone (item ∷ items) h = omega (arith, h)

pub begun_within : (f : Fields) (to : Side) → IsSound f →
    (at f.wires to).written ≤ size_of_first (answer_at f.sides) (at f.wires to).items
begun_within f to i = begun_in (answer_at f.sides) (at f.wires to).written (at f.wires to).items (i.begun to)

left_of : (to : Side) (a : Side → List ℕ) (gone : ℕ) (items : List QueuedFrame) →
    size_of_first a items - gone ≡ first_len (frames_of to a (record { written = gone; items = items }))
left_of to a gone [] = omega arith
left_of to a gone (item ∷ items) = sym (length-drop gone (queued_bytes a item))

pub first_len_is : (f : Fields) (to : Side) →
    size_of_first (answer_at f.sides) (at f.wires to).items - (at f.wires to).written ≡ first_len (queued_frames_to f to)
first_len_is f to = left_of to (answer_at f.sides) (at f.wires to).written (at f.wires to).items

none_in : (to : Side) (a : Side → List ℕ) (gone : ℕ) (items : List QueuedFrame) → IsPartlySent a gone items →
    size_of_first a items - gone ≡ 0 → frames_of to a (record { written = gone; items = items }) ≡ []
none_in to a gone [] h e = refl
none_in to a gone (item ∷ items) h e = absurd (omega (arith, h, e))

-- a queued frame has at least one unsent byte
pub none_left : (f : Fields) (to : Side) → IsSound f →
    size_of_first (answer_at f.sides) (at f.wires to).items - (at f.wires to).written ≡ 0 → queued_frames_to f to ≡ []
none_left f to i e = none_in to (answer_at f.sides) (at f.wires to).written (at f.wires to).items (i.begun to) e

-- ---- fronts

-- the rest of the first frame, or of the part of an answer that is being sent
abbrev pub front_of : PerSide Receiver → ℕ → List QueuedFrame → List ℕ
front_of sides gone [] = []
front_of sides gone (Answer side ∷ items) = front_after (at sides side) gone
front_of sides gone (Fm ∷ items) = drop gone fm_bytes
front_of sides gone (Em code ∷ items) = drop gone (em_bytes code)

next_alone : (part : List ℕ) → part ≡ next_part (part ∷ [])
next_alone [] = refl
next_alone (x ∷ part) = refl

next_some : (part : List ℕ) (parts : List (List ℕ)) → 0 < length part → part ≡ next_part (part ∷ parts)
next_some [] parts h = absurd (omega (arith, h))
next_some (x ∷ part) parts h = refl

next_none : (part : List ℕ) (parts : List (List ℕ)) → length part ≡ 0 → next_part parts ≡ next_part (part ∷ parts)
next_none [] parts h = refl
next_none (x ∷ part) parts h = absurd (omega (arith, h))

-- the part that contains an offset is the first of the parts that are left after it
front_is_next : (parts : List (List ℕ)) (gone : ℕ) → front_in parts gone ≡ next_part (parts_after gone parts)
front_is_next [] gone = refl
front_is_next (part ∷ parts) gone =
    by_place (nat_lt gone (length part)) refl (front_is_next parts (gone - length part))
  where
    by_place : (k : Bool) → nat_lt gone (length part) ≡ k →
        front_in parts (gone - length part) ≡ next_part (parts_after (gone - length part) parts) →
        front_in (part ∷ parts) gone ≡ next_part (parts_after gone (part ∷ parts))
    by_place true e later =
        let here = is_below gone (length part) e in
        rw e (next_some (drop gone part) (parts_after (gone - length part) parts)
        (omega (arith, here, length-drop gone part)))
    by_place false e later =
        let past = is_not_below gone (length part) e in
        rw e (later ∙ next_none (drop gone part) (parts_after (gone - length part) parts)
        (omega (arith, past, length-drop gone part)))

next_left : (sides : PerSide Receiver) (gone : ℕ) (items : List QueuedFrame) →
    front_of sides gone items ≡ next_part (parts_left sides gone items)
next_left sides gone [] = refl
next_left sides gone (Answer side ∷ items) = front_is_next (answer_parts (at sides side)) gone
next_left sides gone (Fm ∷ items) = next_alone (drop gone fm_bytes)
next_left sides gone (Em code ∷ items) = next_alone (drop gone (em_bytes code))

front_is : (sides : PerSide Receiver) (to : Side) (gone : ℕ) (items : List QueuedFrame) → IsPartlySent (answer_at sides) gone items →
    IsFrontOf (front_of sides gone items) (frames_of to (answer_at sides) (record { written = gone; items = items }))
front_is sides to gone [] h = refl
front_is sides to gone (Answer side ∷ items) h =
    let i = at sides side in
    let f = front_of_answer i.header (drop 4 i.frame_bytes) i.verdict gone h in
    (f.some, (f.rest, f.front))
front_is sides to gone (Fm ∷ items) h =
    (omega (arith, length-drop gone fm_bytes, h), ([], sym (append-nil (drop gone fm_bytes))))
front_is sides to gone (Em code ∷ items) h =
    (omega (arith, length-drop gone (em_bytes code), h), ([], sym (append-nil (drop gone (em_bytes code)))))

-- only the first frame decides it
pub front_some : (sides : PerSide Receiver) (gone : ℕ) (items : List QueuedFrame) (item : QueuedFrame) → first_of items
    ≡ Some item →
    front_of sides gone (item ∷ []) ≡ front_of sides gone items
front_some sides gone [] item e = absurd (cc)
front_some sides gone (one ∷ items) item e =
    let same : item ≡ one = cc in
    ap (λ (x : QueuedFrame). front_of sides gone (x ∷ [])) same ∙ alone one
  where
    alone : (x : QueuedFrame) → front_of sides gone (x ∷ []) ≡ front_of sides gone (x ∷ items)
    alone (Answer side) = refl
    alone Fm = refl
    alone (Em code) = refl

pub front_none : (sides : PerSide Receiver) (gone : ℕ) (items : List QueuedFrame) → first_of items ≡ None →
    [] ≡ front_of sides gone items
front_none sides gone [] e = refl
front_none sides gone (one ∷ items) e = absurd (cc)

-- the contract of `front` for the returned bytes; t is the abstract value of the fields
pub record IsFrontFor (t : Channels) (to : Side) (xs : List ℕ) : Type 0 where
  pub value : xs ≡ next_part (at t.parts to)
  pub front : IsFrontOf xs (at t.queued to)

pub front_for : (f : Fields) (t : Channels) (to : Side) (q : Queue) (xs : List ℕ) → channels_of f ≡ t → IsSound f →
    q ≡ at f.wires to → xs ≡ front_of f.sides q.written q.items → IsFrontFor t to xs
front_for f t to q xs is i wire e =
    subst (λ (v : Channels). IsFrontFor v to xs) is (record {
      value = same ∙ (next_left f.sides (at f.wires to).written (at f.wires to).items
          ∙ ap next_part (sym (parts_at f to)));
      front = rw (waits_at f to) (subst (λ (ys : List ℕ). IsFrontOf ys (queued_frames_to f to)) (sym same)
          (front_is f.sides to (at f.wires to).written (at f.wires to).items (i.begun to)));
    })
  where
    same : xs ≡ front_of f.sides (at f.wires to).written (at f.wires to).items
    same = e ∙ ap (λ (p : Queue). front_of f.sides p.written p.items) wire
