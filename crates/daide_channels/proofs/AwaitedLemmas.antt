-- An answer is queued exactly if its side has one. The abstract value has the contents of the fields.
use Rattle.daide_channels.proofs.Common.{◌≡◌, ℕ, zero, suc, ◌+◌, ◌<◌, ◌≤◌, false, List, [], ◌∷◌, length, map, Option}
use Rattle.daide_channels.proofs.Common.{Some, None, refl, sym, ap, ◌∙◌, arith, is_some, ◌||◌, nat_lt, Side, Bot}
use Rattle.daide_channels.proofs.Common.{Server, Verdict, other, is_awaited, QueuedFrame, at, Receiver}
use Rattle.daide_channels.specs.Channels.{ReceiveState, Channels, Fields, IsSound, answer_at, answer_mark, arrival_of, drop_sent}
use Rattle.daide_channels.specs.Channels.{count_of, frame_of_queued, side_holding, pending, pending_by, presence, channels_of}
use Rattle.daide_channels.proofs.FrontLemmas.{waits_at}
use Rattle.daide_channels.proofs.MarksLemmas.{answers_wait, least, length_marks}
use Rattle.daide_channels.proofs.PartsLemmas.{below, not_below}

-- without a verdict at a side, neither queue holds an answer to it
pub silent : (f : Fields) (side to : Side) → IsSound f → (at f.sides side).verdict ≡ None →
    count_of (answer_mark side) (at f.wires to).items ≡ 0
silent f side Bot i free = omega (arith, i.once side ∙ ap presence free)
silent f side Server i free = omega (arith, i.once side ∙ ap presence free)

some_of : (m n : ℕ) (o : Option Verdict) → m + n ≡ presence o → (nat_lt 0 m || nat_lt 0 n) ≡ is_some o
some_of m n None e = rw (not_below 0 m (omega arith), not_below 0 n (omega arith)) refl
some_of zero n (Some verdict) e = rw (below 0 n (omega arith)) refl
some_of (suc m) n (Some verdict) e = rw (below 0 (suc m) (omega arith)) refl

awaited_is : (f : Fields) (side : Side) → IsSound f →
    is_awaited (at (channels_of f).queued) side ≡ is_some (at f.sides side).verdict
awaited_is f side i =
    rw (
      answers_wait side Bot (answer_at f.sides) f.wires.bot,
      answers_wait side Server (answer_at f.sides) f.wires.server,
    ) (some_of _ _ (at f.sides side).verdict (i.once side))

none_of : (o : Option Verdict) → is_some o ≡ false → o ≡ None
none_of None e = refl
none_of (Some verdict) e = absurd (cc)

-- The fields have the abstract value t, and a side is known: the contents of t for that side, and the limits.
pub record IsSeen (f : Fields) (t : Channels) (side one : Side) : Type 0 where
  pub is : channels_of f ≡ t
  pub sound : IsSound f
  pub its : side ≡ one
  pub cap : t.cap ≡ (at f.sides one).cap
  pub rules : t.rules ≡ (at f.sides one).rules
  pub arrival : at t.sides side ≡ arrival_of (at f.sides one)
  pub awaited : is_awaited (at t.queued) side ≡ is_some (at f.sides one).verdict

pub seen : {f : Fields} {t : Channels} {side one : Side} → IsSound f → channels_of f ≡ t → side ≡ one → IsSeen f t side one
seen {f} {t} {side} {one} i is s = record {
  is = is;
  sound = i;
  its = s;
  cap = sym (ap (λ (x : Channels). x.cap) is) ∙ cap one;
  rules = sym (ap (λ (x : Channels). x.rules) is) ∙ ruled one;
  arrival = sym (ap (λ (x : Channels). at x.sides side) is) ∙ ap (λ (x : Side). at (channels_of f).sides x) s ∙ shown one;
  awaited = sym (ap (λ (x : Channels). is_awaited (at x.queued) side) is) ∙ awaited_is f side i
      ∙ ap (λ (x : Side). is_some (at f.sides x).verdict) s;
}
  where
    cap : (x : Side) → f.sides.bot.cap ≡ (at f.sides x).cap
    cap Bot = refl
    cap Server = sym i.same_cap

    ruled : (x : Side) → f.sides.bot.rules ≡ (at f.sides x).rules
    ruled Bot = refl
    ruled Server = sym i.same_rules

    shown : (x : Side) → at (channels_of f).sides x ≡ arrival_of (at f.sides x)
    shown Bot = refl
    shown Server = refl

-- The contents of the abstract value for a side that was selected by its name, and the limits.
pub record IsPicked (own : Receiver) (t : Channels) (side : Side) : Type 0 where
  pub cap : t.cap ≡ own.cap
  pub rules : t.rules ≡ own.rules
  pub arrival : at t.sides side ≡ arrival_of own
  pub awaited : is_awaited (at t.queued) side ≡ is_some own.verdict

pub picked : {f : Fields} {t : Channels} {side : Side} {own : Receiver} → IsSound f → channels_of f ≡ t →
    own ≡ at f.sides side → IsPicked own t side
picked {f} {t} {side} {own} i is e =
    let h : IsSeen f t side side = seen i is refl in
    record {
      cap = h.cap ∙ ap (λ (x : Receiver). x.cap) (sym e);
      rules = h.rules ∙ ap (λ (x : Receiver). x.rules) (sym e);
      arrival = h.arrival ∙ ap arrival_of (sym e);
      awaited = h.awaited ∙ ap (λ (x : Receiver). is_some x.verdict) (sym e);
    }

-- the queue holds as many frames as the abstract value shows
pub waits_len : {f : Fields} {t : Channels} {side one : Side} → IsSeen f t side one →
    length (at f.wires one).items ≡ length (at t.queued side)
waits_len {f} {t} {side} {one} h =
    sym (counted (at f.wires one).written (at f.wires one).items) ∙ ap length (sym (waits_at f one))
    ∙ ap (λ (s : Side). length (at (channels_of f).queued s)) (sym h.its)
    ∙ ap (λ (v : Channels). length (at v.queued side)) h.is
  where
    mapped : (items : List QueuedFrame) → length (map (frame_of_queued one (answer_at f.sides)) items) ≡ length items
    mapped [] = refl
    mapped (x ∷ items) = ap suc (mapped items)

    counted : (n : ℕ) (items : List QueuedFrame) →
        length (drop_sent n (map (frame_of_queued one (answer_at f.sides)) items)) ≡ length items
    counted n [] = refl
    counted n (x ∷ items) = ap suc (mapped items)

-- The same if no answer to the side's frame is queued: the held bytes are those since the last whole frame.
pub record IsSeenFree (f : Fields) (t : Channels) (side one : Side) : Type 0 where
  pub seen : IsSeen f t side one
  pub free : (at f.sides one).verdict ≡ None
  pub pending : pending t side ≡ (at f.sides one).frame_bytes

pub seen_free : {f : Fields} {t : Channels} {side one : Side} → IsSound f → channels_of f ≡ t → side ≡ one →
    is_awaited (at t.queued) side ≡ false → IsSeenFree f t side one
seen_free {f} {t} {side} {one} i is s none =
    let h : IsSeen f t side one = seen i is s in
    let free = none_of (at f.sides one).verdict (sym h.awaited ∙ none) in
    record {
      seen = h;
      free = free;
      pending = ap (λ (a : ReceiveState). a.coming.pending) h.arrival
          ∙ ap (λ (o : Option Verdict). pending_by o (at f.sides one).frame_bytes) free;
    }

-- if no answer is queued, the held bytes are those since the last whole frame
pub tied : {f : Fields} {t : Channels} {side one : Side} → IsSound f → channels_of f ≡ t → side ≡ one →
    is_awaited (at t.queued) side ≡ false → (side_holding t side).frame_bytes ≡ pending t side
tied {f} {t} {side} {one} i is s none =
    let h : IsSeenFree f t side one = seen_free i is s none in
    ap (λ (a : ReceiveState). a.holding.frame_bytes) h.seen.arrival ∙ sym h.pending

-- a side without an answer leaves a free entry in each queue
pub reply_room : {f : Fields} {t : Channels} {side one : Side} → IsSeenFree f t side one → (to : Side) →
    length (at f.wires to).items < 3
reply_room {f} {t} {side} {one} h to = go one (silent f one to i h.free) (most to)
  where
    i : IsSound f
    i = h.seen.sound

    most : (wire : Side) → count_of (answer_mark (other one)) (at f.wires wire).items ≤ 1
    most Bot = omega (arith, i.once (other one), least (at f.sides (other one)).verdict)
    most Server = omega (arith, i.once (other one), least (at f.sides (other one)).verdict)

    go : (one : Side) → count_of (answer_mark one) (at f.wires to).items ≡ 0 →
        count_of (answer_mark (other one)) (at f.wires to).items ≤ 1 → length (at f.wires to).items < 3
    go Bot e l = omega (arith, length_marks (at f.wires to).items, i.ends to)
    go Server e l = omega (arith, length_marks (at f.wires to).items, i.ends to)
