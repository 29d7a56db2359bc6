-- A side's frame changes, and no answer to it is queued before or after.
use Rattle.std.proofs.Common.{◌⊎◌}
use Rattle.daide_channels.proofs.Common.{◌≡◌, ℕ, ◌*◌, ◌<◌, ◌≤◌, List, [], ◌++◌, length, drop, Option, None, Some, refl}
use Rattle.daide_channels.proofs.Common.{sym, ap, ◌∙◌, subst, arith, Side, Bot, Server, Head, fed, head_in, Level}
use Rattle.daide_channels.proofs.Common.{other, destination, IsRaised, Verdict, PerSide, at, put, Answers, Receiver}
use Rattle.daide_channels.proofs.Common.{StartsFrame, ReadsMessageBytes, whole_answer, tokens_ended, Queue, put_all}
use Rattle.daide_frame.specs.declared.cutter.Step.{Step}
use Rattle.daide_frame.specs.Frames.{fed_items, items_of_step, missing, IsFault, HoldsFrame}
use Rattle.daide_channels.specs.Channels.{ReceiveState, Channels, Fields, IsSound, IsAnswered, IsCleared, IsGrown}
use Rattle.daide_channels.specs.Channels.{IsStarted, Keeps, answer_at, answer_mark, arrival_of, count_of, side_holding}
use Rattle.daide_channels.specs.Channels.{pending, pending_by, presence, channels_of}
use Rattle.daide_channels.proofs.AwaitedLemmas.{IsSeen, IsSeenFree, silent}
use Rattle.daide_channels.proofs.MarksLemmas.{agree_put, same_begun, same_both}

abbrev pub with_side : Fields → Side → Receiver → Fields
with_side f side x = record { sides = put f.sides side x; wires = f.wires }

-- the receiver belongs to the same side as before
pub record IsSameSide (old new : Receiver) : Type 0 where
  pub side : new.side ≡ old.side
  pub cap : new.cap ≡ old.cap
  pub rules : new.rules ≡ old.rules

-- each call keeps the side
pub same_if_begun : {old new : Receiver} {level : Level} {bytes : List ℕ} → StartsFrame old level bytes new →
    IsSameSide old new
same_if_begun b = record { side = b.side; cap = b.cap; rules = b.rules }

pub same_if_read : {old new : Receiver} {bytes : List ℕ} → ReadsMessageBytes old bytes new → IsSameSide old new
same_if_read r = record { side = r.side; cap = r.cap; rules = r.rules }

pub same_if_answered : {old new : Receiver} {head : Head} {verdict : Verdict} → Answers old head verdict new →
    IsSameSide old new
same_if_answered a = record { side = a.side; cap = a.cap; rules = a.rules }

pub its_sides : (f : Fields) (side one : Side) (x : Receiver) → IsSound f → IsSameSide (at f.sides side) x →
    (at (put f.sides side x) one).side ≡ one
its_sides f side one x i e =
    put_all (λ (s : Side) (y : Receiver). y.side ≡ s) f.sides side x (e.side ∙ i.its_side side) i.its_side one

pub caps : (f : Fields) (side : Side) (x : Receiver) → IsSound f → IsSameSide (at f.sides side) x →
    (put f.sides side x).server.cap ≡ (put f.sides side x).bot.cap
caps f Bot x i e = i.same_cap ∙ sym e.cap
caps f Server x i e = e.cap ∙ i.same_cap

pub rules_alike : (f : Fields) (side : Side) (x : Receiver) → IsSound f → IsSameSide (at f.sides side) x →
    (put f.sides side x).server.rules ≡ (put f.sides side x).bot.rules
rules_alike f Bot x i e = i.same_rules ∙ sym e.rules
rules_alike f Server x i e = e.rules ∙ i.same_rules

pub sound_side : {f : Fields} {t : Channels} {given side : Side} (x : Receiver) → IsSeenFree f t given side →
    IsSameSide (at f.sides side) x → x.verdict ≡ None → IsSound (with_side f side x)
sound_side {f} {t} {given} {side} x h e none = record {
  its_side = λ one. its_sides f side one x i e;
  same_cap = caps f side x i e;
  same_rules = rules_alike f side x i e;
  once = λ one. i.once one ∙ sym (ap presence (put_all (λ (s : Side) (y : Receiver). y.verdict ≡ (at f.sides s).verdict)
      f.sides side x (none ∙ sym h.free) (λ s. refl) one));
  aimed = λ one to verdict. put_all (λ (s : Side) (y : Receiver). y.verdict ≡ Some verdict →
      0 < count_of (answer_mark s) (at f.wires to).items → to ≡ destination s verdict) f.sides side x
      (λ given some. absurd (let bad = sym none ∙ given in cc)) (λ s. i.aimed s to verdict) one;
  ends = i.ends;
  filled = put_all (λ (s : Side) (y : Receiver). presence y.verdict ≡ 1 → 0 < length (whole_answer y)) f.sides side x
      (none_there x.verdict none) i.filled;
  headed = put_all (λ (s : Side) (y : Receiver). presence y.verdict ≡ 1 → length y.header ≡ 4) f.sides side x
      (none_there x.verdict none) i.headed;
  begun = λ to. same_begun (answer_at f.sides) (answer_at (put f.sides side x)) (at f.wires to).written
      (at f.wires to).items (agree_put f.sides side x (at f.wires to).items (silent f side to i h.free)) (i.begun to);
}
  where
    i : IsSound f
    i = h.seen.sound

    none_there : {A : Type 0} → (o : Option Verdict) → o ≡ None → presence o ≡ 1 → A
    none_there o e h = let bad = rw e at h in absurd (omega arith)

-- the fields stay sound after a frame starts anew, and after more of its message was read
pub begun_sound : {f : Fields} {t : Channels} {given side : Side} {x : Receiver} {level : Level} {bytes : List ℕ} →
    IsSeenFree f t given side → StartsFrame (at f.sides side) level bytes x → IsSound (with_side f side x)
begun_sound {x = x} h b = sound_side x h (same_if_begun b) b.unanswered

pub read_sound : {f : Fields} {t : Channels} {given side : Side} {x : Receiver} {bytes : List ℕ} →
    IsSeenFree f t given side → ReadsMessageBytes (at f.sides side) bytes x → IsSound (with_side f side x)
read_sound {x = x} h r = sound_side x h (same_if_read r) r.unanswered

-- a side's room
pub fits_side : {f : Fields} {t : Channels} {side one : Side} (n : ℕ) → IsSeenFree f t side one →
    n ≤ missing t.cap (pending t side) → n ≤ missing (at f.sides one).cap (at f.sides one).frame_bytes
fits_side {f} {t} {side} {one} n h l = rw (h.seen.cap, h.pending) at l

-- the queues stay the same
pub waiting_side : {f : Fields} {t : Channels} {side one : Side} (x : Receiver) → IsSeenFree f t side one →
    (channels_of (with_side f one x)).queued ≡ t.queued
waiting_side {f} {t} {side} {one} x h =
    same_both (answer_at f.sides) (answer_at (put f.sides one x)) f.wires
    (λ to. agree_put f.sides one x (at f.wires to).items (silent f one to h.seen.sound h.free))
    ∙ ap (λ (v : Channels). v.queued) h.seen.is

-- ---- with an abstract value t of the fields, and a known side

-- the same with other queues too
abbrev pub with_both : Fields → Side → Receiver → PerSide Queue → Fields
with_both f side x w = record { sides = put f.sides side x; wires = w }

arrived_both : (f : Fields) (side one : Side) (x : Receiver) (w : PerSide Queue) → side ≡ one →
    at (channels_of (with_both f one x w)).sides side ≡ arrival_of x
arrived_both f side one x w s = ap (at (channels_of (with_both f one x w)).sides) s ∙ go one
  where
    go : (here : Side) → at (channels_of (with_both f here x w)).sides here ≡ arrival_of x
    go Bot = refl
    go Server = refl

pub arrived : (f : Fields) (side one : Side) (x : Receiver) → side ≡ one →
    at (channels_of (with_side f one x)).sides side ≡ arrival_of x
arrived f side one x s = arrived_both f side one x f.wires s

pub cap_kept : (f : Fields) (t : Channels) (side : Side) (x : Receiver) → channels_of f ≡ t → x.cap
    ≡ (at f.sides side).cap →
    (channels_of (with_side f side x)).cap ≡ t.cap
cap_kept f t Bot x is e = e ∙ ap (λ (v : Channels). v.cap) is
cap_kept f t Server x is e = ap (λ (v : Channels). v.cap) is

-- the limits and the other side's receive state are unchanged
pub keeps_side : {f : Fields} {t : Channels} {side one : Side} (x : Receiver) (w : PerSide Queue) → IsSeen f t side one →
    IsSameSide (at f.sides one) x → Keeps side t (channels_of (with_both f one x w))
keeps_side {f} {t} {side} {one} x w h e = record {
  cap = cap_kept f t one x h.is e.cap;
  rules = ruled one e.rules ∙ ap (λ (v : Channels). v.rules) h.is;
  other_side = ap (λ (s : Side). at (channels_of (with_both f one x w)).sides (other s)) h.its ∙ there one
      ∙ ap (λ (s : Side). at (channels_of f).sides (other s)) (sym h.its)
      ∙ ap (λ (v : Channels). at v.sides (other side)) h.is;
}
  where
    ruled : (here : Side) → x.rules ≡ (at f.sides here).rules →
        (channels_of (with_both f here x w)).rules ≡ (channels_of f).rules
    ruled Bot same = same
    ruled Server same = refl

    there : (here : Side) →
        at (channels_of (with_both f here x w)).sides (other here) ≡ at (channels_of f).sides (other here)
    there Bot = refl
    there Server = refl

-- the look-up count in a side's table
total_side : {f : Fields} {t : Channels} {side one : Side} → IsSeen f t side one →
    (at f.sides one).total ≡ (side_holding t side).total
total_side h = sym (ap (λ (a : ReceiveState). a.holding.total) h.arrival)

total_both : {f : Fields} {t : Channels} {side one : Side} (x : Receiver) (w : PerSide Queue) → IsSeen f t side one →
    x.total ≡ (side_holding (channels_of (with_both f one x w)) side).total
total_both {f} {t} {side} {one} x w h =
    sym (ap (λ (a : ReceiveState). a.holding.total) (arrived_both f side one x w h.its))

pub raised_side : {f : Fields} {t : Channels} {side one : Side} (n : ℕ) (x : Receiver) (w : PerSide Queue) →
    IsSeen f t side one → IsRaised n (at f.sides one).total x.total →
    IsRaised n (side_holding t side).total (side_holding (channels_of (with_both f one x w)) side).total
raised_side {f} {t} {side} {one} n x w h r =
    subst (λ (m : ℕ). IsRaised n m (side_holding (channels_of (with_both f one x w)) side).total) (total_side h)
    (subst (λ (m : ℕ). IsRaised n (at f.sides one).total m) (total_both x w h) r)

-- the count rises only by the look-ups for the tokens that a piece completes
pub raised_ended : {f : Fields} {t : Channels} {side one : Side} (piece : List ℕ) (x : Receiver) (w : PerSide Queue) →
    IsSeenFree f t side one →
    IsRaised (4 * tokens_ended (at f.sides one).cap (at f.sides one).frame_bytes piece) (at f.sides one).total x.total →
    IsRaised (4 * tokens_ended t.cap (pending t side) piece) (side_holding t side).total
    (side_holding (channels_of (with_both f one x w)) side).total
raised_ended {f} {t} {side} {one} piece x w h r =
    raised_side (4 * tokens_ended t.cap (pending t side) piece) x w h.seen (rw (h.seen.cap, h.pending) r)

pub unasked_side : {f : Fields} {t : Channels} {side one : Side} (x : Receiver) (w : PerSide Queue) → IsSeen f t side one →
    x.total ≡ (at f.sides one).total →
    (side_holding (channels_of (with_both f one x w)) side).total ≡ (side_holding t side).total
unasked_side x w h e = sym (total_both x w h) ∙ e ∙ total_side h

-- how many of the side's tokens the HLO scan has read
pub looked_side : {f : Fields} {t : Channels} {side one : Side} (n : ℕ) (x : Receiver) (w : PerSide Queue) →
    IsSeen f t side one → IsRaised n (at f.sides one).looked_at x.looked_at →
    IsRaised n (side_holding t side).looked_at (side_holding (channels_of (with_both f one x w)) side).looked_at
looked_side {f} {t} {side} {one} n x w h r =
    subst (λ (m : ℕ). IsRaised n m (side_holding (channels_of (with_both f one x w)) side).looked_at)
    (sym (ap (λ (a : ReceiveState). a.holding.looked_at) h.arrival))
    (subst (λ (m : ℕ). IsRaised n (at f.sides one).looked_at m)
    (sym (ap (λ (a : ReceiveState). a.holding.looked_at) (arrived_both f side one x w h.its))) r)

pub pending_arrived : (f : Fields) (side one : Side) (x : Receiver) → side ≡ one → x.verdict ≡ None →
    pending (channels_of (with_side f one x)) side ≡ x.frame_bytes
pending_arrived f side one x s none =
    ap (λ (a : ReceiveState). a.coming.pending) (arrived f side one x s)
    ∙ ap (λ (o : Option Verdict). pending_by o x.frame_bytes) none

-- the frame starts anew
pub started_of : (old new : Receiver) (level : Level) → old.verdict ≡ None → StartsFrame old level old.frame_bytes new →
    IsStarted (arrival_of old) level (arrival_of new)
started_of old new level free b = record {
  coming = rw (b.unanswered, free, b.frame_bytes, b.level_set) refl;
  frame_bytes = b.frame_bytes;
  total = b.total;
  base = b.base;
  looked_at = b.looked_at;
}

pub started : {f : Fields} {t : Channels} {side one : Side} {x : Receiver} {level : Level} → IsSeenFree f t side one →
    StartsFrame (at f.sides one) level (at f.sides one).frame_bytes x →
    IsStarted (at t.sides side) level (at (channels_of (with_side f one x)).sides side)
started {f} {t} {side} {one} {x} {level} h b =
    rw (h.seen.arrival, arrived f side one x h.seen.its) (started_of (at f.sides one) x level h.free b)

-- the frame has more bytes
grown_of : (old new : Receiver) (bytes : List ℕ) → old.verdict ≡ None → ReadsMessageBytes old bytes new →
    IsGrown old.cap (arrival_of old) bytes (arrival_of new)
grown_of old new bytes free r = record {
  coming = rw (r.unanswered, r.frame_bytes, r.level) refl;
  frame_bytes = r.frame_bytes;
  held_before = sym (ap (λ (o : Option Verdict). pending_by o old.frame_bytes) free);
  base = r.base;
  no_message = r.no_message;
  bodiless = r.bodiless;
  uncounted = rw free r.uncounted;
}

pub grown : {f : Fields} {t : Channels} {side one : Side} (x : Receiver) (piece : List ℕ) → IsSeenFree f t side one →
    ReadsMessageBytes (at f.sides one) (fed (at f.sides one).cap (at f.sides one).frame_bytes piece) x →
    IsGrown t.cap (at t.sides side) (fed t.cap (pending t side) piece) (at (channels_of (with_side f one x)).sides side)
grown {f} {t} {side} {one} x piece h r =
    rw (h.pending, h.seen.arrival, arrived f side one x h.seen.its, h.seen.cap)
    (grown_of (at f.sides one) x (fed (at f.sides one).cap (at f.sides one).frame_bytes piece) h.free r)

-- the step returned for the piece
pub record IsReportedOf (cap : ℕ) (bytes piece : List ℕ) (step : Step) (new_bytes : List ℕ) : Type 0 where
  pub items : fed_items cap bytes piece ≡ items_of_step step (drop 4 new_bytes)
  pub whole : IsFault step ⊎ (new_bytes ≡ bytes ++ piece)

pub told_of : {f : Fields} {t : Channels} {side one : Side} (x : Receiver) (piece : List ℕ) (step : Step) →
    IsSeenFree f t side one → ReadsMessageBytes (at f.sides one) (fed (at f.sides one).cap (at f.sides one).frame_bytes piece) x →
    IsReportedOf (at f.sides one).cap (at f.sides one).frame_bytes piece step x.frame_bytes →
    IsReportedOf t.cap (pending t side) piece step (pending (channels_of (with_side f one x)) side)
told_of {f} {t} {side} {one} x piece step h r reported =
    rw (pending_arrived f side one x h.seen.its r.unanswered, h.pending, h.seen.cap) reported

-- what is held at a step is the side's
pub held_side : {f : Fields} {t : Channels} {side one : Side} {x : Receiver} {bytes : List ℕ} (step : Step) →
    IsSeenFree f t side one → ReadsMessageBytes (at f.sides one) bytes x →
    HoldsFrame step (head_in x.cap x.frame_bytes) (drop 4 x.frame_bytes) →
    HoldsFrame step (head_in (channels_of (with_side f one x)).cap (pending (channels_of (with_side f one x)) side))
    (drop 4 (pending (channels_of (with_side f one x)) side))
held_side {f} {t} {side} {one} {x} {bytes} step h r frame_bytes =
    subst (λ (b : List ℕ). HoldsFrame step (head_in (channels_of (with_side f one x)).cap b) (drop 4 b))
    (sym (pending_arrived f side one x h.seen.its r.unanswered))
    (subst (λ (n : ℕ). HoldsFrame step (head_in n x.frame_bytes) (drop 4 x.frame_bytes))
    (r.cap ∙ sym h.seen.cap ∙ sym (cap_kept f t one x h.seen.is r.cap)) frame_bytes)

-- the frame was dropped
cleared_of : (old new : Receiver) → StartsFrame old old.level [] new → IsCleared (arrival_of old) (arrival_of new)
cleared_of old new b = record {
  coming = rw (b.unanswered, b.frame_bytes, b.level_set) refl;
  frame_bytes = b.frame_bytes;
  total = b.total;
  base = b.base;
  looked_at = b.looked_at;
}

pub cleared : {f : Fields} {t : Channels} {side one : Side} {x : Receiver} → IsSeen f t side one →
    StartsFrame (at f.sides one) (at f.sides one).level [] x →
    IsCleared (at t.sides side) (at (channels_of (with_side f one x)).sides side)
cleared {f} {t} {side} {one} {x} h b =
    rw (h.arrival, arrived f side one x h.its) (cleared_of (at f.sides one) x b)

-- the frame has its answer
answered_of : (old new : Receiver) (head : Head) (verdict : Verdict) → Answers old head verdict new →
    IsAnswered (arrival_of old) (arrival_of new)
answered_of old new head verdict a = record {
  coming = rw (a.verdict_set, a.level) refl;
  frame_bytes = a.frame_bytes;
  base = a.base;
  looked_at = a.looked_at;
}

pub answered : {f : Fields} {t : Channels} {side one : Side} {x : Receiver} {head : Head} {verdict : Verdict}
    (w : PerSide Queue) → IsSeen f t side one → Answers (at f.sides one) head verdict x →
    IsAnswered (at t.sides side) (at (channels_of (with_both f one x w)).sides side)
answered {f} {t} {side} {one} {x} {head} {verdict} w h a =
    rw (h.arrival, arrived_both f side one x w h.its) (answered_of (at f.sides one) x head verdict a)
