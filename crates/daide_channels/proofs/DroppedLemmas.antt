-- The first frame queued for a wire is removed. If it was an answer, the frame of that answer is cleared.
use Rattle.daide_channels.proofs.Common.{◌≡◌, ℕ, ◌+◌, ◌<◌, ◌≤◌, Bool, true, false, List, [], ◌∷◌, length, map, Option}
use Rattle.daide_channels.proofs.Common.{Some, None, refl, sym, ap, ◌∙◌, subst, arith, drop, is_some, if◌then◌else◌}
use Rattle.daide_channels.proofs.Common.{Side, Bot, Server, Verdict, other, Sent, destination, is_answer, parts_after}
use Rattle.daide_channels.proofs.Common.{QueuedFrame, Answer, Em, Fm, PerSide, at, put, StartsFrame, Receiver}
use Rattle.daide_channels.proofs.Common.{whole_answer, answer_parts, Queue, first_of, tail_of, at_put, put_all}
use Rattle.daide_channels.specs.Fronts.{AreAnswerParts, AreFresh}
use Rattle.daide_channels.specs.Channels.{ReceiveState, Fields, IsPartlySent, IsReleased, IsSound, ReleasesFrames, Channels, answer_at, answer_mark}
use Rattle.daide_channels.specs.Channels.{answered_by, arrival_of, drop_sent, count_of, final_frame_mark, frame_of_queued, frames_of}
use Rattle.daide_channels.specs.Channels.{others, parts_left, pending_by, presence, channels_of}
use Rattle.daide_channels.proofs.AwaitedLemmas.{IsSeen, seen}
use Rattle.daide_frame.proofs.PerSideLemmas.{both_same, put_each, put_there}
use Rattle.daide_channels.proofs.FrontLemmas.{parts_at, waits_at}
use Rattle.daide_channels.proofs.FrontsKept.{answer_fresh}
use Rattle.daide_channels.proofs.MarksLemmas.{Agree, both_frames, least, mark_is, same_begun, same_frames}
use Rattle.daide_channels.proofs.SidesLemmas.{IsSameSide}

-- ---- the rest of the queue

-- 1 if the first frame is an answer to this side's frame, else 0
abbrev first_mark : Side → List QueuedFrame → ℕ
first_mark one items = if is_answer one (answered_by (first_of items)) then 1 else 0

first_marks : (one : Side) (items : List QueuedFrame) →
    count_of (answer_mark one) items ≡ first_mark one items + count_of (answer_mark one) (tail_of items)
first_marks one [] = refl
first_marks one (x ∷ items) = ap (λ (n : ℕ). n + count_of (answer_mark one) items) (mark_is one x)

tail_fewer : (mark : QueuedFrame → ℕ) (items : List QueuedFrame) → count_of mark (tail_of items) ≤ count_of mark items
tail_fewer mark [] = omega arith
tail_fewer mark (x ∷ items) = omega arith

tail_frames : (to : Side) (a b : Side → List ℕ) (n : ℕ) (items : List QueuedFrame) → Agree a b (tail_of items) →
    frames_of to b (record { written = 0; items = tail_of items })
    ≡ others (frames_of to a (record { written = n; items = items }))
tail_frames to a b n [] h = refl
tail_frames to a b n (x ∷ items) h = behind_none (map (frame_of_queued to b) items) ∙ same_frames to a b items h
  where
    behind_none : (frames : List Sent) → drop_sent 0 frames ≡ frames
    behind_none [] = refl
    behind_none (frame ∷ frames) = refl

-- a queue without its first frame; nothing of the next frame was sent
abbrev tail : Queue → Queue
tail q = record { written = 0; items = tail_of q.items }

both_tail : (a b : Side → List ℕ) (w : PerSide Queue) (to : Side) → Agree a b (tail_of (at w to).items) →
    Agree a b (at w (other to)).items →
    both_frames b (put w to (tail (at w to))) ≡ put (both_frames a w) to (others (at (both_frames a w) to))
both_tail a b w Bot here there =
    both_same _ _ (tail_frames Bot a b w.bot.written w.bot.items here)
    (ap (drop_sent w.server.written) (same_frames Server a b w.server.items there))
both_tail a b w Server here there =
    both_same _ _ (ap (drop_sent w.bot.written) (same_frames Bot a b w.bot.items there))
    (tail_frames Server a b w.server.written w.server.items here)

-- counts over both wires, taken from either of them
two_ways : (w : PerSide Queue) (to : Side) (mark : QueuedFrame → ℕ) →
    count_of mark w.bot.items + count_of mark w.server.items
    ≡ count_of mark (at w to).items + count_of mark (at w (other to)).items
two_ways w Bot mark = refl
two_ways w Server mark = omega arith

put_ways : (w : PerSide Queue) (to : Side) (q : Queue) (mark : QueuedFrame → ℕ) →
    count_of mark (put w to q).bot.items + count_of mark (put w to q).server.items
    ≡ count_of mark q.items + count_of mark (at w (other to)).items
put_ways w Bot q mark = refl
put_ways w Server q mark = omega arith

-- a frame of which nothing was sent is partly sent
fresh : (a : Side → List ℕ) (items : List QueuedFrame) →
    ((side : Side) → 0 < count_of (answer_mark side) items → 0 < length (a side)) → IsPartlySent a 0 items
fresh a [] full = refl
fresh a (Answer Bot ∷ items) full = full Bot (omega arith)
fresh a (Answer Server ∷ items) full = full Server (omega arith)
fresh a (Fm ∷ items) full = omega arith
fresh a (Em code ∷ items) full = omega arith

-- only the first frame has parts
same_parts : (a b : PerSide Receiver) (gone : ℕ) (items : List QueuedFrame) →
    ((side : Side) → 0 < count_of (answer_mark side) items → at b side ≡ at a side) →
    parts_left b gone items ≡ parts_left a gone items
same_parts a b gone [] h = refl
same_parts a b gone (Answer Bot ∷ items) h =
    ap (λ (i : Receiver). parts_after gone (answer_parts i)) (h Bot (omega arith))
same_parts a b gone (Answer Server ∷ items) h =
    ap (λ (i : Receiver). parts_after gone (answer_parts i)) (h Server (omega arith))
same_parts a b gone (Fm ∷ items) h = refl
same_parts a b gone (Em code ∷ items) h = refl

-- ---- a side after the first frame is removed

-- either the frame was this side's answer, and the side then holds nothing, or the side is unchanged
record IsSideAfter (old new : Receiver) (its : Bool) : Type 0 where
  same : IsSameSide old new
  coming : (arrival_of new).coming ≡ (arrival_of old).coming
  total : new.total ≡ old.total
  looked_at : new.looked_at ≡ old.looked_at
  fewer : is_some old.verdict ≡ false → is_some new.verdict ≡ false
  gone : is_some old.verdict ≡ true → is_some new.verdict ≡ false → new.frame_bytes ≡ []
  kept : is_some new.verdict ≡ is_some old.verdict → (arrival_of new).holding ≡ (arrival_of old).holding
  count : presence new.verdict + (if its then 1 else 0) ≡ presence old.verdict
  stays : presence new.verdict ≡ 1 → new ≡ old

same_after : (i : Receiver) → IsSideAfter i i false
same_after i = record {
  same = record { side = refl; cap = refl; rules = refl };
  coming = refl;
  total = refl;
  looked_at = refl;
  fewer = λ e. e;
  gone = λ some none. absurd (cc);
  kept = λ e. refl;
  count = omega arith;
  stays = λ e. refl;
}

released_after : (old new : Receiver) → StartsFrame old old.level [] new → presence old.verdict ≡ 1 →
    IsSideAfter old new true
released_after old new b some = record {
  same = record { side = b.side; cap = b.cap; rules = b.rules };
  coming = rw (b.unanswered, b.frame_bytes, b.level_set) (ap (λ (bytes : List ℕ). record
      { pending = bytes; noted = old.level })
      (blank old.verdict some));
  total = b.total;
  looked_at = b.looked_at;
  fewer = λ e. ap is_some b.unanswered;
  gone = λ waits none. b.frame_bytes;
  kept = λ e. absurd (still old.verdict some (sym e ∙ ap is_some b.unanswered));
  count = omega (arith, none, some);
  stays = λ e. absurd (omega (arith, none, e));
}
  where
    none : presence new.verdict ≡ 0
    none = ap presence b.unanswered

    blank : (o : Option Verdict) → presence o ≡ 1 → [] ≡ pending_by o old.frame_bytes
    blank None e = absurd (omega (arith, e))
    blank (Some verdict) e = refl

    still : (o : Option Verdict) → presence o ≡ 1 → is_some o ≡ false → ⊥
    still None e h = absurd (omega (arith, e))
    still (Some verdict) e h = absurd (cc)

after : (old new : Receiver) (gone : Option Side) (one : Side) → IsReleased gone one old new →
    (is_answer one gone ≡ true → presence old.verdict ≡ 1) → IsSideAfter old new (is_answer one gone)
after old new gone one r some = go (is_answer one gone) refl
  where
    go : (k : Bool) → is_answer one gone ≡ k → IsSideAfter old new k
    go true e = released_after old new (r.its e) (some e)
    go false e = subst (λ (y : Receiver). IsSideAfter old y false) (sym (r.kept e)) (same_after old)

-- ---- the rest

-- a queued answer of which nothing was sent is fresh
waits_fresh : (x : Receiver) (side to : Side) → presence x.verdict ≡ 1 → length x.header ≡ 4 →
    ((verdict : Verdict) → x.verdict ≡ Some verdict → to ≡ destination side verdict) →
    AreAnswerParts side (parts_after 0 (answer_parts x))
    (record { to = to; answers = Some side; bytes = drop 0 (whole_answer x) })
waits_fresh x side to some four aim = by_verdict x.verdict refl some
  where
    by_verdict : (o : Option Verdict) → x.verdict ≡ o → presence o ≡ 1 → AreAnswerParts side (parts_after 0 (answer_parts x))
        (record { to = to; answers = Some side; bytes = drop 0 (whole_answer x) })
    by_verdict None e h = absurd (omega (arith, h))
    by_verdict (Some verdict) e h = answer_fresh x side to verdict e four (aim verdict e)

-- the next frame in the queue is one of which nothing was sent
next_first : (b : PerSide Receiver) (to : Side) (items : List QueuedFrame) →
    ((side : Side) → 0 < count_of (answer_mark side) items → presence (at b side).verdict ≡ 1) →
    ((side : Side) → presence (at b side).verdict ≡ 1 → length (at b side).header ≡ 4) →
    ((side : Side) (verdict : Verdict) → (at b side).verdict ≡ Some verdict →
    0 < count_of (answer_mark side) items → to ≡ destination side verdict) →
    AreFresh (parts_left b 0 items) (frames_of to (answer_at b) (record { written = 0; items = items }))
next_first b to [] h k aim = refl
next_first b to (Fm ∷ items) h k aim = refl
next_first b to (Em code ∷ items) h k aim = refl
next_first b to (Answer Bot ∷ items) h k aim =
    waits_fresh b.bot Bot to (h Bot (omega arith)) (k Bot (h Bot (omega arith)))
    (λ verdict given. aim Bot verdict given (omega arith))
next_first b to (Answer Server ∷ items) h k aim =
    waits_fresh b.server Server to (h Server (omega arith)) (k Server (h Server (omega arith)))
    (λ verdict given. aim Server verdict given (omega arith))

pub record IsLeft (t : Channels) (n : Fields) (to : Side) : Type 0 where
  pub sound : IsSound n
  pub goes : ReleasesFrames t (channels_of n)
  pub queued : (channels_of n).queued ≡ put t.queued to (others (at t.queued to))
  pub own_front : AreFresh (at (channels_of n).parts to) (at (channels_of n).queued to)
  pub other_front : at (channels_of n).parts (other to) ≡ at t.parts (other to)

abbrev after_drop : Fields → PerSide Receiver → Side → Fields
after_drop f b to = record { sides = b; wires = put f.wires to (tail (at f.wires to)) }

module _ (f : Fields) (b : PerSide Receiver) (to : Side) (i : IsSound f)
    (released : (one : Side) → IsReleased (answered_by (first_of (at f.wires to).items)) one (at f.sides one) (at b one))
  where
    -- the count for a side before: in the first frame, in those after it, and in those for the other wire
    before : (one : Side) → first_mark one (at f.wires to).items
        + (count_of (answer_mark one) (tail_of (at f.wires to).items)
        + count_of (answer_mark one) (at f.wires (other to)).items) ≡ presence (at f.sides one).verdict
    before one =
        omega (arith, i.once one, two_ways f.wires to (answer_mark one), first_marks one (at f.wires to).items)

    side : (one : Side) →
        IsSideAfter (at f.sides one) (at b one) (is_answer one (answered_by (first_of (at f.wires to).items)))
    side one =
        after (at f.sides one) (at b one) (answered_by (first_of (at f.wires to).items)) one (released one)
        (λ e. let h = rw e at (before one) in omega (arith, h, least (at f.sides one).verdict))

    remain : (one : Side) → count_of (answer_mark one) (tail_of (at f.wires to).items)
        + count_of (answer_mark one) (at f.wires (other to)).items ≡ presence (at b one).verdict
    remain one = omega (arith, before one, (side one).count)

    here : (one : Side) → 0 < count_of (answer_mark one) (tail_of (at f.wires to).items) → at b one ≡ at f.sides one
    here one some = (side one).stays (omega (arith, remain one, least (at b one).verdict))

    there : (one : Side) → 0 < count_of (answer_mark one) (at f.wires (other to)).items → at b one ≡ at f.sides one
    there one some = (side one).stays (omega (arith, remain one, least (at b one).verdict))

    filled : (one : Side) → presence (at b one).verdict ≡ 1 → 0 < length (answer_at b one)
    filled one h =
        let count = (side one).count in
        rw ((side one).stays h) (i.filled one (omega (arith, count, h, least (at f.sides one).verdict)))

    headed : (one : Side) → presence (at b one).verdict ≡ 1 → length (at b one).header ≡ 4
    headed one h =
        let count = (side one).count in
        rw ((side one).stays h) (i.headed one (omega (arith, count, h, least (at f.sides one).verdict)))

    -- an answer that is still queued belongs to an unchanged side
    aimed : (one wire : Side) (verdict : Verdict) → (at b one).verdict ≡ Some verdict →
        0 < count_of (answer_mark one) (at (put f.wires to (tail (at f.wires to))) wire).items →
        wire ≡ destination one verdict
    aimed one wire verdict given =
        let was : (at f.sides one).verdict ≡ Some verdict =
        ap (λ (y : Receiver). y.verdict) (sym ((side one).stays (ap presence given))) ∙ given in
        put_all (λ (w : Side) (q : Queue). 0 < count_of (answer_mark one) q.items → w ≡ destination one verdict) f.wires
        to (tail (at f.wires to))
        (λ some. i.aimed one to verdict was
        (let few = tail_fewer (answer_mark one) (at f.wires to).items in omega (arith, few, some)))
        (λ w. i.aimed one w verdict was) wire

    left_sound : IsSound (after_drop f b to)
    left_sound = record {
      its_side = λ one. (side one).same.side ∙ i.its_side one;
      same_cap = (side Server).same.cap ∙ i.same_cap ∙ sym (side Bot).same.cap;
      same_rules = (side Server).same.rules ∙ i.same_rules ∙ sym (side Bot).same.rules;
      once = λ one. put_ways f.wires to (tail (at f.wires to)) (answer_mark one) ∙ remain one;
      aimed = aimed;
      ends = put_all (λ (s : Side) (q : Queue). count_of final_frame_mark q.items ≤ 1) f.wires to (tail (at f.wires to))
          (omega (arith, tail_fewer final_frame_mark (at f.wires to).items, i.ends to)) i.ends;
      filled = filled;
      headed = headed;
      begun = put_each (λ (s : Side) (q : Queue). IsPartlySent (answer_at b) q.written q.items) f.wires to
          (tail (at f.wires to))
          (fresh (answer_at b) (tail_of (at f.wires to).items)
          (λ one some. filled one (omega (arith, some, remain one, least (at b one).verdict))))
          (same_begun (answer_at f.sides) (answer_at b) (at f.wires (other to)).written (at f.wires (other to)).items
          (λ one some. ap whole_answer (there one some)) (i.begun (other to)));
    }

    left_goes : ReleasesFrames (channels_of f) (channels_of (after_drop f b to))
    left_goes = record {
      cap = (side Bot).same.cap;
      rules = (side Bot).same.rules;
      coming = λ one. rw ((now one).arrival, (was one).arrival) (side one).coming;
      total = λ one. ap (λ (a : ReceiveState). a.holding.total) (now one).arrival ∙ (side one).total
          ∙ sym (ap (λ (a : ReceiveState). a.holding.total) (was one).arrival);
      looked_at = λ one. ap (λ (a : ReceiveState). a.holding.looked_at) (now one).arrival ∙ (side one).looked_at
          ∙ sym (ap (λ (a : ReceiveState). a.holding.looked_at) (was one).arrival);
      fewer = λ one. rw ((now one).awaited, (was one).awaited) (side one).fewer;
      gone = λ one. rw ((now one).awaited, (was one).awaited)
          (λ some none. ap (λ (a : ReceiveState). a.holding.frame_bytes) (now one).arrival ∙ (side one).gone some none);
      kept = λ one. rw ((now one).awaited, (was one).awaited)
          (λ e. ap (λ (a : ReceiveState). a.holding) (now one).arrival ∙ (side one).kept e
          ∙ sym (ap (λ (a : ReceiveState). a.holding) (was one).arrival));
    }
      where
        was : (one : Side) → IsSeen f (channels_of f) one one
        was one = seen i refl refl

        now : (one : Side) → IsSeen (after_drop f b to) (channels_of (after_drop f b to)) one one
        now one = seen left_sound refl refl

    left_front : at (channels_of (after_drop f b to)).parts (other to) ≡ at (channels_of f).parts (other to)
    left_front = parts_at (after_drop f b to) (other to)
        ∙ ap (λ (q : Queue). parts_left b q.written q.items) (put_there f.wires to (tail (at f.wires to)))
        ∙ same_parts f.sides b (at f.wires (other to)).written (at f.wires (other to)).items there
        ∙ sym (parts_at f (other to))

    -- the parts of the next frame are those of a fresh frame
    own_front : AreFresh (at (channels_of (after_drop f b to)).parts to) (at (channels_of (after_drop f b to)).queued to)
    own_front =
        let q : at (put f.wires to (tail (at f.wires to))) to ≡ tail (at f.wires to) =
        at_put f.wires to (tail (at f.wires to)) in
        subst (λ (ps : List (List ℕ)). AreFresh ps (at (channels_of (after_drop f b to)).queued to))
        (sym (parts_at (after_drop f b to) to ∙ ap (λ (p : Queue). parts_left b p.written p.items) q))
        (subst (λ (frames : List Sent). AreFresh (parts_left b 0 (tail_of (at f.wires to).items)) frames)
        (sym (waits_at (after_drop f b to) to ∙ ap (frames_of to (answer_at b)) q))
        (next_first b to (tail_of (at f.wires to).items)
        (λ one some. omega (arith, some, remain one, least (at b one).verdict)) headed
        (λ one verdict given some. aimed one to verdict given
        (subst (λ (p : Queue). 0 < count_of (answer_mark one) p.items) (sym q) some))))

    left : IsLeft (channels_of f) (after_drop f b to) to
    left = record {
      sound = left_sound;
      goes = left_goes;
      queued = both_tail (answer_at f.sides) (answer_at b) f.wires to (λ one some. ap whole_answer (here one some))
          (λ one some. ap whole_answer (there one some));
      own_front = own_front;
      other_front = left_front;
    }

-- the effect of a call that removes the first frame; t is the abstract value of the fields
pub dropped_first : (f n : Fields) (t : Channels) (to : Side) (gone : Option QueuedFrame) → channels_of f ≡ t → IsSound f →
    gone ≡ first_of (at f.wires to).items →
    n.wires ≡ put f.wires to (record { written = 0; items = tail_of (at f.wires to).items }) →
    ((one : Side) → IsReleased (answered_by gone) one (at f.sides one) (at n.sides one)) → IsLeft t n to
dropped_first f n t to gone is i e wires sides =
    subst (λ (v : Channels). IsLeft v n to) is
    (subst (λ (w : PerSide Queue). IsLeft (channels_of f) (record { sides = n.sides; wires = w }) to) (sym wires)
    (left f n.sides to i (rw e at sides)))

-- the side whose answer was removed begins its next frame, and the other side is unchanged
pub released : (b : PerSide Receiver) (side one : Side) (x : Receiver) → StartsFrame (at b side) (at b side).level [] x →
    IsReleased (Some side) one (at b one) (at (put b side x) one)
released b Bot Bot x begins = record { its = λ _. begins; kept = λ its. absurd (cc) }
released b Bot Server x begins = record { its = λ its. absurd (cc); kept = λ _. refl }
released b Server Bot x begins = record { its = λ its. absurd (cc); kept = λ _. refl }
released b Server Server x begins = record { its = λ _. begins; kept = λ its. absurd (cc) }
