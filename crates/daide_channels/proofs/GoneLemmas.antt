-- Queued frames are removed: bytes of the first, the first, or all of them.
use Rattle.std.proofs.lemmas.List.{drop_all, drop-append-le, drop-drop}
use Rattle.daide_channels.proofs.Common.{◌≡◌, ℕ, ◌+◌, ◌<◌, ◌≤◌, Bool, true, false, List, [], ◌∷◌, length, drop, map}
use Rattle.daide_channels.proofs.Common.{refl, sym, ap, ◌∙◌, subst, arith, length-drop, zero, suc, ◌||◌, Side, Bot}
use Rattle.daide_channels.proofs.Common.{Server, Sent, destination, sent_bytes, is_awaited, first_len, QueuedFrame}
use Rattle.daide_channels.proofs.Common.{PerSide, at, put, Queue, at_put, put_all}
use Rattle.daide_protocol.specs.Wires.{Holding, has_answer, without}
use Rattle.daide_channels.specs.Channels.{ReceiveState, Fields, IsPartlySent, IsSound, ReleasesFrames, Channels, answer_at, answer_mark}
use Rattle.daide_channels.specs.Channels.{drop_sent, queued_bytes, count_of, final_frame_mark}
use Rattle.daide_channels.specs.Channels.{frame_of_queued, frames_of, queued_frames_to, side_holding, others, presence, channels_of}
use Rattle.daide_channels.proofs.FrontLemmas.{waits_at}
use Rattle.daide_channels.proofs.MarksLemmas.{answer_behind}
use Rattle.daide_channels.proofs.PartsLemmas.{below}

-- ---- bytes of the first frame

abbrev with_wire : Fields → Side → Queue → Fields
with_wire f to q = record { sides = f.sides; wires = put f.wires to q }

-- more bytes of the first frame are sent
abbrev pub further : Queue → ℕ → Queue
further q n = record { written = q.written + n; items = q.items }

begun_more : (a : Side → List ℕ) (to : Side) (gone n : ℕ) (items : List QueuedFrame) →
    n < first_len (frames_of to a (record { written = gone; items = items })) → IsPartlySent a (gone + n) items
begun_more a to gone n [] l = absurd (omega arith)
begun_more a to gone n (item ∷ items) l = omega (arith, l, length-drop gone (queued_bytes a item))

advanced : (f : Fields) (to : Side) (n : ℕ) → IsSound f → n < first_len (queued_frames_to f to) →
    IsSound (with_wire f to (further (at f.wires to) n))
advanced f to n i l = record {
  its_side = i.its_side;
  same_cap = i.same_cap;
  same_rules = i.same_rules;
  once = λ side. once to side;
  aimed = λ side wire verdict given. put_all (λ (w : Side) (q : Queue). 0 < count_of (answer_mark side) q.items →
      w ≡ destination side verdict) f.wires to (further (at f.wires to) n) (i.aimed side to verdict given)
      (λ w. i.aimed side w verdict given) wire;
  ends = put_all (λ (s : Side) (q : Queue). count_of final_frame_mark q.items ≤ 1) f.wires to (further (at f.wires to) n)
      (i.ends to) i.ends;
  filled = i.filled;
  headed = i.headed;
  begun = put_all (λ (s : Side) (q : Queue). IsPartlySent (answer_at f.sides) q.written q.items) f.wires to
      (further (at f.wires to) n) (begun_more (answer_at f.sides) to (at f.wires to).written n (at f.wires to).items l)
      i.begun;
}
  where
    once : (wire side : Side) →
        count_of (answer_mark side) (put f.wires wire (further (at f.wires wire) n)).bot.items
        + count_of (answer_mark side) (put f.wires wire (further (at f.wires wire) n)).server.items
        ≡ presence (at f.sides side).verdict
    once Bot side = i.once side
    once Server side = i.once side

pub advance_sound : (f : Fields) (t : Channels) (to one : Side) (n : ℕ) (q : Queue) → channels_of f ≡ t → IsSound f → to
    ≡ one →
    n < first_len (at t.queued to) → q ≡ further (at f.wires one) n →
    IsSound (with_wire f one q)
advance_sound f t to one n q is i s l e =
    subst (λ (p : Queue). IsSound (with_wire f one p)) (sym e) (advanced f one n i
    (subst (λ (frames : List Sent). n < first_len frames)
    (sym (ap (λ (v : Channels). at v.queued to) is) ∙ ap (λ (x : Side). at (channels_of f).queued x) s
    ∙ waits_at f one) l))

further_frames : (to : Side) (a : Side → List ℕ) (q : Queue) (n : ℕ) →
    frames_of to a (further q n) ≡ drop_sent n (frames_of to a q)
further_frames to a q n = behind_more q.written n (map (frame_of_queued to a) q.items)
  where
    behind_more : (gone n : ℕ) (frames : List Sent) → drop_sent (gone + n) frames ≡ drop_sent n (drop_sent gone frames)
    behind_more gone n [] = refl
    behind_more gone n (frame ∷ frames) =
        ap (λ (bytes : List ℕ). record { to = frame.to; answers = frame.answers; bytes = bytes } ∷ frames)
        (sym (drop-drop n gone frame.bytes))

pub advanced_waiting : (f : Fields) (t : Channels) (to : Side) (n : ℕ) (q : Queue) → channels_of f ≡ t →
    q ≡ further (at f.wires to) n →
    (channels_of (with_wire f to q)).queued ≡ put t.queued to (drop_sent n (at t.queued to))
advanced_waiting f t to n q is e =
    ap (λ (p : Queue). (channels_of (with_wire f to p)).queued) e ∙ go to
    ∙ ap (λ (v : Channels). put v.queued to (drop_sent n (at v.queued to))) is
  where
    go : (one : Side) → (channels_of (with_wire f one (further (at f.wires one) n))).queued
        ≡ put (channels_of f).queued one (drop_sent n (at (channels_of f).queued one))
    go Bot = ap (put (channels_of f).queued Bot) (further_frames Bot (answer_at f.sides) f.wires.bot n)
    go Server = ap (put (channels_of f).queued Server) (further_frames Server (answer_at f.sides) f.wires.server n)

-- no frame is released while the same answer is queued
behind_awaited : (w : PerSide (List Sent)) (to : Side) (n : ℕ) (side : Side) →
    (has_answer side (put w to (drop_sent n (at w to))).bot || has_answer side (put w to (drop_sent n (at w to))).server)
    ≡ (has_answer side w.bot || has_answer side w.server)
behind_awaited w Bot n side = ap (λ (b : Bool). b || has_answer side w.server) (answer_behind side n w.bot)
behind_awaited w Server n side = ap (λ (b : Bool). has_answer side w.bot || b) (answer_behind side n w.server)

behind_same : (old new : Channels) (to : Side) (n : ℕ) → new.queued
    ≡ put old.queued to (drop_sent n (at old.queued to)) →
    (side : Side) → is_awaited (at new.queued) side ≡ is_awaited (at old.queued) side
behind_same old new to n queued side =
    ap (λ (w : PerSide (List Sent)). has_answer side w.bot || has_answer side w.server) queued
    ∙ behind_awaited old.queued to n side

lets_nothing : (old new : Channels) → new.cap ≡ old.cap → new.rules ≡ old.rules → new.sides ≡ old.sides →
    ((side : Side) → is_awaited (at new.queued) side ≡ is_awaited (at old.queued) side) → ReleasesFrames old new
lets_nothing old new cap rules sides same = record {
  cap = cap;
  rules = rules;
  coming = λ side. ap (λ (b : PerSide ReceiveState). (at b side).coming) sides;
  total = λ side. ap (λ (b : PerSide ReceiveState). (at b side).holding.total) sides;
  looked_at = λ side. ap (λ (b : PerSide ReceiveState). (at b side).holding.looked_at) sides;
  fewer = λ side none. same side ∙ none;
  gone = λ side some none. (let bad = sym some ∙ sym (same side) ∙ none in absurd (cc));
  kept = λ side e. ap (λ (b : PerSide ReceiveState). (at b side).holding) sides;
}

pub lets_none_go : (old new : Channels) (to : Side) (n : ℕ) → new.cap ≡ old.cap → new.rules ≡ old.rules →
    new.sides ≡ old.sides → new.queued ≡ put old.queued to (drop_sent n (at old.queued to)) → ReleasesFrames old new
lets_none_go old new to n cap rules sides queued =
    lets_nothing old new cap rules sides (behind_same old new to n queued)

-- ---- the bytes that a wire accepted are fewer than the first frame has

without_less : (n : ℕ) (frames : List Sent) → n < first_len frames → drop_sent n frames ≡ without n frames
without_less n [] l = refl
without_less n (frame ∷ frames) l = rw (below n (length frame.bytes) l) refl

bytes_less : (n : ℕ) (frames : List Sent) → n < first_len frames → sent_bytes (drop_sent n frames) ≡ drop n (sent_bytes frames)
bytes_less n [] l = absurd (omega arith)
bytes_less n (frame ∷ frames) l = sym (drop-append-le n frame.bytes (sent_bytes frames) (omega arith))

pub wrote_less : (old new : PerSide (List Sent)) (to : Side) (n : ℕ) → n < first_len (at old to) →
    new ≡ put old to (drop_sent n (at old to)) → new ≡ put old to (without n (at old to))
wrote_less old new to n l e = e ∙ ap (put old to) (without_less n (at old to) l)

pub wrote_bytes : (old new : PerSide (List Sent)) (to : Side) (n : ℕ) → n < first_len (at old to) →
    new ≡ put old to (drop_sent n (at old to)) → sent_bytes (at new to) ≡ drop n (sent_bytes (at old to))
wrote_bytes old new to n l e =
    ap (λ (w : PerSide (List Sent)). sent_bytes (at w to)) e ∙ ap sent_bytes (at_put old to (drop_sent n (at old to)))
    ∙ bytes_less n (at old to) l

-- ---- one call after the other

pub lets_more : (old mid new : Channels) → ReleasesFrames old mid → ReleasesFrames mid new → ReleasesFrames old new
lets_more old mid new a b = record {
  cap = b.cap ∙ a.cap;
  rules = b.rules ∙ a.rules;
  coming = λ side. b.coming side ∙ a.coming side;
  total = λ side. b.total side ∙ a.total side;
  looked_at = λ side. b.looked_at side ∙ a.looked_at side;
  fewer = λ side e. b.fewer side (a.fewer side e);
  gone = λ side some none. gone_by side some none (is_awaited (at mid.queued) side) refl;
  kept = λ side e. kept_by side e (is_awaited (at mid.queued) side) refl (is_awaited (at old.queued) side) refl;
}
  where
    gone_by : (side : Side) → is_awaited (at old.queued) side ≡ true → is_awaited (at new.queued) side ≡ false →
        (k : Bool) →
        is_awaited (at mid.queued) side ≡ k → (side_holding new side).frame_bytes ≡ []
    gone_by side some none true e = b.gone side e none
    gone_by side some none false e =
        ap (λ (h : Holding). h.frame_bytes) (b.kept side (none ∙ sym e)) ∙ a.gone side some e

    kept_by : (side : Side) → is_awaited (at new.queued) side ≡ is_awaited (at old.queued) side → (k : Bool) →
        is_awaited (at mid.queued) side ≡ k →
        (l : Bool) → is_awaited (at old.queued) side ≡ l → side_holding new side ≡ side_holding old side
    kept_by side e true m true o = b.kept side (e ∙ o ∙ sym m) ∙ a.kept side (m ∙ sym o)
    kept_by side e false m true o = let bad = sym (b.fewer side m) ∙ e ∙ o in absurd (cc)
    kept_by side e true m false o = let bad = sym (a.fewer side o) ∙ m in absurd (cc)
    kept_by side e false m false o = b.kept side (e ∙ o ∙ sym m) ∙ a.kept side (m ∙ sym o)

-- as many first frames are removed as were counted
pub record IsLosing (old now : Channels) (to : Side) (count : ℕ) : Type 0 where
  pub goes : ReleasesFrames old now
  pub left : now.queued ≡ put old.queued to (drop count (at old.queued to))

drop_none : {A : Type 0} (b : PerSide A) (to : Side) → b ≡ put b to (at b to)
drop_none b Bot = refl
drop_none b Server = refl

pub losing_none : (t : Channels) (to : Side) → IsLosing t t to 0
losing_none t to = record { goes = lets_nothing t t refl refl refl (λ side. refl); left = drop_none t.queued to }

others_drop : (n : ℕ) (frames : List Sent) → others (drop n frames) ≡ drop (suc n) frames
others_drop zero [] = refl
others_drop zero (frame ∷ frames) = refl
others_drop (suc n) [] = refl
others_drop (suc n) (frame ∷ frames) = others_drop n frames

others_next : (n : ℕ) (frames : List Sent) → others (drop n frames) ≡ drop (n + 1) frames
others_next n frames =
    let next : suc n ≡ n + 1 = omega arith in others_drop n frames ∙ ap (λ (k : ℕ). drop k frames) next

put_others : (w : PerSide (List Sent)) (to : Side) (n : ℕ) →
    put (put w to (drop n (at w to))) to (others (at (put w to (drop n (at w to))) to))
    ≡ put w to (drop (n + 1) (at w to))
put_others w Bot n = ap (put w Bot) (others_next n w.bot)
put_others w Server n = ap (put w Server) (others_next n w.server)

pub losing_one : (old now new : Channels) (to : Side) (n : ℕ) → IsLosing old now to n → ReleasesFrames now new →
    new.queued ≡ put now.queued to (others (at now.queued to)) → IsLosing old new to (n + 1)
losing_one old now new to n h goes queued = record {
  goes = lets_more old now new h.goes goes;
  left = queued ∙ ap (λ (w : PerSide (List Sent)). put w to (others (at w to))) h.left ∙ put_others old.queued to n;
}

pub lost_all : (old now : Channels) (to : Side) (n : ℕ) → IsLosing old now to n → length (at old.queued to) ≤ n →
    now.queued ≡ put old.queued to []
lost_all old now to n h l = h.left ∙ ap (put old.queued to) (drop_all n (at old.queued to) l)
