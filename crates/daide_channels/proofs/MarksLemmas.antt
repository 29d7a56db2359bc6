-- The queued frames, by the side of their answer: counted, appended, and with other answer bytes.
use Rattle.std.proofs.lemmas.List.{map-append}
use Rattle.daide_channels.proofs.Common.{◌≡◌, ℕ, ◌+◌, ◌<◌, ◌≤◌, Bool, true, false, List, [], ◌∷◌, ◌++◌, length, map}
use Rattle.daide_channels.proofs.Common.{Option, Some, None, refl, sym, ap, ◌∙◌, arith, if◌then◌else◌, ◌||◌, nat_lt}
use Rattle.daide_channels.proofs.Common.{Side, Bot, Server, Verdict, Sent, is_answer, QueuedFrame, Answer, Fm, Em}
use Rattle.daide_channels.proofs.Common.{PerSide, at, put, Receiver, Queue, pushed, put_all}
use Rattle.daide_protocol.specs.Wires.{has_answer}
use Rattle.daide_channels.specs.Channels.{answer_at, answers_of, queued_bytes, frame_of_queued, drop_sent, frames_of, answer_mark}
use Rattle.daide_channels.specs.Channels.{final_frame_mark}
use Rattle.daide_channels.specs.Channels.{count_of, presence, IsPartlySent, is_final_frame, has_final_frame, posted}
use Rattle.daide_channels.proofs.PartsLemmas.{below}

-- ---- counts

pub mark_is : (one : Side) (item : QueuedFrame) → answer_mark one item ≡ (if is_answer one (answers_of item) then 1 else 0)
mark_is one (Answer side) = refl
mark_is one Fm = refl
mark_is one (Em code) = refl

marks : (item : QueuedFrame) → answer_mark Bot item + answer_mark Server item + final_frame_mark item ≡ 1
marks (Answer Bot) = refl
marks (Answer Server) = refl
marks Fm = refl
marks (Em code) = refl

-- each frame is the answer to a side, or a final frame
pub length_marks : (items : List QueuedFrame) →
    length items ≡ count_of (answer_mark Bot) items + count_of (answer_mark Server) items + count_of final_frame_mark items
length_marks [] = refl
length_marks (x ∷ items) = omega (arith, length_marks items, marks x)

pub least : (o : Option Verdict) → presence o ≤ 1
least None = omega arith
least (Some verdict) = omega arith

count_push : (mark : QueuedFrame → ℕ) (items : List QueuedFrame) (item : QueuedFrame) →
    count_of mark (items ++ item ∷ []) ≡ count_of mark items + mark item
count_push mark [] item = omega arith
count_push mark (x ∷ items) item = omega (arith, count_push mark items item)

pub count_pushed : (w : PerSide Queue) (to : Side) (mark : QueuedFrame → ℕ) (item : QueuedFrame) →
    count_of mark (at (put w to (pushed (at w to) item)) Bot).items
    + count_of mark (at (put w to (pushed (at w to) item)) Server).items
    ≡ count_of mark w.bot.items + count_of mark w.server.items + mark item
count_pushed w Bot mark item = omega (arith, count_push mark w.bot.items item)
count_pushed w Server mark item = omega (arith, count_push mark w.server.items item)

-- appending a frame leaves the count of a mark that it does not have; a mark that was absent occurs at most once
pub unmarked_pushed : (w : PerSide Queue) (to one : Side) (mark : QueuedFrame → ℕ) (item : QueuedFrame) → mark item ≡ 0 →
    count_of mark (at (put w to (pushed (at w to) item)) one).items ≡ count_of mark (at w one).items
unmarked_pushed w to one mark item e =
    put_all (λ (s : Side) (q : Queue). count_of mark q.items ≡ count_of mark (at w s).items) w to
    (pushed (at w to) item) (omega (arith, e, count_push mark (at w to).items item)) (λ s. refl) one

pub first_pushed : (w : PerSide Queue) (to one : Side) (mark : QueuedFrame → ℕ) (item : QueuedFrame) → mark item ≤ 1 →
    count_of mark (at w to).items ≡ 0 → ((wire : Side) → count_of mark (at w wire).items ≤ 1) →
    count_of mark (at (put w to (pushed (at w to) item)) one).items ≤ 1
first_pushed w to one mark item l z few =
    put_all (λ (s : Side) (q : Queue). count_of mark q.items ≤ 1) w to (pushed (at w to) item)
    (omega (arith, l, z, count_push mark (at w to).items item)) few one

-- ---- a frame is appended

begun_push : (a : Side → List ℕ) (n : ℕ) (items : List QueuedFrame) (item : QueuedFrame) → 0 < length (queued_bytes a item) →
    IsPartlySent a n items → IsPartlySent a n (items ++ item ∷ [])
begun_push a n [] item some h = omega (arith, h)
begun_push a n (x ∷ items) item some h = h

pub begun_pushed : (a : Side → List ℕ) (w : PerSide Queue) (to one : Side) (item : QueuedFrame) →
    0 < length (queued_bytes a item) →
    ((wire : Side) → IsPartlySent a (at w wire).written (at w wire).items) →
    IsPartlySent a (at (put w to (pushed (at w to) item)) one).written (at (put w to (pushed (at w to) item)) one).items
begun_pushed a w to one item some h =
    put_all (λ (s : Side) (q : Queue). IsPartlySent a q.written q.items) w to (pushed (at w to) item)
    (begun_push a (at w to).written (at w to).items item some (h to)) h one

frames_push : (to : Side) (a : Side → List ℕ) (n : ℕ) (items : List QueuedFrame) (item : QueuedFrame) → IsPartlySent a n items →
    drop_sent n (map (frame_of_queued to a) (items ++ item ∷ []))
    ≡ drop_sent n (map (frame_of_queued to a) items) ++ frame_of_queued to a item ∷ []
frames_push to a n [] item h = rw h refl
frames_push to a n (x ∷ items) item h = ap (drop_sent n) (map-append (frame_of_queued to a) (x ∷ items) (item ∷ []))

-- the queued frames of both wires
abbrev pub both_frames : (Side → List ℕ) → PerSide Queue → PerSide (List Sent)
both_frames a w = record { bot = frames_of Bot a w.bot; server = frames_of Server a w.server }

pub frames_pushed : (a : Side → List ℕ) (w : PerSide Queue) (to : Side) (item : QueuedFrame) →
    ((wire : Side) → IsPartlySent a (at w wire).written (at w wire).items) →
    both_frames a (put w to (pushed (at w to) item)) ≡ posted (both_frames a w) (frame_of_queued to a item)
frames_pushed a w Bot item h =
    ap (λ (frames : List Sent). record { bot = frames; server = frames_of Server a w.server })
    (frames_push Bot a w.bot.written w.bot.items item (h Bot))
frames_pushed a w Server item h =
    ap (λ (frames : List Sent). record { bot = frames_of Bot a w.bot; server = frames })
    (frames_push Server a w.server.written w.server.items item (h Server))

-- ---- other answer bytes

-- each answer among these frames is the same
abbrev pub Agree : (Side → List ℕ) → (Side → List ℕ) → List QueuedFrame → Type 0
Agree a b items = (side : Side) → 0 < count_of (answer_mark side) items → b side ≡ a side

-- an answer that is not among them may change
pub agree_put : (sides : PerSide Receiver) (side : Side) (x : Receiver) (items : List QueuedFrame) →
    count_of (answer_mark side) items ≡ 0 → Agree (answer_at sides) (answer_at (put sides side x)) items
agree_put sides Bot x items none Bot some = absurd (omega arith)
agree_put sides Bot x items none Server some = refl
agree_put sides Server x items none Bot some = refl
agree_put sides Server x items none Server some = absurd (omega arith)

same_bytes : (a b : Side → List ℕ) (item : QueuedFrame) → ((side : Side) → 0 < answer_mark side item → b side ≡ a side) →
    queued_bytes b item ≡ queued_bytes a item
same_bytes a b (Answer Bot) h = h Bot (omega arith)
same_bytes a b (Answer Server) h = h Server (omega arith)
same_bytes a b Fm h = refl
same_bytes a b (Em code) h = refl

pub same_frames : (to : Side) (a b : Side → List ℕ) (items : List QueuedFrame) → Agree a b items →
    map (frame_of_queued to b) items ≡ map (frame_of_queued to a) items
same_frames to a b [] h = refl
same_frames to a b (x ∷ items) h =
    rw (
      same_bytes a b x (λ side some. h side (omega arith)),
      same_frames to a b items (λ side some. h side (omega arith)),
    ) refl

pub same_begun : (a b : Side → List ℕ) (n : ℕ) (items : List QueuedFrame) → Agree a b items → IsPartlySent a n items →
    IsPartlySent b n items
same_begun a b n [] h begun = begun
same_begun a b n (x ∷ items) h begun = rw (same_bytes a b x (λ side some. h side (omega arith))) begun

pub same_both : (a b : Side → List ℕ) (w : PerSide Queue) → ((wire : Side) → Agree a b (at w wire).items) →
    both_frames b w ≡ both_frames a w
same_both a b w h =
    rw (same_frames Bot a b w.bot.items (h Bot), same_frames Server a b w.server.items (h Server)) refl

-- ---- whether an answer is queued

-- whether a count is above 0, as a test
has_answers : (side to : Side) (a : Side → List ℕ) (items : List QueuedFrame) →
    has_answer side (map (frame_of_queued to a) items) ≡ nat_lt 0 (count_of (answer_mark side) items)
has_answers side to a [] = refl
has_answers side to a (x ∷ items) = go (is_answer side (answers_of x)) refl (has_answers side to a items)
  where
    go : (k : Bool) → is_answer side (answers_of x) ≡ k →
        has_answer side (map (frame_of_queued to a) items) ≡ nat_lt 0 (count_of (answer_mark side) items) →
        (is_answer side (answers_of x) || has_answer side (map (frame_of_queued to a) items))
        ≡ nat_lt 0 (answer_mark side x + count_of (answer_mark side) items)
    go true e more = rw e (sym (below 0 _ (let one : answer_mark side x ≡ 1 = rw e at (mark_is side x) in omega arith)))
    go false e more =
        let none : answer_mark side x ≡ 0 = rw e at (mark_is side x) in
        rw e (more ∙ ap (nat_lt 0) (omega arith))

pub answer_behind : (side : Side) (n : ℕ) (frames : List Sent) →
    has_answer side (drop_sent n frames) ≡ has_answer side frames
answer_behind side n [] = refl
answer_behind side n (frame ∷ frames) = refl

pub answers_wait : (side to : Side) (a : Side → List ℕ) (q : Queue) →
    has_answer side (frames_of to a q) ≡ nat_lt 0 (count_of (answer_mark side) q.items)
answers_wait side to a q = answer_behind side q.written (map (frame_of_queued to a) q.items) ∙ has_answers side to a q.items

-- ---- whether a frame ends the session

end_is : (item : QueuedFrame) → final_frame_mark item ≡ (if is_final_frame (answers_of item) then 1 else 0)
end_is (Answer side) = refl
end_is Fm = refl
end_is (Em code) = refl

ends_none : (to : Side) (a : Side → List ℕ) (items : List QueuedFrame) → has_final_frame (map (frame_of_queued to a) items) ≡ false →
    count_of final_frame_mark items ≡ 0
ends_none to a [] e = refl
ends_none to a (x ∷ items) e = go (is_final_frame (answers_of x)) refl (ends_none to a items)
  where
    go : (k : Bool) → is_final_frame (answers_of x) ≡ k →
        (has_final_frame (map (frame_of_queued to a) items) ≡ false → count_of final_frame_mark items ≡ 0) →
        final_frame_mark x + count_of final_frame_mark items ≡ 0
    go true t more = let bad = rw t at e in absurd (cc)
    go false t more =
        let none : final_frame_mark x ≡ 0 = rw t at (end_is x) in
        let rest : has_final_frame (map (frame_of_queued to a) items) ≡ false = rw t at e in
        omega (arith, more rest)

has_behind : (n : ℕ) (frames : List Sent) → has_final_frame (drop_sent n frames) ≡ has_final_frame frames
has_behind n [] = refl
has_behind n (frame ∷ frames) = refl

pub unended : (to : Side) (a : Side → List ℕ) (q : Queue) → has_final_frame (frames_of to a q) ≡ false →
    count_of final_frame_mark q.items ≡ 0
unended to a q e = ends_none to a q.items (sym (has_behind q.written (map (frame_of_queued to a) q.items)) ∙ e)
