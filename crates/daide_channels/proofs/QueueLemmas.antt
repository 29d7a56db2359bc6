-- A frame is queued for a wire: an answer, an FM or an EM.
use Rattle.daide_channels.proofs.Common.{◌≡◌, ℕ, ◌+◌, ◌<◌, ◌≤◌, false, List, length, drop, Option, Some, None, refl}
use Rattle.daide_channels.proofs.Common.{sym, ap, ◌∙◌, subst, arith, Side, Bot, Server, Head, Code, head_bytes, Verdict}
use Rattle.daide_channels.proofs.Common.{IsCorrectVerdict, Sent, destination, question_of, Answer, PerSide, at, put}
use Rattle.daide_channels.proofs.Common.{Answers, Receiver, whole_answer, Queue, pushed, at_put, put_all}
use Rattle.daide_protocol.specs.Answers.{answer_bytes}
use Rattle.daide_channels.specs.Channels.{ReceiveState, Fields, IsPartlySent, IsSound, Channels, answer_at, answer_mark, queued_bytes, count_of}
use Rattle.daide_channels.specs.Channels.{final_frame_mark, final_frame_to, ending_of, frame_of_queued, has_final_frame, noted, pending, posted}
use Rattle.daide_channels.specs.Channels.{presence, channels_of}
use Rattle.daide_channels.proofs.AwaitedLemmas.{IsSeenFree, silent}
use Rattle.daide_channels.proofs.FrontLemmas.{waits_at}
use Rattle.daide_channels.proofs.FrontsKept.{answered_header}
use Rattle.daide_channels.proofs.MarksLemmas.{agree_put, begun_pushed, count_pushed, same_begun, same_both}
use Rattle.daide_channels.proofs.MarksLemmas.{first_pushed}
use Rattle.daide_channels.proofs.MarksLemmas.{frames_pushed, least, length_marks, unended, unmarked_pushed}
use Rattle.daide_channels.proofs.SidesLemmas.{IsSameSide, caps, rules_alike, its_sides}

-- ---- an answer

-- the bytes that a side's answer sends
answer_is : (i x : Receiver) (head : Head) (verdict : Verdict) → Answers i head verdict x →
    whole_answer x ≡ answer_bytes head (drop 4 i.frame_bytes) verdict
unfolding answer_bytes
answer_is i x head verdict a = rw (a.verdict_set, a.header, a.frame_bytes) refl

answer_some : (i x : Receiver) (head : Head) (verdict : Verdict) → Answers i head verdict x → 0 < length (whole_answer x)
unfolding answer_bytes head_bytes
answer_some i x head verdict a = rw (answer_is i x head verdict a) (omega arith)

presence_put : (sides : PerSide Receiver) (side one : Side) (x : Receiver) → (at sides side).verdict ≡ None →
    presence x.verdict ≡ 1 →
    presence (at (put sides side x) one).verdict ≡ presence (at sides one).verdict + answer_mark one (Answer side)
presence_put sides Bot Bot x e h = rw (e, h) refl
presence_put sides Bot Server x e h = omega arith
presence_put sides Server Bot x e h = omega arith
presence_put sides Server Server x e h = rw (e, h) refl

-- the first frames stay partly sent
replied_begun : (f : Fields) (side : Side) (x : Receiver) → IsSound f → (at f.sides side).verdict ≡ None →
    (wire : Side) → IsPartlySent (answer_at (put f.sides side x)) (at f.wires wire).written (at f.wires wire).items
replied_begun f side x i free wire =
    same_begun (answer_at f.sides) (answer_at (put f.sides side x)) (at f.wires wire).written (at f.wires wire).items
    (agree_put f.sides side x (at f.wires wire).items (silent f side wire i free)) (i.begun wire)

-- the other side's answer stays in its queue
still_aimed : (f : Fields) (side one to wire : Side) (verdict : Verdict) → IsSound f →
    (at f.sides side).verdict ≡ None → (at f.sides one).verdict ≡ Some verdict →
    0 < count_of (answer_mark one) (at (put f.wires to (pushed (at f.wires to) (Answer side))) wire).items →
    wire ≡ destination one verdict
still_aimed f Bot Bot to wire verdict i free given some = absurd (let bad = sym free ∙ given in cc)
still_aimed f Bot Server to wire verdict i free given some = i.aimed Server wire verdict given
    (subst (λ (n : ℕ). 0 < n) (unmarked_pushed f.wires to wire (answer_mark Server) (Answer Bot) refl) some)
still_aimed f Server Bot to wire verdict i free given some = i.aimed Bot wire verdict given
    (subst (λ (n : ℕ). 0 < n) (unmarked_pushed f.wires to wire (answer_mark Bot) (Answer Server) refl) some)
still_aimed f Server Server to wire verdict i free given some = absurd (let bad = sym free ∙ given in cc)

same_verdict : (side : Side) (o : Option Verdict) (v w : Verdict) → o ≡ Some v → o ≡ Some w →
    destination side v ≡ destination side w
same_verdict side o v w e h = ap (destination side) (let same = sym e ∙ h in cc)

-- the new answer is queued for the wire that its verdict selects
now_aimed : (f : Fields) (side to wire : Side) (x : Receiver) (verdict given : Verdict) → IsSound f →
    (at f.sides side).verdict ≡ None → x.verdict ≡ Some verdict → to ≡ destination side verdict →
    x.verdict ≡ Some given →
    0 < count_of (answer_mark side) (at (put f.wires to (pushed (at f.wires to) (Answer side))) wire).items →
    wire ≡ destination side given
now_aimed f side to wire x verdict given i free its aim same =
    put_all (λ (w : Side) (q : Queue). 0 < count_of (answer_mark side) q.items → w ≡ destination side given) f.wires to
    (pushed (at f.wires to) (Answer side)) (λ some. aim ∙ same_verdict side x.verdict verdict given its same)
    (λ w some. absurd (let none = silent f side w i free in omega (arith, none, some))) wire

replied_sound : (f : Fields) (side to : Side) (x : Receiver) (verdict : Verdict) → IsSound f →
    (at f.sides side).verdict ≡ None → IsSameSide (at f.sides side) x → x.verdict ≡ Some verdict →
    to ≡ destination side verdict → 0 < length (whole_answer x) → length x.header ≡ 4 → IsSound (record {
      sides = put f.sides side x;
      wires = put f.wires to (pushed (at f.wires to) (Answer side));
    })
replied_sound f side to x verdict i free same its aim some four = record {
  its_side = λ one. its_sides f side one x i same;
  same_cap = caps f side x i same;
  same_rules = rules_alike f side x i same;
  once = λ one. count_pushed f.wires to (answer_mark one) (Answer side)
      ∙ ap (λ (n : ℕ). n + answer_mark one (Answer side)) (i.once one)
      ∙ sym (presence_put f.sides side one x free (ap presence its));
  aimed = λ one wire given. put_all (λ (s : Side) (y : Receiver). y.verdict ≡ Some given →
      0 < count_of (answer_mark s) (at (put f.wires to (pushed (at f.wires to) (Answer side))) wire).items →
      wire ≡ destination s given) f.sides side x
      (now_aimed f side to wire x verdict given i free its aim)
      (λ s. still_aimed f side s to wire given i free) one;
  ends = λ one. rw (unmarked_pushed f.wires to one final_frame_mark (Answer side) refl) (i.ends one);
  filled = put_all (λ (s : Side) (y : Receiver). presence y.verdict ≡ 1 → 0 < length (whole_answer y)) f.sides side x
      (λ _. some) i.filled;
  headed = put_all (λ (s : Side) (y : Receiver). presence y.verdict ≡ 1 → length y.header ≡ 4) f.sides side x (λ _. four)
      i.headed;
  begun = λ one. begun_pushed (answer_at (put f.sides side x)) f.wires to one (Answer side)
      (rw (at_put f.sides side x) some) (replied_begun f side x i free);
}

replied_waiting : (f : Fields) (side to : Side) (x : Receiver) → IsSound f → (at f.sides side).verdict ≡ None →
    (channels_of (record {
      sides = put f.sides side x;
      wires = put f.wires to
          (pushed (at f.wires to) (Answer side));
    })).queued
    ≡ posted (channels_of f).queued (record { to = to; answers = Some side; bytes = whole_answer x })
replied_waiting f side to x i free =
    frames_pushed after f.wires to (Answer side) (replied_begun f side x i free)
    ∙ ap (λ (w : PerSide (List Sent)). posted w (frame_of_queued to after (Answer side)))
    (same_both (answer_at f.sides) after f.wires
    (λ wire. agree_put f.sides side x (at f.wires wire).items (silent f side wire i free)))
    ∙ ap (λ (y : Receiver). posted (channels_of f).queued (record { to = to; answers = Some side; bytes = whole_answer y }))
    (at_put f.sides side x)
  where
    after : Side → List ℕ
    after = answer_at (put f.sides side x)

-- the answer is the last frame in the queue of the wire that it is sent on
pub answer_waits : (w : PerSide Queue) (side to aim : Side) (own queue : Queue) → queue ≡ pushed own (Answer side) →
    own ≡ at w to → to ≡ aim → put w to queue ≡ put w aim (pushed (at w aim) (Answer side))
answer_waits w side to aim own queue e here is =
    ap (put w to) (e ∙ ap (λ (q : Queue). pushed q (Answer side)) here)
    ∙ ap (λ (s : Side). put w s (pushed (at w s) (Answer side))) is

-- the side's frame has its answer, and the queues change only by this answer
pub post_sound : {f : Fields} {t : Channels} {side one : Side} (to : Side) {head : Head} {verdict : Verdict} {x : Receiver}
    {w : PerSide Queue} → IsSeenFree f t side one → Answers (at f.sides one) head verdict x →
    w ≡ put f.wires to (pushed (at f.wires to) (Answer side)) → to ≡ destination side verdict →
    IsSound (record { sides = put f.sides one x; wires = w })
post_sound {f} {t} {side} {one} to {head} {verdict} {x} h a wires aim =
    subst (λ (v : PerSide Queue). IsSound (record { sides = put f.sides one x; wires = v }))
    (sym (wires ∙ ap (λ (s : Side). put f.wires to (pushed (at f.wires to) (Answer s))) h.seen.its))
    (replied_sound f one to x verdict h.seen.sound h.free (record { side = a.side; cap = a.cap; rules = a.rules })
    a.verdict_set (aim ∙ ap (λ (s : Side). destination s verdict) h.seen.its)
    (answer_some (at f.sides one) x head verdict a)
    (answered_header (at f.sides one) x head verdict a))

pub post_waiting : {f : Fields} {t : Channels} {side one : Side} (to : Side) {head : Head} {verdict : Verdict} {x : Receiver}
    {w : PerSide Queue} → IsSeenFree f t side one → Answers (at f.sides one) head verdict x →
    w ≡ put f.wires to (pushed (at f.wires to) (Answer side)) →
    (channels_of (record { sides = put f.sides one x; wires = w })).queued ≡ posted t.queued (record {
      to = to;
      answers = Some side;
      bytes = answer_bytes head (drop 4 (pending t side)) verdict;
    })
post_waiting {f} {t} {side} {one} to {head} {verdict} {x} h a wires =
    let its = h.seen.its in
    let bytes : whole_answer x ≡ answer_bytes head (drop 4 (pending t side)) verdict =
    answer_is (at f.sides one) x head verdict a
    ∙ ap (λ (b : List ℕ). answer_bytes head (drop 4 b) verdict) (sym h.pending) in
    ap (λ (v : PerSide Queue). (channels_of (record { sides = put f.sides one x; wires = v })).queued)
    (wires ∙ ap (λ (s : Side). put f.wires to (pushed (at f.wires to) (Answer s))) its)
    ∙ replied_waiting f one to x h.seen.sound h.free
    ∙ ap (λ (v : Channels). posted v.queued (record { to = to; answers = Some one; bytes = whole_answer x })) h.seen.is
    ∙ ap (λ (s : Side). posted t.queued (record { to = to; answers = Some s; bytes = whole_answer x })) (sym its)
    ∙ ap (λ (b : List ℕ). posted t.queued (record { to = to; answers = Some side; bytes = b })) bytes

-- the verdict is the grammar's verdict on the frame in the value t
pub post_right : {f : Fields} {t : Channels} {side one : Side} (head : Head) (verdict : Verdict) →
    IsSeenFree f t side one → IsCorrectVerdict (at f.sides one).rules.words (at f.sides one).rules.max_depth
    (question_of (at f.sides one).side (at f.sides one).level head (drop 4 (at f.sides one).frame_bytes)) verdict →
    IsCorrectVerdict t.rules.words t.rules.max_depth (question_of side (noted t side) head (drop 4 (pending t side))) verdict
post_right {f} {t} {side} {one} head verdict h right =
    let level : noted t side ≡ (at f.sides one).level = ap (λ (a : ReceiveState). a.coming.noted) h.seen.arrival in
    rw (h.seen.rules, level, h.pending, h.seen.its ∙ sym (h.seen.sound.its_side one)) right

-- ---- a final frame

-- the queue holds no final frame
unended_field : (f : Fields) (t : Channels) (to : Side) → channels_of f ≡ t → has_final_frame (at t.queued to) ≡ false →
    count_of final_frame_mark (at f.wires to).items ≡ 0
unended_field f t to is none =
    unended to (answer_at f.sides) (at f.wires to)
    (ap has_final_frame (sym (waits_at f to) ∙ ap (λ (v : Channels). at v.queued to) is) ∙ none)

pub end_room : (f : Fields) (t : Channels) (to : Side) → channels_of f ≡ t → IsSound f → has_final_frame (at t.queued to)
    ≡ false →
    length (at f.wires to).items < 3
end_room f t to is i none =
    let none = unended_field f t to is none in
    omega (arith, length_marks (at f.wires to).items, once Bot to, once Server to)
  where
    once : (side wire : Side) → count_of (answer_mark side) (at f.wires wire).items ≤ 1
    once side Bot = omega (arith, i.once side, least (at f.sides side).verdict)
    once side Server = omega (arith, i.once side, least (at f.sides side).verdict)

ending_some : (a : Side → List ℕ) (code : Option Code) → 0 < length (queued_bytes a (ending_of code))
ending_some a None = omega arith
ending_some a (Some code) = omega arith

ending_mark : (one : Side) (code : Option Code) → answer_mark one (ending_of code) ≡ 0
ending_mark one None = refl
ending_mark one (Some code) = refl

ending_once : (code : Option Code) → final_frame_mark (ending_of code) ≤ 1
ending_once None = omega arith
ending_once (Some code) = omega arith

ending_frame : (to : Side) (a : Side → List ℕ) (code : Option Code) → frame_of_queued to a (ending_of code) ≡ final_frame_to to code
ending_frame to a None = refl
ending_frame to a (Some code) = refl

pub end_sound : (f : Fields) (t : Channels) (to : Side) (code : Option Code) (w : PerSide Queue) → channels_of f ≡ t →
    IsSound f →
    has_final_frame (at t.queued to) ≡ false → w ≡ put f.wires to (pushed (at f.wires to) (ending_of code)) →
    IsSound (record { sides = f.sides; wires = w })
end_sound f t to code w is i none wires =
    subst (λ (v : PerSide Queue). IsSound (record { sides = f.sides; wires = v })) (sym wires) (record {
      its_side = i.its_side;
      same_cap = i.same_cap;
      same_rules = i.same_rules;
      once = λ one. (let unmarked = ending_mark one code in let once = i.once one in
          let count = count_pushed f.wires to (answer_mark one) (ending_of code) in omega arith);
      ends = λ one. first_pushed f.wires to one final_frame_mark (ending_of code) (ending_once code)
          (unended_field f t to is none) i.ends;
      filled = i.filled;
      aimed = λ one wire given same some. i.aimed one wire given same
          (subst (λ (n : ℕ). 0 < n)
          (unmarked_pushed f.wires to wire (answer_mark one) (ending_of code) (ending_mark one code)) some);
      headed = i.headed;
      begun = λ one. begun_pushed (answer_at f.sides) f.wires to one (ending_of code)
          (ending_some (answer_at f.sides) code)
          i.begun;
    })

pub end_waiting : (f : Fields) (t : Channels) (to : Side) (code : Option Code) (w : PerSide Queue) → channels_of f ≡ t →
    IsSound f → w ≡ put f.wires to (pushed (at f.wires to) (ending_of code)) →
    (channels_of (record { sides = f.sides; wires = w })).queued ≡ posted t.queued (final_frame_to to code)
end_waiting f t to code w is i wires =
    ap (λ (v : PerSide Queue). (channels_of (record { sides = f.sides; wires = v })).queued) wires
    ∙ frames_pushed (answer_at f.sides) f.wires to (ending_of code) i.begun
    ∙ ap (posted (channels_of f).queued) (ending_frame to (answer_at f.sides) code)
    ∙ ap (λ (v : Channels). posted v.queued (final_frame_to to code)) is
