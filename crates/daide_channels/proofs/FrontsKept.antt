-- The next chunk of a wire stays the same if nothing is sent to the wire.
use Rattle.std.proofs.lemmas.List.{drop-drop}
use Rattle.daide_channels.proofs.Common.{◌≡◌, ℕ, ◌+◌, ◌-◌, List, [], ◌∷◌, ◌++◌, Option, Some, None, refl, sym, ap, ◌∙◌}
use Rattle.daide_channels.proofs.Common.{subst, drop, length, arith, length-drop, Side, Bot, Server, Code, Head}
use Rattle.daide_channels.proofs.Common.{head_bytes, Verdict, other, Sent, destination, parts_after, QueuedFrame}
use Rattle.daide_channels.proofs.Common.{Answer, Em, Fm, PerSide, at, put, Queue, pushed, Receiver, Answers}
use Rattle.daide_channels.proofs.Common.{whole_answer, bytes_by, parts_by, answer_parts}
use Rattle.daide_channels.specs.Channels.{Fields, Channels, IsPartlySent, answer_at, answer_mark, count_of}
use Rattle.daide_channels.specs.Channels.{drop_sent, ending_of, frames_of, parts_in, parts_left, channels_of}
use Rattle.daide_channels.specs.Fronts.{AreAnswerParts, ArePartsKept, KeepsFronts}
use Rattle.daide_channels.proofs.AwaitedLemmas.{IsSeenFree, silent}
use Rattle.daide_channels.proofs.MarksLemmas.{agree_put, same_frames}
use Rattle.daide_channels.proofs.SidesLemmas.{with_side}

-- ---- one wire

parts_stay : (parts : List (List ℕ)) (frames : List Sent) → ArePartsKept parts frames parts frames
parts_stay parts frames = record {
  same = λ some. refl;
  fresh = λ none some. (let bad = sym none ∙ some in absurd (cc));
}

-- ---- both wires

pub fronts_stay : (t : Channels) → KeepsFronts t t
fronts_stay t = λ to. parts_stay (at t.parts to) (at t.queued to)

-- ---- a final frame is appended

ended_here : (sides : PerSide Receiver) (to : Side) (gone : ℕ) (items : List QueuedFrame) (code : Option Code) →
    ArePartsKept (parts_left sides gone items)
    (frames_of to (answer_at sides) (record { written = gone; items = items }))
    (parts_left sides gone (items ++ ending_of code ∷ []))
    (frames_of to (answer_at sides) (record { written = gone; items = items ++ ending_of code ∷ [] }))
ended_here sides to gone [] None = record { same = λ some. absurd (cc); fresh = λ none some. refl }
ended_here sides to gone [] (Some code) = record { same = λ some. absurd (cc); fresh = λ none some. refl }
ended_here sides to gone (Answer side ∷ items) code = record {
  same = λ some. refl;
  fresh = λ none some. absurd (cc);
}
ended_here sides to gone (Fm ∷ items) code = record { same = λ some. refl; fresh = λ none some. absurd (cc) }
ended_here sides to gone (Em one ∷ items) code = record { same = λ some. refl; fresh = λ none some. absurd (cc) }

abbrev IsKeptAt : Channels → Channels → Side → Type 0
IsKeptAt t u to = ArePartsKept (at t.parts to) (at t.queued to) (at u.parts to) (at u.queued to)

pub end_fronts : (f : Fields) (t : Channels) (to : Side) (code : Option Code) (w : PerSide Queue) → channels_of f ≡ t →
    w ≡ put f.wires to (pushed (at f.wires to) (ending_of code)) →
    KeepsFronts t (channels_of (record { sides = f.sides; wires = w }))
end_fronts f t to code w is wires = λ one.
    subst (λ (v : Channels). IsKeptAt v (channels_of (record { sides = f.sides; wires = w })) one) is
    (subst (λ (v : PerSide Queue). IsKeptAt (channels_of f) (channels_of (record { sides = f.sides; wires = v })) one)
    (sym wires) (go to one))
  where
    go : (to one : Side) → IsKeptAt (channels_of f) (channels_of (record {
      sides = f.sides;
      wires = put f.wires to (pushed (at f.wires to) (ending_of code));
    })) one
    go Bot Bot = ended_here f.sides Bot f.wires.bot.written f.wires.bot.items code
    go Bot Server = fronts_stay (channels_of f) Server
    go Server Bot = fronts_stay (channels_of f) Bot
    go Server Server = ended_here f.sides Server f.wires.server.written f.wires.server.items code

-- ---- a side without a queued answer is replaced

parts_put : (sides : PerSide Receiver) (one : Side) (x : Receiver) (gone : ℕ) (items : List QueuedFrame) →
    count_of (answer_mark one) items ≡ 0 → parts_left (put sides one x) gone items ≡ parts_left sides gone items
parts_put sides one x gone [] e = refl
parts_put sides one x gone (Fm ∷ items) e = refl
parts_put sides one x gone (Em code ∷ items) e = refl
parts_put sides one x gone (Answer side ∷ items) e = go one side e
  where
    go : (one side : Side) → count_of (answer_mark one) (Answer side ∷ items) ≡ 0 →
        parts_after gone (answer_parts (at (put sides one x) side)) ≡ parts_after gone (answer_parts (at sides side))
    go Bot Bot e = absurd (omega (arith, e))
    go Bot Server e = refl
    go Server Bot e = refl
    go Server Server e = absurd (omega (arith, e))

pub fronts_side : {f : Fields} {t : Channels} {side one : Side} (x : Receiver) → IsSeenFree f t side one →
    (channels_of (with_side f one x)).parts ≡ t.parts
fronts_side {f} {t} {side} {one} x h =
    both_same
    (parts_put f.sides one x f.wires.bot.written f.wires.bot.items (silent f one Bot h.seen.sound h.free))
    (parts_put f.sides one x f.wires.server.written f.wires.server.items (silent f one Server h.seen.sound h.free))
    ∙ ap (λ (v : Channels). v.parts) h.seen.is
  where
    both_same : {a b c d : List (List ℕ)} → a ≡ b → c ≡ d →
        ◌≡◌ {A = PerSide (List (List ℕ))} (record { bot = a; server = c }) (record { bot = b; server = d })
    both_same {a} {b} {c} {d} e k = rw (e, k) refl

-- ---- an answer is appended

-- a side with an answer has a header of four bytes
pub answered_header : (i x : Receiver) (head : Head) (verdict : Verdict) → Answers i head verdict x →
    length x.header ≡ 4
unfolding head_bytes
answered_header i x head verdict a = ap length a.header

none_gone : (parts : List (List ℕ)) → parts_after 0 parts ≡ parts
none_gone [] = refl
none_gone (part ∷ parts) = rw (no_less (length part)) (ap (λ (ps : List (List ℕ)). part ∷ ps) (none_gone parts))
  where
    no_less : (n : ℕ) → 0 - n ≡ 0
    no_less n = omega arith

-- the parts of an answer of which nothing was sent
pub answer_fresh : (x : Receiver) (side to : Side) (verdict : Verdict) → x.verdict ≡ Some verdict →
    length x.header ≡ 4 → to ≡ destination side verdict → AreAnswerParts side (parts_after 0 (answer_parts x))
    (record { to = to; answers = Some side; bytes = drop 0 (whole_answer x) })
answer_fresh x side to verdict given four aim = record {
  header = x.header;
  body = drop 4 x.frame_bytes;
  verdict = verdict;
  aimed = aim;
  four = four;
  whole = ap (bytes_by x.header (drop 4 x.frame_bytes)) given;
  cut = none_gone (answer_parts x) ∙ ap (parts_by x.header (drop 4 x.frame_bytes)) given;
}

-- a side with an answer
record IsAnswer (x : Receiver) (verdict : Verdict) : Type 0 where
  given : x.verdict ≡ Some verdict
  four : length x.header ≡ 4

replied_here : (sides : PerSide Receiver) (one to : Side) (x : Receiver) (verdict : Verdict) (gone : ℕ)
    (items : List QueuedFrame) → count_of (answer_mark one) items ≡ 0 → IsPartlySent (answer_at sides) gone items →
    IsAnswer x verdict → to ≡ destination one verdict →
    ArePartsKept (parts_left sides gone items)
    (frames_of to (answer_at sides) (record { written = gone; items = items }))
    (parts_left (put sides one x) gone (items ++ Answer one ∷ []))
    (frames_of to (answer_at (put sides one x)) (record { written = gone; items = items ++ Answer one ∷ [] }))
replied_here sides one to x verdict gone [] e begun its aim = record {
  same = λ some. absurd (cc);
  fresh = λ none some. rw begun (go one aim);
}
  where
    go : (one : Side) → to ≡ destination one verdict →
        AreAnswerParts one (parts_after 0 (answer_parts (at (put sides one x) one)))
        (record { to = to; answers = Some one; bytes = drop 0 (whole_answer (at (put sides one x) one)) })
    go Bot aim = answer_fresh x Bot to verdict its.given its.four aim
    go Server aim = answer_fresh x Server to verdict its.given its.four aim
replied_here sides one to x verdict gone (Answer side ∷ items) e begun its aim = record {
  same = λ some. parts_put sides one x gone (Answer side ∷ items) e;
  fresh = λ none some. absurd (cc);
}
replied_here sides one to x verdict gone (Fm ∷ items) e begun its aim = record {
  same = λ some. refl;
  fresh = λ none some. absurd (cc);
}
replied_here sides one to x verdict gone (Em code ∷ items) e begun its aim = record {
  same = λ some. refl;
  fresh = λ none some. absurd (cc);
}

-- the other wire
replied_there : (sides : PerSide Receiver) (one to : Side) (x : Receiver) (q : Queue) →
    count_of (answer_mark one) q.items ≡ 0 →
    ArePartsKept (parts_left sides q.written q.items) (frames_of to (answer_at sides) q)
    (parts_left (put sides one x) q.written q.items) (frames_of to (answer_at (put sides one x)) q)
replied_there sides one to x q e =
    subst (λ (l : List (List ℕ)). ArePartsKept (parts_left sides q.written q.items) (frames_of to (answer_at sides) q) l
    (frames_of to (answer_at (put sides one x)) q)) (sym (parts_put sides one x q.written q.items e))
    (subst (λ (l : List Sent). ArePartsKept (parts_left sides q.written q.items) (frames_of to (answer_at sides) q)
    (parts_left sides q.written q.items) l)
    (sym (ap (drop_sent q.written)
    (same_frames to (answer_at sides) (answer_at (put sides one x)) q.items (agree_put sides one x q.items e))))
    (parts_stay (parts_left sides q.written q.items) (frames_of to (answer_at sides) q)))

pub post_fronts : {f : Fields} {t : Channels} {side one : Side} (to : Side) {head : Head} {verdict : Verdict}
    {x : Receiver} {w : PerSide Queue} → IsSeenFree f t side one → Answers (at f.sides one) head verdict x →
    w ≡ put f.wires to (pushed (at f.wires to) (Answer side)) → to ≡ destination side verdict →
    KeepsFronts t (channels_of (record { sides = put f.sides one x; wires = w }))
post_fronts {f} {t} {side} {one} to {head} {verdict} {x} {w} h a wires aim = λ wire.
    subst (λ (v : Channels). IsKeptAt v (channels_of (record { sides = put f.sides one x; wires = w })) wire) h.seen.is
    (subst (λ (v : PerSide Queue). IsKeptAt (channels_of f) (channels_of (record { sides = put f.sides one x; wires = v })) wire)
    (sym (wires ∙ ap (λ (s : Side). put f.wires to (pushed (at f.wires to) (Answer s))) h.seen.its))
    (go to wire (aim ∙ ap (λ (s : Side). destination s verdict) h.seen.its)))
  where
    its : IsAnswer x verdict
    its = record {
      given = a.verdict_set;
      four = answered_header (at f.sides one) x head verdict a;
    }

    none : (wire : Side) → count_of (answer_mark one) (at f.wires wire).items ≡ 0
    none wire = silent f one wire h.seen.sound h.free

    go : (to wire : Side) → to ≡ destination one verdict → IsKeptAt (channels_of f) (channels_of (record {
      sides = put f.sides one x;
      wires = put f.wires to (pushed (at f.wires to) (Answer one));
    })) wire
    go Bot Bot aim =
        replied_here f.sides one Bot x verdict f.wires.bot.written f.wires.bot.items (none Bot) (h.seen.sound.begun Bot)
        its aim
    go Bot Server aim = replied_there f.sides one Server x f.wires.server (none Server)
    go Server Bot aim = replied_there f.sides one Bot x f.wires.bot (none Bot)
    go Server Server aim =
        replied_here f.sides one Server x verdict f.wires.server.written f.wires.server.items (none Server)
        (h.seen.sound.begun Server) its aim

-- ---- bytes of the front are sent

-- more bytes are sent
more_gone : (parts : List (List ℕ)) (gone n : ℕ) → parts_after (gone + n) parts ≡ parts_after n (parts_after gone parts)
more_gone [] gone n = refl
more_gone (part ∷ parts) gone n = go (more_gone parts (gone - length part) (n - length (drop gone part)))
  where
    left : length (drop gone part) ≡ length part - gone
    left = length-drop gone part

    sum : gone + n - length part ≡ gone - length part + (n - length (drop gone part))
    sum = omega (arith, left)

    go : parts_after (gone - length part + (n - length (drop gone part))) parts
        ≡ parts_after (n - length (drop gone part)) (parts_after (gone - length part) parts) →
        parts_after (gone + n) (part ∷ parts) ≡ parts_after n (parts_after gone (part ∷ parts))
    go later = rw sum (rw later (ap (λ (xs : List ℕ). xs ∷ parts_after (n - length (drop gone part))
        (parts_after (gone - length part) parts)) (sym (drop-drop n gone part))))

parts_more : (sides : PerSide Receiver) (gone n : ℕ) (items : List QueuedFrame) →
    parts_left sides (gone + n) items ≡ parts_after n (parts_left sides gone items)
parts_more sides gone n [] = refl
parts_more sides gone n (item ∷ items) = more_gone (parts_in sides item) gone n

pub advanced_front : (f : Fields) (t : Channels) (to one : Side) (n : ℕ) (q : Queue) → channels_of f ≡ t → to ≡ one →
    q ≡ record { written = (at f.wires one).written + n; items = (at f.wires one).items } →
    at (channels_of (record { sides = f.sides; wires = put f.wires one q })).parts to ≡ parts_after n (at t.parts to)
advanced_front f t to one n q is its wire =
    subst (λ (v : Channels). at (channels_of (record { sides = f.sides; wires = put f.wires one q })).parts to
    ≡ parts_after n (at v.parts to)) is
    (subst (λ (s : Side). at (channels_of (record { sides = f.sides; wires = put f.wires one q })).parts s
    ≡ parts_after n (at (channels_of f).parts s)) (sym its)
    (subst (λ (p : Queue). at (channels_of (record { sides = f.sides; wires = put f.wires one p })).parts one
    ≡ parts_after n (at (channels_of f).parts one)) (sym wire) (go one)))
  where
    go : (one : Side) → at (channels_of (record {
      sides = f.sides;
      wires = put f.wires one (record { written = (at f.wires one).written + n; items = (at f.wires one).items });
    })).parts one ≡ parts_after n (at (channels_of f).parts one)
    go Bot = parts_more f.sides f.wires.bot.written n f.wires.bot.items
    go Server = parts_more f.sides f.wires.server.written n f.wires.server.items

-- the parts of the other wire stay
pub advanced_other : (f : Fields) (t : Channels) (to : Side) (q : Queue) → channels_of f ≡ t →
    at (channels_of (record { sides = f.sides; wires = put f.wires to q })).parts (other to) ≡ at t.parts (other to)
advanced_other f t to q is = go to ∙ ap (λ (v : Channels). at v.parts (other to)) is
  where
    go : (one : Side) →
        at (channels_of (record { sides = f.sides; wires = put f.wires one q })).parts (other one)
        ≡ at (channels_of f).parts (other one)
    go Bot = refl
    go Server = refl
