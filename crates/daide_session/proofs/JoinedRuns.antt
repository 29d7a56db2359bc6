-- The next of two joined gateways hears the frames that the first sent, and handles them.
use Rattle.std.proofs.Common.{zero, suc, ◌^◌, ◌&&◌, leb, ltb}
use Rattle.std.specs.Int.{w16, from_be_bytes, to_be_bytes}
use Rattle.std.proofs.lemmas.List.{take-append-le, drop-append-le, take_at, drop_at, drop-drop}
use Rattle.std.proofs.lemmas.List.Elements.{All-head, All-tail, All-weaker}
use Rattle.std.proofs.lemmas.Nat.{from_be_bytes-to_be_bytes_2}
use Rattle.std.proofs.lemmas.Bool.{leb-true}
use Rattle.daide_session.proofs.Common.{◌≡◌, ℕ, ◌+◌, ◌≤◌, ◌<◌, Bool, true, false, cond, eqb, List, [], ◌∷◌, ◌++◌}
use Rattle.daide_session.proofs.Common.{length, take, drop, Option, Some, None, Result, Ok, Err, refl, sym, ◌∙◌, ap}
use Rattle.daide_session.proofs.Common.{subst, arith, All, Side, Kind, Im, Rm, Dm, Fm, Em, Head, Code, kind_number}
use Rattle.daide_session.proofs.Common.{parse_head, head_bytes, is_im, FrameEvent, Begun, Whole, Wrong, Level, Verdict}
use Rattle.daide_session.proofs.Common.{Relay, Prn, Huh, Word, SessionPhase, longest_body, answer_bytes, other}
use Rattle.daide_session.proofs.Common.{same_side, Limits, Sent, Effect, initial_state, reply_to, sent_to, sent_bytes}
use Rattle.daide_session.proofs.Common.{EventCause, Frame, Fault, End, Timeout, Stop, Came, came_in, frames_from}
use Rattle.daide_session.proofs.Common.{IsJudged, IsFate, HaveFates, IsFrame, MayBeSent, no_message, passed, within_prn}
use Rattle.daide_session.proofs.Common.{within_huh, frame_whole, run_fates, IsGood, AreGood, run_good, only_messages}
use Rattle.daide_session.proofs.Common.{IsVerdictOfNext}
use Rattle.daide_frame.specs.declared.code.Code.TheVariants.{WrongEndian, UnknownMessage, WrongLength}
use Rattle.daide_frame.specs.Head.{kind_of, has_right_length, judged}
use Rattle.daide_frame.specs.Frames.{EventAtOffset, alien_in, items_of_body, items_from_head, first_items}
use Rattle.daide_frame.specs.Frames.{frame_events_of, frame_end, moved, or_nothing, cut_frames, cut}
use Rattle.daide_frame.proofs.ListLemmas.{ltb_no}
use Rattle.daide_frame.proofs.FramesLemmas.{first_items-short}
use Rattle.daide_protocol.specs.Heard.{bytes_from}
use Rattle.daide_protocol.specs.Fates.{whole_frame_from, frames_among, IsMessageFate, is_passed_on, is_answered_prn}
use Rattle.daide_protocol.specs.Fates.{is_answered_huh, IsFrameFate}
use Rattle.daide_protocol.proofs.FrameShapes.{IsWholeFrame}
use Rattle.daide_protocol.proofs.FateLemmas.{frames_come}
use Rattle.daide_protocol.proofs.WireLemmas.{same_self}
use Rattle.daide_session.specs.InARow.{InARowOver}
use Rattle.daide_session.specs.Joined.{AreFirst, IsFateAtNext, HaveFatesAtNext, JoinedSessionsOver}

-- ---- the sent frames are whole

abbrev IsSomeFrame : List ℕ → Type 0
IsSomeFrame bytes = (kind : Kind) × (body : List ℕ) × IsFrame kind body bytes

some_frame : (limits : Limits) (came : List Came) (to : Side) (bytes : List ℕ) → MayBeSent limits came to bytes →
    IsSomeFrame bytes
some_frame limits came to bytes (no_message kind body n f) = (kind, body, f)
some_frame limits came to bytes (passed noted body f h p) = (Dm, body, f)
some_frame limits came to bytes (within_prn noted own body f h w) = (Dm, body, f)
some_frame limits came to bytes (within_huh noted place own body f h w) = (Dm, body, f)

-- ---- the header read is the header written

kind_is : (kind : Kind) → kind_of (kind_number kind) ≡ Some kind
kind_is Im = refl
kind_is Rm = refl
kind_is Dm = refl
kind_is Fm = refl
kind_is Em = refl

abbrev made : Kind → ℕ → Head
made kind n = record { kind = kind; len = n }

judged_is : (kind : Kind) (n cap : ℕ) (head : Head) → judged (Some kind) n cap ≡ Ok head → made kind n ≡ head
judged_is kind n cap head e = go (is_im kind && eqb n 0x0400) (has_right_length kind n) (ltb cap n) e
  where
    go : (a b c : Bool) →
        ◌≡◌ {A = Result Head Code}
        (cond a (Err WrongEndian) (cond b (cond c (Err UnknownMessage) (Ok (made kind n))) (Err WrongLength)))
        (Ok head) → made kind n ≡ head
    go true b c h = absurd (cc)
    go false true true h = absurd (cc)
    go false true false h = cc
    go false false c h = absurd (cc)

-- ---- the first frame of some sent bytes

-- the bytes after the header
abbrev IsHeader : ℕ → ℕ → ℕ → ℕ → List ℕ → Kind → List ℕ → List ℕ → Type 0
IsHeader p q r s v kind body more =
    (p ≡ kind_number kind) × (q ≡ 0) × (r ∷ s ∷ [] ≡ to_be_bytes w16 (length body)) × (v ≡ body ++ more)

header_is : (p q r s : ℕ) (v : List ℕ) (kind : Kind) (body bytes more : List ℕ) → IsFrame kind body bytes →
    p ∷ q ∷ r ∷ s ∷ v ≡ bytes ++ more → IsHeader p q r s v kind body more
unfolding head_bytes
header_is p q r s v kind body bytes more f e = go (e ∙ ap (λ (b : List ℕ). b ++ more) f.whole)
  where
    go : p ∷ q ∷ r ∷ s ∷ v ≡ (head_bytes (record { kind = kind; len = length body }) ++ body) ++ more →
        IsHeader p q r s v kind body more
    go h =
        let first : p ≡ kind_number kind = cc in
        let pad : q ≡ 0 = cc in
        let high : ◌≡◌ {A = List ℕ} (r ∷ s ∷ []) (to_be_bytes w16 (length body)) = cc in
        let rest : v ≡ body ++ more = cc in
        (first, pad, high, rest)

read_is : (p q r s : ℕ) (v rest : List ℕ) (kind : Kind) (body more : List ℕ) (cap : ℕ) (head : Head) →
    IsHeader p q r s (v ++ rest) kind body more → length body < 2 ^ 16 → parse_head (p ∷ q ∷ r ∷ s ∷ v) cap ≡ Ok head →
    made kind (length body) ≡ head
unfolding parse_head
read_is p q r s v rest kind body more cap head h short e =
    let kinds : kind_of p ≡ Some kind = ap kind_of h.0 ∙ kind_is kind in
    let len : from_be_bytes w16 (r ∷ s ∷ []) ≡ length body =
    ap (from_be_bytes w16) h.2 ∙ from_be_bytes-to_be_bytes_2 (length body) short in
    judged_is kind (length body) cap head
    (ap (λ (n : ℕ). judged (Some kind) n cap) (sym len)
    ∙ (ap (λ (o : Option Kind). judged o (from_be_bytes w16 (r ∷ s ∷ [])) cap) (sym kinds) ∙ e))

-- ---- the cut of the sent bytes

frame_events_of-moved : (by : ℕ) (placed : List EventAtOffset) → frame_events_of (moved by placed) ≡ frame_events_of placed
frame_events_of-moved by [] = refl
frame_events_of-moved by (p ∷ more) = ap (λ (t : List FrameEvent). p.item ∷ t) (frame_events_of-moved by more)

-- whatever is cut off at the end, and whatever follows it
abbrev Fronts : ℕ → ℕ → Type 0
Fronts cap n = (bytes rest : List ℕ) (sent : List Sent) → All (λ (s : Sent). IsSomeFrame s.bytes) sent →
    sent_bytes sent ≡ bytes ++ rest → AreFirst (frames_among (frame_events_of (cut_frames n cap bytes))) sent

-- one frame is whole, and the bytes after it are a front of the other frames
one_front : (cap n p q r s : ℕ) (v rest : List ℕ) (head : Head) (sent : List Sent) → Fronts cap n →
    All (λ (s : Sent). IsSomeFrame s.bytes) sent → parse_head (p ∷ q ∷ r ∷ s ∷ v) cap ≡ Ok head →
    sent_bytes sent ≡ p ∷ q ∷ r ∷ s ∷ (v ++ rest) → head.len ≤ length v →
    AreFirst (Whole head (take head.len v) ∷ frames_among (frame_events_of (cut_frames n cap (drop head.len v)))) sent
one_front cap n p q r s v rest head [] fronts all e b l =
    absurd (cc)
one_front cap n p q r s v rest head (frame ∷ more) fronts all e b l =
    (frame_is, fronts (drop head.len v) rest more others behind)
  where
    some : IsSomeFrame frame.bytes
    some = All-head (λ (s : Sent). IsSomeFrame s.bytes) frame more all

    others : All (λ (s : Sent). IsSomeFrame s.bytes) more
    others = All-tail (λ (s : Sent). IsSomeFrame s.bytes) frame more all

    parts : IsHeader p q r s (v ++ rest) some.0 some.1 (sent_bytes more)
    parts = header_is p q r s (v ++ rest) some.0 some.1 frame.bytes (sent_bytes more) some.2 (sym b)

    same : made some.0 (length some.1) ≡ head
    same = read_is p q r s v rest some.0 some.1 (sent_bytes more) cap head parts some.2.short e

    long : length some.1 ≡ head.len
    long = ap (λ (h : Head). h.len) same

    body_is : take head.len v ≡ some.1
    body_is =
        sym (take-append-le head.len v rest l)
        ∙ (ap (take head.len) parts.3 ∙ take_at some.1 (sent_bytes more) head.len long)

    behind : sent_bytes more ≡ drop head.len v ++ rest
    behind =
        sym (drop_at some.1 (sent_bytes more) head.len long)
        ∙ (sym (ap (drop head.len) parts.3) ∙ drop-append-le head.len v rest l)

    frame_is : frame.bytes ≡ head_bytes head ++ take head.len v
    frame_is =
        some.2.whole ∙ (ap (λ (h : Head). head_bytes h ++ some.1) same ∙ ap (λ (b : List ℕ). head_bytes head ++ b)
        (sym body_is))

-- the frame events of one frame, and those of the others if it is whole
abbrev then_others : ℕ → ℕ → List ℕ → List EventAtOffset → List EventAtOffset
then_others cap n bytes items =
    items ++ or_nothing (λ len. moved len (cut_frames n cap (drop len bytes))) (frame_end items)

behind_head : (n p q r s : ℕ) (v : List ℕ) → drop (4 + n) (p ∷ q ∷ r ∷ s ∷ v) ≡ drop n v
behind_head n p q r s v = sym (drop-drop n 4 (p ∷ q ∷ r ∷ s ∷ v))

body_front : (cap n p q r s : ℕ) (v rest : List ℕ) (head : Head) (sent : List Sent) → Fronts cap n →
    All (λ (s : Sent). IsSomeFrame s.bytes) sent → parse_head (p ∷ q ∷ r ∷ s ∷ v) cap ≡ Ok head →
    sent_bytes sent ≡ p ∷ q ∷ r ∷ s ∷ (v ++ rest) → (alien : Option ℕ) →
    AreFirst (frames_among (frame_events_of (then_others cap n (p ∷ q ∷ r ∷ s ∷ v)
    (record { item = Begun head; at = 4 } ∷ items_of_body head v alien)))) sent
body_front cap n p q r s v rest head sent fronts all e b (Some k) = tt
body_front cap n p q r s v rest head sent fronts all e b None = go (leb head.len (length v)) refl
  where
    go : (k : Bool) → leb head.len (length v) ≡ k →
        AreFirst (frames_among (frame_events_of (then_others cap n (p ∷ q ∷ r ∷ s ∷ v)
        (record { item = Begun head; at = 4 }
        ∷ (cond k (record { item = Whole head (take head.len v); at = 4 + head.len } ∷ []) []))))) sent
    go false k = tt
    go true k =
        subst (λ (items : List FrameEvent). AreFirst (Whole head (take head.len v) ∷ frames_among items) sent)
        (sym (frame_events_of-moved (4 + head.len) (cut_frames n cap (drop (4 + head.len) (p ∷ q ∷ r ∷ s ∷ v)))
        ∙ ap (λ (bytes : List ℕ). frame_events_of (cut_frames n cap bytes)) (behind_head head.len p q r s v)))
        (one_front cap n p q r s v rest head sent fronts all e b (leb-true head.len (length v) k))

head_front : (cap n p q r s : ℕ) (v rest : List ℕ) (sent : List Sent) → Fronts cap n →
    All (λ (s : Sent). IsSomeFrame s.bytes) sent → sent_bytes sent ≡ p ∷ q ∷ r ∷ s ∷ (v ++ rest) →
    (o : Result Head Code) → parse_head (p ∷ q ∷ r ∷ s ∷ v) cap ≡ o →
    AreFirst (frames_among (frame_events_of (then_others cap n (p ∷ q ∷ r ∷ s ∷ v) (items_from_head o v)))) sent
head_front cap n p q r s v rest sent fronts all b (Err code) e = tt
head_front cap n p q r s v rest sent fronts all b (Ok head) e =
    body_front cap n p q r s v rest head sent fronts all e b (alien_in head v)

long_front : (cap n p q r s : ℕ) (v rest : List ℕ) (sent : List Sent) → Fronts cap n →
    All (λ (s : Sent). IsSomeFrame s.bytes) sent → sent_bytes sent ≡ p ∷ q ∷ r ∷ s ∷ (v ++ rest) →
    AreFirst (frames_among (frame_events_of (cut_frames (suc n) cap (p ∷ q ∷ r ∷ s ∷ v)))) sent
unfolding first_items
long_front cap n p q r s v rest sent fronts all b =
    rw (ltb_no (length (p ∷ q ∷ r ∷ s ∷ v)) 4 (omega arith))
    (head_front cap n p q r s v rest sent fronts all b (parse_head (p ∷ q ∷ r ∷ s ∷ v) cap) refl)

short_front : (cap n : ℕ) (bytes : List ℕ) (sent : List Sent) → length bytes < 4 →
    AreFirst (frames_among (frame_events_of (cut_frames (suc n) cap bytes))) sent
short_front cap n bytes sent l = rw (first_items-short cap bytes l) tt

frames_front : (cap n : ℕ) (bytes rest : List ℕ) (sent : List Sent) → All (λ (s : Sent). IsSomeFrame s.bytes) sent →
    sent_bytes sent ≡ bytes ++ rest → AreFirst (frames_among (frame_events_of (cut_frames n cap bytes))) sent
frames_front cap zero bytes rest sent all b = tt
frames_front cap (suc n) [] rest sent all b = short_front cap n [] sent (omega arith)
frames_front cap (suc n) (p ∷ []) rest sent all b = short_front cap n (p ∷ []) sent (omega arith)
frames_front cap (suc n) (p ∷ q ∷ []) rest sent all b = short_front cap n (p ∷ q ∷ []) sent (omega arith)
frames_front cap (suc n) (p ∷ q ∷ r ∷ []) rest sent all b = short_front cap n (p ∷ q ∷ r ∷ []) sent (omega arith)
frames_front cap (suc n) (p ∷ q ∷ r ∷ s ∷ v) rest sent all b =
    long_front cap n p q r s v rest sent (frames_front cap n) all b

cut_front : (cap : ℕ) (bytes rest : List ℕ) (sent : List Sent) → All (λ (s : Sent). IsSomeFrame s.bytes) sent →
    sent_bytes sent ≡ bytes ++ rest → AreFirst (frames_among (frame_events_of (cut cap bytes))) sent
unfolding cut
cut_front cap bytes rest sent all b = frames_front cap (length bytes) bytes rest sent all b

-- a front of the first frames is first too
fewer_first : (items later : List FrameEvent) (sent : List Sent) → AreFirst (items ++ later) sent → AreFirst items sent
fewer_first [] later sent f = tt
fewer_first (Begun head ∷ items) later sent f = f
fewer_first (Wrong code ∷ items) later sent f = f
fewer_first (Whole head body ∷ items) later [] f = f
fewer_first (Whole head body ∷ items) later (frame ∷ sent) f = (f.0, fewer_first items later sent f.1)

-- ---- the next gateway's moves

module _ (limits : Limits) (small : limits.cap ≤ longest_body) (one : List Came) (to : Side) where
  -- the next gateway's verdict on a message with these bytes
  abbrev Next : List ℕ → Type 0
  Next bytes = (body : List ℕ) (level : Level) (verdict : Verdict) → IsFrame Dm body bytes →
      IsJudged limits (other to) level body verdict → IsVerdictOfNext limits one to level body verdict

  abbrev EachNext : List FrameEvent → Type 0
  EachNext [] = Unit {0}
  EachNext (Begun head ∷ items) = EachNext items
  EachNext (Wrong code ∷ items) = EachNext items
  EachNext (Whole head body ∷ items) = Next (head_bytes head ++ body) × EachNext items

  first_next : (items : List FrameEvent) (sent : List Sent) → AreFirst items sent → All (λ (s : Sent). Next s.bytes) sent →
      EachNext items
  first_next [] sent f all = tt
  first_next (Begun head ∷ items) sent f all = absurd f
  first_next (Wrong code ∷ items) sent f all = absurd f
  first_next (Whole head body ∷ items) [] f all = absurd f
  first_next (Whole head body ∷ items) (frame ∷ sent) f all = (
    subst Next f.0 (All-head (λ (s : Sent). Next s.bytes) frame sent all),
    first_next items sent f.1 (All-tail (λ (s : Sent). Next s.bytes) frame sent all),
  )

  message_fate : (side : Side) (noted : Level) (len : ℕ) (body : List ℕ) (sent : List Sent) →
      IsWholeFrame limits.cap (record { kind = Dm; len = len }) body → side ≡ other to →
      Next (head_bytes (record { kind = Dm; len = len }) ++ body) →
      IsMessageFate limits side noted (record { kind = Dm; len = len }) body sent →
      (verdict : Verdict) × IsVerdictOfNext limits one to noted body verdict
      × (sent ≡ reply_to side (record { kind = Dm; len = len }) body verdict ∷ [])
  unfolding answer_bytes
  message_fate side noted len body sent w e next fate = go fate
    where
      judged_next : (v : Verdict) → IsJudged limits side noted body v → IsVerdictOfNext limits one to noted body v
      judged_next v j =
          next body noted v (frame_whole limits.cap (record { kind = Dm; len = len }) body small w)
          (subst (λ (s : Side). IsJudged limits s noted body v) e j)

      go : IsMessageFate limits side noted (record { kind = Dm; len = len }) body sent →
          (verdict : Verdict) × IsVerdictOfNext limits one to noted body verdict
          × (sent ≡ reply_to side (record { kind = Dm; len = len }) body verdict ∷ [])
      go (is_passed_on j s) = (Relay, judged_next Relay j, s)
      go (is_answered_prn j s) = (Prn, judged_next Prn j, s)
      go (is_answered_huh place j s) = (Huh place, judged_next (Huh place) j, s)

  frame_fate : (phase : SessionPhase) (side : Side) (noted : Level) (kind : Kind) (len : ℕ) (body : List ℕ)
      (sent : List Sent) → IsWholeFrame limits.cap (record { kind = kind; len = len }) body →
      IsFrameFate kind limits phase side noted (record { kind = kind; len = len }) body sent →
      (side ≡ other to → Next (head_bytes (record { kind = kind; len = len }) ++ body)) →
      IsFateAtNext (IsVerdictOfNext limits one to) to (Frame side noted (record { kind = kind; len = len }) body) sent
  frame_fate phase side noted Im len body sent w f next e k = absurd (cc)
  frame_fate phase side noted Rm len body sent w f next e k = absurd (cc)
  frame_fate phase side noted Dm len body sent w f next e k =
      message_fate side noted len body sent w e (next e) f
  frame_fate phase side noted Fm len body sent w f next e k = absurd (cc)
  frame_fate phase side noted Em len body sent w f next e k = absurd (cc)

  -- the messages from the side of the first gateway
  cause_fate : (phase : SessionPhase) (cause : EventCause) (sent : List Sent) → IsGood limits.cap cause →
      IsFate limits phase cause sent → EachNext (whole_frame_from (other to) cause) →
      IsFateAtNext (IsVerdictOfNext limits one to) to cause sent
  cause_fate phase (Frame side noted head body) sent g f next =
      frame_fate phase side noted head.kind head.len body sent g f (λ e. here e next)
    where
      here : side ≡ other to → EachNext (whole_frame_from (other to) (Frame side noted head body)) →
          Next (head_bytes head ++ body)
      here e n =
          (subst EachNext (ap (λ (b : Bool). cond b (Whole head body ∷ []) []) (ap (λ (s : Side). same_side s
          (other to)) e ∙ same_self (other to))) n).0
  cause_fate phase (Fault side code) sent g f next = tt
  cause_fate phase (End side) sent g f next = tt
  cause_fate phase Timeout sent g f next = tt
  cause_fate phase Stop sent g f next = tt

  each_part : (a b : List FrameEvent) → EachNext (a ++ b) → EachNext a × EachNext b
  each_part [] b n = (tt, n)
  each_part (Begun head ∷ a) b n = each_part a b n
  each_part (Wrong code ∷ a) b n = each_part a b n
  each_part (Whole head body ∷ a) b n = let rest = each_part a b n.1 in ((n.0, rest.0), rest.1)

  all_fates : (next : List Came) (effects : List Effect) → AreGood limits.cap next → HaveFates limits next effects →
      EachNext (frames_from (other to) next) → HaveFatesAtNext (IsVerdictOfNext limits one to) to next effects
  all_fates [] effects g f n = f
  all_fates (c ∷ more) [] g f n = absurd f
  all_fates (c ∷ more) (effect ∷ effects) g f n =
      let parts = each_part (whole_frame_from (other to) c.cause) (frames_from (other to) more) n in
      (cause_fate c.phase c.cause effect.sent g.0 f.0 parts.0, all_fates more effects g.1 f.1 parts.1)

-- ---- two runs

pub joined_over : (words : List Word) → InARowOver words → JoinedSessionsOver words
joined_over words row limits to events next_events effects next_effects new next_new run next_run same small joined =
    record { in_order = in_order; fates = fates }
  where
    one : List Came
    one = came_in (initial_state limits) events effects new run

    next : List Came
    next = came_in (initial_state limits) next_events next_effects next_new next_run

    some : All (λ (s : Sent). IsSomeFrame s.bytes) (sent_to to effects)
    some =
        All-weaker (λ (s : Sent). MayBeSent limits one to s.bytes) (λ (s : Sent). IsSomeFrame s.bytes)
        (λ s. some_frame limits one to s.bytes) (sent_to to effects) (only_messages limits events effects new run
        small to)

    in_order : AreFirst (frames_from (other to) next) (sent_to to effects)
    in_order =
        let come = frames_come (other to) limits next_events next_effects next_new next_run in
        fewer_first (frames_from (other to) next) come.0 (sent_to to effects)
        (subst (λ (items : List FrameEvent). AreFirst items (sent_to to effects)) come.1
        (cut_front limits.cap (bytes_from (other to) next_events) joined.0 (sent_to to effects) some joined.1))

    fates : HaveFatesAtNext (IsVerdictOfNext limits one to) to next next_effects
    fates =
        all_fates limits small one to next next_effects
        (run_good (initial_state limits) next_events next_effects next_new next_run)
        (run_fates (initial_state limits) next_events next_effects next_new next_run)
        (first_next limits small one to (frames_from (other to) next) (sent_to to effects) in_order
        (row limits events effects new run same small to))
