-- A session's counts are those of the frames that it sends, and those of its two sides together.
use Rattle.std.specs.List.{filter}
use Rattle.std.proofs.lemmas.List.Elements.{filter-append}
use Rattle.daide_protocol.proofs.Common.{◌≡◌, ℕ, ◌+◌, ◌%◌, ◌^◌, Bool, true, false, cond, List, [], ◌∷◌, ◌++◌, length}
use Rattle.daide_protocol.proofs.Common.{drop, Option, Some, None, Result, Ok, Err, refl, sym, ◌∙◌, ap, subst, arith}
use Rattle.daide_protocol.proofs.Common.{length-append, prn, huh, tokens_of, Side, Bot, Server, Head, Code, head_bytes}
use Rattle.daide_protocol.proofs.Common.{is_im, im_of, FrameEvent, Begun, Whole, Wrong, last_items, Level, Verdict}
use Rattle.daide_protocol.proofs.Common.{Relay, Prn, Huh, Note, SessionPhase, WaitIm, WaitRm, Open, Over, Summary}
use Rattle.daide_protocol.proofs.Common.{answer_body, answer_bytes, answer_head, other, Event, Comes, Ends, Loses}
use Rattle.daide_protocol.proofs.Common.{ImTimerExpired, OperatorStops, SessionState, Sent, Effect, Successor, Runs}
use Rattle.daide_protocol.proofs.Common.{coming, with_pending, is_over, em_to, fm_to, deed_of, destination, is_sent}
use Rattle.daide_protocol.proofs.Common.{reply_to, header_outcome, untimely, answered, im_answered, item_outcome}
use Rattle.daide_protocol.proofs.Common.{items_outcome, im_timer_expired, event_outcome, sent_to, nothing_counted}
use Rattle.daide_protocol.proofs.Common.{count_note, counted_on, one_more, tallied, reduced, Account, effect_accounted}
use Rattle.daide_protocol.proofs.Common.{accounted, summary_of}
use Rattle.daide_protocol.specs.declared.note.Deed.TheVariants as Deeds
use Rattle.daide_protocol.specs.declared.note.Note.TheVariants as Notes
use Rattle.daide_protocol.specs.Counts.{begins_with, number_to, number_sent, frames_counted}
use Rattle.daide_protocol.proofs.SummaryLemmas.{counted_reduced}
use Rattle.daide_protocol.proofs.WireLemmas.{sent_to-append}

-- ---- sums of counts

abbrev of : ℕ → ℕ → ℕ → ℕ → Summary
of relayed prn huh faults = record { relayed = relayed; prn = prn; huh = huh; faults = faults }

abbrev plus : Summary → Summary → Summary
plus a b = of (a.relayed + b.relayed) (a.prn + b.prn) (a.huh + b.huh) (a.faults + b.faults)

same_counts : (a b c d p q r s : ℕ) → a ≡ p → b ≡ q → c ≡ r → d ≡ s → of a b c d ≡ of p q r s
same_counts a b c d p q r s w x y z = rw (w, x, y, z) refl

-- one more effect in one summand is one more in the sum
counted_plus : (reported : Note) (s t : Summary) → plus s (plus (count_note reported nothing_counted) t) ≡ plus (count_note reported s) t
counted_plus Notes.Nothing s t = same_counts _ _ _ _ _ _ _ _ (omega arith) (omega arith) (omega arith) (omega arith)
counted_plus (Notes.Frame head Deeds.Relayed) s t =
    same_counts _ _ _ _ _ _ _ _ (omega arith) (omega arith) (omega arith) (omega arith)
counted_plus (Notes.Frame head Deeds.Dropped) s t =
    same_counts _ _ _ _ _ _ _ _ (omega arith) (omega arith) (omega arith) (omega arith)
counted_plus (Notes.Frame head Deeds.Prn) s t =
    same_counts _ _ _ _ _ _ _ _ (omega arith) (omega arith) (omega arith) (omega arith)
counted_plus (Notes.Frame head (Deeds.Huh place)) s t =
    same_counts _ _ _ _ _ _ _ _ (omega arith) (omega arith) (omega arith) (omega arith)
counted_plus (Notes.Fault code) s t =
    same_counts _ _ _ _ _ _ _ _ (omega arith) (omega arith) (omega arith) (omega arith)
counted_plus Notes.Stopped s t = same_counts _ _ _ _ _ _ _ _ (omega arith) (omega arith) (omega arith) (omega arith)

number_to-append : (side : Side) (test : Sent → Bool) (a b : List Effect) →
    number_to side test (a ++ b) ≡ number_to side test a + number_to side test b
number_to-append side test a b =
    ap (λ (frames : List Sent). length (filter test frames)) (sent_to-append side a b)
    ∙ (ap length (filter-append test (sent_to side a) (sent_to side b))
    ∙ length-append (filter test (sent_to side a)) (filter test (sent_to side b)))

number_sent-append : (test : Sent → Bool) (a b : List Effect) →
    number_sent test (a ++ b) ≡ number_sent test a + number_sent test b
number_sent-append test a b = omega (arith, number_to-append Bot test a b, number_to-append Server test a b)

frames_counted-append : (a b : List Effect) → frames_counted (a ++ b) ≡ plus (frames_counted a) (frames_counted b)
frames_counted-append a b = same_counts _ _ _ _ _ _ _ _ (number_sent-append _ a b) (number_sent-append _ a b)
    (number_sent-append _ a b) (number_sent-append _ a b)

-- ---- an effect is counted by the frames that it sends, and for one of the sides

abbrev AddsUp : Effect → Type 0
AddsUp effect = (top : Level) (a : Account) →
    summary_of (effect_accounted top effect.reported effect.sent a) ≡ counted_on effect.reported (summary_of a)

abbrev IsCounted : Effect → Type 0
IsCounted effect = (count_note effect.reported nothing_counted ≡ frames_counted (effect ∷ [])) × AddsUp effect

abbrev AreCounted : List Effect → Type 0
AreCounted [] = Unit {0}
AreCounted (effect ∷ effects) = IsCounted effect × AreCounted effects

count_note-append : (a b : List Effect) → AreCounted a → AreCounted b → AreCounted (a ++ b)
count_note-append [] b h k = k
count_note-append (effect ∷ a) b h k = (h.0, count_note-append a b h.1 k)

-- so effects are counted by all the frames that they send
all_counted : (effects : List Effect) (s : Summary) → AreCounted effects →
    tallied effects (reduced s) ≡ reduced (plus s (frames_counted effects))
all_counted [] s h = ap reduced (same_counts _ _ _ _ _ _ _ _ (omega arith) (omega arith) (omega arith) (omega arith))
all_counted (effect ∷ effects) s h =
    ap (tallied effects) (counted_reduced effect.reported s)
    ∙ (all_counted effects (count_note effect.reported s) h.1
    ∙ ap reduced (sym (counted_plus effect.reported s (frames_counted effects))
    ∙ (ap (λ (t : Summary). plus s (plus t (frames_counted effects))) h.0.0
    ∙ ap (plus s) (sym (frames_counted-append (effect ∷ []) effects)))))

-- and the counts of both sides together are the counts of all frames
all_add_up : (top : Level) (effects : List Effect) (a : Account) → AreCounted effects →
    summary_of (accounted top effects a) ≡ tallied effects (summary_of a)
all_add_up top [] a h = refl
all_add_up top (effect ∷ effects) a h =
    all_add_up top effects (effect_accounted top effect.reported effect.sent a) h.1
    ∙ ap (tallied effects) (h.0.1 top a)

-- one more of a side is one more of both
one_more_first : (m n : ℕ) → (one_more m + n) % 2 ^ 64 ≡ one_more ((m + n) % 2 ^ 64)
one_more_first m n = omega arith

one_more_second : (m n : ℕ) → (m + one_more n) % 2 ^ 64 ≡ one_more ((m + n) % 2 ^ 64)
one_more_second m n = omega arith

-- ---- each kind of effect

fm_counted : (phase : SessionPhase) (side : Side) → IsCounted (record { reported = Notes.Nothing; sent = fm_to phase side })
fm_counted WaitIm Bot = (refl, λ top a. refl)
fm_counted WaitIm Server = (refl, λ top a. refl)
fm_counted WaitRm Bot = (refl, λ top a. refl)
fm_counted WaitRm Server = (refl, λ top a. refl)
fm_counted (Open level) Bot = (refl, λ top a. refl)
fm_counted (Open level) Server = (refl, λ top a. refl)
fm_counted (Over ending) Bot = (refl, λ top a. refl)
fm_counted (Over ending) Server = (refl, λ top a. refl)

fms_counted : (phase : SessionPhase) →
    IsCounted (record { reported = Notes.Stopped; sent = fm_to phase Bot ++ fm_to phase Server })
fms_counted WaitIm = (refl, λ top a. refl)
fms_counted WaitRm = (refl, λ top a. refl)
fms_counted (Open level) = (refl, λ top a. refl)
fms_counted (Over ending) = (refl, λ top a. refl)

fault_counted : (phase : SessionPhase) (side : Side) (code : Code) →
    IsCounted (record { reported = Notes.Fault code; sent = em_to side code ∷ fm_to phase (other side) })
fault_counted WaitIm Bot code = (refl, λ top a. refl)
fault_counted WaitIm Server code = (refl, λ top a. refl)
fault_counted WaitRm Bot code = (refl, λ top a. refl)
fault_counted WaitRm Server code = (refl, λ top a. refl)
fault_counted (Open level) Bot code = (refl, λ top a. refl)
fault_counted (Open level) Server code = (refl, λ top a. refl)
fault_counted (Over ending) Bot code = (refl, λ top a. refl)
fault_counted (Over ending) Server code = (refl, λ top a. refl)

-- a header has four bytes
pub behind_head : (head : Head) (body : List ℕ) → drop 4 (head_bytes head ++ body) ≡ body
unfolding head_bytes
behind_head head body = refl

-- the front of an answer
begins : (token : ℕ) (head : Head) (body : List ℕ) (v : Verdict) →
    begins_with token (tokens_of (drop 4 (answer_bytes head body v))) ≡ begins_with token (tokens_of (answer_body body v))
unfolding answer_bytes
begins token head body v =
    ap (λ (b : List ℕ). begins_with token (tokens_of b)) (behind_head (answer_head head v) (answer_body body v))

answer_counted : (side : Side) (head : Head) (body : List ℕ) (v : Verdict) (goes : Bool) →
    IsCounted (record {
      reported = Notes.Frame head (deed_of goes v);
      sent = cond goes (reply_to side head body v ∷ []) [];
    })
answer_counted side head body v false = (refl, λ top a. refl)
answer_counted Bot head body Relay true = (refl, λ top a. rw (one_more_first a.bot.relayed a.server.relayed) refl)
answer_counted Server head body Relay true = (refl, λ top a. rw (one_more_second a.bot.relayed a.server.relayed) refl)
answer_counted Bot head body Prn true = (
  rw (begins prn head body Prn, begins huh head body Prn) refl,
  (λ top a. rw (one_more_first a.bot.prn a.server.prn) refl),
)
answer_counted Server head body Prn true = (
  rw (begins prn head body Prn, begins huh head body Prn) refl,
  (λ top a. rw (one_more_second a.bot.prn a.server.prn) refl),
)
answer_counted Bot head body (Huh place) true = (
  rw (begins prn head body (Huh place), begins huh head body (Huh place)) refl,
  (λ top a. rw (one_more_first a.bot.huh a.server.huh) refl),
)
answer_counted Server head body (Huh place) true = (
  rw (begins prn head body (Huh place), begins huh head body (Huh place)) refl,
  (λ top a. rw (one_more_second a.bot.huh a.server.huh) refl),
)

-- ---- the effects of an event

begun_counted : (s : SessionState) (side : Side) (code : Option Code) → AreCounted (header_outcome s side code).effects
begun_counted s side None = tt
begun_counted s side (Some code) = (fault_counted s.phase side code, tt)

answered_counted : (s : SessionState) (side : Side) (head : Head) (body : List ℕ) (v : Verdict) →
    AreCounted (answered s side head body v).effects
answered_counted s side head body v =
    (answer_counted side head body v (is_sent s.phase head.kind (destination side v)), tt)

whole_counted : (s : SessionState) (side : Side) (head : Head) (body : List ℕ) (v : Verdict) (im : Bool)
    (r : Result (Unit {0}) Code) →
    AreCounted (cond im (im_answered (answered s side head body v) s side r) (answered s side head body v)).effects
whole_counted s side head body v true (Ok u) = answered_counted s side head body v
whole_counted s side head body v true (Err code) = (fault_counted s.phase side code, tt)
whole_counted s side head body v false r = answered_counted s side head body v

item_counted : (s : SessionState) (side : Side) (item : FrameEvent) (v : Verdict) → AreCounted (item_outcome s side item v).effects
item_counted s side (Begun head) v = begun_counted s side (untimely s.phase side head.kind)
item_counted s side (Whole head body) v = whole_counted s side head body v (is_im head.kind) (im_of body)
item_counted s side (Wrong code) v = (fault_counted s.phase side code, tt)

items_counted : (s : SessionState) (side : Side) (items : List FrameEvent) (v : Verdict) →
    AreCounted (items_outcome s side items v).effects
items_counted s side [] v = tt
items_counted s side (item ∷ items) v =
    go (is_over s.phase) refl (items_counted (item_outcome s side item v).state side items v)
  where
    first : Successor
    first = item_outcome s side item v

    go : (b : Bool) → is_over s.phase ≡ b → AreCounted (items_outcome first.state side items v).effects →
        AreCounted (items_outcome s side (item ∷ items) v).effects
    go true o later = rw o tt
    go false o later = rw o (count_note-append first.effects (items_outcome first.state side items v).effects
        (item_counted s side item v) later)

im_timer_expired_counted : (phase : SessionPhase) (s : SessionState) → AreCounted (im_timer_expired phase s).effects
im_timer_expired_counted WaitIm s = ((refl, λ top a. refl), tt)
im_timer_expired_counted WaitRm s = tt
im_timer_expired_counted (Open level) s = tt
im_timer_expired_counted (Over ending) s = tt

event_counted : (s : SessionState) (event : Event) (v : Verdict) → AreCounted (event_outcome s event v).effects
event_counted s (Comes side x) v = go (is_over s.phase) refl
  where
    bytes : List ℕ
    bytes = (coming s side).pending ++ x ∷ []

    go : (b : Bool) → is_over s.phase ≡ b → AreCounted (event_outcome s (Comes side x) v).effects
    go true o = rw o tt
    go false o = rw o (items_counted (with_pending s side bytes) side (last_items s.limits.cap bytes) v)
event_counted s (Ends side) v = go (is_over s.phase) refl
  where
    go : (b : Bool) → is_over s.phase ≡ b → AreCounted (event_outcome s (Ends side) v).effects
    go true o = rw o tt
    go false o = rw o (fm_counted s.phase (other side), tt)
event_counted s (Loses side) v = go (is_over s.phase) refl
  where
    go : (b : Bool) → is_over s.phase ≡ b → AreCounted (event_outcome s (Loses side) v).effects
    go true o = rw o tt
    go false o = rw o (fm_counted s.phase (other side), tt)
event_counted s ImTimerExpired v = im_timer_expired_counted s.phase s
event_counted s OperatorStops v = go (is_over s.phase) refl
  where
    go : (b : Bool) → is_over s.phase ≡ b → AreCounted (event_outcome s OperatorStops v).effects
    go true o = rw o tt
    go false o = rw o (fms_counted s.phase, tt)

-- ---- a run

runs_counted : (old : SessionState) (events : List Event) (effects : List Effect) (new : SessionState) →
    Runs old events effects new → AreCounted effects
runs_counted old [] effects new run = subst AreCounted (sym run.0) tt
runs_counted old (event ∷ events) effects new run =
    subst AreCounted (sym run.5) (count_note-append run.1 run.2
    (subst (λ (o : Successor). AreCounted o.effects) run.3.outcome (event_counted old event run.3.verdict))
    (runs_counted run.0 events run.2 new run.4))

pub both_sides : (old : SessionState) (events : List Event) (effects : List Effect) (new : SessionState) →
    Runs old events effects new → (a : Account) →
    summary_of (accounted old.limits.top_level effects a) ≡ tallied effects (summary_of a)
both_sides old events effects new run a =
    all_add_up old.limits.top_level effects a (runs_counted old events effects new run)

pub counts_are_sent : (old : SessionState) (events : List Event) (effects : List Effect) (new : SessionState) →
    Runs old events effects new → tallied effects nothing_counted ≡ reduced (frames_counted effects)
counts_are_sent old events effects new run =
    all_counted effects nothing_counted (runs_counted old events effects new run)
    ∙ ap reduced (same_counts _ _ _ _ _ _ _ _ (omega arith) (omega arith) (omega arith) (omega arith))
