-- The number of table look-ups, over consecutive parts of a run.
use Rattle.std.proofs.Common.{◌-◌, ◌*◌, ◌/◌, length-append, length-drop}
use Rattle.daide_session.proofs.Common.{◌≡◌, ℕ, ◌+◌, ◌<◌, ◌≤◌, Bool, true, false, cond, List, [], length, drop, Option}
use Rattle.daide_session.proofs.Common.{Some, None, refl, sym, ap, ◌∙◌, subst, arith, ◌⊎◌, inl, ⊎_elim, nat_lt, ◌==◌}
use Rattle.daide_session.proofs.Common.{is_some, nat_tests, Side, Bot, Server, Head, Step, head_in, missing}
use Rattle.daide_session.proofs.Common.{head_in-short, IsRaised, Note, Limits, frame_tokens, SessionView, Holding}
use Rattle.daide_session.proofs.Common.{holding, frame_bytes_after, is_dm_head, tokens_ended, IsPaidBy, HoldsNoMore, Asks}
use Rattle.daide_frame.specs.declared.cutter.Step.TheVariants.{More, Headed, Bodied, Fault}
use Rattle.daide_frame.specs.Frames.{HoldsFrame, IsBodied, IsWholeBody, alien_in, fed, missing_of_body}
use Rattle.daide_reader.proofs.BodyLemmas.{tokens_of-length}
use Rattle.daide_reader.proofs.ReadingLemmas.{raised_none}
use Rattle.daide_protocol.specs.declared.note.Deed.TheVariants as Deeds
use Rattle.daide_protocol.specs.declared.note.Note.TheVariants as Notes
use Rattle.daide_protocol.specs.Wires.{AsksNothing, HoldsTheSame}
use Rattle.daide_channels.proofs.ReceiverLemmas.{Grows, all_held, below_four, fed_grows, head_in-more, no_dm_before}
use Rattle.daide_channels.proofs.ReceiverLemmas.{none_held, not_below_four}
use Rattle.daide_session.specs.Work.{is_whole_message, answers_for, left_of, unspent}

-- ---- no look-up

pub nothing_left : (cap : ℕ) → left_of cap [] ≡ 0
nothing_left cap = omega arith

left_same : (side : Side) (a b : SessionView) → b.state.limits ≡ a.state.limits →
    (holding b side).frame_bytes ≡ (holding a side).frame_bytes → unspent b side ≡ unspent a side
left_same side a b limits same =
    ap (left_of b.state.limits.cap) same
    ∙ ap (λ (l : Limits). left_of l.cap (holding a side).frame_bytes) limits

pub paid_idle : (side : Side) (a b : SessionView) → b.state.limits ≡ a.state.limits →
    (holding b side).total ≡ (holding a side).total →
    ((holding b side).frame_bytes ≡ (holding a side).frame_bytes) ⊎ ((holding b side).frame_bytes ≡ []) → IsPaidBy 0 side a b
paid_idle side a b limits total frame_bytes = record {
  by = 0;
  few = ⊎_elim
      (λ (same : (holding b side).frame_bytes ≡ (holding a side).frame_bytes).
      let left = left_same side a b limits same in omega (arith, left))
      (λ (none : (holding b side).frame_bytes ≡ []).
      let left : unspent b side ≡ 0 = ap (left_of b.state.limits.cap) none ∙ nothing_left b.state.limits.cap in
      omega (arith, left))
      frame_bytes;
  sum = omega (arith, total);
}

pub paid_same : (side : Side) (a b : SessionView) → b.state.limits ≡ a.state.limits → holding b side ≡ holding a side →
    IsPaidBy 0 side a b
paid_same side a b limits same =
    paid_idle side a b limits (ap (λ (h : Holding). h.total) same) (inl (ap (λ (h : Holding). h.frame_bytes) same))

pub paid_held : (a b : SessionView) → b.state.limits ≡ a.state.limits → HoldsTheSame a b → (side : Side) → IsPaidBy 0 side a b
paid_held a b limits same Bot = paid_same Bot a b limits same.0
paid_held a b limits same Server = paid_same Server a b limits same.1

pub paid_freed : (a b : SessionView) → b.state.limits ≡ a.state.limits → AsksNothing a b → HoldsNoMore a b →
    (side : Side) → IsPaidBy 0 side a b
paid_freed a b limits asked frame_bytes side = paid_idle side a b limits (asked side) (frame_bytes side)

-- ---- one part of a run after another

pub paid_then : (m n : ℕ) (side : Side) (a b c : SessionView) → IsPaidBy m side a b → IsPaidBy n side b c →
    IsPaidBy (m + n) side a c
paid_then m n side a b c h k = record {
  by = h.by + k.by;
  few = (let p = h.few in let q = k.few in omega arith);
  sum = (let p = h.sum in let q = k.sum in omega arith);
}

-- ---- a piece

-- the look-ups permitted for bytes that are no message, and for those of one
no_answers : (cap : ℕ) (frame_bytes : List ℕ) → is_dm_head (head_in cap frame_bytes) ≡ false → answers_for cap frame_bytes ≡ 0
no_answers cap frame_bytes e = rw e refl

its_tokens : (cap : ℕ) (frame_bytes : List ℕ) → is_dm_head (head_in cap frame_bytes) ≡ true →
    length (frame_tokens cap frame_bytes) ≡ (length frame_bytes - 4) / 2
its_tokens cap frame_bytes e =
    ap length (all_held cap frame_bytes e)
    ∙ (tokens_of-length (drop 4 frame_bytes) ∙ ap (λ (n : ℕ). n / 2) (length-drop 4 frame_bytes))

headed : (cap : ℕ) (frame_bytes : List ℕ) → is_dm_head (head_in cap frame_bytes) ≡ true → 4 ≤ length frame_bytes
headed cap frame_bytes e = go (nat_lt (length frame_bytes) 4) refl
  where
    go : (k : Bool) → nat_lt (length frame_bytes) 4 ≡ k → 4 ≤ length frame_bytes
    go true f = absurd (let none = sym e ∙ ap is_dm_head (head_in-short cap frame_bytes (below_four (length frame_bytes) f)) in cc)
    go false f = not_below_four (length frame_bytes) f

-- four at a message's end
abbrev pub at_end : (cap : ℕ) (frame_bytes : List ℕ) → ℕ
at_end cap frame_bytes = cond (is_whole_message cap frame_bytes) 4 0

at_end_few : (cap : ℕ) (frame_bytes : List ℕ) → at_end cap frame_bytes ≤ 4
at_end_few cap frame_bytes = go (is_whole_message cap frame_bytes)
  where
    go : (k : Bool) → cond k 4 0 ≤ 4
    go true = omega arith
    go false = omega arith

not_nothing : (n : ℕ) → 0 < n → (n == 0) ≡ false
not_nothing n h = grind (arith, nat_tests)

unfinished : (cap : ℕ) (frame_bytes : List ℕ) → 0 < missing cap frame_bytes → is_dm_head (head_in cap frame_bytes) ≡ true →
    answers_for cap frame_bytes ≡ 4 * length (frame_tokens cap frame_bytes)
unfinished cap frame_bytes wanted e = rw (e, not_nothing (missing cap frame_bytes) wanted) (omega arith)

-- the look-ups for the tokens that a piece completes, and at the message's end, are at most two a byte
pub piece_paid : (cap : ℕ) (b piece : List ℕ) (e : ℕ) → 0 < missing cap b → e ≤ at_end cap (fed cap b piece) →
    4 * tokens_ended cap b piece + e + left_of cap (fed cap b piece) ≤ 2 * length piece + left_of cap b
piece_paid cap b piece e wanted few = by_test (is_dm_head (head_in cap now)) refl
  where
    g : Grows b piece (fed cap b piece)
    g = fed_grows cap b piece

    now : List ℕ
    now = fed cap b piece

    longer : length now ≡ length b + length g.more
    longer = ap length g.longer ∙ length-append b g.more

    no_longer : length g.more ≤ length piece
    no_longer = g.few

    ended : tokens_ended cap b piece ≡ length (frame_tokens cap now) - length (frame_tokens cap b)
    ended = refl

    left_now : left_of cap now ≡ 2 * length now - (4 * length (frame_tokens cap now) + at_end cap now)
    left_now = refl

    left_before : left_of cap b ≡ 2 * length b - answers_for cap b
    left_before = refl

    by_test : (k : Bool) → is_dm_head (head_in cap now) ≡ k →
        4 * tokens_ended cap b piece + e + left_of cap now ≤ 2 * length piece + left_of cap b
    by_test false q =
        let before = no_dm_before cap b g.more (ap (λ (x : List ℕ). is_dm_head (head_in cap x)) (sym g.longer) ∙ q) in
        let none : length (frame_tokens cap now) ≡ 0 = ap length (none_held cap now q) in
        let queue_final : at_end cap now ≡ 0 = rw q refl in
        let free = no_answers cap b before in
        omega (arith, few, longer, no_longer, ended, left_now, left_before, none, queue_final, free)
    by_test true q = by_header (nat_lt (length b) 4) refl
      where
        tokens : length (frame_tokens cap now) ≡ (length now - 4) / 2
        tokens = its_tokens cap now q

        long : 4 ≤ length now
        long = headed cap now q

        by_header : (k : Bool) → nat_lt (length b) 4 ≡ k →
            4 * tokens_ended cap b piece + e + left_of cap now ≤ 2 * length piece + left_of cap b
        by_header true f =
            let before = ap is_dm_head (head_in-short cap b (below_four (length b) f)) in
            let none : length (frame_tokens cap b) ≡ 0 = ap length (none_held cap b before) in
            let free = no_answers cap b before in
            omega (arith, few, longer, no_longer, ended, left_now, left_before, tokens, long, none, free, at_end_few cap now)
        by_header false f =
            let before : is_dm_head (head_in cap b) ≡ true =
            ap is_dm_head (sym (head_in-more cap b g.more (not_below_four (length b) f)))
            ∙ (ap (λ (x : List ℕ). is_dm_head (head_in cap x)) (sym g.longer) ∙ q) in
            let old = its_tokens cap b before in
            let paid = unfinished cap b wanted before in
            omega (arith, few, longer, no_longer, ended, left_now, left_before, tokens, long, old, paid, at_end_few cap now)

-- ---- the effect of the last byte of a piece

missing_behind : (cap : ℕ) (frame_bytes : List ℕ) → nat_lt (length frame_bytes) 4 ≡ false →
    missing cap frame_bytes ≡ missing_of_body (head_in cap frame_bytes) (drop 4 frame_bytes)
unfolding missing
missing_behind cap frame_bytes e = rw e refl

body_missing : (head : Head) (n : ℕ) (found : Option ℕ) → n ≡ head.len → cond (is_some found) 0 (head.len - n) ≡ 0
body_missing head n None e = omega (arith, e)
body_missing head n (Some place) e = refl

-- a whole body lacks no byte
whole_missing : (cap : ℕ) (frame_bytes : List ℕ) (head : Head) → head_in cap frame_bytes ≡ Some head → IsWholeBody head (drop 4 frame_bytes) →
    missing cap frame_bytes ≡ 0
whole_missing cap frame_bytes head e full = by_length (nat_lt (length frame_bytes) 4) refl
  where
    by_length : (k : Bool) → nat_lt (length frame_bytes) 4 ≡ k → missing cap frame_bytes ≡ 0
    by_length true f = absurd
        (let none : None ≡ Some head = sym (head_in-short cap frame_bytes (below_four (length frame_bytes) f)) ∙ e in cc)
    by_length false f =
        missing_behind cap frame_bytes f
        ∙ (ap (λ (o : Option Head). missing_of_body o (drop 4 frame_bytes)) e
        ∙ body_missing head (length (drop 4 frame_bytes)) (alien_in head (drop 4 frame_bytes)) full.1)

whole_at_end : (cap : ℕ) (frame_bytes : List ℕ) (step : Step) → HoldsFrame step (head_in cap frame_bytes) (drop 4 frame_bytes) → IsBodied step →
    missing cap frame_bytes ≡ 0
whole_at_end cap frame_bytes More h bodied = absurd bodied
whole_at_end cap frame_bytes (Headed head) h bodied = absurd bodied
whole_at_end cap frame_bytes (Bodied head) h bodied = whole_missing cap frame_bytes head h.0 h.1
whole_at_end cap frame_bytes (Fault code) h bodied = absurd bodied

-- the look-ups at a message's end are made only once it is whole
pub end_paid : (cap : ℕ) (old new : Holding) (step : Step) → Asks cap old new →
    HoldsFrame step (head_in cap old.frame_bytes) (drop 4 old.frame_bytes) →
    IsBodied step ⊎ (new.total ≡ old.total) → IsRaised (at_end cap old.frame_bytes) old.total new.total
end_paid cap old new step asks frame_bytes h = ⊎_elim
    (λ (bodied : IsBodied step). by_kind (is_dm_head (head_in cap old.frame_bytes)) refl
    (whole_at_end cap old.frame_bytes step frame_bytes bodied))
    (λ (same : new.total ≡ old.total). raised_none old.total new.total same)
    h
  where
    by_kind : (k : Bool) → is_dm_head (head_in cap old.frame_bytes) ≡ k → missing cap old.frame_bytes ≡ 0 →
        IsRaised (at_end cap old.frame_bytes) old.total new.total
    by_kind true e none = subst (λ (n : ℕ). IsRaised n old.total new.total) (sym (ends e none)) asks.raised
      where
        ends : is_dm_head (head_in cap old.frame_bytes) ≡ true → missing cap old.frame_bytes ≡ 0 → at_end cap old.frame_bytes ≡ 4
        ends e none = rw (e, none) refl
    by_kind false e none = raised_none old.total new.total (asks.no_message e)

held_after_less : (cap : ℕ) (note : Note) (bytes : List ℕ) → left_of cap (frame_bytes_after note bytes) ≤ left_of cap bytes
held_after_less cap Notes.Nothing bytes = omega arith
held_after_less cap (Notes.Frame head Deeds.Relayed) bytes = omega arith
held_after_less cap (Notes.Frame head Deeds.Dropped) bytes = omega (arith, nothing_left cap)
held_after_less cap (Notes.Frame head Deeds.Prn) bytes = omega arith
held_after_less cap (Notes.Frame head (Deeds.Huh place)) bytes = omega arith
held_after_less cap (Notes.Fault code) bytes = omega arith
held_after_less cap Notes.Stopped bytes = omega arith

-- a side's held bytes before a piece, after it, and after the effect of its last byte
pub fed_paid : (side : Side) (a b : SessionView) (mid : Holding) (piece : List ℕ) (note : Note) →
    let cap = a.state.limits.cap in
    let now = fed cap (holding a side).frame_bytes piece in
    b.state.limits ≡ a.state.limits → 0 < missing cap (holding a side).frame_bytes →
    (holding b side).frame_bytes ≡ frame_bytes_after note now →
    IsRaised (4 * tokens_ended cap (holding a side).frame_bytes piece) (holding a side).total mid.total →
    IsRaised (at_end cap now) mid.total (holding b side).total → IsPaidBy (length piece) side a b
fed_paid side a b mid piece note limits wanted frame_bytes read ended = record {
  by = read.by + ended.by;
  few = (let p = read.few in let q = ended.few in
      let most = piece_paid a.state.limits.cap (holding a side).frame_bytes piece ended.by wanted q in
      let less = held_after_less a.state.limits.cap note (fed a.state.limits.cap (holding a side).frame_bytes piece) in
      let left : unspent b side
      ≡ left_of a.state.limits.cap (frame_bytes_after note (fed a.state.limits.cap (holding a side).frame_bytes piece)) =
      ap (λ (l : Limits). left_of l.cap (holding b side).frame_bytes) limits ∙ ap (left_of a.state.limits.cap) frame_bytes in
      omega (arith, p, most, less, left));
  sum = (let p = read.sum in let q = ended.sum in omega (arith, p, q));
}
