-- The effect on a session's value of the frame events that end with a byte.
use Rattle.daide_session.proofs.Common.{◌≡◌, ℕ, true, false, List, [], ◌∷◌, ◌++◌, drop, Option, Some, None, Ok, refl}
use Rattle.daide_session.proofs.Common.{sym, ap, ◌∙◌, subst, append-nil, inl, inr, ⊎_elim, Side, Bot, Server, Head}
use Rattle.daide_session.proofs.Common.{Code, Kind, Im, Rm, Dm, Fm, Em, tokens_of, Begun, Whole, head_in, is_im, Level}
use Rattle.daide_session.proofs.Common.{SessionPhase, Verdict, Relay, Prn, Huh, IsRaised, Note, other, Sent, Effect}
use Rattle.daide_session.proofs.Common.{Successor, SessionState, Coming, with_noted, is_over, is_dm, is_sent, level_in}
use Rattle.daide_session.proofs.Common.{with_pending, frame_outcome, answered, im_answered, reply_to, deed_of}
use Rattle.daide_session.proofs.Common.{IsCorrectVerdict, Account, Deed, frame_accounted, accounted, Words}
use Rattle.daide_session.proofs.Common.{SessionView, Holding, account_after, queued, holding, sent_to, note_of}
use Rattle.daide_session.proofs.Common.{frame_bytes_after, is_dm_head, frames_to, frame_tokens, ProtocolState, PerSide, at}
use Rattle.daide_session.proofs.Common.{ReaderLimits, Channels, pending, posted, state_of, view_of, HandlesFrameEvents}
use Rattle.daide_protocol.specs.declared.note.Deed.TheVariants.{Dropped}
use Rattle.daide_reader.proofs.ReadingLemmas.{raised_none}
use Rattle.daide_protocol.specs.declared.note.Note.TheVariants as Notes
use Rattle.daide_protocol.specs.Machine.{phase_after, untimely, one_effect, destination, items_outcome, question_of}
use Rattle.daide_channels.specs.Channels.{ReceiveState, IsAnswered, IsCleared, Keeps}
use Rattle.daide_session.specs.FrameEvents.{HasNoMessageBytes, StartsMessage, note_by, check_of}
use Rattle.daide_protocol.proofs.AccountLemmas.{answer_by_body}
use Rattle.daide_session.proofs.EmitsLemmas.{coming_at, waiting_at, waits_same, posted_at}

-- ---- outcomes

abbrev outcome : SessionState → List Effect → Successor
outcome s effects = record { state = s; effects = effects }

same_outcome : (o : Successor) → outcome o.state (o.effects ++ []) ≡ o
same_outcome o = ap (outcome o.state) (append-nil o.effects)

whole_outcome : (s : SessionState) (side : Side) (head : Head) (body : List ℕ) (v : Verdict) →
    is_over s.phase ≡ false → items_outcome s side (Whole head body ∷ []) v ≡ frame_outcome s side head body v
whole_outcome s side head body v live = rw live (same_outcome (frame_outcome s side head body v))

noted_phase : (s : SessionState) (side : Side) (level : Level) → (with_noted s side level).phase ≡ s.phase
noted_phase s Bot level = refl
noted_phase s Server level = refl

-- a timely header, and its empty body
empty_outcome : (s : SessionState) (side : Side) (head : Head) (v : Verdict) → is_over s.phase ≡ false →
    untimely s.phase side head.kind ≡ None →
    items_outcome s side (Begun head ∷ Whole head [] ∷ []) v ≡ frame_outcome (with_noted s side (level_in s.phase)) side head [] v
empty_outcome s side head v live timely =
    rw (live, timely) (rw (ap is_over (noted_phase s side (level_in s.phase)) ∙ live)
    (same_outcome (frame_outcome (with_noted s side (level_in s.phase)) side head [] v)))

-- ---- the value by its parts

pub holding_at : (t : Channels) (s : ProtocolState) (side : Side) → holding (view_of t s) side ≡ (at t.sides side).holding
holding_at t s Bot = refl
holding_at t s Server = refl

-- a side's held bytes are the same if its receive state is
pub holding_same : (t u : Channels) (s r : ProtocolState) (side : Side) → at u.sides side ≡ at t.sides side →
    holding (view_of u r) side ≡ holding (view_of t s) side
holding_same t u s r side e =
    holding_at u r side ∙ (ap (λ (a : ReceiveState). a.holding) e ∙ sym (holding_at t s side))

-- ---- a header

noted_state : (t u : Channels) (s : ProtocolState) (side : Side) → Keeps side t u →
    (at u.sides side).coming ≡ record { pending = (at t.sides side).coming.pending; noted = (level_in s.phase) } →
    state_of u s ≡ with_noted (state_of t s) side (level_in s.phase)
noted_state t u s Bot keeps e = rw (keeps.cap, keeps.rules, keeps.other_side, e) refl
noted_state t u s Server keeps e = rw (keeps.cap, keeps.rules, keeps.other_side, e) refl

-- ---- a timely header

-- a timely header whose body is still empty
pub begun_alone : (t u : Channels) (s : ProtocolState) (side : Side) (head : Head) → is_over s.phase ≡ false →
    untimely s.phase side head.kind ≡ None → drop 4 (pending t side) ≡ [] →
    (at t.sides side).holding.frame_bytes ≡ pending t side → StartsMessage side t s u s →
    HandlesFrameEvents (view_of t s) side (Begun head ∷ []) Notes.Nothing (view_of u s)
begun_alone t u s side head live timely bodiless tied b = record {
  verdict = Relay;
  right = refl;
  moves = record {
    state = rw (live, timely) (noted_state t u s side b.keeps b.started.coming);
    sent = λ wire. rw (live, timely)
        (waits_same t u s s wire b.queued ∙ sym (append-nil (queued (view_of t s) wire)));
    counts = rw (live, timely) refl;
  };
  note = rw (live, timely) refl;
  frame_bytes = rw (holding_at u s side, holding_at t s side) b.started.frame_bytes;
  asks = record {
    base = inr (
      inl (ap (λ (h : Holding). drop 4 h.frame_bytes) (holding_at t s side) ∙ (ap (drop 4) tied ∙ bodiless)),
      rw (holding_at u s side, holding_at t s side) b.started.base,
    );
    raised = raised_none _ _ total;
    no_message = λ none. total;
    looked_at = rw (holding_at u s side, holding_at t s side) b.started.looked_at;
  };
  other_side = holding_same t u s s (other side) b.keeps.other_side;
}
  where
    total : (holding (view_of u s) side).total ≡ (holding (view_of t s) side).total
    total = rw (holding_at u s side, holding_at t s side) b.started.total

-- ---- a header whose body is empty

-- a note made of a code is Nothing, or the code exists
pub some_code : (code : Option Code) (note : Note) → note ≡ note_by code → (note ≡ Notes.Nothing → ⊥) →
    (x : Code) × (code ≡ Some x)
some_code None note called more = absurd (more called)
some_code (Some x) note called more = (x, refl)

-- an untimely header ends the session, so its empty body has no effect
pub begun_late : (o n : SessionView) (side : Side) (head : Head) (note : Note) (code : Code) →
    untimely o.state.phase side head.kind ≡ Some code →
    HandlesFrameEvents o side (Begun head ∷ []) note n → HandlesFrameEvents o side (Begun head ∷ Whole head [] ∷ []) note n
begun_late o n side head note code late h = record {
  verdict = h.verdict;
  right = rw late h.right;
  moves = record {
    state = h.moves.state ∙ ap (λ (x : Successor). x.state) same;
    sent = λ wire. h.moves.sent wire ∙ ap (λ (x : Successor). queued o wire ++ sent_to wire x.effects) same;
    counts = h.moves.counts ∙ ap (λ (x : Successor). account_after o x.effects) same;
  };
  note = h.note ∙ ap (λ (x : Successor). note_of x.effects) same;
  frame_bytes = h.frame_bytes;
  asks = h.asks;
  other_side = h.other_side;
}
  where
    same : items_outcome o.state side (Begun head ∷ []) h.verdict
        ≡ items_outcome o.state side (Begun head ∷ Whole head [] ∷ []) h.verdict
    same = rw late refl

pub begun_and_empty : (t u v : Channels) (s r q : ProtocolState) (side : Side) (head : Head) (note : Note) →
    is_over s.phase ≡ false → untimely s.phase side head.kind ≡ None → drop 4 (at t.sides side).holding.frame_bytes ≡ [] →
    StartsMessage side t s u r →
    HandlesFrameEvents (view_of u r) side (Whole head [] ∷ []) note (view_of v q) →
    HandlesFrameEvents (view_of t s) side (Begun head ∷ Whole head [] ∷ []) note (view_of v q)
begun_and_empty t u v s r q side head note live timely bodiless b h = record {
  verdict = h.verdict;
  right = rw timely right;
  moves = record {
    state = h.moves.state ∙ ap (λ (o : Successor). o.state) same;
    sent = λ wire. h.moves.sent wire
        ∙ (ap (λ (x : List Sent). x ++ sent_to wire after.effects) (waited wire)
        ∙ ap (λ (o : Successor). queued (view_of t s) wire ++ sent_to wire o.effects) same);
    counts = h.moves.counts
        ∙ (ap (λ (x : ProtocolState). accounted x.top_level after.effects x.account) b.protocol_kept
        ∙ ap (λ (o : Successor). account_after (view_of t s) o.effects) same);
  };
  note = h.note ∙ ap (λ (o : Successor). note_of o.effects) same;
  frame_bytes = h.frame_bytes ∙ ap (frame_bytes_after note) frame_bytes;
  asks = record {
    base = ⊎_elim
        (λ (e : (holding (view_of v q) side).total_before ≡ (holding (view_of u r) side).total_before).
        inr (unread, e ∙ base))
        (λ (e : HasNoMessageBytes u.cap (holding (view_of u r) side).frame_bytes
        × ((holding (view_of v q) side).total_before ≡ (holding (view_of u r) side).total)).
        inr (unread, e.1 ∙ total))
        h.asks.base;
    raised = subst (λ (n : ℕ). IsRaised 4 n (holding (view_of v q) side).total) total h.asks.raised;
    no_message = λ none. h.asks.no_message (head_same ∙ none) ∙ total;
    looked_at = h.asks.looked_at ∙ looked_at;
  };
  other_side = h.other_side ∙ holding_same t u s r (other side) b.keeps.other_side;
}
  where
    mid : state_of u r ≡ with_noted (state_of t s) side (level_in s.phase)
    mid = ap (state_of u) b.protocol_kept ∙ noted_state t u s side b.keeps b.started.coming

    after : Successor
    after = items_outcome (state_of u r) side (Whole head [] ∷ []) h.verdict

    same : after ≡ items_outcome (state_of t s) side (Begun head ∷ Whole head [] ∷ []) h.verdict
    same = whole_outcome (state_of u r) side head [] h.verdict (ap (λ (x : ProtocolState). is_over x.phase) b.protocol_kept ∙ live)
        ∙ (ap (λ (x : SessionState). frame_outcome x side head [] h.verdict) mid
        ∙ sym (empty_outcome (state_of t s) side head h.verdict live timely))

    right : IsCorrectVerdict t.rules.words t.rules.max_depth (question_of side (level_in s.phase) head []) h.verdict
    right = subst (λ (r : ReaderLimits). IsCorrectVerdict r.words r.max_depth (question_of side (level_in s.phase) head []) h.verdict) b.keeps.rules
        (subst (λ (l : Level). IsCorrectVerdict u.rules.words u.rules.max_depth (question_of side l head []) h.verdict)
        (ap (λ (c : Coming). c.noted) (coming_at u r side ∙ b.started.coming)) h.right)

    waited : (wire : Side) → queued (view_of u r) wire ≡ queued (view_of t s) wire
    waited wire = waits_same t u s r wire b.queued

    frame_bytes : (holding (view_of u r) side).frame_bytes ≡ (holding (view_of t s) side).frame_bytes
    frame_bytes = rw (holding_at u r side, holding_at t s side) b.started.frame_bytes

    base : (holding (view_of u r) side).total_before ≡ (holding (view_of t s) side).total
    base = rw (holding_at u r side, holding_at t s side) b.started.base

    total : (holding (view_of u r) side).total ≡ (holding (view_of t s) side).total
    total = rw (holding_at u r side, holding_at t s side) b.started.total

    looked_at : (holding (view_of u r) side).looked_at ≡ (holding (view_of t s) side).looked_at
    looked_at = rw (holding_at u r side, holding_at t s side) b.started.looked_at

    unread : HasNoMessageBytes t.cap (holding (view_of t s) side).frame_bytes
    unread = inl (ap (λ (h : Holding). drop 4 h.frame_bytes) (holding_at t s side) ∙ bodiless)

    head_same : is_dm_head (head_in u.cap (holding (view_of u r) side).frame_bytes)
        ≡ is_dm_head (head_in t.cap (holding (view_of t s) side).frame_bytes)
    head_same = ap (λ (n : ℕ). is_dm_head (head_in n (holding (view_of u r) side).frame_bytes)) b.keeps.cap
        ∙ ap (λ (x : List ℕ). is_dm_head (head_in t.cap x)) frame_bytes

-- ---- a whole frame that is dropped

-- only an FM or EM can be unsent
record IsLast (kind : Kind) (top : Level) (side : Side) (found tokens : List ℕ) (phase : SessionPhase) : Type 0 where
  not_dm : is_dm kind ≡ false
  not_im : is_im kind ≡ false
  ends : phase_after top kind side Relay found phase ≡ phase_after top kind side Relay tokens phase

last_of : (phase : SessionPhase) (kind : Kind) (to : Side) (top : Level) (side : Side) (found tokens : List ℕ) →
    is_sent phase kind to ≡ false → IsLast kind top side found tokens phase
last_of phase Im to top side found tokens e = absurd (cc)
last_of phase Rm to top side found tokens e = absurd (cc)
last_of phase Dm to top side found tokens e = absurd (cc)
last_of phase Fm to top side found tokens e = record { not_dm = refl; not_im = refl; ends = refl }
last_of phase Em to top side found tokens e = record { not_dm = refl; not_im = refl; ends = refl }

-- a protocol state in another phase, with this account
abbrev in_phase : ProtocolState → SessionPhase → Account → ProtocolState
in_phase s phase account = record { top_level = s.top_level; phase = phase; account = account }

-- the machine's state in another phase, with nothing of the next frame
moved_state : (t u : Channels) (s : ProtocolState) (side : Side) (phase : SessionPhase) (account : Account) →
    Keeps side t u →
    (at u.sides side).coming ≡ record { pending = []; noted = (at t.sides side).coming.noted } →
    state_of u (in_phase s phase account) ≡ record (with_pending (state_of t s) side []) { phase = phase }
moved_state t u s Bot phase account keeps e = rw (keeps.cap, keeps.rules, keeps.other_side, e) refl
moved_state t u s Server phase account keeps e = rw (keeps.cap, keeps.rules, keeps.other_side, e) refl

pub dropped_whole : (t u : Channels) (s : ProtocolState) (side : Side) (head : Head) (body : List ℕ)
    (phase : SessionPhase) →
    is_over s.phase ≡ false → is_sent s.phase head.kind (other side) ≡ false →
    (at t.sides side).holding.frame_bytes ≡ pending t side → head_in t.cap (pending t side) ≡ Some head →
    phase ≡ phase_after s.top_level head.kind side Relay [] s.phase → Keeps side t u → u.queued ≡ t.queued →
    IsCleared (at t.sides side) (at u.sides side) →
    HandlesFrameEvents (view_of t s) side (Whole head body ∷ []) (Notes.Frame head Dropped)
    (view_of u (in_phase s phase s.account))
dropped_whole t u s side head body phase live unsent tied head_is now keeps waits cleared = record {
  verdict = Relay;
  right = rw last.not_dm refl;
  moves = record {
    state = rw (live, last.not_im) (moved_state t u s side phase s.account keeps cleared.coming
        ∙ ap (λ (p : SessionPhase). record (with_pending (state_of t s) side []) { phase = p }) (now ∙ last.ends));
    counts = rw (live, last.not_im, unsent) refl;
    sent = λ wire. rw (live, last.not_im, unsent)
        (waits_same t u s later wire waits ∙ sym (append-nil (queued (view_of t s) wire)));
  };
  note = rw (live, last.not_im, unsent) refl;
  frame_bytes = ap (λ (h : Holding). h.frame_bytes) (holding_at u later side) ∙ cleared.frame_bytes;
  asks = record {
    base = inr (
      inr (ap (λ (h : Holding). is_dm_head (head_in t.cap h.frame_bytes)) (holding_at t s side)
          ∙ (ap (λ (b : List ℕ). is_dm_head (head_in t.cap b)) tied
          ∙ (ap is_dm_head head_is ∙ last.not_dm))),
      rw (holding_at u later side, holding_at t s side) cleared.base,
    );
    raised = raised_none _ _ total;
    no_message = λ none. total;
    looked_at = rw (holding_at u later side, holding_at t s side) cleared.looked_at;
  };
  other_side = holding_same t u s later (other side) keeps.other_side;
}
  where
    last : IsLast head.kind s.top_level side [] (tokens_of body) s.phase
    last = last_of s.phase head.kind (other side) s.top_level side [] (tokens_of body) unsent

    later : ProtocolState
    later = in_phase s phase s.account

    total : (holding (view_of u later) side).total ≡ (holding (view_of t s) side).total
    total = rw (holding_at u later side, holding_at t s side) cleared.total

-- ---- the frame events of a step

pub no_code : (code : Option Code) → Notes.Nothing ≡ note_by code → code ≡ None
no_code None e = refl
no_code (Some code) e = absurd (cc)

-- ---- a whole frame with its answer

whole_good : (s : SessionState) (side : Side) (kind : Kind) (len : ℕ) (body : List ℕ) (v : Verdict) →
    check_of kind body ≡ Ok tt →
    frame_outcome s side (record { kind = kind; len = len }) body v ≡ answered s side (record { kind = kind; len = len }) body v
whole_good s side Im len body v good =
    let head : Head = record { kind = Im; len = len } in
    ap (im_answered (answered s side head body v) s side) good
whole_good s side Rm len body v good = refl
whole_good s side Dm len body v good = refl
whole_good s side Fm len body v good = refl
whole_good s side Em len body v good = refl

-- only a message can be returned to its sender
goes_out : (phase : SessionPhase) (side : Side) (noted : Level) (kind : Kind) (len : ℕ) (body : List ℕ) (v : Verdict)
    (words : Words) (depth : ℕ) →
    IsCorrectVerdict words depth (question_of side noted (record { kind = kind; len = len }) body) v →
    is_sent phase kind (other side) ≡ true → is_sent phase kind (destination side v) ≡ true
goes_out phase side noted Im len body v words depth right sent = refl
goes_out phase side noted Rm len body v words depth right sent = refl
goes_out phase side noted Dm len body v words depth right sent = refl
goes_out phase side noted Fm len body v words depth right sent = rw right sent
goes_out phase side noted Em len body v words depth right sent = rw right sent

held_on : (head : Head) (v : Verdict) (bytes : List ℕ) → frame_bytes_after (Notes.Frame head (deed_of true v)) bytes ≡ bytes
held_on head Relay bytes = refl
held_on head Prn bytes = refl
held_on head (Huh place) bytes = refl

-- the phase depends on the tokens of a message only
phase_of_held : (cap : ℕ) (frame_bytes : List ℕ) (top : Level) (kind : Kind) (len : ℕ) (side : Side) (v : Verdict)
    (phase : SessionPhase) → head_in cap frame_bytes ≡ Some (record { kind = kind; len = len }) →
    phase_after top kind side v (frame_tokens cap frame_bytes) phase ≡ phase_after top kind side v (tokens_of (drop 4 frame_bytes)) phase
phase_of_held cap frame_bytes top Im len side v phase e = refl
phase_of_held cap frame_bytes top Rm len side v phase e = refl
phase_of_held cap frame_bytes top Dm len side v phase e = rw e refl
phase_of_held cap frame_bytes top Fm len side v phase e = refl
phase_of_held cap frame_bytes top Em len side v phase e = refl

pub phase_held : (t u : Channels) (side : Side) (top : Level) (head : Head) (v : Verdict) (phase : SessionPhase) →
    Keeps side t u → IsAnswered (at t.sides side) (at u.sides side) →
    (at t.sides side).holding.frame_bytes ≡ pending t side → head_in t.cap (pending t side) ≡ Some head →
    phase_after top head.kind side v (frame_tokens u.cap (at u.sides side).holding.frame_bytes) phase
    ≡ phase_after top head.kind side v (tokens_of (drop 4 (pending t side))) phase
phase_held t u side top head v phase keeps answered_by tied head_is =
    ap (λ (n : ℕ). phase_after top head.kind side v (frame_tokens n (at u.sides side).holding.frame_bytes) phase) keeps.cap
    ∙ (ap (λ (b : List ℕ). phase_after top head.kind side v (frame_tokens t.cap b) phase) (answered_by.frame_bytes ∙ tied)
    ∙ phase_of_held t.cap (pending t side) top head.kind head.len side v phase head_is)

-- and so does the account
frame_of_held : (cap : ℕ) (frame_bytes : List ℕ) (top : Level) (kind : Kind) (len : ℕ) (side : Side) (deed : Deed)
    (a : Account) → head_in cap frame_bytes ≡ Some (record { kind = kind; len = len }) →
    frame_accounted top side kind deed (frame_tokens cap frame_bytes) a
    ≡ frame_accounted top side kind deed (tokens_of (drop 4 frame_bytes)) a
frame_of_held cap frame_bytes top Im len Bot deed a e = refl
frame_of_held cap frame_bytes top Rm len Bot deed a e = refl
frame_of_held cap frame_bytes top Dm len Bot deed a e = rw e refl
frame_of_held cap frame_bytes top Fm len Bot deed a e = refl
frame_of_held cap frame_bytes top Em len Bot deed a e = refl
frame_of_held cap frame_bytes top Im len Server deed a e = refl
frame_of_held cap frame_bytes top Rm len Server deed a e = refl
frame_of_held cap frame_bytes top Dm len Server deed a e = rw e refl
frame_of_held cap frame_bytes top Fm len Server deed a e = refl
frame_of_held cap frame_bytes top Em len Server deed a e = refl

pub account_held : (t u : Channels) (side : Side) (top : Level) (head : Head) (deed : Deed) (a : Account) →
    Keeps side t u → IsAnswered (at t.sides side) (at u.sides side) →
    (at t.sides side).holding.frame_bytes ≡ pending t side → head_in t.cap (pending t side) ≡ Some head →
    frame_accounted top side head.kind deed (frame_tokens u.cap (at u.sides side).holding.frame_bytes) a
    ≡ frame_accounted top side head.kind deed (tokens_of (drop 4 (pending t side))) a
account_held t u side top head deed a keeps answered_by tied head_is =
    ap (λ (n : ℕ). frame_accounted top side head.kind deed (frame_tokens n (at u.sides side).holding.frame_bytes) a) keeps.cap
    ∙ (ap (λ (b : List ℕ). frame_accounted top side head.kind deed (frame_tokens t.cap b) a) (answered_by.frame_bytes ∙ tied)
    ∙ frame_of_held t.cap (pending t side) top head.kind head.len side deed a head_is)

pub answered_whole : (t u : Channels) (s : ProtocolState) (side : Side) (head : Head) (body : List ℕ) (verdict : Verdict)
    (phase : SessionPhase) (account : Account) (note : Note) →
    is_over s.phase ≡ false → is_sent s.phase head.kind (other side) ≡ true → check_of head.kind body ≡ Ok tt →
    (at t.sides side).holding.frame_bytes ≡ pending t side → head_in t.cap (pending t side) ≡ Some head →
    IsCorrectVerdict t.rules.words t.rules.max_depth (question_of side (at t.sides side).coming.noted head body) verdict →
    Keeps side t u → u.queued ≡ posted t.queued (reply_to side head body verdict) →
    IsAnswered (at t.sides side) (at u.sides side) →
    IsRaised 4 (at t.sides side).holding.total (at u.sides side).holding.total →
    (is_dm head.kind ≡ false → (at u.sides side).holding.total ≡ (at t.sides side).holding.total) →
    phase ≡ phase_after s.top_level head.kind side verdict (tokens_of body) s.phase → note ≡ Notes.Frame head (deed_of true verdict) →
    account ≡ frame_accounted s.top_level side head.kind (deed_of true verdict) (tokens_of body) s.account →
    HandlesFrameEvents (view_of t s) side (Whole head body ∷ []) note (view_of u (in_phase s phase account))
answered_whole t u s side head body verdict phase account note live sent good tied head_is right keeps
    waits answered_by raised no_message its_phase its_note counted = record {
      verdict = verdict;
      right = subst (λ (c : Coming). IsCorrectVerdict t.rules.words t.rules.max_depth (question_of side c.noted head body) verdict)
          (sym (coming_at t s side)) right;
      moves = record {
        state = moved_state t u s side phase account keeps answered_by.coming
            ∙ (ap (λ (p : SessionPhase). record (with_pending (state_of t s) side []) { phase = p }) its_phase
            ∙ sym (ap (λ (o : Successor). o.state) same));
        sent = λ wire. waiting_at u later wire
            ∙ (ap (λ (w : PerSide (List Sent)). at w wire) waits
            ∙ (posted_at t.queued frame wire
            ∙ (ap (λ (x : List Sent). at t.queued wire ++ x) (sym (append-nil (frames_to wire (frame ∷ []))))
            ∙ (ap (λ (x : List Sent). x ++ sent_to wire made.effects) (sym (waiting_at t s wire))
            ∙ sym (ap (λ (o : Successor). queued (view_of t s) wire ++ sent_to wire o.effects) same)))));
        counts = counted ∙ (sym (answer_by_body s.top_level side head body verdict s.account)
            ∙ sym (ap (λ (o : Successor). account_after (view_of t s) o.effects) same));
      };
      note = its_note ∙ sym (ap (λ (o : Successor). note_of o.effects) same);
      frame_bytes = ap (λ (h : Holding). h.frame_bytes) (holding_at u later side)
          ∙ (answered_by.frame_bytes
          ∙ (sym (held_on head verdict (at t.sides side).holding.frame_bytes)
          ∙ (ap (λ (n : Note). frame_bytes_after n (at t.sides side).holding.frame_bytes) (sym its_note)
          ∙ ap (λ (h : Holding). frame_bytes_after note h.frame_bytes) (sym (holding_at t s side)))));
      asks = record {
        base = inl (rw (holding_at u later side, holding_at t s side) answered_by.base);
        raised = rw (holding_at u later side, holding_at t s side) raised;
        no_message = λ none. rw (holding_at u later side, holding_at t s side) (no_message (sym is_message ∙ none));
        looked_at = rw (holding_at u later side, holding_at t s side) answered_by.looked_at;
      };
      other_side = holding_same t u s later (other side) keeps.other_side;
    }
  where
    later : ProtocolState
    later = in_phase s phase account

    frame : Sent
    frame = reply_to side head body verdict

    made : Successor
    made = one_effect (record (with_pending (state_of t s) side []) {
      phase = phase_after s.top_level head.kind side verdict (tokens_of body) s.phase;
    }) (Notes.Frame head (deed_of true verdict)) (frame ∷ [])

    goes : is_sent s.phase head.kind (destination side verdict) ≡ true
    goes = goes_out s.phase side (at t.sides side).coming.noted head.kind head.len body verdict t.rules.words
        t.rules.max_depth right sent

    made_so : answered (state_of t s) side head body verdict ≡ made
    made_so = rw goes refl

    same : items_outcome (state_of t s) side (Whole head body ∷ []) verdict ≡ made
    same = whole_outcome (state_of t s) side head body verdict live
        ∙ (whole_good (state_of t s) side head.kind head.len body verdict good ∙ made_so)

    is_message : is_dm_head (head_in t.cap (holding (view_of t s) side).frame_bytes) ≡ is_dm head.kind
    is_message = ap (λ (h : Holding). is_dm_head (head_in t.cap h.frame_bytes)) (holding_at t s side)
        ∙ (ap (λ (b : List ℕ). is_dm_head (head_in t.cap b)) tied ∙ ap is_dm_head head_is)
