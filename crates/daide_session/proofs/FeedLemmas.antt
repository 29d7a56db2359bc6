-- The effect of a piece of bytes on a session: a part of a run, and the bytes held after it.
use Rattle.std.proofs.Common.{◌*◌, length-append, length-drop}
use Rattle.daide_session.proofs.Common.{◌≡◌, ℕ, ◌<◌, Bool, true, false, cond, List, [], ◌∷◌, ◌++◌, length, drop, Option}
use Rattle.daide_session.proofs.Common.{Some, None, refl, sym, ap, ◌∙◌, subst, arith, ◌⊎◌, inl, inr, ⊎_elim, append-nil}
use Rattle.daide_session.proofs.Common.{Side, Bot, Server, Head, Step, FrameEvent, last_items, head_in, missing}
use Rattle.daide_session.proofs.Common.{head_in-short, Verdict, IsRaised, Note, other, bytes_come, Sent, Effect}
use Rattle.daide_session.proofs.Common.{Successor, SessionState, Coming, Runs, IsCorrectVerdict, coming, with_pending}
use Rattle.daide_session.proofs.Common.{is_over, asked_by, Account, accounted, SessionView, Holding, account_after}
use Rattle.daide_session.proofs.Common.{queued, holding, sent_to, note_of, frame_bytes_after, is_dm_head, Refines}
use Rattle.daide_session.proofs.Common.{ProtocolState, at, Channels, pending, state_of, view_of, Asks}
use Rattle.daide_session.proofs.Common.{HandlesFrameEvents, IsPaidBy, tokens_ended}
use Rattle.daide_frame.specs.declared.cutter.Step.TheVariants.{More, Headed, Bodied, Fault}
use Rattle.daide_frame.specs.Frames.{is_nothing, fed, fed_items, items_of_step, IsFault, HoldsFrame, IsBodied}
use Rattle.daide_reader.proofs.ReadingLemmas.{raised_more, raised_none}
use Rattle.daide_protocol.specs.declared.note.Note.TheVariants as Notes
use Rattle.daide_protocol.specs.Machine.{items_outcome}
use Rattle.daide_protocol.specs.Wires.{counts_from, asked_at_most, looked_at_most, ReceivesBytes}
use Rattle.daide_protocol.proofs.PieceRuns.{piece_runs, piece_outcome, IsTaken}
use Rattle.daide_channels.specs.Channels.{ReceiveState, Keeps, IsGrown}
use Rattle.daide_session.specs.FrameEvents.{HasNoMessageBytes}
use Rattle.daide_channels.proofs.ReceiverLemmas.{fed_grows, few_ended, no_dm_before}
use Rattle.daide_session.proofs.EmitsLemmas.{coming_at, waits_same}
use Rattle.daide_session.proofs.FrameEventsLemmas.{holding_at, holding_same}
use Rattle.daide_session.proofs.WorkLemmas.{at_end, end_paid, fed_paid}

-- ---- the run

fault_over : (s : SessionState) (side : Side) (step : Step) (body : List ℕ) (v : Verdict) →
    is_over s.phase ≡ false → IsFault step → is_over (items_outcome s side (items_of_step step body) v).state.phase ≡ true
fault_over s side More body v live h = absurd h
fault_over s side (Headed head) body v live h = absurd h
fault_over s side (Bodied head) body v live h = absurd h
fault_over s side (Fault code) body v live h = rw live refl

pending_phase : (s : SessionState) (side : Side) (bytes : List ℕ) → (with_pending s side bytes).phase ≡ s.phase
pending_phase s Bot bytes = refl
pending_phase s Server bytes = refl

-- the whole piece was consumed, or a fault ended the session
pub taken_or_over : (s : SessionState) (side : Side) (piece : List ℕ) (v : Verdict) (step : Step)
    (body : List ℕ) → is_over s.phase ≡ false →
    fed_items s.limits.cap (coming s side).pending piece ≡ items_of_step step body →
    IsFault step ⊎ (fed s.limits.cap (coming s side).pending piece ≡ (coming s side).pending ++ piece) →
    IsTaken s side piece v
taken_or_over s side piece v step body live items h = ⊎_elim
    (λ (bad : IsFault step). inr
    (rw items (fault_over (with_pending s side
    (fed s.limits.cap (coming s side).pending piece)) side step body v
    (ap is_over (pending_phase s side (fed s.limits.cap (coming s side).pending piece)) ∙ live) bad)))
    (λ (all : fed s.limits.cap (coming s side).pending piece ≡ (coming s side).pending ++ piece). inl all)
    h

-- the question of frame events does not depend on the bytes since the last whole frame
asks_same : (s : SessionState) (side : Side) (bytes : List ℕ) (items : List FrameEvent) (v : Verdict) →
    IsCorrectVerdict (with_pending s side bytes).limits.words (with_pending s side bytes).limits.max_depth
    (asked_by (with_pending s side bytes) side items) v →
    IsCorrectVerdict s.limits.words s.limits.max_depth (asked_by s side items) v
asks_same s Bot bytes items v h = h
asks_same s Server bytes items v h = h

top_stays : (s : SessionState) (side : Side) (bytes : List ℕ) (effects : List Effect) (a : Account) →
    accounted (with_pending s side bytes).limits.top_level effects a ≡ accounted s.limits.top_level effects a
top_stays s Bot bytes effects a = refl
top_stays s Server bytes effects a = refl

pub goes_piece : (g m n : SessionView) (side : Side) (piece : List ℕ) (note : Note) → is_over g.state.phase ≡ false →
    m.state ≡ with_pending g.state side (fed g.state.limits.cap (coming g.state side).pending piece) →
    ((wire : Side) → queued m wire ≡ queued g wire) → m.account ≡ g.account →
    ((v : Verdict) → IsTaken g.state side piece v) →
    HandlesFrameEvents m side (fed_items g.state.limits.cap (coming g.state side).pending piece) note n →
    Refines g (bytes_come side piece) note n
goes_piece g m n side piece note live state wait counts taken r = record {
  effects = o.effects;
  run = subst (λ (s : SessionState). Runs g.state (bytes_come side piece) o.effects s)
      (sym (r.moves.state ∙ ap (λ (x : Successor). x.state) same))
      (piece_runs piece g.state side r.verdict live (taken r.verdict) right);
  kept = λ wire. r.moves.sent wire
      ∙ (ap (λ (x : List Sent). x ++ sent_to wire (items_outcome m.state side items r.verdict).effects) (wait wire)
      ∙ ap (λ (x : Successor). queued g wire ++ sent_to wire x.effects) same);
  note = r.note ∙ ap (λ (x : Successor). note_of x.effects) same;
  counts = r.moves.counts
      ∙ (ap (λ (a : Account). accounted m.state.limits.top_level (items_outcome m.state side items r.verdict).effects a) counts
      ∙ (ap (λ (s : SessionState). accounted s.limits.top_level (items_outcome m.state side items r.verdict).effects g.account) state
      ∙ (top_stays g.state side (fed g.state.limits.cap (coming g.state side).pending piece)
      (items_outcome m.state side items r.verdict).effects g.account
      ∙ ap (λ (x : Successor). account_after g x.effects) same)));
}
  where
    b : List ℕ
    b = fed g.state.limits.cap (coming g.state side).pending piece

    items : List FrameEvent
    items = fed_items g.state.limits.cap (coming g.state side).pending piece

    o : Successor
    o = piece_outcome g.state side piece r.verdict

    same : items_outcome m.state side items r.verdict ≡ o
    same = ap (λ (s : SessionState). items_outcome s side items r.verdict) state

    right : IsCorrectVerdict g.state.limits.words g.state.limits.max_depth (asked_by g.state side items) r.verdict
    right = asks_same g.state side b items r.verdict
        (subst (λ (s : SessionState). IsCorrectVerdict s.limits.words s.limits.max_depth (asked_by s side items) r.verdict)
        state r.right)

-- ---- the channels after a piece

pub fed_state : (t u : Channels) (s : ProtocolState) (side : Side) (bytes : List ℕ) → Keeps side t u →
    (at u.sides side).coming ≡ record { pending = bytes; noted = (at t.sides side).coming.noted } →
    state_of u s ≡ with_pending (state_of t s) side bytes
fed_state t u s Bot bytes keeps e = rw (keeps.cap, keeps.rules, keeps.other_side, e) refl
fed_state t u s Server bytes keeps e = rw (keeps.cap, keeps.rules, keeps.other_side, e) refl

-- a side's piece was fed, and the effect of its last byte was handled
pub goes_fed : (t u v : Channels) (s r : ProtocolState) (side : Side) (piece : List ℕ) (step : Step) (note : Note) →
    is_over s.phase ≡ false → Keeps side t u → u.queued ≡ t.queued →
    IsGrown t.cap (at t.sides side) (fed t.cap (pending t side) piece) (at u.sides side) →
    fed_items t.cap (pending t side) piece ≡ items_of_step step (drop 4 (pending u side)) →
    IsFault step ⊎ (pending u side ≡ pending t side ++ piece) →
    HandlesFrameEvents (view_of u s) side (items_of_step step (drop 4 (pending u side))) note
    (view_of v r) →
    Refines (view_of t s) (bytes_come side piece) note (view_of v r)
goes_fed t u v s r side piece step note live keeps wait grown items whole h =
    goes_piece (view_of t s) (view_of u s) (view_of v r) side piece note live state
    (λ wire. waits_same t u s s wire wait) refl
    (λ verdict. taken_or_over (state_of t s) side piece verdict step _ live here all)
    (subst (λ (x : List FrameEvent). HandlesFrameEvents (view_of u s) side x note (view_of v r)) (sym here) h)
  where
    state : state_of u s
        ≡ with_pending (state_of t s) side (fed t.cap (coming (state_of t s) side).pending piece)
    state = subst (λ (c : Coming). state_of u s ≡ with_pending (state_of t s) side (fed t.cap c.pending piece))
        (sym (coming_at t s side))
        (fed_state t u s side (fed t.cap (pending t side) piece) keeps grown.coming)

    here : fed_items t.cap (coming (state_of t s) side).pending piece
        ≡ items_of_step step (drop 4 (pending u side))
    here = ap (λ (c : Coming). fed_items t.cap c.pending piece) (coming_at t s side) ∙ items

    all : IsFault step
        ⊎ (fed t.cap (coming (state_of t s) side).pending piece ≡ (coming (state_of t s) side).pending ++ piece)
    all = ⊎_elim
        (λ (bad : IsFault step). inl bad)
        (λ (e : pending u side ≡ pending t side ++ piece). inr
        (subst (λ (c : Coming). fed t.cap c.pending piece ≡ c.pending ++ piece) (sym (coming_at t s side))
        (sym (ap (λ (c : Coming). c.pending) grown.coming) ∙ e)))
        whole

-- ---- the held bytes

counts_idle : (a b : Option Head) (h : Holding) → (is_dm_head a ≡ false → h.total_before ≡ h.total) →
    counts_from a b h ≡ h.total_before
counts_idle None None h e = refl
counts_idle None (Some head) h e = go (is_dm_head (Some head)) refl
  where
    go : (k : Bool) → is_dm_head (Some head) ≡ k → counts_from None (Some head) h ≡ h.total_before
    go true q = rw q (sym (e refl))
    go false q = rw q refl
counts_idle (Some head) b h e = refl

-- a byte makes the frame longer
fed_longer : (limit : ℕ) (b : List ℕ) (x : ℕ) (piece : List ℕ) → length b < length (fed limit b (x ∷ piece))
fed_longer limit b x piece = go (is_nothing (last_items limit (b ++ x ∷ [])))
  where
    go : (k : Bool) → length b < length (cond k (fed limit (b ++ x ∷ []) piece) (b ++ x ∷ []))
    go false = omega (arith, length-append b (x ∷ []))
    go true =
        let g = fed_grows limit (b ++ x ∷ []) piece in
        omega (arith, length-append b (x ∷ []), ap length g.longer, length-append (b ++ x ∷ []) g.more)

-- if no byte of a message was read after some bytes, the frame was no message before them
unread_before : (limit : ℕ) (b : List ℕ) (x : ℕ) (piece : List ℕ) → HasNoMessageBytes limit (fed limit b (x ∷ piece)) →
    is_dm_head (head_in limit b) ≡ false
unread_before limit b x piece h = ⊎_elim
    (λ (e : drop 4 (fed limit b (x ∷ piece)) ≡ []).
    let longer = fed_longer limit b x piece in
    let none = ap length e in
    ap is_dm_head (head_in-short limit b (omega (arith, longer, none, length-drop 4 (fed limit b (x ∷ piece))))))
    (λ (e : is_dm_head (head_in limit (fed limit b (x ∷ piece))) ≡ false).
    let g = fed_grows limit b (x ∷ piece) in
    no_dm_before limit b g.more (ap (λ (y : List ℕ). is_dm_head (head_in limit y)) (sym g.longer) ∙ e))
    h

-- a side's held bytes after a piece
record TakesIn (limit : ℕ) (piece : List ℕ) (note : Note) (old new : Holding) : Type 0 where
  bytes : new.frame_bytes ≡ frame_bytes_after note (fed limit old.frame_bytes piece)
  base : new.total_before ≡ counts_from (head_in limit old.frame_bytes) (head_in limit (fed limit old.frame_bytes piece)) old
  no_message : is_dm_head (head_in limit (fed limit old.frame_bytes piece)) ≡ false → new.total ≡ old.total
  raised : IsRaised (asked_at_most piece) old.total new.total
  looked_at : IsRaised (looked_at_most piece) old.looked_at new.looked_at

takes_in : (limit : ℕ) (a b : ReceiveState) (new : Holding) (x : ℕ) (piece : List ℕ) (note : Note) →
    IsGrown limit a (fed limit a.coming.pending (x ∷ piece)) b →
    IsRaised (4 * tokens_ended limit a.coming.pending (x ∷ piece)) a.holding.total b.holding.total →
    IsRaised (looked_at_most (x ∷ piece)) a.holding.looked_at b.holding.looked_at →
    new.frame_bytes ≡ frame_bytes_after note b.holding.frame_bytes → Asks limit b.holding new →
    TakesIn limit (x ∷ piece) note a.holding new
takes_in limit a b new x piece note pending raised looked_at frame_bytes asks = record {
  bytes = frame_bytes ∙ ap (frame_bytes_after note) grown.frame_bytes;
  base = ⊎_elim
      (λ (e : new.total_before ≡ b.holding.total_before). e ∙ grown.base)
      (λ (e : HasNoMessageBytes limit b.holding.frame_bytes × (new.total_before ≡ b.holding.total)).
      from_now (subst (λ (y : List ℕ). HasNoMessageBytes limit y) grown.frame_bytes e.0) e.1)
      asks.base
      ∙ sym (counts_idle (head_in limit a.holding.frame_bytes) (head_in limit fed_bytes) a.holding uncounted);
  no_message = λ none. asks.no_message (ap (λ (y : List ℕ). is_dm_head (head_in limit y)) grown.frame_bytes ∙ none)
      ∙ grown.no_message none;
  raised = raised_more (4 * tokens_ended limit a.coming.pending (x ∷ piece)) 4 (asked_at_most (x ∷ piece))
      a.holding.total b.holding.total new.total
      (let few = few_ended limit a.coming.pending (x ∷ piece) in omega (arith, few)) raised asks.raised;
  looked_at = subst (λ (n : ℕ). IsRaised (looked_at_most (x ∷ piece)) a.holding.looked_at n) (sym asks.looked_at)
      looked_at;
}
  where
    fed_bytes : List ℕ
    fed_bytes = fed limit a.holding.frame_bytes (x ∷ piece)

    grown : IsGrown limit a fed_bytes b
    grown = subst (λ (y : List ℕ). IsGrown limit a (fed limit y (x ∷ piece)) b) (sym pending.held_before) pending

    uncounted : is_dm_head (head_in limit a.holding.frame_bytes) ≡ false → a.holding.total_before ≡ a.holding.total
    uncounted e =
        grown.uncounted (ap (λ (y : List ℕ). is_dm_head (head_in limit y)) (sym grown.held_before) ∙ e)

    -- the bytes after the piece, none of which was read
    from_now : HasNoMessageBytes limit fed_bytes → new.total_before ≡ b.holding.total →
        new.total_before ≡ a.holding.total_before
    from_now unread e = e ∙ (⊎_elim
        (λ (none : drop 4 fed_bytes ≡ []). grown.bodiless none)
        (λ (none : is_dm_head (head_in limit fed_bytes) ≡ false). grown.no_message none)
        unread ∙ sym (uncounted (unread_before limit a.holding.frame_bytes x piece unread)))

takes_piece : (t u v : Channels) (s r : ProtocolState) (side : Side) (x : ℕ) (piece : List ℕ) (items : List FrameEvent)
    (note : Note) → Keeps side t u →
    IsGrown t.cap (at t.sides side) (fed t.cap (pending t side) (x ∷ piece)) (at u.sides side) →
    IsRaised (4 * tokens_ended t.cap (pending t side) (x ∷ piece)) (at t.sides side).holding.total
    (at u.sides side).holding.total →
    IsRaised (looked_at_most (x ∷ piece)) (at t.sides side).holding.looked_at (at u.sides side).holding.looked_at →
    HandlesFrameEvents (view_of u s) side items note (view_of v r) →
    ReceivesBytes (view_of t s) side (x ∷ piece) note (view_of v r)
takes_piece t u v s r side x piece items note keeps grown raised looked_at h = record {
  nothing = λ none. absurd (cc);
  bytes = taken.bytes;
  base = taken.base;
  no_message = taken.no_message;
  raised = taken.raised;
  looked_at = taken.looked_at;
  other_side = h.other_side ∙ holding_same t u s s (other side) keeps.other_side;
}
  where
    now : Holding
    now = holding (view_of v r) side

    asks : Asks t.cap (at u.sides side).holding now
    asks = subst (λ (n : ℕ). Asks n (at u.sides side).holding now) keeps.cap
        (subst (λ (k : Holding). Asks u.cap k now) (holding_at u s side) h.asks)

    taken : TakesIn t.cap (x ∷ piece) note (holding (view_of t s) side) now
    taken = subst (λ (k : Holding). TakesIn t.cap (x ∷ piece) note k now) (sym (holding_at t s side))
        (takes_in t.cap (at t.sides side) (at u.sides side) now x piece note grown raised looked_at
        (h.frame_bytes ∙ ap (λ (k : Holding). frame_bytes_after note k.frame_bytes) (holding_at u s side)) asks)

-- the same for any piece with at least one byte
pub takes_some : (t u v : Channels) (s r : ProtocolState) (side : Side) (piece : List ℕ) (items : List FrameEvent) (note : Note) →
    0 < length piece → Keeps side t u →
    IsGrown t.cap (at t.sides side) (fed t.cap (pending t side) piece) (at u.sides side) →
    IsRaised (4 * tokens_ended t.cap (pending t side) piece) (at t.sides side).holding.total
    (at u.sides side).holding.total →
    IsRaised (looked_at_most piece) (at t.sides side).holding.looked_at (at u.sides side).holding.looked_at →
    HandlesFrameEvents (view_of u s) side items note (view_of v r) →
    ReceivesBytes (view_of t s) side piece note (view_of v r)
takes_some t u v s r side [] items note some keeps grown raised looked_at h = absurd (omega (arith, some))
takes_some t u v s r side (x ∷ piece) items note some keeps grown raised looked_at h =
    takes_piece t u v s r side x piece items note keeps grown raised looked_at h

-- the look-ups are those for the tokens that the piece completes, and those at the message's end
pub piece_worked : (t u v : Channels) (s r : ProtocolState) (side : Side) (piece : List ℕ) (items : List FrameEvent) (step : Step)
    (note : Note) → (view_of v r).state.limits ≡ (view_of t s).state.limits → 0 < missing t.cap (pending t side) →
    Keeps side t u → IsGrown t.cap (at t.sides side) (fed t.cap (pending t side) piece) (at u.sides side) →
    IsRaised (4 * tokens_ended t.cap (pending t side) piece) (at t.sides side).holding.total
    (at u.sides side).holding.total →
    HoldsFrame step (head_in u.cap (pending u side)) (drop 4 (pending u side)) →
    IsBodied step ⊎ ((at v.sides side).holding.total ≡ (at u.sides side).holding.total) →
    HandlesFrameEvents (view_of u s) side items note (view_of v r) →
    IsPaidBy (length piece) side (view_of t s) (view_of v r)
piece_worked t u v s r side piece items step note limits wanted keeps grown raised full unasked h =
    fed_paid side (view_of t s) (view_of v r) mid piece note limits
    (subst (λ (b : List ℕ). 0 < missing t.cap b) (sym before) wanted)
    (h.frame_bytes ∙ ap (λ (k : Holding). frame_bytes_after note k.frame_bytes) (holding_at u s side)
    ∙ ap (frame_bytes_after note) (now ∙ ap (λ (b : List ℕ). fed t.cap b piece) (sym before)))
    (subst (λ (k : Holding). IsRaised (4 * tokens_ended t.cap k.frame_bytes piece) k.total mid.total) (sym (holding_at t s side))
    (subst (λ (b : List ℕ). IsRaised (4 * tokens_ended t.cap b piece) (at t.sides side).holding.total mid.total)
    (sym grown.held_before) raised))
    (subst (λ (b : List ℕ). IsRaised (at_end t.cap b) mid.total (holding (view_of v r) side).total)
    (now ∙ ap (λ (b : List ℕ). fed t.cap b piece) (sym before))
    (end_paid t.cap mid (holding (view_of v r) side) step asks whole
    (subst (λ (k : Holding). IsBodied step ⊎ (k.total ≡ mid.total)) (sym (holding_at v r side)) unasked)))
  where
    mid : Holding
    mid = (at u.sides side).holding

    before : (holding (view_of t s) side).frame_bytes ≡ pending t side
    before = ap (λ (k : Holding). k.frame_bytes) (holding_at t s side) ∙ grown.held_before

    now : mid.frame_bytes ≡ fed t.cap (pending t side) piece
    now = grown.frame_bytes

    asks : Asks t.cap mid (holding (view_of v r) side)
    asks = subst (λ (n : ℕ). Asks n mid (holding (view_of v r) side)) keeps.cap
        (subst (λ (k : Holding). Asks u.cap k (holding (view_of v r) side)) (holding_at u s side) h.asks)

    whole : HoldsFrame step (head_in t.cap mid.frame_bytes) (drop 4 mid.frame_bytes)
    whole =
        subst (λ (b : List ℕ). HoldsFrame step (head_in t.cap b) (drop 4 b))
        (ap (λ (c : Coming). c.pending) grown.coming ∙ sym now)
        (subst (λ (n : ℕ). HoldsFrame step (head_in n (pending u side)) (drop 4 (pending u side))) keeps.cap full)

-- ---- no byte

pub goes_nowhere : (g : SessionView) (side : Side) (piece : List ℕ) → length piece ≡ 0 →
    Refines g (bytes_come side piece) Notes.Nothing g
goes_nowhere g side [] e =
    record {
      effects = [];
      run = (refl, refl);
      kept = λ one. sym (append-nil (queued g one));
      note = refl;
      counts = refl;
    }
goes_nowhere g side (x ∷ piece) e = absurd (omega (arith, e))

counts_same : (o : Option Head) (h : Holding) → counts_from o o h ≡ h.total_before
counts_same None h = refl
counts_same (Some head) h = refl

pub takes_nothing : (g : SessionView) (side : Side) (piece : List ℕ) → length piece ≡ 0 →
    ReceivesBytes g side piece Notes.Nothing g
takes_nothing g side [] e = record {
  nothing = λ _. refl;
  bytes = refl;
  base = sym (counts_same (head_in g.state.limits.cap (holding g side).frame_bytes) (holding g side));
  no_message = λ _. refl;
  raised = raised_none (holding g side).total (holding g side).total refl;
  looked_at = raised_none (holding g side).looked_at (holding g side).looked_at refl;
  other_side = refl;
}
takes_nothing g side (x ∷ piece) e = absurd (omega (arith, e))
