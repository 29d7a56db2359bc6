-- The channels carry out the moves of an outcome.
use Rattle.std.proofs.Common.{append_assoc}
use Rattle.daide_session.proofs.Common.{◌≡◌, ℕ, Bool, true, false, cond, List, [], ◌∷◌, ◌++◌, Option, Some, None, refl}
use Rattle.daide_session.proofs.Common.{sym, ap, ◌∙◌, subst, append-nil, ◌<◌, ◌≤◌, length, arith, ◌==◌, Side, Bot}
use Rattle.daide_session.proofs.Common.{Server, Code, Ending, SessionPhase, WaitIm, WaitRm, Open, Over, Account, other}
use Rattle.daide_session.proofs.Common.{same_side, Sent, Coming, fm_to, coming, is_over, missing, SessionView, queued}
use Rattle.daide_session.proofs.Common.{frames_to, is_awaited, room_of, ProtocolState, PerSide, at, Channels, posted}
use Rattle.daide_session.proofs.Common.{final_frame_to, pending, state_of, view_of, Emits, KeepsSides}
use Rattle.daide_protocol.specs.declared.ending.Ending.TheVariants as Endings
use Rattle.daide_protocol.specs.Account.{fault_accounted}
use Rattle.daide_protocol.specs.Machine.{fault, em_to, stop}

-- ---- the value by its parts

pub waiting_at : (t : Channels) (s : ProtocolState) (wire : Side) → queued (view_of t s) wire ≡ at t.queued wire
waiting_at t s wire = refl

-- the queued frames of a session are the same if those of its channels are
pub waits_same : (t u : Channels) (s r : ProtocolState) (wire : Side) → u.queued ≡ t.queued →
    queued (view_of u r) wire ≡ queued (view_of t s) wire
waits_same t u s r wire e =
    waiting_at u r wire ∙ (ap (λ (w : PerSide (List Sent)). at w wire) e ∙ sym (waiting_at t s wire))

-- ---- frames that are appended

pub frames_to-cons : (wire : Side) (frame : Sent) (frames : List Sent) →
    frames_to wire (frame ∷ frames) ≡ frames_to wire (frame ∷ []) ++ frames_to wire frames
frames_to-cons wire frame frames = go (same_side frame.to wire)
  where
    go : (b : Bool) → cond b (frame ∷ frames_to wire frames) (frames_to wire frames)
        ≡ cond b (frame ∷ []) [] ++ frames_to wire frames
    go true = refl
    go false = refl

pub posted_at : (w : PerSide (List Sent)) (frame : Sent) (wire : Side) →
    at (posted w frame) wire ≡ at w wire ++ frames_to wire (frame ∷ [])
posted_at w frame wire = go frame.to wire
  where
    go : (to wire : Side) →
        at (posted w (record { to = to; answers = frame.answers; bytes = frame.bytes })) wire
        ≡ at w wire ++ frames_to wire (record { to = to; answers = frame.answers; bytes = frame.bytes } ∷ [])
    go Bot Bot = refl
    go Bot Server = sym (append-nil w.server)
    go Server Bot = sym (append-nil w.bot)
    go Server Server = refl

-- a frame for one wire leaves the other wire unchanged
pub other_post : (w : PerSide (List Sent)) (side : Side) (code : Option Code) →
    at (posted w (final_frame_to side code)) (other side) ≡ at w (other side)
other_post w Bot code = refl
other_post w Server code = refl

-- ---- the end

-- the same state with another account
abbrev pub with_account : ProtocolState → Account → ProtocolState
with_account protocol account = record {
  top_level = protocol.top_level;
  phase = protocol.phase;
  account = account;
}

-- the state ended by this event
abbrev pub ended_by : Ending → ProtocolState → ProtocolState
ended_by ending protocol = record {
  top_level = protocol.top_level;
  phase = Over ending;
  account = protocol.account;
}

pub failed : (old mid new : Channels) (protocol closed : ProtocolState) (account : Account) (side : Side) (code : Code) →
    KeepsSides old new → mid.queued ≡ posted old.queued (final_frame_to side (Some code)) →
    closed ≡ ended_by (Endings.Fault side code) protocol → account ≡ fault_accounted closed.account →
    ((wire : Side) → at new.queued wire ≡ at mid.queued wire ++ frames_to wire (fm_to protocol.phase (other side))) →
    Emits (view_of old protocol) (fault (state_of old protocol) side code) (view_of new (with_account closed account))
failed old mid new protocol closed account side code keeps post queue_final counted close = record {
  state = rw (keeps.cap, keeps.rules, keeps.sides, queue_final) refl;
  counts = counted ∙ ap (λ (s : ProtocolState). fault_accounted s.account) queue_final;
  sent = λ wire. waiting_at new (with_account closed account) wire
      ∙ (close wire
      ∙ (ap (λ (w : PerSide (List Sent)). at w wire ++ frames_to wire fm) post
      ∙ (ap (λ (x : List Sent). x ++ frames_to wire fm) (posted_at old.queued em wire)
      ∙ (append_assoc (at old.queued wire) (frames_to wire (em ∷ [])) (frames_to wire fm)
      ∙ (ap (λ (x : List Sent). at old.queued wire ++ x) (sym (frames_to-cons wire em fm)
      ∙ sym (append-nil (frames_to wire (em ∷ fm))))
      ∙ ap (λ (x : List Sent). x ++ (frames_to wire (em ∷ fm) ++ [])) (sym (waiting_at old protocol wire)))))));
}
  where
    em : Sent
    em = em_to side code

    fm : List Sent
    fm = fm_to protocol.phase (other side)

-- the bot may be reached in every phase
fm_to_bot : (phase : SessionPhase) → final_frame_to Bot None ∷ [] ≡ fm_to phase Bot
fm_to_bot WaitIm = refl
fm_to_bot WaitRm = refl
fm_to_bot (Open level) = refl
fm_to_bot (Over ending) = refl

pub halted : (old mid new : Channels) (protocol closed : ProtocolState) → KeepsSides old new →
    mid.queued ≡ posted old.queued (final_frame_to Bot None) → closed ≡ ended_by Endings.Stopped protocol →
    ((wire : Side) → at new.queued wire ≡ at mid.queued wire ++ frames_to wire (fm_to protocol.phase Server)) →
    Emits (view_of old protocol) (stop (state_of old protocol)) (view_of new closed)
halted old mid new protocol closed keeps post queue_final close = record {
  state = rw (keeps.cap, keeps.rules, keeps.sides, queue_final) refl;
  counts = ap (λ (s : ProtocolState). s.account) queue_final;
  sent = λ wire. waiting_at new closed wire
      ∙ (close wire
      ∙ (ap (λ (w : PerSide (List Sent)). at w wire ++ frames_to wire fm) post
      ∙ (ap (λ (x : List Sent). x ++ frames_to wire fm) (posted_at old.queued own wire)
      ∙ (append_assoc (at old.queued wire) (frames_to wire (own ∷ [])) (frames_to wire fm)
      ∙ (ap (λ (x : List Sent). at old.queued wire ++ x)
      (sym (frames_to-cons wire own fm)
      ∙ (ap (λ (x : List Sent). frames_to wire (x ++ fm)) (fm_to_bot protocol.phase)
      ∙ sym (append-nil (frames_to wire (fm_to protocol.phase Bot ++ fm)))))
      ∙ ap (λ (x : List Sent). x ++ (frames_to wire (fm_to protocol.phase Bot ++ fm) ++ []))
      (sym (waiting_at old protocol wire)))))));
}
  where
    own : Sent
    own = final_frame_to Bot None

    fm : List Sent
    fm = fm_to protocol.phase Server

-- ---- the room

pub coming_at : (t : Channels) (s : ProtocolState) (side : Side) → coming (state_of t s) side ≡ (at t.sides side).coming
coming_at t s Bot = refl
coming_at t s Server = refl

-- the session accepts bytes of this side
pub record IsFree (g : SessionView) (side : Side) : Type 0 where
  pub live : is_over g.state.phase ≡ false
  pub free : is_awaited (queued g) side ≡ false
  pub room : room_of g side ≡ missing g.state.limits.cap (coming g.state side).pending

pub free_of : (g : SessionView) (side : Side) → 0 < room_of g side → IsFree g side
unfolding room_of
free_of g side h = go (is_over g.state.phase) refl (is_awaited (queued g) side) refl
  where
    go : (a : Bool) → is_over g.state.phase ≡ a → (b : Bool) → is_awaited (queued g) side ≡ b → IsFree g side
    go true e b f = absurd (let none = rw e at h in omega (arith, none))
    go false e true f = absurd (let none = rw (e, f) at h in omega (arith, none))
    go false e false f = record { live = e; free = f; room = rw (e, f) refl }

pub not_empty : (piece : List ℕ) → (length piece == 0) ≡ false → 0 < length piece
not_empty [] e = absurd (cc)
not_empty (x ∷ piece) e = omega arith

-- a piece with at least one byte that fits into the room
pub free_for : {g now : SessionView} {empty : Bool} (side : Side) (piece : List ℕ) → g ≡ now →
    empty ≡ (length piece == 0) → empty ≡ false → length piece ≤ room_of now side → IsFree g side
free_for {g} side piece same e f few =
    free_of g side (rw same (let some = not_empty piece (sym e ∙ f) in omega (arith, some, few)))

-- a piece that fits into the room, as the channels see it
pub fits : (t : Channels) (s : ProtocolState) (side : Side) (piece : List ℕ) (now : SessionView) → view_of t s ≡ now →
    room_of (view_of t s) side ≡ missing t.cap (coming (state_of t s) side).pending →
    length piece ≤ room_of now side → length piece ≤ missing t.cap (pending t side)
fits t s side piece now same room few =
    subst (λ (c : Coming). length piece ≤ missing t.cap c.pending) (coming_at t s side)
    (subst (λ (n : ℕ). length piece ≤ n) room
    (subst (λ (g : SessionView). length piece ≤ room_of g side) (sym same) few))

pub room_over : (g : SessionView) (side : Side) → is_over g.state.phase ≡ true → room_of g side ≡ 0
unfolding room_of
room_over g side e = rw e refl

pub room_awaited : (g : SessionView) (side : Side) → is_awaited (queued g) side ≡ true → room_of g side ≡ 0
unfolding room_of
room_awaited g side e = go (is_over g.state.phase) refl
  where
    go : (b : Bool) → is_over g.state.phase ≡ b → room_of g side ≡ 0
    go true f = rw f refl
    go false f = rw (f, e) refl

pub room_open : (g : SessionView) (side : Side) → is_over g.state.phase ≡ false → is_awaited (queued g) side ≡ false →
    room_of g side ≡ missing g.state.limits.cap (coming g.state side).pending
unfolding room_of
room_open g side e f = rw (e, f) refl
