-- The bytes written and the bytes lost, as the clauses of a session state them.
use Rattle.daide_session.proofs.Common.{◌≡◌, ℕ, Bool, true, false, cond, List, [], ◌∷◌, ◌++◌, drop, None, refl, sym, ap}
use Rattle.daide_session.proofs.Common.{◌∙◌, subst, ◌⊎◌, inl, inr, ◌||◌, Side, Bot, Server, Ending, other, same_side}
use Rattle.daide_session.proofs.Common.{Loses, Sent, SessionState, Runs, is_over, fm_to, Holding, holding, is_awaited}
use Rattle.daide_session.proofs.Common.{queued, frames_to, sent_to, sent_bytes, Refines, Lost, ProtocolState, PerSide}
use Rattle.daide_session.proofs.Common.{at, put, Channels, fronts_stay, state_of, view_of, Dropped, HoldsNoMore, Emits}
use Rattle.daide_session.proofs.Common.{KeepsSides, stopped}
use Rattle.daide_protocol.specs.declared.note.Note.TheVariants as Notes
use Rattle.daide_protocol.specs.declared.ending.Ending.TheVariants as Endings
use Rattle.daide_protocol.specs.Machine.{may_reach}
use Rattle.daide_protocol.specs.Wires.{is_answer, has_answer, without, Wrote, Releases}
use Rattle.daide_channels.specs.Channels.{ReceiveState, ReleasesFrames as ReleasesChannels}
use Rattle.daide_frame.proofs.PerSideLemmas.{at_put, put_there, on_both}
use Rattle.daide_session.proofs.SessionFronts.{other_front}
use Rattle.daide_session.proofs.EmitsLemmas.{waiting_at}
use Rattle.daide_session.proofs.FrameEventsLemmas.{holding_at}
use Rattle.daide_session.proofs.SessionLemmas.{goes_event, stop_note, stopped_over}

-- ---- a final frame makes no side wait

has_answer-append : (side : Side) (a b : List Sent) → has_answer side b ≡ false →
    has_answer side (a ++ b) ≡ has_answer side a
has_answer-append side [] b e = e
has_answer-append side (x ∷ a) b e = ap (λ (k : Bool). is_answer side x.answers || k) (has_answer-append side a b e)

end_quiet : (one wire : Side) (s : SessionState) (ending : Ending) (side : Side) →
    has_answer one (sent_to wire (stopped s ending side).effects) ≡ false
end_quiet one wire s ending side = go (is_over s.phase) refl
  where
    frame : Sent
    frame = record { to = other side; answers = None; bytes = 3 ∷ 0 ∷ 0 ∷ 0 ∷ [] }

    for_wire : (k : Bool) → has_answer one (cond k (frame ∷ []) [] ++ []) ≡ false
    for_wire true = refl
    for_wire false = refl

    reached : (k : Bool) → may_reach s.phase (other side) ≡ k →
        has_answer one (frames_to wire (fm_to s.phase (other side)) ++ []) ≡ false
    reached true e = rw e (for_wire (same_side (other side) wire))
    reached false e = rw e refl

    go : (k : Bool) → is_over s.phase ≡ k → has_answer one (sent_to wire (stopped s ending side).effects) ≡ false
    go true e = rw e refl
    go false e = rw e (reached (may_reach s.phase (other side)) refl)

-- after a side's end the queues have the same answer frames
stopped_awaited : (t u : Channels) (s r : ProtocolState) (ending : Ending) (side one : Side) →
    Emits (view_of t s) (stopped (state_of t s) ending side) (view_of u r) →
    is_awaited (queued (view_of u r)) one ≡ is_awaited (queued (view_of t s)) one
stopped_awaited t u s r ending side one m = both
    (ap (has_answer one) (m.sent Bot) ∙ has_answer-append one t.queued.bot _ (end_quiet one Bot (state_of t s) ending side))
    (ap (has_answer one) (m.sent Server)
    ∙ has_answer-append one t.queued.server _ (end_quiet one Server (state_of t s) ending side))
  where
    both : {a b c d : Bool} → a ≡ b → c ≡ d → (a || c) ≡ (b || d)
    both e f = rw (e, f) refl

-- ---- the held bytes

gone_state : (u v : Channels) (s : ProtocolState) → ReleasesChannels u v → state_of v s ≡ state_of u s
gone_state u v s l = rw (l.cap, l.rules, l.coming Bot, l.coming Server) refl

lets_go : (t u v : Channels) (s r : ProtocolState) →
    ((one : Side) → is_awaited (queued (view_of u r)) one ≡ is_awaited (queued (view_of t s)) one) →
    u.sides ≡ t.sides →
    ReleasesChannels u v → Releases (view_of t s) (view_of v r)
lets_go t u v s r same sides l = record {
  gone = λ one waited free.
      let was = same one ∙ waited in (
        ap (λ (h : Holding). h.frame_bytes) (holding_at v r one) ∙ l.gone one was free,
        ap (λ (h : Holding). h.total) (holding_at v r one)
            ∙ (l.total one ∙ ap (λ (h : Holding). h.total) (before one)),
      );
  kept = λ one e. holding_at v r one
      ∙ (l.kept one (e ∙ sym (same one)) ∙ before one);
}
  where
    before : (one : Side) → (at u.sides one).holding ≡ holding (view_of t s) one
    before one = ap (λ (x : PerSide ReceiveState). (at x one).holding) sides ∙ sym (holding_at t s one)

-- each side holds the bytes that it held, or none
pub holds_less : (t u v : Channels) (s r : ProtocolState) → u.sides ≡ t.sides → ReleasesChannels u v →
    HoldsNoMore (view_of t s) (view_of v r)
holds_less t u v s r sides l one =
    by_answers (is_awaited (at u.queued) one) refl (is_awaited (at v.queued) one) refl
  where
    kept : is_awaited (at v.queued) one ≡ is_awaited (at u.queued) one →
        ((holding (view_of v r) one).frame_bytes ≡ (holding (view_of t s) one).frame_bytes)
        ⊎ ((holding (view_of v r) one).frame_bytes ≡ [])
    kept same = inl (ap (λ (h : Holding). h.frame_bytes)
        (holding_at v r one ∙ (l.kept one same
        ∙ (ap (λ (x : PerSide ReceiveState). (at x one).holding) sides ∙ sym (holding_at t s one)))))

    by_answers : (a : Bool) → is_awaited (at u.queued) one ≡ a → (b : Bool) → is_awaited (at v.queued) one ≡ b →
        ((holding (view_of v r) one).frame_bytes ≡ (holding (view_of t s) one).frame_bytes)
        ⊎ ((holding (view_of v r) one).frame_bytes ≡ [])
    by_answers true e true f = kept (f ∙ sym e)
    by_answers true e false f = inr (ap (λ (h : Holding). h.frame_bytes) (holding_at v r one) ∙ l.gone one e f)
    by_answers false e true f = absurd (let none = sym f ∙ l.fewer one e in cc)
    by_answers false e false f = kept (f ∙ sym e)

-- ---- the effect of a call

pub wrote_of : (t v : Channels) (s : ProtocolState) (side : Side) (n : ℕ) → ReleasesChannels t v →
    v.queued ≡ put t.queued side (without n (at t.queued side)) →
    sent_bytes (at v.queued side) ≡ drop n (sent_bytes (at t.queued side)) →
    Wrote (view_of t s) side n (view_of v s)
wrote_of t v s side n l wait bytes = record {
  same_state = gone_state t v s l;
  counts = refl;
  taken = waiting_at v s side
      ∙ (ap (λ (w : PerSide (List Sent)). at w side) wait
      ∙ (at_put t.queued side (without n (at t.queued side)) ∙ ap (without n) (sym (waiting_at t s side))));
  front_bytes = ap sent_bytes (waiting_at v s side)
      ∙ (bytes ∙ ap (λ (w : List Sent). drop n (sent_bytes w)) (sym (waiting_at t s side)));
  other_wire = waiting_at v s (other side)
      ∙ (ap (λ (w : PerSide (List Sent)). at w (other side)) wait
      ∙ (put_there t.queued side (without n (at t.queued side)) ∙ sym (waiting_at t s (other side))));
  frame_bytes = lets_go t t v s s (λ one. refl) refl l;
}

pub dropped_of : (t v : Channels) (s : ProtocolState) (side : Side) → ReleasesChannels t v → v.queued ≡ put t.queued side [] →
    at v.parts (other side) ≡ at t.parts (other side) → Dropped (view_of t s) side (view_of v s)
dropped_of t v s side l wait parts = record {
  same_state = gone_state t v s l;
  counts = refl;
  dropped = waiting_at v s side
      ∙ (ap (λ (w : PerSide (List Sent)). at w side) wait ∙ at_put t.queued side []);
  other_wire = waiting_at v s (other side)
      ∙ (ap (λ (w : PerSide (List Sent)). at w (other side)) wait
      ∙ (put_there t.queued side [] ∙ sym (waiting_at t s (other side))));
  other_front = other_front t t v s s side [] (fronts_stay t) wait parts;
  frame_bytes = lets_go t t v s s (λ one. refl) refl l;
  asks_nothing = on_both (λ (side : Side). (holding (view_of v s) side).total ≡ (holding (view_of t s) side).total)
      (l.total Bot) (l.total Server);
  looks_at_nothing = on_both (λ (side : Side). (holding (view_of v s) side).looked_at ≡ (holding (view_of t s) side).looked_at)
      (l.looked_at Bot) (l.looked_at Server);
}

pub lost_of : (t u v : Channels) (s r : ProtocolState) (side : Side) →
    Emits (view_of t s) (stopped (state_of t s) (Endings.Lost side) side) (view_of u r) → KeepsSides t u →
    ReleasesChannels u v →
    v.queued ≡ put u.queued side [] → Lost (view_of t s) side (view_of v r)
lost_of t u v s r side m keeps l wait = record {
  effects = on_peer_closed.effects;
  run = subst (λ (x : SessionState). Runs (state_of t s) (Loses side ∷ []) on_peer_closed.effects x) (sym state) on_peer_closed.run;
  dropped = waiting_at v r side
      ∙ (ap (λ (w : PerSide (List Sent)). at w side) wait ∙ at_put u.queued side []);
  other_wire = waiting_at v r (other side)
      ∙ (ap (λ (w : PerSide (List Sent)). at w (other side)) wait
      ∙ (put_there u.queued side [] ∙ (sym (waiting_at u r (other side)) ∙ on_peer_closed.kept (other side))));
  over = ap (λ (x : SessionState). is_over x.phase) (state ∙ m.state)
      ∙ stopped_over (state_of t s) (Endings.Lost side) side;
  counts = on_peer_closed.counts;
  frame_bytes = lets_go t u v s r (λ one. stopped_awaited t u s r (Endings.Lost side) side one m) keeps.sides l;
}
  where
    on_peer_closed : Refines (view_of t s) (Loses side ∷ []) Notes.Nothing (view_of u r)
    on_peer_closed = goes_event (view_of t s) (view_of u r) (Loses side) (stopped (state_of t s) (Endings.Lost side) side)
        Notes.Nothing refl refl m (stop_note (state_of t s) (Endings.Lost side) side)

    state : state_of v r ≡ state_of u r
    state = gone_state u v r l
