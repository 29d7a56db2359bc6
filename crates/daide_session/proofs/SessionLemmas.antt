-- Each call of a session is a part of a run of the machine, and keeps the invariant.
use Rattle.daide_session.proofs.Common.{◌≡◌, ℕ, ◌<◌, Bool, true, false, List, [], ◌∷◌, length, Option, None, refl, sym}
use Rattle.daide_session.proofs.Common.{ap, ◌∙◌, subst, arith, append-nil, ◌||◌, nat_lt, unwrap_or, Side, Bot, Server}
use Rattle.daide_session.proofs.Common.{missing, Level, L0, Relay, Note, WaitIm, other, Event, ImTimerExpired, Sent}
use Rattle.daide_session.proofs.Common.{Successor, SessionState, Runs, IsCorrectVerdict, coming, is_over, event_outcome}
use Rattle.daide_session.proofs.Common.{initial_state, SessionView, queued, sent_to, note_of, Refines, Holding, holding}
use Rattle.daide_session.proofs.Common.{not_both, Ending, Account, ProtocolState, Word, grammar_words, ReaderLimits}
use Rattle.daide_session.proofs.Common.{Channels, has_final_frame, state_of, view_of, Dropped, Emits, stopped}
use Rattle.daide_session.proofs.Common.{terminated}
use Rattle.daide_frame.specs.declared.code.Code.TheVariants.{ImTimeout}
use Rattle.daide_frame.proofs.FramesLemmas.{missing-short}
use Rattle.daide_grammar.specs.Level.{level_of_number}
use Rattle.daide_protocol.specs.declared.note.Note.TheVariants as Notes
use Rattle.daide_protocol.specs.Machine.{Question, question, fault, im_timer_expired, stop}
use Rattle.daide_protocol.specs.Wires.{without, IsNew, Wrote}
use Rattle.daide_protocol.proofs.FramesHeard.{over_for_good, run_waits}
use Rattle.daide_protocol.specs.Account.{nothing_accounted}
use Rattle.daide_protocol.specs.declared.config.Config.{Config}
use Rattle.daide_channels.specs.Channels.{IsQuiet, is_final_frame, side_holding}
use Rattle.daide_protocol.specs.Config.{limits_with}
use Rattle.daide_session.specs.Session.{IsConsistentSession}
use Rattle.daide_session.proofs.EmitsLemmas.{waiting_at}
use Rattle.daide_session.proofs.OpenRuns.{run_sends, has_final_frame-append}
use Rattle.daide_session.proofs.FrameEventsLemmas.{holding_at}

-- ---- one event

one_event : (s : SessionState) (e : Event) (o : Successor) → question s e ≡ None → event_outcome s e Relay ≡ o →
    Runs s (e ∷ []) o.effects o.state
one_event s e o q h =
    let right = subst (λ (x : Option Question). IsCorrectVerdict s.limits.words s.limits.max_depth x Relay) (sym q) refl in (
      o.state,
      o.effects,
      [],
      record { verdict = Relay; right = right; outcome = h },
      (refl, refl),
      sym (append-nil o.effects),
    )

-- the effect of one event on a session
pub goes_event : (g n : SessionView) (e : Event) (o : Successor) (reported : Note) → question g.state e ≡ None →
    event_outcome g.state e Relay ≡ o → Emits g o n → reported ≡ note_of o.effects → Refines g (e ∷ []) reported n
goes_event g n e o reported q h m t = record {
  effects = o.effects;
  run = subst (λ (s : SessionState). Runs g.state (e ∷ []) o.effects s) (sym m.state) (one_event g.state e o q h);
  kept = m.sent;
  note = t;
  counts = m.counts;
}

pub stop_note : (s : SessionState) (ending : Ending) (side : Side) →
    Notes.Nothing ≡ note_of (stopped s ending side).effects
stop_note s ending side = go (is_over s.phase) refl
  where
    go : (b : Bool) → is_over s.phase ≡ b → Notes.Nothing ≡ note_of (stopped s ending side).effects
    go true e = rw e refl
    go false e = rw e refl

-- a stop of a session that is over, and of one that is not
pub nothing_note : (s : SessionState) → is_over s.phase ≡ true → Notes.Nothing ≡ note_of (terminated s).effects
nothing_note s e = rw e refl

pub stopped_note : (s : SessionState) → is_over s.phase ≡ false → Notes.Stopped ≡ note_of (terminated s).effects
stopped_note s e = rw e refl

pub terminated_is : (s : SessionState) → is_over s.phase ≡ false → terminated s ≡ stop s
terminated_is s e = rw e refl

pub stopped_over : (s : SessionState) (ending : Ending) (side : Side) →
    is_over (stopped s ending side).state.phase ≡ true
stopped_over s ending side = go (is_over s.phase) refl
  where
    go : (b : Bool) → is_over s.phase ≡ b → is_over (stopped s ending side).state.phase ≡ true
    go true e = rw e e
    go false e = rw e refl

-- the IM timer, in the phase that waits for the IM
pub goes_im_timer_expired : (g n : SessionView) (reported : Note) → g.state.phase ≡ WaitIm → Emits g (fault g.state Bot ImTimeout) n →
    reported ≡ Notes.Fault ImTimeout → Refines g (ImTimerExpired ∷ []) reported n
goes_im_timer_expired g n reported waits m t =
    let same : fault g.state Bot ImTimeout ≡ im_timer_expired g.state.phase g.state = rw waits refl in
    goes_event g n ImTimerExpired (im_timer_expired g.state.phase g.state) reported refl refl
    (subst (λ (o : Successor). Emits g o n) same m)
    (t ∙ ap (λ (o : Successor). note_of o.effects) same)

-- ---- the invariant between calls

pub standing_on : (g n : SessionView) (events : List Event) (reported : Note) → Refines g events reported n → IsConsistentSession g →
    IsConsistentSession n
standing_on g n events reported goes standing = record {
  wanted = λ live. run_waits g.state events goes.effects n.state goes.run live (standing.wanted (before live));
  no_end = λ live wire. rw (goes.kept wire) (has_final_frame-append (queued g wire) (sent_to wire goes.effects)
      (standing.no_end (before live) wire) (run_sends g.state events goes.effects n.state goes.run live wire));
}
  where
    before : is_over n.state.phase ≡ false → is_over g.state.phase ≡ false
    before live = go (is_over g.state.phase) refl
      where
        go : (b : Bool) → is_over g.state.phase ≡ b → is_over g.state.phase ≡ false
        go false e = e
        go true e = absurd (not_both (is_over n.state.phase)
            (over_for_good g.state events goes.effects n.state goes.run e) live)

pub standing_over : (g : SessionView) → is_over g.state.phase ≡ true → IsConsistentSession g
standing_over g over = record {
  wanted = λ live. absurd (not_both (is_over g.state.phase) over live);
  no_end = λ live. absurd (not_both (is_over g.state.phase) over live);
}

has_final_frame-without : (n : ℕ) (xs : List Sent) → has_final_frame xs ≡ false → has_final_frame (without n xs) ≡ false
has_final_frame-without n [] e = e
has_final_frame-without n (x ∷ xs) e = go (nat_lt n (length x.bytes)) refl
  where
    both : (b c : Bool) → (b || c) ≡ false → c ≡ false
    both true c e = absurd (cc)
    both false c e = e

    go : (b : Bool) → nat_lt n (length x.bytes) ≡ b → has_final_frame (without n (x ∷ xs)) ≡ false
    go true t = rw t e
    go false t = rw t (both (is_final_frame x.answers) (has_final_frame xs) e)

pub standing_wrote : (g n : SessionView) (side : Side) (k : ℕ) → Wrote g side k n → IsConsistentSession g → IsConsistentSession n
standing_wrote g n side k w standing = record {
  wanted = λ live. rw w.same_state (standing.wanted (before live));
  no_end = λ live wire. by_wire side wire w.taken w.other_wire (standing.no_end (before live));
}
  where
    before : is_over n.state.phase ≡ false → is_over g.state.phase ≡ false
    before live = ap (λ (s : SessionState). is_over s.phase) (sym w.same_state) ∙ live

    by_wire : (side wire : Side) → queued n side ≡ without k (queued g side) →
        queued n (other side) ≡ queued g (other side) → ((one : Side) → has_final_frame (queued g one) ≡ false) →
        has_final_frame (queued n wire) ≡ false
    by_wire Bot Bot e f h = rw e (has_final_frame-without k (queued g Bot) (h Bot))
    by_wire Bot Server e f h = rw f (h Server)
    by_wire Server Bot e f h = rw f (h Bot)
    by_wire Server Server e f h = rw e (has_final_frame-without k (queued g Server) (h Server))

pub standing_dropped : (g n : SessionView) (side : Side) → Dropped g side n → IsConsistentSession g → IsConsistentSession n
standing_dropped g n side d standing = record {
  wanted = λ live. rw d.same_state (standing.wanted (before live));
  no_end = λ live wire. by_wire side wire d.dropped d.other_wire (standing.no_end (before live));
}
  where
    before : is_over n.state.phase ≡ false → is_over g.state.phase ≡ false
    before live = ap (λ (s : SessionState). is_over s.phase) (sym d.same_state) ∙ live

    by_wire : (side wire : Side) → queued n side ≡ [] →
        queued n (other side) ≡ queued g (other side) → ((one : Side) → has_final_frame (queued g one) ≡ false) →
        has_final_frame (queued n wire) ≡ false
    by_wire Bot Bot e f h = rw e refl
    by_wire Bot Server e f h = rw f (h Server)
    by_wire Server Bot e f h = rw f (h Bot)
    by_wire Server Server e f h = rw e refl

-- ---- a new session

-- nothing received, and nothing counted
abbrev new_protocol : Level → Account → ProtocolState
new_protocol level account =
    record { top_level = level; phase = WaitIm; account = account }

quiet_state : (cap : ℕ) (rules : ReaderLimits) (t : Channels) (level : Level) (account : Account) → IsQuiet cap rules t →
    state_of t (new_protocol level account)
    ≡ initial_state (record { cap = cap; top_level = level; max_depth = rules.max_depth; words = rules.words })
quiet_state cap rules t level account q = rw (q.cap_set, q.rules_set, q.coming Bot, q.coming Server) refl

-- the limits by which a session of this configuration judges
abbrev rules_with : Config → List Word → ReaderLimits
rules_with config words = record { max_depth = config.max_depth; words = grammar_words words }

pub new_of : (config : Config) (words : List Word) (t : Channels) (level : Level) (account : Account) →
    IsQuiet config.max_body (rules_with config words) t → level ≡ unwrap_or (level_of_number config.top_level) L0 →
    account ≡ nothing_accounted → IsNew (limits_with config words) (view_of t (new_protocol level account))
new_of config words t level account q e none = record {
  state = quiet_state config.max_body (rules_with config words) t level account q
      ∙ ap (λ (l : Level). initial_state
      (record {
        cap = config.max_body;
        top_level = l;
        max_depth = config.max_depth;
        words = grammar_words words;
      })) e;
  quiet = q.queued;
  frame_bytes = λ side. ap (λ (h : Holding). h.frame_bytes) (seen side) ∙ q.frame_bytes side;
  unasked = λ side. ap (λ (h : Holding). h.total) (seen side) ∙ q.unasked side;
  unlooked = λ side. ap (λ (h : Holding). h.looked_at) (seen side) ∙ q.unlooked side;
  uncounted = none;
}
  where
    seen : (side : Side) → holding (view_of t (new_protocol level account)) side ≡ side_holding t side
    seen side = holding_at t (new_protocol level account) side

pub standing_new : (cap : ℕ) (rules : ReaderLimits) (t : Channels) (level : Level) (account : Account) → IsQuiet cap rules t →
    IsConsistentSession (view_of t (new_protocol level account))
standing_new cap rules t level account q = record {
  wanted = λ live side. subst (λ (s : SessionState). 0 < missing s.limits.cap (coming s side).pending)
      (sym (quiet_state cap rules t level account q)) (by_side side);
  no_end = λ live wire. ap has_final_frame (waiting_at t (new_protocol level account) wire ∙ q.queued wire);
}
  where
    by_side : (side : Side) → 0 < missing cap (coming (initial_state
        (record { cap = cap; top_level = level; max_depth = rules.max_depth; words = rules.words })) side).pending
    by_side Bot = omega (arith, missing-short cap [] (omega arith))
    by_side Server = omega (arith, missing-short cap [] (omega arith))
