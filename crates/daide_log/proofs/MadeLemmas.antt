-- The cause of a move: its event, the state before it, and the frame that the session still holds.
use Rattle.std.proofs.Common.{is_some}
use Rattle.daide_log.proofs.Common.{◌≡◌, ℕ, ◌≤◌, Bool, true, false, List, [], ◌∷◌, ◌++◌, length, Option, Some, None}
use Rattle.daide_log.proofs.Common.{refl, sym, ap, ◌∙◌, subst, arith, append-nil, ◌%◌, drop, cond, Result, Ok, Err}
use Rattle.daide_log.proofs.Common.{slice_set, Side, Bot, Server, Head, Code, Event, bytes_come, Ends, ImTimerExpired}
use Rattle.daide_log.proofs.Common.{OperatorStops, SessionState, Effect, Successor, Transition, Runs, coming}
use Rattle.daide_log.proofs.Common.{with_pending, is_over, items_outcome, level_in, Question, is_dm, side2_of, question}
use Rattle.daide_log.proofs.Common.{answered, im_answered, frame_outcome, header_outcome, untimely, with_noted, Limits}
use Rattle.daide_log.proofs.Common.{event_outcome, im_timer_expired, over_stays, one_run, MatchBool, tokens_of, Level}
use Rattle.daide_log.proofs.Common.{Deed, ⊤, Im, Rm, Dm, Fm, im_of, Verdict, Relay, Prn, Huh, SessionPhase, Note}
use Rattle.daide_log.proofs.Common.{ImTimeout, Word, grammar_words, Config, WaitIm, WaitRm, Open, Over, limits_with}
use Rattle.daide_log.proofs.Common.{SessionView, holding, runs_limits, Summary, count_note, ReportKey, move_line}
use Rattle.daide_log.proofs.Common.{texts_of, counted_over}
use Rattle.daide_frame.specs.Frames.{FrameEvent, Whole, last_items, missing, fed, is_nothing}
use Rattle.daide_protocol.specs.Events.{Comes}
use Rattle.daide_protocol.specs.Machine.{IsCorrectVerdict, question_of, asked_by, deed_of, is_sent, destination}
use Rattle.daide_grammar.specs.SideMessages.{IsMessageOver}
use Rattle.daide_reader.specs.Verdict.{HasVerdict}
use Rattle.daide_frame.specs.declared.head.Kind.{Kind}
use Rattle.daide_frame.specs.declared.head.Kind.TheVariants.{Em}
use Rattle.daide_frame.specs.Head.{is_im, has_right_length}
use Rattle.daide_protocol.specs.declared.note.Note.TheVariants as Notes
use Rattle.daide_protocol.proofs.FrameShapes.{IsWholeFrame}
use Rattle.daide_protocol.proofs.AnswerBytes.{even_right}
use Rattle.daide_log.proofs.FramedLemmas.{Framed, framed}
use Rattle.daide_reader.proofs.BodyLemmas.{place_in}
use Rattle.daide_protocol.specs.Wires.{frame_bytes_after}
use Rattle.daide_log.specs.Reporting.{IsCaused, IsMade, IsUnder}
use Rattle.daide_protocol.proofs.WireLemmas.{bytes_come-append}
use Rattle.daide_log.specs.Explained.{ExplainedEntry, Moved, AreShownBy, ExplainsMove, ExplainsFrame, AreMessageLines, bytes_at}
use Rattle.daide_log.specs.Explained.{fault_lines, indented, shown_text, shown_counted, announced_after, announced_at, announced_if}
use Rattle.daide_log.specs.Explained.{announced_levels, capped_from, level_announced, place_of_session}
use Rattle.daide_log.specs.Explained.{verdict_by}
use Rattle.daide_log.specs.Proofs.Lawful.{silent, in_a_row}
use Rattle.daide_log.specs.Explaining.{IsRightFate, IsRightlyReported, AreLinesBy, announced_by_held}
use Rattle.daide_log.proofs.PlayLemmas.{room_is_missing}
use Rattle.daide_log.proofs.LimitBounds.{depth_within, body_within}
use Rattle.daide_log.proofs.OneMove.{Ending, ending_at, less_missing, over_moves, pending_phase, pending_missing, no_more}

-- the byte of a piece that caused its move
pub record Found (s : SessionState) (side : Side) (piece : List ℕ) (move : Effect) (new : SessionState) : Type 0 where
  pub front : List ℕ
  pub byte : ℕ
  pub back : List ℕ
  pub before : SessionState
  pub after : SessionState
  pub whole : piece ≡ front ++ byte ∷ back
  pub first : Runs s (bytes_come side front) [] before
  pub step : Transition before (Comes side byte) (move ∷ []) after
  pub rest : Runs after (bytes_come side back) [] new
  pub last : new ≡ after
  pub frame_bytes : fed s.limits.cap (coming s side).pending piece ≡ (coming before side).pending ++ byte ∷ []

some_move : (move : Effect) → ◌≡◌ {A = List Effect} (move ∷ []) [] → ⊥
some_move move e = absurd (cc)

next_fed : (s : SessionState) (side : Side) (bytes piece : List ℕ) →
    fed s.limits.cap bytes piece
    ≡ fed (with_pending s side bytes).limits.cap (coming (with_pending s side bytes) side).pending piece
next_fed s Bot bytes piece = refl
next_fed s Server bytes piece = refl

stays : (s : SessionState) (side : Side) (piece : List ℕ) (moves : List Effect) (new : SessionState) → length piece ≡ 0 →
    Runs s (bytes_come side piece) moves new → new ≡ s
stays s side [] moves new e run = run.1
stays s side (x ∷ piece) moves new e run = absurd (omega arith)

pub move_found : (piece : List ℕ) (s : SessionState) (side : Side) (move : Effect) (new : SessionState) →
    length piece ≤ missing s.limits.cap (coming s side).pending → Runs s (bytes_come side piece) (move ∷ []) new →
    Found s side piece move new
move_found [] s side move new room run = absurd (some_move move run.0)
move_found (x ∷ piece) s side move new room run =
    by_phase (is_over s.phase) refl (λ s' room' run'. move_found piece s' side move new room' run')
  where
    b : List ℕ
    b = (coming s side).pending

    cap : ℕ
    cap = s.limits.cap

    next : SessionState
    next = with_pending s side (b ++ x ∷ [])

    Later : Type 0
    Later = (s' : SessionState) →
        length piece ≤ missing s'.limits.cap (coming s' side).pending → Runs s' (bytes_come side piece) (move ∷ []) new →
        Found s' side piece move new

    -- the result of the byte
    made : is_over s.phase ≡ false →
        items_outcome next side (last_items cap (b ++ x ∷ [])) run.3.verdict ≡ record { state = run.0; effects = run.1 }
    made live = (let h = rw live at run.3.outcome in h)

    -- it caused the move
    here : is_nothing (last_items cap (b ++ x ∷ [])) ≡ false → run.2 ≡ [] → new ≡ run.0 → Found s side (x ∷ piece) move new
    here loud none last =
        let only : run.1 ≡ move ∷ [] =
        sym (append-nil run.1) ∙ ap (λ (m : List Effect). run.1 ++ m) (sym none) ∙ sym run.5 in
        record {
          front = [];
          byte = x;
          back = piece;
          before = s;
          after = run.0;
          whole = refl;
          first = (refl, refl);
          step = subst (λ (m : List Effect). Transition s (Comes side x) m run.0) only run.3;
          rest = subst (λ (m : List Effect). Runs run.0 (bytes_come side piece) m new) none run.4;
          last = last;
          frame_bytes = rw loud refl;
        }

    fed_next : last_items cap (b ++ x ∷ []) ≡ [] → next ≡ run.0 →
        fed cap b (x ∷ piece) ≡ fed run.0.limits.cap (coming run.0 side).pending piece
    fed_next e is_next =
        rw e (next_fed s side (b ++ x ∷ []) piece
        ∙ ap (λ (m : SessionState). fed m.limits.cap (coming m side).pending piece) is_next)

    by_ending : (items : List FrameEvent) → last_items cap (b ++ x ∷ []) ≡ items → Ending cap b items → is_over s.phase ≡ false →
        Later → Found s side (x ∷ piece) move new
    by_ending _ e Ending.quiet live later =
        let done : Successor = record { state = run.0; effects = run.1 } in
        let same : ◌≡◌ {A = Successor} (record { state = next; effects = [] }) done = sym (rw e refl) ∙ made live in
        let less = less_missing cap b x (omega arith) e in
        let no_move : [] ≡ run.1 = ap (λ (o : Successor). o.effects) same in
        let is_next : next ≡ run.0 = ap (λ (o : Successor). o.state) same in
        let found = later run.0
        (subst (λ (m : SessionState). length piece ≤ missing m.limits.cap (coming m side).pending) is_next
        (omega (arith, less, pending_missing s side (b ++ x ∷ []), room)))
        (subst (λ (m : List Effect). Runs run.0 (bytes_come side piece) m new)
        (sym (run.5 ∙ ap (λ (m : List Effect). m ++ run.2) (sym no_move))) run.4) in
        record {
          front = x ∷ found.front;
          byte = found.byte;
          back = found.back;
          before = found.before;
          after = found.after;
          whole = ap (λ (l : List ℕ). x ∷ l) found.whole;
          first = (
            run.0,
            [],
            [],
            subst (λ (m : List Effect). Transition s (Comes side x) m run.0) (sym no_move) run.3,
            found.first,
            refl,
          );
          step = found.step;
          rest = found.rest;
          last = found.last;
          frame_bytes = fed_next e is_next ∙ found.frame_bytes;
        }
    by_ending _ e (Ending.refused code) live later =
        let over : is_over run.0.phase ≡ true = sym (ap (λ (o : Successor). is_over o.state.phase) (made live)) ∙ rw e (rw (ap is_over (pending_phase s side (b ++ x ∷ [])) ∙ live) refl) in
        here (rw e refl) (over_moves run.0 (bytes_come side piece) run.2 new over run.4)
        (one_run (bytes_come side piece) run.0 run.2 [] new run.0 run.4 (over_stays run.0 (bytes_come side piece) over)).1
    by_ending _ e (Ending.headed head one) live later =
        here (rw e refl) (no_more run.0 side piece run.2 new (omega (arith, one, room)) run.4)
        (stays run.0 side piece run.2 new (omega (arith, one, room)) run.4)
    by_ending _ e (Ending.empty head one) live later =
        here (rw e refl) (no_more run.0 side piece run.2 new (omega (arith, one, room)) run.4)
        (stays run.0 side piece run.2 new (omega (arith, one, room)) run.4)
    by_ending _ e (Ending.full head body one) live later =
        here (rw e refl) (no_more run.0 side piece run.2 new (omega (arith, one, room)) run.4)
        (stays run.0 side piece run.2 new (omega (arith, one, room)) run.4)

    by_phase : (o : Bool) → is_over s.phase ≡ o → Later → Found s side (x ∷ piece) move new
    by_phase true over later = absurd (some_move move (over_moves s (bytes_come side (x ∷ piece)) (move ∷ []) new over run))
    by_phase false live later =
        by_ending (last_items cap (b ++ x ∷ [])) refl (ending_at cap b x (omega arith)) live later

-- ---- the message that ends with a byte

-- the question to the grammar determines the lines for a frame
pub record IsFate (before : SessionState) (side : Side) (bytes : List ℕ) (q : Option Question) (level : Level) (deed : Deed) :
    Type 0 where
  pub asked : q ≡ Some (record { side = side; level = level; message = tokens_of (drop 4 bytes) })
  pub verdict : HasVerdict (IsMessageOver before.limits.words (side2_of side) level) before.limits.max_depth
      (tokens_of (drop 4 bytes)) (verdict_by deed)
  pub even : length (drop 4 bytes) % 2 ≡ 0
  pub capped : length (drop 4 bytes) ≤ before.limits.cap
  pub by : Verdict
  pub made : deed ≡ deed_of true by

-- the result of a byte that completed a frame: a message that was judged, or another frame, which is not judged
abbrev pub IsAsked : SessionState → Side → List ℕ → Option Question → Level → Head → Deed → Type 0
IsAsked before side bytes q level head deed =
    MatchBool (is_dm head.kind) (IsFate before side bytes q level deed) (q ≡ None)

deed_reported : (sent : Bool) (v : Verdict) → sent ≡ true → verdict_by (deed_of sent v) ≡ v
deed_reported true Relay e = refl
deed_reported true Prn e = refl
deed_reported true (Huh place) e = refl
deed_reported false v e = absurd (cc)

dm_is : (kind : Kind) → is_dm kind ≡ true → kind ≡ Dm
dm_is Im e = absurd (cc)
dm_is Rm e = absurd (cc)
dm_is Dm e = refl
dm_is Fm e = absurd (cc)
dm_is Em e = absurd (cc)

fate : (before : SessionState) (side : Side) (bytes : List ℕ) (h : Head) (level : Level) (v : Verdict) (phase : SessionPhase)
    (to : Side) (deed : Deed) → IsWholeFrame before.limits.cap h (drop 4 bytes) →
    IsCorrectVerdict before.limits.words before.limits.max_depth (question_of side level h (drop 4 bytes)) v →
    deed ≡ deed_of (is_sent phase h.kind to) v →
    IsAsked before side bytes (question_of side level h (drop 4 bytes)) level h deed
fate before side bytes h level v phase to deed w right e = go (is_dm h.kind) refl
  where
    q : Question
    q = record { side = side; level = level; message = tokens_of (drop 4 bytes) }

    go : (k : Bool) → is_dm h.kind ≡ k →
        MatchBool k (IsFate before side bytes (cond k (Some q) None) level deed) (cond k (Some q) None ≡ None)
    go true dm =
        let kind = dm_is h.kind dm in
        let sent : is_sent phase h.kind to ≡ true = rw kind refl in
        record {
          asked = refl;
          verdict = subst (HasVerdict (IsMessageOver before.limits.words (side2_of side) level) before.limits.max_depth
              (tokens_of (drop 4 bytes)))
              (sym (ap verdict_by e ∙ deed_reported (is_sent phase h.kind to) v sent))
              (let r = rw dm at right in r);
          even = ap (λ (n : ℕ). n % 2) w.long ∙ even_right h.len (ap (λ (k : Kind). has_right_length k h.len) (sym kind) ∙ w.right);
          capped = omega (arith, w.long, w.within);
          by = v;
          made = e ∙ ap (λ (b : Bool). deed_of b v) sent;
        }
    go false dm = refl

-- the note of the first move
abbrev first_reported : List Effect → Note
first_reported [] = Notes.Nothing
first_reported (effect ∷ effects) = effect.reported

-- a complete frame had a verdict
pub record IsWholeTold (s : SessionState) (side : Side) (h : Head) (body : List ℕ) (v : Verdict) (head : Head)
    (deed : Deed) : Type 0 where
  pub same_head : head ≡ h
  pub same_deed : deed ≡ deed_of (is_sent s.phase h.kind (destination side v)) v
  pub state : (frame_outcome s side h body v).state ≡ (answered s side h body v).state

frame_parts : (h head : Head) (a deed : Deed) → Notes.Frame h a ≡ Notes.Frame head deed → (head ≡ h) × (deed ≡ a)
frame_parts h head a deed e = (sym (cc), sym (cc))

whole_reported : (s : SessionState) (side : Side) (h : Head) (body : List ℕ) (v : Verdict) (head : Head) (deed : Deed) →
    first_reported (frame_outcome s side h body v).effects ≡ Notes.Frame head deed → IsWholeTold s side h body v head deed
whole_reported s side h body v head deed e = by_kind (is_im h.kind) refl
  where
    good : Successor
    good = answered s side h body v

    sent : Deed
    sent = deed_of (is_sent s.phase h.kind (destination side v)) v

    by_check : (r : Result (Unit {0}) Code) → first_reported (im_answered good s side r).effects ≡ Notes.Frame head deed →
        (head ≡ h) × (deed ≡ sent) × ((im_answered good s side r).state ≡ good.state)
    by_check (Ok fine) t = let p = frame_parts h head sent deed t in (p.0, p.1, refl)
    by_check (Err code) t = absurd (cc)

    by_kind : (k : Bool) → is_im h.kind ≡ k → IsWholeTold s side h body v head deed
    by_kind true k =
        let p = by_check (im_of body) (rw k at e) in
        record { same_head = p.0; same_deed = p.1; state = rw k p.2 }
    by_kind false k =
        let p = frame_parts h head sent deed (rw k at e) in
        record { same_head = p.0; same_deed = p.1; state = rw k refl }

answered_noted : (s : SessionState) (side : Side) (h : Head) (body : List ℕ) (v : Verdict) →
    (coming (answered s side h body v).state side).noted ≡ (coming s side).noted
answered_noted s Bot h body v = refl
answered_noted s Server h body v = refl

pending_noted : (s : SessionState) (side : Side) (bytes : List ℕ) →
    (coming (with_pending s side bytes) side).noted ≡ (coming s side).noted
pending_noted s Bot bytes = refl
pending_noted s Server bytes = refl

noted_noted : (s : SessionState) (side : Side) (level : Level) → (coming (with_noted s side level) side).noted ≡ level
noted_noted s Bot level = refl
noted_noted s Server level = refl

pending_level : (s : SessionState) (side : Side) (bytes : List ℕ) → level_in (with_pending s side bytes).phase ≡ (level_in s.phase)
pending_level s Bot bytes = refl
pending_level s Server bytes = refl

noted_phase : (s : SessionState) (side : Side) (level : Level) → (with_noted s side level).phase ≡ s.phase
noted_phase s Bot level = refl
noted_phase s Server level = refl

module _ (before : SessionState) (side : Side) (bytes : List ℕ) (v : Verdict) (after : SessionState) (move : Effect)
    (head : Head) (deed : Deed) (reported : move.reported ≡ Notes.Frame head deed) (live : is_over before.phase ≡ false) where
  abbrev next : SessionState
  next = with_pending before side bytes

  next_live : is_over next.phase ≡ false
  next_live = ap is_over (pending_phase before side bytes) ∙ live

  -- the outcome of a complete frame
  of_whole : (s : SessionState) (h : Head) (level : Level) (body : List ℕ) → (coming s side).noted ≡ level →
      body ≡ drop 4 bytes →
      ◌≡◌ {A = Successor} (record { state = (frame_outcome s side h body v).state; effects = (frame_outcome s side h body v).effects ++ [] })
      (record { state = after; effects = move ∷ [] }) →
      IsWholeFrame before.limits.cap h body →
      IsCorrectVerdict before.limits.words before.limits.max_depth (question_of side level h body) v →
      IsAsked before side bytes (question_of side level h body) (coming after side).noted head deed
  of_whole s h level body noted same e w right =
      let effects : (frame_outcome s side h body v).effects ≡ move ∷ [] =
      sym (append-nil (frame_outcome s side h body v).effects) ∙ ap (λ (o : Successor). o.effects) e in
      let state : (frame_outcome s side h body v).state ≡ after = ap (λ (o : Successor). o.state) e in
      let t = whole_reported s side h body v head deed (ap first_reported effects ∙ reported) in
      let level_is : level ≡ (coming after side).noted =
      sym noted ∙ sym (answered_noted s side h body v)
      ∙ ap (λ (m : SessionState). (coming m side).noted) (sym t.state ∙ state) in
      subst (λ (b : List ℕ). IsAsked before side bytes (question_of side level h b) (coming after side).noted head deed)
      (sym same)
      (subst (λ (x : Head). IsAsked before side bytes (question_of side level h (drop 4 bytes)) (coming after side).noted x
      deed) (sym t.same_head)
      (subst (λ (l : Level). IsAsked before side bytes (question_of side level h (drop 4 bytes)) l h deed) level_is
      (fate before side bytes h level v s.phase (destination side v) deed
      (subst (IsWholeFrame before.limits.cap h) same w)
      (subst (λ (b : List ℕ). IsCorrectVerdict before.limits.words before.limits.max_depth (question_of side level h b) v) same right)
      t.same_deed)))

  by_items : (rest : List ℕ) (items : List FrameEvent) → Framed before.limits.cap rest items → rest ≡ drop 4 bytes →
      ◌≡◌ {A = Successor} (items_outcome next side items v) (record { state = after; effects = move ∷ [] }) →
      IsCorrectVerdict before.limits.words before.limits.max_depth (asked_by before side items) v →
      IsAsked before side bytes (asked_by before side items) (coming after side).noted head deed
  by_items rest _ Framed.quiet same e right =
      let none : Notes.Nothing ≡ Notes.Frame head deed = ap (λ (o : Successor). first_reported o.effects) e ∙ reported in
      absurd (cc)
  by_items rest _ (Framed.wrong code) same e right =
      let h = rw next_live at e in
      let none : Notes.Fault code ≡ Notes.Frame head deed = ap (λ (o : Successor). first_reported o.effects) h ∙ reported in
      absurd (cc)
  by_items rest _ (Framed.headed h) same e right = absurd (go (untimely next.phase side h.kind) (rw next_live at e))
    where
      go : (o : Option Code) →
          ◌≡◌ {A = Successor} (record {
            state = (items_outcome (header_outcome next side o).state side [] v).state;
            effects = (header_outcome next side o).effects ++ (items_outcome (header_outcome next side o).state side [] v).effects;
          })
          (record { state = after; effects = move ∷ [] }) → ⊥
      go None e =
          let none : Notes.Nothing ≡ Notes.Frame head deed = ap (λ (o : Successor). first_reported o.effects) e ∙ reported in
          absurd (cc)
      go (Some code) e =
          let none : Notes.Fault code ≡ Notes.Frame head deed = ap (λ (o : Successor). first_reported o.effects) e ∙ reported in
          absurd (cc)
  by_items rest _ (Framed.whole h w) same e right =
      of_whole next h (coming before side).noted rest (pending_noted before side bytes) same (rw next_live at e) w right
  by_items rest _ (Framed.at_once h w nil) same e right =
      go (untimely before.phase side h.kind)
      (subst (λ (p : SessionPhase).
      ◌≡◌ {A = Successor}
      (record {
        state = (items_outcome (header_outcome next side (untimely p side h.kind)).state side (Whole h [] ∷ []) v).state;
        effects = (header_outcome next side (untimely p side h.kind)).effects
            ++ (items_outcome (header_outcome next side (untimely p side h.kind)).state side (Whole h [] ∷ []) v).effects;
      })
      (record { state = after; effects = move ∷ [] })) (pending_phase before side bytes) (rw next_live at e)) right
    where
      go : (o : Option Code) →
          ◌≡◌ {A = Successor} (record {
            state = (items_outcome (header_outcome next side o).state side (Whole h [] ∷ []) v).state;
            effects = (header_outcome next side o).effects
                ++ (items_outcome (header_outcome next side o).state side (Whole h [] ∷ []) v).effects;
          })
          (record { state = after; effects = move ∷ [] }) →
          IsCorrectVerdict before.limits.words before.limits.max_depth
          (cond (is_some o) None (question_of side (level_in before.phase) h [])) v →
          IsAsked before side bytes (cond (is_some o) None (question_of side (level_in before.phase) h [])) (coming after side).noted
          head deed
      go None e right =
          of_whole (with_noted next side (level_in next.phase)) h (level_in before.phase) []
          (noted_noted next side (level_in next.phase) ∙ pending_level before side bytes) (sym nil ∙ same)
          (let k = rw (ap is_over (noted_phase next side (level_in next.phase)) ∙ next_live) at e in k) w right
      go (Some code) e right =
          let none : Notes.Fault code ≡ Notes.Frame head deed = ap (λ (o : Successor). first_reported o.effects) e ∙ reported in
          absurd (cc)

pub frame_asked : (before after : SessionState) (side : Side) (byte : ℕ) (move : Effect) (head : Head) (deed : Deed) →
    Transition before (Comes side byte) (move ∷ []) after → move.reported ≡ Notes.Frame head deed →
    IsAsked before side ((coming before side).pending ++ byte ∷ []) (question before (Comes side byte))
    (coming after side).noted head deed
frame_asked before after side byte move head deed step reported = by_phase (is_over before.phase) refl
  where
    bytes : List ℕ
    bytes = (coming before side).pending ++ byte ∷ []

    by_phase : (o : Bool) → is_over before.phase ≡ o →
        IsAsked before side bytes (question before (Comes side byte)) (coming after side).noted head deed
    by_phase true over =
        let h = rw over at step.outcome in
        absurd (some_move move (sym (ap (λ (o : Successor). o.effects) h)))
    by_phase false live =
        rw live (by_items before side bytes step.verdict after move head deed reported live (drop 4 bytes)
        (last_items before.limits.cap bytes) (framed before.limits.cap bytes) refl
        (let h = rw live at step.outcome in h)
        (let r = rw live at step.right in r))

-- ---- what the session still holds

kept_by : (head : Head) (v : Verdict) (bytes : List ℕ) → frame_bytes_after (Notes.Frame head (deed_of true v)) bytes ≡ bytes
kept_by head Relay bytes = refl
kept_by head Prn bytes = refl
kept_by head (Huh place) bytes = refl

end_reported : (old : SessionState) (side : Side) (move : Effect) (new : SessionState) →
    Runs old (Ends side ∷ []) (move ∷ []) new → move.reported ≡ Notes.Nothing
end_reported old side move new run = by_phase (is_over old.phase) refl
  where
    effects : (event_outcome old (Ends side) run.3.verdict).effects ≡ move ∷ []
    effects = ap (λ (o : Successor). o.effects) run.3.outcome ∙ sym (append-nil run.1)
        ∙ ap (λ (m : List Effect). run.1 ++ m) (sym run.4.0) ∙ sym run.5

    by_phase : (o : Bool) → is_over old.phase ≡ o → move.reported ≡ Notes.Nothing
    by_phase true over = absurd (some_move move (sym (let h = rw over at effects in h)))
    by_phase false live = sym (ap first_reported (let h = rw live at effects in h))

timer_reported : (old : SessionState) (move : Effect) (new : SessionState) (head : Head) (deed : Deed) →
    Runs old (ImTimerExpired ∷ []) (move ∷ []) new → move.reported ≡ Notes.Frame head deed → ⊥
timer_reported old move new head deed run reported = by_phase old.phase effects
  where
    effects : (im_timer_expired old.phase old).effects ≡ move ∷ []
    effects = ap (λ (o : Successor). o.effects) run.3.outcome ∙ sym (append-nil run.1)
        ∙ ap (λ (m : List Effect). run.1 ++ m) (sym run.4.0) ∙ sym run.5

    by_phase : (p : SessionPhase) → (im_timer_expired p old).effects ≡ move ∷ [] → ⊥
    by_phase WaitIm e =
        let none : Notes.Fault ImTimeout ≡ Notes.Frame head deed = ap first_reported e ∙ reported in absurd (cc)
    by_phase WaitRm e = some_move move (sym e)
    by_phase (Open level) e = some_move move (sym e)
    by_phase (Over ending) e = some_move move (sym e)

module _ (config : Config) (words : List Word) (old : SessionView) (side : Side) (new : SessionView)
    (under : IsUnder config words new) where
  limits_before : (events : List Event) (moves : List Effect) (piece : List ℕ) (before : SessionState) →
      Runs old.state events moves new.state → Runs old.state (bytes_come side piece) [] before →
      before.limits ≡ limits_with config words
  limits_before events moves piece before run first =
      runs_limits (bytes_come side piece) old.state before [] first
      ∙ sym (runs_limits events old.state new.state moves run) ∙ under.limits

  -- a held message was judged correctly
  pub rightly_reported : (events : List Event) (reported : Note) → IsMade old events side reported new →
      IsRightlyReported words config side reported new
  rightly_reported events Notes.Nothing made = tt
  rightly_reported events (Notes.Fault code) made = tt
  rightly_reported events Notes.Stopped made = tt
  rightly_reported events (Notes.Frame head deed) made = by_cause made.caused
    where
      of_fate : (k : Bool) (before after : SessionState) (bytes : List ℕ) (q : Option Question) →
          before.limits ≡ limits_with config words → after ≡ new.state →
          (holding new side).frame_bytes ≡ frame_bytes_after (Notes.Frame head deed) bytes →
          MatchBool k (IsFate before side bytes q (coming after side).noted deed) (q ≡ None) →
          MatchBool k (IsRightFate words config side deed new) ⊤
      of_fate false before after bytes q limits same frame_bytes h = tt
      of_fate true before after bytes q limits same frame_bytes h =
          let frame_outcome : bytes ≡ (holding new side).frame_bytes =
          sym (frame_bytes ∙ ap (λ (d : Deed). frame_bytes_after (Notes.Frame head d) bytes) h.made ∙ kept_by head h.by bytes) in
          let verdict = subst (λ (l : Limits). HasVerdict (IsMessageOver l.words (side2_of side) (coming after side).noted)
          l.max_depth (tokens_of (drop 4 bytes)) (verdict_by deed)) limits h.verdict in
          let level = ap (λ (s : SessionState). (coming s side).noted) same in
          let right = subst (λ (b : List ℕ). HasVerdict (IsMessageOver (grammar_words words) (side2_of side)
          (coming new.state side).noted) config.max_depth (tokens_of (drop 4 b)) (verdict_by deed)) frame_outcome
          (subst (λ (l : Level). HasVerdict (IsMessageOver (grammar_words words) (side2_of side) l)
          config.max_depth (tokens_of (drop 4 bytes)) (verdict_by deed)) level verdict) in
          record {
            accepted = under.accepted;
            ruled = record {
              low = (depth_within config under.accepted).0;
              high = (depth_within config under.accepted).1;
              capped = omega (
                arith,
                h.capped,
                ap (λ (l : Limits). l.cap) limits,
                body_within config under.accepted,
                ap (λ (b : List ℕ). length (drop 4 b)) frame_outcome,
              );
              even = ap (λ (b : List ℕ). length (drop 4 b) % 2) (sym frame_outcome) ∙ h.even;
            };
            within = place_in (IsMessageOver (grammar_words words) (side2_of side) (coming new.state side).noted)
                config.max_depth (drop 4 (holding new side).frame_bytes) (verdict_by deed) right;
            verdict = right;
          }

      by_cause : IsCaused old events side (Notes.Frame head deed) new →
          MatchBool (is_dm head.kind) (IsRightFate words config side deed new) ⊤
      by_cause (IsCaused.by_bytes piece e room tied takes) =
          let run = subst (λ (es : List Event). Runs old.state es (made.move ∷ []) new.state) e made.run in
          let f = move_found piece old.state side made.move new.state (room_is_missing old side (length piece) room) run in
          of_fate (is_dm head.kind) f.before f.after ((coming f.before side).pending ++ f.byte ∷ [])
          (question f.before (Comes side f.byte)) (limits_before (bytes_come side piece) (made.move ∷ []) f.front f.before run f.first)
          (sym f.last)
          (takes.bytes ∙ ap (frame_bytes_after (Notes.Frame head deed))
          (ap (λ (b : List ℕ). fed old.state.limits.cap b piece) tied ∙ f.frame_bytes))
          (frame_asked f.before f.after side f.byte made.move head deed f.step made.same)
      by_cause (IsCaused.by_end e) =
          let none : Notes.Nothing ≡ Notes.Frame head deed =
          sym (end_reported old.state side made.move new.state
          (subst (λ (es : List Event). Runs old.state es (made.move ∷ []) new.state) e made.run)) ∙ made.same in
          absurd (cc)
      by_cause (IsCaused.by_timer e bot frame_bytes) =
          absurd (timer_reported old.state made.move new.state head deed
          (subst (λ (es : List Event). Runs old.state es (made.move ∷ []) new.state) e made.run) made.same)
      by_cause (IsCaused.by_stop e is) = absurd (cc)

  -- ---- the entries of a move

  abbrev shown_as : ReportKey → Effect → List ℕ → Level → List ExplainedEntry
  shown_as source move lines announced =
      Moved (record { source = source; side = side; reported = move.reported }) (indented lines) announced ∷ []

  -- the level that the server announced by then, at the event that caused the move
  abbrev level_at : List Level → ReportKey → SessionState → Event → Effect → Level
  level_at levels source before event move =
      announced_after move.reported (question before event) (level_announced levels source)

  -- a move that one byte of a piece caused
  shown_by_bytes : (levels : List Level) (source : ReportKey) (piece : List ℕ) (move : Effect) (lines : List ℕ) →
      (f : Found old.state side piece move new.state) →
      ExplainsMove words (level_announced levels source) side f.before (Comes side f.byte) move.reported lines →
      AreShownBy words levels source side old.state (bytes_come side piece) (move ∷ []) new.state
      (shown_as source move lines (level_at levels source f.before (Comes side f.byte) move))
  shown_by_bytes levels source piece move lines f are =
      let shown = shown_as source move lines (level_at levels source f.before (Comes side f.byte) move) in
      subst (λ (p : List ℕ). AreShownBy words levels source side old.state (bytes_come side p) (move ∷ []) new.state shown)
      (sym f.whole)
      (subst (λ (es : List Event). AreShownBy words levels source side old.state es (move ∷ []) new.state shown)
      (sym (bytes_come-append side f.front (f.byte ∷ f.back)))
      (in_a_row words source side levels old.state f.before new.state (bytes_come side f.front)
      (Comes side f.byte ∷ bytes_come side f.back) [] (move ∷ []) [] shown
      (silent words source side levels old.state f.before (bytes_come side f.front) f.first) (
        f.after,
        move ∷ [],
        [],
        shown,
        [],
        f.step,
        (lines, [], are, refl, refl),
        silent words source side (announced_levels levels shown) f.after new.state (bytes_come side f.back) f.rest,
        refl,
        refl,
      )))

  -- or one single event
  shown_by_one : (levels : List Level) (source : ReportKey) (event : Event) (move : Effect) (lines : List ℕ) →
      Runs old.state (event ∷ []) (move ∷ []) new.state →
      ExplainsMove words (level_announced levels source) side old.state event move.reported lines →
      AreShownBy words levels source side old.state (event ∷ []) (move ∷ []) new.state
      (shown_as source move lines (level_at levels source old.state event move))
  shown_by_one levels source event move lines run are =
      let only : run.1 ≡ move ∷ [] =
      sym (append-nil run.1) ∙ ap (λ (m : List Effect). run.1 ++ m) (sym run.4.0) ∙ sym run.5 in (
        run.0,
        move ∷ [],
        [],
        shown_as source move lines (level_at levels source old.state event move),
        [],
        subst (λ (m : List Effect). Transition old.state event m run.0) only run.3,
        (lines, [], are, refl, refl),
        (refl, run.4.1, refl),
        refl,
        refl,
      )

  text_as : (source : ReportKey) (move : Effect) (reported : Note) (lines : List ℕ) (announced : Level) →
      move.reported ≡ reported →
      texts_of shown_text (shown_as source move lines announced) ≡ move_line source side reported ++ indented lines
  text_as source move reported lines announced e =
      append-nil (move_line source side move.reported ++ indented lines)
      ∙ ap (λ (n : Note). move_line source side n ++ indented lines) e

  -- the lines for a held frame are the ones that follow its move
  pub reported_with : (levels : List Level) (events : List Event) (reported : Note) (lines : List ℕ) (source : ReportKey) →
      (made : IsMade old events side reported new) →
      AreLinesBy words (limits_with config words) (level_announced levels source) side reported new lines →
      (entries : List ExplainedEntry) × AreShownBy words levels source side old.state events (made.move ∷ []) new.state entries
      × (texts_of shown_text entries ≡ move_line source side reported ++ indented lines)
      × ((before : Summary) → counted_over shown_counted entries before ≡ count_note reported before)
      × (announced_levels levels entries ≡ slice_set levels (place_of_session source.session)
      (announced_by_held side reported new (level_announced levels source)))
  reported_with levels events reported lines source made are = (
    shown_as source made.move lines heard,
    by_cause made.caused,
    text_as source made.move reported lines heard made.same,
    (λ before. ap (λ (n : Note). count_note n before) made.same),
    refl,
  )
    where
      level : Level
      level = level_announced levels source

      heard : Level
      heard = announced_by_held side reported new level

      of_asked : (k : Bool) (head : Head) (deed : Deed) (before after : SessionState) (event : Event) →
          is_dm head.kind ≡ k →
          before.limits ≡ limits_with config words → after ≡ new.state →
          (holding new side).frame_bytes ≡ frame_bytes_after (Notes.Frame head deed) (bytes_at before side event) →
          MatchBool k (IsFate before side (bytes_at before side event) (question before event) (coming after side).noted deed)
          (question before event ≡ None) →
          MatchBool k (AreMessageLines words (side2_of side) (coming new.state side).noted
          (capped_from (limits_with config words).top_level level (coming new.state side).noted) config.max_depth
          (drop 4 (holding new side).frame_bytes) (verdict_by deed) lines) (lines ≡ []) →
          ExplainsMove words level side before event (Notes.Frame head deed) lines
      of_asked false head deed before after event k limits same frame_bytes h l =
          subst (λ (q : Option Question). ExplainsFrame words before.limits level q
          (drop 4 (bytes_at before side event)) deed lines) (sym h) l
      of_asked true head deed before after event k limits same frame_bytes h l =
          let bytes = bytes_at before side event in
          let frame_outcome : (holding new side).frame_bytes ≡ bytes =
          frame_bytes ∙ ap (λ (d : Deed). frame_bytes_after (Notes.Frame head d) bytes) h.made ∙ kept_by head h.by bytes in
          subst (λ (q : Option Question). ExplainsFrame words before.limits level q (drop 4 bytes) deed lines)
          (sym h.asked) (
            refl,
            subst (λ (m : Limits). AreMessageLines words (side2_of side) (coming after side).noted
                (capped_from m.top_level level (coming after side).noted) m.max_depth (drop 4 bytes) (verdict_by deed) lines)
                (sym limits)
                (subst (λ (s : SessionState). AreMessageLines words (side2_of side) (coming s side).noted
                (capped_from (limits_with config words).top_level level (coming s side).noted) config.max_depth
                (drop 4 bytes) (verdict_by deed) lines) (sym same)
                (subst (λ (b : List ℕ). AreMessageLines words (side2_of side) (coming new.state side).noted
                (capped_from (limits_with config words).top_level level (coming new.state side).noted) config.max_depth
                (drop 4 b) (verdict_by deed) lines) frame_outcome l)),
          )

      -- the level that the held frame announces is the one that the judged message announces
      heard_asked : (k : Bool) (head : Head) (deed : Deed) (before after : SessionState) (event : Event) →
          (holding new side).frame_bytes ≡ frame_bytes_after (Notes.Frame head deed) (bytes_at before side event) →
          MatchBool k (IsFate before side (bytes_at before side event) (question before event) (coming after side).noted deed)
          (question before event ≡ None) →
          announced_at (question before event) (verdict_by deed) level
          ≡ cond k (announced_if (verdict_by deed) side (tokens_of (drop 4 (holding new side).frame_bytes)) level) level
      heard_asked false head deed before after event frame_bytes h =
          ap (λ (q : Option Question). announced_at q (verdict_by deed) level) h
      heard_asked true head deed before after event frame_bytes h =
          let bytes = bytes_at before side event in
          let frame_outcome : (holding new side).frame_bytes ≡ bytes =
          frame_bytes ∙ ap (λ (d : Deed). frame_bytes_after (Notes.Frame head d) bytes) h.made ∙ kept_by head h.by bytes in
          ap (λ (q : Option Question). announced_at q (verdict_by deed) level) h.asked
          ∙ ap (λ (b : List ℕ). announced_if (verdict_by deed) side (tokens_of (drop 4 b)) level) (sym frame_outcome)

      Run : List Event → Type 0
      Run es = Runs old.state es (made.move ∷ []) new.state

      of_bytes : (note : Note) (piece : List ℕ) (f : Found old.state side piece made.move new.state) → made.move.reported ≡ note →
          Runs old.state (bytes_come side piece) (made.move ∷ []) new.state →
          (holding new side).frame_bytes ≡ frame_bytes_after note ((coming f.before side).pending ++ f.byte ∷ []) →
          AreLinesBy words (limits_with config words) level side note new lines →
          ExplainsMove words level side f.before (Comes side f.byte) note lines
      of_bytes Notes.Nothing piece f e run frame_bytes l = l
      of_bytes (Notes.Fault code) piece f e run frame_bytes l =
          let same = limits_before (bytes_come side piece) (made.move ∷ []) f.front f.before run f.first in
          l ∙ ap (λ (b : List ℕ). fault_lines new.state.limits.cap code b) frame_bytes
          ∙ ap (λ (m : Limits). fault_lines m.cap code ((coming f.before side).pending ++ f.byte ∷ []))
          (under.limits ∙ sym same)
      of_bytes Notes.Stopped piece f e run frame_bytes l = l
      of_bytes (Notes.Frame head deed) piece f e run frame_bytes l =
          of_asked (is_dm head.kind) head deed f.before f.after (Comes side f.byte) refl
          (limits_before (bytes_come side piece) (made.move ∷ []) f.front f.before run f.first) (sym f.last) frame_bytes
          (frame_asked f.before f.after side f.byte made.move head deed f.step e) l

      heard_of_bytes : (note : Note) (piece : List ℕ) (f : Found old.state side piece made.move new.state) →
          made.move.reported ≡ note →
          (holding new side).frame_bytes ≡ frame_bytes_after note ((coming f.before side).pending ++ f.byte ∷ []) →
          announced_after note (question f.before (Comes side f.byte)) level ≡ announced_by_held side note new level
      heard_of_bytes Notes.Nothing piece f e frame_bytes = refl
      heard_of_bytes (Notes.Fault code) piece f e frame_bytes = refl
      heard_of_bytes Notes.Stopped piece f e frame_bytes = refl
      heard_of_bytes (Notes.Frame head deed) piece f e frame_bytes =
          heard_asked (is_dm head.kind) head deed f.before f.after (Comes side f.byte) frame_bytes
          (frame_asked f.before f.after side f.byte made.move head deed f.step e)

      of_timer : (note : Note) → made.move.reported ≡ note → Runs old.state (ImTimerExpired ∷ []) (made.move ∷ []) new.state →
          (holding new side).frame_bytes ≡ (coming old.state side).pending →
          AreLinesBy words (limits_with config words) level side note new lines →
          ExplainsMove words level side old.state ImTimerExpired note lines
      of_timer Notes.Nothing e run frame_bytes l = l
      of_timer (Notes.Fault code) e run frame_bytes l =
          l ∙ ap (λ (b : List ℕ). fault_lines new.state.limits.cap code b) frame_bytes
          ∙ ap (λ (m : Limits). fault_lines m.cap code (coming old.state side).pending)
          (runs_limits (ImTimerExpired ∷ []) old.state new.state (made.move ∷ []) run)
      of_timer Notes.Stopped e run frame_bytes l = l
      of_timer (Notes.Frame head deed) e run frame_bytes l =
          absurd (timer_reported old.state made.move new.state head deed run e)

      of_end : (note : Note) → made.move.reported ≡ note → Runs old.state (Ends side ∷ []) (made.move ∷ []) new.state →
          AreLinesBy words (limits_with config words) level side note new lines →
          ExplainsMove words level side old.state (Ends side) note lines
      of_end Notes.Nothing e run l = l
      of_end Notes.Stopped e run l = l
      of_end (Notes.Fault code) e run l =
          let none : Notes.Nothing ≡ Notes.Fault code = sym (end_reported old.state side made.move new.state run) ∙ e in
          absurd (cc)
      of_end (Notes.Frame head deed) e run l =
          let none : Notes.Nothing ≡ Notes.Frame head deed = sym (end_reported old.state side made.move new.state run) ∙ e in
          absurd (cc)

      of_stop : (note : Note) → note ≡ Notes.Stopped → AreLinesBy words (limits_with config words) level side note new lines →
          ExplainsMove words level side old.state OperatorStops note lines
      of_stop Notes.Nothing e l = absurd (cc)
      of_stop Notes.Stopped e l = l
      of_stop (Notes.Fault code) e l = absurd (cc)
      of_stop (Notes.Frame head deed) e l = absurd (cc)

      -- an event without bytes judges no message
      heard_of_one : (note : Note) (event : Event) → question old.state event ≡ None →
          ((head : Head) (deed : Deed) → note ≡ Notes.Frame head deed → ⊥) →
          announced_after note (question old.state event) level ≡ announced_by_held side note new level
      heard_of_one Notes.Nothing event none other = refl
      heard_of_one (Notes.Fault code) event none other = refl
      heard_of_one Notes.Stopped event none other = refl
      heard_of_one (Notes.Frame head deed) event none other = absurd (other head deed refl)

      own : (event : Event) (state : SessionState) → ExplainsMove words level side state event reported lines →
          ExplainsMove words level side state event made.move.reported lines
      own event state l = subst (λ (n : Note). ExplainsMove words level side state event n lines) (sym made.same) l

      -- the entry has the level that the held frame announces
      as_heard : (es : List Event) (before : SessionState) (event : Event) →
          announced_after reported (question before event) level ≡ heard →
          AreShownBy words levels source side old.state es (made.move ∷ []) new.state
          (shown_as source made.move lines (level_at levels source before event made.move)) →
          AreShownBy words levels source side old.state es (made.move ∷ []) new.state (shown_as source made.move lines heard)
      as_heard es before event e h =
          subst (λ (l : Level). AreShownBy words levels source side old.state es (made.move ∷ []) new.state
          (shown_as source made.move lines l))
          (ap (λ (n : Note). announced_after n (question before event) level) made.same ∙ e) h

      by_cause : IsCaused old events side reported new →
          AreShownBy words levels source side old.state events (made.move ∷ []) new.state (shown_as source made.move lines heard)
      by_cause (IsCaused.by_bytes piece e room tied takes) =
          let run = subst Run e made.run in
          let f = move_found piece old.state side made.move new.state (room_is_missing old side (length piece) room) run in
          let frame_bytes = takes.bytes ∙ ap (frame_bytes_after reported) (ap (λ (b : List ℕ). fed old.state.limits.cap b piece) tied ∙ f.frame_bytes) in
          subst (λ (es : List Event). AreShownBy words levels source side old.state es (made.move ∷ []) new.state
          (shown_as source made.move lines heard)) (sym e)
          (as_heard (bytes_come side piece) f.before (Comes side f.byte) (heard_of_bytes reported piece f made.same frame_bytes)
          (shown_by_bytes levels source piece made.move lines f
          (own (Comes side f.byte) f.before (of_bytes reported piece f made.same run frame_bytes are))))
      by_cause (IsCaused.by_end e) =
          let run = subst Run e made.run in
          let is = end_reported old.state side made.move new.state run in
          subst (λ (es : List Event). AreShownBy words levels source side old.state es (made.move ∷ []) new.state
          (shown_as source made.move lines heard)) (sym e)
          (as_heard (Ends side ∷ []) old.state (Ends side)
          (heard_of_one reported (Ends side) refl
          (λ head deed same. let none : Notes.Nothing ≡ Notes.Frame head deed = sym is ∙ made.same ∙ same in absurd (cc)))
          (shown_by_one levels source (Ends side) made.move lines run
          (own (Ends side) old.state (of_end reported made.same run are))))
      by_cause (IsCaused.by_timer e bot frame_bytes) =
          let run = subst Run e made.run in
          subst (λ (es : List Event). AreShownBy words levels source side old.state es (made.move ∷ []) new.state
          (shown_as source made.move lines heard)) (sym e)
          (as_heard (ImTimerExpired ∷ []) old.state ImTimerExpired
          (heard_of_one reported ImTimerExpired refl
          (λ head deed same. timer_reported old.state made.move new.state head deed run (made.same ∙ same)))
          (shown_by_one levels source ImTimerExpired made.move lines run
          (own ImTimerExpired old.state (of_timer reported made.same run frame_bytes are))))
      by_cause (IsCaused.by_stop e is) =
          let run = subst Run e made.run in
          subst (λ (es : List Event). AreShownBy words levels source side old.state es (made.move ∷ []) new.state
          (shown_as source made.move lines heard)) (sym e)
          (as_heard (OperatorStops ∷ []) old.state OperatorStops
          (heard_of_one reported OperatorStops refl
          (λ head deed same. let none : Notes.Stopped ≡ Notes.Frame head deed = sym is ∙ same in absurd (cc)))
          (shown_by_one levels source OperatorStops made.move lines run
          (own OperatorStops old.state (of_stop reported is are))))
