-- A session's moves at the lines of a log.
use Rattle.std.proofs.Common.{◌||◌}
use Rattle.daide_log.proofs.Common.{◌≡◌, ℕ, ◌+◌, ◌<◌, ◌≤◌, Bool, true, false, List, [], ◌∷◌, ◌++◌, length, Option, Some}
use Rattle.daide_log.proofs.Common.{None, refl, sym, ap, ◌∙◌, subst, arith, length-append, append-nil, append_assoc}
use Rattle.daide_log.proofs.Common.{◌⊎◌, inl, inr, cond, Appends, Side, Bot, Server, Note, Event, Ends, ImTimerExpired}
use Rattle.daide_log.proofs.Common.{OperatorStops, bytes_come, SessionState, Effect, Successor, Runs, coming, fm_to}
use Rattle.daide_log.proofs.Common.{is_over, event_outcome, SessionView, holding, note_of, over_stays, ReportKey}
use Rattle.daide_log.proofs.Common.{Summary, count_note, HasRoom, IsMoreBy, Word, Config, runs_limits, ReportForm}
use Rattle.daide_log.proofs.Common.{IsWritableForm, move_line, texts_of, counted_over, no_more, more_by, more_then}
use Rattle.daide_log.proofs.Common.{less_room, IsIdle, IsOneEffect, ReportsEvents, IsReady, Moves}
use Rattle.daide_frame.specs.Frames.{missing}
use Rattle.daide_protocol.specs.declared.note.Note.TheVariants as Notes
use Rattle.daide_frame.specs.Side.{other}
use Rattle.daide_protocol.specs.Machine.{Sent}
use Rattle.daide_protocol.specs.Wires.{Refines, ReceivesBytes, Holding, HoldsTheSame, sent_to, queued, room_of}
use Rattle.daide_protocol.specs.Wires.{is_awaited, note_or}
use Rattle.daide_protocol.proofs.OneRun.{runs_join}
use Rattle.daide_protocol.proofs.WireLemmas.{bytes_come-append}
use Rattle.daide_log_lines.specs.declared.event_line.ParsedEvent.{ParsedEvent}
use Rattle.daide_log_lines.specs.declared.event_line.ParsedEvent.TheVariants as ParsedEvents
use Rattle.daide_protocol.proofs.GrowthLemmas.{room_after}
use Rattle.daide_log.specs.Reporting.{ReportsMove, IsMade, IsUnder, IsBare, IsCaused, note_of_move}
use Rattle.daide_log.proofs.OneMove.{one_move_a_piece, one_move_a_timer, one_move_a_stop}

-- ---- one piece

pub room_is_missing : (g : SessionView) (side : Side) (n : ℕ) → n ≤ room_of g side →
    n ≤ missing g.state.limits.cap (coming g.state side).pending
unfolding room_of
room_is_missing g side n h = go (is_over g.state.phase) (is_awaited (queued g) side) h
  where
    go : (a b : Bool) → n ≤ cond (a || b) 0 (missing g.state.limits.cap (coming g.state side).pending) →
        n ≤ missing g.state.limits.cap (coming g.state side).pending
    go true b h = omega arith
    go false true h = omega arith
    go false false h = h

no_move : (effects : List Effect) (reported : Note) → IsOneEffect effects reported → reported ≡ Notes.Nothing → effects ≡ []
no_move [] reported one e = refl
no_move (move ∷ []) reported one e = absurd (one.1 e)
no_move (move ∷ another ∷ moves) reported one e = absurd one

-- without a move nothing is queued
pub idle_still : (old new : SessionView) (side : Side) (piece : List ℕ) (reported : Note) → length piece ≤ room_of old side →
    Refines old (bytes_come side piece) reported new → IsIdle old → reported ≡ Notes.Nothing → IsIdle new
idle_still old new side piece reported room g idle e =
    let few = room_is_missing old side (length piece) room in
    let one = one_move_a_piece piece old.state side g.effects new.state few g.run in
    let none : g.effects ≡ [] = no_move g.effects reported (subst (IsOneEffect g.effects) (sym g.note) one) e in
    record {
      bot = g.kept Bot ∙ ap (λ (moves : List Effect). queued old Bot ++ sent_to Bot moves) none
          ∙ ap (λ (l : List Sent). l ++ []) idle.bot;
      server = g.kept Server ∙ ap (λ (moves : List Effect). queued old Server ++ sent_to Server moves) none
          ∙ ap (λ (l : List Sent). l ++ []) idle.server;
    }

-- a move with a note is the only one
pub record IsOnly (effects : List Effect) (reported : Note) : Type 0 where
  pub move : Effect
  pub only : effects ≡ move ∷ []
  pub same : move.reported ≡ reported

pub only_one : (effects : List Effect) (reported : Note) → IsOneEffect effects reported → (reported ≡ Notes.Nothing → ⊥) →
    IsOnly effects reported
only_one [] reported one some = absurd (some one)
only_one (move ∷ []) reported one some = record { move = move; only = refl; same = one.0 }
only_one (move ∷ another ∷ moves) reported one some = absurd one

-- bytes that cause a move
pub piece_made : (old new : SessionView) (side : Side) (piece : List ℕ) (reported : Note) → length piece ≤ room_of old side →
    (holding old side).frame_bytes ≡ (coming old.state side).pending → Refines old (bytes_come side piece) reported new →
    ReceivesBytes old side piece reported new → (reported ≡ Notes.Nothing → ⊥) → IsMade old (bytes_come side piece) side reported new
piece_made old new side piece reported room tied g takes some =
    let few = room_is_missing old side (length piece) room in
    let one = subst (IsOneEffect g.effects) (sym g.note)
    (one_move_a_piece piece old.state side g.effects new.state few g.run) in
    let only = only_one g.effects reported one some in
    record {
      move = only.move;
      run = subst (λ (moves : List Effect). Runs old.state (bytes_come side piece) moves new.state) only.only g.run;
      same = only.same;
      caused = IsCaused.by_bytes piece refl room tied takes;
    }

-- bytes that cause none
pub piece_silent : (old new : SessionView) (side : Side) (piece : List ℕ) (reported : Note) → length piece ≤ room_of old side →
    Refines old (bytes_come side piece) reported new → reported ≡ Notes.Nothing → Runs old.state (bytes_come side piece) [] new.state
piece_silent old new side piece reported room g e =
    let few = room_is_missing old side (length piece) room in
    let one = one_move_a_piece piece old.state side g.effects new.state few g.run in
    subst (λ (moves : List Effect). Runs old.state (bytes_come side piece) moves new.state)
    (no_move g.effects reported (subst (IsOneEffect g.effects) (sym g.note) one) e) g.run

-- the timer
pub timer_made : (old new : SessionView) (reported : Note) → (holding old Bot).frame_bytes ≡ (coming old.state Bot).pending →
    Refines old (ImTimerExpired ∷ []) reported new → HoldsTheSame old new → (reported ≡ Notes.Nothing → ⊥) →
    IsMade old (ImTimerExpired ∷ []) Bot reported new
timer_made old new reported tied g holds some =
    let one = subst (IsOneEffect g.effects) (sym g.note) (one_move_a_timer old.state g.effects new.state g.run) in
    let only = only_one g.effects reported one some in
    record {
      move = only.move;
      run = subst (λ (moves : List Effect). Runs old.state (ImTimerExpired ∷ []) moves new.state) only.only g.run;
      same = only.same;
      caused = IsCaused.by_timer refl refl (ap (λ (h : Holding). h.frame_bytes) holds.0 ∙ tied);
    }

pub timer_silent : (old new : SessionView) (reported : Note) → Refines old (ImTimerExpired ∷ []) reported new → reported ≡ Notes.Nothing →
    Runs old.state (ImTimerExpired ∷ []) [] new.state
timer_silent old new reported g e =
    subst (λ (moves : List Effect). Runs old.state (ImTimerExpired ∷ []) moves new.state)
    (no_move g.effects reported (subst (IsOneEffect g.effects) (sym g.note)
    (one_move_a_timer old.state g.effects new.state g.run)) e) g.run

stop_noted : (move : Effect) → move.reported ≡ Notes.Stopped → note_of (move ∷ []) ≡ Notes.Stopped
stop_noted move is = ap (λ (n : Note). note_or n Notes.Nothing) is

-- a stop
pub stop_made : (old new : SessionView) (reported : Note) → Refines old (OperatorStops ∷ []) reported new →
    (reported ≡ Notes.Nothing → ⊥) → IsMade old (OperatorStops ∷ []) Bot reported new
stop_made old new reported g some = by_moves (one_move_a_stop old.state g.effects new.state g.run)
  where
    by_moves : (g.effects ≡ []) ⊎ ((move : Effect) × (g.effects ≡ move ∷ []) × (move.reported ≡ Notes.Stopped)) →
        IsMade old (OperatorStops ∷ []) Bot reported new
    by_moves (inl none) = absurd (some (g.note ∙ ap note_of none))
    by_moves (inr (move, only, is)) =
        let same : move.reported ≡ reported = is ∙ sym (g.note ∙ ap note_of only ∙ stop_noted move is) in
        record {
          move = move;
          run = subst (λ (moves : List Effect). Runs old.state (OperatorStops ∷ []) moves new.state) only g.run;
          same = same;
          caused = IsCaused.by_stop refl (sym same ∙ is);
        }

pub stop_silent : (old new : SessionView) (reported : Note) → Refines old (OperatorStops ∷ []) reported new →
    reported ≡ Notes.Nothing → Runs old.state (OperatorStops ∷ []) [] new.state
stop_silent old new reported g e = by_moves (one_move_a_stop old.state g.effects new.state g.run)
  where
    by_moves : (g.effects ≡ []) ⊎ ((move : Effect) × (g.effects ≡ move ∷ []) × (move.reported ≡ Notes.Stopped)) →
        Runs old.state (OperatorStops ∷ []) [] new.state
    by_moves (inl none) = subst (λ (moves : List Effect). Runs old.state (OperatorStops ∷ []) moves new.state) none g.run
    by_moves (inr (move, only, is)) =
        let no : Notes.Nothing ≡ Notes.Stopped = sym e ∙ (g.note ∙ ap note_of only ∙ stop_noted move is) in absurd (cc)

-- a side's end
end_effects : (old new : SessionView) (side : Side) (g : Refines old (Ends side ∷ []) Notes.Nothing new) →
    g.effects ≡ (event_outcome old.state (Ends side) g.run.3.verdict).effects
end_effects old new side g =
    g.run.5 ∙ ap (λ (m : List Effect). g.run.1 ++ m) g.run.4.0 ∙ append-nil g.run.1
    ∙ sym (ap (λ (o : Successor). o.effects) g.run.3.outcome)

pub end_made : (old new : SessionView) (side : Side) → Refines old (Ends side ∷ []) Notes.Nothing new →
    is_over old.state.phase ≡ false → IsMade old (Ends side ∷ []) side Notes.Nothing new
end_made old new side g live =
    let move : Effect = record { reported = Notes.Nothing; sent = fm_to old.state.phase (other side) } in
    let only : g.effects ≡ move ∷ [] = end_effects old new side g ∙ rw live refl in
    record {
      move = move;
      run = subst (λ (moves : List Effect). Runs old.state (Ends side ∷ []) moves new.state) only g.run;
      same = refl;
      caused = IsCaused.by_end refl;
    }

pub end_silent : (old new : SessionView) (side : Side) → Refines old (Ends side ∷ []) Notes.Nothing new →
    is_over old.state.phase ≡ true → Runs old.state (Ends side ∷ []) [] new.state
end_silent old new side g over =
    subst (λ (moves : List Effect). Runs old.state (Ends side ∷ []) moves new.state)
    (end_effects old new side g ∙ rw over refl) g.run

-- a move with a note, or none
pub moves_noted : (old new : SessionView) (events : List Event) (side : Side) (reported : Note) →
    (reported ≡ Notes.Nothing → Runs old.state events [] new.state) →
    ((reported ≡ Notes.Nothing → ⊥) → IsMade old events side reported new) → Moves old events side (note_of_move reported) new
moves_noted old new events side Notes.Nothing silent made = silent refl
moves_noted old new events side (Notes.Frame head deed) silent made = made (λ e. absurd (cc))
moves_noted old new events side (Notes.Fault code) silent made = made (λ e. absurd (cc))
moves_noted old new events side Notes.Stopped silent made = made (λ e. absurd (cc))

pub is_none : (move : Option Note) → ((reported : Note) → move ≡ Some reported → ⊥) → move ≡ None
is_none None other = refl
is_none (Some reported) other = absurd (other reported refl)

pub bare : (event : ParsedEvent) → ((side : Side) (count : ℕ) → event ≡ ParsedEvents.Received side count → ⊥) → IsBare event
bare (ParsedEvents.Received side count) other = other side count refl
bare (ParsedEvents.EndOf side) other = tt
bare ParsedEvents.ImTimerLine other = tt
bare ParsedEvents.StopLine other = tt
bare ParsedEvents.Silence other = tt

-- ---- sessions between two lines

pub under_after : (config : Config) (words : List Word) (old new : SessionView) (events : List Event) (reported : Note) →
    IsUnder config words old → Refines old events reported new → IsUnder config words new
under_after config words old new events reported under g = record {
  limits = runs_limits events old.state new.state g.effects g.run ∙ under.limits;
  accepted = under.accepted;
}

pub ready_again : (config : Config) (words : List Word) (mid new : SessionView) → IsUnder config words mid →
    new.state ≡ mid.state → IsIdle new → IsReady config words new
ready_again config words mid new under same idle = record {
  idle = idle;
  under = record {
    limits = ap (λ (s : SessionState). s.limits) same ∙ under.limits;
    accepted = under.accepted;
  };
}

pub ready_after : (config : Config) (words : List Word) (old mid new : SessionView) (events : List Event) (reported : Note) →
    IsReady config words old → Refines old events reported mid → new.state ≡ mid.state → IsIdle new → IsReady config words new
ready_after config words old mid new events reported ready g same idle =
    ready_again config words mid new (under_after config words old mid events reported ready.under g) same idle

-- ---- sequences

pub texts_of-append : {E : Type 0} → (text : E → List ℕ) (a b : List E) →
    texts_of text (a ++ b) ≡ texts_of text a ++ texts_of text b
texts_of-append text [] b = refl
texts_of-append text (entry ∷ a) b =
    ap (λ (t : List ℕ). text entry ++ t) (texts_of-append text a b)
    ∙ sym (append_assoc (text entry) (texts_of text a) (texts_of text b))

pub counted_over-append : {E : Type 0} → (count : E → Summary → Summary) (a b : List E) (s : Summary) →
    counted_over count (a ++ b) s ≡ counted_over count b (counted_over count a s)
counted_over-append count [] b s = refl
counted_over-append count (entry ∷ a) b s = counted_over-append count a b (count entry s)

pub appends_more : (a b c : Option (List ℕ)) (x y : List ℕ) → Appends a b x → Appends b c y → Appends a c (x ++ y)
appends_more None b c x y h k = tt
appends_more (Some p) None c x y h k = absurd h
appends_more (Some p) (Some q) None x y h k = absurd k
appends_more (Some p) (Some q) (Some r) x y h k = k ∙ ap (λ (t : List ℕ). t ++ y) h ∙ append_assoc p x y

pub appends_none : (a : Option (List ℕ)) → Appends a a []
appends_none None = tt
appends_none (Some p) = sym (append-nil p)

pub idle_free : (g : SessionView) (side : Side) → IsIdle g → is_awaited (queued g) side ≡ false
idle_free g side idle = rw (idle.bot, idle.server) refl

module _ {Answer : Type 0} (form : ReportForm Answer) where
  -- consecutive events
  pub tells_more : (knew knows later : form.Context → Type 0) (words : List Word) → IsWritableForm words form →
      (source : ReportKey) (side : Side) (old mid new : SessionState)
      (events more : List Event) (r s t : Summary) (a b c : Option (List ℕ)) →
      ReportsEvents form knew knows source side old events mid r s a b →
      ReportsEvents form knows later source side mid more new s t b c →
      ReportsEvents form knew later source side old (events ++ more) new r t a c
  tells_more knew knows later words lawful source side old mid new events more r s t a b c first second context known =
      let h = first context known in
      let k = second (form.next context h.1) h.6 in (
        h.0 ++ k.0,
        h.1 ++ k.1,
        runs_join events more old mid new h.0 k.0 h.2 k.2,
        lawful.more context source side old mid new events more h.0 k.0 h.1 k.1 h.3 k.3,
        k.4 ∙ ap (counted_over form.counted k.1) h.4 ∙ sym (counted_over-append form.counted h.1 k.1 r),
        subst (Appends a c) (sym (texts_of-append form.text h.1 k.1))
            (appends_more a b c (texts_of form.text h.1) (texts_of form.text k.1) h.5 k.5),
        subst later (sym (lawful.next_more context h.1 k.1)) k.6,
      )

  -- without a move there is no entry
  pub tells_none : (knows : form.Context → Type 0) (words : List Word) → IsWritableForm words form →
      (source : ReportKey) (side : Side) (old new : SessionState)
      (events : List Event) (s : Summary) (a : Option (List ℕ)) → Runs old events [] new →
      ReportsEvents form knows knows source side old events new s s a a
  tells_none knows words lawful source side old new events s a run context known = (
    [],
    [],
    run,
    lawful.silent context source side old new events run,
    refl,
    appends_none a,
    subst knows (sym (lawful.next_none context)) known,
  )

  -- a move was reported
  pub tells_one : (knew knows : form.Context → Type 0) (source : ReportKey) (old : SessionView) (events : List Event)
      (side : Side) (reported : Note) (mid : SessionView)
      (new : SessionState) (before after : Summary) (a b : Option (List ℕ)) →
      IsMade old events side reported mid → new ≡ mid.state →
      ReportsMove form knew knows source side reported mid (λ added. move_line source side reported ++ added) a b →
      after ≡ count_note reported before → ReportsEvents form knew knows source side old.state events new before after a b
  tells_one knew knows source old events side reported mid new before after a b made same moved c context known =
      let with = moved context known in
      let entries = with.1 old events made in (
        made.move ∷ [],
        entries.0,
        subst (λ (s : SessionState). Runs old.state events (made.move ∷ []) s) (sym same) made.run,
        subst (λ (s : SessionState). form.tells context source side old.state events (made.move ∷ []) s entries.0) (sym same)
            entries.1,
        c ∙ sym (entries.3 before),
        subst (Appends a b) (sym entries.2) with.2,
        entries.4,
      )

  -- ---- bytes in pieces

  -- the bytes so far were fed, and their moves reported
  pub record HasFed (knew knows : form.Context → Type 0) (config : Config) (words : List Word) (source : ReportKey)
      (side : Side) (bytes rest : List ℕ)
      (old : SessionState) (new : SessionView) (before after : Summary) (a b : Option (List ℕ)) : Type 0 where
    pub done : List ℕ
    pub whole : done ++ rest ≡ bytes
    pub ready : IsReady config words new
    pub room : HasRoom (length rest) after
    pub few : IsMoreBy (length done) before after
    pub reported : ReportsEvents form knew knows source side old (bytes_come side done) new.state before after a b

  pub nothing_fed : (knows : form.Context → Type 0) (config : Config) (words : List Word) → IsWritableForm words form →
      (source : ReportKey) (side : Side) (bytes : List ℕ) (g : SessionView) (s : Summary) (a : Option (List ℕ)) →
      IsReady config words g → HasRoom (length bytes) s →
      HasFed knows knows config words source side bytes bytes g.state g s s a a
  nothing_fed knows config words lawful source side bytes g s a ready room = record {
    done = [];
    whole = refl;
    ready = ready;
    room = room;
    few = no_more 0 s;
    reported = tells_none knows words lawful source side g.state g.state [] s a (refl, refl);
  }

  pub piece_fed : (knew knows later : form.Context → Type 0) (config : Config) (words : List Word) →
      IsWritableForm words form → (source : ReportKey) (side : Side)
      (bytes rest piece more : List ℕ) (old : SessionState) (mid new : SessionView)
      (r s t : Summary) (a b c : Option (List ℕ)) → HasFed knew knows config words source side bytes rest old mid r s a b →
      rest ≡ piece ++ more → 0 < length piece →
      ReportsEvents form knows later source side mid.state (bytes_come side piece) new.state s t b c →
      IsReady config words new → IsMoreBy 1 s t → HasFed knew later config words source side bytes more old new r t a c
  piece_fed knew knows later config words lawful source side bytes rest piece more old mid new r s t a b c h split some tells ready one =
      let size = ap length split ∙ length-append piece more in
      let room = h.room in
      let few = h.few in
      let longer = length-append h.done piece in
      record {
        done = h.done ++ piece;
        whole = append_assoc h.done piece more ∙ ap (λ (l : List ℕ). h.done ++ l) (sym split) ∙ h.whole;
        ready = ready;
        room = room_after (length piece) (length more) s t
            (less_room (length piece + length more) (length rest) s room (omega (arith, size)))
            (more_by 1 (length piece) s t one some);
        few = more_by (length h.done + 1) (length (h.done ++ piece)) r t (more_then (length h.done) 1 r s t few one)
            (omega (arith, longer, some));
        reported = subst (λ (es : List Event). ReportsEvents form knew later source side old es new.state r t a c)
            (sym (bytes_come-append side h.done piece))
            (tells_more knew knows later words lawful source side old mid.state new.state (bytes_come side h.done) (bytes_come side piece)
            r s t a b c h.reported tells);
      }

  -- all bytes were fed, or the session is over and the rest changes nothing
  pub all_fed : (knew knows : form.Context → Type 0) (config : Config) (words : List Word) → IsWritableForm words form →
      (source : ReportKey) (side : Side) (bytes rest : List ℕ) (old : SessionState) (new : SessionView) (r s : Summary)
      (a b : Option (List ℕ)) → HasFed knew knows config words source side bytes rest old new r s a b →
      (length rest ≡ 0) ⊎ (is_over new.state.phase ≡ true) →
      ReportsEvents form knew knows source side old (bytes_come side bytes) new.state r s a b
  all_fed knew knows config words lawful source side bytes rest old new r s a b h end =
      subst (λ (es : List Event). ReportsEvents form knew knows source side old es new.state r s a b)
      (sym (bytes_come-append side h.done rest) ∙ ap (bytes_come side) h.whole)
      (tells_more knew knows knows words lawful source side old new.state new.state (bytes_come side h.done) (bytes_come side rest) r s s a b b
      h.reported (tells_none knows words lawful source side new.state new.state (bytes_come side rest) s b (left rest end)))
    where
      left : (l : List ℕ) → (length l ≡ 0) ⊎ (is_over new.state.phase ≡ true) → Runs new.state (bytes_come side l) [] new.state
      left [] end = (refl, refl)
      left (x ∷ l) (inl e) = absurd (omega arith)
      left (x ∷ l) (inr e) = over_stays new.state (bytes_come side (x ∷ l)) e

  -- the counts grew by at most the number of bytes
  pub fed_few : (knew knows : form.Context → Type 0) (config : Config) (words : List Word) (source : ReportKey) (side : Side) (bytes rest : List ℕ)
      (old : SessionState) (new : SessionView) (r s : Summary)
      (a b : Option (List ℕ)) → HasFed knew knows config words source side bytes rest old new r s a b → IsMoreBy (length bytes) r s
  fed_few knew knows config words source side bytes rest old new r s a b h =
      more_by (length h.done) (length bytes) r s h.few (omega (arith, ap length h.whole, length-append h.done rest))

  -- nor after one more move, while a byte is left
  pub reported_few : (knew knows : form.Context → Type 0) (config : Config) (words : List Word) (source : ReportKey) (side : Side) (bytes rest : List ℕ)
      (old : SessionState) (new : SessionView)
      (r s t : Summary) (a b : Option (List ℕ)) → HasFed knew knows config words source side bytes rest old new r s a b →
      0 < length rest → IsMoreBy 1 s t → IsMoreBy (length bytes) r t
  reported_few knew knows config words source side bytes rest old new r s t a b h some k =
      let size : length h.done + length rest ≡ length bytes = sym (length-append h.done rest) ∙ ap length h.whole in
      more_by (length h.done + 1) (length bytes) r t (more_then (length h.done) 1 r s t h.few k) (omega (arith, size, some))
