-- A session's own log has the same moves as the session has in the log of a match.
use Rattle.daide_log.proofs.Common.{◌≡◌, ℕ, zero, suc, ◌+◌, ◌-◌, ◌<◌, Bool, true, false, cond, eqb, leb, ◌⊎◌, inl, inr}
use Rattle.daide_log.proofs.Common.{◌≢◌, List, [], ◌∷◌, ◌++◌, length, map, set, replicate, codes, Option, Some, None}
use Rattle.daide_log.proofs.Common.{Ok, Result, refl, sym, ap, ◌∙◌, subst, arith, ◌&&◌, slice_get, option_map, leb-true}
use Rattle.daide_log.proofs.Common.{eqb_tells, length-map, same_Some, Side, SessionState, Effect, Runs, initial_state}
use Rattle.daide_log.proofs.Common.{Config, limits_with, LogFault, Version, Single, Match, MatchConfig, Summary}
use Rattle.daide_log.proofs.Common.{LogEvent, Received, EndOf, ImTimerLine, StopLine, event_of_line, plain_number}
use Rattle.daide_log.proofs.Common.{parted_at_space, config_of_line, match_config_of_line, MatchEvent, Of, Quiet, loud}
use Rattle.daide_log.proofs.Common.{within, event_of_session, match_event_of_parts, match_event_of_line, Preamble}
use Rattle.daide_log.proofs.Common.{Heading, Unnamed, Named, Headed, single_session, heading_after, nothing_counted}
use Rattle.daide_log.proofs.Common.{ReportEntry, events_of_line, side_of, entries_of, lines_of, counted_all}
use Rattle.daide_log.proofs.Common.{summary_line, own_line, own_reported, SessionsAreAlone}
use Rattle.daide_frame.proofs.ListLemmas.{eqb_same}
use Rattle.daide_log_lines.specs.LogLine.{Silence, Parted, is_comment}
use Rattle.daide_log.specs.Log.{ReportsBy, IsReportBy, LogState, Opening, Playing, state_after_preamble, stage_at, source_in, IsPlayed, AdvancesByLine, ReportsAll, IsReport}
use Rattle.daide_log.specs.Laws.{is_number, own_of, unnumbered}
use Rattle.daide_log.proofs.StepLemmas.{Steps, all_read, all_written}

-- ---- the event of a line

not_quiet : (session : Option ℕ) (event : Option LogEvent) → event_of_session session event ≡ Some Quiet → ⊥
not_quiet None event e = absurd (cc)
not_quiet (Some session) None e = absurd (cc)
not_quiet (Some session) (Some event) e = absurd (cc)

parts_not_quiet : (sessions : ℕ) (parted : Option Parted) → match_event_of_parts sessions parted ≡ Some Quiet → ⊥
parts_not_quiet sessions None e = absurd (cc)
parts_not_quiet sessions (Some parted) e =
    not_quiet (within 1 sessions (plain_number parted.word)) (loud (event_of_line parted.rest)) e

-- a line without an event is a comment
quiet_is_comment : (sessions : ℕ) (line : List ℕ) → match_event_of_line sessions line ≡ Some Quiet → is_comment line ≡ true
unfolding match_event_of_line
quiet_is_comment sessions line e = go (is_comment line) e
  where
    go : (b : Bool) → cond b (Some Quiet) (match_event_of_parts sessions (parted_at_space line)) ≡ Some Quiet → b ≡ true
    go true k = refl
    go false k = absurd (parts_not_quiet sessions (parted_at_space line) k)

-- a line that begins with `#` has no event in version 1 either
hash_is_silent : (cs : List ℕ) → event_of_line (35 ∷ cs) ≡ Some Silence
unfolding event_of_line
hash_is_silent cs = refl

comment_is_silent : (line : List ℕ) → is_comment line ≡ true → event_of_line line ≡ Some Silence
unfolding event_of_line
comment_is_silent [] h = refl
comment_is_silent (c ∷ cs) h = go (eqb_tells c 35) h
  where
    go : ((eqb c 35 ≡ true) × (c ≡ 35)) ⊎ ((eqb c 35 ≡ false) × (c ≢ 35)) → eqb c 35 ≡ true →
        event_of_line (c ∷ cs) ≡ Some Silence
    go (inl t) k = subst (λ (n : ℕ). event_of_line (n ∷ cs) ≡ Some Silence) (sym t.1) (hash_is_silent cs)
    go (inr t) k = let wrong : false ≡ true = sym t.0 ∙ k in absurd (cc)

record IsTold (sessions : ℕ) (line : List ℕ) (session : ℕ) (event : LogEvent) : Type 0 where
  spoken : is_comment line ≡ false
  parted : Parted
  parts : parted_at_space line ≡ Some parted
  number : plain_number parted.word ≡ Some session
  some : 0 < session
  said : event_of_line parted.rest ≡ Some event

loud_event : (o : Option LogEvent) (event : LogEvent) → loud o ≡ Some event → o ≡ Some event
loud_event None event e = absurd (cc)
loud_event (Some (Received side bytes)) event e = e
loud_event (Some (EndOf side)) event e = e
loud_event (Some ImTimerLine) event e = e
loud_event (Some StopLine) event e = e
loud_event (Some Silence) event e = absurd (cc)

within_number : (most : ℕ) (o : Option ℕ) (n : ℕ) → within 1 most o ≡ Some n → (o ≡ Some n) × (0 < n)
within_number most None n e = absurd (cc)
within_number most (Some k) n e = go (leb 1 k) (leb k most) refl e
  where
    go : (a b : Bool) → leb 1 k ≡ a → cond (a && b) (Some k) None ≡ Some n → (Some k ≡ Some n) × (0 < n)
    go true true h w = (w, omega (arith, leb-true 1 k h, same_Some k n w))
    go true false h w = absurd (cc)
    go false b h w = absurd (cc)

both_reported : (session : Option ℕ) (event : Option LogEvent) (n : ℕ) (said : LogEvent) →
    event_of_session session event ≡ Some (Of n said) → (session ≡ Some n) × (event ≡ Some said)
both_reported None event n said h = absurd (cc)
both_reported (Some m) None n said h = absurd (cc)
both_reported (Some m) (Some x) n said h = (cc, cc)

is_reported : (sessions : ℕ) (line : List ℕ) (session : ℕ) (event : LogEvent) →
    match_event_of_line sessions line ≡ Some (Of session event) → IsTold sessions line session event
unfolding match_event_of_line
is_reported sessions line session event e = go (is_comment line) refl e
  where
    parts : is_comment line ≡ false → (o : Option Parted) → parted_at_space line ≡ o →
        match_event_of_parts sessions o ≡ Some (Of session event) → IsTold sessions line session event
    parts spoken None p k = absurd (cc)
    parts spoken (Some parted) p k =
        let both = both_reported (within 1 sessions (plain_number parted.word)) (loud (event_of_line parted.rest)) session event k in
        let number = within_number sessions (plain_number parted.word) session both.0 in
        record {
          spoken = spoken;
          parted = parted;
          parts = p;
          number = number.0;
          some = number.1;
          said = loud_event (event_of_line parted.rest) event both.1;
        }

    go : (b : Bool) → is_comment line ≡ b →
        cond b (Some Quiet) (match_event_of_parts sessions (parted_at_space line)) ≡ Some (Of session event) →
        IsTold sessions line session event
    go true spoken k = absurd (cc)
    go false spoken k = parts spoken (parted_at_space line) refl k

-- a session's line without its number, and `#` for another session's line
own_is : (sessions : ℕ) (line : List ℕ) (k : ℕ) (event : LogEvent) (session : ℕ) (t : IsTold sessions line k event) →
    own_line session line ≡ cond (eqb k session) t.parted.rest (codes "#")
own_is sessions line k event session t =
    ap (λ (b : Bool). cond b line (own_of session (parted_at_space line))) t.spoken
    ∙ ap (own_of session) t.parts
    ∙ ap (λ (o : Option ℕ). cond (is_number session o) t.parted.rest (codes "#")) t.number

-- ---- the entries of a session

own_reported-append : (session : ℕ) (a b : List ReportEntry) → own_reported session (a ++ b) ≡ own_reported session a ++ own_reported session b
own_reported-append session [] b = refl
own_reported-append session (entry ∷ a) b = go (is_number session entry.source.session) (own_reported-append session a b)
  where
    go : (k : Bool) → own_reported session (a ++ b) ≡ own_reported session a ++ own_reported session b →
        cond k (unnumbered entry ∷ own_reported session (a ++ b)) (own_reported session (a ++ b))
        ≡ cond k (unnumbered entry ∷ own_reported session a) (own_reported session a) ++ own_reported session b
    go true later = ap (λ (l : List ReportEntry). unnumbered entry ∷ l) later
    go false later = later

own_entries : (session line : ℕ) (side : Side) (moves : List Effect) →
    own_reported session (entries_of (source_in Match line session) side moves) ≡ entries_of (source_in Single line 1) side moves
own_entries session line side [] = refl
own_entries session line side (move ∷ moves) =
    ap (λ (b : Bool). cond b (unnumbered here ∷ own_reported session rest) (own_reported session rest)) (eqb_same session)
    ∙ ap (λ (l : List ReportEntry). unnumbered here ∷ l) (own_entries session line side moves)
  where
    here : ReportEntry
    here = record { source = source_in Match line session; side = side; reported = move.reported }

    rest : List ReportEntry
    rest = entries_of (source_in Match line session) side moves

other_entries : (session k line : ℕ) (side : Side) (moves : List Effect) → eqb k session ≡ false →
    own_reported session (entries_of (source_in Match line k) side moves) ≡ []
other_entries session k line side [] e = refl
other_entries session k line side (move ∷ moves) e =
    ap (λ (b : Bool). cond b (unnumbered here ∷ own_reported session rest) (own_reported session rest)) e
    ∙ other_entries session k line side moves e
  where
    here : ReportEntry
    here = record { source = source_in Match line k; side = side; reported = move.reported }

    rest : List ReportEntry
    rest = entries_of (source_in Match line k) side moves

-- ---- a list of sessions

get_set_same : (l : List SessionState) (i : ℕ) (x y : SessionState) → slice_get l i ≡ Some x → slice_get (set l i y) i ≡ Some y
get_set_same [] i x y e = absurd (cc)
get_set_same (z ∷ l) zero x y e = refl
get_set_same (z ∷ l) (suc i) x y e = get_set_same l i x y e

get_set_other : (l : List SessionState) (i j : ℕ) (y : SessionState) → i ≢ j → slice_get (set l i y) j ≡ slice_get l j
get_set_other [] i j y h = refl
get_set_other (z ∷ l) zero zero y h = absurd (h refl)
get_set_other (z ∷ l) zero (suc j) y h = refl
get_set_other (z ∷ l) (suc i) zero y h = refl
get_set_other (z ∷ l) (suc i) (suc j) y h = get_set_other l i j y (λ e. h (ap (λ (n : ℕ). suc n) e))

get_replicate : (n i : ℕ) (x : SessionState) → i < n → slice_get (replicate n x) i ≡ Some x
get_replicate zero i x h = absurd (omega arith)
get_replicate (suc n) zero x h = refl
get_replicate (suc n) (suc i) x h = get_replicate n i x (omega arith)

-- ---- one line

-- a line of the match moves the session as its own line does
record GoesAlone (session number : ℕ) (line : List ℕ) (reported : List ReportEntry) (new : LogState) (state : SessionState) : Type 0 where
  sessions : List SessionState
  next : SessionState
  stage : new ≡ Playing Match sessions
  place : slice_get sessions (session - 1) ≡ Some next
  own : AdvancesByLine number (Playing Single (state ∷ [])) (own_line session line) (own_reported session reported)
      (Playing Single (next ∷ []))

-- a line without an event
silent : (session number : ℕ) (line : List ℕ) (reported : List ReportEntry) (new : LogState) (states : List SessionState)
    (state : SessionState) → new ≡ Playing Match states → slice_get states (session - 1) ≡ Some state →
    event_of_line (own_line session line) ≡ Some Silence → own_reported session reported ≡ [] →
    GoesAlone session number line reported new state
silent session number line reported new states state e place is_silent none = record {
  sessions = states;
  next = state;
  stage = e;
  place = place;
  own = (
    Of 1 Silence,
    ap (option_map (Of 1)) is_silent,
    state ∷ [],
    (state, state, [], refl, (refl, refl), none, refl),
    refl,
  );
}

one_line_alone : (session number : ℕ) (line : List ℕ) (reported : List ReportEntry) (states : List SessionState) (new : LogState)
    (state : SessionState) → 0 < session → slice_get states (session - 1) ≡ Some state →
    AdvancesByLine number (Playing Match states) line reported new → GoesAlone session number line reported new state
one_line_alone session number line reported states new state some place on = by_event on.0 on.1 on.3
  where
    by_event : (event : MatchEvent) → match_event_of_line (length states) line ≡ Some event →
        IsPlayed Match number event states reported on.2 → GoesAlone session number line reported new state
    by_event Quiet e played =
        let comment = quiet_is_comment (length states) line e in
        silent session number line reported new states state (on.4 ∙ ap (Playing Match) played.1) place
        (ap event_of_line (ap (λ (b : Bool). cond b line (own_of session (parted_at_space line))) comment)
        ∙ comment_is_silent line comment)
        (ap (own_reported session) played.0)
    by_event (Of k event) e played = go (eqb_tells k session)
      where
        t : IsTold (length states) line k event
        t = is_reported (length states) line k event e

        go : ((eqb k session ≡ true) × (k ≡ session)) ⊎ ((eqb k session ≡ false) × (k ≢ session)) →
            GoesAlone session number line reported new state
        go (inl same) =
            let own : own_line session line ≡ t.parted.rest =
            own_is (length states) line k event session t
            ∙ ap (λ (b : Bool). cond b t.parted.rest (codes "#")) same.0 in
            let before : played.0 ≡ state =
            same_Some played.0 state (sym played.3 ∙ ap (λ (n : ℕ). slice_get states (n - 1)) same.1 ∙ place) in
            record {
              sessions = on.2;
              next = played.1;
              stage = on.4;
              place = ap (λ (l : List SessionState). slice_get l (session - 1)) played.6
                  ∙ ap (λ (n : ℕ). slice_get (set states (n - 1) played.1) (session - 1)) same.1
                  ∙ get_set_same states (session - 1) state played.1 place;
              own = (
                Of 1 event,
                ap (option_map (Of 1)) (ap event_of_line own ∙ t.said),
                played.1 ∷ [],
                (
                  state,
                  played.1,
                  played.2,
                  refl,
                  subst (λ (s : SessionState). Runs s (events_of_line event) played.2 played.1) before played.4,
                  ap (own_reported session) (played.5
                      ∙ ap (λ (n : ℕ). entries_of (source_in Match number n) (side_of event) played.2) same.1)
                      ∙ own_entries session number (side_of event) played.2,
                  refl,
                ),
                refl,
              );
            }
        go (inr other) =
            silent session number line reported new on.2 state on.4
            (ap (λ (l : List SessionState). slice_get l (session - 1)) played.6
            ∙ get_set_other states (k - 1) (session - 1) played.1
            (λ w. other.1 (omega (arith, w, t.some, some))) ∙ place)
            (ap event_of_line (own_is (length states) line k event session t
            ∙ ap (λ (b : Bool). cond b t.parted.rest (codes "#")) other.0) ∙ hash_is_silent [])
            (ap (own_reported session) played.5 ∙ other_entries session k number (side_of event) played.2 other.0)

-- ---- all lines

record GoAlone (session number : ℕ) (lines : List (List ℕ)) (reported : List ReportEntry) (new : LogState) (state : SessionState) : Type 0
  where
    sessions : List SessionState
    next : SessionState
    stage : new ≡ Playing Match sessions
    own : Steps number (Playing Single (state ∷ [])) (map (own_line session) lines) (own_reported session reported)
        (Playing Single (next ∷ []))

lines_alone : (lines : List (List ℕ)) (session number : ℕ) (reported : List ReportEntry) (states : List SessionState) (new : LogState)
    (state : SessionState) → 0 < session → slice_get states (session - 1) ≡ Some state →
    Steps number (Playing Match states) lines reported new → GoAlone session number lines reported new state
lines_alone [] session number reported states new state some place steps = record {
  sessions = states;
  next = state;
  stage = steps.1;
  own = (ap (own_reported session) steps.0, refl);
}
lines_alone (line ∷ lines) session number reported states new state some place steps =
    let here = one_line_alone session (number + 1) line steps.1 states steps.0 state some place steps.3 in
    let rest = lines_alone lines session (number + 1) steps.2 here.sessions new here.next some here.place
    (subst (λ (s : LogState). Steps (number + 1) s lines steps.2 new) here.stage steps.4) in
    record {
      sessions = rest.sessions;
      next = rest.next;
      stage = rest.stage;
      own = (
        Playing Single (here.next ∷ []),
        own_reported session steps.1,
        own_reported session steps.2,
        here.own,
        rest.own,
        ap (own_reported session) steps.5 ∙ own_reported-append session steps.1 steps.2,
      );
    }

-- ---- the head

-- the head with one more line
opens : (number : ℕ) (old heading : Heading) (line : List ℕ) (reported : List ReportEntry) (new : LogState) →
    AdvancesByLine number (Opening old) line reported new → heading_after old line ≡ Some heading →
    (reported ≡ []) × (new ≡ stage_at heading)
opens number old heading line reported new on e = (on.2, on.3 ∙ ap stage_at (same_Some on.0 heading (sym on.1 ∙ e)))

-- the contents of a match's second line, without words
match_head : MatchConfig → Preamble
match_head limits = record { version = Match; limits = limits; words = [] }

match_begins : (limits : MatchConfig) → limits.words ≡ 0 → stage_at (Headed (match_head limits)) ≡ state_after_preamble (match_head limits)
unfolding match_head
match_begins limits none = ap (λ (n : ℕ). cond (eqb 0 n) (state_after_preamble (match_head limits)) (Opening (Headed (match_head limits)))) none

start_symbol_of : MatchConfig → SessionState
start_symbol_of limits = initial_state (limits_with limits.config [])

-- after the first two lines of a match without words
match_opened : (second : List ℕ) (lines : List (List ℕ)) (limits : MatchConfig) (reported : List ReportEntry) (new : LogState) →
    match_config_of_line second ≡ Some limits → limits.words ≡ 0 →
    Steps 0 (Opening Unnamed) (codes "daide-log 2" ∷ second ∷ lines) reported new →
    Steps 2 (Playing Match (replicate limits.sessions (start_symbol_of limits))) lines reported new
unfolding match_head start_symbol_of
match_opened second lines limits reported new e none steps =
    let named = opens 1 Unnamed (Named Match) (codes "daide-log 2") steps.1 steps.0 steps.3 refl in
    let later : Steps 1 (Opening (Named Match)) (second ∷ lines) steps.2 new =
    subst (λ (s : LogState). Steps 1 s (second ∷ lines) steps.2 new) named.1 steps.4 in
    let headed = opens 2 (Named Match) (Headed (match_head limits)) second later.1 later.0 later.3
    (ap (option_map (λ (l : MatchConfig). Headed (record { version = Match; limits = l; words = [] }))) e) in
    let events : Steps 2 (state_after_preamble (match_head limits)) lines later.2 new =
    subst (λ (s : LogState). Steps 2 s lines later.2 new) (headed.1 ∙ match_begins limits none) later.4 in
    subst (λ (t : List ReportEntry). Steps 2 (state_after_preamble (match_head limits)) lines t new)
    (sym (steps.5 ∙ ap (λ (t : List ReportEntry). t ++ steps.2) named.0 ∙ later.5 ∙ ap (λ (t : List ReportEntry). t ++ later.2) headed.0))
    events

-- the first two lines of the session's own log
own_opened : (own_second : List ℕ) (lines : List (List ℕ)) (config : Config) (reported : List ReportEntry) (new : LogState) →
    config_of_line own_second ≡ Some config →
    Steps 2 (Playing Single (initial_state (limits_with config []) ∷ [])) lines reported new →
    Steps 0 (Opening Unnamed) (codes "daide-log 1" ∷ own_second ∷ lines) reported new
own_opened own_second lines config reported new e steps = (
  Opening (Named Single),
  [],
  reported,
  (Named Single, refl, refl, refl),
  (
    Playing Single (initial_state (limits_with config []) ∷ []),
    [],
    reported,
    (
      Headed (record { version = Single; limits = single_session config; words = [] }),
      ap (λ (o : Option Config). option_map (λ (l : MatchConfig). Headed (record { version = Single; limits = l; words = [] }))
          (option_map single_session o)) e,
      refl,
      refl,
    ),
    steps,
    refl,
  ),
  refl,
)

-- ---- the whole

-- a report without a fault belongs to a log that was read to its end
record IsWhole (log text : List ℕ) (summary : Summary) : Type 0 where
  number : ℕ
  reported : List ReportEntry
  version : Version
  sessions : List SessionState
  reports : ReportsAll log number reported (Playing version sessions)
  counts : summary ≡ counted_all reported nothing_counted
  written : text ≡ lines_of reported ++ summary_line summary

is_whole_report : (log text : List ℕ) (answer : Result Summary LogFault) (summary : Summary) → IsReport log text answer →
    answer ≡ Ok summary → IsWhole log text summary
is_whole_report _ _ _ summary (IsReportBy.whole log number reported version sessions reports) e =
    let counts : counted_all reported nothing_counted ≡ summary = cc in
    record {
      number = number;
      reported = reported;
      version = version;
      sessions = sessions;
      reports = reports;
      counts = sym counts;
      written = ap (λ (s : Summary). lines_of reported ++ summary_line s) counts;
    }
is_whole_report _ _ _ summary (IsReportBy.cut_short log number reported stage reports is_opening) e = absurd (cc)
is_whole_report _ _ _ summary (IsReportBy.bad bytes number reported stage reports line after few unbroken short wrong) e = absurd (cc)
is_whole_report _ _ _ summary (IsReportBy.bad_last bytes number reported stage reports line few some unbroken short wrong uncut) e = absurd (cc)
is_whole_report _ _ _ summary (IsReportBy.cut bytes number reported version sessions reports line few some unbroken short wrong cuts) e =
    absurd (cc)
is_whole_report _ _ _ summary (IsReportBy.too_long bytes number reported stage reports line after few unbroken long) e = absurd (cc)
is_whole_report _ _ _ summary (IsReportBy.too_many bytes reported stage reports after some) e = absurd (cc)

pub sessions_alone : SessionsAreAlone
unfolding start_symbol_of
sessions_alone log own second own_second lines limits session text summary h second_is none some few k own_is report =
    let w = is_whole_report log text (Ok summary) summary report refl in
    let read = all_read log w.number w.reported (Playing w.version w.sessions) w.reports
    (codes "daide-log 2" ∷ second ∷ lines) h in
    let events = match_opened second lines limits w.reported (Playing w.version w.sessions) second_is none read.0 in
    let state : SessionState = start_symbol_of limits in
    let alone_steps = lines_alone lines session 2 w.reported (replicate limits.sessions state) (Playing w.version w.sessions)
    state some (get_replicate limits.sessions (session - 1) state (omega (arith, some, few))) events in
    let own_steps = own_opened own_second (map (own_line session) lines) limits.config (own_reported session w.reported)
    (Playing Single (alone_steps.next ∷ [])) own_is alone_steps.own in
    let all = all_written (codes "daide-log 1" ∷ own_second ∷ map (own_line session) lines) own [] 0 []
    (own_reported session w.reported) (Opening Unnamed) (Playing Single (alone_steps.next ∷ [])) k ReportsBy.none own_steps
    (omega (arith, read.1, length-map lines (own_line session))) in (
      w.reported,
      w.written,
      IsReportBy.whole own all.0 (own_reported session w.reported) Single (alone_steps.next ∷ []) all.1,
    )
