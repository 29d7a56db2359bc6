-- The report of a record's head, and of the line of a call that has an event.
use Rattle.daide_log.proofs.Common.{◌≡◌, ℕ, suc, ◌+◌, ◌<◌, ◌≤◌, ◌⊎◌, inl, inr, cond, eqb, leb, Bool, true, false, List}
use Rattle.daide_log.proofs.Common.{[], ◌∷◌, ◌++◌, length, codes, append-nil, Option, Some, None, Result, Ok, Err, refl}
use Rattle.daide_log.proofs.Common.{sym, ap, ◌∙◌, subst, arith, append_assoc, length-append, is_ok, not, option_map}
use Rattle.daide_log.proofs.Common.{AllByRecursion, list_all, and_parts, leb-true, nat_tests, Side, Bot, Word}
use Rattle.daide_log.proofs.Common.{WordError, names_of, word_fault, are_accepted, are_accepted_after, is_capital}
use Rattle.daide_log.proofs.Common.{is_free_name, Config, Note, config_fault, limits_with, Event, Ends, SessionState}
use Rattle.daide_log.proofs.Common.{Effect, Successor, Transition, Runs, initial_state, event_outcome, is_over, one_run}
use Rattle.daide_log.proofs.Common.{over_stays, Verdict, PortCall, Clock, most_lines, LogEvent, Received, EndOf}
use Rattle.daide_log.proofs.Common.{ImTimerLine, StopLine, Of, Match, Preamble, Unnamed, Named, Headed, append_word}
use Rattle.daide_log.proofs.Common.{heading_after, ReportEntry, entries_of, side_of}
use Rattle.daide_token.specs.Names.{Named as NamedToken}
use Rattle.daide_words.specs.declared.word.WordError.TheVariants as faults
use Rattle.daide_words.specs.Accepted.{is_free_code, has_press, may_hold}
use Rattle.daide_protocol.specs.Events.{Loses}
use Rattle.daide_io.specs.declared.ports.ClockEvent.TheVariants.{NoEvent, ImTimeIsOver, StopIsRequested}
use Rattle.daide_io.specs.declared.ports.Pull.TheVariants.{Got, Idle, Ended}
use Rattle.daide_io.specs.declared.ports.Put.TheVariants.{Took, Failed}
use Rattle.daide_io.specs.Ports.{TurnBegins, Pulled, Offered, event_of}
use Rattle.daide_log.specs.Report.{events_of_line as events_in}
use Rattle.daide_log.specs.Log.{ReportsBy, LogState, Opening, Playing, AdvancesByLine, Reports, state_after_preamble, stage_at, source_in}
use Rattle.daide_log.specs.RecordText.{reported_by, event_text, event_line, line_of_answer, count_of_answer}
use Rattle.daide_log.specs.RecordText.{lines_of_words, word_text, config_text, head_text, head_count}
use Rattle.daide_log.specs.RecordItem.{IsPiece}
use Rattle.daide_log.specs.RecordLaw.{side_of_answer, notes_reported, notes_of, HasName}
use Rattle.daide_log.proofs.RecordLines.{plain_unbroken, plain_without_cr, IsWritable, line_back, line_plain, line_short}
use Rattle.daide_log.proofs.RecordHead.{IsWord, config_back, config_plain, config_short, word_back, word_plain, word_short}

-- ---- runs

pub run_split : (a b : List Event) (old new : SessionState) (moves : List Effect) → Runs old (a ++ b) moves new →
    (mid : SessionState) × (first : List Effect) × (rest : List Effect)
    × Runs old a first mid × Runs mid b rest new × (moves ≡ first ++ rest)
run_split [] b old new moves r = (old, [], moves, (refl, refl), r, refl)
run_split (event ∷ a) b old new moves r =
    let s = run_split a b r.0 new r.2 r.4 in (
      s.0,
      r.1 ++ s.1,
      s.2,
      (r.0, r.1, s.1, r.3, s.3, refl),
      s.4,
      r.5 ∙ ap (λ (l : List Effect). r.1 ++ l) s.5 ∙ sym (append_assoc r.1 s.1 s.2),
    )

-- ---- the session that the log describes

-- A failed write is an end in the log, so the session may have another ending there. The two are equal, or both are
-- over.
abbrev pub IsAsLogged : SessionState → SessionState → Type 0
IsAsLogged logged state = (logged ≡ state) ⊎ ((is_over logged.phase ≡ true) × (is_over state.phase ≡ true))

same_moves : (old : SessionState) (side : Side) (verdict : Verdict) →
    (event_outcome old (Ends side) verdict).effects ≡ (event_outcome old (Loses side) verdict).effects
same_moves old side verdict = go (is_over old.phase) refl
  where
    go : (b : Bool) → is_over old.phase ≡ b →
        (event_outcome old (Ends side) verdict).effects ≡ (event_outcome old (Loses side) verdict).effects
    go true e = rw e refl
    go false e = rw e refl

ended_over : (old : SessionState) (side : Side) (verdict : Verdict) →
    is_over (event_outcome old (Ends side) verdict).state.phase ≡ true
ended_over old side verdict = go (is_over old.phase) refl
  where
    go : (b : Bool) → is_over old.phase ≡ b → is_over (event_outcome old (Ends side) verdict).state.phase ≡ true
    go true e = rw e e
    go false e = rw e refl

lost_over : (old : SessionState) (side : Side) (verdict : Verdict) →
    is_over (event_outcome old (Loses side) verdict).state.phase ≡ true
lost_over old side verdict = go (is_over old.phase) refl
  where
    go : (b : Bool) → is_over old.phase ≡ b → is_over (event_outcome old (Loses side) verdict).state.phase ≡ true
    go true e = rw e e
    go false e = rw e refl

-- a failed write moves a session as the end of its side does
lost_is_ended : (side : Side) (old new : SessionState) (moves : List Effect) → Runs old (Loses side ∷ []) moves new →
    (other : SessionState) × Runs old (Ends side ∷ []) moves other × IsAsLogged other new
lost_is_ended side old new moves r =
    let verdict = r.3.verdict in
    let out = event_outcome old (Ends side) verdict in
    let step : Transition old (Ends side) out.effects out.state =
    record { verdict = verdict; right = r.3.right; outcome = refl } in
    let state_is : new ≡ (event_outcome old (Loses side) verdict).state =
    r.4.1 ∙ sym (ap (λ (o : Successor). o.state) r.3.outcome) in
    let first : r.1 ≡ out.effects =
    sym (ap (λ (o : Successor). o.effects) r.3.outcome) ∙ sym (same_moves old side verdict) in (
      out.state,
      (
        out.state,
        out.effects,
        [],
        step,
        (refl, refl),
        r.5 ∙ ap (λ (l : List Effect). r.1 ++ l) r.4.0 ∙ ap (λ (l : List Effect). l ++ []) first,
      ),
      inr (ended_over old side verdict, ap (λ (s : SessionState). is_over s.phase) state_is ∙ lost_over old side verdict),
    )

-- the events of a call, as its line has them
abbrev pub events_logged : Option LogEvent → List Event
events_logged None = []
events_logged (Some event) = events_in event

-- the effect of a call on the session that the log describes
pub record GoesAsLogged (old : SessionState) (answer : PortCall) (moves : List Effect) (new : SessionState) : Type 0 where
  pub logged : SessionState
  pub runs : Runs old (events_logged (reported_by answer)) moves logged
  pub alike : IsAsLogged logged new

same_goes : (answer : PortCall) (old new : SessionState) (moves : List Effect) → Runs old (event_of answer) moves new →
    GoesAsLogged old answer moves new
same_goes TurnBegins old new moves r = record { logged = new; runs = r; alike = inl refl }
same_goes (Clock ImTimeIsOver) old new moves r = record { logged = new; runs = r; alike = inl refl }
same_goes (Clock StopIsRequested) old new moves r = record { logged = new; runs = r; alike = inl refl }
same_goes (Clock NoEvent) old new moves r = record { logged = new; runs = r; alike = inl refl }
same_goes (Pulled side buffer (Got n) []) old new moves r = record { logged = new; runs = r; alike = inl refl }
same_goes (Pulled side buffer (Got n) (byte ∷ came)) old new moves r =
    record { logged = new; runs = r; alike = inl refl }
same_goes (Pulled side buffer Idle came) old new moves r = record { logged = new; runs = r; alike = inl refl }
same_goes (Pulled side buffer Ended came) old new moves r = record { logged = new; runs = r; alike = inl refl }
same_goes (Offered side handed (Took n)) old new moves r = record { logged = new; runs = r; alike = inl refl }
same_goes (Offered side handed Failed) old new moves r =
    let other = lost_is_ended side old new moves r in record { logged = other.0; runs = other.1; alike = other.2 }

pub goes_as_logged : (answer : PortCall) (logged old new : SessionState) (moves : List Effect) → IsAsLogged logged old →
    Runs old (event_of answer) moves new → GoesAsLogged logged answer moves new
goes_as_logged answer logged old new moves (inl same) r =
    same_goes answer logged new moves (subst (λ (s : SessionState). Runs s (event_of answer) moves new) (sym same) r)
goes_as_logged answer logged old new moves (inr over) r =
    let stays = one_run (event_of answer) old moves [] new old r (over_stays old (event_of answer) over.1) in
    record {
      logged = logged;
      runs = subst (λ (l : List Effect). Runs logged (events_logged (reported_by answer)) l logged) (sym stays.0)
          (over_stays logged (events_logged (reported_by answer)) over.0);
      alike = inr (over.0, ap (λ (s : SessionState). is_over s.phase) stays.1 ∙ over.1);
    }

-- ---- notes

pub notes_of-append : (a b : List Effect) → notes_of (a ++ b) ≡ notes_of a ++ notes_of b
notes_of-append [] b = refl
notes_of-append (move ∷ a) b = ap (λ (l : List Note). move.reported ∷ l) (notes_of-append a b)

pub notes_reported-append : (a b : List ReportEntry) → notes_reported (a ++ b) ≡ notes_reported a ++ notes_reported b
notes_reported-append [] b = refl
notes_reported-append (entry ∷ a) b = ap (λ (l : List Note). entry.reported ∷ l) (notes_reported-append a b)

pub entries_reported : (number : ℕ) (side : Side) (moves : List Effect) →
    notes_reported (entries_of (source_in Match number 1) side moves) ≡ notes_of moves
entries_reported number side [] = refl
entries_reported number side (move ∷ moves) = ap (λ (l : List Note). move.reported ∷ l) (entries_reported number side moves)

-- ---- one call

-- the same report, with equal arguments
pub same_report : (bytes other : List ℕ) (number another : ℕ) (reported more : List ReportEntry) (stage after : LogState) → bytes ≡ other →
    number ≡ another → reported ≡ more → stage ≡ after → Reports bytes number reported stage → Reports other another more after
same_report bytes other number another reported more stage after b n t s h =
    subst (λ (x : LogState). Reports other another more x) s
    (subst (λ (x : List ReportEntry). Reports other another x stage) t
    (subst (λ (x : ℕ). Reports other x reported stage) n (subst (λ (x : List ℕ). Reports x number reported stage) b h)))

quiet_reported : (bytes : List ℕ) (number : ℕ) (reported : List ReportEntry) (side : Side) (old new : SessionState)
    (moves : List Effect) → Reports bytes number reported (Playing Match (old ∷ [])) → Runs old [] moves new →
    Reports (bytes ++ []) (number + 0) (reported ++ entries_of (source_in Match (number + 1) 1) side moves)
    (Playing Match (new ∷ []))
quiet_reported bytes number reported side old new moves h r =
    same_report bytes (bytes ++ []) number (number + 0) reported
    (reported ++ entries_of (source_in Match (number + 1) 1) side moves) (Playing Match (old ∷ [])) (Playing Match (new ∷ []))
    (sym (append-nil bytes)) (omega arith)
    (sym (ap (λ (l : List Effect). reported ++ entries_of (source_in Match (number + 1) 1) side l) r.0 ∙ append-nil reported))
    (ap (λ (s : SessionState). Playing Match (s ∷ [])) (sym r.1)) h

event_reported : (event : LogEvent) (bytes : List ℕ) (number : ℕ) (reported : List ReportEntry) (old new : SessionState)
    (moves : List Effect) → IsWritable event → number + 1 ≤ most_lines →
    Reports bytes number reported (Playing Match (old ∷ [])) → Runs old (events_in event) moves new →
    Reports (bytes ++ event_line event) (number + 1)
    (reported ++ entries_of (source_in Match (number + 1) 1) (side_of event) moves) (Playing Match (new ∷ []))
unfolding event_line
event_reported event bytes number reported old new moves good fits h r =
    let line = codes "1 " ++ event_text event in
    let plain = line_plain event good in
    let more = entries_of (source_in Match (number + 1) 1) (side_of event) moves in
    let goes : AdvancesByLine (number + 1) (Playing Match (old ∷ [])) line more (Playing Match (new ∷ [])) =
    (Of 1 event, line_back event good, new ∷ [], (old, new, moves, refl, r, refl, refl), refl) in
    subst (λ (x : List ℕ). Reports x (number + 1) (reported ++ more) (Playing Match (new ∷ [])))
    (append_assoc bytes line (10 ∷ []))
    (ReportsBy.line bytes number reported (Playing Match (old ∷ [])) h line more (Playing Match (new ∷ [])) (omega arith)
    (plain_unbroken line plain) (line_short event good)
    (subst (λ (x : List ℕ). AdvancesByLine (number + 1) (Playing Match (old ∷ [])) x more (Playing Match (new ∷ [])))
    (sym (plain_without_cr line plain)) goes))

pub answer_reported : (answer : PortCall) (bytes : List ℕ) (number : ℕ) (reported : List ReportEntry) (old new : SessionState)
    (moves : List Effect) → IsPiece answer → number + count_of_answer answer ≤ most_lines →
    Reports bytes number reported (Playing Match (old ∷ [])) → Runs old (events_logged (reported_by answer)) moves new →
    Reports (bytes ++ line_of_answer answer) (number + count_of_answer answer)
    (reported ++ entries_of (source_in Match (number + 1) 1) (side_of_answer answer) moves) (Playing Match (new ∷ []))
answer_reported TurnBegins bytes number reported old new moves piece fits h r =
    quiet_reported bytes number reported Bot old new moves h r
answer_reported (Clock ImTimeIsOver) bytes number reported old new moves piece fits h r =
    event_reported ImTimerLine bytes number reported old new moves tt fits h r
answer_reported (Clock StopIsRequested) bytes number reported old new moves piece fits h r =
    event_reported StopLine bytes number reported old new moves tt fits h r
answer_reported (Clock NoEvent) bytes number reported old new moves piece fits h r =
    quiet_reported bytes number reported Bot old new moves h r
answer_reported (Pulled side buffer (Got n) []) bytes number reported old new moves piece fits h r =
    quiet_reported bytes number reported side old new moves h r
answer_reported (Pulled side buffer (Got n) (byte ∷ came)) bytes number reported old new moves piece fits h r =
    event_reported (Received side (byte ∷ came)) bytes number reported old new moves (piece.0, omega arith, piece.1) fits h r
answer_reported (Pulled side buffer Idle came) bytes number reported old new moves piece fits h r =
    quiet_reported bytes number reported side old new moves h r
answer_reported (Pulled side buffer Ended came) bytes number reported old new moves piece fits h r =
    event_reported (EndOf side) bytes number reported old new moves tt fits h r
answer_reported (Offered side handed (Took n)) bytes number reported old new moves piece fits h r =
    quiet_reported bytes number reported side old new moves h r
answer_reported (Offered side handed Failed) bytes number reported old new moves piece fits h r =
    event_reported (EndOf side) bytes number reported old new moves tt fits h r

-- ---- words

-- an accepted word is parsed back, and there were fewer words than the limit
record IsAccepted (taken : List NamedToken) (word : Word) : Type 0 where
  letters : list_all is_capital word.name ≡ true
  code : word.code < 65536
  few : length taken < 16

abbrev fault_by : Bool → Bool → Bool → Word → Result (Unit {0}) WordError
fault_by a b c word =
    cond a (Err faults.Full) (cond (not b) (Err faults.Name) (cond (not c) (Err faults.Code)
    (cond (not (has_press word.level)) (Err faults.Level)
    (cond (not (may_hold word.slot word.operand)) (Err faults.Operand) (Ok tt)))))

accepted : (taken : List NamedToken) (word : Word) → is_ok (word_fault taken word) ≡ true → IsAccepted taken word
accepted taken word h = go (leb 16 (length taken)) (is_free_name taken word.name) (is_free_code taken word.code) refl refl refl h
  where
    go : (a b c : Bool) → leb 16 (length taken) ≡ a → is_free_name taken word.name ≡ b → is_free_code taken word.code ≡ c →
        is_ok (fault_by a b c word) ≡ true →
        IsAccepted taken word
    go true b c e f g h = absurd (cc)
    go false false c e f g h = absurd (cc)
    go false true false e f g h = absurd (cc)
    go false true true e f g h =
        let most = (and_parts (leb 0x4A00 word.code) (leb word.code 0x4AFF) (and_parts _ _ g).0).1 in
        let small = leb-true word.code 0x4AFF most in
        record {
          letters = (and_parts (list_all is_capital word.name) _ f).0;
          code = omega arith;
          few = grind (arith, nat_tests);
        }

few_accepted : (words : List Word) (taken : List NamedToken) → are_accepted_after taken words ≡ true → length taken ≤ 16 →
    length taken + length words ≤ 16
few_accepted [] taken h few = omega arith
few_accepted (word ∷ words) taken h few =
    let both = and_parts (is_ok (word_fault taken word)) (are_accepted_after (taken ++ (word.code, word.name) ∷ []) words) h in
    let less = (accepted taken word both.0).few in
    let size = length-append taken ((word.code, word.name) ∷ []) in
    let rest = few_accepted words (taken ++ (word.code, word.name) ∷ []) both.1 (omega arith) in
    omega arith

names_of-more : (words : List Word) (word : Word) → names_of (words ++ word ∷ []) ≡ names_of words ++ (word.code, word.name) ∷ []
names_of-more [] word = refl
names_of-more (first ∷ words) word = ap (λ (l : List NamedToken). (first.code, first.name) ∷ l) (names_of-more words word)

-- a head with these contents
abbrev head_with : Config → ℕ → List Word → Preamble
head_with config total words =
    record { version = Match; limits = record { config = config; sessions = 1; words = total }; words = words }

still_opening : (config : Config) (total : ℕ) (words : List Word) → length words < total →
    stage_at (Headed (head_with config total words)) ≡ Opening (Headed (head_with config total words))
still_opening config total words less =
    let other : eqb (length words) total ≡ false = grind (arith, nat_tests) in
    ap (λ (b : Bool). cond b (state_after_preamble (head_with config total words)) (Opening (Headed (head_with config total words)))) other

all_there : (config : Config) (words : List Word) →
    stage_at (Headed (head_with config (length words) words)) ≡ Playing Match (initial_state (limits_with config words) ∷ [])
all_there config words =
    let same : eqb (length words) (length words) ≡ true = grind (arith, nat_tests) in
    ap (λ (b : Bool). cond b (state_after_preamble (head_with config (length words) words))
    (Opening (Headed (head_with config (length words) words)))) same

heading_more : (config : Config) (total : ℕ) (words : List Word) (word : Word) → IsWord word →
    is_ok (word_fault (names_of words) word) ≡ true →
    heading_after (Headed (head_with config total words)) (word_text word)
    ≡ Some (Headed (head_with config total (words ++ word ∷ [])))
heading_more config total words word good h =
    ap (λ (o : Option Word). option_map (λ l. Headed (head_with config total l)) (append_word words o)) (word_back word good)
    ∙ ap (λ (b : Bool). option_map (λ l. Headed (head_with config total l)) (cond b (Some (words ++ word ∷ [])) None)) h

words_reported : (words before : List Word) (config : Config) (total : ℕ) (bytes : List ℕ) (number : ℕ) →
    Reports bytes number [] (stage_at (Headed (head_with config total before))) → length before + length words ≡ total →
    are_accepted_after (names_of before) words ≡ true → AllByRecursion HasName words →
    number + length words ≤ most_lines →
    Reports (bytes ++ lines_of_words words) (number + length words) []
    (stage_at (Headed (head_with config total (before ++ words))))
words_reported [] before config total bytes number h size good names fits =
    same_report bytes (bytes ++ []) number (number + 0) [] [] (stage_at (Headed (head_with config total before)))
    (stage_at (Headed (head_with config total (before ++ [])))) (sym (append-nil bytes)) (omega arith) refl
    (ap (λ (l : List Word). stage_at (Headed (head_with config total l))) (sym (append-nil before))) h
words_reported (word ∷ words) before config total bytes number h size good names fits =
    let both = and_parts (is_ok (word_fault (names_of before) word))
    (are_accepted_after (names_of before ++ (word.code, word.name) ∷ []) words) good in
    let here = accepted (names_of before) word both.0 in
    let is_word : IsWord word = record { three = names.0; letters = here.letters; code = here.code } in
    let line = word_text word in
    let plain = word_plain word is_word in
    let after = stage_at (Headed (head_with config total (before ++ word ∷ []))) in
    let opened : Reports bytes number [] (Opening (Headed (head_with config total before))) =
    subst (λ (s : LogState). Reports bytes number [] s) (still_opening config total before (omega arith)) h in
    let goes : AdvancesByLine (number + 1) (Opening (Headed (head_with config total before))) line [] after =
    (Headed (head_with config total (before ++ word ∷ [])), heading_more config total before word is_word both.0, refl, refl) in
    let first : Reports ((bytes ++ line) ++ 10 ∷ []) (number + 1) [] after =
    ReportsBy.line bytes number [] (Opening (Headed (head_with config total before))) opened line [] after (omega arith)
    (plain_unbroken line plain) (word_short word is_word)
    (subst (λ (x : List ℕ). AdvancesByLine (number + 1) (Opening (Headed (head_with config total before))) x [] after)
    (sym (plain_without_cr line plain)) goes) in
    let grown = length-append before (word ∷ []) in
    let more = words_reported words (before ++ word ∷ []) config total ((bytes ++ line) ++ 10 ∷ []) (number + 1) first
    (omega arith) (ap (λ (l : List NamedToken). are_accepted_after l words) (names_of-more before word) ∙ both.1) names.1
    (omega arith) in
    same_report (((bytes ++ line) ++ 10 ∷ []) ++ lines_of_words words) (bytes ++ ((line ++ 10 ∷ []) ++ lines_of_words words))
    ((number + 1) + length words) (number + suc (length words)) [] []
    (stage_at (Headed (head_with config total ((before ++ word ∷ []) ++ words))))
    (stage_at (Headed (head_with config total (before ++ word ∷ words))))
    (ap (λ (l : List ℕ). l ++ lines_of_words words) (append_assoc bytes line (10 ∷ []))
    ∙ append_assoc bytes (line ++ 10 ∷ []) (lines_of_words words))
    (omega arith) refl
    (ap (λ (l : List Word). stage_at (Headed (head_with config total l))) (append_assoc before (word ∷ []) words)) more

-- ---- the whole

name_reported : Reports (codes "daide-log 2\n") 1 [] (Opening (Named Match))
name_reported =
    ReportsBy.line [] 0 [] (Opening Unnamed) ReportsBy.none (codes "daide-log 2") [] (Opening (Named Match)) (omega arith)
    (plain_unbroken (codes "daide-log 2") refl) (omega arith) (Named Match, refl, refl, refl)

pub head_reported : (config : Config) (words : List Word) → config_fault config ≡ Ok tt → are_accepted words ≡ true →
    AllByRecursion HasName words → head_count words ≤ most_lines →
    Reports (head_text config words) (head_count words) [] (Playing Match (initial_state (limits_with config words) ∷ []))
unfolding head_text
head_reported config words good well names fits =
    let total = length words in
    let few = few_accepted words [] well (omega arith) in
    let line = config_text config total in
    let plain = config_plain config total good (omega arith) in
    let after = stage_at (Headed (head_with config total [])) in
    let goes : AdvancesByLine 2 (Opening (Named Match)) line [] after = (
      Headed (head_with config total []),
      ap (λ o. option_map (λ limits. Headed (record { version = Match; limits = limits; words = [] })) o)
          (config_back config total good (omega arith)),
      refl,
      refl,
    ) in
    let second : Reports ((codes "daide-log 2\n" ++ line) ++ 10 ∷ []) 2 [] after =
    ReportsBy.line (codes "daide-log 2\n") 1 [] (Opening (Named Match)) name_reported line [] after (omega arith)
    (plain_unbroken line plain) (config_short config total good (omega arith))
    (subst (λ (x : List ℕ). AdvancesByLine 2 (Opening (Named Match)) x [] after) (sym (plain_without_cr line plain)) goes) in
    same_report (((codes "daide-log 2\n" ++ line) ++ 10 ∷ []) ++ lines_of_words words)
    ((codes "daide-log 2\n" ++ (line ++ 10 ∷ [])) ++ lines_of_words words) (2 + total) (2 + total) [] []
    (stage_at (Headed (head_with config total words))) (Playing Match (initial_state (limits_with config words) ∷ []))
    (ap (λ (l : List ℕ). l ++ lines_of_words words) (append_assoc (codes "daide-log 2\n") line (10 ∷ []))) refl refl
    (all_there config words)
    (words_reported words [] config total ((codes "daide-log 2\n" ++ line) ++ 10 ∷ []) 2 second (omega arith) well names fits)
