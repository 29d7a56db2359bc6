-- Every log has a report, whatever its bytes: it is split at its line feeds, and each line is accepted or bad.
use Rattle.daide_log.proofs.Common.{◌≡◌, ℕ, zero, suc, ◌+◌, ◌-◌, ◌<◌, ◌≤◌, ◌⊎◌, inl, inr, Bool, true, false, cond, eqb}
use Rattle.daide_log.proofs.Common.{leb, ◌≢◌, List, [], ◌∷◌, ◌++◌, length, replicate, codes, Option, Some, None, Result}
use Rattle.daide_log.proofs.Common.{refl, sym, ap, ◌∙◌, subst, arith, append-nil, append_assoc, length-append, ◌&&◌}
use Rattle.daide_log.proofs.Common.{slice_get, slice_set, option_map, is_ok, leb-true, cases_lt, eqb_tells, same_Some}
use Rattle.daide_log.proofs.Common.{Word, grammar_words, names_of, are_accepted, word_fault, Limits, SessionState}
use Rattle.daide_log.proofs.Common.{initial_state, runs_limits, Config, limits_with, LogFault, LogEvent, IsUnbroken}
use Rattle.daide_log.proofs.Common.{longest_line, most_lines, without_cr, plain_number, parted_at_space, event_of_line}
use Rattle.daide_log.proofs.Common.{MatchEvent, Of, Quiet, loud, within, event_of_session, match_event_of_parts}
use Rattle.daide_log.proofs.Common.{match_event_of_line, Version, Single, Match, MatchConfig, Summary, config_of_line}
use Rattle.daide_log.proofs.Common.{match_config_of_line, match_config_of_numbers, Preamble, Heading, Unnamed, Named}
use Rattle.daide_log.proofs.Common.{Headed, single_session, version_of, append_word, heading_after, has_all_words}
use Rattle.daide_log.proofs.Common.{ReportEntry, events_of_line, side_of, entries_of}
use Rattle.daide_words.proofs.AcceptedCodes.{accepted_free}
use Rattle.daide_words.proofs.WordLists.{accepted-append}
use Rattle.daide_protocol.proofs.WordedRuns.{run_over}
use Rattle.daide_log_lines.specs.LogLine.{Parted, strip_prefix, is_comment}
use Rattle.daide_log_lines.specs.WordLine.{word_of_line}
use Rattle.daide_log.specs.ConfigLine.{config_of_numbers, match_config_of_rest, match_config_of_level}
use Rattle.daide_log.specs.ConfigLine.{match_config_of_body, match_config_of_depth, match_config_of_counts}
use Rattle.daide_log.specs.Heading.{limits_in}
use Rattle.daide_log.specs.Log.{ReportsBy, ReportsAllBy, IsReportBy, LogState, Opening, Playing, state_after_preamble, stage_at, event_in, source_in, AdvancesByLine, IsBad, plain, reads_cut}
use Rattle.daide_log.specs.Log.{Reports, ReportsAll, IsReport}

-- ---- numbers of sessions

within_both : (most : ℕ) (o : Option ℕ) (n : ℕ) → within 1 most o ≡ Some n → (0 < n) × (n ≤ most)
within_both most None n e = absurd (cc)
within_both most (Some k) n e = go (leb 1 k) (leb k most) refl refl e
  where
    go : (a b : Bool) → leb 1 k ≡ a → leb k most ≡ b → cond (a && b) (Some k) None ≡ Some n → (0 < n) × (n ≤ most)
    go true true h m w =
        let low = leb-true 1 k h in
        let high = leb-true k most m in
        let same = same_Some k n w in
        (omega (arith, low, same), omega (arith, high, same))
    go true false h m w = absurd (cc)
    go false b h m w = absurd (cc)

numbers_reported : (config : Option Config) (sessions words : Option ℕ) (limits : MatchConfig) →
    match_config_of_numbers config sessions words ≡ Some limits → sessions ≡ Some limits.sessions
numbers_reported None sessions words limits e = absurd (cc)
numbers_reported (Some config) None words limits e = absurd (cc)
numbers_reported (Some config) (Some sessions) None limits e = absurd (cc)
numbers_reported (Some config) (Some sessions) (Some words) limits e =
    ap (λ (l : MatchConfig). Some l.sessions)
    (same_Some (record { config = config; sessions = sessions; words = words }) limits e)

by_counts : (config : Option Config) (o : Option Parted) (limits : MatchConfig) →
    match_config_of_counts config o ≡ Some limits → 0 < limits.sessions
by_counts config None limits e = absurd (cc)
by_counts config (Some parted) limits e =
    (within_both 256 (plain_number parted.word) limits.sessions
    (numbers_reported config (within 1 256 (plain_number parted.word)) (within 0 16 (plain_number parted.rest)) limits e)).0

by_depth : (level body : List ℕ) (o : Option Parted) (limits : MatchConfig) →
    match_config_of_depth level body o ≡ Some limits → 0 < limits.sessions
by_depth level body None limits e = absurd (cc)
by_depth level body (Some parted) limits e =
    by_counts (config_of_numbers (plain_number level) (plain_number body) (plain_number parted.word))
    (parted_at_space parted.rest) limits e

by_body : (level : List ℕ) (o : Option Parted) (limits : MatchConfig) →
    match_config_of_body level o ≡ Some limits → 0 < limits.sessions
by_body level None limits e = absurd (cc)
by_body level (Some parted) limits e = by_depth level parted.word (parted_at_space parted.rest) limits e

by_level : (o : Option Parted) (limits : MatchConfig) → match_config_of_level o ≡ Some limits → 0 < limits.sessions
by_level None limits e = absurd (cc)
by_level (Some parted) limits e = by_body parted.word (parted_at_space parted.rest) limits e

by_rest : (o : Option (List ℕ)) (limits : MatchConfig) → match_config_of_rest o ≡ Some limits → 0 < limits.sessions
by_rest None limits e = absurd (cc)
by_rest (Some rest) limits e = by_level (parted_at_space rest) limits e

some_sessions : (line : List ℕ) (limits : MatchConfig) → match_config_of_line line ≡ Some limits → 0 < limits.sessions
unfolding match_config_of_line
some_sessions line limits e = by_rest (strip_prefix (codes "config ") line) limits e

limits_reported : (version : Version) (line : List ℕ) (limits : MatchConfig) → limits_in version line ≡ Some limits →
    0 < limits.sessions
limits_reported Single line limits e = go (config_of_line line) e
  where
    go : (o : Option Config) → option_map single_session o ≡ Some limits → 0 < limits.sessions
    go None e = absurd (cc)
    go (Some config) e =
        let one = ap (λ (l : MatchConfig). l.sessions) (same_Some (single_session config) limits e) in omega (arith, one)
limits_reported Match line limits e = some_sessions line limits e

-- the session of an event exists
of_match : (sessions : ℕ) (line : List ℕ) (session : ℕ) (event : LogEvent) →
    match_event_of_line sessions line ≡ Some (Of session event) → (0 < session) × (session ≤ sessions)
unfolding match_event_of_line
of_match sessions line session event e = go (is_comment line) e
  where
    numbers : (w : Option ℕ) (said : Option LogEvent) → event_of_session w said ≡ Some (Of session event) →
        w ≡ Some session
    numbers None said k = absurd (cc)
    numbers (Some n) None k = absurd (cc)
    numbers (Some n) (Some x) k = cc

    parts : (o : Option Parted) → match_event_of_parts sessions o ≡ Some (Of session event) →
        (0 < session) × (session ≤ sessions)
    parts None k = absurd (cc)
    parts (Some parted) k =
        within_both sessions (plain_number parted.word) session
        (numbers (within 1 sessions (plain_number parted.word)) (loud (event_of_line parted.rest)) k)

    go : (b : Bool) → cond b (Some Quiet) (match_event_of_parts sessions (parted_at_space line))
        ≡ Some (Of session event) → (0 < session) × (session ≤ sessions)
    go true k = absurd (cc)
    go false k = parts (parted_at_space line) k

is_there : (version : Version) (sessions : ℕ) (line : List ℕ) (session : ℕ) (event : LogEvent) → 0 < sessions →
    event_in version sessions line ≡ Some (Of session event) → (0 < session) × (session ≤ sessions)
is_there Single sessions line session event some e = go (event_of_line line) e
  where
    go : (o : Option LogEvent) → option_map (Of 1) o ≡ Some (Of session event) → (0 < session) × (session ≤ sessions)
    go None k = absurd (cc)
    go (Some x) k = let one : 1 ≡ session = cc in (omega (arith, one), omega (arith, one, some))
is_there Match sessions line session event some e = of_match sessions line session event e

-- ---- properties of a log while it is read

-- each session has these words
abbrev Speak : List Word → List SessionState → Type 0
Speak words [] = Unit {0}
Speak words (state ∷ states) = (state.limits.words ≡ grammar_words words) × Speak words states

abbrev GoodHead : Heading → Type 0
GoodHead Unnamed = Unit {0}
GoodHead (Named version) = Unit {0}
GoodHead (Headed head) = (are_accepted head.words ≡ true) × (0 < head.limits.sessions)

abbrev Good : LogState → Type 0
Good (Opening heading) = GoodHead heading
Good (Playing version states) =
    (0 < length states) × ((words : List Word) × (are_accepted words ≡ true) × Speak words states)

speak_replicate : (words : List Word) (limits : Limits) (n : ℕ) → limits.words ≡ grammar_words words →
    Speak words (replicate n (initial_state limits))
speak_replicate words limits zero e = tt
speak_replicate words limits (suc n) e = (e, speak_replicate words limits n e)

some_replicate : (n : ℕ) (x : SessionState) → 0 < n → 0 < length (replicate n x)
some_replicate zero x h = absurd (omega (arith, h))
some_replicate (suc n) x h = omega arith

good_at : (heading : Heading) → GoodHead heading → Good (stage_at heading)
good_at Unnamed h = tt
good_at (Named version) h = tt
good_at (Headed head) h = go (has_all_words head)
  where
    go : (b : Bool) → Good (cond b (state_after_preamble head) (Opening (Headed head)))
    go true = (
      some_replicate head.limits.sessions (initial_state (limits_with head.limits.config head.words)) h.1,
      (
        head.words,
        h.0,
        speak_replicate head.words (limits_with head.limits.config head.words) head.limits.sessions refl,
      ),
    )
    go false = h

abbrev head_by : Version → MatchConfig → Heading
head_by version limits = Headed (record { version = version; limits = limits; words = [] })

abbrev head_more : Preamble → List Word → Heading
head_more head words = Headed (record { version = head.version; limits = head.limits; words = words })

good_after : (heading : Heading) (line : List ℕ) (new : Heading) → GoodHead heading →
    heading_after heading line ≡ Some new → GoodHead new
good_after Unnamed line new h e = go (version_of line) e
  where
    go : (o : Option Version) → option_map Named o ≡ Some new → GoodHead new
    go None k = absurd (cc)
    go (Some version) k = subst GoodHead (same_Some (Named version) new k) tt
good_after (Named version) line new h e = go (limits_in version line) refl e
  where
    go : (o : Option MatchConfig) → limits_in version line ≡ o → option_map (head_by version) o ≡ Some new →
        GoodHead new
    go None reported k = absurd (cc)
    go (Some limits) reported k =
        subst GoodHead (same_Some (head_by version limits) new k) (refl, limits_reported version line limits reported)
good_after (Headed head) line new h e = go (word_of_line line) e
  where
    go : (o : Option Word) → option_map (head_more head) (append_word head.words o) ≡ Some new → GoodHead new
    go None k = absurd (cc)
    go (Some word) k = by_fault (is_ok (word_fault (names_of head.words) word)) refl k
      where
        by_fault : (b : Bool) → is_ok (word_fault (names_of head.words) word) ≡ b →
            option_map (head_more head) (cond b (Some (head.words ++ word ∷ [])) None) ≡ Some new → GoodHead new
        by_fault true ok k =
            subst GoodHead (same_Some (head_more head (head.words ++ word ∷ [])) new k)
            (accepted-append [] head.words word h.0 ok, h.1)
        by_fault false ok k = absurd (cc)

-- ---- one line

get_at : (l : List SessionState) (i : ℕ) → i < length l → (x : SessionState) × (slice_get l i ≡ Some x)
get_at [] i h = absurd (omega (arith, h))
get_at (x ∷ l) zero h = (x, refl)
get_at (x ∷ l) (suc i) h = get_at l i (omega (arith, h))

speak_at : (words : List Word) (l : List SessionState) (i : ℕ) (x : SessionState) → Speak words l →
    slice_get l i ≡ Some x → x.limits.words ≡ grammar_words words
speak_at words [] i x h e = absurd (cc)
speak_at words (y ∷ l) zero x h e = ap (λ (s : SessionState). s.limits.words) (sym (same_Some y x e)) ∙ h.0
speak_at words (y ∷ l) (suc i) x h e = speak_at words l i x h.1 e

speak_set : (words : List Word) (l : List SessionState) (i : ℕ) (x : SessionState) → Speak words l →
    x.limits.words ≡ grammar_words words → Speak words (slice_set l i x)
speak_set words [] i x h e = tt
speak_set words (y ∷ l) zero x h e = (e, h.1)
speak_set words (y ∷ l) (suc i) x h e = (h.0, speak_set words l i x h.1 e)

some_set : (l : List SessionState) (i : ℕ) (x : SessionState) → 0 < length l → 0 < length (slice_set l i x)
some_set [] i x h = absurd (omega (arith, h))
some_set (y ∷ l) zero x h = omega arith
some_set (y ∷ l) (suc i) x h = omega arith

record Next (number : ℕ) (old : LogState) (line : List ℕ) : Type 0 where
  reported : List ReportEntry
  new : LogState
  on : AdvancesByLine number old line reported new
  good : Good new

next_line : (number : ℕ) (old : LogState) (line : List ℕ) → Good old → Next number old line ⊎ IsBad old line
next_line number (Opening heading) line h = go (heading_after heading line) refl
  where
    go : (o : Option Heading) → heading_after heading line ≡ o →
        Next number (Opening heading) line ⊎ (heading_after heading line ≡ None)
    go None e = inr e
    go (Some new) e = inl (record {
      reported = [];
      new = stage_at new;
      on = (new, e, refl, refl);
      good = good_at new (good_after heading line new h e);
    })
next_line number (Playing version states) line h = go (event_in version (length states) line) refl
  where
    go : (o : Option MatchEvent) → event_in version (length states) line ≡ o →
        Next number (Playing version states) line ⊎ (event_in version (length states) line ≡ None)
    go None e = inr e
    go (Some Quiet) e = inl (record {
      reported = [];
      new = Playing version states;
      on = (Quiet, e, states, (refl, refl), refl);
      good = h;
    })
    go (Some (Of session event)) e =
        let there = is_there version (length states) line session event h.0 e in
        let some = there.0 in
        let few = there.1 in
        let at = get_at states (session - 1) (omega (arith, some, few)) in
        let words = h.1.0 in
        let same = speak_at words states (session - 1) at.0 h.1.2 at.1 in
        let run = run_over (grammar_words words) (accepted_free words h.1.1) at.0 (events_of_line event) same in
        let kept = runs_limits (events_of_line event) at.0 run.1 run.0 run.2 in
        inl (record {
          reported = entries_of (source_in version number session) (side_of event) run.0;
          new = Playing version (slice_set states (session - 1) run.1);
          on = (
            Of session event,
            e,
            slice_set states (session - 1) run.1,
            (at.0, run.1, run.0, at.1, run.2, refl, refl),
            refl,
          );
          good = (
            some_set states (session - 1) run.1 h.0,
            (
              words,
              h.1.1,
              speak_set words states (session - 1) run.1 h.1.2
                  (ap (λ (l : Limits). l.words) kept ∙ same),
            ),
          );
        })

-- ---- all lines

data Cut (rest : List ℕ) : Type 0 where
  unfed : IsUnbroken rest → Cut rest
  fed : (line after : List ℕ) → rest ≡ line ++ 10 ∷ after → IsUnbroken line → Cut rest

cut : (rest : List ℕ) → Cut rest
cut [] = unfed tt
cut (x ∷ rest) = go (eqb_tells x 10) (cut rest)
  where
    go : ((eqb x 10 ≡ true) × (x ≡ 10)) ⊎ ((eqb x 10 ≡ false) × (x ≢ 10)) → Cut rest → Cut (x ∷ rest)
    go (inl is) later = fed [] rest (ap (λ (n : ℕ). n ∷ rest) is.1) tt
    go (inr lack) (unfed whole) = unfed (lack.1, whole)
    go (inr lack) (fed line after e whole) = fed (x ∷ line) after (ap (λ (l : List ℕ). x ∷ l) e) (lack.1, whole)

abbrev HasReport : List ℕ → Type 0
HasReport log = (text : List ℕ) × ((answer : Result Summary LogFault) × IsReport log text answer)

ended_at : (log : List ℕ) (number : ℕ) (reported : List ReportEntry) (stage : LogState) → ReportsAll log number reported stage →
    HasReport log
ended_at log number reported (Opening heading) all = (_, (_, IsReportBy.cut_short log number reported (Opening heading) all tt))
ended_at log number reported (Playing version sessions) all = (_, (_, IsReportBy.whole log number reported version sessions all))

regroup : (a b c : List ℕ) → (a ++ b ++ 10 ∷ []) ++ c ≡ a ++ (b ++ 10 ∷ c)
regroup a b c = simp append_assoc

-- in the plain report no line is cut
pub plain_uncut : (stage : LogState) → reads_cut plain stage ≡ false
plain_uncut (Opening heading) = refl
plain_uncut (Playing version sessions) = refl

-- the rest, with at most this number of bytes, has a report after what was read
abbrev ReadsOn : ℕ → Type 0
ReadsOn fuel = (bytes rest : List ℕ) (number : ℕ) (reported : List ReportEntry) (stage : LogState) → length rest < fuel →
    Reports bytes number reported stage → number ≤ most_lines → Good stage → HasReport (bytes ++ rest)

read_some : (fuel : ℕ) → ReadsOn fuel → (bytes : List ℕ) (x : ℕ) (rest : List ℕ) (number : ℕ) (reported : List ReportEntry)
    (stage : LogState) → length (x ∷ rest) < suc fuel → Reports bytes number reported stage → number ≤ most_lines → Good stage →
    HasReport (bytes ++ x ∷ rest)
read_some fuel again bytes x rest number reported stage less reports few good = by_number (cases_lt number most_lines)
  where
    unfed_on : number < most_lines → IsUnbroken (x ∷ rest) → HasReport (bytes ++ x ∷ rest)
    unfed_on more whole = by_length (cases_lt longest_line (length (x ∷ rest)))
      where
        by_line : length (x ∷ rest) ≤ longest_line →
            Next (number + 1) stage (x ∷ rest) ⊎ IsBad stage (x ∷ rest) → HasReport (bytes ++ x ∷ rest)
        by_line short (inl next) =
            ended_at (bytes ++ x ∷ rest) (number + 1) (reported ++ next.reported) next.new
            (ReportsAllBy.unended bytes number reported stage reports (x ∷ rest) next.reported next.new more (omega arith) whole
            short next.on)
        by_line short (inr bad) =
            (_, (_, IsReportBy.bad_last bytes number reported stage reports (x ∷ rest) more (omega arith) whole short bad (plain_uncut stage)))

        by_length : (longest_line < length (x ∷ rest)) ⊎ (length (x ∷ rest) ≤ longest_line) →
            HasReport (bytes ++ x ∷ rest)
        by_length (inl longer) =
            subst HasReport (append-nil (bytes ++ x ∷ rest))
            (_, (_, IsReportBy.too_long bytes number reported stage reports (x ∷ rest) [] more whole longer))
        by_length (inr short) = by_line short (next_line (number + 1) stage (x ∷ rest) good)

    fed_on : number < most_lines → (line after : List ℕ) → x ∷ rest ≡ line ++ 10 ∷ after → IsUnbroken line →
        HasReport (bytes ++ (line ++ 10 ∷ after))
    fed_on more line after e whole = by_length (cases_lt longest_line (length line))
      where
        by_line : length line ≤ longest_line →
            Next (number + 1) stage (without_cr line) ⊎ IsBad stage (without_cr line) →
            HasReport (bytes ++ (line ++ 10 ∷ after))
        by_line short (inl next) =
            subst HasReport (regroup bytes line after)
            (again (bytes ++ line ++ 10 ∷ []) after (number + 1) (reported ++ next.reported) next.new
            (omega (arith, less, ap length e, length-append line (10 ∷ after)))
            (ReportsBy.line bytes number reported stage reports line next.reported next.new more whole short next.on)
            (omega (arith, more)) next.good)
        by_line short (inr bad) =
            subst HasReport (append_assoc bytes line (10 ∷ after))
            (_, (_, IsReportBy.bad bytes number reported stage reports line after more whole short bad))

        by_length : (longest_line < length line) ⊎ (length line ≤ longest_line) →
            HasReport (bytes ++ (line ++ 10 ∷ after))
        by_length (inl longer) =
            subst HasReport (append_assoc bytes line (10 ∷ after))
            (_, (_, IsReportBy.too_long bytes number reported stage reports line (10 ∷ after) more whole longer))
        by_length (inr short) = by_line short (next_line (number + 1) stage (without_cr line) good)

    by_cut : number < most_lines → Cut (x ∷ rest) → HasReport (bytes ++ x ∷ rest)
    by_cut more (unfed whole) = unfed_on more whole
    by_cut more (fed line after e whole) =
        subst (λ (l : List ℕ). HasReport (bytes ++ l)) (sym e) (fed_on more line after e whole)

    by_number : (number < most_lines) ⊎ (most_lines ≤ number) → HasReport (bytes ++ x ∷ rest)
    by_number (inl more) = by_cut more (cut (x ∷ rest))
    by_number (inr all) =
        let full : number ≡ most_lines = omega (arith, few, all) in (
          _,
          (
            _,
            IsReportBy.too_many bytes reported stage (subst (λ (n : ℕ). Reports bytes n reported stage) full reports) (x ∷ rest)
                (omega arith),
          ),
        )

read_on : (fuel : ℕ) → ReadsOn fuel
read_on zero bytes rest number reported stage less reports few good = absurd (omega (arith, less))
read_on (suc fuel) bytes [] number reported stage less reports few good =
    subst HasReport (sym (append-nil bytes))
    (ended_at bytes number reported stage (ReportsAllBy.ended bytes number reported stage reports))
read_on (suc fuel) bytes (x ∷ rest) number reported stage less reports few good =
    read_some fuel (read_on fuel) bytes x rest number reported stage less reports few good

pub some_report : (log : List ℕ) → (text : List ℕ) × (answer : Result Summary LogFault) × IsReport log text answer
some_report log =
    let has = read_on (suc (length log)) [] log 0 [] (Opening Unnamed) (omega arith) ReportsBy.none (omega arith) tt in
    (has.0, has.1.0, has.1.1)
