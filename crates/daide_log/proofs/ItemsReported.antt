-- The report of a record: its calls and comments, under the numbers of its lines.
use Rattle.std.proofs.Common.{unsigned_abs}
use Rattle.daide_log.proofs.Common.{◌≡◌, ℕ, zero, suc, ◌+◌, ◌/◌, ◌%◌, ◌<◌, ◌≤◌, ◌&&◌, inl, cond, Bool, true, false}
use Rattle.daide_log.proofs.Common.{List, [], ◌∷◌, ◌++◌, length, map, take, codes, leb, Some, refl, sym, ap, ◌∙◌, subst}
use Rattle.daide_log.proofs.Common.{arith, append_assoc, append-nil, length-append, AllByRecursion, list_all, decimal}
use Rattle.daide_log.proofs.Common.{nat_tests, DateTime, Note, limits_with, SessionState, Effect, Runs, initial_state}
use Rattle.daide_log.proofs.Common.{most_lines, longest_line, parted_at_space, Quiet, match_event_of_line}
use Rattle.daide_log.proofs.Common.{match_event_of_parts, Match, ReportEntry, entries_of}
use Rattle.jiff_core.specs.declared.civil.date.Date.{Date}
use Rattle.jiff_core.specs.declared.civil.time.Time.{Time}
use Rattle.daide_io.specs.Ports.{event_of, events_of}
use Rattle.daide_log_lines.specs.LogLine.{is_comment}
use Rattle.daide_log.specs.Log.{ReportsBy, ReportsAllBy, IsReportBy, Playing, AdvancesByLine, Reports, source_in}
use Rattle.daide_log.specs.RecordText.{line_of_answer, count_of_answer, head_text, head_count}
use Rattle.daide_log.specs.RecordItem.{RecordItem, Called, Begun, Timed, IsItem, calls_in, lines_of_items, count_of_item, count_of_items}
use Rattle.daide_log.specs.RecordItem.{line_of_item, address_text, printable, longest_address, begun_text, time_text}
use Rattle.daide_log.specs.RecordItem.{record_text, record_count}
use Rattle.daide_log.specs.UtcText.{two_digits, three_digits, four_digits, date_text, clock_text, utc_text}
use Rattle.daide_log.specs.RecordLaw.{side_of_answer, notes_reported, notes_of, TellsBy, RecordsAreReported}
use Rattle.daide_log.proofs.ReportLemmas.{decimal_few}
use Rattle.daide_log.proofs.RecordCounts.{session_counts}
use Rattle.daide_log.proofs.RecordHead.{long_visible}
use Rattle.daide_log.proofs.RecordLines.{is_plain, both_all, visible_plain, plain_unbroken, plain_without_cr}
use Rattle.daide_log.proofs.RecordReported.{run_split, IsAsLogged, goes_as_logged, notes_of-append, notes_reported-append}
use Rattle.daide_log.proofs.RecordReported.{entries_reported, same_report, answer_reported, head_reported}

-- ---- the bytes of a comment

digit_plain : (n : ℕ) → is_plain (48 + n) ≡ true
digit_plain n = grind (arith, nat_tests)

two_plain : (n : ℕ) → list_all is_plain (two_digits n) ≡ true
two_plain n =
    ap (λ (b : Bool). b && (is_plain (48 + n % 10) && true)) (digit_plain (n / 10))
    ∙ ap (λ (b : Bool). b && true) (digit_plain (n % 10))

three_plain : (n : ℕ) → list_all is_plain (three_digits n) ≡ true
three_plain n =
    ap (λ (b : Bool). b && list_all is_plain (two_digits (n % 100))) (digit_plain (n / 100)) ∙ two_plain (n % 100)

four_plain : (n : ℕ) → list_all is_plain (four_digits n) ≡ true
four_plain n = both_all is_plain (two_digits (n / 100)) (two_digits (n % 100)) (two_plain (n / 100)) (two_plain (n % 100))

date_plain : (date : Date) → list_all is_plain (date_text date) ≡ true
date_plain date =
    let year = four_digits (unsigned_abs date.year) in
    both_all is_plain (year ++ 45 ∷ two_digits date.month) (45 ∷ two_digits date.day)
    (both_all is_plain year (45 ∷ two_digits date.month) (four_plain (unsigned_abs date.year)) (two_plain date.month))
    (two_plain date.day)

clock_plain : (time : Time) → list_all is_plain (clock_text time) ≡ true
clock_plain time =
    let minutes = two_digits time.hour ++ 58 ∷ two_digits time.minute in
    let part = time.subsec_nanosecond / 1000000 in
    both_all is_plain (minutes ++ 58 ∷ two_digits time.second) (46 ∷ three_digits part)
    (both_all is_plain minutes (58 ∷ two_digits time.second)
    (both_all is_plain (two_digits time.hour) (58 ∷ two_digits time.minute) (two_plain time.hour) (two_plain time.minute))
    (two_plain time.second)) (three_plain part)

utc_plain : (at : DateTime) → list_all is_plain (utc_text at) ≡ true
unfolding utc_text
utc_plain at =
    both_all is_plain (date_text at.date ++ 84 ∷ clock_text at.time) (90 ∷ [])
    (both_all is_plain (date_text at.date) (84 ∷ clock_text at.time) (date_plain at.date) (clock_plain at.time)) refl

utc_length : (at : DateTime) → length (utc_text at) ≡ 24
unfolding utc_text
utc_length at = refl

printable_plain : (byte : ℕ) → is_plain (printable byte) ≡ true
printable_plain byte = go (leb 32 byte) (leb byte 126) refl
  where
    go : (a b : Bool) → leb 32 byte ≡ a → is_plain (cond (a && b) byte 63) ≡ true
    go true true e = grind (arith, nat_tests)
    go true false e = refl
    go false b e = refl

all_printable : (bytes : List ℕ) → list_all is_plain (map printable bytes) ≡ true
all_printable [] = refl
all_printable (byte ∷ bytes) =
    ap (λ (b : Bool). b && list_all is_plain (map printable bytes)) (printable_plain byte) ∙ all_printable bytes

few_taken : (n : ℕ) (l : List ℕ) → length (map printable (take n l)) ≤ n
few_taken zero l = omega arith
few_taken (suc n) [] = omega arith
few_taken (suc n) (x ∷ l) = omega (arith, few_taken n l)

begun_plain : (session : ℕ) (address : List ℕ) (at : DateTime) → session < 4294967296 →
    list_all is_plain (begun_text session address at) ≡ true
unfolding begun_text
begun_plain session address at few =
    let a = codes "# session " ++ decimal session in
    let b = a ++ codes ", bot at " in
    let c = b ++ address_text address in
    both_all is_plain (c ++ codes ", ") (utc_text at)
    (both_all is_plain c (codes ", ")
    (both_all is_plain b (address_text address)
    (both_all is_plain a (codes ", bot at ")
    (both_all is_plain (codes "# session ") (decimal session) refl
    (visible_plain (decimal session) (long_visible session (omega (arith, few))))) refl)
    (all_printable (take longest_address address))) refl) (utc_plain at)

begun_short : (session : ℕ) (address : List ℕ) (at : DateTime) → session < 4294967296 →
    length (begun_text session address at) ≤ longest_line
unfolding begun_text
begun_short session address at few =
    let a = codes "# session " ++ decimal session in
    let b = a ++ codes ", bot at " in
    let c = b ++ address_text address in
    omega (
      arith,
      utc_length at,
      few_taken longest_address address,
      decimal_few session (omega (arith, few)),
      length-append (codes "# session ") (decimal session),
      length-append a (codes ", bot at "),
      length-append b (address_text address),
      length-append c (codes ", "),
      length-append (c ++ codes ", ") (utc_text at),
    )

begun_remarks : (session : ℕ) (address : List ℕ) (at : DateTime) → is_comment (begun_text session address at) ≡ true
unfolding begun_text
begun_remarks session address at = refl

time_plain : (at : DateTime) → list_all is_plain (time_text at) ≡ true
unfolding time_text
time_plain at = both_all is_plain (codes "# ") (utc_text at) refl (utc_plain at)

time_short : (at : DateTime) → length (time_text at) ≤ longest_line
unfolding time_text
time_short at = omega (arith, utc_length at, length-append (codes "# ") (utc_text at))

time_remarks : (at : DateTime) → is_comment (time_text at) ≡ true
unfolding time_text
time_remarks at = refl

-- ---- the line of a comment

comment_event : (text : List ℕ) → is_comment text ≡ true → match_event_of_line 1 text ≡ Some Quiet
unfolding match_event_of_line
comment_event text is =
    ap (λ (b : Bool). cond b (Some Quiet) (match_event_of_parts 1 (parted_at_space text))) is

comment_reported : (text bytes : List ℕ) (number : ℕ) (reported : List ReportEntry) (state : SessionState) →
    list_all is_plain text ≡ true → is_comment text ≡ true → length text ≤ longest_line → number + 1 ≤ most_lines →
    Reports bytes number reported (Playing Match (state ∷ [])) →
    Reports (bytes ++ (text ++ 10 ∷ [])) (number + 1) reported (Playing Match (state ∷ []))
comment_reported text bytes number reported state plain is short fits h =
    let stage = Playing Match (state ∷ []) in
    let goes : AdvancesByLine (number + 1) stage text [] stage =
    (Quiet, comment_event text is, state ∷ [], (refl, refl), refl) in
    same_report ((bytes ++ text) ++ 10 ∷ []) (bytes ++ (text ++ 10 ∷ [])) (number + 1) (number + 1) (reported ++ []) reported
    stage stage (append_assoc bytes text (10 ∷ [])) refl (append-nil reported) refl
    (ReportsBy.line bytes number reported stage h text [] stage (omega (arith, fits)) (plain_unbroken text plain) short
    (subst (λ (x : List ℕ). AdvancesByLine (number + 1) stage x [] stage) (sym (plain_without_cr text plain)) goes))

-- ---- all items

items_told : (items : List RecordItem) (lines : ℕ) (old new : SessionState) (moves : List Effect) →
    Runs old (events_of (calls_in items)) moves new →
    (reported : List ReportEntry) × TellsBy lines old items reported new × (notes_reported reported ≡ notes_of moves)
items_told [] lines old new moves r = ([], (refl, r.1), sym (ap notes_of r.0))
items_told (Called answer ∷ items) lines old new moves r =
    let s = run_split (event_of answer) (events_of (calls_in items)) old new moves r in
    let later = items_told items (lines + count_of_answer answer) s.0 new s.2 s.4 in
    let here = entries_of (source_in Match (lines + 1) 1) (side_of_answer answer) s.1 in (
      here ++ later.0,
      (s.0, s.1, later.0, s.3, later.1, refl),
      notes_reported-append here later.0
          ∙ ap (λ (l : List Note). l ++ notes_reported later.0) (entries_reported (lines + 1) (side_of_answer answer) s.1)
          ∙ ap (λ (l : List Note). notes_of s.1 ++ l) later.2 ∙ sym (notes_of-append s.1 s.2) ∙ ap notes_of (sym s.5),
    )
items_told (Begun session address at ∷ items) lines old new moves r = items_told items (lines + 1) old new moves r
items_told (Timed at ∷ items) lines old new moves r = items_told items (lines + 1) old new moves r

-- the report goes on after one item
abbrev GoesOnAfter : RecordItem → List RecordItem → List ℕ → ℕ → List ReportEntry → List ReportEntry → Type 0
GoesOnAfter item items bytes number reported more =
    (after : SessionState)
    × Reports (bytes ++ (line_of_item item ++ lines_of_items items)) (number + (count_of_item item + count_of_items items))
    (reported ++ more) (Playing Match (after ∷ []))

-- after a comment's line
after_comment : (item : RecordItem) (items : List RecordItem) (text bytes : List ℕ) (number : ℕ)
    (reported more : List ReportEntry) → line_of_item item ≡ text ++ 10 ∷ [] → count_of_item item ≡ 1 →
    (after : SessionState) × Reports ((bytes ++ (text ++ 10 ∷ [])) ++ lines_of_items items) ((number + 1) + count_of_items items)
    (reported ++ more) (Playing Match (after ∷ [])) → GoesOnAfter item items bytes number reported more
after_comment item items text bytes number reported more line one all = (
  all.0,
  same_report ((bytes ++ (text ++ 10 ∷ [])) ++ lines_of_items items) (bytes ++ (line_of_item item ++ lines_of_items items))
      ((number + 1) + count_of_items items) (number + (count_of_item item + count_of_items items)) (reported ++ more)
      (reported ++ more) (Playing Match (all.0 ∷ [])) (Playing Match (all.0 ∷ []))
      (append_assoc bytes (text ++ 10 ∷ []) (lines_of_items items)
      ∙ ap (λ (l : List ℕ). bytes ++ (l ++ lines_of_items items)) (sym line)) (omega (arith, one)) refl refl all.1,
)

items_reported : (items : List RecordItem) (bytes : List ℕ) (number : ℕ) (reported more : List ReportEntry)
    (logged old new : SessionState) → AllByRecursion IsItem items → number + count_of_items items ≤ most_lines →
    Reports bytes number reported (Playing Match (logged ∷ [])) → IsAsLogged logged old →
    TellsBy number old items more new →
    (after : SessionState) × Reports (bytes ++ lines_of_items items) (number + count_of_items items) (reported ++ more)
    (Playing Match (after ∷ []))
items_reported [] bytes number reported more logged old new fit fits h alike t = (
  logged,
  same_report bytes (bytes ++ []) number (number + 0) reported (reported ++ more) (Playing Match (logged ∷ []))
      (Playing Match (logged ∷ [])) (sym (append-nil bytes)) (omega arith)
      (sym (ap (λ (l : List ReportEntry). reported ++ l) t.0 ∙ append-nil reported)) refl h,
)
items_reported (Called answer ∷ items) bytes number reported more logged old new fit fits h alike t =
    let line = line_of_answer answer in
    let count = count_of_answer answer in
    let here = entries_of (source_in Match (number + 1) 1) (side_of_answer answer) t.1 in
    let goes = goes_as_logged answer logged old t.0 t.1 alike t.3 in
    let first = answer_reported answer bytes number reported logged goes.logged t.1 fit.0 (omega arith) h goes.runs in
    let all = items_reported items (bytes ++ line) (number + count) (reported ++ here) t.2 goes.logged t.0 new fit.1
    (omega arith) first goes.alike t.4 in (
      all.0,
      same_report ((bytes ++ line) ++ lines_of_items items) (bytes ++ (line ++ lines_of_items items))
          ((number + count) + count_of_items items) (number + (count + count_of_items items)) ((reported ++ here) ++ t.2)
          (reported ++ more) (Playing Match (all.0 ∷ [])) (Playing Match (all.0 ∷ []))
          (append_assoc bytes line (lines_of_items items)) (omega arith)
          (append_assoc reported here t.2 ∙ ap (λ (l : List ReportEntry). reported ++ l) (sym t.5)) refl all.1,
    )
items_reported (Begun session address at ∷ items) bytes number reported more logged old new fit fits h alike t =
    let text = begun_text session address at in
    after_comment (Begun session address at) items text bytes number reported more refl refl
    (items_reported items (bytes ++ (text ++ 10 ∷ [])) (number + 1) reported more logged old new fit.1 (omega (arith, fits))
    (comment_reported text bytes number reported logged (begun_plain session address at fit.0) (begun_remarks session address at)
    (begun_short session address at fit.0) (omega (arith, fits)) h) alike t)
items_reported (Timed at ∷ items) bytes number reported more logged old new fit fits h alike t =
    let text = time_text at in
    after_comment (Timed at) items text bytes number reported more refl refl
    (items_reported items (bytes ++ (text ++ 10 ∷ [])) (number + 1) reported more logged old new fit.1 (omega (arith, fits))
    (comment_reported text bytes number reported logged (time_plain at) (time_remarks at) (time_short at) (omega (arith, fits)) h)
    alike t)

pub record_reported : RecordsAreReported
record_reported config words items moves state good well names fit few run =
    let start = initial_state (limits_with config words) in
    let reported = items_told items (head_count words) start state moves run in
    let head = head_reported config words good well names (omega (arith, few)) in
    let all = items_reported items (head_text config words) (head_count words) [] reported.0 start start state fit few
    head (inl refl) reported.1 in
    record {
      reported = reported.0;
      by_lines = reported.1;
      notes = reported.2;
      counts = session_counts reported.0 moves reported.2;
      report = IsReportBy.whole (record_text config words items) (record_count words items) reported.0 Match (all.0 ∷ [])
          (ReportsAllBy.ended (record_text config words items) (record_count words items) reported.0
          (Playing Match (all.0 ∷ [])) all.1);
    }
