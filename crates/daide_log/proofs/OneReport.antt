-- A log has one report: its bytes determine the ends of its lines, each line has one effect, and a log stops in one
-- way.
use Rattle.daide_log.proofs.Common.{◌≡◌, ℕ, ◌+◌, ◌-◌, ◌<◌, ◌≤◌, ◌⊎◌, inl, inr, List, [], ◌∷◌, ◌++◌, length, Option}
use Rattle.daide_log.proofs.Common.{Some, None, Result, Ok, Err, refl, sym, ap, ◌∙◌, subst, arith, append-nil}
use Rattle.daide_log.proofs.Common.{append_assoc, length-append, slice_set, same_Some, SessionState, Effect, Runs}
use Rattle.daide_log.proofs.Common.{one_run, LogFault, BadLine, LineTooLong, TooManyLines, IsUnbroken, longest_line}
use Rattle.daide_log.proofs.Common.{most_lines, without_cr, MatchEvent, Of, Quiet, Version, Summary, Heading, Unnamed}
use Rattle.daide_log.proofs.Common.{nothing_counted, ReportEntry, events_of_line, side_of, entries_of, lines_of}
use Rattle.daide_log.proofs.Common.{counted_all, summary_line}
use Rattle.daide_log.specs.Log.{ReportsBy, ReportsAllBy, IsReportBy, LogState, Opening, Playing, stage_at, source_in, IsPlayed, AdvancesByLine, IsBad, IsOpening}
use Rattle.daide_log.specs.Log.{Reports, ReportsAll, IsReport}
use Rattle.daide_log.proofs.StepLemmas.{no_feed, one_end}

-- ---- one line

one_played : (version : Version) (line : ℕ) (event : MatchEvent) (old : List SessionState) (a b : List ReportEntry)
    (new other : List SessionState) → IsPlayed version line event old a new → IsPlayed version line event old b other →
    (a ≡ b) × (new ≡ other)
one_played version line Quiet old a b new other p q = (p.0 ∙ sym q.0, p.1 ∙ sym q.1)
one_played version line (Of session event) old a b new other p q =
    let before : p.0 ≡ q.0 = same_Some p.0 q.0 (sym p.3 ∙ q.3) in
    let run = one_run (events_of_line event) q.0 p.2 q.2 p.1 q.1
    (subst (λ (s : SessionState). Runs s (events_of_line event) p.2 p.1) before p.4) q.4 in (
      p.5 ∙ ap (λ (moves : List Effect). entries_of (source_in version line session) (side_of event) moves) run.0
          ∙ sym q.5,
      p.6 ∙ ap (λ (s : SessionState). slice_set old (session - 1) s) run.1 ∙ sym q.6,
    )

one_step : (number : ℕ) (old : LogState) (line : List ℕ) (a b : List ReportEntry) (new other : LogState) →
    AdvancesByLine number old line a new → AdvancesByLine number old line b other → (a ≡ b) × (new ≡ other)
one_step number (Opening heading) line a b new other p q =
    (p.2 ∙ sym q.2, p.3 ∙ ap stage_at (same_Some p.0 q.0 (sym p.1 ∙ q.1)) ∙ sym q.3)
one_step number (Playing version old) line a b new other p q =
    let event : p.0 ≡ q.0 = same_Some p.0 q.0 (sym p.1 ∙ q.1) in
    let both = one_played version number q.0 old a b p.2 q.2
    (subst (λ (e : MatchEvent). IsPlayed version number e old a p.2) event p.3) q.3 in
    (both.0, p.4 ∙ ap (Playing version) both.1 ∙ sym q.4)

not_bad : (number : ℕ) (old : LogState) (line : List ℕ) (reported : List ReportEntry) (new : LogState) → AdvancesByLine number old line reported new →
    IsBad old line → ⊥
not_bad number (Opening heading) line reported new p bad =
    let e : ◌≡◌ {A = Option Heading} (Some p.0) None = sym p.1 ∙ bad in absurd cc
not_bad number (Playing version old) line reported new p bad =
    let e : ◌≡◌ {A = Option MatchEvent} (Some p.0) None = sym p.1 ∙ bad in absurd cc

-- ---- the lines that have their line feed

abbrev pub feeds : List (List ℕ) → List ℕ
feeds [] = []
feeds (line ∷ lines) = line ++ 10 ∷ feeds lines

-- these lines, after this number of lines, take the log to the new state with these entries
abbrev pub Goes : ℕ → LogState → List (List ℕ) → List ReportEntry → LogState → Type 0
Goes number old [] reported new = (reported ≡ []) × (new ≡ old)
Goes number old (line ∷ lines) reported new =
    (mid : LogState) × (first : List ReportEntry) × (later : List ReportEntry) × (number < most_lines) × IsUnbroken line
    × (length line ≤ longest_line) × AdvancesByLine (number + 1) old (without_cr line) first mid
    × Goes (number + 1) mid lines later new × (reported ≡ first ++ later)

goes_then : (lines : List (List ℕ)) (number count : ℕ) (line : List ℕ) (reported more : List ReportEntry) (old mid new : LogState) →
    Goes number old lines reported mid → number + length lines ≡ count → count < most_lines → IsUnbroken line →
    length line ≤ longest_line → AdvancesByLine (count + 1) mid (without_cr line) more new →
    Goes number old (lines ++ line ∷ []) (reported ++ more) new
goes_then [] number count line reported more old mid new h e few unbroken short on = (
  new,
  more,
  [],
  omega (arith, e, few),
  unbroken,
  short,
  subst (λ (stage : LogState). AdvancesByLine (number + 1) stage (without_cr line) more new) h.1
      (subst (λ (n : ℕ). AdvancesByLine (n + 1) mid (without_cr line) more new) (omega (arith, e)) on),
  (refl, refl),
  ap (λ (l : List ReportEntry). l ++ more) h.0 ∙ sym (append-nil more),
)
goes_then (l ∷ lines) number count line reported more old mid new h e few unbroken short on = (
  h.0,
  h.1,
  h.2 ++ more,
  h.3,
  h.4,
  h.5,
  h.6,
  goes_then lines (number + 1) count line h.2 more h.0 mid new h.7 (omega (arith, e)) few unbroken short on,
  ap (λ (l : List ReportEntry). l ++ more) h.8 ∙ append_assoc h.1 h.2 more,
)

feeds-append : (lines : List (List ℕ)) (line : List ℕ) → feeds (lines ++ line ∷ []) ≡ feeds lines ++ (line ++ 10 ∷ [])
feeds-append [] line = refl
feeds-append (l ∷ lines) line =
    ap (λ (r : List ℕ). l ++ 10 ∷ r) (feeds-append lines line)
    ∙ sym (append_assoc l (10 ∷ feeds lines) (line ++ 10 ∷ []))

pub record FromFront (bytes : List ℕ) (number : ℕ) (reported : List ReportEntry) (stage : LogState) : Type 0 where
  pub lines : List (List ℕ)
  pub whole : bytes ≡ feeds lines
  pub count : length lines ≡ number
  pub goes : Goes 0 (Opening Unnamed) lines reported stage

pub from_front : (bytes : List ℕ) (number : ℕ) (reported : List ReportEntry) (stage : LogState) → Reports bytes number reported stage →
    FromFront bytes number reported stage
from_front _ _ _ _ ReportsBy.none = record { lines = []; whole = refl; count = refl; goes = (refl, refl) }
from_front _ _ _ _ (ReportsBy.line bytes number reported old reports line more new few unbroken short on) =
    let before = from_front bytes number reported old reports in
    record {
      lines = before.lines ++ line ∷ [];
      whole = ap (λ (l : List ℕ). l ++ line ++ 10 ∷ []) before.whole
          ∙ (append_assoc (feeds before.lines) line (10 ∷ []) ∙ sym (feeds-append before.lines line));
      count = length-append before.lines (line ∷ []) ∙ ap (λ (n : ℕ). n + 1) before.count;
      goes = goes_then before.lines 0 number line reported more (Opening Unnamed) old new before.goes
          (omega (arith, before.count)) few unbroken short on;
    }

-- ---- how it stops

-- nothing follows this number of lines
abbrev Closes : ℕ → LogState → Option LogFault → Type 0
Closes n (Opening heading) fault = fault ≡ Some (BadLine (n + 1))
Closes n (Playing version sessions) fault = fault ≡ None

-- the last line, which lacks its line feed
abbrev LastOf : ℕ → LogState → List ℕ → List ReportEntry → Option LogFault → Type 0
LastOf n stage line more fault =
    ((new : LogState) × AdvancesByLine (n + 1) stage line more new × Closes (n + 1) new fault)
    ⊎ (IsBad stage line × (more ≡ []) × (fault ≡ Some (BadLine (n + 1))))

-- the rest after this number of lines, its entries, and its fault, if it has one
data End (n : ℕ) (stage : LogState) (rest : List ℕ) (more : List ReportEntry) (fault : Option LogFault) : Type 0 where
  at_end : rest ≡ [] → more ≡ [] → Closes n stage fault → End n stage rest more fault
  at_last : n < most_lines → 0 < length rest → IsUnbroken rest → length rest ≤ longest_line →
      LastOf n stage rest more fault → End n stage rest more fault
  at_bad : (line after : List ℕ) → rest ≡ line ++ 10 ∷ after → n < most_lines → IsUnbroken line →
      length line ≤ longest_line → IsBad stage (without_cr line) → more ≡ [] → fault ≡ Some (BadLine (n + 1)) →
      End n stage rest more fault
  at_long : (line after : List ℕ) → rest ≡ line ++ after → n < most_lines → IsUnbroken line →
      longest_line < length line → more ≡ [] → fault ≡ Some (LineTooLong (n + 1)) → End n stage rest more fault
  at_many : n ≡ most_lines → 0 < length rest → more ≡ [] → fault ≡ Some TooManyLines → End n stage rest more fault

one_close : (n : ℕ) (stage : LogState) (f g : Option LogFault) → Closes n stage f → Closes n stage g → f ≡ g
one_close n (Opening heading) f g p q = p ∙ sym q
one_close n (Playing version sessions) f g p q = p ∙ sym q

one_last : (n : ℕ) (stage : LogState) (line : List ℕ) (a b : List ReportEntry) (f g : Option LogFault) →
    LastOf n stage line a f → LastOf n stage line b g → (a ≡ b) × (f ≡ g)
one_last n stage line a b f g (inl p) (inl q) =
    let both = one_step (n + 1) stage line a b p.0 q.0 p.1 q.1 in (
      both.0,
      one_close (n + 1) q.0 f g (subst (λ (s : LogState). Closes (n + 1) s f) both.1 p.2) q.2,
    )
one_last n stage line a b f g (inl p) (inr q) = absurd (not_bad (n + 1) stage line a p.0 p.1 q.0)
one_last n stage line a b f g (inr p) (inl q) = absurd (not_bad (n + 1) stage line b q.0 q.1 p.0)
one_last n stage line a b f g (inr p) (inr q) = (p.1 ∙ sym q.1, p.2 ∙ sym q.2)

not_empty : (a b : List ℕ) → ◌≡◌ {A = List ℕ} (a ++ 10 ∷ b) [] → ⊥
not_empty [] b e = absurd (cc)
not_empty (x ∷ a) b e = absurd (cc)

-- bytes that are longer than those before a line feed contain it
feed_within : (k l a b : List ℕ) → IsUnbroken k → length l < length k → k ++ a ≡ l ++ 10 ∷ b → ⊥
feed_within [] l a b h longer e = absurd (omega (arith, longer))
feed_within (x ∷ k) [] a b h longer e = absurd (h.0 (cc))
feed_within (x ∷ k) (y ∷ l) a b h longer e = feed_within k l a b h.1 (omega (arith, longer)) (cc)

-- a log does not stop before a line that moves it on
goes_past : (n : ℕ) (stage : LogState) (rest : List ℕ) (more : List ReportEntry) (fault : Option LogFault)
    (line after : List ℕ) (first : List ReportEntry) (mid : LogState) → n < most_lines → IsUnbroken line →
    length line ≤ longest_line → AdvancesByLine (n + 1) stage (without_cr line) first mid → rest ≡ line ++ 10 ∷ after →
    End n stage rest more fault → ⊥
goes_past n stage rest more fault line after first mid few unbroken short on e (at_end none _ _) =
    not_empty line after (sym e ∙ none)
goes_past n stage rest more fault line after first mid few unbroken short on e (at_last _ _ whole _ _) =
    no_feed rest line after whole e
goes_past n stage rest more fault line after first mid few unbroken short on e (at_bad l a is _ u _ bad _ _) =
    let same = one_end line l after a unbroken u (sym e ∙ is) in
    not_bad (n + 1) stage (without_cr line) first mid on
    (subst (λ (x : List ℕ). IsBad stage (without_cr x)) (sym same.0) bad)
goes_past n stage rest more fault line after first mid few unbroken short on e (at_long l a is _ u longer _ _) =
    feed_within l line a after u (omega (arith, longer, short)) (sym is ∙ e)
goes_past n stage rest more fault line after first mid few unbroken short on e (at_many all _ _ _) =
    absurd (omega (arith, few, all))

-- a log stops in one way
module _ (n : ℕ) (stage : LogState) (rest : List ℕ) (a b : List ReportEntry) (f g : Option LogFault) where
  empty_ends : rest ≡ [] → a ≡ [] → Closes n stage f → End n stage rest b g → (a ≡ b) × (f ≡ g)
  empty_ends none lack closes (at_end _ k other) = (lack ∙ sym k, one_close n stage f g closes other)
  empty_ends none lack closes (at_last _ some _ _ _) = absurd (omega (arith, some, ap length none))
  empty_ends none lack closes (at_bad l m is _ _ _ _ _ _) = absurd (not_empty l m (sym is ∙ none))
  empty_ends none lack closes (at_long l m is _ _ longer _ _) =
      absurd (omega (arith, longer, ap length (sym is ∙ none), length-append l m))
  empty_ends none lack closes (at_many _ some _ _) = absurd (omega (arith, some, ap length none))

  last_ends : n < most_lines → 0 < length rest → IsUnbroken rest → length rest ≤ longest_line →
      LastOf n stage rest a f → End n stage rest b g → (a ≡ b) × (f ≡ g)
  last_ends few some whole short last (at_end none _ _) = absurd (omega (arith, some, ap length none))
  last_ends few some whole short last (at_last _ _ _ _ other) = one_last n stage rest a b f g last other
  last_ends few some whole short last (at_bad l m is _ _ _ _ _ _) = absurd (no_feed rest l m whole is)
  last_ends few some whole short last (at_long l m is _ _ longer _ _) =
      absurd (omega (arith, longer, short, ap length is, length-append l m))
  last_ends few some whole short last (at_many all _ _ _) = absurd (omega (arith, few, all))

  bad_ends : (line after : List ℕ) → rest ≡ line ++ 10 ∷ after → n < most_lines → IsUnbroken line →
      length line ≤ longest_line → a ≡ [] → f ≡ Some (BadLine (n + 1)) → End n stage rest b g → (a ≡ b) × (f ≡ g)
  bad_ends line after e few whole short lack is (at_end none _ _) = absurd (not_empty line after (sym e ∙ none))
  bad_ends line after e few whole short lack is (at_last _ _ unbroken _ _) = absurd (no_feed rest line after unbroken e)
  bad_ends line after e few whole short lack is (at_bad _ _ _ _ _ _ _ k other) = (lack ∙ sym k, is ∙ sym other)
  bad_ends line after e few whole short lack is (at_long l m there _ u longer _ _) =
      absurd (feed_within l line m after u (omega (arith, longer, short)) (sym there ∙ e))
  bad_ends line after e few whole short lack is (at_many all _ _ _) = absurd (omega (arith, few, all))

  long_ends : (line after : List ℕ) → rest ≡ line ++ after → n < most_lines → IsUnbroken line →
      longest_line < length line → a ≡ [] → f ≡ Some (LineTooLong (n + 1)) → End n stage rest b g → (a ≡ b) × (f ≡ g)
  long_ends line after e few whole longer lack is (at_end none _ _) =
      absurd (omega (arith, longer, ap length (sym e ∙ none), length-append line after))
  long_ends line after e few whole longer lack is (at_last _ _ _ short _) =
      absurd (omega (arith, longer, short, ap length e, length-append line after))
  long_ends line after e few whole longer lack is (at_bad l m there _ _ short _ _ _) =
      absurd (feed_within line l after m whole (omega (arith, longer, short)) (sym e ∙ there))
  long_ends line after e few whole longer lack is (at_long _ _ _ _ _ _ k other) = (lack ∙ sym k, is ∙ sym other)
  long_ends line after e few whole longer lack is (at_many all _ _ _) = absurd (omega (arith, few, all))

  many_ends : n ≡ most_lines → 0 < length rest → a ≡ [] → f ≡ Some TooManyLines → End n stage rest b g →
      (a ≡ b) × (f ≡ g)
  many_ends all some lack is (at_end none _ _) = absurd (omega (arith, some, ap length none))
  many_ends all some lack is (at_last few _ _ _ _) = absurd (omega (arith, few, all))
  many_ends all some lack is (at_bad _ _ _ few _ _ _ _ _) = absurd (omega (arith, few, all))
  many_ends all some lack is (at_long _ _ _ few _ _ _ _) = absurd (omega (arith, few, all))
  many_ends all some lack is (at_many _ _ k other) = (lack ∙ sym k, is ∙ sym other)

  one_way_to_end : End n stage rest a f → End n stage rest b g → (a ≡ b) × (f ≡ g)
  one_way_to_end (at_end none lack closes) other = empty_ends none lack closes other
  one_way_to_end (at_last few some whole short last) other = last_ends few some whole short last other
  one_way_to_end (at_bad line after e few whole short bad lack is) other =
      bad_ends line after e few whole short lack is other
  one_way_to_end (at_long line after e few whole longer lack is) other = long_ends line after e few whole longer lack is other
  one_way_to_end (at_many all some lack is) other = many_ends all some lack is other

-- ---- all lines

same_walk : (lines others : List (List ℕ)) (n count number : ℕ) (old : LogState) (reported other : List ReportEntry)
    (stage last : LogState) (rest left : List ℕ) (a b : List ReportEntry) (f g : Option LogFault) →
    feeds lines ++ rest ≡ feeds others ++ left → Goes n old lines reported stage → Goes n old others other last →
    count ≡ n + length lines → number ≡ n + length others → End count stage rest a f → End number last left b g →
    (reported ++ a ≡ other ++ b) × (f ≡ g)
same_walk [] [] n count number old reported other stage last rest left a b f g e p q c d x y =
    let same : count ≡ number = omega (arith, c, d) in
    let both = one_way_to_end number old left a b f g
    (subst (λ (k : ℕ). End k old left a f) same (subst (λ (r : List ℕ). End count old r a f) e
    (subst (λ (s : LogState). End count s rest a f) p.1 x)))
    (subst (λ (s : LogState). End number s left b g) q.1 y) in
    (ap (λ (t : List ReportEntry). t ++ a) p.0 ∙ both.0 ∙ sym (ap (λ (t : List ReportEntry). t ++ b) q.0), both.1)
same_walk [] (k ∷ ks) n count number old reported other stage last rest left a b f g e p q c d x y =
    let here : count ≡ n = omega (arith, c) in
    absurd (goes_past n old rest a f k (feeds ks ++ left) q.1 q.0 q.3 q.4 q.5 q.6
    (e ∙ append_assoc k (10 ∷ feeds ks) left)
    (subst (λ (m : ℕ). End m old rest a f) here (subst (λ (s : LogState). End count s rest a f) p.1 x)))
same_walk (l ∷ ls) [] n count number old reported other stage last rest left a b f g e p q c d x y =
    let here : number ≡ n = omega (arith, d) in
    absurd (goes_past n old left b g l (feeds ls ++ rest) p.1 p.0 p.3 p.4 p.5 p.6
    (sym e ∙ append_assoc l (10 ∷ feeds ls) rest)
    (subst (λ (m : ℕ). End m old left b g) here (subst (λ (s : LogState). End number s left b g) q.1 y)))
same_walk (l ∷ ls) (k ∷ ks) n count number old reported other stage last rest left a b f g e p q c d x y =
    let line = one_end l k (feeds ls ++ rest) (feeds ks ++ left) p.4 q.4
    (sym (append_assoc l (10 ∷ feeds ls) rest) ∙ (e ∙ append_assoc k (10 ∷ feeds ks) left)) in
    let step = one_step (n + 1) old (without_cr k) p.1 q.1 p.0 q.0
    (subst (λ (r : List ℕ). AdvancesByLine (n + 1) old (without_cr r) p.1 p.0) line.0 p.6) q.6 in
    let later = same_walk ls ks (n + 1) count number q.0 p.2 q.2 stage last rest left a b f g line.1
    (subst (λ (s : LogState). Goes (n + 1) s ls p.2 stage) step.1 p.7) q.7 (omega (arith, c)) (omega (arith, d)) x y in (
      ap (λ (t : List ReportEntry). t ++ a) p.8 ∙ append_assoc p.1 p.2 a
          ∙ (ap (λ (t : List ReportEntry). t ++ (p.2 ++ a)) step.0 ∙ ap (λ (t : List ReportEntry). q.1 ++ t) later.0)
          ∙ sym (append_assoc q.1 q.2 b) ∙ sym (ap (λ (t : List ReportEntry). t ++ b) q.8),
      later.1,
    )

-- ---- the whole log

abbrev text_by : List ReportEntry → Option LogFault → List ℕ
text_by reported None = lines_of reported ++ summary_line (counted_all reported nothing_counted)
text_by reported (Some fault) = lines_of reported

abbrev answer_by : List ReportEntry → Option LogFault → Result Summary LogFault
answer_by reported None = Ok (counted_all reported nothing_counted)
answer_by reported (Some fault) = Err fault

record Walk (log text : List ℕ) (answer : Result Summary LogFault) : Type 0 where
  lines : List (List ℕ)
  reported : List ReportEntry
  stage : LogState
  rest : List ℕ
  more : List ReportEntry
  fault : Option LogFault
  whole : log ≡ feeds lines ++ rest
  goes : Goes 0 (Opening Unnamed) lines reported stage
  ends : End (length lines) stage rest more fault
  written : text_by (reported ++ more) fault ≡ text
  answered : answer_by (reported ++ more) fault ≡ answer

-- lines were read, and then the log stops without an entry for the rest
stopped : (bytes : List ℕ) (number : ℕ) (reported : List ReportEntry) (stage : LogState) (rest : List ℕ) (fault : Option LogFault) →
    Reports bytes number reported stage → End number stage rest [] fault →
    Walk (bytes ++ rest) (text_by reported fault) (answer_by reported fault)
stopped bytes number reported stage rest fault reports how =
    let r = from_front bytes number reported stage reports in
    record {
      lines = r.lines;
      reported = reported;
      stage = stage;
      rest = rest;
      more = [];
      fault = fault;
      whole = ap (λ (l : List ℕ). l ++ rest) r.whole;
      goes = r.goes;
      ends = subst (λ (n : ℕ). End n stage rest [] fault) (sym r.count) how;
      written = ap (λ (t : List ReportEntry). text_by t fault) (append-nil reported);
      answered = ap (λ (t : List ReportEntry). answer_by t fault) (append-nil reported);
    }

all_walked : (log : List ℕ) (number : ℕ) (reported : List ReportEntry) (stage : LogState) (fault : Option LogFault) →
    ReportsAll log number reported stage → Closes number stage fault → Walk log (text_by reported fault) (answer_by reported fault)
all_walked _ _ _ _ fault (ReportsAllBy.ended bytes number reported stage reports) closes =
    subst (λ (l : List ℕ). Walk l (text_by reported fault) (answer_by reported fault)) (append-nil bytes)
    (stopped bytes number reported stage [] fault reports (at_end refl refl closes))
all_walked _ _ _ _ fault
    (ReportsAllBy.unended bytes number reported old reports line more new few some unbroken short on) closes =
    let r = from_front bytes number reported old reports in
    record {
      lines = r.lines;
      reported = reported;
      stage = old;
      rest = line;
      more = more;
      fault = fault;
      whole = ap (λ (l : List ℕ). l ++ line) r.whole;
      goes = r.goes;
      ends = subst (λ (n : ℕ). End n old line more fault) (sym r.count)
          (at_last few some unbroken short (inl (new, on, closes)));
      written = refl;
      answered = refl;
    }

opening_closes : (number : ℕ) (stage : LogState) → IsOpening stage → Closes number stage (Some (BadLine (number + 1)))
opening_closes number (Opening heading) h = refl
opening_closes number (Playing version sessions) h = absurd h

walk : (log text : List ℕ) (answer : Result Summary LogFault) → IsReport log text answer → Walk log text answer
walk _ _ _ (IsReportBy.whole log number reported version sessions all) =
    all_walked log number reported (Playing version sessions) None all refl
walk _ _ _ (IsReportBy.cut_short log number reported stage all is_opening) =
    all_walked log number reported stage (Some (BadLine (number + 1))) all (opening_closes number stage is_opening)
walk _ _ _ (IsReportBy.bad bytes number reported stage reports line after few unbroken short bad) =
    subst (λ (l : List ℕ). Walk l (lines_of reported) (Err (BadLine (number + 1))))
    (sym (append_assoc bytes line (10 ∷ after)))
    (stopped bytes number reported stage (line ++ 10 ∷ after) (Some (BadLine (number + 1))) reports
    (at_bad line after refl few unbroken short bad refl refl))
walk _ _ _ (IsReportBy.cut bytes number reported version sessions reports line few some unbroken short bad cuts) = absurd (cc)
walk _ _ _ (IsReportBy.bad_last bytes number reported stage reports line few some unbroken short bad uncut) =
    stopped bytes number reported stage line (Some (BadLine (number + 1))) reports
    (at_last few some unbroken short (inr (bad, refl, refl)))
walk _ _ _ (IsReportBy.too_long bytes number reported stage reports line after few unbroken longer) =
    subst (λ (l : List ℕ). Walk l (lines_of reported) (Err (LineTooLong (number + 1)))) (sym (append_assoc bytes line after))
    (stopped bytes number reported stage (line ++ after) (Some (LineTooLong (number + 1))) reports
    (at_long line after refl few unbroken longer refl refl))
walk _ _ _ (IsReportBy.too_many bytes reported stage reports after some) =
    stopped bytes most_lines reported stage after (Some TooManyLines) reports (at_many refl some refl refl)

pub one_report : (log text other : List ℕ) (answer another : Result Summary LogFault) → IsReport log text answer →
    IsReport log other another → (text ≡ other) × (answer ≡ another)
one_report log text other answer another p q =
    let v = walk log text answer p in
    let w = walk log other another q in
    let same = same_walk v.lines w.lines 0 (length v.lines) (length w.lines) (Opening Unnamed) v.reported w.reported
    v.stage w.stage v.rest w.rest v.more w.more v.fault w.fault (sym v.whole ∙ w.whole) v.goes w.goes
    (omega arith) (omega arith) v.ends w.ends in (
      sym v.written ∙ (ap (λ (t : List ReportEntry). text_by t v.fault) same.0
          ∙ ap (text_by (w.reported ++ w.more)) same.1) ∙ w.written,
      sym v.answered ∙ (ap (λ (t : List ReportEntry). answer_by t v.fault) same.0
          ∙ ap (answer_by (w.reported ++ w.more)) same.1) ∙ w.answered,
    )
