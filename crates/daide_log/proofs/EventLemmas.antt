-- The lines of a log after its head.
use Rattle.std.proofs.Common.{IsErrAnd, MatchResult}
use Rattle.std.proofs.lemmas.List.{map-set, replicate_more}
use Rattle.std.proofs.lemmas.Option.{slice_get-map, slice_get_read}
use Rattle.daide_log.proofs.Common.{◌≡◌, ℕ, ◌+◌, ◌-◌, ◌*◌, ◌<◌, ◌≤◌, List, [], ◌++◌, length, get_or, set, Option, Some}
use Rattle.daide_log.proofs.Common.{None, Result, Ok, Err, refl, sym, ap, ◌∙◌, subst, arith, ◌⊎◌, inl, inr, IfOk, OnOk}
use Rattle.daide_log.proofs.Common.{◌≢◌, ◌∷◌, true, false, All, option_map, replicate, IfErr, length-map, map-append}
use Rattle.daide_log.proofs.Common.{Keeps, Appends, Bot, Server, Limits, SessionState, initial_state, SessionView}
use Rattle.daide_log.proofs.Common.{Version, ReportKey, Summary, LineEnd, Held, Line, Last, End, LogFault, LogEvent}
use Rattle.daide_log.proofs.Common.{most_lines, Of, Quiet, nothing_counted, IsMoreBy, Word, Config, config_fault}
use Rattle.daide_log.proofs.Common.{limits_with, ReportForm, IsWritableForm, events_of_line, side_of, texts_of}
use Rattle.daide_log.proofs.Common.{counted_over, Reader, IsFound, no_more, more_by, more_then, IsReady, IsLateFault}
use Rattle.daide_log.proofs.Common.{ReportsEvents, StartsReport, IsFaultAfter, IsFinished, Judges, states_of}
use Rattle.daide_log.proofs.Common.{appends_and_keeps, keeps_appends}
use Rattle.daide_protocol.specs.Wires.{IsNew}
use Rattle.daide_log_lines.specs.declared.fault.LogFault.TheVariants as Faults
use Rattle.daide_log.specs.declared.page.Unreported.{Unreported}
use Rattle.daide_log.specs.declared.page.Unreported.TheVariants as Unreporteds
use Rattle.daide_log.specs.Log.{Playing, event_in, source_in}
use Rattle.daide_log_lines.specs.Lines.{is_end_of_log, is_last_line}
use Rattle.daide_log.specs.Reporting.{IsQuietWith, IsCauseIn, fault_of_unreported}
use Rattle.daide_log.specs.Progress.{IsFaultOf, Reported, IsPlaying}
use Rattle.daide_log.proofs.PlayLemmas.{appends_more, texts_of-append, counted_over-append}
use Rattle.daide_log.proofs.LogLemmas.{line_read, last_read, end_read, bad_line, bad_last, fault_found, fault_after, finished, finished_cut}
use Rattle.daide_log.proofs.LogLemmas.{found_given, write_failed, late_fault}

pub on_ok : {A E : Type 0} (r : Result A E) (P Q : Type 0) → OnOk r P → (P → Q) → OnOk r Q
on_ok (Ok x) P Q h f = f h
on_ok (Err e) P Q h f = tt

-- why a line is missing, as a fault of the log
pub as_reported : (reported : Result Unit Unreported) (answer : Result Unit LogFault) (P : Type 0) →
    MatchResult reported (λ _. answer ≡ Ok tt) (λ fault. answer ≡ Err (fault_of_unreported fault)) → OnOk reported P → OnOk answer P
as_reported (Ok x) answer P e h = subst (λ (r : Result Unit LogFault). OnOk r P) (sym e) h
as_reported (Err f) answer P e h = subst (λ (r : Result Unit LogFault). OnOk r P) (sym e) tt

pub late_of : {Answer failed refused : Type 0} → (form : ReportForm Answer) (fault : Unreported) →
    IsCauseIn form failed refused fault → IsLateFault form failed refused (fault_of_unreported fault)
late_of form Unreporteds.Write h = inl (refl, h)
late_of form Unreporteds.Memory h = inr (refl, h.0, h.1)

pub refused_late : {Answer : Type 0} → (failed refused : Type 0) (form : ReportForm Answer) (reported : Result Unit Unreported) (answer : Result Unit LogFault) →
    MatchResult reported (λ _. answer ≡ Ok tt) (λ fault. answer ≡ Err (fault_of_unreported fault)) → IfErr reported (IsCauseIn form failed refused) →
    IfErr answer (IsLateFault form failed refused)
refused_late failed refused form (Ok x) answer e h =
    subst (λ (r : Result Unit LogFault). IfErr r (IsLateFault form failed refused)) (sym e) tt
refused_late failed refused form (Err f) answer e h =
    subst (λ (r : Result Unit LogFault). IfErr r (IsLateFault form failed refused)) (sym e) (late_of form f h)

pub new_is_ready : (config : Config) (words : List Word) (session : SessionView) → IsNew (limits_with config words) session →
    config_fault config ≡ Ok tt → IsReady config words session
new_is_ready config words session new right = record {
  idle = record { bot = new.quiet Bot; server = new.quiet Server };
  under = record { limits = ap (λ (s : SessionState). s.limits) new.state; accepted = right };
}

-- one more session was created
pub one_more_opened : (limits : Limits) (items : List SessionView) (n : ℕ) (session : SessionView) →
    states_of items ≡ replicate n (initial_state limits) → IsNew limits session →
    states_of (items ++ session ∷ []) ≡ replicate (n + 1) (initial_state limits)
one_more_opened limits items n session h new =
    map-append (λ (g : SessionView). g.state) items (session ∷ [])
    ∙ ap (λ (l : List SessionState). l ++ session.state ∷ []) h
    ∙ ap (λ (s : SessionState). replicate n (initial_state limits) ++ s ∷ []) new.state
    ∙ replicate_more n (initial_state limits)

-- ---- the next line

pub at_end : (found : LineEnd) → is_end_of_log found ≡ true → found ≡ End
at_end (Held n) e = absurd (cc)
at_end Line e = absurd (cc)
at_end Last e = absurd (cc)
at_end End e = refl

pub at_last_line : (found : LineEnd) → is_last_line found ≡ true → found ≡ Last
at_last_line (Held n) e = absurd (cc)
at_last_line Line e = absurd (cc)
at_last_line Last e = refl
at_last_line End e = absurd (cc)

-- any other line that was found has its line feed
pub as_line : (all : Option (List ℕ)) (now new : Reader) (buffered rest line : List ℕ) (n : ℕ) (found : LineEnd) → is_end_of_log found ≡ false →
    is_last_line found ≡ false → IsFound all now buffered n (Ok found) line new rest → IsFound all now buffered n (Ok Line) line new rest
as_line all now new buffered rest line n (Held k) e l f = f
as_line all now new buffered rest line n Line e l f = f
as_line all now new buffered rest line n Last e l f = absurd (cc)
as_line all now new buffered rest line n End e l f = absurd (cc)

module _ {Answer : Type 0} (form : ReportForm Answer) where
  -- ---- one line

  -- a session got the event of a line
  pub session_judged : (knew knows : form.Context → Type 0) (words : List Word) → IsWritableForm words form → (version : Version) (number session : ℕ) (event : LogEvent)
      (line : List ℕ) (items : List SessionView) (old new : SessionView) (source : ReportKey) (s t : Summary)
      (a b c : Option (List ℕ)) (quoted : List ℕ) →
      event_in version (length items) line ≡ Some (Of session event) → 0 < session → session ≤ length items →
      old ≡ get_or items (session - 1) old → source ≡ source_in version number session →
      IsQuietWith form line quoted → Appends a b quoted →
      ReportsEvents form knew knows source (side_of event) old.state (events_of_line event) new.state s t b c →
      Judges form knew knows version number (states_of items) line (states_of (set items (session - 1) new)) s t a c
  session_judged knew knows words lawful version number session event line items old new source s t a b c quoted is_event some
      few read is_source quiet written all context known =
      let reported = all context known in (
        quiet.0 ++ reported.1,
        (
          Of session event,
          ap (λ (n : ℕ). event_in version n line) (length-map items (λ (g : SessionView). g.state)) ∙ is_event,
          states_of (set items (session - 1) new),
          (
            old.state,
            new.state,
            reported.0,
            slice_get-map (λ (g : SessionView). g.state) items (session - 1)
                ∙ ap (option_map (λ (g : SessionView). g.state))
                (slice_get_read items (length items) (session - 1) old refl (omega arith) read),
            reported.2,
            subst (λ (k : ReportKey). form.line context line k event old.state reported.0 new.state (quiet.0 ++ reported.1)) is_source
                (lawful.of_line context line source event old.state reported.0 new.state quiet.0 reported.1 quiet.1 reported.3),
            map-set (λ (g : SessionView). g.state) items (session - 1) new,
          ),
          refl,
        ),
        reported.4 ∙ ap (counted_over form.counted reported.1) (sym (quiet.3 s)) ∙ sym (counted_over-append form.counted quiet.0 reported.1 s),
        subst (Appends a c)
            (ap (λ (l : List ℕ). l ++ texts_of form.text reported.1) (sym quiet.2) ∙ sym (texts_of-append form.text quiet.0 reported.1))
            (appends_more a b c quoted (texts_of form.text reported.1) written reported.5),
        subst knows
            (sym (lawful.next_more context quiet.0 reported.1
            ∙ ap (λ (now : form.Context). form.next now reported.1) (lawful.next_quiet context line quiet.0 quiet.1))) reported.6,
      )

  -- a line without an event
  pub nothing_judged : (knows : form.Context → Type 0) (words : List Word) → IsWritableForm words form → (version : Version) (number : ℕ) (line : List ℕ) (items : List SessionView) (s : Summary)
      (a b : Option (List ℕ)) (quoted : List ℕ) → event_in version (length items) line ≡ Some Quiet →
      IsQuietWith form line quoted → Appends a b quoted →
      Judges form knows knows version number (states_of items) line (states_of items) s s a b
  nothing_judged knows words lawful version number line items s a b quoted is_event quiet written context known = (
    quiet.0,
    (
      Quiet,
      ap (λ (n : ℕ). event_in version n line) (length-map items (λ (g : SessionView). g.state)) ∙ is_event,
      states_of items,
      (quiet.1, refl),
      refl,
    ),
    sym (quiet.3 s),
    subst (Appends a b) (sym quiet.2) written,
    subst knows (sym (lawful.next_quiet context line quiet.0 quiet.1)) known,
  )

  -- ---- between two lines

  -- a property that does not depend on earlier lines, and the progress of the log
  pub record Plays (P : SessionView → Type 0) (knows : form.Context → Type 0) (start : Reader → Option (List ℕ) → Type 0) (now : Reader) (buffered : List ℕ) (number : ℕ) (version : Version)
      (sessions : List SessionView) (count : ℕ) (summary : Summary) (after : Option (List ℕ)) : Type 0 where
    pub ready : All P sessions
    pub size : length sessions ≡ count
    pub few : IsMoreBy (1024 * number) nothing_counted summary
    pub fits : number ≤ most_lines
    pub playing : (origin : Reader) (before : Option (List ℕ)) → start origin before →
        IsPlaying form knows origin now buffered number version (states_of sessions) summary before after

  pub plays_first : (P : SessionView → Type 0) (knows : form.Context → Type 0) (words : List Word) →
      IsWritableForm words form → (now : Reader) (buffered : List ℕ) (number : ℕ) (version : Version) (sessions : List SessionView)
      (summary : Summary) (a : Option (List ℕ)) → All P sessions → number ≤ most_lines → summary ≡ nothing_counted →
      knows form.fresh → Plays P knows (StartsReport form now buffered number version (states_of sessions) a) now buffered number version sessions (length sessions) summary
      a
  plays_first P knows words lawful now buffered number version sessions summary a ready fits e known = record {
    ready = ready;
    size = refl;
    few = subst (IsMoreBy (1024 * number) nothing_counted) (sym e)
        (no_more (1024 * number) nothing_counted);
    fits = fits;
    playing = λ origin before h.
        record {
          reported = [];
          has_read = h.0;
          counts = e;
          written = keeps_appends before a h.1;
          known = subst knows (sym (lawful.next_none form.fresh)) known;
        };
  }

  more_few : (n : ℕ) (s t : Summary) → IsMoreBy (1024 * n) nothing_counted s → IsMoreBy 1024 s t →
      IsMoreBy (1024 * (n + 1)) nothing_counted t
  more_few n s t h k =
      more_by (1024 * n + 1024) (1024 * (n + 1)) nothing_counted t (more_then (1024 * n) 1024 nothing_counted s t h k)
      (omega arith)

  -- the counts so far, with the entries of one more line
  more_counts : (reported more : List form.Entry) (s t : Summary) → s ≡ counted_over form.counted reported nothing_counted → t ≡ counted_over form.counted more s →
      t ≡ counted_over form.counted (reported ++ more) nothing_counted
  more_counts reported more s t h k = k ∙ ap (counted_over form.counted more) h ∙ sym (counted_over-append form.counted reported more nothing_counted)

  more_text : (reported more : List form.Entry) (a b c : Option (List ℕ)) → Appends a b (texts_of form.text reported) → Appends b c (texts_of form.text more) →
      Appends a c (texts_of form.text (reported ++ more))
  more_text reported more a b c h k =
      subst (Appends a c) (sym (texts_of-append form.text reported more)) (appends_more a b c (texts_of form.text reported) (texts_of form.text more) h k)

  -- a line was judged
  pub plays_more : (P : SessionView → Type 0) (knows later : form.Context → Type 0) (words : List Word) →
      IsWritableForm words form → (start : Reader → Option (List ℕ) → Type 0) (now new : Reader) (buffered rest line : List ℕ) (n : ℕ)
      (version : Version) (sessions next : List SessionView) (count : ℕ) (s t : Summary) (all b c : Option (List ℕ)) →
      Plays P knows start now buffered n version sessions count s all → IsFound all now buffered n (Ok Line) line new rest → Keeps all b →
      Judges form knows later version (n + 1) (states_of sessions) line (states_of next) s t b c → IsMoreBy 1024 s t → All P next →
      length next ≡ length sessions → Plays P later start new rest (n + 1) version next count t c
  plays_more P knows later words lawful start now new buffered rest line n version sessions next count s t all b c p f k judges few ready
      same = record {
        ready = ready;
        size = same ∙ p.size;
        few = more_few n s t p.few few;
        fits = omega (arith, f.4);
        playing = λ origin before h. let q = p.playing origin before h in let j = judges (form.next form.fresh q.reported) q.known in record {
          reported = q.reported ++ j.0;
          has_read = line_read form before all origin now new buffered rest line n q.reported j.0 (Playing version (states_of sessions))
              (Playing version (states_of next)) q.has_read q.written f j.1;
          counts = more_counts q.reported j.0 s t q.counts j.2;
          written = more_text q.reported j.0 before b c (appends_and_keeps before all b (texts_of form.text q.reported) q.written k) j.3;
          known = subst later (sym (lawful.next_more form.fresh q.reported j.0)) j.4;
        };
      }

  -- ---- the end

  pub finished_at_end : (P : SessionView → Type 0) (knows : form.Context → Type 0) (start : Reader → Option (List ℕ) → Type 0) (now new : Reader) (buffered rest line : List ℕ) (n : ℕ)
      (version : Version) (sessions : List SessionView) (count : ℕ) (s : Summary) (all b c : Option (List ℕ))
      (result : Result Answer LogFault) → Plays P knows start now buffered n version sessions count s all →
      IsFound all now buffered n (Ok End) line new rest → Keeps all b →
      IfOk result (λ answer. IsFinished form None version (states_of sessions) s b c answer) →
      (origin : Reader) (before : Option (List ℕ)) → start origin before →
      IfOk result (λ answer. Reported form origin new before c answer)
  finished_at_end P knows start now new buffered rest line n version sessions count s all b c result p f k r origin before h =
      let q = p.playing origin before h in
      finished form origin new n q.reported version (states_of sessions) s before b c result
      (end_read form before all origin now new buffered rest line n q.reported (Playing version (states_of sessions)) q.has_read q.written f)
      q.counts (appends_and_keeps before all b (texts_of form.text q.reported) q.written k) r

  pub finished_at_last : (P : SessionView → Type 0) (knows later : form.Context → Type 0) (start : Reader → Option (List ℕ) → Type 0) (now new : Reader) (buffered rest line : List ℕ) (n : ℕ)
      (version : Version) (sessions next : List SessionView) (count : ℕ) (s t : Summary) (all b c d : Option (List ℕ))
      (result : Result Answer LogFault) → Plays P knows start now buffered n version sessions count s all →
      IsFound all now buffered n (Ok Last) line new rest → Keeps all b →
      Judges form knows later version (n + 1) (states_of sessions) line (states_of next) s t b c →
      IfOk result (λ answer. IsFinished form None version (states_of next) t c d answer) →
      (origin : Reader) (before : Option (List ℕ)) → start origin before →
      IfOk result (λ answer. Reported form origin new before d answer)
  finished_at_last P knows later start now new buffered rest line n version sessions next count s t all b c d result p f k judges r origin
      before h =
      let q = p.playing origin before h in
      let j = judges (form.next form.fresh q.reported) q.known in
      finished form origin new (n + 1) (q.reported ++ j.0) version (states_of next) t before c d result
      (last_read form before all origin now new buffered rest line n q.reported j.0 (Playing version (states_of sessions))
      (Playing version (states_of next)) q.has_read q.written f j.1)
      (more_counts q.reported j.0 s t q.counts j.2)
      (more_text q.reported j.0 before b c (appends_and_keeps before all b (texts_of form.text q.reported) q.written k) j.3) r

  pub finished_at_cut : (P : SessionView → Type 0) (knows : form.Context → Type 0) (start : Reader → Option (List ℕ) → Type 0) (now new : Reader) (buffered rest line : List ℕ) (n : ℕ)
      (version : Version) (sessions : List SessionView) (count : ℕ) (s : Summary) (all b c : Option (List ℕ))
      (result : Result Answer LogFault) → Plays P knows start now buffered n version sessions count s all →
      IsFound all now buffered n (Ok Last) line new rest → Keeps all b → event_in version (length sessions) line ≡ None →
      form.cuts ≡ true → IfOk result (λ answer. IsFinished form (Some (n + 1)) version (states_of sessions) s b c answer) →
      (origin : Reader) (before : Option (List ℕ)) → start origin before →
      IfOk result (λ answer. Reported form origin new before c answer)
  finished_at_cut P knows start now new buffered rest line n version sessions count s all b c result p f k wrong cuts r origin before h =
      let q = p.playing origin before h in
      finished_cut form before all origin now new buffered rest line n q.reported version (states_of sessions) s b c result q.has_read
      q.written f (ap (λ (k : ℕ). event_in version k line) (length-map sessions (λ (g : SessionView). g.state)) ∙ wrong) cuts
      q.counts (appends_and_keeps before all b (texts_of form.text q.reported) q.written k) r

  -- the counts could not be written
  pub unfinished : (failed refused : Type 0) (P : SessionView → Type 0) (knows : form.Context → Type 0) (start : Reader → Option (List ℕ) → Type 0) (now new : Reader) (buffered rest line : List ℕ) (n : ℕ)
      (version : Version) (sessions : List SessionView) (count : ℕ) (s : Summary) (all c : Option (List ℕ)) (found : LineEnd)
      (result : Result Answer LogFault) → Plays P knows start now buffered n version sessions count s all →
      IsFound all now buffered n (Ok found) line new rest → IfErr result (IsLateFault form failed refused) →
      (origin : Reader) (before : Option (List ℕ)) → start origin before →
      IfErr result (IsFaultAfter form origin new before c)
  unfinished failed refused P knows start now new buffered rest line n version sessions count s all c found result p f e origin before h =
      let q = p.playing origin before h in
      write_failed form failed refused origin new before c result
      (found_given form before all origin now new buffered rest line n q.reported (Playing version (states_of sessions)) found q.has_read
      q.written f)
      e

  -- ---- faults

  pub fault_in_play : (P : SessionView → Type 0) (knows : form.Context → Type 0) (start : Reader → Option (List ℕ) → Type 0) (now new : Reader) (buffered rest line : List ℕ) (n : ℕ)
      (version : Version) (sessions : List SessionView) (count : ℕ) (s : Summary) (all c : Option (List ℕ)) (fault : LogFault) →
      Plays P knows start now buffered n version sessions count s all → IsFound all now buffered n (Err fault) line new rest →
      (fault ≢ Faults.Write → Keeps all c) → (origin : Reader) (before : Option (List ℕ)) → start origin before →
      IsFaultAfter form origin new before c fault
  fault_in_play P knows start now new buffered rest line n version sessions count s all c fault p f k origin before h =
      let q = p.playing origin before h in
      fault_after form origin new q.reported before c fault
      (fault_found form before all origin now new buffered rest line n q.reported (Playing version (states_of sessions)) fault q.has_read
      q.written f)
      (λ other. appends_and_keeps before all c (texts_of form.text q.reported) q.written (k other))

  -- a fault that `?` returns is no answer
  pub nothing_reported : (Q : LogFault → Type 0) (P : Answer → Type 0) (result : Result Answer LogFault) →
      IsErrAnd result Q → IfOk result P
  nothing_reported Q P (Ok summary) e = absurd e
  nothing_reported Q P (Err reported) e = tt

  -- the same at a fault that `?` returns
  pub fault_handed_on : (start : Reader → Option (List ℕ) → Type 0) (new : Reader) (c : Option (List ℕ)) (fault : LogFault)
      (result : Result Answer LogFault) → IsErrAnd result (λ reported. reported ≡ fault) →
      ((origin : Reader) (before : Option (List ℕ)) → start origin before → IsFaultAfter form origin new before c fault) →
      (origin : Reader) (before : Option (List ℕ)) → start origin before →
      IfErr result (IsFaultAfter form origin new before c)
  fault_handed_on start new c fault (Ok summary) e h origin before begins = tt
  fault_handed_on start new c fault (Err reported) e h origin before begins =
      subst (IsFaultAfter form origin new before c) (sym e) (h origin before begins)

  -- a line without an allowed form, or a failed write
  pub bad_in_play : (P : SessionView → Type 0) (knows : form.Context → Type 0) (start : Reader → Option (List ℕ) → Type 0) (now new : Reader) (buffered rest line : List ℕ) (n : ℕ)
      (version : Version) (sessions : List SessionView) (count : ℕ) (s : Summary) (all b c : Option (List ℕ)) (found : LineEnd)
      (fault : LogFault) → Plays P knows start now buffered n version sessions count s all →
      IsFound all now buffered n (Ok found) line new rest → is_end_of_log found ≡ false → Keeps all b →
      (is_last_line found ≡ true → event_in version (length sessions) line ≡ None → form.cuts ≡ false) →
      {failed refused : Type 0} → IsLateFault form failed refused fault ⊎ ((fault ≡ Faults.BadLine (n + 1)) × (event_in version (length sessions) line ≡ None)
      × (c ≡ b)) → (origin : Reader) (before : Option (List ℕ)) → start origin before →
      IsFaultAfter form origin new before c fault
  bad_in_play P knows start now new buffered rest line n version sessions count s all b c found fault p f other k uncut (inl e) origin before h =
      let q = p.playing origin before h in
      late_fault form origin new before c fault
      (found_given form before all origin now new buffered rest line n q.reported (Playing version (states_of sessions)) found q.has_read
      q.written f)
      e
  bad_in_play P knows start now new buffered rest line n version sessions count s all b c found fault p f other k uncut (inr r) origin before h =
      subst (IsFaultAfter form origin new before c) (sym r.0) (
        q.reported,
        is_fault found f other (λ last. uncut last r.1),
        subst (λ (w : Option (List ℕ)). Appends before w (texts_of form.text q.reported)) (sym r.2)
            (appends_and_keeps before all b (texts_of form.text q.reported) q.written k),
      )
    where
      q : IsPlaying form knows origin now buffered n version (states_of sessions) s before all
      q = p.playing origin before h

      is_bad : event_in version (length (states_of sessions)) line ≡ None
      is_bad = ap (λ (k : ℕ). event_in version k line) (length-map sessions (λ (g : SessionView). g.state)) ∙ r.1

      is_fault : (found : LineEnd) → IsFound all now buffered n (Ok found) line new rest → is_end_of_log found ≡ false →
          (is_last_line found ≡ true → form.cuts ≡ false) → IsFaultOf form before origin new q.reported (Faults.BadLine (n + 1))
      is_fault (Held k) f other whole =
          bad_line form before all origin now new buffered rest line n q.reported (Playing version (states_of sessions)) q.has_read q.written
          f is_bad
      is_fault Line f other whole =
          bad_line form before all origin now new buffered rest line n q.reported (Playing version (states_of sessions)) q.has_read q.written
          f is_bad
      is_fault Last f other whole =
          bad_last form before all origin now new buffered rest line n q.reported (Playing version (states_of sessions)) q.has_read q.written
          f is_bad (whole refl)
      is_fault End f other whole = absurd (cc)
