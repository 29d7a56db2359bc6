-- The record of ports and their calls, with times.
use Rattle.daide_log.proofs.Common.{◌≡◌, ◌≢◌, ◌⊎◌, inl, inr, ℕ, ◌+◌, ◌≤◌, List, [], ◌∷◌, ◌++◌, Option, Some, None, refl}
use Rattle.daide_log.proofs.Common.{sym, ap, ◌∙◌, subst, arith, append_assoc, append-nil, AllByRecursion, Keeps}
use Rattle.daide_log.proofs.Common.{Appends, Word, Config, PortCall, EvolvesBy, LogEvent, most_lines, Moment, RecordEnd}
use Rattle.daide_log.proofs.Common.{Whole, Failed, Written, KeepsText, GetsLine, GetsText, Recorded, Records}
use Rattle.daide_log.specs.declared.record.RecordEnd.TheVariants.{Full}
use Rattle.daide_log.specs.RecordText.{event_line, reported_by, line_reported, count_reported, line_of_answer, count_of_answer}
use Rattle.daide_log.specs.RecordText.{head_text}
use Rattle.daide_log.specs.RecordItem.{RecordItem, Called, Timed, IsPiece, IsItem, call_in, calls_in, line_of_item, count_of_item}
use Rattle.daide_log.specs.RecordItem.{lines_of_items, count_of_items, record_text, record_count}
use Rattle.daide_log.specs.Recording.{TakesEvent, TakesTime, TakesCall, due_time}
use Rattle.daide_log.specs.RecordLaw.{HasItems, PortsAreRecorded}

-- ---- one more item

lines_with : (items : List RecordItem) (item : RecordItem) →
    lines_of_items (items ++ item ∷ []) ≡ lines_of_items items ++ line_of_item item
lines_with [] item = append-nil (line_of_item item)
lines_with (first ∷ items) item =
    ap (λ (l : List ℕ). line_of_item first ++ l) (lines_with items item)
    ∙ sym (append_assoc (line_of_item first) (lines_of_items items) (line_of_item item))

count_with : (items : List RecordItem) (item : RecordItem) →
    count_of_items (items ++ item ∷ []) ≡ count_of_items items + count_of_item item
count_with [] item = omega arith
count_with (first ∷ items) item = omega (arith, count_with items item)

calls_with : (items : List RecordItem) (item : RecordItem) → calls_in (items ++ item ∷ []) ≡ calls_in items ++ call_in item
calls_with [] item = append-nil (call_in item)
calls_with (first ∷ items) item =
    ap (λ (l : List PortCall). call_in first ++ l) (calls_with items item)
    ∙ sym (append_assoc (call_in first) (calls_in items) (call_in item))

fit_with : (items : List RecordItem) (item : RecordItem) → AllByRecursion IsItem items → IsItem item →
    AllByRecursion IsItem (items ++ item ∷ [])
fit_with [] item h k = (k, tt)
fit_with (first ∷ items) item h k = (h.0, fit_with items item h.1 k)

text_with : (config : Config) (words : List Word) (items : List RecordItem) (item : RecordItem) →
    record_text config words items ++ line_of_item item ≡ record_text config words (items ++ item ∷ [])
text_with config words items item =
    append_assoc (head_text config words) (lines_of_items items) (line_of_item item)
    ∙ ap (λ (l : List ℕ). head_text config words ++ l) (sym (lines_with items item))

-- ---- a record so far

-- the record has the lines of these items, and would end so
record IsOfItems (config : Config) (words : List Word) (items : List RecordItem) (ending : RecordEnd) (written : Written) :
    Type 0 where
  text : written.text ≡ Some (record_text config words items)
  few : record_count words items ≤ most_lines
  fit : AllByRecursion IsItem items
  ending_is : written.ending ≡ ending

-- a whole one counts its lines
record IsWholeOf (config : Config) (words : List Word) (items : List RecordItem) (written : Written) : Type 0 where
  so_far : IsOfItems config words items Whole written
  lines : written.lines ≡ record_count words items

-- a full one has as many as a log may have
record IsFullOf (config : Config) (words : List Word) (items : List RecordItem) (written : Written) : Type 0 where
  so_far : IsOfItems config words items Full written
  most : most_lines ≤ record_count words items

-- one more line was due
data Lined (config : Config) (words : List Word) (items : List RecordItem) (item : RecordItem) (new : Written) : Type 0
  where
    lined : IsWholeOf config words (items ++ item ∷ []) new → Lined config words items item new
    filled : IsFullOf config words items new → Lined config words items item new
    broken : new.ending ≡ Failed → Lined config words items item new

appended : (old new : Option (List ℕ)) (text line : List ℕ) → old ≡ Some text → Appends old new line → new ≡ Some (text ++ line)
appended None new text line e h = absurd (cc)
appended (Some xs) None text line e h = absurd h
appended (Some xs) (Some ys) text line e h =
    let same : xs ≡ text = cc in ap Some (h ∙ ap (λ (l : List ℕ). l ++ line) same)

kept : (old new : Option (List ℕ)) (text : List ℕ) → old ≡ Some text → Keeps old new → new ≡ Some text
kept None new text e h = absurd (cc)
kept (Some xs) None text e h = absurd h
kept (Some xs) (Some ys) text e h = ap Some h ∙ e

line_taken : (failure : Type 0) (config : Config) (words : List Word) (items : List RecordItem) (item : RecordItem)
    (old new : Written) → IsWholeOf config words items old → IsItem item → count_of_item item ≡ 1 → (ending : RecordEnd) →
    new.ending ≡ ending → GetsLine failure ending old (line_of_item item) new → Lined config words items item new
line_taken failure config words items item old new h fits one Whole e t =
    let lines = h.lines in
    let more = count_with items item in
    lined (record {
      so_far = record {
        text = appended old.text new.text (record_text config words items) (line_of_item item) h.so_far.text t.2
            ∙ ap Some (text_with config words items item);
        few = omega (arith, t.0);
        fit = fit_with items item h.so_far.fit fits;
        ending_is = e;
      };
      lines = omega (arith, t.1);
    })
line_taken failure config words items item old new h fits one Full e t =
    let lines = h.lines in
    filled (record {
      so_far = record {
        text = kept old.text new.text (record_text config words items) h.so_far.text t.2;
        few = h.so_far.few;
        fit = h.so_far.fit;
        ending_is = e;
      };
      most = omega (arith, t.0);
    })
line_taken failure config words items item old new h fits one Failed e t = broken e

text_taken : (failure : Type 0) (config : Config) (words : List Word) (items : List RecordItem) (item : RecordItem)
    (line : List ℕ) (old new : Written) → IsWholeOf config words items old → IsItem item → count_of_item item ≡ 1 →
    line_of_item item ≡ line → GetsText failure old.ending old line new → Lined config words items item new
text_taken failure config words items item line old new h fits one same t =
    line_taken failure config words items item old new h fits one new.ending refl
    (subst (λ (l : List ℕ). GetsLine failure new.ending old l new) (sym same)
    (subst (λ (x : RecordEnd). GetsText failure x old line new) h.so_far.ending_is t))

-- ---- a record that ended

ended_text : (failure : Type 0) (ending : RecordEnd) (old new : Written) (line : List ℕ) → ending ≢ Whole →
    old.ending ≡ ending → GetsText failure old.ending old line new → new ≡ old
ended_text failure Whole old new line other e t = absurd (other refl)
ended_text failure Failed old new line other e t = subst (λ (x : RecordEnd). GetsText failure x old line new) e t
ended_text failure Full old new line other e t = subst (λ (x : RecordEnd). GetsText failure x old line new) e t

ended_time : (failure : Type 0) (ending : RecordEnd) (due : Option Moment) (old new : Written) → ending ≢ Whole →
    old.ending ≡ ending → TakesTime failure due old new → new ≡ old
ended_time failure ending None old new other e t = t
ended_time failure ending (Some due) old new other e t =
    ended_text failure ending old new (line_of_item (Timed t.0)) other e t.2

kept_as_it_is : (failure : Type 0) (ending : RecordEnd) (old new : Written) → ending ≢ Whole → old.ending ≡ ending →
    KeepsText failure old new → new ≡ old
kept_as_it_is failure ending old new other e (inl t) = t
kept_as_it_is failure ending old new other e (inr f) = absurd (other (sym e ∙ f.whole))

-- ---- a record that failed

whole_is_not_failed : Whole ≡ Failed → ⊥
whole_is_not_failed e = absurd (cc)

text_fails : (failure : Type 0) (ending : RecordEnd) (old new : Written) (line : List ℕ) → old.ending ≡ ending →
    old.ending ≢ Failed → GetsText failure old.ending old line new → new.ending ≡ Failed → failure
text_fails failure Whole old new line e other t f =
    (subst (λ (x : RecordEnd). GetsLine failure x old line new) f
    (subst (λ (x : RecordEnd). GetsText failure x old line new) e t)).1
text_fails failure Failed old new line e other t f = absurd (other e)
text_fails failure Full old new line e other t f =
    let same : new ≡ old = subst (λ (x : RecordEnd). GetsText failure x old line new) e t in
    absurd (other (sym (ap (λ (w : Written). w.ending) same) ∙ f))

time_fails : (failure : Type 0) (due : Option Moment) (old new : Written) → old.ending ≢ Failed →
    TakesTime failure due old new → new.ending ≡ Failed → failure
time_fails failure None old new other t f = absurd (other (sym (ap (λ (w : Written). w.ending) t) ∙ f))
time_fails failure (Some due) old new other t f =
    text_fails failure old.ending old new (line_of_item (Timed t.0)) refl other t.2 f

kept_fails : (failure : Type 0) (old new : Written) → old.ending ≢ Failed → KeepsText failure old new →
    new.ending ≡ Failed → failure
kept_fails failure old new other (inl t) f = absurd (other (sym (ap (λ (w : Written). w.ending) t) ∙ f))
kept_fails failure old new other (inr t) f = cause t.written
  where
    cause : ((new.ending ≡ Whole) × (new.unwritten ≡ []) × Keeps old.text new.text) ⊎ ((new.ending ≡ Failed) × failure) →
        failure
    cause (inl w) = absurd (whole_is_not_failed (sym w.0 ∙ f))
    cause (inr w) = w.1

-- ---- one call

data Outcome (config : Config) (words : List Word) (items : List RecordItem) (call : PortCall) (new : Written) :
    Type 0 where
  further : (more : List RecordItem) → calls_in more ≡ calls_in items ++ call ∷ [] → IsWholeOf config words more new →
      Outcome config words items call new
  full : (more : List RecordItem) → calls_in more ≡ calls_in items → IsFullOf config words more new →
      Outcome config words items call new
  failed : new.ending ≡ Failed → Outcome config words items call new

call_lined : (failure : Type 0) (config : Config) (words : List Word) (items before : List RecordItem) (call : PortCall)
    (event : LogEvent) (old new : Written) → calls_in before ≡ calls_in items → IsWholeOf config words before old →
    IsPiece call → reported_by call ≡ Some event → TakesEvent failure old.ending old event new →
    Outcome config words items call new
call_lined failure config words items before call event old new same h piece reported t =
    go (text_taken failure config words before (Called call) (event_line event) old new h piece (ap count_reported reported)
    (ap line_reported reported) t)
  where
    go : Lined config words before (Called call) new → Outcome config words items call new
    go (lined k) =
        further (before ++ Called call ∷ [])
        (calls_with before (Called call) ∙ ap (λ (l : List PortCall). l ++ call ∷ []) same) k
    go (filled k) = full before same k
    go (broken k) = failed k

call_timed : (failure : Type 0) (config : Config) (words : List Word) (items : List RecordItem) (call : PortCall)
    (event : LogEvent) (due : Option Moment) (old mid new : Written) → IsWholeOf config words items old → IsPiece call →
    reported_by call ≡ Some event → TakesTime failure due old mid → TakesEvent failure mid.ending mid event new →
    Outcome config words items call new
call_timed failure config words items call event None old mid new h piece reported t k =
    call_lined failure config words items items call event mid new refl
    (subst (IsWholeOf config words items) (sym t) h) piece reported k
call_timed failure config words items call event (Some due) old mid new h piece reported t k =
    go (text_taken failure config words items (Timed t.0) (line_of_item (Timed t.0)) old mid h tt refl refl t.2)
  where
    same : calls_in (items ++ Timed t.0 ∷ []) ≡ calls_in items
    same = calls_with items (Timed t.0) ∙ append-nil (calls_in items)

    go : Lined config words items (Timed t.0) mid → Outcome config words items call new
    go (lined w) = call_lined failure config words items (items ++ Timed t.0 ∷ []) call event mid new same w piece reported k
    go (filled w) =
        let as_it_is : new ≡ mid =
        ended_text failure Full mid new (event_line event) (λ e. absurd (cc)) w.so_far.ending_is k in
        full items refl (subst (IsFullOf config words items) (sym as_it_is) w)
    go (broken w) =
        let as_it_is : new ≡ mid = ended_text failure Failed mid new (event_line event) (λ e. absurd (cc)) w k in
        failed (ap (λ (x : Written). x.ending) as_it_is ∙ w)

call_unlined : (failure : Type 0) (config : Config) (words : List Word) (items : List RecordItem) (call : PortCall)
    (old new : Written) → IsWholeOf config words items old → IsPiece call → reported_by call ≡ None →
    KeepsText failure old new → Outcome config words items call new
call_unlined failure config words items call old new h piece e t = go t
  where
    as_before : record_text config words items ≡ record_text config words (items ++ Called call ∷ [])
    as_before =
        let line : line_of_answer call ≡ [] = ap line_reported e in
        sym (append-nil (record_text config words items))
        ∙ ap (λ (l : List ℕ). record_text config words items ++ l) (sym line) ∙ text_with config words items (Called call)

    same : new.text ≡ Some (record_text config words items) → new.lines ≡ old.lines → new.ending ≡ Whole →
        Outcome config words items call new
    same text lines_kept ending =
        let count : count_of_answer call ≡ 0 = ap count_reported e in
        let lines = h.lines in
        let few = h.so_far.few in
        let more = count_with items (Called call) in
        further (items ++ Called call ∷ []) (calls_with items (Called call)) (record {
          so_far = record {
            text = text ∙ ap Some as_before;
            few = omega arith;
            fit = fit_with items (Called call) h.so_far.fit piece;
            ending_is = ending;
          };
          lines = omega (arith, lines_kept);
        })

    flushed : new.lines ≡ old.lines →
        ((new.ending ≡ Whole) × (new.unwritten ≡ []) × Keeps old.text new.text) ⊎ ((new.ending ≡ Failed) × failure) →
        Outcome config words items call new
    flushed lines (inl w) = same (kept old.text new.text (record_text config words items) h.so_far.text w.2) lines w.0
    flushed lines (inr w) = failed w.0

    go : KeepsText failure old new → Outcome config words items call new
    go (inl k) =
        same (ap (λ (w : Written). w.text) k ∙ h.so_far.text) (ap (λ (w : Written). w.lines) k)
        (ap (λ (w : Written). w.ending) k ∙ h.so_far.ending_is)
    go (inr f) = flushed f.lines f.written

-- ---- all calls

module _ {P : Type 0} (transition : P → PortCall → P → Type 0) (failed_write : Type 0) where
  call_taken : (config : Config) (words : List Word) (items : List RecordItem) (call : PortCall) (old new : Recorded P)
      (reported : Option LogEvent) → reported_by call ≡ reported → IsWholeOf config words items old.record_of →
      IsPiece call → TakesCall failed_write old reported new → Outcome config words items call new.record_of
  call_taken config words items call old new None e h piece t =
      call_unlined failed_write config words items call old.record_of new.record_of h piece e t.0
  call_taken config words items call old new (Some event) e h piece t =
      call_timed failed_write config words items call event (due_time old.present old.last) old.record_of t.0 new.record_of h piece
      e t.1 t.2

  call_ended : (ending : RecordEnd) (old new : Recorded P) (reported : Option LogEvent) → ending ≢ Whole →
      old.record_of.ending ≡ ending → TakesCall failed_write old reported new → new.record_of ≡ old.record_of
  call_ended ending old new None other e t =
      kept_as_it_is failed_write ending old.record_of new.record_of other e t.0
  call_ended ending old new (Some event) other e t =
      let same = ended_time failed_write ending (due_time old.present old.last) old.record_of t.0 other e t.1 in
      ended_text failed_write ending t.0 new.record_of (event_line event) other (ap (λ (w : Written). w.ending) same ∙ e) t.2
      ∙ same

  call_fails : (old new : Recorded P) (reported : Option LogEvent) → old.record_of.ending ≢ Failed →
      TakesCall failed_write old reported new → new.record_of.ending ≡ Failed → failed_write
  call_fails old new None other t f = kept_fails failed_write old.record_of new.record_of other t.0 f
  call_fails old new (Some event) other t f = go t.0.ending refl
    where
      by_time : t.0.ending ≡ Failed → failed_write
      by_time e = time_fails failed_write (due_time old.present old.last) old.record_of t.0 other t.1 e

      go : (ending : RecordEnd) → t.0.ending ≡ ending → failed_write
      go Failed e = by_time e
      go Whole e =
          text_fails failed_write Whole t.0 new.record_of (event_line event) e
          (λ k. absurd (let no : Whole ≡ Failed = sym e ∙ k in cc)) t.2 f
      go Full e =
          text_fails failed_write Full t.0 new.record_of (event_line event) e
          (λ k. absurd (let no : Full ≡ Failed = sym e ∙ k in cc)) t.2 f

  timed_stays : (ending : RecordEnd) (trace : List PortCall) (old new : Recorded P) → ending ≢ Whole →
      old.record_of.ending ≡ ending → EvolvesBy (Records transition failed_write) old trace new →
      new.record_of ≡ old.record_of
  timed_stays ending [] old new other e b = ap (λ (r : Recorded P). r.record_of) b
  timed_stays ending (call ∷ trace) old new other e b =
      let same = call_ended ending old b.0 (reported_by call) other e b.1.taken in
      timed_stays ending trace b.0 new other (ap (λ (w : Written). w.ending) same ∙ e) b.2 ∙ same

  has_items : (config : Config) (words : List Word) (all trace : List PortCall) (items : List RecordItem)
      (old new : Recorded P) → all ≡ calls_in items ++ trace → IsWholeOf config words items old.record_of →
      EvolvesBy (Records transition failed_write) old trace new → new.record_of.ending ≢ Failed →
      HasItems config words all new.record_of
  has_items config words all [] items old new whole h b other =
      let same : new.record_of ≡ old.record_of = ap (λ (r : Recorded P). r.record_of) b in
      record {
        items = items;
        rest = [];
        whole = whole;
        text = ap (λ (w : Written). w.text) same ∙ h.so_far.text;
        few = h.so_far.few;
        fit = h.so_far.fit;
        all = λ _. refl;
        full = λ e. absurd (let no : Whole ≡ Full = sym h.so_far.ending_is ∙ sym (ap (λ (w : Written). w.ending) same) ∙ e in cc);
      }
  has_items config words all (call ∷ trace) items old new whole h b other =
      go (call_taken config words items call old b.0 (reported_by call) refl h b.1.piece b.1.taken)
      (λ more calls k. has_items config words all trace more b.0 new calls k b.2 other)
    where
      go : Outcome config words items call b.0.record_of →
          ((more : List RecordItem) → all ≡ calls_in more ++ trace → IsWholeOf config words more b.0.record_of →
          HasItems config words all new.record_of) → HasItems config words all new.record_of
      go (further more calls k) later =
          later more (whole ∙ sym (append_assoc (calls_in items) (call ∷ []) trace)
          ∙ ap (λ (l : List PortCall). l ++ trace) (sym calls)) k
      go (full more calls k) later =
          let same = timed_stays Full trace b.0 new (λ e. absurd (cc)) k.so_far.ending_is b.2 in
          let ended : new.record_of.ending ≡ Full = ap (λ (w : Written). w.ending) same ∙ k.so_far.ending_is in
          record {
            items = more;
            rest = call ∷ trace;
            whole = whole ∙ ap (λ (l : List PortCall). l ++ call ∷ trace) (sym calls);
            text = ap (λ (w : Written). w.text) same ∙ k.so_far.text;
            few = k.so_far.few;
            fit = k.so_far.fit;
            all = λ e. absurd (let no : Full ≡ Whole = sym ended ∙ e in cc);
            full = λ _. k.most;
          }
      go (failed k) later =
          let same = timed_stays Failed trace b.0 new (λ e. absurd (cc)) k b.2 in
          absurd (other (ap (λ (w : Written). w.ending) same ∙ k))

  timed_fails : (trace : List PortCall) (old new : Recorded P) → old.record_of.ending ≢ Failed →
      EvolvesBy (Records transition failed_write) old trace new → new.record_of.ending ≡ Failed → failed_write
  timed_fails [] old new other b f = absurd (other (sym (ap (λ (r : Recorded P). r.record_of.ending) b) ∙ f))
  timed_fails (call ∷ trace) old new other b f =
      go b.0.record_of.ending refl (λ other. timed_fails trace b.0 new other b.2 f)
    where
      go : (ending : RecordEnd) → b.0.record_of.ending ≡ ending → (b.0.record_of.ending ≢ Failed → failed_write) → failed_write
      go Whole e later = later (λ g. absurd (let no : Whole ≡ Failed = sym e ∙ g in cc))
      go Full e later = later (λ g. absurd (let no : Full ≡ Failed = sym e ∙ g in cc))
      go Failed e later = call_fails old b.0 (reported_by call) other b.1.taken e

  pub ports_recorded : PortsAreRecorded transition failed_write
  ports_recorded config words comments trace old new begun b = (
    timed_fails trace old new (λ f. absurd (let no : Whole ≡ Failed = sym begun.ending ∙ f in cc)) b,
    λ other. has_items config words trace trace comments old new
        (sym (ap (λ (l : List PortCall). l ++ trace) begun.no_call)) (record {
          so_far = record { text = begun.text; few = begun.few; fit = begun.fit; ending_is = begun.ending };
          lines = begun.lines;
        }) b other,
  )
