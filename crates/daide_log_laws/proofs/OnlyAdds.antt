-- The plain report of a log is its report with explanations, without the lines that this adds.
use Rattle.std.proofs.Common.{◌≡◌, ℕ, zero, suc, ◌+◌, ◌-◌, ◌⊎◌, inl, inr, cond, eqb, Bool, true, false}
use Rattle.std.proofs.Common.{List, [], ◌∷◌, ◌++◌, length, take, drop, Option, Some, None, Result, Ok, Err, refl, sym, ap, ◌∙◌}
use Rattle.std.proofs.Common.{subst, append_assoc, append-nil}
use Rattle.std.specs.List.{AllByRecursion}
use Rattle.std.specs.Str.{bytes_eq}
use Rattle.std.proofs.lemmas.Bool.Decides.{eqb_tells}
use Rattle.daide_frame.specs.declared.side.Side.{Side}
use Rattle.daide_words.specs.declared.word.Word.{Word}
use Rattle.daide_protocol.specs.declared.summary.Summary.{Summary}
use Rattle.daide_protocol.specs.Events.{Event}
use Rattle.daide_protocol.specs.Machine.{SessionState, Effect}
use Rattle.daide_protocol.specs.Summary.{count_note, nothing_counted}
use Rattle.daide_log_lines.specs.declared.fault.LogFault.{LogFault}
use Rattle.daide_log_lines.specs.declared.fault.LogFault.TheVariants.{BadLine, LineTooLong, TooManyLines}
use Rattle.daide_log_lines.specs.LogLine.{IsUnbroken, without_cr}
use Rattle.daide_log_lines.specs.MatchLine.{MatchEvent, Of, Quiet}
use Rattle.daide_log.specs.declared.explained.Explained.{Explained}
use Rattle.daide_log.specs.declared.heading.Version.{Version}
use Rattle.daide_log.specs.declared.report.ReportKey.{ReportKey}
use Rattle.daide_log.specs.Report.{ReportEntry, entries_of, events_of_line, side_of, lines_of, move_line, texts_of, counted_over}
use Rattle.daide_log.specs.Report.{counted_all, summary_line}
use Rattle.daide_log.specs.Log.{LogState, Opening, Playing, AdvancesByLine, GoesOnBy, IsPlayedAs, Reports, ReportsBy}
use Rattle.daide_log.specs.Log.{ReportsAll, ReportsAllBy}
use Rattle.daide_log.specs.Log.{IsReport, IsReportBy, plain, source_in}
use Rattle.daide_log.specs.Explained.{ExplainedEntry, Moved, Remark, shown_text, shown_counted, AreShown, AreShownBy, explained}
use Rattle.std.specs.Prelude.{replicate}
use Rattle.daide_grammar.specs.declared.level.Level.{Level}
use Rattle.daide_grammar.specs.declared.level.Level.TheVariants.{L0}
use Rattle.daide_protocol.specs.Bounds.{most_sessions}
use Rattle.daide_log.specs.Explained.{announced_levels, entry_of, level_announced}
use Rattle.daide_log.specs.Explained.{indented, is_remark, remarks, Part, part_text, parts_from, cut_text}
use Rattle.daide_log.specs.Proofs.Lawful.{entries_of-append}
use Rattle.daide_log.proofs.SomeReport.{plain_uncut}
use Rattle.daide_log_laws.specs.Added.{without_added, is_added_line, counts_of, cut_in, IsUpToCut, ExplanationOnlyAdds, PlainAddsNothing}
use Rattle.daide_log_laws.proofs.TextLines.{added_line}
use Rattle.daide_log_laws.proofs.AddedLines.{IsWhole, indented_goes}
use Rattle.daide_log_laws.proofs.ShownParts.{lines_whole}
use Rattle.daide_log_laws.proofs.MoveLines.{move_stays, part_goes, cut_goes, summary_stays}

-- ---- entries

-- the moves among them
abbrev moves_in : List ExplainedEntry → List ReportEntry
moves_in [] = []
moves_in (Moved entry added announced ∷ shown) = entry ∷ moves_in shown
moves_in (Remark comment ∷ shown) = moves_in shown

moves_in-append : (a b : List ExplainedEntry) → moves_in (a ++ b) ≡ moves_in a ++ moves_in b
moves_in-append [] b = refl
moves_in-append (Moved entry added announced ∷ a) b = ap (λ (l : List ReportEntry). entry ∷ l) (moves_in-append a b)
moves_in-append (Remark comment ∷ a) b = moves_in-append a b

-- a move adds whole lines after four spaces, and a comment adds one line
abbrev IsAdding : ExplainedEntry → Type 0
IsAdding (Moved entry added announced) = (lines : List ℕ) × IsWhole lines × (added ≡ indented lines)
IsAdding (Remark comment) = IsUnbroken comment × (is_remark comment ≡ true)

abbrev AreAdding : List ExplainedEntry → Type 0
AreAdding shown = AllByRecursion IsAdding shown

both_adding : (a b : List ExplainedEntry) → AreAdding a → AreAdding b → AreAdding (a ++ b)
both_adding [] b h k = k
both_adding (one ∷ a) b h k = (h.0, both_adding a b h.1 k)

remark_goes : (comment tail : List ℕ) → IsUnbroken comment → is_remark comment ≡ true →
    without_added (comment ++ 10 ∷ tail) ≡ without_added tail
remark_goes [] tail whole h = absurd (cc)
remark_goes (byte ∷ comment) tail whole h = go (eqb_tells byte 35)
  where
    go : ((eqb byte 35 ≡ true) × (byte ≡ 35)) ⊎ ((eqb byte 35 ≡ false) × (byte ≡ 35 → ⊥)) →
        without_added ((byte ∷ comment) ++ 10 ∷ tail) ≡ without_added tail
    go (inl t) =
        added_line (byte ∷ comment) tail whole (ap (λ (n : ℕ). is_added_line ((n ∷ comment) ++ 10 ∷ [])) t.1)
    go (inr t) = let wrong : false ≡ true = sym t.0 ∙ h in absurd (cc)

abbrev move_text_of : ReportEntry → List ℕ
move_text_of entry = move_line entry.source entry.side entry.reported

shown_goes : (shown : List ExplainedEntry) (tail : List ℕ) → AreAdding shown →
    without_added (texts_of shown_text shown ++ tail) ≡ lines_of (moves_in shown) ++ without_added tail
shown_goes [] tail h = refl
shown_goes (Moved entry added announced ∷ shown) tail h =
    let text = move_text_of entry in
    let later = texts_of shown_text shown in
    ap without_added (append_assoc (text ++ added) later tail ∙ append_assoc text added (later ++ tail))
    ∙ move_stays entry.source entry.side entry.reported (added ++ (later ++ tail))
    ∙ ap (λ (l : List ℕ). text ++ l)
    (ap (λ (l : List ℕ). without_added (l ++ (later ++ tail))) h.0.2
    ∙ indented_goes h.0.0 (later ++ tail) h.0.1
    ∙ shown_goes shown tail h.1)
    ∙ sym (append_assoc text (lines_of (moves_in shown)) (without_added tail))
shown_goes (Remark comment ∷ shown) tail h =
    let later = texts_of shown_text shown in
    ap without_added (append_assoc (comment ++ 10 ∷ []) later tail ∙ append_assoc comment (10 ∷ []) (later ++ tail))
    ∙ remark_goes comment (later ++ tail) h.0.0 h.0.1
    ∙ shown_goes shown tail h.1

shown_alone : (shown : List ExplainedEntry) → AreAdding shown →
    without_added (texts_of shown_text shown) ≡ lines_of (moves_in shown)
shown_alone shown h =
    ap without_added (sym (append-nil (texts_of shown_text shown))) ∙ shown_goes shown [] h
    ∙ append-nil (lines_of (moves_in shown))

parts_go : (parts : List Part) (tail : List ℕ) → without_added (texts_of part_text parts ++ tail) ≡ without_added tail
parts_go [] tail = refl
parts_go (part ∷ parts) tail =
    ap without_added (append_assoc (part_text part) (texts_of part_text parts) tail)
    ∙ part_goes part.session part.side part.came part.size (texts_of part_text parts ++ tail)
    ∙ parts_go parts tail

same_counts : (shown : List ExplainedEntry) (s : Summary) → counted_over shown_counted shown s ≡ counted_all (moves_in shown) s
same_counts [] s = refl
same_counts (Moved entry added announced ∷ shown) s = same_counts shown (count_note entry.reported s)
same_counts (Remark comment ∷ shown) s = same_counts shown s

-- ---- the entries of a line

module _ (words : List Word) where
  -- the entries of these moves, and what they add
  abbrev AreOf : ReportKey → Side → List Effect → List ExplainedEntry → Type 0
  AreOf source side moves shown = (moves_in shown ≡ entries_of source side moves) × AreAdding shown

  here_adds : (levels : List Level) (source : ReportKey) (side : Side) (before : SessionState) (event : Event) (moves : List Effect)
      (shown : List ExplainedEntry) → AreShown words levels source side before event moves shown → AreOf source side moves shown
  here_adds levels source side before event [] shown e =
      subst (λ (l : List ExplainedEntry). AreOf source side [] l) (sym e) (refl, tt)
  here_adds levels source side before event (move ∷ moves) shown h =
      let later = here_adds (announced_levels levels (entry_of levels source side before event move.reported h.0 ∷ [])) source side
      before event moves h.1 h.3 in
      let entry : ReportEntry = record { source = source; side = side; reported = move.reported } in
      subst (λ (l : List ExplainedEntry). AreOf source side (move ∷ moves) l) (sym h.4) (
        ap (λ (l : List ReportEntry). entry ∷ l) later.0,
        ((h.0, lines_whole words (level_announced levels source) side before event move.reported h.0 h.2, refl), later.1),
      )

  all_add : (levels : List Level) (source : ReportKey) (side : Side) (old : SessionState) (events : List Event) (moves : List Effect)
      (new : SessionState) (shown : List ExplainedEntry) → AreShownBy words levels source side old events moves new shown →
      AreOf source side moves shown
  all_add levels source side old [] moves new shown h =
      subst (λ (l : List ExplainedEntry). AreOf source side moves l) (sym h.2)
      (subst (λ (m : List Effect). AreOf source side m []) (sym h.0) (refl, tt))
  all_add levels source side old (event ∷ events) moves new shown h =
      let first = here_adds levels source side old event h.1 h.3 h.6 in
      let later = all_add (announced_levels levels h.3) source side h.0 events h.2 new h.4 h.7 in
      subst (λ (l : List ExplainedEntry). AreOf source side moves l) (sym h.9)
      (subst (λ (m : List Effect). AreOf source side m (h.3 ++ h.4)) (sym h.8) (
        moves_in-append h.3 h.4 ∙ ap (λ (l : List ReportEntry). l ++ moves_in h.4) first.0
            ∙ ap (λ (l : List ReportEntry). entries_of source side h.1 ++ l) later.0
            ∙ sym (entries_of-append source side h.1 h.2),
        both_adding h.3 h.4 first.1 later.1,
      ))

  remarks_add : (line : List ℕ) → IsUnbroken line → (moves_in (remarks line) ≡ []) × AreAdding (remarks line)
  remarks_add line whole = go (is_remark line) refl
    where
      go : (b : Bool) → is_remark line ≡ b →
          (moves_in (cond b (Remark line ∷ []) []) ≡ []) × AreAdding (cond b (Remark line ∷ []) [])
      go true e = (refl, ((whole, e), tt))
      go false e = (refl, tt)

  -- ---- the lines

  abbrev GoesOnWith : ℕ → LogState → List ℕ → List ExplainedEntry → LogState → Type 0
  GoesOnWith number old line shown new = AdvancesByLine number old line (moves_in shown) new × AreAdding shown

  played_adds : (levels : List Level) (version : Version) (number : ℕ) (event : MatchEvent) (line : List ℕ) (old new : List SessionState)
      (shown : List ExplainedEntry) → IsUnbroken line →
      IsPlayedAs ((explained words).quiet line) ((explained words).line levels line) version number event old shown new →
      IsPlayedAs (plain.quiet line) (plain.line tt line) version number event old (moves_in shown) new × AreAdding shown
  played_adds levels version number Quiet line old new shown whole h =
      let own = remarks_add line whole in (
        (ap moves_in h.0 ∙ own.0, h.1),
        subst AreAdding (sym h.0) own.1,
      )
  played_adds levels version number (Of session event) line old new shown whole h =
      let reported = h.5 in
      let source : ReportKey = source_in version number session in
      let own = remarks_add line whole in
      let moves = all_add levels source (side_of event) h.0 (events_of_line event) h.2 h.1 reported.0 reported.1 in (
        (
          h.0,
          h.1,
          h.2,
          h.3,
          h.4,
          ap moves_in reported.2 ∙ moves_in-append (remarks line) reported.0
              ∙ ap (λ (l : List ReportEntry). l ++ moves_in reported.0) own.0 ∙ moves.0,
          h.6,
        ),
        subst AreAdding (sym reported.2) (both_adding (remarks line) reported.0 own.1 moves.1),
      )

  goes_on : (levels : List Level) (number : ℕ) (old : LogState) (line : List ℕ) (shown : List ExplainedEntry) (new : LogState) → IsUnbroken line →
      GoesOnBy (explained words) levels number old line shown new → GoesOnWith number old line shown new
  goes_on levels number (Opening heading) line shown new whole h =
      ((h.0, h.1, ap moves_in h.2.0, h.3), subst AreAdding (sym h.2.0) tt)
  goes_on levels number (Playing version old) line shown new whole h =
      let played = played_adds levels version number h.0 line old h.2 shown whole h.3 in
      ((h.0, h.1, h.2, played.0, h.4), played.1)

  taken : (n : ℕ) (line : List ℕ) → IsUnbroken line → IsUnbroken (take n line)
  taken zero line h = tt
  taken (suc n) [] h = tt
  taken (suc n) (byte ∷ line) h = (h.0, taken n line h.1)

  still_unbroken : (line : List ℕ) → IsUnbroken line → IsUnbroken (without_cr line)
  still_unbroken line h = go (bytes_eq (drop (length line - 1) line) (13 ∷ []))
    where
      go : (b : Bool) → IsUnbroken (cond b (take (length line - 1) line) line)
      go true = taken (length line - 1) line h
      go false = h

  abbrev ParsedEvent : List ℕ → ℕ → List ExplainedEntry → LogState → Type 0
  ParsedEvent bytes number shown stage = Reports bytes number (moves_in shown) stage × AreAdding shown

  lines_reported : (bytes : List ℕ) (number : ℕ) (shown : List ExplainedEntry) (stage : LogState) →
      ReportsBy (explained words) bytes number shown stage → ParsedEvent bytes number shown stage
  lines_reported bytes number shown stage ReportsBy.none = (ReportsBy.none, tt)
  lines_reported bytes number shown stage (ReportsBy.line before count first old reports line more new few whole short on) =
      let ahead = lines_reported before count first old reports in
      let now = goes_on (announced_levels (replicate most_sessions L0) first) (count + 1) old (without_cr line) more new
      (still_unbroken line whole) on in (
        subst (λ (l : List ReportEntry). Reports (before ++ line ++ 10 ∷ []) (count + 1) l new) (sym (moves_in-append first more))
            (ReportsBy.line before count (moves_in first) old ahead.0 line (moves_in more) new few whole short now.0),
        both_adding first more ahead.1 now.1,
      )

  all_reported : (bytes : List ℕ) (number : ℕ) (shown : List ExplainedEntry) (stage : LogState) →
      ReportsAllBy (explained words) bytes number shown stage →
      ReportsAll bytes number (moves_in shown) stage × AreAdding shown
  all_reported bytes number shown stage (ReportsAllBy.ended same count entries state reports) =
      let ahead = lines_reported same count entries state reports in
      (ReportsAllBy.ended same count (moves_in entries) state ahead.0, ahead.1)
  all_reported bytes number shown stage
      (ReportsAllBy.unended before count first old reports line more new few some whole short on) =
      let ahead = lines_reported before count first old reports in
      let now = goes_on (announced_levels (replicate most_sessions L0) first) (count + 1) old line more new whole on in (
        subst (λ (l : List ReportEntry). ReportsAll (before ++ line) (count + 1) l new) (sym (moves_in-append first more))
            (ReportsAllBy.unended before count (moves_in first) old ahead.0 line (moves_in more) new few some whole short now.0),
        both_adding first more ahead.1 now.1,
      )

  -- ---- the report

  refused : (log : List ℕ) (shown : List ExplainedEntry) (answer : Result Summary LogFault) → AreAdding shown →
      IsReport log (lines_of (moves_in shown)) answer → IsReport log (without_added (texts_of shown_text shown)) answer
  refused log shown answer h report =
      subst (λ (text : List ℕ). IsReport log text answer) (sym (shown_alone shown h)) report

  cut_text_goes : (cut : Option ℕ) (tail : List ℕ) → without_added (cut_text cut ++ tail) ≡ without_added tail
  cut_text_goes None tail = refl
  cut_text_goes (Some number) tail = cut_goes number tail

  whole_text : (cut : Option ℕ) (shown : List ExplainedEntry) (closing : List Part) → AreAdding shown →
      without_added (texts_of shown_text shown
      ++ ((cut_text cut ++ texts_of part_text closing) ++ summary_line (counted_over shown_counted shown nothing_counted)))
      ≡ lines_of (moves_in shown) ++ ([] ++ summary_line (counted_all (moves_in shown) nothing_counted))
  whole_text cut shown closing h =
      let last = summary_line (counted_over shown_counted shown nothing_counted) in
      shown_goes shown ((cut_text cut ++ texts_of part_text closing) ++ last) h
      ∙ ap (λ (l : List ℕ). lines_of (moves_in shown) ++ l)
      (ap without_added (append_assoc (cut_text cut) (texts_of part_text closing) last)
      ∙ cut_text_goes cut (texts_of part_text closing ++ last)
      ∙ parts_go closing last ∙ summary_stays (counted_over shown_counted shown nothing_counted)
      ∙ ap summary_line (same_counts shown nothing_counted))

  -- the plain report of whole lines has the counts of the entries
  lines_adds : (cut : Option ℕ) (log : List ℕ) (number : ℕ) (shown : List ExplainedEntry) (version : Version)
      (sessions : List SessionState) (closing : List Part) →
      ReportsAll log number (moves_in shown) (Playing version sessions) × AreAdding shown →
      IsReport log (without_added (texts_of shown_text shown
      ++ ((cut_text cut ++ texts_of part_text closing) ++ summary_line (counted_over shown_counted shown nothing_counted))))
      (Ok (counted_over shown_counted shown nothing_counted))
  lines_adds cut log number shown version sessions closing ahead =
      let counts = counted_all (moves_in shown) nothing_counted in
      subst (λ (t : List ℕ). IsReport log t (Ok (counted_over shown_counted shown nothing_counted)))
      (sym (whole_text cut shown closing ahead.1))
      (subst (λ (s : Summary). IsReport log (lines_of (moves_in shown) ++ ([] ++ summary_line counts)) (Ok s))
      (sym (same_counts shown nothing_counted))
      (IsReportBy.whole log number (moves_in shown) version sessions ahead.0))

  -- lines after a head end with a line feed
  fed : (bytes : List ℕ) (number : ℕ) (shown : List ExplainedEntry) (stage : LogState) (version : Version)
      (sessions : List SessionState) → ReportsBy (explained words) bytes number shown stage → stage ≡ Playing version sessions →
      (lines : List ℕ) × (bytes ≡ lines ++ 10 ∷ [])
  fed _ _ _ _ version sessions ReportsBy.none e = absurd (cc)
  fed _ _ _ _ version sessions (ReportsBy.line before count first old reports line more new few whole short on) e =
      (before ++ line, refl)

  abbrev OnlyAddsTo : List ℕ → List ℕ → Result Explained LogFault → Type 0
  OnlyAddsTo log text answer =
      (judged : List ℕ) × IsUpToCut (cut_in answer) log judged × IsReport judged (without_added text) (counts_of answer)

  only_adds : (log text : List ℕ) (answer : Result Explained LogFault) → IsReportBy (explained words) log text answer →
      OnlyAddsTo log text answer
  only_adds log text answer (IsReportBy.whole bytes number shown version sessions all) = (
    bytes,
    refl,
    lines_adds None bytes number shown version sessions (parts_from version 1 sessions)
        (all_reported bytes number shown (Playing version sessions) all),
  )
  only_adds log text answer (IsReportBy.cut bytes number shown version sessions reports line few some whole short bad cuts) =
      let ahead = lines_reported bytes number shown (Playing version sessions) reports in
      let front = fed bytes number shown (Playing version sessions) version sessions reports refl in (
        bytes,
        (front.0, line, front.1, refl, whole, some),
        lines_adds (Some (number + 1)) bytes number shown version sessions (parts_from version 1 sessions)
            (ReportsAllBy.ended bytes number (moves_in shown) (Playing version sessions) ahead.0, ahead.1),
      )
  only_adds log text answer (IsReportBy.cut_short bytes number shown stage all opening) =
      let ahead = all_reported bytes number shown stage all in (
        bytes,
        refl,
        refused bytes shown (Err (BadLine (number + 1))) ahead.1
            (IsReportBy.cut_short bytes number (moves_in shown) stage ahead.0 opening),
      )
  only_adds log text answer (IsReportBy.bad bytes number shown stage reports line after few whole short bad) =
      let ahead = lines_reported bytes number shown stage reports in (
        bytes ++ line ++ 10 ∷ after,
        refl,
        refused (bytes ++ line ++ 10 ∷ after) shown (Err (BadLine (number + 1))) ahead.1
            (IsReportBy.bad bytes number (moves_in shown) stage ahead.0 line after few whole short bad),
      )
  only_adds log text answer (IsReportBy.bad_last bytes number shown stage reports line few some whole short bad uncut) =
      let ahead = lines_reported bytes number shown stage reports in (
        bytes ++ line,
        refl,
        refused (bytes ++ line) shown (Err (BadLine (number + 1))) ahead.1
            (IsReportBy.bad_last bytes number (moves_in shown) stage ahead.0 line few some whole short bad (plain_uncut stage)),
      )
  only_adds log text answer (IsReportBy.too_long bytes number shown stage reports line after few whole long) =
      let ahead = lines_reported bytes number shown stage reports in (
        bytes ++ line ++ after,
        refl,
        refused (bytes ++ line ++ after) shown (Err (LineTooLong (number + 1))) ahead.1
            (IsReportBy.too_long bytes number (moves_in shown) stage ahead.0 line after few whole long),
      )
  only_adds log text answer (IsReportBy.too_many bytes shown stage reports after some) =
      let ahead = lines_reported bytes 1000000 shown stage reports in (
        bytes ++ after,
        refl,
        refused (bytes ++ after) shown (Err TooManyLines) ahead.1
            (IsReportBy.too_many bytes (moves_in shown) stage ahead.0 after some),
      )

pub explanation_adds : ExplanationOnlyAdds
explanation_adds words log text answer report = only_adds words log text answer report

-- ---- the plain report

plain_stays : (reported : List ReportEntry) (tail : List ℕ) →
    without_added (lines_of reported ++ tail) ≡ lines_of reported ++ without_added tail
plain_stays [] tail = refl
plain_stays (entry ∷ reported) tail =
    let text = move_text_of entry in
    ap without_added (append_assoc text (lines_of reported) tail)
    ∙ move_stays entry.source entry.side entry.reported (lines_of reported ++ tail)
    ∙ ap (λ (l : List ℕ). text ++ l) (plain_stays reported tail)
    ∙ sym (append_assoc text (lines_of reported) (without_added tail))

plain_alone : (reported : List ReportEntry) → without_added (lines_of reported) ≡ lines_of reported
plain_alone reported =
    ap without_added (sym (append-nil (lines_of reported))) ∙ plain_stays reported [] ∙ append-nil (lines_of reported)

pub plain_adds_nothing : PlainAddsNothing
plain_adds_nothing log text answer (IsReportBy.whole bytes number reported version sessions all) =
    let last = summary_line (counted_all reported nothing_counted) in
    plain_stays reported last ∙ ap (λ (l : List ℕ). lines_of reported ++ l) (summary_stays (counted_all reported nothing_counted))
plain_adds_nothing log text answer (IsReportBy.cut_short bytes number reported stage all opening) = plain_alone reported
plain_adds_nothing log text answer (IsReportBy.bad bytes number reported stage reports line after few whole short bad) =
    plain_alone reported
plain_adds_nothing log text answer (IsReportBy.bad_last bytes number reported stage reports line few some whole short bad uncut) =
    plain_alone reported
plain_adds_nothing log text answer (IsReportBy.cut bytes number reported version sessions reports line few some whole short bad cuts) =
    absurd (cc)
plain_adds_nothing log text answer (IsReportBy.too_long bytes number reported stage reports line after few whole long) =
    plain_alone reported
plain_adds_nothing log text answer (IsReportBy.too_many bytes reported stage reports after some) = plain_alone reported
