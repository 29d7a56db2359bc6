-- From one line of a log to the next.
use Rattle.std.specs.Io.KnownBytes.{Consumes, IsAtEnd}
use Rattle.daide_log.proofs.Common.{MatchBool, ◌≡◌, ℕ, ◌+◌, ◌<◌, ◌≤◌, List, [], ◌∷◌, ◌++◌, length, Option, Some, None}
use Rattle.daide_log.proofs.Common.{Result, Ok, Err, Bool, true, false, refl, sym, ap, ◌∙◌, subst, arith, append-nil}
use Rattle.daide_log.proofs.Common.{append_assoc, length-append, ◌≢◌, IfSome, IfOk, IfErr, inl, inr, Keeps, Appends}
use Rattle.daide_log.proofs.Common.{append_known, SessionState, Version, Summary, LineEnd, Held, Line, Last, End}
use Rattle.daide_log.proofs.Common.{LogFault, Unnamed, nothing_counted, ReportForm, IsLateFault, Opened, texts_of}
use Rattle.daide_log.proofs.Common.{counted_over, summary_line, longest_line, Reader, IsFound, HasRead, HasReadAll}
use Rattle.daide_log.proofs.Common.{IsFaultAfter, GivesInTime, IsOpened, IsOpenedBy, IsFinished, Word, preamble_of}
use Rattle.daide_log.proofs.Common.{keeps_appends, appends_and_keeps}
use Rattle.daide_log_lines.specs.declared.fault.LogFault.TheVariants as Faults
use Rattle.daide_log.specs.Log.{LogState, Opening, Playing, GoesOnBy, IsBad, IsOpening, reads_cut, ReportsBy, ReportsAllBy, IsReportBy}
use Rattle.daide_log_lines.specs.Lines.{LooksAt, IsInLine, block_size}
use Rattle.daide_log.specs.Progress.{StopsBehind, IsFaultOf, Reported, IsInTime, StopsAtLine, IsAnswered}
use Rattle.daide_log_lines.proofs.LineLemmas.{gives_none, gives_on}
use Rattle.daide_log_lines.proofs.PageLemmas.{keeps_more, none_held}
use Rattle.daide_log.proofs.PlayLemmas.{appends_more}

module _ {Answer : Type 0} (form : ReportForm Answer) where
  -- ---- the bytes that were consumed

  -- all bytes read, up to the end of those that were consumed
  looked : (before all : Option (List ℕ)) (old now new : Reader) (buffered line rest : List ℕ) (n : ℕ) (reported : List form.Entry) (stage : LogState)
      (h : HasRead form before old now buffered n reported stage) (k : LooksAt all now buffered n line new rest) →
      h.given ++ k.0 ≡ (h.bytes ++ line) ++ rest
  looked before all old now new buffered line rest n reported stage h k =
      ap (λ (l : List ℕ). l ++ k.0) h.whole ∙ append_assoc h.bytes buffered k.0 ∙ ap (λ (l : List ℕ). h.bytes ++ l) k.2
      ∙ sym (append_assoc h.bytes line rest)

  -- a read within the next line is in time
  in_time : (before all : Option (List ℕ)) (old now : Reader) (buffered : List ℕ) (n : ℕ) (reported : List form.Entry) (stage : LogState)
      (h : HasRead form before old now buffered n reported stage) → Appends before all (texts_of form.text reported) → (came : List ℕ)
      (written : Option (List ℕ)) → IsInLine all buffered n came written → IsInTime form before (h.given ++ came) written
  in_time before all old now buffered n reported stage h w came written q = record {
    bytes = h.bytes;
    line = buffered ++ came;
    whole = ap (λ (l : List ℕ). l ++ came) h.whole ∙ append_assoc h.bytes buffered came;
    number = n;
    reported = reported;
    stage = stage;
    reports = h.reports;
    begun = q.0;
    appended = appends_and_keeps before all written (texts_of form.text reported) w q.1;
  }

  all_given : (before all : Option (List ℕ)) (old now new : Reader) (buffered line rest : List ℕ) (n : ℕ) (reported : List form.Entry)
      (stage : LogState) (h : HasRead form before old now buffered n reported stage) → Appends before all (texts_of form.text reported) →
      (k : LooksAt all now buffered n line new rest) → GivesInTime form before old new (h.given ++ k.0)
  all_given before all old now new buffered line rest n reported stage h w k =
      gives_on (IsInTime form before) (IsInLine all buffered n) old now new h.given k.0 h.gives k.1
      (λ came written q. in_time before all old now buffered n reported stage h w came written q)

  -- all bytes read, up to the end of a last line without a line feed
  last_given : (before all : Option (List ℕ)) (old now new : Reader) (buffered rest line : List ℕ) (n : ℕ) (reported : List form.Entry)
      (stage : LogState) (h : HasRead form before old now buffered n reported stage) → Appends before all (texts_of form.text reported) →
      IsFound all now buffered n (Ok Last) line new rest → GivesInTime form before old new (h.bytes ++ line)
  last_given before all old now new buffered rest line n reported stage h w f =
      subst (GivesInTime form before old new)
      (looked before all old now new buffered line rest n reported stage h f.0 ∙ ap (λ (l : List ℕ). (h.bytes ++ line) ++ l) f.1
      ∙ append-nil (h.bytes ++ line))
      (all_given before all old now new buffered line rest n reported stage h w f.0)

  given_bytes : (before : Option (List ℕ)) (old new : Reader) (given : List ℕ) → GivesInTime form before old new given →
      Consumes old.remaining new.remaining given
  given_bytes before old new given g = g.4

  -- a property of all bytes read, whatever follows them, holds of the log
  of_log : (P : List ℕ → Type 0) (old new : Option (List ℕ)) (given : List ℕ) → Consumes old new given →
      ((more : List ℕ) → P (given ++ more)) → IfSome old P
  of_log P None new given h p = tt
  of_log P (Some log) None given h p = absurd h
  of_log P (Some log) (Some more) given h p = subst P (sym h) (p more)

  of_ended_log : (P : List ℕ → Type 0) (old new : Option (List ℕ)) (given : List ℕ) → Consumes old new given → IsAtEnd new →
      P given → IfSome old P
  of_ended_log P None new given h e p = tt
  of_ended_log P (Some log) None given h e p = absurd h
  of_ended_log P (Some log) (Some more) given h e p =
      subst P (sym (h ∙ ap (λ (l : List ℕ). given ++ l) e ∙ append-nil given)) p

  -- ---- the next line

  pub nothing_read : (before : Option (List ℕ)) (old : Reader) → HasRead form before old old [] 0 [] (Opening Unnamed)
  nothing_read before old = record {
    given = [];
    gives = gives_none (IsInTime form before) old;
    bytes = [];
    whole = refl;
    reports = ReportsBy.none;
  }

  -- the bytes read by reads in time, up to the end of the line that was found
  pub found_given : (before all : Option (List ℕ)) (old now new : Reader) (buffered rest line : List ℕ) (n : ℕ)
      (reported : List form.Entry) (stage : LogState) (found : LineEnd) → HasRead form before old now buffered n reported stage →
      Appends before all (texts_of form.text reported) → IsFound all now buffered n (Ok found) line new rest →
      (given : List ℕ) × GivesInTime form before old new given
  found_given before all old now new buffered rest line n reported stage (Held k) h w f =
      (h.given ++ f.1.0, all_given before all old now new buffered (f.0 ++ 10 ∷ []) rest n reported stage h w f.1)
  found_given before all old now new buffered rest line n reported stage Line h w f =
      (h.given ++ f.1.0, all_given before all old now new buffered (f.0 ++ 10 ∷ []) rest n reported stage h w f.1)
  found_given before all old now new buffered rest line n reported stage Last h w f =
      (h.given ++ f.0.0, all_given before all old now new buffered line rest n reported stage h w f.0)
  found_given before all old now new buffered rest line n reported stage End h w f =
      (h.given ++ f.0.0, all_given before all old now new buffered [] rest n reported stage h w f.0)

  pub line_read : (before all : Option (List ℕ)) (old now new : Reader) (buffered rest line : List ℕ) (n : ℕ) (reported more : List form.Entry)
      (stage after : LogState) → HasRead form before old now buffered n reported stage → Appends before all (texts_of form.text reported) →
      IsFound all now buffered n (Ok Line) line new rest →
      GoesOnBy form (form.next form.fresh reported) (n + 1) stage line more after →
      HasRead form before old new rest (n + 1) (reported ++ more) after
  line_read before all old now new buffered rest line n reported more stage after h w f on = record {
    given = h.given ++ f.1.0;
    gives = all_given before all old now new buffered (f.0 ++ 10 ∷ []) rest n reported stage h w f.1;
    bytes = h.bytes ++ f.0 ++ 10 ∷ [];
    whole = looked before all old now new buffered (f.0 ++ 10 ∷ []) rest n reported stage h f.1 ∙ simp append_assoc;
    reports = ReportsBy.line h.bytes n reported stage h.reports f.0 more after f.4 f.2 f.3
        (subst (λ (l : List ℕ). GoesOnBy form (form.next form.fresh reported) (n + 1) stage l more after) f.5 on);
  }

  pub last_read : (before all : Option (List ℕ)) (old now new : Reader) (buffered rest line : List ℕ) (n : ℕ) (reported more : List form.Entry)
      (stage after : LogState) → HasRead form before old now buffered n reported stage → Appends before all (texts_of form.text reported) →
      IsFound all now buffered n (Ok Last) line new rest →
      GoesOnBy form (form.next form.fresh reported) (n + 1) stage line more after →
      HasReadAll form before old new (n + 1) (reported ++ more) after
  last_read before all old now new buffered rest line n reported more stage after h w f on = record {
    given = h.bytes ++ line;
    gives = last_given before all old now new buffered rest line n reported stage h w f;
    ended = f.2;
    reports = ReportsAllBy.unended h.bytes n reported stage h.reports line more after f.6 f.5 f.3 f.4 on;
  }

  pub end_read : (before all : Option (List ℕ)) (old now new : Reader) (buffered rest line : List ℕ) (n : ℕ) (reported : List form.Entry)
      (stage : LogState) → HasRead form before old now buffered n reported stage → Appends before all (texts_of form.text reported) →
      IsFound all now buffered n (Ok End) line new rest → HasReadAll form before old new n reported stage
  end_read before all old now new buffered rest line n reported stage h w f = record {
    given = h.bytes;
    gives = subst (GivesInTime form before old new)
        (looked before all old now new buffered [] rest n reported stage h f.0 ∙ ap (λ (l : List ℕ). (h.bytes ++ []) ++ l) f.1
        ∙ append-nil (h.bytes ++ []) ∙ append-nil h.bytes)
        (all_given before all old now new buffered [] rest n reported stage h w f.0);
    ended = f.2;
    reports = ReportsAllBy.ended h.bytes n reported stage h.reports;
  }

  -- ---- a fault

  stops : (before all : Option (List ℕ)) (old now new : Reader) (buffered start beyond : List ℕ) (n : ℕ) (reported : List form.Entry)
      (stage : LogState) (count : ℕ) (h : HasRead form before old now buffered n reported stage) → Appends before all (texts_of form.text reported) → LooksAt all now buffered n start new beyond →
      length start ≡ count → length beyond < block_size → StopsBehind form before old new reported n count
  stops before all old now new buffered start beyond n reported stage count h w k started few = record {
    given = h.given ++ k.0;
    gives = all_given before all old now new buffered start beyond n reported stage h w k;
    bytes = h.bytes;
    start = start;
    beyond = beyond;
    whole = looked before all old now new buffered start beyond n reported stage h k;
    started = started;
    few = few;
    stage = stage;
    reports = h.reports;
  }

  -- at the first byte of the block
  stops_at_first : (before all : Option (List ℕ)) (old now new : Reader) (buffered rest : List ℕ) (n : ℕ) (reported : List form.Entry)
      (stage : LogState) (h : HasRead form before old now buffered n reported stage) → Appends before all (texts_of form.text reported) → LooksAt all now buffered n [] new rest → 0 < length rest →
      length rest ≤ block_size → StopsBehind form before old new reported n 1
  stops_at_first before all old now new buffered [] n reported stage h w k some few = absurd (omega arith)
  stops_at_first before all old now new buffered (x ∷ rest) n reported stage h w k some few =
      stops before all old now new buffered (x ∷ []) rest n reported stage 1 h w (k.0, k.1, k.2) refl (omega arith)

  pub bad_line : (before all : Option (List ℕ)) (old now new : Reader) (buffered rest line : List ℕ) (n : ℕ) (reported : List form.Entry)
      (stage : LogState) → HasRead form before old now buffered n reported stage → Appends before all (texts_of form.text reported) →
      IsFound all now buffered n (Ok Line) line new rest → IsBad stage line → IsFaultOf form before old new reported (Faults.BadLine (n + 1))
  bad_line before all old now new buffered rest line n reported stage h w f wrong = (
    of_log (λ log. IsReportBy form log (texts_of form.text reported) (Err (Faults.BadLine (n + 1)))) old.remaining new.remaining (h.given ++ f.1.0)
        (given_bytes before old new _ (all_given before all old now new buffered (f.0 ++ 10 ∷ []) rest n reported stage h w f.1))
        (λ more. subst (λ (log : List ℕ). IsReportBy form log (texts_of form.text reported) (Err (Faults.BadLine (n + 1)))) (same more)
        (IsReportBy.bad h.bytes n reported stage h.reports f.0 (rest ++ more) f.4 f.2 f.3
        (subst (IsBad stage) f.5 wrong))),
    inl (record {
      given = h.given ++ f.1.0;
      gives = all_given before all old now new buffered (f.0 ++ 10 ∷ []) rest n reported stage h w f.1;
      bytes = h.bytes;
      line = f.0;
      beyond = rest;
      whole = looked before all old now new buffered (f.0 ++ 10 ∷ []) rest n reported stage h f.1 ∙ simp append_assoc;
      unbroken = f.2;
      few = f.6;
      number = n;
      next = refl;
      stage = stage;
      reports = h.reports;
    }),
  )
    where
      same : (more : List ℕ) → h.bytes ++ f.0 ++ 10 ∷ (rest ++ more) ≡ (h.given ++ f.1.0) ++ more
      same more = sym (ap (λ (l : List ℕ). l ++ more) (looked before all old now new buffered (f.0 ++ 10 ∷ []) rest n reported stage h f.1)
          ∙ simp append_assoc)

  pub bad_last : (before all : Option (List ℕ)) (old now new : Reader) (buffered rest line : List ℕ) (n : ℕ) (reported : List form.Entry)
      (stage : LogState) → HasRead form before old now buffered n reported stage → Appends before all (texts_of form.text reported) →
      IsFound all now buffered n (Ok Last) line new rest → IsBad stage line → reads_cut form stage ≡ false →
      IsFaultOf form before old new reported (Faults.BadLine (n + 1))
  bad_last before all old now new buffered rest line n reported stage h w f wrong uncut = (
    of_ended_log (λ log. IsReportBy form log (texts_of form.text reported) (Err (Faults.BadLine (n + 1)))) old.remaining new.remaining (h.bytes ++ line)
        (given_bytes before old new _ got) f.2
        (IsReportBy.bad_last h.bytes n reported stage h.reports line f.6 f.5 f.3 f.4 wrong uncut),
    inr (inl (record {
      given = h.bytes ++ line;
      gives = got;
      ended = f.2;
      bytes = h.bytes;
      line = line;
      whole = refl;
      unbroken = f.3;
      number = n;
      next = refl;
      stage = stage;
      reports = h.reports;
    })),
  )
    where
      got : GivesInTime form before old new (h.bytes ++ line)
      got = last_given before all old now new buffered rest line n reported stage h w f

  pub ends_early : (before : Option (List ℕ)) (old new : Reader) (n : ℕ) (reported : List form.Entry) (stage : LogState) →
      HasReadAll form before old new n reported stage → IsOpening stage → IsFaultOf form before old new reported (Faults.BadLine (n + 1))
  ends_early before old new n reported stage h is_opening = (
    of_ended_log (λ log. IsReportBy form log (texts_of form.text reported) (Err (Faults.BadLine (n + 1)))) old.remaining new.remaining h.given
        (given_bytes before old new h.given h.gives) h.ended
        (IsReportBy.cut_short h.given n reported stage h.reports is_opening),
    inr (inr (n, stage, refl, h)),
  )

  pub fault_found : (before all : Option (List ℕ)) (old now new : Reader) (buffered rest line : List ℕ) (n : ℕ) (reported : List form.Entry) (stage : LogState)
      (fault : LogFault) → HasRead form before old now buffered n reported stage → Appends before all (texts_of form.text reported) →
      IsFound all now buffered n (Err fault) line new rest → IsFaultOf form before old new reported fault
  fault_found before all old now new buffered rest line n reported stage (Faults.BadLine k) h w f = absurd f
  fault_found before all old now new buffered rest line n reported stage (Faults.LineTooLong k) h w f = (
    of_log (λ log. IsReportBy form log (texts_of form.text reported) (Err (Faults.LineTooLong k))) old.remaining new.remaining (h.given ++ f.1.0)
        (given_bytes before old new _ (all_given before all old now new buffered f.0 rest n reported stage h w f.1))
        (λ more. subst (λ (log : List ℕ). IsReportBy form log (texts_of form.text reported) (Err (Faults.LineTooLong k))) (same more)
        (subst (λ (m : ℕ). IsReportBy form (h.bytes ++ f.0 ++ (rest ++ more)) (texts_of form.text reported) (Err (Faults.LineTooLong m))) (sym f.5)
        (IsReportBy.too_long h.bytes n reported stage h.reports f.0 (rest ++ more) f.4 f.2 (omega (arith, f.3))))),
    n,
    f.5,
    stops before all old now new buffered f.0 rest n reported stage (longest_line + 1) h w f.1 f.3 f.6,
  )
    where
      same : (more : List ℕ) → h.bytes ++ f.0 ++ (rest ++ more) ≡ (h.given ++ f.1.0) ++ more
      same more = sym (ap (λ (l : List ℕ). l ++ more) (looked before all old now new buffered f.0 rest n reported stage h f.1)
          ∙ simp append_assoc)
  fault_found before all old now new buffered rest line n reported stage Faults.TooManyLines h w f = (
    of_log (λ log. IsReportBy form log (texts_of form.text reported) (Err Faults.TooManyLines)) old.remaining new.remaining (h.given ++ f.0.0)
        (given_bytes before old new _ (all_given before all old now new buffered [] rest n reported stage h w f.0))
        (λ more. subst (λ (log : List ℕ). IsReportBy form log (texts_of form.text reported) (Err Faults.TooManyLines)) (same more)
        (IsReportBy.too_many h.bytes reported stage
        (subst (λ (m : ℕ). ReportsBy form h.bytes m reported stage) f.2 h.reports) (rest ++ more)
        (omega (arith, f.1, length-append rest more)))),
    subst (λ (m : ℕ). StopsBehind form before old new reported m 1) f.2
        (stops_at_first before all old now new buffered rest n reported stage h w f.0 f.1 f.3),
  )
    where
      same : (more : List ℕ) → h.bytes ++ (rest ++ more) ≡ (h.given ++ f.0.0) ++ more
      same more = sym (ap (λ (l : List ℕ). l ++ more) (looked before all old now new buffered [] rest n reported stage h f.0)
          ∙ ap (λ (l : List ℕ). (l ++ rest) ++ more) (append-nil h.bytes) ∙ simp append_assoc)
  fault_found before all old now new buffered rest line n reported stage Faults.Read h w f = record {
    given = h.given ++ f.1.0;
    gives = all_given before all old now new buffered f.0 rest n reported stage h w f.1;
    bytes = h.bytes;
    line = f.0;
    whole = looked before all old now new buffered f.0 rest n reported stage h f.1
        ∙ ap (λ (l : List ℕ). (h.bytes ++ f.0) ++ l) f.2 ∙ append-nil (h.bytes ++ f.0);
    number = n;
    stage = stage;
    reports = h.reports;
    begun = f.3;
  }
  fault_found before all old now new buffered rest line n reported stage Faults.Write h w f = (
    h.given ++ f.0,
    gives_on (IsInTime form before) (IsInLine all buffered n) old now new h.given f.0 h.gives f.1
        (λ came written q. in_time before all old now buffered n reported stage h w came written q),
  )
  fault_found before all old now new buffered rest line n reported stage Faults.Memory h w f = absurd f

  -- ---- the whole log

  pub log_reported : (old new : Reader) (n : ℕ) (reported : List form.Entry) (version : Version) (sessions : List SessionState)
      (summary : Summary) (a b c : Option (List ℕ)) → HasReadAll form a old new n reported (Playing version sessions) →
      summary ≡ counted_over form.counted reported nothing_counted → Appends a b (texts_of form.text reported) →
      Appends b c (form.closing None version sessions ++ summary_line summary) →
      Reported form old new a c (form.answer summary None version sessions)
  log_reported old new n reported version sessions summary a b c h e w l = (
    h.given,
    h.gives,
    of_ended_log (λ log. (t : List ℕ) × IsReportBy form log t (Ok (form.answer summary None version sessions)) × Appends a c t)
        old.remaining new.remaining h.given
        (given_bytes a old new h.given h.gives) h.ended (
          texts_of form.text reported ++ (form.closing None version sessions ++ summary_line summary),
          subst (λ (s : Summary). IsReportBy form h.given
              (texts_of form.text reported ++ (form.closing None version sessions ++ summary_line s))
              (Ok (form.answer s None version sessions))) (sym e)
              (IsReportBy.whole h.given n reported version sessions h.reports),
          appends_more a b c (texts_of form.text reported) (form.closing None version sessions ++ summary_line summary) w l,
        ),
  )

  -- the counts were written after all lines
  pub finished : (old new : Reader) (n : ℕ) (reported : List form.Entry) (version : Version) (sessions : List SessionState)
      (summary : Summary) (a b c : Option (List ℕ)) (result : Result Answer LogFault) →
      HasReadAll form a old new n reported (Playing version sessions) → summary ≡ counted_over form.counted reported nothing_counted →
      Appends a b (texts_of form.text reported) → IfOk result (λ answer. IsFinished form None version sessions summary b c answer) →
      IfOk result (λ answer. Reported form old new a c answer)
  finished old new n reported version sessions summary a b c (Ok answer) h e w r =
      subst (Reported form old new a c) (sym r.0) (log_reported old new n reported version sessions summary a b c h e w r.1)
  finished old new n reported version sessions summary a b c (Err fault) h e w r = tt

  -- the counts were written after a cut last line
  pub finished_cut : (before all : Option (List ℕ)) (old now new : Reader) (buffered rest line : List ℕ) (n : ℕ)
      (reported : List form.Entry) (version : Version) (sessions : List SessionState) (summary : Summary) (b c : Option (List ℕ))
      (result : Result Answer LogFault) → HasRead form before old now buffered n reported (Playing version sessions) →
      Appends before all (texts_of form.text reported) → IsFound all now buffered n (Ok Last) line new rest →
      IsBad (Playing version sessions) line → form.cuts ≡ true → summary ≡ counted_over form.counted reported nothing_counted →
      Appends before b (texts_of form.text reported) →
      IfOk result (λ answer. IsFinished form (Some (n + 1)) version sessions summary b c answer) →
      IfOk result (λ answer. Reported form old new before c answer)
  finished_cut before all old now new buffered rest line n reported version sessions summary b c (Err fault) h w f wrong cuts e v r = tt
  finished_cut before all old now new buffered rest line n reported version sessions summary b c (Ok answer) h w f wrong cuts e v r =
      subst (Reported form old new before c) (sym r.0) (
        h.bytes ++ line,
        got,
        of_ended_log (λ log. (t : List ℕ) × IsReportBy form log t (Ok (form.answer summary (Some (n + 1)) version sessions))
            × Appends before c t) old.remaining new.remaining (h.bytes ++ line) (given_bytes before old new (h.bytes ++ line) got) f.2 (
              texts_of form.text reported ++ (form.closing (Some (n + 1)) version sessions ++ summary_line summary),
              subst (λ (s : Summary). IsReportBy form (h.bytes ++ line)
                  (texts_of form.text reported ++ (form.closing (Some (n + 1)) version sessions ++ summary_line s))
                  (Ok (form.answer s (Some (n + 1)) version sessions))) (sym e)
                  (IsReportBy.cut h.bytes n reported version sessions h.reports line f.6 f.5 f.3 f.4 wrong cuts),
              appends_more before b c (texts_of form.text reported)
                  (form.closing (Some (n + 1)) version sessions ++ summary_line summary) v r.1,
            ),
      )
    where
      got : GivesInTime form before old new (h.bytes ++ line)
      got = last_given before all old now new buffered rest line n reported (Playing version sessions) h w f

  -- ---- faults, and the text written before them

  pub fault_after : (old new : Reader) (reported : List form.Entry) (a b : Option (List ℕ)) (fault : LogFault) →
      IsFaultOf form a old new reported fault → (fault ≢ Faults.Write → Appends a b (texts_of form.text reported)) → IsFaultAfter form old new a b fault
  fault_after old new reported a b (Faults.BadLine n) h w = (reported, h, w (λ e. absurd (cc)))
  fault_after old new reported a b (Faults.LineTooLong n) h w = (reported, h, w (λ e. absurd (cc)))
  fault_after old new reported a b Faults.TooManyLines h w = (reported, h, w (λ e. absurd (cc)))
  fault_after old new reported a b Faults.Read h w = (reported, h, w (λ e. absurd (cc)))
  fault_after old new reported a b Faults.Write h w = h
  fault_after old new reported a b Faults.Memory h w = absurd h

  -- ---- the page

  pub fault_kept : (old new : Reader) (a b c : Option (List ℕ)) (fault : LogFault) → IsFaultAfter form old new a b fault → Keeps b c →
      IsFaultAfter form old new a c fault
  fault_kept old new a b c (Faults.BadLine n) h k = (h.0, h.1, appends_and_keeps a b c (texts_of form.text h.0) h.2 k)
  fault_kept old new a b c (Faults.LineTooLong n) h k = (h.0, h.1, appends_and_keeps a b c (texts_of form.text h.0) h.2 k)
  fault_kept old new a b c Faults.TooManyLines h k = (h.0, h.1, appends_and_keeps a b c (texts_of form.text h.0) h.2 k)
  fault_kept old new a b c Faults.Read h k = (h.0, h.1, appends_and_keeps a b c (texts_of form.text h.0) h.2 k)
  fault_kept old new a b c Faults.Write h k = h
  fault_kept old new a b c Faults.Memory h k = go form.late h
    where
      go : (late : Bool) →
          MatchBool late ((given : List ℕ) × GivesInTime form a old new given)
          ((opened : Opened) × (buffered : List ℕ) × IsOpened form opened a old new buffered × Keeps a b) →
          MatchBool late ((given : List ℕ) × GivesInTime form a old new given)
          ((opened : Opened) × (buffered : List ℕ) × IsOpened form opened a old new buffered × Keeps a c)
      go true g = g
      go false g = (g.0, g.1, g.2, keeps_more a b c g.3 k)

  pub refused_kept : (old new : Reader) (a b c : Option (List ℕ)) (answer : Result Answer LogFault) →
      IfErr answer (λ fault. IsFaultAfter form old new a b fault) → Keeps b c →
      IfErr answer (λ fault. IsFaultAfter form old new a c fault)
  refused_kept old new a b c (Ok summary) h k = tt
  refused_kept old new a b c (Err fault) h k = fault_kept old new a b c fault h k

  -- the page was written at the end of a report
  pub reported_kept : (old new : Reader) (a b c : Option (List ℕ)) (answer : Result Answer LogFault) →
      IfOk answer (λ summary. Reported form old new a b summary) → Keeps b c → IfOk answer (λ summary. Reported form old new a c summary)
  reported_kept old new a b c (Err fault) h k = tt
  reported_kept old new a b c (Ok summary) h k = (h.0, h.1, go old.remaining h.2)
    where
      go : (log : Option (List ℕ)) →
          IfSome log (λ log. (text : List ℕ) × IsReportBy form log text (Ok summary) × Appends a b text) →
          IfSome log (λ log. (text : List ℕ) × IsReportBy form log text (Ok summary) × Appends a c text)
      go None t = tt
      go (Some log) t = (t.0, t.1, appends_and_keeps a b c t.0 t.2 k)

  -- the page was empty at first, and is empty
  refused_at_last : (old new : Reader) (a b c : Option (List ℕ)) (first last : List ℕ) (answer : Result Answer LogFault) →
      IfErr answer (λ fault. IsFaultAfter form old new (append_known a first) b fault) → Keeps b (append_known c last) →
      first ≡ [] → last ≡ [] → IfErr answer (λ fault. IsFaultAfter form old new a c fault)
  refused_at_last old new a b c first last answer h k e f =
      subst (λ (x : Option (List ℕ)). IfErr answer (λ fault. IsFaultAfter form old new x c fault))
      (ap (append_known a) e ∙ none_held a)
      (subst (λ (x : Option (List ℕ)). IfErr answer (λ fault. IsFaultAfter form old new (append_known a first) x fault))
      (ap (append_known c) f ∙ none_held c)
      (refused_kept old new (append_known a first) b (append_known c last) answer h k))

  reported_at_last : (old new : Reader) (a b c : Option (List ℕ)) (first last : List ℕ) (answer : Result Answer LogFault) →
      IfOk answer (λ summary. Reported form old new (append_known a first) b summary) → Keeps b (append_known c last) →
      first ≡ [] → last ≡ [] → IfOk answer (λ summary. Reported form old new a c summary)
  reported_at_last old new a b c first last answer h k e f =
      subst (λ (x : Option (List ℕ)). IfOk answer (λ summary. Reported form old new x c summary))
      (ap (append_known a) e ∙ none_held a)
      (subst (λ (x : Option (List ℕ)). IfOk answer (λ summary. Reported form old new (append_known a first) x summary))
      (ap (append_known c) f ∙ none_held c)
      (reported_kept old new (append_known a first) b (append_known c last) answer h k))

  -- whatever the result, the bytes were returned by reads in time
  fault_given : (old new : Reader) (a b : Option (List ℕ)) (fault : LogFault) → IsFaultAfter form old new a b fault →
      (given : List ℕ) × GivesInTime form a old new given
  fault_given old new a b (Faults.BadLine n) h = go h.1.1
    where
      go : StopsAtLine form a old new h.0 n → (given : List ℕ) × GivesInTime form a old new given
      go (inl s) = (s.given, s.gives)
      go (inr (inl s)) = (s.given, s.gives)
      go (inr (inr s)) = (s.3.given, s.3.gives)
  fault_given old new a b (Faults.LineTooLong n) h = (h.1.3.given, h.1.3.gives)
  fault_given old new a b Faults.TooManyLines h = (h.1.1.given, h.1.1.gives)
  fault_given old new a b Faults.Read h = (h.1.given, h.1.gives)
  fault_given old new a b Faults.Write h = h
  fault_given old new a b Faults.Memory h = by_late form.late h
    where
      go : (b : Bool) (opened : Opened) (buffered : List ℕ) →
          IsOpenedBy form b (preamble_of opened.head) opened.lines a old new buffered →
          (given : List ℕ) × GivesInTime form a old new given
      go true opened buffered k = (k.given, k.gives)
      go false opened buffered k = (k.given, k.gives)

      by_late : (late : Bool) →
          MatchBool late ((given : List ℕ) × GivesInTime form a old new given)
          ((opened : Opened) × (buffered : List ℕ) × IsOpened form opened a old new buffered × Keeps a b) →
          (given : List ℕ) × GivesInTime form a old new given
      by_late true g = g
      by_late false g = go g.0.is_ended g.0 g.1 g.2.0

  answer_given : (old new : Reader) (a b : Option (List ℕ)) (answer : Result Answer LogFault) →
      IfOk answer (λ summary. Reported form old new a b summary) → IfErr answer (λ fault. IsFaultAfter form old new a b fault) →
      (given : List ℕ) × GivesInTime form a old new given
  answer_given old new a b (Ok summary) h k = (h.0, h.1)
  answer_given old new a b (Err fault) h k = fault_given old new a b fault k

  -- the result after the page was written, unless the writer failed
  of_other_than_write : (old new : Reader) (a b : Option (List ℕ)) (result : Result Answer LogFault) →
      (given : List ℕ) × GivesInTime form a old new given →
      (result ≢ Err Faults.Write → IfErr result (λ fault. IsFaultAfter form old new a b fault)) →
      IfErr result (λ fault. IsFaultAfter form old new a b fault)
  of_other_than_write old new a b (Ok summary) g h = tt
  of_other_than_write old new a b (Err (Faults.BadLine n)) g h = h (λ e. absurd (cc))
  of_other_than_write old new a b (Err (Faults.LineTooLong n)) g h = h (λ e. absurd (cc))
  of_other_than_write old new a b (Err Faults.TooManyLines) g h = h (λ e. absurd (cc))
  of_other_than_write old new a b (Err Faults.Read) g h = h (λ e. absurd (cc))
  of_other_than_write old new a b (Err Faults.Write) g h = g
  of_other_than_write old new a b (Err Faults.Memory) g h = h (λ e. absurd (cc))

  pub refused_rest : (old new : Reader) (a b c : Option (List ℕ)) (first last : List ℕ)
      (answer result : Result Answer LogFault) →
      IfOk answer (λ summary. Reported form old new (append_known a first) b summary) →
      IfErr answer (λ fault. IsFaultAfter form old new (append_known a first) b fault) →
      (result ≢ Err Faults.Write → (result ≡ answer) × (last ≡ []) × Keeps b (append_known c last)) → first ≡ [] →
      IfErr result (λ fault. IsFaultAfter form old new a c fault)
  refused_rest old new a b c first last answer result r h k e =
      of_other_than_write old new a c result
      (subst (λ (x : Option (List ℕ)). (given : List ℕ) × GivesInTime form x old new given)
      (ap (append_known a) e ∙ none_held a) (answer_given old new (append_known a first) b answer r h))
      (λ other.
      subst (λ (x : Result Answer LogFault). IfErr x (λ fault. IsFaultAfter form old new a c fault)) (sym (k other).0)
      (refused_at_last old new a b c first last answer h (k other).2 e (k other).1))

  pub reported_rest : (old new : Reader) (a b c : Option (List ℕ)) (first last : List ℕ)
      (answer result : Result Answer LogFault) →
      IfOk answer (λ summary. Reported form old new (append_known a first) b summary) →
      (result ≢ Err Faults.Write → (result ≡ answer) × (last ≡ []) × Keeps b (append_known c last)) → first ≡ [] →
      IfOk result (λ summary. Reported form old new a c summary)
  reported_rest old new a b c first last answer (Err fault) h k e = tt
  reported_rest old new a b c first last answer (Ok summary) h k e =
      let whole = k (λ e. absurd (cc)) in
      subst (λ (x : Result Answer LogFault). IfOk x (λ summary. Reported form old new a c summary)) (sym whole.0)
      (reported_at_last old new a b c first last answer h whole.2 e whole.1)

  -- a fault of the head, before which nothing was written
  pub fault_at_once : (old new : Reader) (a b : Option (List ℕ)) (fault : LogFault) → IsFaultOf form a old new [] fault →
      (fault ≢ Faults.Write → Keeps a b) → IsFaultAfter form old new a b fault
  fault_at_once old new a b fault h k = fault_after old new [] a b fault h (λ other. keeps_appends a b (k other))

  -- nothing more is stated of a failed write, nor of memory that is refused late
  pub late_fault : (old new : Reader) (a b : Option (List ℕ)) (fault : LogFault) →
      {failed refused : Type 0} → (given : List ℕ) × GivesInTime form a old new given → IsLateFault form failed refused fault →
      IsFaultAfter form old new a b fault
  late_fault old new a b fault g (inl e) = subst (IsFaultAfter form old new a b) (sym e.0) g
  late_fault old new a b' fault g (inr e) = subst (IsFaultAfter form old new a b') (sym e.0) (late form.late e.1)
    where
      late : (b : Bool) → b ≡ true →
          MatchBool b ((given : List ℕ) × GivesInTime form a old new given)
          ((opened : Opened) × (buffered : List ℕ) × IsOpened form opened a old new buffered × Keeps a b')
      late true e = g
      late false e = absurd (cc)

  pub write_failed : (failed refused : Type 0) (old new : Reader) (a b : Option (List ℕ)) (answer : Result Answer LogFault) →
      (given : List ℕ) × GivesInTime form a old new given →
      IfErr answer (λ fault. IsLateFault form failed refused fault) →
      IfErr answer (λ fault. IsFaultAfter form old new a b fault)
  write_failed failed refused old new a b (Ok summary) g e = tt
  write_failed failed refused old new a b (Err fault) g e = late_fault old new a b fault g e

-- equal bytes have the same result
pub answered_alike : {Answer : Type 0} (form : List Word → ReportForm Answer) (old new : Reader) (a b : Option (List ℕ))
    (old2 new2 : Reader) (a2 b2 : Option (List ℕ)) (answer : Result Answer LogFault) →
    (words : List Word) × IsAnswered (form words) old2 new2 a2 b2 answer → old2 ≡ old → new2 ≡ new → a2 ≡ a → b2 ≡ b →
    (words : List Word) × IsAnswered (form words) old new a b answer
answered_alike form old new a b old2 new2 a2 b2 answer h e f k l = (
  h.0,
  subst (λ (x : Option (List ℕ)). IsAnswered (form h.0) old new a x answer) l
      (subst (λ (x : Option (List ℕ)). IsAnswered (form h.0) old new x b2 answer) k
      (subst (λ (x : Reader). IsAnswered (form h.0) old x a2 b2 answer) f
      (subst (λ (x : Reader). IsAnswered (form h.0) x new2 a2 b2 answer) e h.1))),
)
