-- Both forms of a report can be written by a check. (own)
use Rattle.std.proofs.Common.{◌≡◌, ℕ, cond, Bool, true, false, List, [], ◌∷◌, ◌++◌, refl, sym, ap, ◌∙◌, subst, append_assoc}
use Rattle.std.specs.Prelude.{slice_set}
use Rattle.daide_grammar.specs.declared.level.Level.{Level}
use Rattle.daide_frame.specs.declared.side.Side.{Side}
use Rattle.daide_words.specs.declared.word.Word.{Word}
use Rattle.daide_protocol.specs.Events.{Event}
use Rattle.daide_protocol.specs.Machine.{SessionState, Effect, Transition, Runs}
use Rattle.daide_log.specs.declared.report.ReportKey.{ReportKey}
use Rattle.daide_log.specs.ReportForm.{IsWritableForm}
use Rattle.daide_log.specs.Report.{ReportEntry, entries_of}
use Rattle.daide_log.specs.Log.{plain}
use Rattle.daide_log.specs.Explained.{ExplainedEntry, Moved, Remark, AreShownBy, announced_levels, explained, is_remark}
use Rattle.daide_log.specs.Explained.{place_of_session, remarks}

-- ---- the plain report

pub entries_of-append : (source : ReportKey) (side : Side) (a b : List Effect) →
    entries_of source side (a ++ b) ≡ entries_of source side a ++ entries_of source side b
entries_of-append source side [] b = refl
entries_of-append source side (move ∷ a) b =
    ap (λ (t : List ReportEntry). record { source = source; side = side; reported = move.reported } ∷ t) (entries_of-append source side a b)

plain_in_a_row : (source : ReportKey) (side : Side) (moves others : List Effect) (reported rest : List ReportEntry) →
    reported ≡ entries_of source side moves → rest ≡ entries_of source side others →
    reported ++ rest ≡ entries_of source side (moves ++ others)
plain_in_a_row source side moves others reported rest e f =
    ap (λ (t : List ReportEntry). t ++ rest) e ∙ ap (λ (t : List ReportEntry). entries_of source side moves ++ t) f
    ∙ sym (entries_of-append source side moves others)

pub plain_lawful : (words : List Word) → IsWritableForm words plain
plain_lawful words = record {
  silent = λ context source side old new events run. refl;
  more = λ context source side old mid new events later moves others reported rest e f.
      plain_in_a_row source side moves others reported rest e f;
  of_line = λ context line source event old moves new first reported e f. ap (λ (t : List ReportEntry). t ++ reported) e ∙ f;
  of_head = λ heading has. refl;
  next_none = λ context. refl;
  next_more = λ context reported rest. refl;
  next_quiet = λ context line first quiet. refl;
}

-- ---- the report with explanations

none_first : (first rest : List Effect) → [] ≡ first ++ rest → (first ≡ []) × (rest ≡ [])
none_first [] rest e = (refl, sym e)
none_first (move ∷ first) rest e = absurd (cc)

pub levels_in_a_row : (levels : List Level) (reported rest : List ExplainedEntry) →
    announced_levels levels (reported ++ rest) ≡ announced_levels (announced_levels levels reported) rest
levels_in_a_row levels [] rest = refl
levels_in_a_row levels (Moved entry added announced ∷ reported) rest =
    levels_in_a_row (slice_set levels (place_of_session entry.source.session) announced) reported rest
levels_in_a_row levels (Remark comment ∷ reported) rest = levels_in_a_row levels reported rest

levels_after_remarks : (levels : List Level) (line : List ℕ) → announced_levels levels (remarks line) ≡ levels
levels_after_remarks levels line = go (is_remark line)
  where
    go : (b : Bool) → announced_levels levels (cond b (Remark line ∷ []) []) ≡ levels
    go true = refl
    go false = refl

module _ (words : List Word) (source : ReportKey) (side : Side) where
  -- without a move there is no entry
  pub silent : (levels : List Level) (old new : SessionState) (events : List Event) → Runs old events [] new →
      AreShownBy words levels source side old events [] new []
  silent levels old new [] run = (refl, run.1, refl)
  silent levels old new (event ∷ events) run =
      let none = none_first run.1 run.2 run.5 in (
        run.0,
        [],
        [],
        [],
        [],
        subst (λ (moves : List Effect). Transition old event moves run.0) none.0 run.3,
        refl,
        silent levels run.0 new events (subst (λ (moves : List Effect). Runs run.0 events moves new) none.1 run.4),
        refl,
        refl,
      )

  pub in_a_row : (levels : List Level) (old mid new : SessionState) (events later : List Event) (moves others : List Effect)
      (reported rest : List ExplainedEntry) → AreShownBy words levels source side old events moves mid reported →
      AreShownBy words (announced_levels levels reported) source side mid later others new rest →
      AreShownBy words levels source side old (events ++ later) (moves ++ others) new (reported ++ rest)
  in_a_row levels old mid new [] later moves others reported rest h k =
      subst (λ (t : List ExplainedEntry). AreShownBy words levels source side old later (moves ++ others) new (t ++ rest)) (sym h.2)
      (subst (λ (m : List Effect). AreShownBy words levels source side old later (m ++ others) new rest) (sym h.0)
      (subst (λ (s : SessionState). AreShownBy words levels source side s later others new rest) h.1
      (subst (λ (t : List ExplainedEntry). AreShownBy words (announced_levels levels t) source side mid later others new rest)
      h.2 k)))
  in_a_row levels old mid new (event ∷ events) later moves others reported rest h k = (
    h.0,
    h.1,
    h.2 ++ others,
    h.3,
    h.4 ++ rest,
    h.5,
    h.6,
    in_a_row (announced_levels levels h.3) h.0 mid new events later h.2 others h.4 rest h.7
        (subst (λ (l : List Level). AreShownBy words l source side mid later others new rest)
        (ap (announced_levels levels) h.9 ∙ levels_in_a_row levels h.3 h.4) k),
    ap (λ (m : List Effect). m ++ others) h.8 ∙ append_assoc h.1 h.2 others,
    ap (λ (t : List ExplainedEntry). t ++ rest) h.9 ∙ append_assoc h.3 h.4 rest,
  )

pub explained_lawful : (words : List Word) → IsWritableForm words (explained words)
explained_lawful words = record {
  silent = λ levels source side old new events run. silent words source side levels old new events run;
  more = λ levels source side old mid new events later moves others reported rest h k.
      in_a_row words source side levels old mid new events later moves others reported rest h k;
  of_line = λ levels line source event old moves new first reported e h.
      (reported, h, ap (λ (t : List ExplainedEntry). t ++ reported) e);
  of_head = λ heading has. (refl, has);
  next_none = λ levels. refl;
  next_more = levels_in_a_row;
  next_quiet = λ levels line first e. ap (announced_levels levels) e ∙ levels_after_remarks levels line;
}
