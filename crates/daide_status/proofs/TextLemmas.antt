-- A text that is made row by row is the text of the snapshot.
use Rattle.std.proofs.Common.{◌≡◌, ℕ, ◌++◌, Bool, true, false, List, [], ◌∷◌, codes, refl, sym, ap, ◌∙◌, append_assoc}
use Rattle.std.proofs.lemmas.List.{append-nil}
use Rattle.std.specs.List.{flat_map}
use Rattle.daide_status.specs.declared.request.Format.{Format}
use Rattle.daide_status.specs.declared.request.Format.TheVariants.{Table, Json, Prometheus}
use Rattle.daide_status.specs.declared.counts.RunCounts.{RunCounts}
use Rattle.daide_status.specs.declared.snapshot.RunStatus.{RunStatus}
use Rattle.daide_status.specs.declared.snapshot.SessionRow.{SessionRow}
use Rattle.daide_status.specs.Columns.{table_head, table_row}
use Rattle.daide_status.specs.Counts.{row_counted, totals_of}
use Rattle.daide_status.specs.Json.{json_head, json_row, json_end}
use Rattle.daide_status.specs.Metrics.{metrics_head, session_metrics, frame_samples, byte_samples, waiting_samples, idle_samples, level_sample}
use Rattle.daide_status.specs.Totals.{total_metrics}
use Rattle.daide_status.specs.StatusTexts.{StatusView, begun, with_rows, ended, status_text}

-- ---- a table

abbrev lines : RunCounts → List ℕ → StatusView
lines c text =
    record { format = Table; has_rows = false; counts = c; text = text; frames = []; bytes = []; waiting = []; idle = []; levels = [] }

table_ended : (rows : List SessionRow) (c : RunCounts) (text : List ℕ) →
    ended (with_rows rows (lines c text)) ≡ text ++ flat_map table_row rows
table_ended [] c text = refl
table_ended (row ∷ rows) c text =
    table_ended rows (row_counted row c) (text ++ table_row row) ∙ append_assoc text (table_row row) (flat_map table_row rows)

-- ---- a document

abbrev objects : Bool → RunCounts → List ℕ → StatusView
objects some c text =
    record { format = Json; has_rows = some; counts = c; text = text; frames = []; bytes = []; waiting = []; idle = []; levels = [] }

regrouped : (a b c d : List ℕ) → ((a ++ b) ++ c) ++ d ≡ a ++ ((b ++ c) ++ d)
regrouped a b c d =
    append_assoc (a ++ b) c d ∙ append_assoc a b (c ++ d) ∙ ap (λ t. a ++ t) (sym (append_assoc b c d))

abbrev others : List SessionRow → List ℕ
others rows = flat_map (λ row. codes ",\n" ++ json_row row) rows

further_ended : (rows : List SessionRow) (c : RunCounts) (text : List ℕ) →
    ended (with_rows rows (objects true c text)) ≡ (text ++ others rows) ++ json_end (totals_of rows c)
further_ended [] c text = ap (λ t. t ++ json_end c) (sym (append-nil text))
further_ended (row ∷ rows) c text =
    further_ended rows (row_counted row c) ((text ++ codes ",\n") ++ json_row row)
    ∙ ap (λ t. t ++ json_end (totals_of rows (row_counted row c))) (regrouped text (codes ",\n") (json_row row) (others rows))

document_ended : (run : RunStatus) (rows : List SessionRow) → ended (with_rows rows (begun Json run)) ≡ status_text Json run rows
document_ended run [] = ap (λ t. t ++ json_end run.counts) (sym (append-nil (json_head run)))
document_ended run (row ∷ rows) =
    further_ended rows (row_counted row run.counts) ((json_head run ++ codes "\n") ++ json_row row)
    ∙ ap (λ t. t ++ json_end (totals_of rows (row_counted row run.counts)))
    (regrouped (json_head run) (codes "\n") (json_row row) (others rows))

-- ---- metrics

abbrev samples : RunCounts → List ℕ → List ℕ → List ℕ → List ℕ → List ℕ → List ℕ → StatusView
samples c text frames bytes waiting idle levels =
    record { format = Prometheus; has_rows = false; counts = c; text = text; frames = frames; bytes = bytes; waiting = waiting; idle = idle; levels = levels }

five : (f f2 b b2 w w2 i i2 l l2 : List ℕ) → f ≡ f2 → b ≡ b2 → w ≡ w2 → i ≡ i2 → l ≡ l2 →
    session_metrics f b w i l ≡ session_metrics f2 b2 w2 i2 l2
five f f2 b b2 w w2 i i2 l l2 e g h j k =
    ap (λ t. session_metrics t b w i l) e ∙ ap (λ t. session_metrics f2 t w i l) g ∙ ap (λ t. session_metrics f2 b2 t i l) h
    ∙ ap (λ t. session_metrics f2 b2 w2 t l) j ∙ ap (λ t. session_metrics f2 b2 w2 i2 t) k

metrics_ended : (rows : List SessionRow) (c : RunCounts) (text f b w i l : List ℕ) →
    ended (with_rows rows (samples c text f b w i l))
    ≡ text ++ (total_metrics (totals_of rows c)
    ++ session_metrics (f ++ flat_map frame_samples rows) (b ++ flat_map byte_samples rows) (w ++ flat_map waiting_samples rows)
    (i ++ flat_map idle_samples rows) (l ++ flat_map level_sample rows))
metrics_ended [] c text f b w i l =
    ap (λ t. text ++ (total_metrics c ++ t)) (five _ _ _ _ _ _ _ _ _ _ (sym (append-nil f)) (sym (append-nil b)) (sym (append-nil w))
    (sym (append-nil i)) (sym (append-nil l)))
metrics_ended (row ∷ rows) c text f b w i l =
    metrics_ended rows (row_counted row c) text (f ++ frame_samples row) (b ++ byte_samples row) (w ++ waiting_samples row)
    (i ++ idle_samples row) (l ++ level_sample row)
    ∙ ap (λ t. text ++ (total_metrics (totals_of rows (row_counted row c)) ++ t))
    (five _ _ _ _ _ _ _ _ _ _ (append_assoc f (frame_samples row) _)
    (append_assoc b (byte_samples row) _) (append_assoc w (waiting_samples row) _) (append_assoc i (idle_samples row) _) (append_assoc l (level_sample row) _))

-- ---- each format

pub text_of_snapshot : (format : Format) (run : RunStatus) (rows : List SessionRow) →
    ended (with_rows rows (begun format run)) ≡ status_text format run rows
text_of_snapshot Table run rows = table_ended rows run.counts (table_head run)
text_of_snapshot Json run rows = document_ended run rows
text_of_snapshot Prometheus run rows =
    metrics_ended rows run.counts (metrics_head run) [] [] [] [] []
    ∙ sym (append_assoc (metrics_head run) (total_metrics (totals_of rows run.counts)) (session_metrics (flat_map frame_samples rows)
    (flat_map byte_samples rows) (flat_map waiting_samples rows) (flat_map idle_samples rows) (flat_map level_sample rows)))
