-- The report of a record counts what the session counts.
use Rattle.daide_log.proofs.Common.{◌≡◌, List, [], ◌∷◌, ap, sym, ◌∙◌, refl, Note, Nothing, Summary, Effect, count_note}
use Rattle.daide_log.proofs.Common.{nothing_counted, ReportEntry, counted_all}
use Rattle.daide_protocol.specs.Summary.{reduced, tallied}
use Rattle.daide_protocol.proofs.SummaryLemmas.{counted_reduced}
use Rattle.daide_log.specs.RecordLaw.{notes_reported, notes_of}

abbrev first_or : Note → List Note → Note
first_or none [] = none
first_or none (note ∷ notes) = note

abbrev rest_of : List Note → List Note
rest_of [] = []
rest_of (note ∷ notes) = notes

-- equal notes have equal counts, as moves modulo 2^64 or as entries
counted_alike : (reported : List ReportEntry) (moves : List Effect) (s : Summary) → notes_reported reported ≡ notes_of moves →
    tallied moves (reduced s) ≡ reduced (counted_all reported s)
counted_alike [] [] s same = refl
counted_alike [] (move ∷ moves) s same = absurd (cc)
counted_alike (entry ∷ reported) [] s same = absurd (cc)
counted_alike (entry ∷ reported) (move ∷ moves) s same =
    let first : entry.reported ≡ move.reported = ap (first_or Nothing) same in
    let later : notes_reported reported ≡ notes_of moves = ap rest_of same in
    ap (tallied moves) (counted_reduced move.reported s
    ∙ ap (λ (note : Note). reduced (count_note note s)) (sym first))
    ∙ counted_alike reported moves (count_note entry.reported s) later

pub session_counts : (reported : List ReportEntry) (moves : List Effect) → notes_reported reported ≡ notes_of moves →
    tallied moves nothing_counted ≡ reduced (counted_all reported nothing_counted)
session_counts reported moves same = counted_alike reported moves nothing_counted same
