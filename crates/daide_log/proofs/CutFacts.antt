-- A log whose third line is cut, computed from the definitions: the report with explanations covers the lines before
-- it, and the plain report has a fault.
use Rattle.daide_log.proofs.Common.{[], ◌∷◌, ◌++◌, Some, Ok, Err, refl, arith, codes, digits, decode_pairs, WaitIm}
use Rattle.daide_log.proofs.Common.{BadLine, plain_number, parted_at_space, event_of_line, Single, config_of_line}
use Rattle.daide_log.proofs.Common.{Unnamed, Named, Headed, single_session, summary_line}
use Rattle.daide_log.specs.Report.{cut_line}
use Rattle.daide_log.specs.Explained.{explained}
use Rattle.daide_log.specs.Log.{ReportsBy, IsReportBy, Opening, Playing, IsReport}
use Rattle.daide_log.proofs.Played.{has_no_feed, unbroken}
use Rattle.daide_log.proofs.StandardFacts.{limits, opening_lines, session_in, opened}

named_explained : ReportsBy (explained []) (codes "daide-log 1" ++ 10 ∷ []) 1 [] (Opening (Named Single))
unfolding has_no_feed
named_explained =
    ReportsBy.line [] 0 [] (Opening Unnamed) ReportsBy.none (codes "daide-log 1") [] (Opening (Named Single)) (omega arith)
    (unbroken (codes "daide-log 1") refl) (omega arith) (Named Single, refl, (refl, tt), refl)

opened_explained : ReportsBy (explained []) opening_lines 2 [] (Playing Single (session_in WaitIm ∷ []))
unfolding opening_lines limits config_of_line parted_at_space plain_number has_no_feed
opened_explained =
    ReportsBy.line (codes "daide-log 1" ++ 10 ∷ []) 1 [] (Opening (Named Single)) named_explained (codes "config 60 1024 16") []
    (Playing Single (session_in WaitIm ∷ [])) (omega arith) (unbroken (codes "config 60 1024 16") refl) (omega arith)
    (Headed (record { version = Single; limits = single_session limits; words = [] }), refl, (refl, refl), refl)

-- an odd number of digits, and no line feed
cut_third_line : IsReportBy (explained []) (opening_lines ++ codes "bot 02000")
    (codes "    line 3 is cut" ++ 10 ∷ codes "relayed 0 prn 0 huh 0 faults 0" ++ 10 ∷ [])
    (Ok (record {
      counts = record { relayed = 0; prn = 0; huh = 0; faults = 0 };
      unfinished = 1;
      cut = Some 3;
    }))
unfolding event_of_line decode_pairs has_no_feed cut_line summary_line digits
cut_third_line =
    IsReportBy.cut opening_lines 2 [] Single (session_in WaitIm ∷ []) opened_explained (codes "bot 02000") (omega arith)
    (omega arith) (unbroken (codes "bot 02000") refl) (omega arith) refl refl

-- the same log without explanations
bad_third_and_last_line : IsReport (opening_lines ++ codes "bot 02000") [] (Err (BadLine 3))
unfolding event_of_line decode_pairs has_no_feed
bad_third_and_last_line =
    IsReportBy.bad_last opening_lines 2 [] (Playing Single (session_in WaitIm ∷ [])) opened (codes "bot 02000") (omega arith)
    (omega arith) (unbroken (codes "bot 02000") refl) (omega arith) refl refl
