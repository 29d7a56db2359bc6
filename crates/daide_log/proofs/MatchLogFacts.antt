-- A whole log of a match in which no message is judged, computed from the definitions, so that a wrong definition fails
-- to check. The tests have logs with messages.
use Rattle.daide_log.proofs.Common.{◌≡◌, ℕ, List, [], ◌∷◌, ◌++◌, codes, Some, Ok, Err, refl, arith, digits}
use Rattle.daide_log.proofs.Common.{decode_pairs, encode_with, Bot, parse_head, im_of, name_of, token_named, names, Im}
use Rattle.daide_log.proofs.Common.{ImTimeout, Relayed, Frame, Fault, SessionPhase, Ending, WaitIm, WaitRm, Over}
use Rattle.daide_log.proofs.Common.{SessionState, limits_with, Word, BadLine, Match, LogEvent, Received, ImTimerLine}
use Rattle.daide_log.proofs.Common.{parted_at_space, plain_number, event_of_line, match_event_of_line}
use Rattle.daide_log.proofs.Common.{match_config_of_line, Preamble, Unnamed, Named, Headed, ReportEntry, source_text}
use Rattle.daide_log.proofs.Common.{reported_text, move_line, summary_line, events_of_line}
use Rattle.daide_frame.specs.Frames.{is_alien, first_items, last_items}
use Rattle.daide_protocol.specs.declared.ending.Ending.TheVariants as Endings
use Rattle.daide_log_lines.specs.WordLine.{word_of_line}
use Rattle.daide_log.specs.Log.{ReportsBy, ReportsAllBy, IsReportBy, Opening, Playing, source_in, Reports, IsReport}
use Rattle.daide_log_lines.proofs.LineFacts.{xyz}
use Rattle.daide_log.proofs.MatchFacts.{limits}
use Rattle.daide_log.proofs.Played.{Played, state_at, played, verdict_on, entries_by}
use Rattle.daide_log.proofs.Played.{has_no_feed, unbroken, line_played}

-- ---- the head: two sessions and one word

first_lines : List ℕ
first_lines = (codes "daide-log 2" ++ 10 ∷ []) ++ codes "config 60 1024 16 2 1" ++ 10 ∷ []

head_lines : List ℕ
head_lines = first_lines ++ codes "word XYZ 4A40 press 20 power" ++ 10 ∷ []

head_with : List Word → Preamble
head_with words = record {
  version = Match;
  limits = record { config = limits; sessions = 2; words = 1 };
  words = words;
}

-- a session with these limits and the word, in a phase
abbrev session_in : SessionPhase → SessionState
session_in phase = state_at (limits_with limits (xyz ∷ [])) phase

-- the session with these limits, which ended in this way
abbrev session_ended : Ending → SessionState
session_ended ending = session_in (Over ending)

named : Reports (codes "daide-log 2" ++ 10 ∷ []) 1 [] (Opening (Named Match))
unfolding has_no_feed
named =
    ReportsBy.line [] 0 [] (Opening Unnamed) ReportsBy.none (codes "daide-log 2") [] (Opening (Named Match)) (omega arith)
    (unbroken (codes "daide-log 2") refl) (omega arith) (Named Match, refl, refl, refl)

headed : Reports first_lines 2 [] (Opening (Headed (head_with [])))
unfolding first_lines head_with limits match_config_of_line parted_at_space plain_number has_no_feed
headed =
    ReportsBy.line (codes "daide-log 2" ++ 10 ∷ []) 1 [] (Opening (Named Match)) named (codes "config 60 1024 16 2 1") []
    (Opening (Headed (head_with []))) (omega arith) (unbroken (codes "config 60 1024 16 2 1") refl) (omega arith)
    (Headed (head_with []), refl, refl, refl)

opened : Reports head_lines 3 [] (Playing Match (session_in WaitIm ∷ session_in WaitIm ∷ []))
unfolding first_lines head_lines head_with limits xyz word_of_line parted_at_space plain_number decode_pairs
    name_of token_named names has_no_feed
opened =
    ReportsBy.line first_lines 2 [] (Opening (Headed (head_with []))) headed (codes "word XYZ 4A40 press 20 power") []
    (Playing Match (session_in WaitIm ∷ session_in WaitIm ∷ [])) (omega arith)
    (unbroken (codes "word XYZ 4A40 press 20 power") refl) (omega arith)
    (Headed (head_with (xyz ∷ [])), refl, refl, refl)

-- ---- its lines

im : LogEvent
im = Received Bot (0 ∷ 0 ∷ 0 ∷ 4 ∷ 0 ∷ 1 ∷ 218 ∷ 16 ∷ [])

after_im : List ℕ
after_im = head_lines ++ codes "1 bot 000000040001DA10" ++ 10 ∷ []

im_passes : Played
im_passes = record { state = session_in WaitRm; reported = Frame (record { kind = Im; len = 4 }) Relayed ∷ [] }

im_played : played (events_of_line im) (session_in WaitIm) ≡ Some im_passes
unfolding im im_passes limits xyz played verdict_on last_items first_items parse_head is_alien im_of
im_played = refl

im_reported : List ReportEntry
im_reported = entries_by (source_in Match 4 1) Bot im_passes.reported

im_relayed : Reports after_im 4 im_reported (Playing Match (session_in WaitRm ∷ session_in WaitIm ∷ []))
unfolding im im_reported im_passes after_im match_event_of_line parted_at_space plain_number event_of_line decode_pairs
    has_no_feed
im_relayed =
    line_played head_lines 3 [] Match (session_in WaitIm ∷ session_in WaitIm ∷ []) opened
    (codes "1 bot 000000040001DA10") 1 im (session_in WaitIm) im_passes refl (omega arith) (omega arith) refl refl
    im_played

-- the initial message of the first session is forwarded, and the second session gets none
two_sessions : IsReport (after_im ++ codes "2 timer" ++ 10 ∷ [])
    (((codes "4 1 bot IM 4 relay" ++ 10 ∷ []) ++ codes "5 2 bot fault 01" ++ 10 ∷ [])
    ++ codes "relayed 1 prn 0 huh 0 faults 1" ++ 10 ∷ [])
    (Ok (record { relayed = 1; prn = 0; huh = 0; faults = 1 }))
unfolding im_reported im_passes match_event_of_line parted_at_space plain_number event_of_line move_line source_text
    reported_text summary_line digits encode_with entries_by played verdict_on has_no_feed
two_sessions =
    let late : Played = record { state = session_ended (Endings.Fault Bot ImTimeout); reported = Fault ImTimeout ∷ [] } in
    let states : List SessionState = session_in WaitRm ∷ session_ended (Endings.Fault Bot ImTimeout) ∷ [] in
    let reported : List ReportEntry = im_reported ++ entries_by (source_in Match 5 2) Bot late.reported in
    IsReportBy.whole (after_im ++ codes "2 timer" ++ 10 ∷ []) 5 reported Match states
    (ReportsAllBy.ended (after_im ++ codes "2 timer" ++ 10 ∷ []) 5 reported (Playing Match states)
    (line_played after_im 4 im_reported Match (session_in WaitRm ∷ session_in WaitIm ∷ []) im_relayed (codes "2 timer") 2
    ImTimerLine (session_in WaitIm) late refl (omega arith) (omega arith) refl refl refl))

-- there is no third session, and the report of the lines before is written
third_session : IsReport (after_im ++ codes "3 timer" ++ 10 ∷ []) (codes "4 1 bot IM 4 relay" ++ 10 ∷ []) (Err (BadLine 5))
unfolding im_reported im_passes match_event_of_line parted_at_space plain_number move_line source_text reported_text digits
    entries_by has_no_feed
third_session =
    IsReportBy.bad after_im 4 im_reported (Playing Match (session_in WaitRm ∷ session_in WaitIm ∷ [])) im_relayed
    (codes "3 timer") [] (omega arith) (unbroken (codes "3 timer") refl) (omega arith) refl

-- the word is missing
word_missing : IsReport first_lines [] (Err (BadLine 3))
word_missing =
    IsReportBy.cut_short first_lines 2 [] (Opening (Headed (head_with [])))
    (ReportsAllBy.ended first_lines 2 [] (Opening (Headed (head_with []))) headed) tt

-- a word with a name of the protocol
word_of_the_protocol : IsReport (first_lines ++ codes "word GOF 4A40 press 20 power" ++ 10 ∷ []) [] (Err (BadLine 3))
unfolding head_with word_of_line parted_at_space plain_number decode_pairs name_of token_named names has_no_feed
word_of_the_protocol =
    IsReportBy.bad first_lines 2 [] (Opening (Headed (head_with []))) headed (codes "word GOF 4A40 press 20 power") []
    (omega arith) (unbroken (codes "word GOF 4A40 press 20 power") refl) (omega arith) refl
