-- Lines of a log and of its report, and whole logs in which no message is judged, computed from the definitions, so
-- that a wrong definition fails to check. SevenLinesFacts and the tests have logs with messages.
use Rattle.daide_log.proofs.Common.{◌≡◌, ℕ, ◌+◌, ◌<◌, ◌≤◌, true, List, [], ◌∷◌, ◌++◌, length, Some, None, Ok, Err, refl}
use Rattle.daide_log.proofs.Common.{ap, arith, codes, option_map, digits, decode_pairs, encode_with, Bot, Server, Im}
use Rattle.daide_log.proofs.Common.{Dm, Fm, ImTimeout, InvalidToken, parse_head, im_of, Relayed, Nothing, Frame, Fault}
use Rattle.daide_log.proofs.Common.{Stopped, SessionPhase, Ending, WaitIm, WaitRm, Over, SessionState, Config, BadLine}
use Rattle.daide_log.proofs.Common.{LogEvent, Received, EndOf, ImTimerLine, StopLine, without_cr, plain_number}
use Rattle.daide_log.proofs.Common.{parted_at_space, event_of_line, Of, Single, ReportKey, config_of_line, Unnamed}
use Rattle.daide_log.proofs.Common.{Named, Headed, single_session, ReportEntry, source_text, reported_text, move_line}
use Rattle.daide_log.proofs.Common.{summary_line, lines_of, events_of_line, side_of, counted_all, nothing_counted}
use Rattle.daide_frame.specs.Frames.{is_alien, first_items, last_items}
use Rattle.daide_protocol.specs.declared.note.Deed.TheVariants.{Dropped, Prn, Huh}
use Rattle.daide_protocol.specs.declared.ending.Ending.TheVariants as Endings
use Rattle.daide_protocol.specs.Config.{limits_of}
use Rattle.daide_log.specs.Log.{ReportsBy, ReportsAllBy, IsReportBy, Opening, Playing, source_in, Reports, IsReport}
use Rattle.daide_log.proofs.Played.{Played, state_at, played, verdict_on, entries_by}
use Rattle.daide_log.proofs.Played.{has_no_feed, unbroken, line_played}

-- ---- the second line

unfoldable pub limits : Config
limits = record { top_level = 60; max_body = 1024; max_depth = 16 }

limits_set : (config_of_line (codes "config 60 1024 16") ≡ Some limits)
    × (config_of_line (codes "config 060 1024 16") ≡ None) × (config_of_line (codes "config 61 1024 16") ≡ None)
    × (config_of_line (codes "config 60 1024 16 ") ≡ None) × (config_of_line (codes "config 60 1024") ≡ None)
unfolding config_of_line parted_at_space plain_number limits
limits_set = (refl, refl, refl, refl, refl)

-- ---- the report

-- the key of a line in version 1, which names no session
of_line : ℕ → ReportKey
of_line line = record { line = line; session = None }

moves_reported : (move_line (of_line 3) Bot (Frame (record { kind = Im; len = 4 }) Relayed) ≡ codes "3 bot IM 4 relay" ++ 10 ∷ [])
    × (move_line (of_line 6) Bot (Frame (record { kind = Dm; len = 4 }) Prn) ≡ codes "6 bot DM 4 prn" ++ 10 ∷ [])
    × (move_line (of_line 5) Bot (Frame (record { kind = Dm; len = 2 }) (Huh 0)) ≡ codes "5 bot DM 2 huh 0" ++ 10 ∷ [])
    × (move_line (of_line 3) Bot (Frame (record { kind = Fm; len = 0 }) Dropped) ≡ codes "3 bot FM 0 drop" ++ 10 ∷ [])
    × (move_line (of_line 1000000) Server (Fault InvalidToken) ≡ codes "1000000 server fault 0E" ++ 10 ∷ [])
    × (move_line (of_line 3) Bot (Fault ImTimeout) ≡ codes "3 bot fault 01" ++ 10 ∷ [])
    × (move_line (of_line 3) Server Nothing ≡ codes "3 server end" ++ 10 ∷ [])
    × (move_line (of_line 3) Bot Stopped ≡ codes "3 operator stop" ++ 10 ∷ [])
unfolding of_line move_line source_text reported_text digits encode_with
moves_reported = (refl, refl, refl, refl, refl, refl, refl, refl)

counts_reported : summary_line (record { relayed = 4; prn = 1; huh = 0; faults = 0 })
    ≡ codes "relayed 4 prn 1 huh 0 faults 0" ++ 10 ∷ []
unfolding summary_line digits
counts_reported = refl

-- ---- whole logs

unfoldable pub opening_lines : List ℕ
opening_lines = (codes "daide-log 1" ++ 10 ∷ []) ++ codes "config 60 1024 16" ++ 10 ∷ []

-- the session with these limits, in a phase
abbrev pub session_in : SessionPhase → SessionState
session_in phase = state_at (limits_of limits) phase

-- the session with these limits, which ended in this way
abbrev pub session_ended : Ending → SessionState
session_ended ending = session_in (Over ending)

named : Reports (codes "daide-log 1" ++ 10 ∷ []) 1 [] (Opening (Named Single))
unfolding has_no_feed
named =
    ReportsBy.line [] 0 [] (Opening Unnamed) ReportsBy.none (codes "daide-log 1") [] (Opening (Named Single)) (omega arith)
    (unbroken (codes "daide-log 1") refl) (omega arith) (Named Single, refl, refl, refl)

pub opened : Reports opening_lines 2 [] (Playing Single (session_in WaitIm ∷ []))
unfolding opening_lines limits config_of_line parted_at_space plain_number has_no_feed
opened =
    ReportsBy.line (codes "daide-log 1" ++ 10 ∷ []) 1 [] (Opening (Named Single)) named (codes "config 60 1024 16") []
    (Playing Single (session_in WaitIm ∷ [])) (omega arith) (unbroken (codes "config 60 1024 16") refl) (omega arith)
    (Headed (record { version = Single; limits = single_session limits; words = [] }), refl, refl, refl)

-- one more line
pub next_line : (bytes : List ℕ) (number : ℕ) (reported : List ReportEntry) (state : SessionState) →
    Reports bytes number reported (Playing Single (state ∷ [])) → (line : List ℕ) (event : LogEvent) (p : Played) →
    has_no_feed line ≡ true → length line ≤ 2100 → number < 1000000 → event_of_line (without_cr line) ≡ Some event →
    played (events_of_line event) state ≡ Some p →
    Reports (bytes ++ line ++ 10 ∷ []) (number + 1)
    (reported ++ entries_by (source_in Single (number + 1) 1) (side_of event) p.reported) (Playing Single (p.state ∷ []))
next_line bytes number reported state reports line event p whole short few is_event is =
    line_played bytes number reported Single (state ∷ []) reports line 1 event state p whole short few
    (ap (option_map (Of 1)) is_event) refl is

-- a log that ends here
ends_here : (bytes : List ℕ) (number : ℕ) (reported : List ReportEntry) (states : List SessionState) →
    Reports bytes number reported (Playing Single states) →
    IsReport bytes (lines_of reported ++ summary_line (counted_all reported nothing_counted)) (Ok (counted_all reported nothing_counted))
ends_here bytes number reported states reports =
    IsReportBy.whole bytes number reported Single states (ReportsAllBy.ended bytes number reported (Playing Single states) reports)

-- a log of one line after the opening
one_line : (line : List ℕ) (event : LogEvent) (p : Played) → has_no_feed line ≡ true → length line ≤ 2100 →
    event_of_line (without_cr line) ≡ Some event → played (events_of_line event) (session_in WaitIm) ≡ Some p →
    IsReport (opening_lines ++ line ++ 10 ∷ [])
    (lines_of (entries_by (source_in Single 3 1) (side_of event) p.reported)
    ++ summary_line (counted_all (entries_by (source_in Single 3 1) (side_of event) p.reported) nothing_counted))
    (Ok (counted_all (entries_by (source_in Single 3 1) (side_of event) p.reported) nothing_counted))
one_line line event p whole short is_event is =
    ends_here (opening_lines ++ line ++ 10 ∷ []) 3 (entries_by (source_in Single 3 1) (side_of event) p.reported)
    (p.state ∷ [])
    (next_line opening_lines 2 [] (session_in WaitIm) opened line event p whole short (omega arith) is_event is)

-- the timer before the bot's first message is a fault
timer_alone : IsReport (opening_lines ++ codes "timer" ++ 10 ∷ [])
    ((codes "3 bot fault 01" ++ 10 ∷ []) ++ codes "relayed 0 prn 0 huh 0 faults 1" ++ 10 ∷ [])
    (Ok (record { relayed = 0; prn = 0; huh = 0; faults = 1 }))
unfolding event_of_line move_line source_text reported_text summary_line digits encode_with entries_by played verdict_on
    has_no_feed
timer_alone =
    one_line (codes "timer") ImTimerLine
    (record { state = session_ended (Endings.Fault Bot ImTimeout); reported = Fault ImTimeout ∷ [] }) refl (omega arith)
    refl refl

-- a stop ends the session, and is counted nowhere
stop_alone : IsReport (opening_lines ++ codes "stop" ++ 10 ∷ [])
    ((codes "3 operator stop" ++ 10 ∷ []) ++ codes "relayed 0 prn 0 huh 0 faults 0" ++ 10 ∷ [])
    (Ok (record { relayed = 0; prn = 0; huh = 0; faults = 0 }))
unfolding event_of_line move_line source_text reported_text summary_line digits encode_with entries_by played verdict_on
    has_no_feed
stop_alone =
    one_line (codes "stop") StopLine
    (record { state = session_ended Endings.Stopped; reported = Stopped ∷ [] }) refl (omega arith)
    refl refl

-- the end of the server ends the session
server_ends : IsReport (opening_lines ++ codes "end server" ++ 10 ∷ [])
    ((codes "3 server end" ++ 10 ∷ []) ++ codes "relayed 0 prn 0 huh 0 faults 0" ++ 10 ∷ [])
    (Ok (record { relayed = 0; prn = 0; huh = 0; faults = 0 }))
unfolding event_of_line move_line source_text reported_text summary_line digits entries_by played verdict_on has_no_feed
server_ends =
    one_line (codes "end server") (EndOf Server)
    (record { state = session_ended (Endings.Ended Server); reported = Nothing ∷ [] }) refl (omega arith)
    refl refl

unfoldable pub im : LogEvent
im = Received Bot (0 ∷ 0 ∷ 0 ∷ 4 ∷ 0 ∷ 1 ∷ 218 ∷ 16 ∷ [])

unfoldable pub im_passes : Played
im_passes = record { state = session_in WaitRm; reported = Frame (record { kind = Im; len = 4 }) Relayed ∷ [] }

pub im_played : played (events_of_line im) (session_in WaitIm) ≡ Some im_passes
unfolding im im_passes limits played verdict_on last_items first_items parse_head is_alien im_of
im_played = refl

-- an IM is forwarded
im_alone : IsReport (opening_lines ++ codes "bot 000000040001DA10" ++ 10 ∷ [])
    ((codes "3 bot IM 4 relay" ++ 10 ∷ []) ++ codes "relayed 1 prn 0 huh 0 faults 0" ++ 10 ∷ [])
    (Ok (record { relayed = 1; prn = 0; huh = 0; faults = 0 }))
unfolding im im_passes event_of_line move_line source_text reported_text summary_line digits decode_pairs entries_by
    has_no_feed
im_alone = one_line (codes "bot 000000040001DA10") im im_passes refl (omega arith) refl im_played

-- the bot's FM before its IM is dropped
fm : LogEvent
fm = Received Bot (3 ∷ 0 ∷ 0 ∷ 0 ∷ [])

fm_drops : Played
fm_drops =
    record { state = session_ended (Endings.Final Bot); reported = Frame (record { kind = Fm; len = 0 }) Dropped ∷ [] }

fm_played : played (events_of_line fm) (session_in WaitIm) ≡ Some fm_drops
unfolding fm fm_drops limits played verdict_on last_items first_items parse_head is_alien
fm_played = refl

fm_before_the_im : IsReport (opening_lines ++ codes "bot 03000000" ++ 10 ∷ [])
    ((codes "3 bot FM 0 drop" ++ 10 ∷ []) ++ codes "relayed 0 prn 0 huh 0 faults 0" ++ 10 ∷ [])
    (Ok (record { relayed = 0; prn = 0; huh = 0; faults = 0 }))
unfolding fm fm_drops event_of_line move_line source_text reported_text summary_line digits decode_pairs entries_by
    has_no_feed
fm_before_the_im = one_line (codes "bot 03000000") fm fm_drops refl (omega arith) refl fm_played

-- the two opening lines alone have an empty report, and a log with fewer lines has a fault
pub two_lines_alone : IsReport opening_lines ([] ++ codes "relayed 0 prn 0 huh 0 faults 0" ++ 10 ∷ [])
    (Ok (record { relayed = 0; prn = 0; huh = 0; faults = 0 }))
unfolding summary_line digits
two_lines_alone =
    ends_here opening_lines 2 [] (session_in WaitIm ∷ []) opened

empty_input : IsReport [] [] (Err (BadLine 1))
empty_input =
    IsReportBy.cut_short [] 0 [] (Opening Unnamed) (ReportsAllBy.ended [] 0 [] (Opening Unnamed) ReportsBy.none) tt

-- a bad line after the opening, which has no entry
bad_third_line : IsReport (opening_lines ++ codes "bot 02000" ++ 10 ∷ []) [] (Err (BadLine 3))
unfolding event_of_line decode_pairs has_no_feed
bad_third_line =
    IsReportBy.bad opening_lines 2 [] (Playing Single (session_in WaitIm ∷ [])) opened (codes "bot 02000") []
    (omega arith) (unbroken (codes "bot 02000") refl) (omega arith) refl

-- a leading zero in the second line
leading_zero : IsReport ((codes "daide-log 1" ++ 10 ∷ []) ++ codes "config 060 1024 16" ++ 10 ∷ []) [] (Err (BadLine 2))
unfolding config_of_line parted_at_space plain_number has_no_feed
leading_zero =
    IsReportBy.bad (codes "daide-log 1" ++ 10 ∷ []) 1 [] (Opening (Named Single)) named (codes "config 060 1024 16") []
    (omega arith) (unbroken (codes "config 060 1024 16") refl) (omega arith) refl

-- the bot's FM before its IM ends the session, so the timer has no effect
fm_then_timer : IsReport ((opening_lines ++ codes "bot 03000000" ++ 10 ∷ []) ++ codes "timer" ++ 10 ∷ [])
    ((codes "3 bot FM 0 drop" ++ 10 ∷ []) ++ codes "relayed 0 prn 0 huh 0 faults 0" ++ 10 ∷ [])
    (Ok (record { relayed = 0; prn = 0; huh = 0; faults = 0 }))
unfolding fm fm_drops event_of_line move_line source_text reported_text summary_line digits decode_pairs entries_by played
    verdict_on has_no_feed
fm_then_timer =
    let ended : List ReportEntry = entries_by (source_in Single 3 1) Bot fm_drops.reported in
    ends_here ((opening_lines ++ codes "bot 03000000" ++ 10 ∷ []) ++ codes "timer" ++ 10 ∷ []) 4 (ended ++ [])
    (session_ended (Endings.Final Bot) ∷ [])
    (next_line (opening_lines ++ codes "bot 03000000" ++ 10 ∷ []) 3 ended (session_ended (Endings.Final Bot))
    (next_line opening_lines 2 [] (session_in WaitIm) opened (codes "bot 03000000") fm fm_drops refl (omega arith)
    (omega arith) refl fm_played)
    (codes "timer") ImTimerLine (record { state = session_ended (Endings.Final Bot); reported = [] })
    refl (omega arith) (omega arith) refl refl)
