-- The worked log of seven lines, with its messages, computed from the definitions. The verdict on a message is the one
-- of the grammar's table, which is the grammar's.
use Rattle.daide_log.proofs.Common.{◌≡◌, ℕ, List, [], ◌∷◌, ◌++◌, codes, Some, Ok, refl, arith, digits, decode_pairs}
use Rattle.daide_log.proofs.Common.{Side, Bot, Server, Im, Rm, Dm, Fm, parse_head, Relayed, Note, Frame, WaitIm, WaitRm}
use Rattle.daide_log.proofs.Common.{Open, L0, LogEvent, Received, event_of_line, Single, ReportEntry, source_text}
use Rattle.daide_log.proofs.Common.{reported_text, move_line, summary_line, events_of_line}
use Rattle.daide_frame.specs.Frames.{is_alien, first_items, last_items}
use Rattle.daide_token.specs.Class.{class_of}
use Rattle.daide_grammar.specs.Table.Symbols.{entries, may_end_of, slot_of, table_answer}
use Rattle.daide_protocol.specs.declared.note.Deed.TheVariants.{Prn}
use Rattle.daide_protocol.specs.declared.ending.Ending.TheVariants as Endings
use Rattle.daide_log.specs.Log.{ReportsAllBy, IsReportBy, Playing, source_in, Reports, IsReport}
use Rattle.daide_log.proofs.Played.{Played, played, verdict_on, entries_by, has_no_feed}
use Rattle.daide_log.proofs.StandardFacts.{limits, session_in, session_ended, opening_lines, opened, next_line, im}
use Rattle.daide_log.proofs.StandardFacts.{im_passes, im_played}

-- ---- the messages, and the move of each

rm : LogEvent
rm = Received Server (1 ∷ 0 ∷ 0 ∷ 0 ∷ [])

gof : LogEvent
gof = Received Bot (2 ∷ 0 ∷ 0 ∷ 2 ∷ 72 ∷ 3 ∷ [])

unclosed : LogEvent
unclosed = Received Bot (2 ∷ 0 ∷ 0 ∷ 4 ∷ 72 ∷ 3 ∷ 64 ∷ 0 ∷ [])

fm : LogEvent
fm = Received Server (3 ∷ 0 ∷ 0 ∷ 0 ∷ [])

rm_passes : Played
rm_passes = record { state = session_in (Open L0); reported = Frame (record { kind = Rm; len = 0 }) Relayed ∷ [] }

gof_passes : Played
gof_passes = record { state = session_in (Open L0); reported = Frame (record { kind = Dm; len = 2 }) Relayed ∷ [] }

unclosed_gets_prn : Played
unclosed_gets_prn = record { state = session_in (Open L0); reported = Frame (record { kind = Dm; len = 4 }) Prn ∷ [] }

fm_passes : Played
fm_passes =
    record { state = session_ended (Endings.Final Server); reported = Frame (record { kind = Fm; len = 0 }) Relayed ∷ [] }

rm_played : played (events_of_line rm) (session_in WaitRm) ≡ Some rm_passes
unfolding rm rm_passes limits played verdict_on last_items first_items parse_head is_alien
rm_played = refl

gof_played : played (events_of_line gof) (session_in (Open L0)) ≡ Some gof_passes
unfolding gof gof_passes limits played verdict_on last_items first_items parse_head is_alien entries may_end_of slot_of
    table_answer class_of
gof_played = refl

unclosed_played : played (events_of_line unclosed) (session_in (Open L0)) ≡ Some unclosed_gets_prn
unfolding unclosed unclosed_gets_prn limits played verdict_on last_items first_items parse_head is_alien entries may_end_of
    slot_of table_answer class_of
unclosed_played = refl

fm_played : played (events_of_line fm) (session_in (Open L0)) ≡ Some fm_passes
unfolding fm fm_passes limits played verdict_on last_items first_items parse_head is_alien
fm_played = refl

-- ---- the log

to_im : List ℕ
to_im = opening_lines ++ codes "bot 000000040001DA10" ++ 10 ∷ []

to_rm : List ℕ
to_rm = to_im ++ codes "server 01000000" ++ 10 ∷ []

to_gof : List ℕ
to_gof = to_rm ++ codes "bot 020000024803" ++ 10 ∷ []

to_unclosed : List ℕ
to_unclosed = to_gof ++ codes "bot 0200000448034000" ++ 10 ∷ []

-- a side's move that a line caused
move_at : ℕ → Side → Note → ReportEntry
move_at number side reported = record { source = source_in Single number 1; side = side; reported = reported }

log_reported : List ReportEntry
log_reported =
    move_at 3 Bot (Frame (record { kind = Im; len = 4 }) Relayed)
    ∷ move_at 4 Server (Frame (record { kind = Rm; len = 0 }) Relayed)
    ∷ move_at 5 Bot (Frame (record { kind = Dm; len = 2 }) Relayed)
    ∷ move_at 6 Bot (Frame (record { kind = Dm; len = 4 }) Prn)
    ∷ move_at 7 Server (Frame (record { kind = Fm; len = 0 }) Relayed) ∷ []

reported_by : ℕ → Side → Played → List ReportEntry
reported_by number side p = entries_by (source_in Single number 1) side p.reported

log_read : Reports (to_unclosed ++ codes "server 03000000" ++ 10 ∷ []) 7 log_reported
    (Playing Single (session_ended (Endings.Final Server) ∷ []))
unfolding im rm gof unclosed fm im_passes rm_passes gof_passes unclosed_gets_prn fm_passes to_im to_rm to_gof
    to_unclosed move_at log_reported reported_by entries_by event_of_line decode_pairs has_no_feed
log_read =
    let a = next_line opening_lines 2 [] (session_in WaitIm) opened (codes "bot 000000040001DA10") im im_passes refl
    (omega arith) (omega arith) refl im_played in
    let b = next_line to_im 3 (reported_by 3 Bot im_passes) (session_in WaitRm) a (codes "server 01000000") rm rm_passes
    refl (omega arith) (omega arith) refl rm_played in
    let c = next_line to_rm 4 (reported_by 3 Bot im_passes ++ reported_by 4 Server rm_passes) (session_in (Open L0)) b
    (codes "bot 020000024803") gof gof_passes refl (omega arith) (omega arith) refl gof_played in
    let d = next_line to_gof 5 (reported_by 3 Bot im_passes ++ reported_by 4 Server rm_passes ++ reported_by 5 Bot gof_passes)
    (session_in (Open L0)) c (codes "bot 0200000448034000") unclosed unclosed_gets_prn refl (omega arith) (omega arith) refl
    unclosed_played in
    next_line to_unclosed 6
    (reported_by 3 Bot im_passes ++ reported_by 4 Server rm_passes ++ reported_by 5 Bot gof_passes
    ++ reported_by 6 Bot unclosed_gets_prn) (session_in (Open L0)) d (codes "server 03000000") fm fm_passes refl (omega arith)
    (omega arith) refl fm_played

-- The initial message, the map and GOF are forwarded; a second GOF and an unclosed bracket get PRN; and the end is
-- forwarded.
seven_lines : IsReport (to_unclosed ++ codes "server 03000000" ++ 10 ∷ [])
    (codes "3 bot IM 4 relay" ++ 10 ∷ codes "4 server RM 0 relay" ++ 10 ∷ codes "5 bot DM 2 relay"
    ++ 10 ∷ codes "6 bot DM 4 prn" ++ 10 ∷ codes "7 server FM 0 relay"
    ++ 10 ∷ codes "relayed 4 prn 1 huh 0 faults 0" ++ 10 ∷ [])
    (Ok (record { relayed = 4; prn = 1; huh = 0; faults = 0 }))
unfolding log_reported move_at move_line source_text reported_text summary_line digits
seven_lines =
    IsReportBy.whole (to_unclosed ++ codes "server 03000000" ++ 10 ∷ []) 7 log_reported Single
    (session_ended (Endings.Final Server) ∷ [])
    (ReportsAllBy.ended (to_unclosed ++ codes "server 03000000" ++ 10 ∷ []) 7 log_reported
    (Playing Single (session_ended (Endings.Final Server) ∷ [])) log_read)
