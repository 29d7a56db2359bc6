-- One application of each law of `laws` that is a definition, to known values. Each fact depends on the law alone, so
-- that a weakened law fails to check.
use Rattle.daide_log.proofs.Common.{◌≡◌, ◌≢◌, ℕ, ◌≤◌, List, [], ◌∷◌, ◌++◌, codes, Some, Ok, refl, sym, ◌∙◌, arith}
use Rattle.daide_log.proofs.Common.{Summary, Config, limits_with, initial_state, PortCall, Clock, EvolvesBy}
use Rattle.daide_log.proofs.Common.{nothing_counted, BadLine, RecordEnd, Whole, Failed, MatchConfig, config_of_line}
use Rattle.daide_log.proofs.Common.{match_config_of_line, Unnamed, IsLines, SessionsAreAlone, own_reported, HasFault}
use Rattle.daide_log.proofs.Common.{Recorded, Records, ReportEntry, counted_all, lines_of, summary_line}
use Rattle.daide_log.proofs.Common.{length, Option, None, ap, Bot, Server, Ending, Over, SessionState, coming, digits, InvalidToken}
use Rattle.daide_io.specs.declared.ports.ClockEvent.TheVariants.{ImTimeIsOver, StopIsRequested}
use Rattle.daide_protocol.specs.Machine.{ending_in}
use Rattle.daide_protocol.specs.Summary.{reduced}
use Rattle.daide_protocol.specs.declared.ending.Ending.TheVariants as Endings
use Rattle.daide_log.specs.Explained.{Part, fault_lines, unfinished_parts, IncompleteFramesAreListed, InvalidTokensAreShown}
use Rattle.daide_log.specs.Log.{IsReportBy, IsReport, Opening, ReportsBy}
use Rattle.daide_log.specs.RecordItem.{record_text}
use Rattle.daide_log.specs.RecordLaw.{HasBegun, HasItems, IsReported, PortsAreRecorded, RecordsAreReported, notes_reported}
use Rattle.daide_log.proofs.Played.{has_no_feed, unbroken}

-- a match in which no session has a line
alone : SessionsAreAlone → (log own second own_second : List ℕ) (limits : MatchConfig) (text : List ℕ)
    (summary : Summary) → IsLines log (codes "daide-log 2" ∷ second ∷ []) →
    match_config_of_line second ≡ Some limits → limits.words ≡ 0 → 1 ≤ limits.sessions →
    IsLines own (codes "daide-log 1" ∷ own_second ∷ []) → config_of_line own_second ≡ Some limits.config →
    IsReport log text (Ok summary) →
    (reported : List ReportEntry) × (text ≡ lines_of reported ++ summary_line summary)
    × IsReport own (lines_of (own_reported 1 reported) ++ summary_line (counted_all (own_reported 1 reported) nothing_counted))
    (Ok (counted_all (own_reported 1 reported) nothing_counted))
alone law log own second own_second limits text summary lines is none some own_lines own_is reports =
    law log own second own_second [] limits 1 text summary lines is none (omega arith) some own_lines own_is reports

-- a wrong first line is a fault, whatever follows it
pub bad_first_line : HasFault (codes "x" ++ 10 ∷ []) (BadLine 1)
unfolding has_no_feed
bad_first_line more = (
  [],
  IsReportBy.bad [] 0 [] (Opening Unnamed) ReportsBy.none (codes "x") more (omega arith)
      (unbroken (codes "x") refl) (omega arith) refl,
)

abbrev limits : Config
limits = record { top_level = 60; max_body = 1024; max_depth = 16 }

whole_or_failed : (end : RecordEnd) → end ≡ Whole → end ≢ Failed
whole_or_failed end is other = absurd (let same : Whole ≡ Failed = sym is ∙ other in cc)

-- the record of a session whose ports made no call
nothing_recorded : RecordsAreReported → IsReported limits [] [] [] (initial_state (limits_with limits []))
nothing_recorded law = law limits [] [] [] (initial_state (limits_with limits [])) refl refl tt tt (omega arith) (refl, refl)

-- the fields of its report: no entry, no note, the text with its counts, and the session's own counts
fields_of_nothing : RecordsAreReported →
    (reported : List ReportEntry) × (reported ≡ []) × (notes_reported reported ≡ [])
    × IsReport (record_text limits [] []) (lines_of reported ++ summary_line (counted_all reported nothing_counted))
    (Ok (counted_all reported nothing_counted)) × (nothing_counted ≡ reduced (counted_all reported nothing_counted))
fields_of_nothing law =
    let r = nothing_recorded law in (r.reported, r.by_lines.0, r.notes, r.report, r.counts)

-- ports whose timer expired, and that had no other call
one_line : {P : Type 0} (transition : P → PortCall → P → Type 0) (failed : Type 0) →
    PortsAreRecorded transition failed → (old new : Recorded P) → HasBegun limits [] [] old.record_of →
    EvolvesBy (Records transition failed) old (Clock ImTimeIsOver ∷ []) new → new.record_of.ending ≡ Whole →
    HasItems limits [] (Clock ImTimeIsOver ∷ []) new.record_of
one_line transition failed law old new begun calls whole =
    (law limits [] [] (Clock ImTimeIsOver ∷ []) old new begun calls).1 (whole_or_failed new.record_of.ending whole)

-- ports whose session was stopped, and that had no other call
stop_line : {P : Type 0} (transition : P → PortCall → P → Type 0) (failed : Type 0) →
    PortsAreRecorded transition failed → (old new : Recorded P) → HasBegun limits [] [] old.record_of →
    EvolvesBy (Records transition failed) old (Clock StopIsRequested ∷ []) new → new.record_of.ending ≡ Whole →
    HasItems limits [] (Clock StopIsRequested ∷ []) new.record_of
stop_line transition failed law old new begun calls whole =
    (law limits [] [] (Clock StopIsRequested ∷ []) old new begun calls).1 (whole_or_failed new.record_of.ending whole)

-- the server's incomplete header has a line after an EM of the bot
after_an_em : IncompleteFramesAreListed → (state : SessionState) → state.phase ≡ Over (Endings.Error Bot) →
    (coming state Server).pending ≡ 2 ∷ 0 ∷ [] →
    (before : List Part) × (part : Part) × (after : List Part) × (unfinished_parts None state ≡ before ++ part ∷ after)
    × (part.side ≡ Server) × (part.came ≡ 2)
after_an_em law state is pending =
    let listed = law None state Server (λ none. absurd (let e : 2 ∷ 0 ∷ [] ≡ [] = sym pending ∙ none in cc))
    (λ code other. absurd (let e : ◌≡◌ {A = Option Ending} (Some (Endings.Error Bot)) (Some (Endings.Fault Server code)) =
    sym (ap ending_in is) ∙ other in cc)) in
    (listed.0, listed.1, listed.2, listed.3, listed.5, listed.6 ∙ ap length pending)

-- the first token of a message, and the third
invalid_tokens : InvalidTokensAreShown →
    (fault_lines 512 InvalidToken (2 ∷ 0 ∷ 0 ∷ 2 ∷ 0x58 ∷ 0 ∷ []) ≡ codes "invalid token\nbytes: 58 00 at token 0\n")
    × (fault_lines 512 InvalidToken (2 ∷ 0 ∷ 0 ∷ 6 ∷ 0x48 ∷ 3 ∷ 0x40 ∷ 0 ∷ 0x60 ∷ 0x0F ∷ [])
    ≡ codes "invalid token\nbytes: 60 0F at token 2\n")
unfolding digits
invalid_tokens law =
    (law 512 0 0x58 0 (2 ∷ 0 ∷ 0 ∷ 2 ∷ []) [] refl refl, law 512 2 0x60 0x0F (2 ∷ 0 ∷ 0 ∷ 6 ∷ []) (0x48 ∷ 3 ∷ 0x40 ∷ 0 ∷ []) refl refl)
