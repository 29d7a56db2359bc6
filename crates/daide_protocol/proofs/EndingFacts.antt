-- The endings of sessions, and their counts, worked out from the protocol: each way to end for each side, each code of
-- a fault, and each kind of note.
use Rattle.daide_protocol.proofs.Common.{◌≡◌, ℕ, ◌+◌, List, [], ◌∷◌, ◌++◌, Option, Some, None, refl, Side, Bot, Server}
use Rattle.daide_protocol.proofs.Common.{Head, Code, parse_head, is_alien, first_items, last_items, im_of, L0, L60}
use Rattle.daide_protocol.proofs.Common.{Ending, Ended, Lost, Final, Error, Fault, Stopped, Phase, Summary, Event, Ends}
use Rattle.daide_protocol.proofs.Common.{Loses, ImTimerExpired, OperatorStops, bytes_come, SessionState, ending_in}
use Rattle.daide_protocol.proofs.Common.{initial_state, count_note, counted_on}
use Rattle.daide_frame.specs.declared.code.Code.TheVariants as Codes
use Rattle.daide_protocol.specs.declared.note.Deed.TheVariants as Deeds
use Rattle.daide_protocol.specs.declared.note.Note.TheVariants as Notes
use Rattle.daide_protocol.specs.declared.phase.Phase.TheVariants.{WaitIm, WaitRm, Open}
use Rattle.daide_protocol.proofs.SomeRun.{in_phase, outcome_of}

-- a session in a phase, with nothing held
abbrev standing : Phase → SessionState
standing phase = in_phase phase L0 (initial_state (record { cap = 512; top_level = L60; max_depth = 4; words = [] }))

-- the ending after these events
abbrev ending_by : Phase → List Event → Option Ending
ending_by phase events = ending_in (outcome_of (standing phase) events).state.phase

-- the ending after these bytes from a side
abbrev ending_after_bytes : Phase → Side → List ℕ → Option Ending
ending_after_bytes phase side bytes = ending_by phase (bytes_come side bytes)

-- ---- each way to end

abbrev fm : List ℕ
fm = 0x03 ∷ 0x00 ∷ 0x00 ∷ 0x00 ∷ []

abbrev em : List ℕ
em = 0x04 ∷ 0x00 ∷ 0x00 ∷ 0x02 ∷ 0x00 ∷ 0x09 ∷ []

none_at_first : (ending_by WaitIm [] ≡ None) × (ending_by WaitRm [] ≡ None) × (ending_by Open [] ≡ None)
none_at_first = (refl, refl, refl)

ends_and_lost_wires :
    (ending_by WaitIm (Ends Bot ∷ []) ≡ Some (Ended Bot)) × (ending_by WaitIm (Ends Server ∷ []) ≡ Some (Ended Server))
    × (ending_by WaitIm (Loses Bot ∷ []) ≡ Some (Lost Bot))
    × (ending_by WaitIm (Loses Server ∷ []) ≡ Some (Lost Server))
    × (ending_by WaitRm (Ends Bot ∷ []) ≡ Some (Ended Bot))
    × (ending_by WaitRm (Ends Server ∷ []) ≡ Some (Ended Server))
    × (ending_by WaitRm (Loses Bot ∷ []) ≡ Some (Lost Bot))
    × (ending_by WaitRm (Loses Server ∷ []) ≡ Some (Lost Server))
    × (ending_by Open (Ends Bot ∷ []) ≡ Some (Ended Bot)) × (ending_by Open (Ends Server ∷ []) ≡ Some (Ended Server))
    × (ending_by Open (Loses Bot ∷ []) ≡ Some (Lost Bot)) × (ending_by Open (Loses Server ∷ []) ≡ Some (Lost Server))
ends_and_lost_wires = (refl, refl, refl, refl, refl, refl, refl, refl, refl, refl, refl, refl)

final_messages :
    (ending_after_bytes WaitIm Bot fm ≡ Some (Final Bot)) × (ending_after_bytes WaitIm Server fm ≡ Some (Final Server))
    × (ending_after_bytes WaitRm Bot fm ≡ Some (Final Bot))
    × (ending_after_bytes WaitRm Server fm ≡ Some (Final Server))
    × (ending_after_bytes Open Bot fm ≡ Some (Final Bot)) × (ending_after_bytes Open Server fm ≡ Some (Final Server))
unfolding last_items first_items parse_head is_alien
final_messages = (refl, refl, refl, refl, refl, refl)

error_messages :
    (ending_after_bytes WaitIm Bot em ≡ Some (Error Bot)) × (ending_after_bytes WaitIm Server em ≡ Some (Error Server))
    × (ending_after_bytes WaitRm Bot em ≡ Some (Error Bot))
    × (ending_after_bytes WaitRm Server em ≡ Some (Error Server))
    × (ending_after_bytes Open Bot em ≡ Some (Error Bot)) × (ending_after_bytes Open Server em ≡ Some (Error Server))
unfolding last_items first_items parse_head is_alien
error_messages = (refl, refl, refl, refl, refl, refl)

stops :
    (ending_by WaitIm (OperatorStops ∷ []) ≡ Some Stopped) × (ending_by WaitRm (OperatorStops ∷ []) ≡ Some Stopped)
    × (ending_by Open (OperatorStops ∷ []) ≡ Some Stopped)
stops = (refl, refl, refl)

-- the codes 01 to 0E, in their order
each_code :
    (ending_by WaitIm (ImTimerExpired ∷ []) ≡ Some (Fault Bot Codes.ImTimeout))
    × (ending_after_bytes WaitIm Bot (0x02 ∷ 0x00 ∷ 0x00 ∷ 0x02 ∷ []) ≡ Some (Fault Bot Codes.ImNotFirst))
    × (ending_after_bytes WaitIm Bot (0x00 ∷ 0x00 ∷ 0x04 ∷ 0x00 ∷ []) ≡ Some (Fault Bot Codes.WrongEndian))
    × (ending_after_bytes WaitIm Bot (0x00 ∷ 0x00 ∷ 0x00 ∷ 0x04 ∷ 0x00 ∷ 0x01 ∷ 0xDB ∷ 0x10 ∷ [])
    ≡ Some (Fault Bot Codes.WrongMagic))
    × (ending_after_bytes WaitIm Bot (0x00 ∷ 0x00 ∷ 0x00 ∷ 0x04 ∷ 0x00 ∷ 0x02 ∷ 0xDA ∷ 0x10 ∷ [])
    ≡ Some (Fault Bot Codes.WrongVersion))
    × (ending_after_bytes Open Bot (0x00 ∷ 0x00 ∷ 0x00 ∷ 0x04 ∷ []) ≡ Some (Fault Bot Codes.SecondIm))
    × (ending_after_bytes Open Server (0x00 ∷ 0x00 ∷ 0x00 ∷ 0x04 ∷ []) ≡ Some (Fault Server Codes.ImFromServer))
    × (ending_after_bytes WaitIm Server (0x01 ∷ 0x00 ∷ 0x00 ∷ 0x00 ∷ []) ≡ Some (Fault Server Codes.UnknownMessage))
    × (ending_after_bytes Open Server (0x02 ∷ 0x00 ∷ 0x00 ∷ 0x03 ∷ []) ≡ Some (Fault Server Codes.WrongLength))
    × (ending_after_bytes WaitRm Bot (0x02 ∷ 0x00 ∷ 0x00 ∷ 0x02 ∷ []) ≡ Some (Fault Bot Codes.DmBeforeRm))
    × (ending_after_bytes WaitRm Server (0x02 ∷ 0x00 ∷ 0x00 ∷ 0x02 ∷ []) ≡ Some (Fault Server Codes.RmNotFirst))
    × (ending_after_bytes Open Server (0x01 ∷ 0x00 ∷ 0x00 ∷ 0x00 ∷ []) ≡ Some (Fault Server Codes.SecondRm))
    × (ending_after_bytes Open Bot (0x01 ∷ 0x00 ∷ 0x00 ∷ 0x00 ∷ []) ≡ Some (Fault Bot Codes.RmFromClient))
    × (ending_after_bytes Open Server (0x02 ∷ 0x00 ∷ 0x00 ∷ 0x02 ∷ 0x4C ∷ 0x00 ∷ [])
    ≡ Some (Fault Server Codes.InvalidToken))
unfolding last_items first_items parse_head is_alien im_of
each_code = (refl, refl, refl, refl, refl, refl, refl, refl, refl, refl, refl, refl, refl, refl)

-- the first ending is kept, whatever happens later
first_stays :
    (ending_by Open (Ends Bot ∷ Loses Server ∷ ImTimerExpired ∷ Ends Server ∷ []) ≡ Some (Ended Bot))
    × (ending_by WaitIm (ImTimerExpired ∷ Ends Bot ∷ Loses Bot ∷ []) ≡ Some (Fault Bot Codes.ImTimeout))
    × (ending_by Open (OperatorStops ∷ Ends Bot ∷ Loses Server ∷ []) ≡ Some Stopped)
    × (ending_by Open (Loses Server ∷ OperatorStops ∷ []) ≡ Some (Lost Server))
    × (ending_by Open (bytes_come Server fm ++ Ends Bot ∷ []) ≡ Some (Final Server))
    × (ending_by Open (bytes_come Bot em ++ Loses Bot ∷ bytes_come Server fm) ≡ Some (Error Bot))
    -- and an event that ends nothing has no ending
    × (ending_by WaitRm (ImTimerExpired ∷ []) ≡ None) × (ending_by Open (bytes_come Bot (0x03 ∷ 0x00 ∷ 0x00 ∷ [])) ≡ None)
unfolding last_items first_items parse_head is_alien
first_stays = (refl, refl, refl, refl, refl, refl, refl, refl)

-- ---- each kind of note is counted only in its field

abbrev of : ℕ → ℕ → ℕ → ℕ → Summary
of relayed prn huh faults = record { relayed = relayed; prn = prn; huh = huh; faults = faults }

counts_apart : (a b c d place : ℕ) (head : Head) (code : Code) →
    (count_note (Notes.Frame head Deeds.Relayed) (of a b c d) ≡ of (a + 1) b c d)
    × (count_note (Notes.Frame head Deeds.Prn) (of a b c d) ≡ of a (b + 1) c d)
    × (count_note (Notes.Frame head (Deeds.Huh place)) (of a b c d) ≡ of a b (c + 1) d)
    × (count_note (Notes.Fault code) (of a b c d) ≡ of a b c (d + 1))
    × (count_note (Notes.Frame head Deeds.Dropped) (of a b c d) ≡ of a b c d)
    × (count_note Notes.Nothing (of a b c d) ≡ of a b c d) × (count_note Notes.Stopped (of a b c d) ≡ of a b c d)
counts_apart a b c d place head code = (refl, refl, refl, refl, refl, refl, refl)

-- a session's counts wrap at 2^64
counts_wrap : (head : Head) (code : Code) →
    (counted_on (Notes.Frame head Deeds.Relayed) (of 18446744073709551615 1 2 3) ≡ of 0 1 2 3)
    × (counted_on (Notes.Frame head Deeds.Relayed) (of 18446744073709551614 1 2 3) ≡ of 18446744073709551615 1 2 3)
    × (counted_on (Notes.Fault code) (of 1 2 3 0) ≡ of 1 2 3 1)
counts_wrap head code = (refl, refl, refl)
