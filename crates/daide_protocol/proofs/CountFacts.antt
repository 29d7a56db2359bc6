-- The counts of sent frames, worked out from the protocol: each kind of effect, for each side.
use Rattle.daide_protocol.proofs.Common.{◌≡◌, ℕ, ◌*◌, List, [], ◌∷◌, length, refl, class_of, bra, ket, huh, prn}
use Rattle.daide_protocol.proofs.Common.{bytes_of_tokens, Side, Bot, Server, head_bytes, parse_head, is_alien}
use Rattle.daide_protocol.proofs.Common.{first_items, last_items, im_of, L0, L60, entries, may_end_of, table_answer}
use Rattle.daide_protocol.proofs.Common.{Phase, Summary, answer_bytes, Event, Ends, Loses, ImTimerExpired}
use Rattle.daide_protocol.proofs.Common.{OperatorStops, bytes_come, SessionState, initial_state}
use Rattle.daide_protocol.specs.declared.phase.Phase.TheVariants.{WaitIm, WaitRm, Open}
use Rattle.daide_protocol.specs.Counts.{frames_counted}
use Rattle.daide_protocol.proofs.SomeRun.{in_phase, outcome_of}

-- a session in a phase, with nothing held
abbrev standing : Phase → SessionState
standing phase = in_phase phase L0 (initial_state (record { cap = 512; top_level = L60; max_depth = 4; words = [] }))

-- the counts of the frames that a session sends at these events, or at these bytes from a side
abbrev counts_by : Phase → List Event → Summary
counts_by phase events = frames_counted (outcome_of (standing phase) events).effects

abbrev counts_after : Phase → Side → List ℕ → Summary
counts_after phase side bytes = counts_by phase (bytes_come side bytes)

-- the frame of a message
abbrev message : List ℕ → List ℕ
message tokens = 0x02 ∷ 0x00 ∷ 0x00 ∷ 2 * length tokens ∷ bytes_of_tokens tokens

abbrev fm : List ℕ
fm = 0x03 ∷ 0x00 ∷ 0x00 ∷ 0x00 ∷ []

abbrev em : List ℕ
em = 0x04 ∷ 0x00 ∷ 0x00 ∷ 0x02 ∷ 0x00 ∷ 0x09 ∷ []

abbrev of : ℕ → ℕ → ℕ → ℕ → Summary
of relayed prn huh faults = record { relayed = relayed; prn = prn; huh = huh; faults = faults }

-- the bot's OBS and the server's OFF are relayed; each gets HUH if the other side sends it; a single bracket gets PRN
messages :
    (counts_after Open Bot (message (0x480F ∷ [])) ≡ of 1 0 0 0)
    × (counts_after Open Server (message (0x4810 ∷ [])) ≡ of 1 0 0 0)
    × (counts_after Open Bot (message (bra ∷ [])) ≡ of 0 1 0 0)
    × (counts_after Open Server (message (bra ∷ [])) ≡ of 0 1 0 0)
    × (counts_after Open Bot (message (0x4810 ∷ [])) ≡ of 0 0 1 0)
    × (counts_after Open Server (message (0x480F ∷ [])) ≡ of 0 0 1 0)
unfolding last_items first_items parse_head is_alien entries may_end_of table_answer class_of answer_bytes head_bytes
messages = (refl, refl, refl, refl, refl, refl)

-- a HUH or a PRN that a side sends itself is relayed as any message
answers_that_go_on :
    (counts_after Open Bot (message (huh ∷ bra ∷ ket ∷ [])) ≡ of 1 0 0 0)
    × (counts_after Open Server (message (huh ∷ bra ∷ ket ∷ [])) ≡ of 1 0 0 0)
    × (counts_after Open Bot (message (prn ∷ bra ∷ 0x480F ∷ ket ∷ [])) ≡ of 1 0 0 0)
    × (counts_after Open Server (message (prn ∷ bra ∷ 0x480F ∷ ket ∷ [])) ≡ of 1 0 0 0)
unfolding last_items first_items parse_head is_alien entries may_end_of table_answer class_of answer_bytes head_bytes
answers_that_go_on = (refl, refl, refl, refl)

-- an IM, an RM, an FM and an EM that are relayed; an EM is no fault of its side, and before the IM it is dropped
other_frames :
    (counts_after WaitIm Bot (0x00 ∷ 0x00 ∷ 0x00 ∷ 0x04 ∷ 0x00 ∷ 0x01 ∷ 0xDA ∷ 0x10 ∷ []) ≡ of 1 0 0 0)
    × (counts_after WaitRm Server (0x01 ∷ 0x00 ∷ 0x00 ∷ 0x00 ∷ []) ≡ of 1 0 0 0)
    × (counts_after Open Bot fm ≡ of 1 0 0 0) × (counts_after Open Server fm ≡ of 1 0 0 0)
    × (counts_after Open Bot em ≡ of 1 0 0 0) × (counts_after Open Server em ≡ of 1 0 0 0)
    × (counts_after WaitIm Bot em ≡ of 0 0 0 0) × (counts_after WaitIm Server em ≡ of 1 0 0 0)
unfolding last_items first_items parse_head is_alien im_of head_bytes answer_bytes
other_frames = (refl, refl, refl, refl, refl, refl, refl, refl)

-- a fault is counted once, though the other side also gets an FM; the timer's fault is counted only in the phase WaitIm
faults :
    (counts_after Open Bot (0x02 ∷ 0x00 ∷ 0x00 ∷ 0x03 ∷ []) ≡ of 0 0 0 1)
    × (counts_after Open Server (0x02 ∷ 0x00 ∷ 0x00 ∷ 0x03 ∷ []) ≡ of 0 0 0 1)
    × (counts_after WaitIm Bot (0x02 ∷ 0x00 ∷ 0x00 ∷ 0x02 ∷ []) ≡ of 0 0 0 1)
    × (counts_after WaitIm Server (0x00 ∷ 0x00 ∷ 0x00 ∷ 0x04 ∷ []) ≡ of 0 0 0 1)
    × (counts_by WaitIm (ImTimerExpired ∷ []) ≡ of 0 0 0 1) × (counts_by Open (ImTimerExpired ∷ []) ≡ of 0 0 0 0)
unfolding last_items first_items parse_head is_alien
faults = (refl, refl, refl, refl, refl, refl)

-- neither an end nor a stop is counted
ends :
    (counts_by Open (Ends Bot ∷ []) ≡ of 0 0 0 0) × (counts_by Open (Ends Server ∷ []) ≡ of 0 0 0 0)
    × (counts_by Open (Loses Bot ∷ []) ≡ of 0 0 0 0) × (counts_by Open (Loses Server ∷ []) ≡ of 0 0 0 0)
    × (counts_by WaitIm (OperatorStops ∷ []) ≡ of 0 0 0 0) × (counts_by Open (OperatorStops ∷ []) ≡ of 0 0 0 0)
ends = (refl, refl, refl, refl, refl, refl)
