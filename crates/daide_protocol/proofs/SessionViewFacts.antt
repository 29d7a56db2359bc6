-- Worked values of what a session holds, what it is missing and what it hands out: its bounds, its room, and what its
-- calls keep. They were worked out from the documents, so that a wrong factor or the other side in a definition does
-- not check.
use Rattle.daide_protocol.proofs.Common.{◌≡◌, ℕ, ◌≤◌, true, false, List, [], ◌∷◌, Some, None, refl, arith, Side, Bot}
use Rattle.daide_protocol.proofs.Common.{Server, Dm, Fm, Head, WrongLength, parse_head, announced, head_in, missing}
use Rattle.daide_protocol.proofs.Common.{is_alien, first_items, last_items, L0, L60, Phase, nothing_accounted, Limits}
use Rattle.daide_protocol.proofs.Common.{Sent, fm_bytes, initial_state, with_pending, SessionView, Holding, queued}
use Rattle.daide_protocol.proofs.Common.{sent_bytes}
use Rattle.daide_frame.specs.PerSide.{both}
use Rattle.daide_protocol.specs.declared.phase.Phase.TheVariants.{Open, Over}
use Rattle.daide_protocol.specs.declared.note.Deed.TheVariants as Deeds
use Rattle.daide_protocol.specs.declared.note.Note.TheVariants as Notes
use Rattle.daide_protocol.specs.Wires.{room_of, is_awaited, is_closed, without, first_len, frame_bytes_after, grown}
use Rattle.daide_protocol.specs.Wires.{counts_from, asked_at_most, looked_at_most}
use Rattle.daide_protocol.specs.Weight.{weight_of, weight_bound, steps_bound, IsKeptSmall}
use Rattle.daide_protocol.proofs.SomeRun.{in_phase}

-- ---- sessions with these values

abbrev usual : Limits
usual = record { cap = 65526; top_level = L60; max_depth = 62; words = [] }

abbrev small : Limits
small = record { cap = 512; top_level = L60; max_depth = 62; words = [] }

-- these bytes of a frame, with 4 entries on its reader's stack, 9 look-ups, 5 of them before this message, and 7 tokens
-- examined for the level of an HLO
abbrev holds : List ℕ → Holding
holds bytes = record { frame_bytes = bytes; entries = 4; total = 9; total_before = 5; looked_at = 7 }

-- these bytes from the two sides arrived since their last whole frames, and nothing is queued
abbrev holding_both : Limits → List ℕ → List ℕ → SessionView
holding_both limits from_bot from_server = record {
  state = with_pending (with_pending (in_phase Open L0 (initial_state limits)) Bot from_bot) Server from_server;
  wires = both [] [];
  parts = both [] [];
  sides = both (holds from_bot) (holds from_server);
  account = nothing_accounted;
}

-- a frame for a wire, the answer to a side's frame
abbrev answer : Side → Side → List ℕ → Sent
answer to side bytes = record { to = to; answers = Some side; bytes = bytes }

-- a frame for a wire that is no answer
abbrev ending : Side → List ℕ → Sent
ending to bytes = record { to = to; answers = None; bytes = bytes }

-- this frame of the bot is whole, and these frames are queued
abbrev answering_bot : Phase → List ℕ → List Sent → List Sent → SessionView
answering_bot phase frame to_bot to_server = record {
  state = in_phase phase L0 (initial_state usual);
  wires = both to_bot to_server;
  parts = both (sent_bytes to_bot ∷ []) (sent_bytes to_server ∷ []);
  sides = both (holds frame) (holds []);
  account = nothing_accounted;
}

-- the same for a frame of the server
abbrev answering_server : Phase → List ℕ → List Sent → List Sent → SessionView
answering_server phase frame to_bot to_server = record {
  state = in_phase phase L0 (initial_state usual);
  wires = both to_bot to_server;
  parts = both (sent_bytes to_bot ∷ []) (sent_bytes to_server ∷ []);
  sides = both (holds []) (holds frame);
  account = nothing_accounted;
}

-- the header of a message of 250 bytes, and HUH ( (
abbrev huh_begun : List ℕ
huh_begun = 0x02 ∷ 0x00 ∷ 0x00 ∷ 0xFA ∷ 0x48 ∷ 0x06 ∷ 0x40 ∷ 0x00 ∷ 0x40 ∷ 0x00 ∷ []

-- GOF ( whole, and its answer PRN ( GOF ( )
abbrev unclosed : List ℕ
unclosed = 0x02 ∷ 0x00 ∷ 0x00 ∷ 0x04 ∷ 0x48 ∷ 0x03 ∷ 0x40 ∷ 0x00 ∷ []

abbrev unclosed_prn : List ℕ
unclosed_prn = 0x02 ∷ 0x00 ∷ 0x00 ∷ 0x0A ∷ 0x48 ∷ 0x13 ∷ 0x40 ∷ 0x00 ∷ 0x48 ∷ 0x03 ∷ 0x40 ∷ 0x00 ∷ 0x40 ∷ 0x01 ∷ []

-- 8 of the 12 bytes of a variant's map, of which two look like BRA
abbrev map_begun : List ℕ
map_begun = 0x01 ∷ 0x00 ∷ 0x00 ∷ 0x0C ∷ 0x41 ∷ 0x00 ∷ 0x40 ∷ 0x00 ∷ 0x41 ∷ 0x55 ∷ 0x53 ∷ 0x00 ∷ []

-- ---- the bound of the weight: the announced length, 8 for each open bracket, and 16, for each side; and 64

-- nothing is held: 16 + 16 + 64
bound_of_nothing : weight_bound (holding_both usual [] []) ≡ 96
unfolding weight_bound announced head_in parse_head
bound_of_nothing = refl

-- 250 bytes announced, two open brackets: 250 + 8 * 2 + 16, and 16 for the other side, and 64
bound_of_a_huh : (weight_bound (holding_both usual huh_begun []) ≡ 362)
    × (weight_bound (holding_both usual [] huh_begun) ≡ 362)
unfolding weight_bound announced head_in parse_head
bound_of_a_huh = (refl, refl)

-- for both sides: 282 + 282 + 64
bound_of_two : weight_bound (holding_both usual huh_begun huh_begun) ≡ 628
unfolding weight_bound announced head_in parse_head
bound_of_two = refl

-- an incomplete header announces nothing; a whole one counts before any of its body arrived: 250 + 16 + 16 + 64
bound_at_the_header : (weight_bound (holding_both usual (0x02 ∷ 0x00 ∷ 0x00 ∷ []) []) ≡ 96)
    × (weight_bound (holding_both usual (0x02 ∷ 0x00 ∷ 0x00 ∷ 0xFA ∷ []) []) ≡ 346)
    × (weight_bound (holding_both usual [] (0x02 ∷ 0x00 ∷ 0x00 ∷ [])) ≡ 96)
    × (weight_bound (holding_both usual [] (0x02 ∷ 0x00 ∷ 0x00 ∷ 0xFA ∷ [])) ≡ 346)
unfolding weight_bound announced head_in parse_head
bound_at_the_header = (refl, refl, refl, refl)

-- half a bracket is no bracket: HUH ( and the first byte of the second: 250 + 8 + 16 + 16 + 64
bound_within_a_token :
    (weight_bound (holding_both usual (0x02 ∷ 0x00 ∷ 0x00 ∷ 0xFA ∷ 0x48 ∷ 0x06 ∷ 0x40 ∷ 0x00 ∷ 0x40 ∷ []) []) ≡ 354)
    × (weight_bound (holding_both usual [] (0x02 ∷ 0x00 ∷ 0x00 ∷ 0xFA ∷ 0x48 ∷ 0x06 ∷ 0x40 ∷ 0x00 ∷ 0x40 ∷ [])) ≡ 354)
unfolding weight_bound announced head_in parse_head
bound_within_a_token = (refl, refl)

-- a length equal to the operator's cap counts; one above it is a fault and no header: 512 + 16 + 16 + 64, and 16 + 16 +
-- 64
bound_at_the_cap : (weight_bound (holding_both small (0x02 ∷ 0x00 ∷ 0x02 ∷ 0x00 ∷ []) []) ≡ 608)
    × (weight_bound (holding_both small (0x02 ∷ 0x00 ∷ 0x02 ∷ 0x02 ∷ []) []) ≡ 96)
    × (weight_bound (holding_both small [] (0x02 ∷ 0x00 ∷ 0x02 ∷ 0x00 ∷ [])) ≡ 608)
    × (weight_bound (holding_both small [] (0x02 ∷ 0x00 ∷ 0x02 ∷ 0x02 ∷ [])) ≡ 96)
unfolding weight_bound announced head_in parse_head
bound_at_the_cap = (refl, refl, refl, refl)

-- a message that begins with PRN has no open bracket, and neither has one with a KET too many: PRN ( ( of 10 bytes and
-- GOF ) ( of 6, so 10 + 16 + 16 + 64 and 6 + 16 + 16 + 64
bound_without_brackets :
    (weight_bound (holding_both usual (0x02 ∷ 0x00 ∷ 0x00 ∷ 0x0A ∷ 0x48 ∷ 0x13 ∷ 0x40 ∷ 0x00 ∷ 0x40 ∷ 0x00 ∷ []) [])
    ≡ 106)
    × (weight_bound (holding_both usual [] (0x02 ∷ 0x00 ∷ 0x00 ∷ 0x06 ∷ 0x48 ∷ 0x03 ∷ 0x40 ∷ 0x01 ∷ 0x40 ∷ 0x00 ∷ []))
    ≡ 102)
unfolding weight_bound announced head_in parse_head
bound_without_brackets = (refl, refl)

-- no other frame has tokens: a map of 12 bytes, whose bytes 40 00 are no bracket: 12 + 16, and 16, and 64; together
-- with the HUH 282 + 28 + 64
bound_of_a_map : (weight_bound (holding_both usual [] map_begun) ≡ 108)
    × (weight_bound (holding_both usual huh_begun map_begun) ≡ 374)
unfolding weight_bound announced head_in parse_head
bound_of_a_map = (refl, refl)

-- while the answer is queued, its message is still held: 4 + 8 + 16, and 16, and 64
bound_of_an_answer : (weight_bound (answering_bot Open unclosed (answer Bot Bot unclosed_prn ∷ []) []) ≡ 108)
    × (weight_bound (answering_server Open unclosed [] (answer Server Server unclosed_prn ∷ [])) ≡ 108)
unfolding weight_bound announced head_in parse_head
bound_of_an_answer = (refl, refl)

-- a side that holds the HUH has at most 8 * 2 + 16 entries; four bytes of a body of two are too many
kept_of_a_huh : (n : ℕ) →
    IsKeptSmall 65526 (record { frame_bytes = huh_begun; entries = n; total = 9; total_before = 5; looked_at = 7 }) → n ≤ 32
unfolding announced head_in parse_head
kept_of_a_huh n kept = kept.entries

kept_of_two_bytes : IsKeptSmall 65526 (holds (0x02 ∷ 0x00 ∷ 0x00 ∷ 0x02 ∷ 0x48 ∷ 0x03 ∷ 0x40 ∷ 0x00 ∷ [])) → ⊥
unfolding announced head_in parse_head
kept_of_two_bytes kept = let few : 4 ≤ 2 = kept.bytes in absurd (omega arith)

-- ---- the weight: body bytes, entries and frames

-- six bytes of a body and four entries, and four of the empty stack on the other side; header bytes do not count
weight_of_a_huh : (weight_of (holding_both usual huh_begun []) ≡ 14)
    × (weight_of (holding_both usual [] huh_begun) ≡ 14)
    × (weight_of (holding_both usual (0x02 ∷ 0x00 ∷ 0x00 ∷ 0xFA ∷ []) (0x02 ∷ 0x00 ∷ 0x00 ∷ [])) ≡ 8)
unfolding weight_of
weight_of_a_huh = (refl, refl, refl)

-- four bytes of a body, twice four entries, and three frames
weight_of_frames : (weight_of (answering_bot Over unclosed (answer Bot Bot unclosed_prn ∷ ending Bot fm_bytes ∷ [])
    (ending Server fm_bytes ∷ [])) ≡ 15)
    × (weight_of (answering_server Over unclosed (ending Bot fm_bytes ∷ [])
    (answer Server Server unclosed_prn ∷ ending Server fm_bytes ∷ [])) ≡ 15)
unfolding weight_of
weight_of_frames = (refl, refl)

-- ---- the look-ups: four for each token, and four if the message is whole

-- three tokens, and two with the end; half a token is none, and another frame has none
steps_of_messages : (steps_bound (holding_both usual huh_begun []) Bot ≡ 12)
    × (steps_bound (holding_both usual huh_begun []) Server ≡ 0)
    × (steps_bound (holding_both usual [] huh_begun) Server ≡ 12)
    × (steps_bound (holding_both usual [] huh_begun) Bot ≡ 0)
    × (steps_bound (holding_both usual [] map_begun) Server ≡ 0)
    × (steps_bound (holding_both usual (0x02 ∷ 0x00 ∷ 0x00 ∷ 0x04 ∷ 0x48 ∷ 0x03 ∷ 0x40 ∷ []) []) Bot ≡ 4)
    × (steps_bound (answering_bot Open unclosed (answer Bot Bot unclosed_prn ∷ []) []) Bot ≡ 12)
    × (steps_bound (answering_server Open unclosed [] (answer Server Server unclosed_prn ∷ [])) Server ≡ 12)
unfolding head_in parse_head
steps_of_messages = (refl, refl, refl, refl, refl, refl, refl, refl)

-- a piece of five bytes completes or begins at most three tokens: 4 * 3, and 4
asked_of_pieces : (asked_at_most (0x06 ∷ 0x40 ∷ 0x00 ∷ 0x40 ∷ 0x00 ∷ []) ≡ 16) × (asked_at_most (0x06 ∷ []) ≡ 8)
asked_of_pieces = (refl, refl)

looked_at_of_pieces : (looked_at_most (0x06 ∷ 0x40 ∷ 0x00 ∷ 0x40 ∷ 0x00 ∷ []) ≡ 3) × (looked_at_most (0x06 ∷ []) ≡ 1)
looked_at_of_pieces = (refl, refl)

-- ---- the room

-- the missing bytes of the header, and then of the body; 250 - 6 in the HUH, 12 - 8 in the map
room_for_bytes : (room_of (holding_both usual [] huh_begun) Bot ≡ 4)
    × (room_of (holding_both usual [] huh_begun) Server ≡ 244)
    × (room_of (holding_both usual huh_begun map_begun) Bot ≡ 244)
    × (room_of (holding_both usual huh_begun map_begun) Server ≡ 4)
    × (room_of (holding_both usual (0x02 ∷ 0x00 ∷ 0x00 ∷ []) (0x02 ∷ 0x00 ∷ 0x00 ∷ 0xFA ∷ [])) Bot ≡ 1)
    × (room_of (holding_both usual (0x02 ∷ 0x00 ∷ 0x00 ∷ []) (0x02 ∷ 0x00 ∷ 0x00 ∷ 0xFA ∷ [])) Server ≡ 250)
unfolding room_of missing head_in parse_head is_alien
room_for_bytes = (refl, refl, refl, refl, refl, refl)

-- none for the side whose answer is queued, on either wire, and none once the session is over; the other side has room
room_while_answering : (room_of (answering_bot Open unclosed (answer Bot Bot unclosed_prn ∷ []) []) Bot ≡ 0)
    × (room_of (answering_bot Open unclosed (answer Bot Bot unclosed_prn ∷ []) []) Server ≡ 4)
    × (room_of (answering_bot Open unclosed [] (answer Server Bot unclosed ∷ [])) Bot ≡ 0)
    × (room_of (answering_bot Open unclosed [] (answer Server Bot unclosed ∷ [])) Server ≡ 4)
    × (room_of (answering_server Open unclosed [] (answer Server Server unclosed_prn ∷ [])) Server ≡ 0)
    × (room_of (answering_server Open unclosed [] (answer Server Server unclosed_prn ∷ [])) Bot ≡ 4)
    × (room_of (answering_server Open unclosed (answer Bot Server unclosed ∷ []) []) Server ≡ 0)
    × (room_of (answering_server Open unclosed (answer Bot Server unclosed ∷ []) []) Bot ≡ 4)
    × (room_of (answering_bot Over [] [] []) Bot ≡ 0) × (room_of (answering_bot Over [] [] []) Server ≡ 0)
unfolding room_of missing head_in parse_head
room_while_answering = (refl, refl, refl, refl, refl, refl, refl, refl, refl, refl)

abbrev ended : SessionView
ended = answering_bot Over [] (ending Bot fm_bytes ∷ []) (ending Server fm_bytes ∷ [])

-- the session's own FM or EM is no answer, so it keeps no side waiting
endings_answer_none : (is_awaited (queued ended) Bot ≡ false) × (is_awaited (queued ended) Server ≡ false)
endings_answer_none = (refl, refl)

-- closed once it is over and both queues are empty
closed_when_all_is_out : (is_closed (answering_bot Over [] [] []) ≡ true)
    × (is_closed (answering_bot Open [] [] []) ≡ false)
    × (is_closed (answering_bot Over [] (ending Bot fm_bytes ∷ []) []) ≡ false)
    × (is_closed (answering_bot Over [] [] (ending Server fm_bytes ∷ [])) ≡ false)
closed_when_all_is_out = (refl, refl, refl, refl)

-- ---- what is held after bytes

-- a piece is taken to the end of the header, or of the body, and no further
pieces_grow : (grown (holding_both usual (0x02 ∷ 0x00 ∷ []) []) Bot (0x00 ∷ 0x02 ∷ 0x48 ∷ 0x0F ∷ [])
    ≡ 0x02 ∷ 0x00 ∷ 0x00 ∷ 0x02 ∷ [])
    × (grown (holding_both usual (0x02 ∷ 0x00 ∷ 0x00 ∷ 0x02 ∷ []) []) Bot (0x48 ∷ 0x0F ∷ 0x02 ∷ [])
    ≡ 0x02 ∷ 0x00 ∷ 0x00 ∷ 0x02 ∷ 0x48 ∷ 0x0F ∷ [])
    × (grown (holding_both usual [] (0x02 ∷ 0x00 ∷ 0x00 ∷ 0x02 ∷ [])) Server (0x48 ∷ [])
    ≡ 0x02 ∷ 0x00 ∷ 0x00 ∷ 0x02 ∷ 0x48 ∷ [])
    × (grown (holding_both usual [] (0x02 ∷ 0x00 ∷ 0x00 ∷ 0x04 ∷ 0x58 ∷ [])) Server (0x00 ∷ 0x48 ∷ 0x0F ∷ [])
    ≡ 0x02 ∷ 0x00 ∷ 0x00 ∷ 0x04 ∷ 0x58 ∷ 0x00 ∷ [])
unfolding last_items first_items parse_head is_alien
pieces_grow = (refl, refl, refl, refl)

-- a frame is kept for its answer; only a dropped one is not
kept_or_dropped : (head : Head) (place : ℕ) → (frame_bytes_after Notes.Nothing unclosed ≡ unclosed)
    × (frame_bytes_after (Notes.Frame head Deeds.Relayed) unclosed ≡ unclosed)
    × (frame_bytes_after (Notes.Frame head Deeds.Prn) unclosed ≡ unclosed)
    × (frame_bytes_after (Notes.Frame head (Deeds.Huh place)) unclosed ≡ unclosed)
    × (frame_bytes_after (Notes.Frame head Deeds.Dropped) unclosed ≡ [])
    × (frame_bytes_after (Notes.Fault WrongLength) unclosed ≡ unclosed)
kept_or_dropped head place = (refl, refl, refl, refl, refl, refl)

abbrev dm : Head
dm = record { kind = Dm; len = 4 }

abbrev fm : Head
fm = record { kind = Fm; len = 0 }

-- the count before a message is the total at its header, 9; at another frame's header, and as its bytes arrive, it
-- stays 5
counts_at_a_header : (counts_from None (Some dm) (holds []) ≡ 9) × (counts_from None (Some fm) (holds []) ≡ 5)
    × (counts_from None None (holds []) ≡ 5) × (counts_from (Some dm) (Some dm) (holds unclosed) ≡ 5)
counts_at_a_header = (refl, refl, refl, refl)

-- ---- the bytes that a wire takes

-- nine of fourteen bytes, and then five, after which the next frame is first
taken_in_parts : (without 9 (answer Bot Bot unclosed_prn ∷ ending Bot fm_bytes ∷ [])
    ≡ answer Bot Bot (0x03 ∷ 0x40 ∷ 0x00 ∷ 0x40 ∷ 0x01 ∷ []) ∷ ending Bot fm_bytes ∷ [])
    × (without 5 (answer Bot Bot (0x03 ∷ 0x40 ∷ 0x00 ∷ 0x40 ∷ 0x01 ∷ []) ∷ ending Bot fm_bytes ∷ [])
    ≡ ending Bot fm_bytes ∷ [])
    × (first_len (answer Bot Bot unclosed_prn ∷ ending Bot fm_bytes ∷ []) ≡ 14) × (first_len [] ≡ 0)
taken_in_parts = (refl, refl, refl, refl)
