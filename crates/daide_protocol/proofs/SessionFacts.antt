-- Sessions worked out from the protocol, event by event, for bytes from either side, with the grammar's verdicts. A
-- rule that holds for only one side, or for another level or depth, does not check.
use Rattle.daide_protocol.proofs.Common.{◌≡◌, ℕ, ◌*◌, List, [], ◌∷◌, ◌++◌, length, take, drop, Some, None, refl}
use Rattle.daide_protocol.proofs.Common.{class_of, bytes_of_tokens, Side, Bot, Server, Dm, Fm, Em, WrongLength}
use Rattle.daide_protocol.proofs.Common.{InvalidToken, head_bytes, parse_head, is_alien, first_items, last_items, im_of}
use Rattle.daide_protocol.proofs.Common.{Level, L0, L10, L30, L60, entries, may_end_of, table_answer, Phase, Event}
use Rattle.daide_protocol.proofs.Common.{Comes, Ends, Loses, ImTimerExpired, OperatorStops, bytes_come, answer_bytes}
use Rattle.daide_protocol.proofs.Common.{Limits, SessionState, Effect, Successor, Runs, initial_state, level_in}
use Rattle.daide_protocol.proofs.Common.{plain_phase, with_coming, question, sent_to, sent_bytes, note_of}
use Rattle.daide_frame.specs.declared.code.Code.TheVariants.{UnknownMessage}
use Rattle.daide_protocol.specs.declared.phase.Phase.TheVariants.{WaitIm, WaitRm, Open, Over}
use Rattle.daide_protocol.specs.declared.note.Deed.TheVariants as Deeds
use Rattle.daide_protocol.specs.declared.note.Note.TheVariants as Notes
use Rattle.daide_protocol.proofs.SomeRun.{in_phase, outcome_of, run_of}

-- ---- the tokens that are used

abbrev BRA : ℕ
BRA = 0x4000

abbrev KET : ℕ
KET = 0x4001

abbrev ENG : ℕ
ENG = 0x4101

abbrev FRA : ℕ
FRA = 0x4102

abbrev HLO : ℕ
HLO = 0x4804

abbrev HUH : ℕ
HUH = 0x4806

abbrev PRN : ℕ
PRN = 0x4813

abbrev ERR : ℕ
ERR = 0x4902

abbrev LVL : ℕ
LVL = 0x4903

abbrev UNO : ℕ
UNO = 0x490B

-- the frame of a message
abbrev pub message : List ℕ → List ℕ
message tokens = 0x02 ∷ 0x00 ∷ 0x00 ∷ 2 * length tokens ∷ bytes_of_tokens tokens

abbrev pub fm : List ℕ
fm = 0x03 ∷ 0x00 ∷ 0x00 ∷ 0x00 ∷ []

abbrev em : ℕ → List ℕ
em code = 0x04 ∷ 0x00 ∷ 0x00 ∷ 0x02 ∷ 0x00 ∷ code ∷ []

-- the operator's limits: the defaults, and a body of 512 with a depth of 4
abbrev pub usual : Limits
usual = record { cap = 65526; top_level = L60; max_depth = 62; words = [] }

abbrev narrow : Limits
narrow = record { cap = 512; top_level = L60; max_depth = 4; words = [] }

-- a session in a phase at a level, with nothing held
abbrev pub standing : Limits → Phase → Level → SessionState
standing limits phase level = in_phase phase level (initial_state limits)

abbrev pub open_at_0 : SessionState
open_at_0 = standing usual Open L0

abbrev open_at_30 : SessionState
open_at_30 = standing usual Open L30

abbrev first : SessionState
first = standing usual WaitIm L0

abbrev narrow_first : SessionState
narrow_first = standing narrow WaitIm L0

abbrev narrow_at_30 : SessionState
narrow_at_30 = standing narrow Open L30

abbrev narrow_at_0 : SessionState
narrow_at_0 = standing narrow Open L0

-- At these events these bytes are sent to the bot and to the server, and the session is then in this phase and level.
pub record Plays (old : SessionState) (events : List Event) (to_bot to_server : List ℕ) (phase : Phase) (level : Level) :
    Type 0 where
  pub effects : List Effect
  pub new : SessionState
  pub run : Runs old events effects new
  pub bot : sent_bytes (sent_to Bot effects) ≡ to_bot
  pub server : sent_bytes (sent_to Server effects) ≡ to_server
  pub its_phase : plain_phase new.phase ≡ phase
  pub its_level : level_in new.phase ≡ level

-- the same for the bytes from a side
abbrev Hears : SessionState → Side → List ℕ → List ℕ → List ℕ → Phase → Level → Type 0
Hears old side bytes to_bot to_server phase level = Plays old (bytes_come side bytes) to_bot to_server phase level

-- each is computed, for a session without an operator's words
computed : {old : SessionState} {events : List Event} {to_bot to_server : List ℕ} {phase : Phase} {level : Level} →
    old.limits.words ≡ [] → sent_bytes (sent_to Bot (outcome_of old events).effects) ≡ to_bot →
    sent_bytes (sent_to Server (outcome_of old events).effects) ≡ to_server →
    plain_phase (outcome_of old events).state.phase ≡ phase → level_in (outcome_of old events).state.phase ≡ level →
    Plays old events to_bot to_server phase level
computed {old = old} {events = events} none bot server its_phase its_level = record {
  effects = (outcome_of old events).effects;
  new = (outcome_of old events).state;
  run = run_of old events none;
  bot = bot;
  server = server;
  its_phase = its_phase;
  its_level = its_level;
}

-- ---- the faults of a frame's bytes, from either side, in their order

-- an IM in the other byte order, a wrong length, a type above 4, a length above the cap, and then an untimely header;
-- the other side gets an FM, but not the server before the IM
header_faults_of_the_bot :
    Hears narrow_first Bot (0x00 ∷ 0x00 ∷ 0x04 ∷ 0x00 ∷ []) (em 0x03) [] Over L0
    × Hears narrow_first Bot (0x00 ∷ 0x00 ∷ 0x00 ∷ 0x06 ∷ []) (em 0x09) [] Over L0
    × Hears narrow_first Bot (0x05 ∷ 0x00 ∷ 0x00 ∷ 0x00 ∷ []) (em 0x08) [] Over L0
    × Hears narrow_first Bot (0x02 ∷ 0x00 ∷ 0x00 ∷ 0x02 ∷ []) (em 0x02) [] Over L0
    × Hears narrow_at_30 Bot (0x00 ∷ 0x00 ∷ 0x04 ∷ 0x00 ∷ []) (em 0x03) fm Over L0
    × Hears narrow_at_30 Bot (0x00 ∷ 0x00 ∷ 0x00 ∷ 0x04 ∷ []) (em 0x06) fm Over L0
    × Hears narrow_at_30 Bot (0x02 ∷ 0x00 ∷ 0x00 ∷ 0x03 ∷ []) (em 0x09) fm Over L0
    × Hears narrow_at_30 Bot (0x02 ∷ 0x00 ∷ 0x02 ∷ 0x02 ∷ []) (em 0x08) fm Over L0
unfolding last_items first_items parse_head is_alien
header_faults_of_the_bot = (
  computed refl refl refl refl refl,
  computed refl refl refl refl refl,
  computed refl refl refl refl refl,
  computed refl refl refl refl refl,
  computed refl refl refl refl refl,
  computed refl refl refl refl refl,
  computed refl refl refl refl refl,
  computed refl refl refl refl refl,
)

header_faults_of_the_server :
    Hears narrow_first Server (0x00 ∷ 0x00 ∷ 0x04 ∷ 0x00 ∷ []) fm (em 0x03) Over L0
    × Hears narrow_first Server (0x00 ∷ 0x00 ∷ 0x00 ∷ 0x06 ∷ []) fm (em 0x09) Over L0
    × Hears narrow_first Server (0x05 ∷ 0x00 ∷ 0x00 ∷ 0x00 ∷ []) fm (em 0x08) Over L0
    × Hears narrow_first Server (0x00 ∷ 0x00 ∷ 0x00 ∷ 0x04 ∷ []) fm (em 0x07) Over L0
    × Hears narrow_at_30 Server (0x00 ∷ 0x00 ∷ 0x04 ∷ 0x00 ∷ []) fm (em 0x03) Over L0
    × Hears narrow_at_30 Server (0x01 ∷ 0x00 ∷ 0x00 ∷ 0x00 ∷ []) fm (em 0x0C) Over L0
    × Hears narrow_at_30 Server (0x02 ∷ 0x00 ∷ 0x00 ∷ 0x03 ∷ []) fm (em 0x09) Over L0
    × Hears narrow_at_30 Server (0x02 ∷ 0x00 ∷ 0x02 ∷ 0x02 ∷ []) fm (em 0x08) Over L0
unfolding last_items first_items parse_head is_alien
header_faults_of_the_server = (
  computed refl refl refl refl refl,
  computed refl refl refl refl refl,
  computed refl refl refl refl refl,
  computed refl refl refl refl refl,
  computed refl refl refl refl refl,
  computed refl refl refl refl refl,
  computed refl refl refl refl refl,
  computed refl refl refl refl refl,
)

-- the fault of an alien token is at its second byte, whatever of the body is missing; two of them are one fault
alien_tokens :
    Hears open_at_0 Bot (0x02 ∷ 0x00 ∷ 0x00 ∷ 0x06 ∷ 0x48 ∷ 0x03 ∷ 0x58 ∷ []) [] [] Open L0
    × Hears open_at_0 Bot (0x02 ∷ 0x00 ∷ 0x00 ∷ 0x06 ∷ 0x48 ∷ 0x03 ∷ 0x58 ∷ 0x00 ∷ []) (em 0x0E) fm Over L0
    × Hears open_at_0 Server (0x02 ∷ 0x00 ∷ 0x00 ∷ 0x06 ∷ 0x4C ∷ []) [] [] Open L0
    × Hears open_at_0 Server (0x02 ∷ 0x00 ∷ 0x00 ∷ 0x06 ∷ 0x4C ∷ 0x00 ∷ 0x4C ∷ 0x00 ∷ []) fm (em 0x0E) Over L0
unfolding last_items first_items parse_head is_alien entries may_end_of table_answer class_of
alien_tokens = (
  computed refl refl refl refl refl,
  computed refl refl refl refl refl,
  computed refl refl refl refl refl,
  computed refl refl refl refl refl,
)

-- a whole IM: the magic number comes before the version; version 0 is another version
initial_messages :
    Hears first Bot (0x00 ∷ 0x00 ∷ 0x00 ∷ 0x04 ∷ 0x00 ∷ 0x00 ∷ 0xDA ∷ 0x10 ∷ []) (em 0x05) [] Over L0
    × Hears first Bot (0x00 ∷ 0x00 ∷ 0x00 ∷ 0x04 ∷ 0x01 ∷ 0x00 ∷ 0xDA ∷ 0x10 ∷ []) (em 0x05) [] Over L0
    × Hears first Bot (0x00 ∷ 0x00 ∷ 0x00 ∷ 0x04 ∷ 0x00 ∷ 0x00 ∷ 0x10 ∷ 0xDA ∷ []) (em 0x03) [] Over L0
    × Hears first Bot (0x00 ∷ 0x00 ∷ 0x00 ∷ 0x04 ∷ 0x00 ∷ 0x00 ∷ 0xDB ∷ 0x10 ∷ []) (em 0x04) [] Over L0
unfolding last_items first_items parse_head is_alien im_of
initial_messages = (
  computed refl refl refl refl refl,
  computed refl refl refl refl refl,
  computed refl refl refl refl refl,
  computed refl refl refl refl refl,
)

-- ---- depth: with a depth limit of 4, four brackets from either side are relayed; five get HUH before the fifth

-- HUH and four, or five, brackets
abbrev huh_of_four : List ℕ
huh_of_four = HUH ∷ BRA ∷ BRA ∷ BRA ∷ BRA ∷ KET ∷ KET ∷ KET ∷ KET ∷ []

abbrev huh_of_five : List ℕ
huh_of_five = HUH ∷ BRA ∷ BRA ∷ BRA ∷ BRA ∷ BRA ∷ KET ∷ KET ∷ KET ∷ KET ∷ KET ∷ []

abbrev answer_to_five : List ℕ
answer_to_five = HUH ∷ BRA ∷ HUH ∷ BRA ∷ BRA ∷ BRA ∷ BRA ∷ ERR ∷ BRA ∷ KET ∷ KET ∷ KET ∷ KET ∷ KET ∷ KET ∷ []

depth_of_the_bot :
    Hears narrow_at_0 Bot (message huh_of_four) [] (message huh_of_four) Open L0
    × Hears narrow_at_0 Bot (message huh_of_five) (message answer_to_five) [] Open L0
unfolding last_items first_items parse_head is_alien entries may_end_of table_answer class_of answer_bytes head_bytes
depth_of_the_bot = (
  computed refl refl refl refl refl,
  computed refl refl refl refl refl,
)

depth_of_the_server :
    Hears narrow_at_0 Server (message huh_of_four) (message huh_of_four) [] Open L0
    × Hears narrow_at_0 Server (message huh_of_five) [] (message answer_to_five) Open L0
unfolding last_items first_items parse_head is_alien entries may_end_of table_answer class_of answer_bytes head_bytes
depth_of_the_server = (
  computed refl refl refl refl refl,
  computed refl refl refl refl refl,
)

-- ---- press: from the level of an HLO on, from either side

-- HLO ( UNO ) ( 0 ) ( ( LVL 10 ) )
abbrev hlo : List ℕ
hlo = HLO ∷ BRA ∷ UNO ∷ KET ∷ BRA ∷ 0x0000 ∷ KET ∷ BRA ∷ BRA ∷ LVL ∷ 0x000A ∷ KET ∷ KET ∷ []

-- PRP ( PCE ( ENG FRA ) )
abbrev peace : List ℕ
peace = 0x4A13 ∷ BRA ∷ 0x4A10 ∷ BRA ∷ ENG ∷ FRA ∷ KET ∷ KET ∷ []

-- FRM ( FRA ) ( ENG ) ( PRP ( PCE ( ENG FRA ) ) )
abbrev frm : List ℕ
frm = 0x4802 ∷ BRA ∷ FRA ∷ KET ∷ BRA ∷ ENG ∷ KET ∷ BRA ∷ peace ++ KET ∷ []

-- SND ( FRA ) ( PRP ( PCE ( ENG FRA ) ) )
abbrev snd : List ℕ
snd = 0x4817 ∷ BRA ∷ FRA ∷ KET ∷ BRA ∷ peace ++ KET ∷ []

-- before the HLO both messages are wrong at their first token
press_before_the_hlo :
    Hears open_at_0 Server (message frm) [] (message (HUH ∷ BRA ∷ ERR ∷ frm ++ KET ∷ [])) Open L0
    × Hears open_at_0 Bot (message snd) (message (HUH ∷ BRA ∷ ERR ∷ snd ++ KET ∷ [])) [] Open L0
unfolding last_items first_items parse_head is_alien entries may_end_of table_answer class_of answer_bytes head_bytes
press_before_the_hlo = (
  computed refl refl refl refl refl,
  computed refl refl refl refl refl,
)

-- after it both are relayed
press_after_the_hlo :
    Plays open_at_0
    (bytes_come Server (message hlo) ++ bytes_come Server (message frm))
    (message hlo ++ message frm)
    [] Open L10
    × Plays open_at_0
    (bytes_come Server (message hlo) ++ bytes_come Bot (message snd))
    (message hlo)
    (message snd) Open L10
unfolding last_items first_items parse_head is_alien entries may_end_of table_answer class_of answer_bytes head_bytes
press_after_the_hlo = (
  computed refl refl refl refl refl,
  computed refl refl refl refl refl,
)

-- a message is judged by the level at its header: one whose first four bytes arrived before the HLO's last byte gets
-- HUH, after the HLO itself
judged_by_the_level_at_the_header :
    Plays open_at_0
    (bytes_come Bot (take 4 (message snd)) ++ bytes_come Server (message hlo) ++ bytes_come Bot (drop 4 (message snd)))
    (message hlo ++ message (HUH ∷ BRA ∷ ERR ∷ snd ++ KET ∷ []))
    [] Open L10
unfolding last_items first_items parse_head is_alien entries may_end_of table_answer class_of answer_bytes head_bytes
judged_by_the_level_at_the_header = computed refl refl refl refl refl

-- a server's HLO within HUH or PRN, and one that gets HUH or PRN
abbrev hlo_in_huh : List ℕ
hlo_in_huh = HUH ∷ BRA ∷ hlo ++ KET ∷ []

abbrev hlo_in_prn : List ℕ
hlo_in_prn = PRN ∷ BRA ∷ hlo ++ KET ∷ []

abbrev hlo_too_short : List ℕ
hlo_too_short = HLO ∷ BRA ∷ LVL ∷ 0x000A ∷ KET ∷ []

abbrev hlo_unclosed : List ℕ
hlo_unclosed = HLO ∷ BRA ∷ UNO ∷ KET ∷ BRA ∷ 0x0000 ∷ KET ∷ BRA ∷ BRA ∷ LVL ∷ 0x000A ∷ KET ∷ []

-- do not set the level
hlo_that_sets_nothing :
    Hears open_at_30 Server (message hlo_in_huh) (message hlo_in_huh) [] Open L30
    × Hears open_at_30 Server (message hlo_in_prn) (message hlo_in_prn) [] Open L30
    × Hears open_at_30 Server (message hlo_too_short)
    [] (message (HUH ∷ BRA ∷ HLO ∷ BRA ∷ ERR ∷ LVL ∷ 0x000A ∷ KET ∷ KET ∷ [])) Open L30
    × Hears open_at_30 Server (message hlo_unclosed) [] (message (PRN ∷ BRA ∷ hlo_unclosed ++ KET ∷ [])) Open L30
unfolding last_items first_items parse_head is_alien entries may_end_of table_answer class_of answer_bytes head_bytes
hlo_that_sets_nothing = (
  computed refl refl refl refl refl,
  computed refl refl refl refl refl,
  computed refl refl refl refl refl,
  computed refl refl refl refl refl,
)

-- and neither does a bot's: the request HLO is relayed, and the server's form is no message of the bot
hlo_of_the_bot :
    Hears open_at_30 Bot (message (HLO ∷ [])) [] (message (HLO ∷ [])) Open L30
    × Hears open_at_30 Bot (message hlo) (message (HUH ∷ BRA ∷ HLO ∷ ERR ∷ drop 1 hlo ++ KET ∷ [])) [] Open L30
unfolding last_items first_items parse_head is_alien entries may_end_of table_answer class_of answer_bytes head_bytes
hlo_of_the_bot = (
  computed refl refl refl refl refl,
  computed refl refl refl refl refl,
)

-- ---- the messages that are judged, from the server

-- the outcome of bytes from a side
abbrev after : SessionState → Side → List ℕ → Successor
after state side bytes = outcome_of state (bytes_come side bytes)

-- these bytes from the server are pending, in this phase at level 30, and its last header arrived at level 10
abbrev pending_in : Phase → List ℕ → SessionState
pending_in phase bytes = with_coming (standing narrow phase L30) Server (record { pending = bytes; noted = L10 })

asked_of_the_server : (question (pending_in Open (0x02 ∷ 0x00 ∷ 0x00 ∷ 0x02 ∷ 0x48 ∷ [])) (Comes Server 0x0E)
    ≡ Some (record { side = Server; level = L10; message = 0x480E ∷ [] }))
    × (question (pending_in Open (0x02 ∷ 0x00 ∷ 0x00 ∷ [])) (Comes Server 0x00)
    ≡ Some (record { side = Server; level = L30; message = [] }))
    × (question (pending_in Open (0x02 ∷ 0x00 ∷ 0x00 ∷ [])) (Comes Bot 0x00) ≡ None)
    × (question (pending_in Open (0x02 ∷ 0x00 ∷ 0x00 ∷ [])) (Comes Server 0x02) ≡ None)
    × (question (pending_in Open (0x04 ∷ 0x00 ∷ 0x00 ∷ 0x02 ∷ 0x00 ∷ [])) (Comes Server 0x01) ≡ None)
    × (question (pending_in WaitRm (0x02 ∷ 0x00 ∷ 0x00 ∷ [])) (Comes Server 0x00) ≡ None)
    × (question (pending_in WaitIm (0x02 ∷ 0x00 ∷ 0x00 ∷ [])) (Comes Server 0x00) ≡ None)
    × (question (pending_in Over (0x02 ∷ 0x00 ∷ 0x00 ∷ [])) (Comes Server 0x00) ≡ None)
unfolding last_items first_items parse_head is_alien
asked_of_the_server = (refl, refl, refl, refl, refl, refl, refl, refl)

-- the server's header records the level for the server, and the bot's for the bot
noted_at_the_header : ((after open_at_30 Server (0x02 ∷ 0x00 ∷ 0x00 ∷ 0x02 ∷ [])).state.sides.server.noted ≡ L30)
    × ((after open_at_30 Server (0x02 ∷ 0x00 ∷ 0x00 ∷ 0x02 ∷ [])).state.sides.bot ≡ open_at_30.sides.bot)
    × ((after open_at_30 Bot (0x02 ∷ 0x00 ∷ 0x00 ∷ 0x02 ∷ [])).state.sides.bot.noted ≡ L30)
    × ((after open_at_30 Bot (0x02 ∷ 0x00 ∷ 0x00 ∷ 0x02 ∷ [])).state.sides.server ≡ open_at_30.sides.server)
unfolding last_items first_items parse_head is_alien
noted_at_the_header = (refl, refl, refl, refl)

-- ---- the reports of the effects, for the server: OFF and others, as for the bot

reported_of_the_server : (note_of (after open_at_0 Server (message (0x4810 ∷ []))).effects
    ≡ Notes.Frame (record { kind = Dm; len = 2 }) Deeds.Relayed)
    × (note_of (after open_at_0 Server (message (0x4803 ∷ []))).effects
    ≡ Notes.Frame (record { kind = Dm; len = 2 }) (Deeds.Huh 0))
    × (note_of (after open_at_0 Server (message (BRA ∷ []))).effects
    ≡ Notes.Frame (record { kind = Dm; len = 2 }) Deeds.Prn)
    × (note_of (after open_at_0 Server fm).effects ≡ Notes.Frame (record { kind = Fm; len = 0 }) Deeds.Relayed)
    × (note_of (after first Server (em 0x07)).effects
    ≡ Notes.Frame (record { kind = Em; len = 2 }) Deeds.Relayed)
    × (note_of (after first Bot (em 0x07)).effects
    ≡ Notes.Frame (record { kind = Em; len = 2 }) Deeds.Dropped)
    × (note_of (after open_at_0 Server (0x02 ∷ 0x00 ∷ 0x00 ∷ 0x03 ∷ [])).effects ≡ Notes.Fault WrongLength)
    × (note_of (after open_at_0 Server (0x06 ∷ 0x00 ∷ 0x00 ∷ 0x00 ∷ [])).effects ≡ Notes.Fault UnknownMessage)
    × (note_of (after open_at_0 Server (0x02 ∷ 0x00 ∷ 0x00 ∷ 0x02 ∷ 0x4C ∷ 0x00 ∷ [])).effects
    ≡ Notes.Fault InvalidToken)
    × (note_of (after open_at_0 Server (0x02 ∷ 0x00 ∷ 0x00 ∷ 0x02 ∷ 0x48 ∷ [])).effects ≡ Notes.Nothing)
unfolding last_items first_items parse_head is_alien entries may_end_of table_answer class_of
reported_of_the_server = (refl, refl, refl, refl, refl, refl, refl, refl, refl, refl)

-- ---- whole sessions

abbrev pub im : List ℕ
im = 0x00 ∷ 0x00 ∷ 0x00 ∷ 0x04 ∷ 0x00 ∷ 0x01 ∷ 0xDA ∷ 0x10 ∷ []

abbrev pub rm : List ℕ
rm = 0x01 ∷ 0x00 ∷ 0x00 ∷ 0x00 ∷ []

-- IM and RM, the bot's GOF ( and its OBS with a pad, the server's OFF and FM, and then bytes from both, an end and the
-- timer, which do nothing
abbrev pub session_events : List Event
session_events =
    bytes_come Bot im ++ bytes_come Server rm ++ bytes_come Bot (message (0x4803 ∷ BRA ∷ []))
    ++ bytes_come Bot (0x02 ∷ 0xFF ∷ 0x00 ∷ 0x02 ∷ 0x48 ∷ 0x0F ∷ []) ++ bytes_come Server (message (0x4810 ∷ []) ++ fm)
    ++ bytes_come Bot fm ++ bytes_come Server rm ++ Ends Bot ∷ ImTimerExpired ∷ []

pub one_session : Plays (initial_state usual) session_events
    (rm ++ message (PRN ∷ BRA ∷ 0x4803 ∷ BRA ∷ KET ∷ []) ++ message (0x4810 ∷ []) ++ fm)
    (im ++ message (0x480F ∷ [])) Over L0
unfolding last_items first_items parse_head is_alien im_of entries may_end_of table_answer class_of answer_bytes head_bytes
one_session = computed refl refl refl refl refl

-- an end in the middle of a frame: the other side gets an FM, and nothing of the frame; also if the wire to the other
-- side failed
ends_within_a_frame :
    Plays open_at_0 (bytes_come Bot (0x02 ∷ 0x00 ∷ 0x00 ∷ 0x04 ∷ 0x48 ∷ []) ++ Ends Bot ∷ []) [] fm Over L0
    × Plays open_at_0 (bytes_come Server (0x02 ∷ 0x00 ∷ 0x00 ∷ 0x04 ∷ 0x48 ∷ []) ++ Ends Server ∷ []) fm [] Over L0
    × Plays open_at_0 (bytes_come Server (0x02 ∷ 0x00 ∷ 0x00 ∷ 0x04 ∷ 0x48 ∷ []) ++ Loses Bot ∷ []) [] fm Over L0
    × Plays open_at_0 (bytes_come Bot (0x02 ∷ 0x00 ∷ 0x00 ∷ 0x04 ∷ 0x48 ∷ []) ++ Loses Server ∷ []) fm [] Over L0
unfolding last_items first_items parse_head is_alien
ends_within_a_frame = (
  computed refl refl refl refl refl,
  computed refl refl refl refl refl,
  computed refl refl refl refl refl,
  computed refl refl refl refl refl,
)

-- the timer in the middle of the IM: the bot gets EM 01, and the rest of the IM does nothing
timer_within_the_im :
    Plays (initial_state usual) (bytes_come Bot (take 5 im) ++ ImTimerExpired ∷ bytes_come Bot (drop 5 im)) (em 0x01) [] Over L0
unfolding last_items first_items parse_head is_alien
timer_within_the_im = computed refl refl refl refl refl

-- a stop in the middle of the IM, of the bot's message and of the server's: nothing of it is sent but an FM to each side
-- that may be reached, and the rest of the bytes does nothing
stops_within_a_frame :
    Plays (initial_state usual) (bytes_come Bot (take 5 im) ++ OperatorStops ∷ bytes_come Bot (drop 5 im)) fm [] Over L0
    × Plays open_at_0 (bytes_come Bot (0x02 ∷ 0x00 ∷ 0x00 ∷ 0x02 ∷ 0x48 ∷ []) ++ OperatorStops ∷ bytes_come Bot (0x0F ∷ []))
    fm fm Over L0
    × Plays open_at_0 (bytes_come Server (0x02 ∷ 0x00 ∷ []) ++ OperatorStops ∷ Ends Bot ∷ OperatorStops ∷ []) fm fm Over L0
unfolding last_items first_items parse_head is_alien
stops_within_a_frame = (
  computed refl refl refl refl refl,
  computed refl refl refl refl refl,
  computed refl refl refl refl refl,
)
