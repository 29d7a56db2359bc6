-- The account of a session, worked out from the protocol: each kind of effect, for each side, and the level that it
-- leaves.
use Rattle.daide_protocol.proofs.Common.{◌≡◌, ℕ, ◌+◌, ◌*◌, ◌%◌, ◌^◌, List, [], ◌∷◌, length, refl, Some, None, class_of}
use Rattle.daide_protocol.proofs.Common.{bra, bytes_of_tokens, Side, Bot, Server, Head, Im, Rm, Dm, Fm, Code, head_bytes}
use Rattle.daide_protocol.proofs.Common.{parse_head, is_alien, first_items, last_items, im_of, Level, L0, L20, L30, L60}
use Rattle.daide_protocol.proofs.Common.{entries, may_end_of, table_answer, Account, Unknown, Deed, Note, Phase}
use Rattle.daide_protocol.proofs.Common.{effect_accounted, accounted, summary_of, answer_bytes, Event, Ends, Loses}
use Rattle.daide_protocol.proofs.Common.{ImTimerExpired, OperatorStops, bytes_come, SessionState, Sent, initial_state}
use Rattle.daide_protocol.specs.declared.account.SideCounts.{SideCounts}
use Rattle.daide_protocol.specs.declared.note.Deed.TheVariants as Deeds
use Rattle.daide_protocol.specs.declared.note.Note.TheVariants as Notes
use Rattle.daide_protocol.specs.declared.phase.Phase.TheVariants.{WaitIm, WaitRm, Open}
use Rattle.daide_protocol.proofs.SomeRun.{in_phase, outcome_of}

abbrev counts : ℕ → ℕ → ℕ → SideCounts
counts relayed prn huh = record { relayed = relayed; prn = prn; huh = huh }

-- the bot's counts, the server's, the faults and the level; the name and the power have facts of their own
abbrev of : SideCounts → SideCounts → ℕ → Level → Account
of bot server faults level = record {
  bot = bot;
  server = server;
  faults = faults;
  level = level;
  name = Unknown;
  power = None;
}

-- ---- one effect

-- a frame of each side that was relayed, dropped, or got PRN or HUH: all other counts stay
each_deed : (a b c d e f g place len : ℕ) (level : Level) (bytes : List ℕ) →
    let frame : Side → Side → Sent = λ to side. record { to = to; answers = Some side; bytes = bytes } in
    let after : Deed → List Sent → Account =
    λ deed sent. effect_accounted L60 (Notes.Frame (record { kind = Fm; len = len }) deed) sent
    (of (counts a b c) (counts d e f) g level) in
    (after Deeds.Relayed (frame Server Bot ∷ []) ≡ of (counts ((a + 1) % 2 ^ 64) b c) (counts d e f) g level)
    × (after Deeds.Relayed (frame Bot Server ∷ []) ≡ of (counts a b c) (counts ((d + 1) % 2 ^ 64) e f) g level)
    × (after Deeds.Prn (frame Bot Bot ∷ []) ≡ of (counts a ((b + 1) % 2 ^ 64) c) (counts d e f) g level)
    × (after Deeds.Prn (frame Server Server ∷ []) ≡ of (counts a b c) (counts d ((e + 1) % 2 ^ 64) f) g level)
    × (after (Deeds.Huh place) (frame Bot Bot ∷ []) ≡ of (counts a b ((c + 1) % 2 ^ 64)) (counts d e f) g level)
    × (after (Deeds.Huh place) (frame Server Server ∷ []) ≡ of (counts a b c) (counts d e ((f + 1) % 2 ^ 64)) g level)
    × (after Deeds.Dropped [] ≡ of (counts a b c) (counts d e f) g level)
each_deed a b c d e f g place len level bytes = (refl, refl, refl, refl, refl, refl, refl)

-- a fault counts for no side, and neither an end nor a stop is counted
no_side : (a b c d e f g : ℕ) (code : Code) (level : Level) (sent : List Sent) →
    let after : Note → Account = λ note. effect_accounted L60 note sent (of (counts a b c) (counts d e f) g level) in
    (after (Notes.Fault code) ≡ of (counts a b c) (counts d e f) ((g + 1) % 2 ^ 64) level)
    × (after Notes.Nothing ≡ of (counts a b c) (counts d e f) g level)
    × (after Notes.Stopped ≡ of (counts a b c) (counts d e f) g level)
no_side a b c d e f g code level sent = (refl, refl, refl)

-- ---- a session's effects

abbrev standing : Phase → SessionState
standing phase = in_phase phase L30 (initial_state (record { cap = 512; top_level = L60; max_depth = 4; words = [] }))

-- the account of a session in a phase, at level 30 and with these counts of 1 to 7, after these events
abbrev account_by : Phase → List Event → Account
account_by phase events =
    accounted L60 (outcome_of (standing phase) events).effects (of (counts 1 2 3) (counts 4 5 6) 7 L30)

abbrev account_at : Phase → Side → List ℕ → Account
account_at phase side bytes = account_by phase (bytes_come side bytes)

abbrev message : List ℕ → List ℕ
message tokens = 0x02 ∷ 0x00 ∷ 0x00 ∷ 2 * length tokens ∷ bytes_of_tokens tokens

abbrev fm : List ℕ
fm = 0x03 ∷ 0x00 ∷ 0x00 ∷ 0x00 ∷ []

-- the bot's OBS and the server's OFF are relayed; each gets HUH if the other side sends it; a single bracket gets PRN
messages :
    (account_at Open Bot (message (0x480F ∷ [])) ≡ of (counts 2 2 3) (counts 4 5 6) 7 L30)
    × (account_at Open Server (message (0x4810 ∷ [])) ≡ of (counts 1 2 3) (counts 5 5 6) 7 L30)
    × (account_at Open Bot (message (bra ∷ [])) ≡ of (counts 1 3 3) (counts 4 5 6) 7 L30)
    × (account_at Open Server (message (bra ∷ [])) ≡ of (counts 1 2 3) (counts 4 6 6) 7 L30)
    × (account_at Open Bot (message (0x4810 ∷ [])) ≡ of (counts 1 2 4) (counts 4 5 6) 7 L30)
    × (account_at Open Server (message (0x480F ∷ [])) ≡ of (counts 1 2 3) (counts 4 5 7) 7 L30)
unfolding last_items first_items parse_head is_alien entries may_end_of table_answer class_of answer_bytes head_bytes
messages = (refl, refl, refl, refl, refl, refl)

-- an IM of the bot, an RM of the server, and an FM of each are relayed; the bot's FM before the IM is dropped
other_frames :
    (account_at WaitIm Bot (0x00 ∷ 0x00 ∷ 0x00 ∷ 0x04 ∷ 0x00 ∷ 0x01 ∷ 0xDA ∷ 0x10 ∷ [])
    ≡ of (counts 2 2 3) (counts 4 5 6) 7 L30)
    × (account_at WaitRm Server (0x01 ∷ 0x00 ∷ 0x00 ∷ 0x00 ∷ []) ≡ of (counts 1 2 3) (counts 5 5 6) 7 L0)
    × (account_at Open Bot fm ≡ of (counts 2 2 3) (counts 4 5 6) 7 L30)
    × (account_at Open Server fm ≡ of (counts 1 2 3) (counts 5 5 6) 7 L30)
    × (account_at WaitIm Bot fm ≡ of (counts 1 2 3) (counts 4 5 6) 7 L30)
    × (account_at WaitIm Server fm ≡ of (counts 1 2 3) (counts 5 5 6) 7 L30)
unfolding last_items first_items parse_head is_alien im_of head_bytes answer_bytes
other_frames = (refl, refl, refl, refl, refl, refl)

-- a fault of each side, the timer's, an end, a lost wire and a stop
no_frames :
    (account_at Open Bot (0x02 ∷ 0x00 ∷ 0x00 ∷ 0x03 ∷ []) ≡ of (counts 1 2 3) (counts 4 5 6) 8 L30)
    × (account_at Open Server (0x02 ∷ 0x00 ∷ 0x00 ∷ 0x03 ∷ []) ≡ of (counts 1 2 3) (counts 4 5 6) 8 L30)
    × (account_by WaitIm (ImTimerExpired ∷ []) ≡ of (counts 1 2 3) (counts 4 5 6) 8 L30)
    × (account_by Open (Ends Bot ∷ []) ≡ of (counts 1 2 3) (counts 4 5 6) 7 L30)
    × (account_by Open (Loses Server ∷ []) ≡ of (counts 1 2 3) (counts 4 5 6) 7 L30)
    × (account_by Open (OperatorStops ∷ []) ≡ of (counts 1 2 3) (counts 4 5 6) 7 L30)
unfolding last_items first_items parse_head is_alien
no_frames = (refl, refl, refl, refl, refl, refl)

-- ---- the level

-- HLO ( UNO ) ( 0 ) ( ( LVL number ) )
abbrev hlo_with : ℕ → List ℕ
hlo_with number =
    0x4804 ∷ 0x4000 ∷ 0x490B ∷ 0x4001 ∷ 0x4000 ∷ 0x0000 ∷ 0x4001 ∷ 0x4000 ∷ 0x4000 ∷ 0x4903 ∷ number ∷ 0x4001 ∷ 0x4001 ∷ []

-- the level after a message with these tokens, from level 30, with this highest level
abbrev level_by : Level → Side → Deed → List ℕ → Level
level_by top side deed tokens =
    (effect_accounted top (Notes.Frame (record { kind = Dm; len = 2 * length tokens }) deed)
    (record { to = Bot; answers = Some side; bytes = message tokens } ∷ [])
    (of (counts 1 2 3) (counts 4 5 6) 7 L30)).level

-- A relayed HLO of the server sets the level, to at most the highest: not one of the bot, not one that got PRN or HUH,
-- and no other message.
level_set :
    (level_by L60 Server Deeds.Relayed (hlo_with 25) ≡ L20)
    × (level_by L20 Server Deeds.Relayed (hlo_with 60) ≡ L20)
    × (level_by L60 Server Deeds.Relayed (hlo_with 9) ≡ L0)
    × (level_by L60 Bot Deeds.Relayed (hlo_with 25) ≡ L30)
    × (level_by L60 Server Deeds.Prn (hlo_with 25) ≡ L30)
    × (level_by L60 Server (Deeds.Huh 1) (hlo_with 25) ≡ L30)
    × (level_by L60 Server Deeds.Relayed (0x4810 ∷ []) ≡ L30)
level_set = (refl, refl, refl, refl, refl, refl, refl)

-- an RM sets level 0; an IM and an FM set none
level_of_other_frames : (len : ℕ) (bytes : List ℕ) →
    let after : Side → Head → Level =
    λ side head. (effect_accounted L60 (Notes.Frame head Deeds.Relayed)
    (record { to = Bot; answers = Some side; bytes = bytes } ∷ [])
    (of (counts 1 2 3) (counts 4 5 6) 7 L30)).level in
    (after Server (record { kind = Rm; len = len }) ≡ L0) × (after Bot (record { kind = Im; len = len }) ≡ L30)
    × (after Server (record { kind = Fm; len = len }) ≡ L30)
level_of_other_frames len bytes = (refl, refl, refl)

-- ---- both sides

-- the counts of both sides are added, modulo 2^64
both : summary_of (of (counts 1 2 3) (counts 4 5 6) 7 L30) ≡ record { relayed = 5; prn = 7; huh = 9; faults = 7 }
both = refl

both_wrap : summary_of (of (counts 18446744073709551615 0 0) (counts 2 0 0) 0 L0)
    ≡ record { relayed = 1; prn = 0; huh = 0; faults = 0 }
both_wrap = refl
