-- What a bot calls itself, and the power that its server gives it, worked out from the protocol: each kind of message
-- that may have a name or a power, from each side, and the text of a name and of a power.
use Rattle.std.specs.List.{repeat}
use Rattle.std.specs.Fmt.{digits}
use Rattle.daide_protocol.proofs.Common.{◌≡◌, ℕ, ◌*◌, List, [], ◌∷◌, ◌++◌, length, map, refl, Option, Some, None}
use Rattle.daide_protocol.proofs.Common.{codes, class_of, hlo}
use Rattle.daide_protocol.proofs.Common.{text_with, bra, bytes_of_tokens, ket, Side, Bot, Server, Im, Rm, Dm, Fm, Em}
use Rattle.daide_protocol.proofs.Common.{head_bytes, parse_head, is_alien, first_items, last_items, L0, L60, entries}
use Rattle.daide_protocol.proofs.Common.{may_end_of, table_answer, Account, BotName, Unknown, Nme, Iam, accounted}
use Rattle.daide_protocol.proofs.Common.{nothing_accounted, answer_bytes, token_of_character, characters, iam, kept}
use Rattle.daide_protocol.proofs.Common.{name_after, name_text, nme, bytes_come, SessionState, initial_state}
use Rattle.daide_token.specs.Names.{name_of, names, token_named}
use Rattle.daide_protocol.specs.declared.note.Deed.TheVariants.{Relayed, Dropped, Prn, Huh}
use Rattle.daide_protocol.specs.declared.phase.Phase.TheVariants.{Open}
use Rattle.daide_protocol.specs.AccountText.{account_text, name_part, power_part, rest_text, side_text}
use Rattle.daide_protocol.specs.Power.{of_token, power_after, yes}
use Rattle.daide_protocol.specs.declared.power.Power.{Power}
use Rattle.daide_protocol.proofs.SomeRun.{in_phase, outcome_of}

-- NME and IAM by their names in the token table
commands : (token_named (codes "NME") ≡ Some nme) × (token_named (codes "IAM") ≡ Some iam)
unfolding token_named names
commands = (refl, refl)

-- ---- messages

abbrev eng : ℕ
eng = 0x4101

abbrev text : List ℕ → List ℕ
text letters = bra ∷ map token_of_character letters ++ ket ∷ []

-- NME ( name ) ( version )
abbrev nme_of : List ℕ → List ℕ → List ℕ
nme_of name version = nme ∷ text name ++ text version

-- IAM ( ENG ) ( 1234 )
abbrev iam_eng : List ℕ
iam_eng = iam ∷ bra ∷ eng ∷ ket ∷ bra ∷ 1234 ∷ ket ∷ []

abbrev dm : List ℕ → List ℕ
dm tokens = 0x02 ∷ 0x00 ∷ 0x00 ∷ 2 * length tokens ∷ bytes_of_tokens tokens

abbrev open_session : SessionState
open_session = in_phase Open L0 (initial_state (record { cap = 512; top_level = L60; max_depth = 4; words = [] }))

-- the name of a bot in an open session, after these bytes from a side
abbrev name_by : Side → List ℕ → BotName
name_by side bytes =
    (accounted L60 (outcome_of open_session (bytes_come side bytes)).effects nothing_accounted).name

-- The bot's NME and IAM have a name. One that got HUH or PRN has none, and the server may send neither: both get HUH.
sides :
    (name_by Bot (dm (nme_of (codes "Al") (codes "v1"))) ≡ Nme (kept (codes "Al")))
    × (name_by Bot (dm iam_eng) ≡ Iam eng)
    × (name_by Bot (dm (nme ∷ text (codes "Al"))) ≡ Unknown)
    × (name_by Bot (dm (nme ∷ bra ∷ [])) ≡ Unknown)
    × (name_by Server (dm (nme_of (codes "Al") (codes "v1"))) ≡ Unknown)
    × (name_by Server (dm iam_eng) ≡ Unknown)
unfolding last_items first_items parse_head is_alien entries may_end_of table_answer class_of answer_bytes head_bytes
sides = (refl, refl, refl, refl, refl, refl)

-- of several the last one that was relayed counts
last_counts :
    (name_by Bot (dm (nme_of (codes "Al") []) ++ dm (nme_of (codes "Bo") [])) ≡ Nme (kept (codes "Bo")))
    × (name_by Bot (dm (nme_of (codes "Al") []) ++ dm iam_eng) ≡ Iam eng)
    × (name_by Bot (dm (nme_of (codes "Al") []) ++ dm (nme ∷ text (codes "Bo"))) ≡ Nme (kept (codes "Al")))
    × (name_by Bot (dm (nme_of (codes "Al") []) ++ dm (0x480F ∷ [])) ≡ Nme (kept (codes "Al")))
unfolding last_items first_items parse_head is_alien entries may_end_of table_answer class_of answer_bytes head_bytes
last_counts = (refl, refl, refl, refl)

-- only a relayed message of the bot changes the name
other_frames : (name : BotName) (place : ℕ) →
    let tokens = nme_of (codes "Al") [] in
    (name_after Dm Bot Relayed tokens name ≡ Nme (kept (codes "Al")))
    × (name_after Dm Server Relayed tokens name ≡ name) × (name_after Dm Bot Prn tokens name ≡ name)
    × (name_after Dm Bot (Huh place) tokens name ≡ name) × (name_after Dm Bot Dropped tokens name ≡ name)
    × (name_after Im Bot Relayed tokens name ≡ name) × (name_after Rm Bot Relayed tokens name ≡ name)
    × (name_after Fm Bot Relayed tokens name ≡ name) × (name_after Em Bot Relayed tokens name ≡ name)
    × (name_after Dm Bot Relayed [] name ≡ name)
other_frames name place = (refl, refl, refl, refl, refl, refl, refl, refl, refl, refl)

-- ---- the power

abbrev aus : ℕ
aus = 0x4100

-- UNO, which an observer's HLO has in place of a power
abbrev uno : ℕ
uno = 0x490B

-- YES, REJ and HLO by their names in the token table
answers_of_server : (token_named (codes "YES") ≡ Some yes) × (token_named (codes "REJ") ≡ Some 0x4814)
    × (token_named (codes "HLO") ≡ Some hlo) × (token_named (codes "UNO") ≡ Some uno)
unfolding token_named names
answers_of_server = (refl, refl, refl, refl)

-- HLO ( who ) ( 1234 ) ( ( LVL 20 ) )
abbrev hlo_of : ℕ → List ℕ
hlo_of who =
    hlo ∷ bra ∷ who ∷ ket ∷ bra ∷ 1234 ∷ ket ∷ bra ∷ bra ∷ 0x4903 ∷ 20 ∷ ket ∷ ket ∷ []

-- IAM ( power ) ( 12 )
abbrev iam_of : ℕ → List ℕ
iam_of power = iam ∷ bra ∷ power ∷ ket ∷ bra ∷ 12 ∷ ket ∷ []

-- an answer of the server: this command, and a request in brackets
abbrev answer_of : ℕ → List ℕ → List ℕ
answer_of command request = command ∷ bra ∷ request ++ ket ∷ []

-- the power of a bot in an open session, after these bytes from a side
abbrev power_by : Side → List ℕ → Option Power
power_by side bytes =
    (accounted L60 (outcome_of open_session (bytes_come side bytes)).effects nothing_accounted).power

-- The server's HLO has the power, listed or not, and with the fewest options; an observer's has UNO. So has its YES to an
-- IAM, and no other answer.
said_by_server :
    (power_by Server (dm (hlo_of eng)) ≡ Some (of_token eng))
    × (power_by Server (dm (hlo_of 0x4107)) ≡ Some (of_token 0x4107))
    × (power_by Server (dm (hlo_of uno)) ≡ Some (of_token uno))
    × (power_by Server (dm (hlo ∷ bra ∷ eng ∷ ket ∷ bra ∷ 0 ∷ ket ∷ bra ∷ ket ∷ [])) ≡ Some (of_token eng))
    × (power_by Server (dm (answer_of yes (iam_of aus))) ≡ Some (of_token aus))
    × (power_by Server (dm (answer_of yes (0x480F ∷ []))) ≡ None)
    × (power_by Server (dm (answer_of yes (nme_of (codes "Al") []))) ≡ None)
    × (power_by Server (dm (answer_of 0x4814 (iam_of aus))) ≡ None)
    × (power_by Server (dm (0x4810 ∷ [])) ≡ None)
unfolding last_items first_items parse_head is_alien entries may_end_of table_answer class_of answer_bytes head_bytes
said_by_server = (refl, refl, refl, refl, refl, refl, refl, refl, refl)

-- An HLO without its list of options, one that is a token too long, and one with open brackets have none: they get HUH and PRN. Nor
-- has an HLO, an IAM or a YES of the bot.
not_said :
    (power_by Server (dm (hlo ∷ bra ∷ eng ∷ ket ∷ bra ∷ 1234 ∷ ket ∷ [])) ≡ None)
    × (power_by Server (dm (hlo_of eng ++ 0x4803 ∷ [])) ≡ None)
    × (power_by Server (dm (hlo ∷ bra ∷ eng ∷ [])) ≡ None)
    × (power_by Server (dm (hlo ∷ [])) ≡ None)
    × (power_by Server (dm (answer_of yes (iam ∷ bra ∷ aus ∷ ket ∷ []))) ≡ None)
    × (power_by Bot (dm (hlo_of eng)) ≡ None)
    × (power_by Bot (dm (hlo ∷ [])) ≡ None)
    × (power_by Bot (dm (iam_of aus)) ≡ None)
    × (power_by Bot (dm (answer_of yes (iam_of aus))) ≡ None)
unfolding last_items first_items parse_head is_alien entries may_end_of table_answer class_of answer_bytes head_bytes
not_said = (refl, refl, refl, refl, refl, refl, refl, refl, refl)

-- of several the last one that was relayed counts
last_power_counts :
    (power_by Server (dm (hlo_of eng) ++ dm (hlo_of aus)) ≡ Some (of_token aus))
    × (power_by Server (dm (hlo_of eng) ++ dm (answer_of yes (iam_of aus))) ≡ Some (of_token aus))
    × (power_by Server (dm (answer_of yes (iam_of aus)) ++ dm (hlo_of uno)) ≡ Some (of_token uno))
    × (power_by Server (dm (hlo_of eng) ++ dm (hlo_of aus ++ 0x4803 ∷ [])) ≡ Some (of_token eng))
    × (power_by Server (dm (hlo_of eng) ++ dm (answer_of 0x4814 (iam_of aus))) ≡ Some (of_token eng))
unfolding last_items first_items parse_head is_alien entries may_end_of table_answer class_of answer_bytes head_bytes
last_power_counts = (refl, refl, refl, refl, refl)

-- only a relayed message of the server changes the power
other_frames_keep_power : (power : Option Power) (place : ℕ) →
    let tokens = hlo_of eng in
    (power_after Dm Server Relayed tokens power ≡ Some (of_token eng))
    × (power_after Dm Bot Relayed tokens power ≡ power) × (power_after Dm Server Prn tokens power ≡ power)
    × (power_after Dm Server (Huh place) tokens power ≡ power) × (power_after Dm Server Dropped tokens power ≡ power)
    × (power_after Im Server Relayed tokens power ≡ power) × (power_after Rm Server Relayed tokens power ≡ power)
    × (power_after Fm Server Relayed tokens power ≡ power) × (power_after Em Server Relayed tokens power ≡ power)
    × (power_after Dm Server Relayed [] power ≡ power)
other_frames_keep_power power place = (refl, refl, refl, refl, refl, refl, refl, refl, refl, refl)

-- ---- what is kept

-- a text ends before its bracket, and may be empty; a byte above 127 is kept as it is
texts :
    (characters (text (codes "Al")) ≡ []) × (characters (map token_of_character (codes "Al") ++ ket ∷ []) ≡ codes "Al")
    × (characters (ket ∷ []) ≡ []) × (characters (0x4BFF ∷ 0x4B0A ∷ 0x4C41 ∷ []) ≡ 255 ∷ 10 ∷ [])
texts = (refl, refl, refl, refl)

-- of 32 characters all are kept, and of more the first 32; the length says that there were more
bounds :
    (kept (repeat 32 (codes "a")) ≡ record { bytes = repeat 32 (codes "a"); len = 32 })
    × (kept (repeat 33 (codes "a")) ≡ record { bytes = repeat 32 (codes "a"); len = 33 })
    × (kept (repeat 200 (codes "a")) ≡ kept (repeat 33 (codes "a")))
    × (kept [] ≡ record { bytes = repeat 32 (0 ∷ []); len = 0 })
bounds = (refl, refl, refl, refl)

-- ---- the text

abbrev named : List ℕ → List ℕ
named letters = name_text (Nme (kept letters))

-- A quote, a control character and a byte above 127 are written as tokens. An empty name has no quotes. A power that has
-- no name is written as a token too.
texts_of_names :
    (named (codes "Albert") ≡ codes "NME 'Albert'") × (name_text (Iam eng) ≡ codes "IAM ENG")
    × (named (codes "O'B") ≡ codes "NME 'O' #4b27 'B'") × (named (10 ∷ 27 ∷ []) ≡ codes "NME #4b0a #4b1b")
    × (named (255 ∷ []) ≡ codes "NME #4bff") × (named (codes "a\"\\b") ≡ codes "NME 'a\"\\b'")
    × (named [] ≡ codes "NME") × (name_text (Iam 0x4107) ≡ codes "IAM #4107") × (name_text Unknown ≡ [])
    × (named (repeat 32 (codes "a")) ≡ codes "NME '" ++ repeat 32 (codes "a") ++ codes "'")
    × (named (repeat 33 (codes "a")) ≡ codes "NME '" ++ repeat 32 (codes "a") ++ codes "'..")
unfolding text_with name_of names
texts_of_names = (refl, refl, refl, refl, refl, refl, refl, refl, refl, refl, refl)

abbrev account_of : Account
account_of = record {
  bot = record { relayed = 5; prn = 1; huh = 0 };
  server = record { relayed = 7; prn = 2; huh = 3 };
  faults = 4;
  level = L60;
  name = Unknown;
  power = None;
}

texts_of_accounts :
    (account_text account_of ≡ codes "bot 5 relayed 1 prn 0 huh; server 7 relayed 2 prn 3 huh; 4 faults; level 60")
    × (account_text (record account_of { name = Nme (kept (codes "Albert")) })
    ≡ codes "bot 5 relayed 1 prn 0 huh; server 7 relayed 2 prn 3 huh; 4 faults; level 60; NME 'Albert'")
    × (account_text (record account_of { name = Iam eng })
    ≡ codes "bot 5 relayed 1 prn 0 huh; server 7 relayed 2 prn 3 huh; 4 faults; level 60; IAM ENG")
    × (account_text (record account_of { name = Nme (kept (codes "Albert")); power = Some (of_token aus) })
    ≡ codes "bot 5 relayed 1 prn 0 huh; server 7 relayed 2 prn 3 huh; 4 faults; level 60; NME 'Albert'; power AUS")
    × (account_text (record account_of { power = Some (of_token 0x4107) })
    ≡ codes "bot 5 relayed 1 prn 0 huh; server 7 relayed 2 prn 3 huh; 4 faults; level 60; power #4107")
unfolding account_text side_text rest_text name_part power_part text_with name_of names digits
texts_of_accounts = (refl, refl, refl, refl, refl)
