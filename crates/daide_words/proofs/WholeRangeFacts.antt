-- The entries of an operator's words over the whole range of slots, operands and levels, and the words that are refused
-- over the whole range of codes, letters and counts. Written from the protocol's press and its table of codes. A rule
-- that is right for one value and wrong for the next does not check.
use Rattle.std.proofs.Common.{◌*◌, replicate}
use Rattle.std.specs.List.{range_with_len}
use Rattle.daide_words.proofs.Common.{◌≡◌, ℕ, ◌+◌, List, [], ◌∷◌, ◌++◌, map, codes, refl, drop, not, if◌then◌else◌, ap}
use Rattle.daide_words.proofs.Common.{◌∙◌, Result, Ok, Err, Word, names, name_of, token_named, Level, L0, L10, L20, L30}
use Rattle.daide_words.proofs.Common.{L40, L50, L60, Sym, Press, ProvincesGroup, TableEntry, Take, Stop, entries}
use Rattle.daide_words.proofs.Common.{may_end_of, slot_of, table_answer, Slot, WordError, grammar_words, is_free_code}
use Rattle.daide_words.proofs.Common.{word_fault, answer_over}
use Rattle.daide_grammar.specs.declared.symbol.Sym.TheVariants.{Arrangement, Fact, Operand, PowerGroup, PowersGroup}
use Rattle.daide_grammar.specs.declared.symbol.Sym.TheVariants.{OrderGroup, ArrangementGroup, OperandGroup, PressGroup}
use Rattle.daide_words.specs.declared.slot.Slot.TheVariants as slots
use Rattle.daide_words.specs.declared.operand.Operand as kinds
use Rattle.daide_words.specs.declared.operand.Operand.TheVariants as operands
use Rattle.daide_words.specs.declared.word.Word as code
use Rattle.daide_words.specs.declared.word.WordError.TheVariants as faults

abbrev made : List ℕ → ℕ → Slot → Level → kinds.Operand → code.Word
made name token slot level operand = record { name = name; code = token; slot = slot; level = level; operand = operand }

-- ---- the positions of a word, and the operand after it

-- the levels that have press
abbrev levels : List Level
levels = L10 ∷ L20 ∷ L30 ∷ L40 ∷ L50 ∷ L60 ∷ []

-- the levels that have AND and ORR
abbrev joining : List Level
joining = L30 ∷ L40 ∷ L50 ∷ L60 ∷ []

-- the entry of one word, from a level on, for a symbol of a level
abbrev meaning : Slot → kinds.Operand → Level → Sym → TableEntry
meaning slot operand first symbol =
    answer_over (grammar_words (made (codes "XYZ") 0x4A40 slot first operand ∷ [])) symbol (Word 0)

-- for each lowest level of a word, a row with its entry for the symbol at each of some levels
abbrev rows_at : List Level → Slot → kinds.Operand → (Level → Sym) → List (List TableEntry)
rows_at some slot operand symbol = map (λ first. map (λ l. meaning slot operand first (symbol l)) some) levels

-- a word of level 10 has these entries at the six levels, one of level 20 none at level 10 and these from 20 on, and so
-- on
abbrev from_each : List Sym → List (List TableEntry)
from_each symbols =
    map (λ n. replicate n Stop ++ map (λ s. Take (s ∷ [])) (drop n symbols)) (0 ∷ 1 ∷ 2 ∷ 3 ∷ 4 ∷ 5 ∷ [])

-- the same for the four levels from 30 on, at all of which the words of levels 10, 20 and 30 are allowed
abbrev from_each_joining : List Sym → List (List TableEntry)
from_each_joining symbols =
    map (λ n. replicate n Stop ++ map (λ s. Take (s ∷ [])) (drop n symbols)) (0 ∷ 0 ∷ 0 ∷ 1 ∷ 2 ∷ 3 ∷ [])

-- no entry, at any level
abbrev nowhere : ℕ → List (List TableEntry)
nowhere n = replicate 6 (replicate n Stop)

-- a press may have each operand; its arrangement or press has the level of the whole
presses : (rows_at levels slots.Press operands.Power Press ≡ from_each (replicate 6 PowerGroup))
    × (rows_at levels slots.Press operands.Powers Press ≡ from_each (replicate 6 PowersGroup))
    × (rows_at levels slots.Press operands.Provinces Press ≡ from_each (replicate 6 ProvincesGroup))
    × (rows_at levels slots.Press operands.Order Press ≡ from_each (replicate 6 OrderGroup))
    × (rows_at levels slots.Press operands.Arrangement Press
    ≡ from_each (ArrangementGroup L10 ∷ ArrangementGroup L20 ∷ ArrangementGroup L30 ∷ ArrangementGroup L40
    ∷ ArrangementGroup L50 ∷ ArrangementGroup L60 ∷ []))
    × (rows_at levels slots.Press operands.Press Press
    ≡ from_each (PressGroup L10 ∷ PressGroup L20 ∷ PressGroup L30 ∷ PressGroup L40 ∷ PressGroup L50 ∷ PressGroup L60 ∷ []))
unfolding answer_over table_answer entries may_end_of slot_of
presses = (refl, refl, refl, refl, refl, refl)

-- an arrangement may have each operand except a press
arrangements : (rows_at levels slots.Arrangement operands.Power Arrangement ≡ from_each (replicate 6 PowerGroup))
    × (rows_at levels slots.Arrangement operands.Powers Arrangement ≡ from_each (replicate 6 PowersGroup))
    × (rows_at levels slots.Arrangement operands.Provinces Arrangement ≡ from_each (replicate 6 ProvincesGroup))
    × (rows_at levels slots.Arrangement operands.Order Arrangement ≡ from_each (replicate 6 OrderGroup))
    × (rows_at levels slots.Arrangement operands.Arrangement Arrangement
    ≡ from_each (ArrangementGroup L10 ∷ ArrangementGroup L20 ∷ ArrangementGroup L30 ∷ ArrangementGroup L40
    ∷ ArrangementGroup L50 ∷ ArrangementGroup L60 ∷ []))
unfolding answer_over table_answer entries may_end_of slot_of
arrangements = (refl, refl, refl, refl, refl)

-- an arrangement is also a fact; its operand there is an arrangement and no fact
facts : (rows_at levels slots.Arrangement operands.Power Fact ≡ from_each (replicate 6 PowerGroup))
    × (rows_at levels slots.Arrangement operands.Powers Fact ≡ from_each (replicate 6 PowersGroup))
    × (rows_at levels slots.Arrangement operands.Provinces Fact ≡ from_each (replicate 6 ProvincesGroup))
    × (rows_at levels slots.Arrangement operands.Order Fact ≡ from_each (replicate 6 OrderGroup))
    × (rows_at levels slots.Arrangement operands.Arrangement Fact
    ≡ from_each (ArrangementGroup L10 ∷ ArrangementGroup L20 ∷ ArrangementGroup L30 ∷ ArrangementGroup L40
    ∷ ArrangementGroup L50 ∷ ArrangementGroup L60 ∷ []))
unfolding answer_over table_answer entries may_end_of slot_of
facts = (refl, refl, refl, refl, refl)

-- in AND and ORR the operand is flat at levels 30 and 40, and any arrangement from level 50 on
operands_joined : (rows_at joining slots.Arrangement operands.Power Operand ≡ from_each_joining (replicate 4 PowerGroup))
    × (rows_at joining slots.Arrangement operands.Powers Operand ≡ from_each_joining (replicate 4 PowersGroup))
    × (rows_at joining slots.Arrangement operands.Provinces Operand ≡ from_each_joining (replicate 4 ProvincesGroup))
    × (rows_at joining slots.Arrangement operands.Order Operand ≡ from_each_joining (replicate 4 OrderGroup))
    × (rows_at joining slots.Arrangement operands.Arrangement Operand
    ≡ from_each_joining (OperandGroup L30 ∷ OperandGroup L40 ∷ ArrangementGroup L50 ∷ ArrangementGroup L60 ∷ []))
unfolding answer_over table_answer entries may_end_of slot_of
operands_joined = (refl, refl, refl, refl, refl)

-- each operand
abbrev each : List kinds.Operand
each =
    operands.Power ∷ operands.Powers ∷ operands.Provinces ∷ operands.Order ∷ operands.Arrangement ∷ operands.Press ∷ []

-- a press word is no arrangement, fact or operand of AND, and an arrangement word is no press, whatever its operand
kinds_apart : (map (λ o. rows_at levels slots.Press o Arrangement) each ≡ replicate 6 (nowhere 6))
    × (map (λ o. rows_at levels slots.Press o Fact) each ≡ replicate 6 (nowhere 6))
    × (map (λ o. rows_at joining slots.Press o Operand) each ≡ replicate 6 (nowhere 4))
    × (map (λ o. rows_at levels slots.Arrangement o Press) each ≡ replicate 6 (nowhere 6))
unfolding answer_over table_answer entries may_end_of slot_of
kinds_apart = (refl, refl, refl, refl)

-- ---- the words that are refused

abbrev Refusal : Type 0
Refusal = Result (Unit {0}) WordError

-- the error of XYZ with a code, of a name, and of a level with an operand
abbrev of_code : ℕ → Refusal
of_code token = word_fault [] (made (codes "XYZ") token slots.Press L20 operands.Power)

abbrev of_name : List ℕ → Refusal
of_name name = word_fault [] (made name 0x4A40 slots.Press L20 operands.Power)

abbrev of_meaning : Slot → kinds.Operand → Level → Refusal
of_meaning slot operand level = word_fault [] (made (codes "XYZ") 0x4A40 slot level operand)

-- XYZ is a free name, so that only the check of the code remains
abbrev by_code : ℕ → Refusal
by_code token = if not (is_free_code [] token) then Err faults.Code else Ok tt

left_to_code : (token : ℕ) → of_code token ≡ by_code token
unfolding token_named names
left_to_code token = refl

of_codes : (tokens : List ℕ) → map of_code tokens ≡ map by_code tokens
of_codes [] = refl
of_codes (token ∷ tokens) =
    ap (λ one. one ∷ map of_code tokens) (left_to_code token) ∙ ap (λ others. by_code token ∷ others) (of_codes tokens)

abbrev free : ℕ → List Refusal
free n = replicate n (Ok tt)

abbrev taken : ℕ → List Refusal
taken n = replicate n (Err faults.Code)

-- the free codes of press: 4A04 and 4A05, 4A07 to 4A09, 4A0B, 4A11, 4A19, 4A1D and 4A1E, and all from 4A20 on
free_codes : (map of_code (range_with_len 0x4A00 256)
    ≡ taken 4 ++ free 2 ++ taken 1 ++ free 3 ++ taken 1 ++ free 1 ++ taken 5 ++ free 1 ++ taken 7 ++ free 1 ++ taken 3
    ++ free 2 ++ taken 1 ++ free 224)
    × (map of_code (range_with_len 0x4900 256) ≡ taken 256) × (map of_code (range_with_len 0x4B00 256) ≡ taken 256)
unfolding name_of names
free_codes = (
  of_codes (range_with_len 0x4A00 256) ∙ refl,
  of_codes (range_with_len 0x4900 256) ∙ refl,
  of_codes (range_with_len 0x4B00 256) ∙ refl,
)

-- no code of another category is free: its first and its last
other_codes : (map of_code (map (λ c. c * 256) (range_with_len 0x00 0x4A)) ≡ taken 0x4A)
    × (map of_code (map (λ c. c * 256 + 255) (range_with_len 0x00 0x4A)) ≡ taken 0x4A)
    × (map of_code (map (λ c. c * 256) (range_with_len 0x4B 181)) ≡ taken 181)
    × (map of_code (map (λ c. c * 256 + 255) (range_with_len 0x4B 181)) ≡ taken 181)
unfolding name_of names
other_codes = (
  of_codes (map (λ c. c * 256) (range_with_len 0x00 0x4A)) ∙ refl,
  of_codes (map (λ c. c * 256 + 255) (range_with_len 0x00 0x4A)) ∙ refl,
  of_codes (map (λ c. c * 256) (range_with_len 0x4B 181)) ∙ refl,
  of_codes (map (λ c. c * 256 + 255) (range_with_len 0x4B 181)) ∙ refl,
)

-- of all bytes only the letters from A to Z, at each of the three positions in a name
abbrev letters : List Refusal
letters = replicate 65 (Err faults.Name) ++ free 26 ++ replicate 165 (Err faults.Name)

capitals : (map (λ c. of_name (c ∷ 81 ∷ 81 ∷ [])) (range_with_len 0 256) ≡ letters)
    × (map (λ c. of_name (81 ∷ c ∷ 81 ∷ [])) (range_with_len 0 256) ≡ letters)
    × (map (λ c. of_name (81 ∷ 81 ∷ c ∷ [])) (range_with_len 0 256) ≡ letters)
unfolding name_of token_named names
capitals = (refl, refl, refl)

-- none of the protocol's 198 names
protocols_names : map (λ entry. of_name entry.1) names ≡ replicate 198 (Err faults.Name)
unfolding name_of token_named names
protocols_names = refl

-- each level of press with each operand, except an arrangement of a press
abbrev from_level_10 : List Refusal
from_level_10 = Err faults.Level ∷ free 6

meanings : (map (λ o. map (of_meaning slots.Press o) (L0 ∷ levels)) each ≡ replicate 6 from_level_10)
    × (map (λ o. map (of_meaning slots.Arrangement o) (L0 ∷ levels)) each
    ≡ replicate 5 from_level_10 ++ (Err faults.Level ∷ replicate 6 (Err faults.Operand)) ∷ [])
unfolding name_of token_named names
meanings = (refl, refl)

-- after sixteen words none, whatever else is wrong with it
abbrev behind : List ℕ → ℕ → Level → ℕ → Refusal
behind name token level n =
    word_fault (replicate n (0x4A50, codes "QQA")) (made name token slots.Press level operands.Power)

sixteen : (map (behind (codes "XYZ") 0x4A40 L20) (range_with_len 0 20) ≡ free 16 ++ replicate 4 (Err faults.Full))
    × (map (behind (codes "GOF") 0x4A10 L0) (range_with_len 0 20)
    ≡ replicate 16 (Err faults.Name) ++ replicate 4 (Err faults.Full))
unfolding name_of token_named names
sixteen = (refl, refl)
