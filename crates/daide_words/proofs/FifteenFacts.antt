-- The words that are refused after fifteen others, and why. Written from the protocol's table of names and codes. Code
-- that compares a name or a code with only one of the others does not check.
use Rattle.daide_words.proofs.Common.{◌≡◌, ℕ, ◌+◌, List, [], ◌∷◌, ◌++◌, map, codes, true, refl, Result, Ok, Err, Named}
use Rattle.daide_words.proofs.Common.{names, name_of, token_named, Level, L0, L10, Slot, WordError, are_accepted}
use Rattle.daide_words.proofs.Common.{word_fault, names_of}
use Rattle.daide_words.specs.declared.slot.Slot.TheVariants as slots
use Rattle.daide_words.specs.declared.operand.Operand as kinds
use Rattle.daide_words.specs.declared.operand.Operand.TheVariants as operands
use Rattle.daide_words.specs.declared.word.Word as code
use Rattle.daide_words.specs.declared.word.WordError.TheVariants as faults

abbrev made : List ℕ → ℕ → Slot → Level → kinds.Operand → code.Word
made name token slot level operand = record { name = name; code = token; slot = slot; level = level; operand = operand }

-- the words QAA to QOA, with the codes 4A40 to 4A4E
abbrev lettered : ℕ → code.Word
lettered k = made (81 ∷ (65 + k) ∷ 65 ∷ []) (0x4A40 + k) slots.Press L10 operands.Power

abbrev fifteen : List code.Word
fifteen = map lettered (0 ∷ 1 ∷ 2 ∷ 3 ∷ 4 ∷ 5 ∷ 6 ∷ 7 ∷ 8 ∷ 9 ∷ 10 ∷ 11 ∷ 12 ∷ 13 ∷ 14 ∷ [])

abbrev before : List Named
before = names_of fifteen

-- they are accepted in order
fifteen_accepted : are_accepted fifteen ≡ true
unfolding name_of token_named names
fifteen_accepted = refl

-- after them one word with a new name and a new code is accepted, and then no other
sixteenth : (word_fault before (made (codes "QPA") 0x4A4F slots.Press L10 operands.Press) ≡ Ok tt)
    × (word_fault (before ++ (0x4A4F, codes "QPA") ∷ []) (made (codes "QQA") 0x4A50 slots.Press L10 operands.Press)
    ≡ Err faults.Full)
    × (word_fault (before ++ (0x4A4F, codes "QPA") ∷ []) (made (codes "QAA") 0x4A40 slots.Arrangement L0 operands.Press)
    ≡ Err faults.Full)
unfolding name_of token_named names
sixteenth = (refl, refl, refl)

-- a word with the name of one of the fifteen is refused: of the first, the middle and the last, and of each
abbrev of_name : List ℕ → Result (Unit {0}) WordError
of_name name = word_fault before (made name 0x4A4F slots.Press L10 operands.Power)

names_taken : (of_name (codes "QAA") ≡ Err faults.Name) × (of_name (codes "QHA") ≡ Err faults.Name)
    × (of_name (codes "QOA") ≡ Err faults.Name)
unfolding name_of token_named names
names_taken = (refl, refl, refl)

each_name_taken : map (λ (word : code.Word). of_name word.name) fifteen
    ≡ Err faults.Name ∷ Err faults.Name ∷ Err faults.Name ∷ Err faults.Name ∷ Err faults.Name ∷ Err faults.Name
    ∷ Err faults.Name ∷ Err faults.Name ∷ Err faults.Name ∷ Err faults.Name ∷ Err faults.Name ∷ Err faults.Name
    ∷ Err faults.Name ∷ Err faults.Name ∷ Err faults.Name ∷ []
unfolding name_of token_named names
each_name_taken = refl

-- a name that differs from the first, the middle or the last in one letter is accepted
names_beside : (of_name (codes "QAB") ≡ Ok tt) × (of_name (codes "PHA") ≡ Ok tt) × (of_name (codes "QPA") ≡ Ok tt)
unfolding name_of token_named names
names_beside = (refl, refl, refl)

-- a word with the code of one of the fifteen is refused
abbrev of_code : ℕ → Result (Unit {0}) WordError
of_code token = word_fault before (made (codes "QPA") token slots.Press L10 operands.Power)

codes_taken : (of_code 0x4A40 ≡ Err faults.Code) × (of_code 0x4A47 ≡ Err faults.Code)
    × (of_code 0x4A4E ≡ Err faults.Code)
unfolding name_of token_named names
codes_taken = (refl, refl, refl)

each_code_taken : map (λ (word : code.Word). of_code word.code) fifteen
    ≡ Err faults.Code ∷ Err faults.Code ∷ Err faults.Code ∷ Err faults.Code ∷ Err faults.Code ∷ Err faults.Code
    ∷ Err faults.Code ∷ Err faults.Code ∷ Err faults.Code ∷ Err faults.Code ∷ Err faults.Code ∷ Err faults.Code
    ∷ Err faults.Code ∷ Err faults.Code ∷ Err faults.Code ∷ []
unfolding name_of token_named names
each_code_taken = refl

codes_beside : (of_code 0x4A3F ≡ Ok tt) × (of_code 0x4A4F ≡ Ok tt) × (of_code 0x4AFF ≡ Ok tt)
unfolding name_of token_named names
codes_beside = (refl, refl, refl)

-- the errors in their order: of all errors, the name of the middle word; without that, the code of the last; then the
-- level, and then the operand
in_order : (word_fault before (made (codes "QHA") 0x4A4E slots.Arrangement L0 operands.Press) ≡ Err faults.Name)
    × (word_fault before (made (codes "QPA") 0x4A4E slots.Arrangement L0 operands.Press) ≡ Err faults.Code)
    × (word_fault before (made (codes "QPA") 0x4A4F slots.Arrangement L0 operands.Press) ≡ Err faults.Level)
    × (word_fault before (made (codes "QPA") 0x4A4F slots.Arrangement L10 operands.Press) ≡ Err faults.Operand)
    × (word_fault before (made (codes "QPA") 0x4A4F slots.Arrangement L10 operands.Arrangement) ≡ Ok tt)
unfolding name_of token_named names
in_order = (refl, refl, refl, refl, refl)
