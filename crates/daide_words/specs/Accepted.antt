-- The words that an operator may add. The names and codes in use are the protocol's own and those of the earlier words.
-- (own)
use Rattle.std.specs.Prelude.{ℕ, Bool, true, false, not, ◌&&◌, ◌||◌, ◌==◌, nat_le, List, [], ◌∷◌, ◌++◌, length}
use Rattle.std.specs.Prelude.{bytes_eq, is_none, is_ok, Result, Ok, Err, if◌then◌else◌}
use Rattle.std.specs.List.{list_all, list_any}
use Rattle.daide_token.specs.Names.{Named, name_of, token_named}
use Rattle.daide_grammar.specs.Words.{most_words}
use Rattle.daide_grammar.specs.declared.level.Level.{Level}
use Rattle.daide_grammar.specs.declared.level.Level.TheVariants.{L0}
use Rattle.daide_words.specs.declared.slot.Slot.{Slot}
use Rattle.daide_words.specs.declared.slot.Slot.TheVariants as slots
use Rattle.daide_words.specs.declared.operand.Operand.{Operand}
use Rattle.daide_words.specs.declared.operand.Operand.TheVariants as operands
use Rattle.daide_words.specs.declared.word.Word.{Word}
use Rattle.daide_words.specs.declared.word.WordError.{WordError}
use Rattle.daide_words.specs.declared.word.WordError.TheVariants as faults

-- a letter from A to Z
abbrev pub is_capital : ℕ → Bool
is_capital letter = nat_le 65 letter && nat_le letter 90

-- capital letters that are no name of the protocol or of an earlier word
abbrev pub is_free_name : List Named → List ℕ → Bool
is_free_name taken name =
    list_all is_capital name && (is_none (token_named name) && not (list_any (λ entry. bytes_eq entry.1 name) taken))

-- three codes of press without a word in the protocol, which no operator's word may use
abbrev pub is_barred : ℕ → Bool
is_barred code = code == 0x4A0D || code == 0x4A12 || code == 0x4A1B

-- a code of category 4A that is no token of the protocol, not barred, and no code of an earlier word
abbrev pub is_free_code : List Named → ℕ → Bool
is_free_code taken code =
    (nat_le 0x4A00 code && nat_le code 0x4AFF)
    && (is_none (name_of code) && (not (is_barred code) && not (list_any (λ entry. entry.0 == code) taken)))

-- whether a level has press
abbrev pub has_press : Level → Bool
has_press L0 = false
has_press _ = true

-- whether a word of this slot may have this operand: an arrangement contains no press
abbrev pub may_hold : Slot → Operand → Bool
may_hold slots.Arrangement operands.Press = false
may_hold _ _ = true

-- the first error of a word that is to follow words with these codes and names
abbrev pub word_fault : List Named → Word → Result (Unit {0}) WordError
word_fault taken word =
    if nat_le most_words (length taken) then Err faults.Full else
    if not (is_free_name taken word.name) then Err faults.Name else
    if not (is_free_code taken word.code) then Err faults.Code else
    if not (has_press word.level) then Err faults.Level else
    if not (may_hold word.slot word.operand) then Err faults.Operand else
    Ok tt

-- whether all words are accepted in order, after words with these codes and names
abbrev pub are_accepted_after : List Named → List Word → Bool
are_accepted_after taken [] = true
are_accepted_after taken (word ∷ words) =
    is_ok (word_fault taken word) && are_accepted_after (taken ++ (word.code, word.name) ∷ []) words

-- whether all words are accepted in order
abbrev pub are_accepted : List Word → Bool
are_accepted = are_accepted_after []
