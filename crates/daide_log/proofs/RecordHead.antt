-- Parsing the head of a record returns its limits and words.
use Rattle.std.proofs.Common.{add-one}
use Rattle.std.proofs.lemmas.Fmt.{decimal_digit, decimal_nonempty, decimal_step, first_decimal}
use Rattle.daide_log.proofs.Common.{◌≡◌, ℕ, zero, suc, ◌+◌, ◌-◌, ◌*◌, ◌/◌, ◌%◌, ◌^◌, ◌<◌, ◌≤◌, ◌==◌, ◌&&◌, cond, eqb}
use Rattle.daide_log.proofs.Common.{leb, Bool, true, false, List, [], ◌∷◌, ◌++◌, length, take, get_or, codes, nat_lt}
use Rattle.daide_log.proofs.Common.{append-nil, Some, None, Result, Ok, Err, refl, sym, ap, ◌∙◌, arith, append_assoc}
use Rattle.daide_log.proofs.Common.{length-append, list_all, decimal, and_parts, leb-true, nat_tests, IsBytes}
use Rattle.daide_log.proofs.Common.{encode_upper, upper_digits, decode_of, decode_of-encode_upper, length-encode_with}
use Rattle.daide_log.proofs.Common.{Level, L0, L10, L20, L30, L60, Word, word_at, is_capital, Config, ConfigError}
use Rattle.daide_log.proofs.Common.{config_fault, is_level, is_body, is_depth, plain_number, parted_at_space}
use Rattle.daide_log.proofs.Common.{longest_line, within, match_config_of_numbers, match_config_of_line}
use Rattle.daide_token.specs.Token.{token_bytes}
use Rattle.daide_grammar.specs.declared.level.Level.TheVariants.{L40, L50}
use Rattle.daide_grammar.specs.Level.{level_number, level_of_number}
use Rattle.daide_words.specs.declared.slot.Slot.{Slot}
use Rattle.daide_words.specs.declared.slot.Slot.TheVariants as slots
use Rattle.daide_words.specs.declared.operand.Operand.{Operand}
use Rattle.daide_words.specs.declared.operand.Operand.TheVariants as operands
use Rattle.daide_words.specs.WordNames.{slot_name, slot_named, operand_name, operand_named, word_of_parts}
use Rattle.daide_protocol.specs.declared.config.ConfigError.TheVariants as errors
use Rattle.daide_log_lines.specs.LogLine.{number_on}
use Rattle.daide_log_lines.specs.WordLine.{parse_name, parse_code, code_of_bytes, parse_level, level_of_option, word_of_level}
use Rattle.daide_log_lines.specs.WordLine.{word_of_slot, word_of_code, word_of_name, word_of_line}
use Rattle.daide_log.specs.ConfigLine.{right_or_none, config_of_numbers, match_config_of_counts, match_config_of_depth}
use Rattle.daide_log.specs.ConfigLine.{match_config_of_body, match_config_of_level}
use Rattle.daide_log.specs.RecordText.{spaced, word_text, config_text, lines_of_words}
use Rattle.daide_log.proofs.ReportLemmas.{decimal_few}
use Rattle.daide_log.proofs.RecordLines.{is_plain, is_visible, both_all, visible_plain, encode_visible, parted_word}

-- ---- decimal digits

pub number_then : (m : ℕ) (front : List ℕ) (k digit : ℕ) → number_on m front ≡ Some k →
    number_on m (front ++ digit ∷ []) ≡ number_on k (digit ∷ [])
number_then m [] k digit e = ap (λ (n : ℕ). number_on n (digit ∷ [])) (cc)
number_then m (c ∷ cs) k digit e = go ((leb 48 c && leb c 57) && leb (10 * m + (c - 48)) 65535) e
    (λ h. number_then (10 * m + (c - 48)) cs k digit h)
  where
    go : (b : Bool) → cond b (number_on (10 * m + (c - 48)) cs) None ≡ Some k →
        (number_on (10 * m + (c - 48)) cs ≡ Some k →
        number_on (10 * m + (c - 48)) (cs ++ digit ∷ []) ≡ number_on k (digit ∷ [])) →
        cond b (number_on (10 * m + (c - 48)) (cs ++ digit ∷ [])) None ≡ number_on k (digit ∷ [])
    go true h later = later h
    go false h later = absurd (cc)

pub digit_on : (m d : ℕ) → d < 10 → 10 * m + d ≤ 65535 → number_on m ((48 + d) ∷ []) ≡ Some (10 * m + d)
digit_on m d less fits =
    let least : leb 48 (48 + d) ≡ true = grind (arith, nat_tests) in
    let most : leb (48 + d) 57 ≡ true = grind (arith, nat_tests) in
    let same : 10 * m + ((48 + d) - 48) ≡ 10 * m + d = omega arith in
    let small : leb (10 * m + ((48 + d) - 48)) 65535 ≡ true = grind (arith, nat_tests) in
    ap (λ (b : Bool). cond ((b && leb (48 + d) 57) && leb (10 * m + ((48 + d) - 48)) 65535)
    (Some (10 * m + ((48 + d) - 48))) None) least
    ∙ ap (λ (b : Bool). cond (b && leb (10 * m + ((48 + d) - 48)) 65535) (Some (10 * m + ((48 + d) - 48))) None) most
    ∙ ap (λ (b : Bool). cond b (Some (10 * m + ((48 + d) - 48))) None) small ∙ ap Some same

number_by : (fuel n : ℕ) → n < fuel → n ≤ 65535 → number_on 0 (decimal n) ≡ Some n
number_by zero n less fits = absurd (omega arith)
number_by (suc fuel) n less fits = go (leb 10 n) refl (λ two. number_by fuel (n / 10) (omega arith) (omega arith))
  where
    go : (b : Bool) → leb 10 n ≡ b → (10 ≤ n → number_on 0 (decimal (n / 10)) ≡ Some (n / 10)) →
        number_on 0 (decimal n) ≡ Some n
    go true e before =
        let two : 10 ≤ n = grind (arith, nat_tests) in
        let small : n < 2 ^ 64 = omega arith in
        let last : n % 10 < 10 = omega arith in
        let whole : 10 * (n / 10) + n % 10 ≡ n = omega arith in
        ap (number_on 0) (decimal_step n two small)
        ∙ number_then 0 (decimal (n / 10)) (n / 10) (48 + n % 10) (before two)
        ∙ digit_on (n / 10) (n % 10) last (omega arith) ∙ ap Some whole
    go false e before =
        let one : n < 10 = grind (arith, nat_tests) in
        let same : 10 * 0 + n ≡ n = omega arith in
        ap (number_on 0) (decimal_digit n one) ∙ digit_on 0 n one (omega arith) ∙ ap Some same

plain_is : (l : List ℕ) (n : ℕ) → 0 < length l → (1 < length l → 48 < get_or l 0 0) → number_on 0 l ≡ Some n →
    plain_number l ≡ Some n
unfolding plain_number
plain_is [] n some first e = absurd (omega arith)
plain_is (c ∷ []) n some first e = e
plain_is (c ∷ d ∷ cs) n some first e =
    let above : 48 < c = first (omega arith) in
    let other : eqb c 48 ≡ false = grind (arith, nat_tests) in
    ap (λ (b : Bool). cond b None (number_on 0 (c ∷ d ∷ cs))) other ∙ e

-- parsing the digits of a number of 16 bits returns it
pub number_back : (n : ℕ) → n ≤ 65535 → plain_number (decimal n) ≡ Some n
number_back n fits =
    plain_is (decimal n) n (decimal_nonempty n (omega arith)) (first n fits) (number_by (suc n) n (omega arith) fits)
  where
    first : (n : ℕ) → n ≤ 65535 → 1 < length (decimal n) → 48 < get_or (decimal n) 0 0
    first zero fits long =
        let one : length (decimal zero) ≡ 1 = ap length (decimal_digit zero (omega arith)) in
        absurd (omega arith)
    first (suc n) fits long = first_decimal (suc n) (omega arith) (omega arith)

digit_visible : (d : ℕ) → list_all is_visible ((48 + d) ∷ []) ≡ true
digit_visible d = let h : nat_lt 32 (48 + d) ≡ true = grind (arith, nat_tests) in ap (λ (b : Bool). b && true) h

visible_by : (fuel n : ℕ) → n < fuel → n < 2 ^ 64 → list_all is_visible (decimal n) ≡ true
visible_by zero n less fits = absurd (omega arith)
visible_by (suc fuel) n less fits = go (leb 10 n) refl (λ two. visible_by fuel (n / 10) (omega arith) (omega arith))
  where
    go : (b : Bool) → leb 10 n ≡ b → (10 ≤ n → list_all is_visible (decimal (n / 10)) ≡ true) →
        list_all is_visible (decimal n) ≡ true
    go true e before =
        let two : 10 ≤ n = grind (arith, nat_tests) in
        ap (list_all is_visible) (decimal_step n two (omega arith))
        ∙ both_all is_visible (decimal (n / 10)) ((48 + n % 10) ∷ []) (before two) (digit_visible (n % 10))
    go false e before =
        let one : n < 10 = grind (arith, nat_tests) in
        ap (list_all is_visible) (decimal_digit n one) ∙ digit_visible n

pub decimal_visible : (n : ℕ) → n ≤ 65535 → list_all is_visible (decimal n) ≡ true
decimal_visible n fits = visible_by (suc n) n (omega arith) (omega (arith, fits))

pub long_visible : (n : ℕ) → n < 2 ^ 64 → list_all is_visible (decimal n) ≡ true
long_visible n fits = visible_by (suc n) n (omega arith) fits

-- ---- the limits

level_by : (n : ℕ) → is_level n ≡ true → n ≤ 60
level_by n h = grind (arith, nat_tests)

-- limits that a session accepts are numbers of 16 bits
pub record AreSmall (config : Config) : Type 0 where
  pub level : config.top_level ≤ 65535
  pub body : config.max_body ≤ 65535
  pub depth : config.max_depth ≤ 65535

pub are_small : (config : Config) → config_fault config ≡ Ok tt → AreSmall config
are_small config h = go (is_level config.top_level) (is_body config.max_body) (is_depth config.max_depth) refl refl refl h
  where
    go : (a b c : Bool) → is_level config.top_level ≡ a → is_body config.max_body ≡ b → is_depth config.max_depth ≡ c →
        ◌≡◌ {A = Result (Unit {0}) ConfigError}
        (cond a (cond b (cond c (Ok tt) (Err errors.Depth)) (Err errors.Body)) (Err errors.Level)) (Ok tt) → AreSmall config
    go true true true e f g h =
        let body = and_parts (config.max_body % 2 == 0) (leb 512 config.max_body && leb config.max_body 65526) f in
        let most = (and_parts (leb 512 config.max_body) (leb config.max_body 65526) body.1).1 in
        let deep = (and_parts (leb 4 config.max_depth) (leb config.max_depth 254) g).1 in
        record {
          level = omega (arith, level_by config.top_level e);
          body = omega (arith, leb-true config.max_body 65526 most);
          depth = omega (arith, leb-true config.max_depth 254 deep);
        }
    go true true false e f g h = absurd (cc)
    go true false c e f g h = absurd (cc)
    go false b c e f g h = absurd (cc)

few_words : (n : ℕ) → n ≤ 16 → within 0 16 (Some n) ≡ Some n
few_words n h =
    let least : leb 0 n ≡ true = grind (arith, nat_tests) in
    let most : leb n 16 ≡ true = grind (arith, nat_tests) in
    ap (λ (b : Bool). cond (b && leb n 16) (Some n) None) least ∙ ap (λ (b : Bool). cond b (Some n) None) most

one_back : plain_number (codes "1") ≡ Some 1
unfolding plain_number
one_back = refl

pub config_back : (config : Config) (words : ℕ) → config_fault config ≡ Ok tt → words ≤ 16 →
    match_config_of_line (config_text config words)
    ≡ Some (record { config = config; sessions = 1; words = words })
unfolding match_config_of_line config_text parted_at_space
config_back config words h few =
    let small = are_small config h in
    let level = decimal config.top_level in
    let body = decimal config.max_body in
    let depth = decimal config.max_depth in
    let counts = spaced (codes "1" ∷ decimal words ∷ []) in
    ap match_config_of_level
    (parted_word level (spaced (body ∷ depth ∷ codes "1" ∷ decimal words ∷ [])) (decimal_visible config.top_level small.level))
    ∙ ap (match_config_of_body level)
    (parted_word body (spaced (depth ∷ codes "1" ∷ decimal words ∷ [])) (decimal_visible config.max_body small.body))
    ∙ ap (match_config_of_depth level body) (parted_word depth counts (decimal_visible config.max_depth small.depth))
    ∙ ap (λ o. match_config_of_counts (config_of_numbers o (plain_number body) (plain_number depth)) (parted_at_space counts))
    (number_back config.top_level small.level)
    ∙ ap (λ o. match_config_of_counts (config_of_numbers (Some config.top_level) o (plain_number depth)) (parted_at_space counts))
    (number_back config.max_body small.body)
    ∙ ap (λ o. match_config_of_counts (config_of_numbers (Some config.top_level) (Some config.max_body) o)
    (parted_at_space counts))
    (number_back config.max_depth small.depth)
    ∙ ap (λ r. match_config_of_counts (right_or_none config r) (parted_at_space counts)) h
    ∙ ap (λ o. match_config_of_numbers (Some config) (within 1 256 o) (within 0 16 (plain_number (decimal words)))) one_back
    ∙ ap (λ o. match_config_of_numbers (Some config) (Some 1) (within 0 16 o)) (number_back words (omega arith))
    ∙ ap (match_config_of_numbers (Some config) (Some 1)) (few_words words few)

number_plain : (n : ℕ) → n ≤ 65535 → list_all is_plain (decimal n) ≡ true
number_plain n fits = visible_plain (decimal n) (decimal_visible n fits)

pub config_plain : (config : Config) (words : ℕ) → config_fault config ≡ Ok tt → words ≤ 16 →
    list_all is_plain (config_text config words) ≡ true
unfolding config_text
config_plain config words h few =
    let small = are_small config h in
    both_all is_plain (decimal config.top_level)
    (32 ∷ spaced (decimal config.max_body ∷ decimal config.max_depth ∷ codes "1" ∷ decimal words ∷ []))
    (number_plain config.top_level small.level)
    (both_all is_plain (decimal config.max_body) (32 ∷ spaced (decimal config.max_depth ∷ codes "1" ∷ decimal words ∷ []))
    (number_plain config.max_body small.body)
    (both_all is_plain (decimal config.max_depth) (32 ∷ spaced (codes "1" ∷ decimal words ∷ []))
    (number_plain config.max_depth small.depth)
    (number_plain words (omega arith))))

pub config_short : (config : Config) (words : ℕ) → config_fault config ≡ Ok tt → words ≤ 16 →
    length (config_text config words) ≤ longest_line
unfolding config_text
config_short config words h few =
    let small = are_small config h in
    omega (
      arith,
      decimal_few config.top_level (omega (arith, small.level)),
      decimal_few config.max_body (omega (arith, small.body)),
      decimal_few config.max_depth (omega (arith, small.depth)),
      decimal_few words (omega arith),
      length-append (decimal config.max_depth) (32 ∷ spaced (codes "1" ∷ decimal words ∷ [])),
      length-append (decimal config.max_body) (32 ∷ spaced (decimal config.max_depth ∷ codes "1" ∷ decimal words ∷ [])),
      length-append (decimal config.top_level)
          (32 ∷ spaced (decimal config.max_body ∷ decimal config.max_depth ∷ codes "1" ∷ decimal words ∷ [])),
    )

-- ---- a word

-- a word whose parts are parsed back
pub record IsWord (word : Word) : Type 0 where
  pub three : length word.name ≡ 3
  pub letters : list_all is_capital word.name ≡ true
  pub code : word.code < 65536

capital_visible : (letter : ℕ) → is_capital letter ≡ true → is_visible letter ≡ true
capital_visible letter h =
    let least = leb-true 65 letter (and_parts (leb 65 letter) (leb letter 90) h).0 in
    grind (arith, nat_tests)

letters_visible : (name : List ℕ) → list_all is_capital name ≡ true → list_all is_visible name ≡ true
letters_visible [] h = refl
letters_visible (letter ∷ name) h =
    let both = and_parts (is_capital letter) (list_all is_capital name) h in
    ap (λ (b : Bool). b && list_all is_visible name) (capital_visible letter both.0) ∙ letters_visible name both.1

name_back : (name : List ℕ) → length name ≡ 3 → parse_name name ≡ Some name
name_back name three = ap (λ (n : ℕ). cond (n == 3) (Some name) None) three

code_bytes : (code : ℕ) → code < 65536 → IsBytes (token_bytes code)
code_bytes code fits zero = omega arith
code_bytes code fits (suc zero) = omega arith
code_bytes code fits (suc (suc k)) = omega arith

code_size : (code : ℕ) → length (encode_upper (token_bytes code)) ≡ 4
code_size code = length-encode_with upper_digits (token_bytes code)

code_back : (code : ℕ) → code < 65536 → parse_code (encode_upper (token_bytes code)) ≡ Some code
code_back code fits =
    let whole : code / 256 * 256 + code % 256 ≡ code = omega arith in
    ap (λ (n : ℕ). cond (n == 4) (code_of_bytes (decode_of (encode_upper (token_bytes code)))) None) (code_size code)
    ∙ ap code_of_bytes (decode_of-encode_upper (token_bytes code) (code_bytes code fits)) ∙ ap Some whole

slot_back : (slot : Slot) → slot_named (slot_name slot) ≡ Some slot
slot_back slots.Press = refl
slot_back slots.Arrangement = refl

operand_back : (operand : Operand) → operand_named (operand_name operand) ≡ Some operand
operand_back operands.Power = refl
operand_back operands.Powers = refl
operand_back operands.Provinces = refl
operand_back operands.Order = refl
operand_back operands.Arrangement = refl
operand_back operands.Press = refl

level_small : (level : Level) → level_number level ≤ 60
level_small L0 = omega arith
level_small L10 = omega arith
level_small L20 = omega arith
level_small L30 = omega arith
level_small L40 = omega arith
level_small L50 = omega arith
level_small L60 = omega arith

level_same : (level : Level) → level_of_number (level_number level) ≡ Some level
level_same L0 = refl
level_same L10 = refl
level_same L20 = refl
level_same L30 = refl
level_same L40 = refl
level_same L50 = refl
level_same L60 = refl

level_back : (level : Level) → parse_level (decimal (level_number level)) ≡ Some level
level_back level =
    ap level_of_option (number_back (level_number level) (omega (arith, level_small level))) ∙ level_same level

slot_visible : (slot : Slot) → list_all is_visible (slot_name slot) ≡ true
slot_visible slots.Press = refl
slot_visible slots.Arrangement = refl

operand_visible : (operand : Operand) → list_all is_visible (operand_name operand) ≡ true
operand_visible operands.Power = refl
operand_visible operands.Powers = refl
operand_visible operands.Provinces = refl
operand_visible operands.Order = refl
operand_visible operands.Arrangement = refl
operand_visible operands.Press = refl

pub word_back : (word : Word) → IsWord word → word_of_line (word_text word) ≡ Some word
unfolding word_of_line word_text
word_back word h =
    let code = encode_upper (token_bytes word.code) in
    let slot = slot_name word.slot in
    let level = decimal (level_number word.level) in
    let operand = operand_name word.operand in
    ap word_of_name
    (parted_word word.name (spaced (code ∷ slot ∷ level ∷ operand ∷ [])) (letters_visible word.name h.letters))
    ∙ ap (word_of_code word.name)
    (parted_word code (spaced (slot ∷ level ∷ operand ∷ [])) (encode_visible (token_bytes word.code) (code_bytes word.code h.code)))
    ∙ ap (word_of_slot word.name code) (parted_word slot (spaced (level ∷ operand ∷ [])) (slot_visible word.slot))
    ∙ ap (word_of_level word.name code slot)
    (parted_word level operand (decimal_visible (level_number word.level) (omega (arith, level_small word.level))))
    ∙ ap (λ o. word_of_parts o (parse_code code) (slot_named slot) (parse_level level) (operand_named operand))
    (name_back word.name h.three)
    ∙ ap (λ o. word_of_parts (Some word.name) o (slot_named slot) (parse_level level) (operand_named operand))
    (code_back word.code h.code)
    ∙ ap (λ o. word_of_parts (Some word.name) (Some word.code) o (parse_level level) (operand_named operand)) (slot_back word.slot)
    ∙ ap (λ o. word_of_parts (Some word.name) (Some word.code) (Some word.slot) o (operand_named operand)) (level_back word.level)
    ∙ ap (λ o. word_of_parts (Some word.name) (Some word.code) (Some word.slot) (Some word.level) o) (operand_back word.operand)

pub word_plain : (word : Word) → IsWord word → list_all is_plain (word_text word) ≡ true
unfolding word_text
word_plain word h =
    let code = encode_upper (token_bytes word.code) in
    let slot = slot_name word.slot in
    let level = decimal (level_number word.level) in
    let operand = operand_name word.operand in
    both_all is_plain word.name (32 ∷ spaced (code ∷ slot ∷ level ∷ operand ∷ []))
    (visible_plain word.name (letters_visible word.name h.letters))
    (both_all is_plain code (32 ∷ spaced (slot ∷ level ∷ operand ∷ []))
    (visible_plain code (encode_visible (token_bytes word.code) (code_bytes word.code h.code)))
    (both_all is_plain slot (32 ∷ spaced (level ∷ operand ∷ [])) (visible_plain slot (slot_visible word.slot))
    (both_all is_plain level (32 ∷ operand)
    (visible_plain level (decimal_visible (level_number word.level) (omega (arith, level_small word.level))))
    (visible_plain operand (operand_visible word.operand)))))

slot_short : (slot : Slot) → length (slot_name slot) ≤ 11
slot_short slots.Press = omega arith
slot_short slots.Arrangement = omega arith

operand_short : (operand : Operand) → length (operand_name operand) ≤ 11
operand_short operands.Power = omega arith
operand_short operands.Powers = omega arith
operand_short operands.Provinces = omega arith
operand_short operands.Order = omega arith
operand_short operands.Arrangement = omega arith
operand_short operands.Press = omega arith

pub word_short : (word : Word) → IsWord word → length (word_text word) ≤ longest_line
unfolding word_text
word_short word h =
    let code = encode_upper (token_bytes word.code) in
    let slot = slot_name word.slot in
    let level = decimal (level_number word.level) in
    let operand = operand_name word.operand in
    omega (
      arith,
      h.three,
      code_size word.code,
      slot_short word.slot,
      operand_short word.operand,
      decimal_few (level_number word.level) (omega (arith, level_small word.level)),
      length-append word.name (32 ∷ spaced (code ∷ slot ∷ level ∷ operand ∷ [])),
      length-append code (32 ∷ spaced (slot ∷ level ∷ operand ∷ [])),
      length-append slot (32 ∷ spaced (level ∷ operand ∷ [])),
      length-append level (32 ∷ operand),
    )

-- ---- written piece by piece

pub config_put : (config : Config) (words : ℕ) (old a b c d e f g h new : List ℕ) → a ≡ old ++ codes "config " →
    b ≡ a ++ decimal config.top_level → c ≡ b ++ codes " " → d ≡ c ++ decimal config.max_body → e ≡ d ++ codes " " →
    f ≡ e ++ decimal config.max_depth → g ≡ f ++ codes " 1 " → h ≡ g ++ decimal words → new ≡ h ++ codes "\n" →
    new ≡ old ++ config_text config words ++ 10 ∷ []
unfolding config_text
config_put config words old a b c d e f g h new p q r s t u v w x =
    x ∙ ap (λ (l : List ℕ). l ++ codes "\n")
    (w ∙ ap (λ (l : List ℕ). l ++ decimal words)
    (v ∙ ap (λ (l : List ℕ). l ++ codes " 1 ")
    (u ∙ ap (λ (l : List ℕ). l ++ decimal config.max_depth)
    (t ∙ ap (λ (l : List ℕ). l ++ codes " ")
    (s ∙ ap (λ (l : List ℕ). l ++ decimal config.max_body)
    (r ∙ ap (λ (l : List ℕ). l ++ codes " ")
    (q ∙ ap (λ (l : List ℕ). l ++ decimal config.top_level) p)))))))
    ∙ simp append_assoc

-- the word at an index follows those before it
pub words_more : (words : List Word) (place : ℕ) (word : Word) → word_at place words ≡ Some word →
    lines_of_words (take (place + 1) words) ≡ lines_of_words (take place words) ++ (word_text word ++ 10 ∷ [])
words_more [] place word e = absurd (cc)
words_more (first ∷ words) zero word e = let same : first ≡ word = cc in
    append-nil (word_text first ++ 10 ∷ []) ∙ ap (λ (w : Word). word_text w ++ 10 ∷ []) same
words_more (first ∷ words) (suc place) word e =
    rw add-one
    (let h = words_more words place word e in
    let k = rw add-one at h in
    ap (λ (l : List ℕ). (word_text first ++ 10 ∷ []) ++ l) k
    ∙ sym (append_assoc (word_text first ++ 10 ∷ []) (lines_of_words (take place words)) (word_text word ++ 10 ∷ [])))

pub no_word : (words : List Word) (place : ℕ) → word_at place words ≡ None → length words ≤ place
no_word [] place e = omega arith
no_word (first ∷ words) zero e = absurd (cc)
no_word (first ∷ words) (suc place) e = omega (arith, no_word words place e)

pub word_put : (word : Word) (old a b c d e f new bytes slot operand : List ℕ) (level : ℕ) → bytes ≡ token_bytes word.code →
    slot ≡ 32 ∷ slot_name word.slot ++ 32 ∷ [] → level ≡ level_number word.level →
    operand ≡ 32 ∷ operand_name word.operand ++ 10 ∷ [] → a ≡ old ++ codes "word " → b ≡ a ++ word.name →
    c ≡ b ++ codes " " → d ≡ c ++ encode_upper bytes → e ≡ d ++ slot → f ≡ e ++ decimal level → new ≡ f ++ operand →
    new ≡ old ++ word_text word ++ 10 ∷ []
unfolding word_text
word_put word old a b c d e f new bytes slot operand level code_is slot_is level_is operand_is p q r s t u v =
    v ∙ ap (λ (l : List ℕ). l ++ operand)
    (u ∙ ap (λ (l : List ℕ). l ++ decimal level)
    (t ∙ ap (λ (l : List ℕ). l ++ slot)
    (s ∙ ap (λ (l : List ℕ). l ++ encode_upper bytes)
    (r ∙ ap (λ (l : List ℕ). l ++ codes " ")
    (q ∙ ap (λ (l : List ℕ). l ++ word.name) p)))))
    ∙ ap (λ (l : List ℕ). ((((((old ++ codes "word ") ++ word.name) ++ codes " ") ++ encode_upper l) ++ slot)
    ++ decimal level) ++ operand) code_is
    ∙ ap (λ (l : List ℕ). ((((((old ++ codes "word ") ++ word.name) ++ codes " ") ++ encode_upper (token_bytes word.code)) ++ l)
    ++ decimal level) ++ operand) slot_is
    ∙ ap (λ (n : ℕ). ((((((old ++ codes "word ") ++ word.name) ++ codes " ") ++ encode_upper (token_bytes word.code))
    ++ (32 ∷ slot_name word.slot ++ 32 ∷ [])) ++ decimal n) ++ operand) level_is
    ∙ ap (λ (l : List ℕ). ((((((old ++ codes "word ") ++ word.name) ++ codes " ") ++ encode_upper (token_bytes word.code))
    ++ (32 ∷ slot_name word.slot ++ 32 ∷ [])) ++ decimal (level_number word.level)) ++ l) operand_is
    ∙ simp append_assoc

-- the head, with the word at one more index
pub head_more : (words : List Word) (place : ℕ) (word : Word) (head now new : List ℕ) → word_at place words ≡ Some word →
    now ≡ head ++ lines_of_words (take place words) → new ≡ now ++ word_text word ++ 10 ∷ [] →
    new ≡ head ++ lines_of_words (take (place + 1) words)
head_more words place word head now new e f g =
    g ∙ ap (λ (l : List ℕ). l ++ word_text word ++ 10 ∷ []) f
    ∙ append_assoc (head ++ lines_of_words (take place words)) (word_text word) (10 ∷ [])
    ∙ append_assoc head (lines_of_words (take place words)) (word_text word ++ 10 ∷ [])
    ∙ ap (λ (l : List ℕ). head ++ l) (sym (words_more words place word e))
