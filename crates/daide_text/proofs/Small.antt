-- A parsed token is a number below 2^16.
use Rattle.std.proofs.Common.{◌≡◌, ◌==◌, ◌&&◌, ◌||◌, not, nat_le, nat_lt, ℕ, zero, suc, ◌+◌, ◌-◌, ◌<◌, Bool, true, false}
use Rattle.std.proofs.Common.{List, [], ◌∷◌, ◌++◌, length, map, bytes_eq, Option, Some, None, option_map, is_ok, Result, Ok, Err}
use Rattle.std.proofs.Common.{if◌then◌else◌, refl, sym, subst, arith, ℤ, pos, negsuc, neg_ℤ}
use Rattle.std.specs.List.{All, find, list_all}
use Rattle.std.proofs.lemmas.Bool.Decides.{nat_tests}
use Rattle.daide_token.specs.Names.{Named, names, token_named}
use Rattle.daide_token.specs.Token.{bra, ket, token_of_number}
use Rattle.daide_words.specs.Accepted.{are_accepted_after, is_capital, word_fault}
use Rattle.daide_words.specs.Word.{names_of}
use Rattle.daide_words.specs.declared.word.Word.{Word}
use Rattle.daide_words.specs.declared.word.WordError.{WordError}
use Rattle.daide_words.specs.declared.word.WordError.TheVariants as faults
use Rattle.daide_text.specs.Word.{added_token, first_found, hex_value, is_digit, magnitude, token_of_decimal, token_of_hex, token_of_name}
use Rattle.daide_text.specs.Word.{token_of_some, token_of_values, token_of_word}
use Rattle.daide_text.specs.Line.{IsText, Piece, Blank, Sign, Quote, Unclosed, bytes_of_piece, character_token, is_printable, read_on}
use Rattle.daide_text.specs.Line.{read_pieces, tokens_of_piece}
use Rattle.daide_text.specs.Line as line
use Rattle.daide_text.proofs.Cuts.{both}
use Rattle.daide_text.proofs.ReadBack.{AreTokens}

-- a token, if there is one, is small
abbrev IsSmallIfSome : Option ℕ → Type 0
IsSmallIfSome None = Unit {0}
IsSmallIfSome (Some t) = t < 65536

number_small : (n : ℤ) → IsSmallIfSome (token_of_number n)
number_small (pos n) = go (nat_lt n 0x2000) refl
  where
    go : (b : Bool) → nat_lt n 0x2000 ≡ b → IsSmallIfSome (if b then Some n else None)
    go true e = grind (arith, nat_tests)
    go false e = tt
number_small (negsuc n) = go (nat_lt n 0x2000)
  where
    go : (b : Bool) → IsSmallIfSome (if b then Some (0x3FFF - n) else None)
    go true = omega arith
    go false = tt

some_small : (o : Option ℤ) → IsSmallIfSome (token_of_some o)
some_small None = tt
some_small (Some n) = number_small n

decimal_small : (w : List ℕ) → IsSmallIfSome (token_of_decimal w)
decimal_small [] = tt
decimal_small (c ∷ digits) = go (c == 45)
  where
    go : (b : Bool) → IsSmallIfSome (if b
        then token_of_some (option_map (λ n. neg_ℤ (pos n)) (magnitude digits))
        else token_of_some (option_map (λ n. pos n) (magnitude (c ∷ digits))))
    go true = some_small (option_map (λ n. neg_ℤ (pos n)) (magnitude digits))
    go false = some_small (option_map (λ n. pos n) (magnitude (c ∷ digits)))

abbrev IsDigitIfSome : Option ℕ → Type 0
IsDigitIfSome None = Unit {0}
IsDigitIfSome (Some t) = t < 16

digit_small : (c : ℕ) → IsDigitIfSome (hex_value c)
digit_small c =
    go (nat_le 48 c && nat_le c 57) refl (nat_le 65 c && nat_le c 70) refl (nat_le 97 c && nat_le c 102) refl
  where
    go : (a : Bool) → (nat_le 48 c && nat_le c 57) ≡ a → (b : Bool) → (nat_le 65 c && nat_le c 70) ≡ b →
        (d : Bool) → (nat_le 97 c && nat_le c 102) ≡ d →
        IsDigitIfSome (if a then Some (c - 48) else if b then Some (c - 55) else if d then Some (c - 87) else None)
    go true e b f d g = grind (arith, nat_tests)
    go false e true f d g = grind (arith, nat_tests)
    go false e false f true g = grind (arith, nat_tests)
    go false e false f false g = tt

values_small : (a b c d : Option ℕ) → IsDigitIfSome a → IsDigitIfSome b → IsDigitIfSome c → IsDigitIfSome d →
    IsSmallIfSome (token_of_values a b c d)
values_small (Some a) (Some b) (Some c) (Some d) h i j k = omega arith
values_small None b c d h i j k = tt
values_small (Some a) None c d h i j k = tt
values_small (Some a) (Some b) None d h i j k = tt
values_small (Some a) (Some b) (Some c) None h i j k = tt

hex_small : (digits : List ℕ) → IsSmallIfSome (token_of_hex digits)
hex_small [] = tt
hex_small (a ∷ []) = tt
hex_small (a ∷ b ∷ []) = tt
hex_small (a ∷ b ∷ c ∷ []) = tt
hex_small (a ∷ b ∷ c ∷ d ∷ []) =
    values_small (hex_value a) (hex_value b) (hex_value c) (hex_value d) (digit_small a) (digit_small b) (digit_small c)
    (digit_small d)
hex_small (a ∷ b ∷ c ∷ d ∷ e ∷ digits) = tt

small_rows : list_all (λ (row : Named). nat_lt row.0 65536) names ≡ true
unfolding names
small_rows = refl

-- a token found in a table of small tokens is small
found_small : (rows : List Named) (p : Named → Bool) → list_all (λ (row : Named). nat_lt row.0 65536) rows ≡ true →
    IsSmallIfSome (option_map (λ (row : Named). row.0) (find p rows))
found_small [] p all = tt
found_small (row ∷ rows) p all =
    let q = both (nat_lt row.0 65536) (list_all (λ (row : Named). nat_lt row.0 65536) rows) all in
    go (p row) q.0 (found_small rows p q.1)
  where
    go : (b : Bool) → nat_lt row.0 65536 ≡ true → IsSmallIfSome (option_map (λ (row : Named). row.0) (find p rows)) →
        IsSmallIfSome (option_map (λ (row : Named). row.0) (if b then Some row else find p rows))
    go true small others = grind (arith, nat_tests)
    go false small others = others

named_small : (name : List ℕ) → IsSmallIfSome (token_named name)
unfolding token_named
named_small name = found_small names (λ row. bytes_eq row.1 name) small_rows

first_small : (a b : Option ℕ) → IsSmallIfSome a → IsSmallIfSome b → IsSmallIfSome (first_found a b)
first_small (Some t) b h i = h
first_small None b h i = i

-- the codes of accepted words

code_of : (full free good : Bool) (other : Result (Unit {0}) WordError) →
    is_ok (if full then Err faults.Full else if not free then Err faults.Name else if not good then Err faults.Code else other)
    ≡ true → good ≡ true
code_of true free good other e = absurd (cc)
code_of false false good other e = absurd (cc)
code_of false true false other e = absurd (cc)
code_of false true true other e = refl

code_small : (low high rest : Bool) (code : ℕ) → ((low && high) && rest) ≡ true → nat_le code 0x4AFF ≡ high → code < 65536
code_small true true rest code e f = grind (arith, nat_tests)
code_small true false rest code e f = absurd (cc)
code_small false high rest code e f = absurd (cc)

pub small_codes : (taken : List Named) (words : List Word) → are_accepted_after taken words ≡ true →
    list_all (λ (row : Named). nat_lt row.0 65536) (names_of words) ≡ true
small_codes taken [] h = refl
small_codes taken (word ∷ words) h =
    let p = both (is_ok (word_fault taken word)) (are_accepted_after (taken ++ (word.code, word.name) ∷ []) words) h in
    let small : word.code < 65536 = code_small _ _ _ word.code (code_of _ _ _ _ p.0) refl in
    let test : nat_lt word.code 65536 ≡ true = grind (arith, nat_tests) in
    rw test (small_codes (taken ++ (word.code, word.name) ∷ []) words p.1)

module _ (added : List Named) (small : list_all (λ (row : Named). nat_lt row.0 65536) added ≡ true) where
  name_small : (name : List ℕ) (b : Bool) →
      IsSmallIfSome (if b then first_found (token_named name) (added_token added name) else None)
  name_small name true =
      first_small (token_named name) (added_token added name) (named_small name)
      (found_small added (λ row. bytes_eq row.1 name) small)
  name_small name false = tt

  word_small : (w : List ℕ) → IsSmallIfSome (token_of_word added w)
  word_small [] = tt
  word_small (c ∷ w) = go (c == 35) (c == 45 || is_digit c)
    where
      go : (a b : Bool) →
          IsSmallIfSome (if a then token_of_hex w else if b then token_of_decimal (c ∷ w) else token_of_name added (c ∷ w))
      go true b = hex_small w
      go false true = decimal_small (c ∷ w)
      go false false = name_small (c ∷ w) (list_all is_capital (c ∷ w))

  abbrev AreSmallIfSome : Option (List ℕ) → Type 0
  AreSmallIfSome None = Unit {0}
  AreSmallIfSome (Some ts) = AreTokens added ts

  one_small : (o : Option ℕ) → IsSmallIfSome o → AreSmallIfSome (option_map (λ t. t ∷ []) o)
  one_small None h = tt
  one_small (Some t) h = (h, tt)

  characters_small : (cs : List ℕ) → list_all is_printable cs ≡ true → AreTokens added (map character_token cs)
  characters_small [] e = tt
  characters_small (c ∷ cs) e =
      let p = both (is_printable c) (list_all is_printable cs) e in
      let q = p.0 in (grind (arith, nat_tests), characters_small cs p.1)

  piece_small : (piece : Piece) → AreSmallIfSome (tokens_of_piece added piece)
  piece_small (Blank c) = tt
  piece_small (Sign c) = go (c == 40)
    where
      go : (b : Bool) → AreTokens added ((if b then bra else ket) ∷ [])
      go true = (omega arith, tt)
      go false = (omega arith, tt)
  piece_small (line.Word w) = one_small (token_of_word added w) (word_small w)
  piece_small (Quote cs) = go (list_all is_printable cs) refl
    where
      go : (b : Bool) → list_all is_printable cs ≡ b → AreSmallIfSome (if b then Some (map character_token cs) else None)
      go true e = characters_small cs e
      go false e = tt
  piece_small (Unclosed cs) = tt

  abbrev AreSmallIfOk : Result (List ℕ) ℕ → Type 0
  AreSmallIfOk (Ok ts) = AreTokens added ts
  AreSmallIfOk (Err column) = Unit {0}

  both_small : (ts us : List ℕ) → AreTokens added ts → AreTokens added us → AreTokens added (ts ++ us)
  both_small [] us h i = i
  both_small (t ∷ ts) us h i = (h.0, both_small ts us h.1 i)

  on_small : (column : ℕ) (o : Option (List ℕ)) (r : Result (List ℕ) ℕ) → AreSmallIfSome o → AreSmallIfOk r →
      AreSmallIfOk (read_on column o r)
  on_small column None r h i = tt
  on_small column (Some ts) (Ok us) h i = both_small ts us h i
  on_small column (Some ts) (Err later) h i = tt

  read_small : (column : ℕ) (pieces : List Piece) → AreSmallIfOk (read_pieces added column pieces)
  read_small column [] = tt
  read_small column (piece ∷ pieces) =
      on_small column (tokens_of_piece added piece) (read_pieces added (column + length (bytes_of_piece piece)) pieces)
      (piece_small piece) (read_small (column + length (bytes_of_piece piece)) pieces)

  all_small : (ts : List ℕ) → AreTokens added ts → All (λ t. t < 65536) ts
  all_small [] h k d l = absurd (omega arith)
  all_small (t ∷ ts) h zero d l = h.0
  all_small (t ∷ ts) h (suc k) d l = all_small ts h.1 k d (omega arith)

  pub text_small : (text ts : List ℕ) → IsText added text ts → All (λ t. t < 65536) ts
  text_small text ts h = all_small ts (subst AreSmallIfOk (sym h.2) (read_small 1 h.0))
