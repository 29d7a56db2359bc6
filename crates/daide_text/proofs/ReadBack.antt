-- The text that is printed for tokens is parsed as these tokens.
use Rattle.std.proofs.Common.{◌≡◌, ◌==◌, ◌&&◌, ◌||◌, nat_le, nat_lt, ℕ, zero, suc, ◌+◌, ◌-◌, ◌*◌, ◌/◌, ◌%◌, ◌<◌, ◌≤◌}
use Rattle.std.proofs.Common.{◌^◌, Bool, true, false, if◌then◌else◌, List, [], ◌∷◌, ◌++◌, length, map, append-nil}
use Rattle.std.proofs.Common.{Option, Some, None, option_map, Ok, refl, sym, ◌∙◌, ap, arith, subst, ℤ, pos, negsuc, neg_ℤ}
use Rattle.std.specs.List.{All, find, join_with_byte, list_all}
use Rattle.std.specs.Fmt.{decimal, signed_decimal}
use Rattle.std.proofs.lemmas.Bool.{eqb-true}
use Rattle.std.proofs.lemmas.Bool.Decides.{nat_tests}
use Rattle.std.proofs.lemmas.Int.{ints}
use Rattle.std.proofs.lemmas.Fmt.{decimal_by_steps, decimal_nonempty}
use Rattle.std.proofs.lemmas.List.Folds.{list_all-append}
use Rattle.daide_token.specs.Names.{Named, name_of, names, token_named}
use Rattle.daide_token.specs.Token.{bra, ket, number_of, token_of_number}
use Rattle.daide_token.specs.Text.{TextItem, Word, Quote, added_name_of, before_items, hex_digit_of, hex_text, is_quotable}
use Rattle.daide_token.specs.Text.{item_text, text_items_of, text_with, text_of_token}
use Rattle.daide_words.specs.Accepted.{is_capital}
use Rattle.daide_text.specs.Word.{added_token, first_found, greatest_magnitude, hex_value, is_digit, magnitude}
use Rattle.daide_text.specs.Word.{token_of_decimal, token_of_hex, token_of_name, token_of_some, token_of_word, value_after}
use Rattle.daide_text.specs.Line.{IsReadFrom, IsPieceBefore, IsText, Piece, begins_in_word, bytes_of_piece, character_token}
use Rattle.daide_text.specs.Line.{is_in_quote, is_in_word, is_printable, read_on, read_pieces, tokens_of_piece}
use Rattle.daide_text.specs.Line as line
use Rattle.daide_text.proofs.Cuts.{both, together}

when_true : {A : Type 0} (b : Bool) (x y : A) → b ≡ true → (if b then x else y) ≡ x
when_true true x y e = refl
when_true false x y e = absurd (cc)

when_false : {A : Type 0} (b : Bool) (x y : A) → b ≡ false → (if b then x else y) ≡ y
when_false false x y e = refl
when_false true x y e = absurd (cc)

-- ---- numbers

digit_more : (n : ℕ) (ds : List ℕ) → list_all is_digit ds ≡ true → list_all is_digit (ds ++ (48 + n % 10) ∷ []) ≡ true
digit_more n ds e =
    let last : is_digit (48 + n % 10) ≡ true = grind (arith, nat_tests) in
    list_all-append is_digit ds ((48 + n % 10) ∷ [])
    ∙ together (list_all is_digit ds) (is_digit (48 + n % 10) && true) e (together (is_digit (48 + n % 10)) true last refl)

one_digit : (n : ℕ) → n < 10 → list_all is_digit ((48 + n) ∷ []) ≡ true
one_digit n h = grind (arith, nat_tests)

all_digits : (n : ℕ) → n < 2 ^ 64 → list_all is_digit (decimal n) ≡ true
all_digits n h =
    decimal_by_steps (λ n ds. list_all is_digit ds ≡ true) one_digit (λ n ds l e. digit_more n ds e) n h

value_last : (k : ℕ) (ds : List ℕ) (c : ℕ) → value_after k (ds ++ c ∷ []) ≡ value_after k ds * 10 + (c - 48)
value_last k [] c = refl
value_last k (d ∷ ds) c = value_last (k * 10 + (d - 48)) ds c

value_of_one : (n : ℕ) → n < 10 → value_after 0 ((48 + n) ∷ []) ≡ n
value_of_one n h = omega arith

value_more : (n : ℕ) (ds : List ℕ) → value_after 0 ds ≡ n / 10 → value_after 0 (ds ++ (48 + n % 10) ∷ []) ≡ n
value_more n ds e = value_last 0 ds (48 + n % 10) ∙ omega (arith, e)

value_back : (n : ℕ) → n < 2 ^ 64 → value_after 0 (decimal n) ≡ n
value_back n h =
    decimal_by_steps (λ n ds. value_after 0 ds ≡ n) value_of_one (λ n ds l e. value_more n ds e) n h

magnitude_back : (n : ℕ) → n ≤ greatest_magnitude → magnitude (decimal n) ≡ Some n
magnitude_back n h =
    let some : nat_lt 0 (length (decimal n)) ≡ true =
    (let l = decimal_nonempty n (omega arith) in grind (arith, nat_tests)) in
    let value = value_back n (omega arith) in
    let few : nat_le (value_after 0 (decimal n)) greatest_magnitude ≡ true = rw value (grind (arith, nat_tests)) in
    when_true (nat_lt 0 (length (decimal n))
    && (list_all is_digit (decimal n) && nat_le (value_after 0 (decimal n)) greatest_magnitude))
    (Some (value_after 0 (decimal n))) None
    (together _ _ some (together _ _ (all_digits n (omega arith)) few))
    ∙ ap Some value

abbrev IsSmall : ℤ → Type 0
IsSmall (pos n) = n < 8192
IsSmall (negsuc n) = n < 8192

number_small : (t : ℕ) (n : ℤ) → number_of t ≡ Some n → IsSmall n
number_small t (pos n) e = grind (arith, nat_tests, ints)
number_small t (negsuc n) e = grind (arith, nat_tests, ints)

number_token : (t : ℕ) (n : ℤ) → number_of t ≡ Some n → token_of_number n ≡ Some t
number_token t n e = grind (arith, nat_tests, ints)

digit_in_word : (c : ℕ) → is_digit c ≡ true → is_in_word c ≡ true
digit_in_word c e = grind (arith, nat_tests)

digits_in_word : (ds : List ℕ) → list_all is_digit ds ≡ true → list_all is_in_word ds ≡ true
digits_in_word [] e = refl
digits_in_word (c ∷ ds) e =
    let p = both (is_digit c) (list_all is_digit ds) e in
    together (is_in_word c) (list_all is_in_word ds) (digit_in_word c p.0) (digits_in_word ds p.1)

no_hash : (c : ℕ) → is_digit c ≡ true → (c == 35) ≡ false
no_hash c e = grind (arith, nat_tests)

no_minus : (c : ℕ) → is_digit c ≡ true → (c == 45) ≡ false
no_minus c e = grind (arith, nat_tests)

-- ---- names

capital_in_word : (c : ℕ) → is_capital c ≡ true → is_in_word c ≡ true
capital_in_word c e = grind (arith, nat_tests)

capitals_in_word : (w : List ℕ) → list_all is_capital w ≡ true → list_all is_in_word w ≡ true
capitals_in_word [] e = refl
capitals_in_word (c ∷ w) e =
    let p = both (is_capital c) (list_all is_capital w) e in
    together (is_in_word c) (list_all is_in_word w) (capital_in_word c p.0) (capitals_in_word w p.1)

capital_no_hash : (c : ℕ) → is_capital c ≡ true → (c == 35) ≡ false
capital_no_hash c e = grind (arith, nat_tests)

capital_no_number : (c : ℕ) → is_capital c ≡ true → (c == 45 || is_digit c) ≡ false
capital_no_number c e = grind (arith, nat_tests)

abbrev pub is_good_name : List ℕ → Bool
is_good_name name = nat_lt 0 (length name) && list_all is_capital name

good_names : list_all (λ (row : Named). is_good_name row.1) names ≡ true
unfolding names
good_names = refl

found_good : (rows : List Named) (t : ℕ) (name : List ℕ) → list_all (λ (row : Named). is_good_name row.1) rows ≡ true →
    option_map (λ (row : Named). row.1) (find (λ row. row.0 == t) rows) ≡ Some name → is_good_name name ≡ true
found_good [] t name all e = absurd (cc)
found_good (row ∷ rows) t name all e =
    let p = both (is_good_name row.1) (list_all (λ (row : Named). is_good_name row.1) rows) all in
    go (row.0 == t) p.0 (found_good rows t name p.1) e
  where
    go : (b : Bool) → is_good_name row.1 ≡ true →
        (option_map (λ (row : Named). row.1) (find (λ row. row.0 == t) rows) ≡ Some name → is_good_name name ≡ true) →
        option_map (λ (row : Named). row.1) (if b then Some row else find (λ row. row.0 == t) rows) ≡ Some name →
        is_good_name name ≡ true
    go true good others f = let same : row.1 ≡ name = cc in ap is_good_name (sym same) ∙ good
    go false good others f = others f

name_good : (t : ℕ) (name : List ℕ) → name_of t ≡ Some name → is_good_name name ≡ true
unfolding name_of
name_good t name e = found_good names t name good_names e

-- ---- hexadecimal digits

hex_back : (n : ℕ) → n < 16 → (hex_value (hex_digit_of n) ≡ Some n) × (is_in_word (hex_digit_of n) ≡ true)
hex_back zero h = (refl, refl)
hex_back (suc zero) h = (refl, refl)
hex_back (suc (suc zero)) h = (refl, refl)
hex_back (suc (suc (suc zero))) h = (refl, refl)
hex_back (suc (suc (suc (suc zero)))) h = (refl, refl)
hex_back (suc (suc (suc (suc (suc zero))))) h = (refl, refl)
hex_back (suc (suc (suc (suc (suc (suc zero)))))) h = (refl, refl)
hex_back (suc (suc (suc (suc (suc (suc (suc zero))))))) h = (refl, refl)
hex_back (suc (suc (suc (suc (suc (suc (suc (suc zero)))))))) h = (refl, refl)
hex_back (suc (suc (suc (suc (suc (suc (suc (suc (suc zero))))))))) h = (refl, refl)
hex_back (suc (suc (suc (suc (suc (suc (suc (suc (suc (suc zero)))))))))) h = (refl, refl)
hex_back (suc (suc (suc (suc (suc (suc (suc (suc (suc (suc (suc zero))))))))))) h = (refl, refl)
hex_back (suc (suc (suc (suc (suc (suc (suc (suc (suc (suc (suc (suc zero)))))))))))) h = (refl, refl)
hex_back (suc (suc (suc (suc (suc (suc (suc (suc (suc (suc (suc (suc (suc zero))))))))))))) h = (refl, refl)
hex_back (suc (suc (suc (suc (suc (suc (suc (suc (suc (suc (suc (suc (suc (suc zero)))))))))))))) h = (refl, refl)
hex_back (suc (suc (suc (suc (suc (suc (suc (suc (suc (suc (suc (suc (suc (suc (suc zero))))))))))))))) h =
    (refl, refl)
hex_back (suc (suc (suc (suc (suc (suc (suc (suc (suc (suc (suc (suc (suc (suc (suc (suc n)))))))))))))))) h =
    absurd (omega arith)

module _ (added : List Named) where
  -- a word that is parsed as a token
  abbrev IsWordOf : ℕ → List ℕ → Type 0
  IsWordOf t w = (0 < length w) × (list_all is_in_word w ≡ true) × (token_of_word added w ≡ Some t)

  digits_read : (ds : List ℕ) (n : ℕ) (o : Option ℕ) → 0 < length ds → list_all is_digit ds ≡ true →
      magnitude ds ≡ Some n → token_of_number (pos n) ≡ o → token_of_word added ds ≡ o
  digits_read [] n o some all e f = absurd (omega arith)
  digits_read (c ∷ ds) n o some all e f =
      let d = (both (is_digit c) (list_all is_digit ds) all).0 in
      when_false (c == 35) (token_of_hex ds)
      (if c == 45 || is_digit c then token_of_decimal (c ∷ ds) else token_of_name added (c ∷ ds)) (no_hash c d)
      ∙ when_true (c == 45 || is_digit c) (token_of_decimal (c ∷ ds)) (token_of_name added (c ∷ ds))
      (rw (no_minus c d, d) refl)
      ∙ when_false (c == 45) (token_of_some (option_map (λ n. neg_ℤ (pos n)) (magnitude ds)))
      (token_of_some (option_map (λ n. pos n) (magnitude (c ∷ ds)))) (no_minus c d)
      ∙ ap (λ (o : Option ℕ). token_of_some (option_map (λ n. pos n) o)) e ∙ f

  number_read : (t : ℕ) (n : ℤ) → number_of t ≡ Some n → IsWordOf t (signed_decimal n)
  number_read t n e = go n (number_small t n e) (number_token t n e)
    where
      go : (n : ℤ) → IsSmall n → token_of_number n ≡ Some t → IsWordOf t (signed_decimal n)
      go (pos n) small back =
          let all = all_digits n (omega (arith, small)) in (
            decimal_nonempty n (omega (arith, small)),
            digits_in_word (decimal n) all,
            digits_read (decimal n) n (Some t) (decimal_nonempty n (omega (arith, small))) all
                (magnitude_back n (omega (arith, small))) back,
          )
      go (negsuc n) small back =
          let all = all_digits (suc n) (omega (arith, small)) in (
            omega arith,
            digits_in_word (decimal (suc n)) all,
            ap (λ (o : Option ℕ). token_of_some (option_map (λ n. neg_ℤ (pos n)) o))
                (magnitude_back (suc n) (omega (arith, small))) ∙ back,
          )

  capitals_read : (w : List ℕ) → 0 < length w → list_all is_capital w ≡ true →
      token_of_word added w ≡ first_found (token_named w) (added_token added w)
  capitals_read [] some all = absurd (omega arith)
  capitals_read (c ∷ w) some all =
      let p = both (is_capital c) (list_all is_capital w) all in
      rw (capital_no_hash c p.0, capital_no_number c p.0, all) refl

  name_read : (t : ℕ) (name : List ℕ) → is_good_name name ≡ true → first_found (token_named name) (added_token added name) ≡ Some t
      → IsWordOf t name
  name_read t name good e =
      let p = both (nat_lt 0 (length name)) (list_all is_capital name) good in
      let some : 0 < length name = (let q = p.0 in grind (arith, nat_tests)) in
      (some, capitals_in_word name p.1, capitals_read name some p.1 ∙ e)

  hex_read : (t : ℕ) → t < 65536 → IsWordOf t (hex_text t)
  hex_read t h =
      let a = hex_back (t / 4096) (omega arith) in
      let b = hex_back (t / 256 % 16) (omega arith) in
      let c = hex_back (t / 16 % 16) (omega arith) in
      let d = hex_back (t % 16) (omega arith) in
      (omega arith, rw (a.1, b.1, c.1, d.1) refl, rw (a.0, b.0, c.0, d.0) (ap Some (omega arith)))

  -- an added name is parsed as its token
  abbrev AreReadBack : Type 0
  AreReadBack = (t : ℕ) (name : List ℕ) → added_name_of added t ≡ Some name →
      (is_good_name name ≡ true) × (token_named name ≡ None) × (added_token added name ≡ Some t)

  abbrev NamesComeBack : Type 0
  NamesComeBack = (t : ℕ) (name : List ℕ) → name_of t ≡ Some name → token_named name ≡ Some t

  -- a piece that is printed for tokens
  abbrev IsPieceOf : List ℕ → List ℕ → Piece → Type 0
  IsPieceOf text ts piece =
      (bytes_of_piece piece ≡ text)
      × ((rest : List ℕ) → begins_in_word rest ≡ false → IsPieceBefore piece rest)
      × (tokens_of_piece added piece ≡ Some ts)

  abbrev HasPiece : List ℕ → List ℕ → Type 0
  HasPiece text ts = (piece : Piece) × IsPieceOf text ts piece

  word_piece : (t : ℕ) (w text : List ℕ) → text ≡ w → IsWordOf t w → HasPiece text (t ∷ [])
  word_piece t w text e h =
      (line.Word w, (sym e, λ rest ended. (h.0, h.1, ended), rw h.2 refl))

  token_piece : AreReadBack → NamesComeBack → (t : ℕ) → t < 65536 → HasPiece (text_of_token added t) (t ∷ [])
  token_piece back known t h = brackets (t == bra) refl (t == ket) refl
    where
      unnamed : (t == bra) ≡ false → (t == ket) ≡ false → number_of t ≡ None → name_of t ≡ None →
          (o : Option (List ℕ)) → added_name_of added t ≡ o → HasPiece (text_of_token added t) (t ∷ [])
      unnamed a b c d (Some name) e =
          let k = back t name e in
          word_piece t name (text_of_token added t) (rw (a, b, c, d, e) refl) (name_read t name k.0 (rw k.1 k.2))
      unnamed a b c d None e = word_piece t (hex_text t) (text_of_token added t) (rw (a, b, c, d, e) refl) (hex_read t h)

      named : (t == bra) ≡ false → (t == ket) ≡ false → number_of t ≡ None → (o : Option (List ℕ)) → name_of t ≡ o →
          HasPiece (text_of_token added t) (t ∷ [])
      named a b c (Some name) e =
          word_piece t name (text_of_token added t) (rw (a, b, c, e) refl)
          (name_read t name (name_good t name e) (rw (known t name e) refl))
      named a b c None e = unnamed a b c e (added_name_of added t) refl

      numbers : (t == bra) ≡ false → (t == ket) ≡ false → (o : Option ℤ) → number_of t ≡ o →
          HasPiece (text_of_token added t) (t ∷ [])
      numbers a b (Some n) e =
          word_piece t (signed_decimal n) (text_of_token added t) (rw (a, b, e) refl) (number_read t n e)
      numbers a b None e = named a b e (name_of t) refl

      brackets : (a : Bool) → (t == bra) ≡ a → (b : Bool) → (t == ket) ≡ b → HasPiece (text_of_token added t) (t ∷ [])
      brackets true e b f =
          (line.Sign 40, (rw e refl, λ rest ended. refl, ap (λ (u : ℕ). Some (u ∷ [])) (sym (eqb-true t bra e))))
      brackets false e true f =
          (line.Sign 41, (rw (e, f) refl, λ rest ended. refl, ap (λ (u : ℕ). Some (u ∷ [])) (sym (eqb-true t ket f))))
      brackets false e false f = numbers e f (number_of t) refl

  -- ---- items

  abbrev tokens_of_item : TextItem → List ℕ
  tokens_of_item (Word t) = t ∷ []
  tokens_of_item (Quote characters) = map character_token characters

  abbrev tokens_of_items : List TextItem → List ℕ
  tokens_of_items [] = []
  tokens_of_items (item ∷ items) = tokens_of_item item ++ tokens_of_items items

  abbrev IsGood : TextItem → Type 0
  IsGood (Word t) = t < 65536
  IsGood (Quote characters) = (list_all is_in_quote characters ≡ true) × (list_all is_printable characters ≡ true)

  abbrev AreGood : List TextItem → Type 0
  AreGood [] = Unit {0}
  AreGood (item ∷ items) = IsGood item × AreGood items

  item_piece : AreReadBack → NamesComeBack → (item : TextItem) → IsGood item → HasPiece (item_text added item) (tokens_of_item item)
  item_piece back known (Word t) h = token_piece back known t h
  item_piece back known (Quote characters) h = (line.Quote characters, (refl, λ rest ended. h.0, rw h.1 refl))

  abbrev Reads : List ℕ → List ℕ → Type 0
  Reads text ts = (column : ℕ) → IsReadFrom added column text (Ok ts)

  piece_first : (piece : Piece) (rest ts us : List ℕ) → IsPieceBefore piece rest → tokens_of_piece added piece ≡ Some ts →
      Reads rest us → Reads (bytes_of_piece piece ++ rest) (ts ++ us)
  piece_first piece rest ts us before tokens h column =
      let r = h (column + length (bytes_of_piece piece)) in (
        piece ∷ r.0,
        (rest, refl, before, r.1),
        ap (read_on column (Some ts)) r.2
            ∙ ap (λ (o : Option (List ℕ)). read_on column o
            (read_pieces added (column + length (bytes_of_piece piece)) r.0)) (sym tokens),
      )

  has_first : (text rest ts us : List ℕ) → begins_in_word rest ≡ false → HasPiece text ts → Reads rest us →
      Reads (text ++ rest) (ts ++ us)
  has_first text rest ts us ended p h =
      subst (λ (l : List ℕ). Reads (l ++ rest) (ts ++ us)) p.1.0
      (piece_first p.0 rest ts us (p.1.1 rest ended) p.1.2 h)

  -- items after another item
  abbrev spaced : List TextItem → List ℕ
  spaced [] = []
  spaced (item ∷ items) = 32 ∷ (item_text added item ++ spaced items)

  abbrev joined : List TextItem → List ℕ
  joined [] = []
  joined (item ∷ items) = item_text added item ++ spaced items

  joined_is : (items : List TextItem) → join_with_byte 32 (map (item_text added) items) ≡ joined items
  joined_is [] = refl
  joined_is (i ∷ []) = sym (append-nil (item_text added i))
  joined_is (i ∷ j ∷ items) = ap (λ text. item_text added i ++ (32 ∷ text)) (joined_is (j ∷ items))

  spaced_ends : (items : List TextItem) → begins_in_word (spaced items) ≡ false
  spaced_ends [] = refl
  spaced_ends (item ∷ items) = refl

  spaced_read : AreReadBack → NamesComeBack → (items : List TextItem) → AreGood items →
      Reads (spaced items) (tokens_of_items items)
  spaced_read back known [] h = λ column. ([], refl, refl)
  spaced_read back known (item ∷ items) h =
      piece_first (line.Blank 32) (item_text added item ++ spaced items) [] (tokens_of_item item ++ tokens_of_items items)
      refl refl
      (has_first (item_text added item) (spaced items) (tokens_of_item item) (tokens_of_items items) (spaced_ends items)
      (item_piece back known item h.0) (spaced_read back known items h.1))

  joined_read : AreReadBack → NamesComeBack → (items : List TextItem) → AreGood items →
      Reads (joined items) (tokens_of_items items)
  joined_read back known [] h = λ column. ([], refl, refl)
  joined_read back known (item ∷ items) h =
      has_first (item_text added item) (spaced items) (tokens_of_item item) (tokens_of_items items) (spaced_ends items)
      (item_piece back known item h.0) (spaced_read back known items h.1)

  -- ---- the items of tokens

  abbrev pub AreTokens : List ℕ → Type 0
  AreTokens [] = Unit {0}
  AreTokens (t ∷ ts) = (t < 65536) × AreTokens ts

  are_tokens : (ts : List ℕ) → All (λ t. t < 65536) ts → AreTokens ts
  are_tokens [] h = tt
  are_tokens (t ∷ ts) h = (h 0 t (omega arith), are_tokens ts (λ k d l. h (suc k) d (omega arith)))

  character_good : (t : ℕ) → is_quotable t ≡ true → (is_in_quote (t % 256) ≡ true) × (is_printable (t % 256) ≡ true)
  character_good t e = (grind (arith, nat_tests), grind (arith, nat_tests))

  character_back : (t : ℕ) → is_quotable t ≡ true → character_token (t % 256) ≡ t
  character_back t e = grind (arith, nat_tests)

  before_good : (c : ℕ) (items : List TextItem) → is_in_quote c ≡ true → is_printable c ≡ true → AreGood items →
      AreGood (before_items c items)
  before_good c [] e f h =
      ((together (is_in_quote c) true e refl, together (is_printable c) true f refl), tt)
  before_good c (Quote cs ∷ items) e f h = (
    (
      together (is_in_quote c) (list_all is_in_quote cs) e h.0.0,
      together (is_printable c) (list_all is_printable cs) f h.0.1,
    ),
    h.1,
  )
  before_good c (Word t ∷ items) e f h =
      ((together (is_in_quote c) true e refl, together (is_printable c) true f refl), h)

  before_tokens : (c : ℕ) (items : List TextItem) → tokens_of_items (before_items c items) ≡ character_token c ∷ tokens_of_items items
  before_tokens c [] = refl
  before_tokens c (Quote cs ∷ items) = refl
  before_tokens c (Word t ∷ items) = refl

  items_good : (ts : List ℕ) → AreTokens ts → AreGood (text_items_of ts)
  items_good [] h = tt
  items_good (t ∷ ts) h = go (is_quotable t) refl (items_good ts h.1)
    where
      go : (b : Bool) → is_quotable t ≡ b → AreGood (text_items_of ts) →
          AreGood (if b then before_items (t % 256) (text_items_of ts) else Word t ∷ text_items_of ts)
      go true e rest = let c = character_good t e in before_good (t % 256) (text_items_of ts) c.0 c.1 rest
      go false e rest = (h.0, rest)

  tokens_back : (ts : List ℕ) → tokens_of_items (text_items_of ts) ≡ ts
  tokens_back [] = refl
  tokens_back (t ∷ ts) = go (is_quotable t) refl (tokens_back ts)
    where
      go : (b : Bool) → is_quotable t ≡ b → tokens_of_items (text_items_of ts) ≡ ts →
          tokens_of_items (if b then before_items (t % 256) (text_items_of ts) else Word t ∷ text_items_of ts) ≡ t ∷ ts
      go true e rest =
          before_tokens (t % 256) (text_items_of ts) ∙ ap (λ (u : ℕ). u ∷ tokens_of_items (text_items_of ts)) (character_back t e)
          ∙ ap (λ (l : List ℕ). t ∷ l) rest
      go false e rest = ap (λ (l : List ℕ). t ∷ l) rest

  pub text_back : AreReadBack → NamesComeBack → (ts : List ℕ) → All (λ t. t < 65536) ts →
      IsText added (text_with added ts) ts
  unfolding text_with
  text_back back known ts h =
      let read = joined_read back known (text_items_of ts) (items_good ts (are_tokens ts h)) 1 in
      subst (λ (text : List ℕ). IsText added text ts) (sym (joined_is (text_items_of ts)))
      (subst (λ (us : List ℕ). IsText added (joined (text_items_of ts)) us) (tokens_back ts) read)
