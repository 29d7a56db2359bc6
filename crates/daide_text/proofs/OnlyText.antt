-- A line that is read has only characters from space to `~`, and tabs.
use Rattle.std.proofs.Common.{◌≡◌, ◌==◌, ◌&&◌, ◌||◌, nat_le, nat_lt, ℕ, ◌+◌, ◌-◌, Bool, true, false, List, [], ◌∷◌, ◌++◌}
use Rattle.std.proofs.Common.{length, Option, Some, None, option_map, Result, Ok, Err, if◌then◌else◌, refl, sym, subst, arith, ◌∙◌}
use Rattle.std.proofs.Common.{ℤ, pos, neg_ℤ, map}
use Rattle.std.specs.List.{list_all}
use Rattle.std.proofs.lemmas.Bool.Decides.{nat_tests}
use Rattle.std.proofs.lemmas.List.Folds.{list_all-append}
use Rattle.daide_token.specs.Names.{Named, token_named}
use Rattle.daide_words.specs.Accepted.{is_capital}
use Rattle.daide_text.specs.Word.{added_token, first_found, greatest_magnitude, hex_value, is_digit, magnitude, token_of_decimal}
use Rattle.daide_text.specs.Word.{token_of_hex, token_of_name, token_of_some, token_of_values, token_of_word, value_after}
use Rattle.daide_text.specs.Line.{IsCut, IsPieceBefore, IsText, Piece, Blank, Sign, Quote, Unclosed, bytes_of_piece, is_printable}
use Rattle.daide_text.specs.Line.{is_sign, is_space, character_token, read_on, read_pieces, tokens_of_piece}
use Rattle.daide_text.specs.Line as line
use Rattle.daide_text.proofs.Cuts.{both, together}

abbrev pub is_text : ℕ → Bool
is_text c = is_printable c || c == 9

weaker : (p : ℕ → Bool) → ((c : ℕ) → p c ≡ true → is_text c ≡ true) → (cs : List ℕ) → list_all p cs ≡ true →
    list_all is_text cs ≡ true
weaker p h [] e = refl
weaker p h (c ∷ cs) e =
    let q = both (p c) (list_all p cs) e in together (is_text c) (list_all is_text cs) (h c q.0) (weaker p h cs q.1)

printable_text : (c : ℕ) → is_printable c ≡ true → is_text c ≡ true
printable_text c e = rw e refl

digit_text : (c : ℕ) → is_digit c ≡ true → is_text c ≡ true
digit_text c e = grind (arith, nat_tests)

capital_text : (c : ℕ) → is_capital c ≡ true → is_text c ≡ true
capital_text c e = grind (arith, nat_tests)

-- these bytes are text, if they are a token
abbrev IsTextIfSome : {A : Type 0} → Option A → List ℕ → Type 0
IsTextIfSome None cs = Unit {0}
IsTextIfSome (Some t) cs = list_all is_text cs ≡ true

hex_text : (c : ℕ) → IsTextIfSome (hex_value c) (c ∷ [])
hex_text c = go (nat_le 48 c && nat_le c 57) refl (nat_le 65 c && nat_le c 70) refl (nat_le 97 c && nat_le c 102) refl
  where
    go : (a : Bool) → (nat_le 48 c && nat_le c 57) ≡ a → (b : Bool) → (nat_le 65 c && nat_le c 70) ≡ b →
        (d : Bool) → (nat_le 97 c && nat_le c 102) ≡ d →
        IsTextIfSome (if a then Some (c - 48) else if b then Some (c - 55) else if d then Some (c - 87) else None) (c ∷ [])
    go true e b f d g = grind (arith, nat_tests)
    go false e true f d g = grind (arith, nat_tests)
    go false e false f true g = grind (arith, nat_tests)
    go false e false f false g = tt

values_text : (v w x y : Option ℕ) (a b c d : ℕ) → IsTextIfSome v (a ∷ []) → IsTextIfSome w (b ∷ []) →
    IsTextIfSome x (c ∷ []) → IsTextIfSome y (d ∷ []) → IsTextIfSome (token_of_values v w x y) (35 ∷ a ∷ b ∷ c ∷ d ∷ [])
values_text (Some v) (Some w) (Some x) (Some y) a b c d h i j k =
    together (is_text a) _ (both (is_text a) true h).0
    (together (is_text b) _ (both (is_text b) true i).0 (together (is_text c) _ (both (is_text c) true j).0 k))
values_text None w x y a b c d h i j k = tt
values_text (Some v) None x y a b c d h i j k = tt
values_text (Some v) (Some w) None y a b c d h i j k = tt
values_text (Some v) (Some w) (Some x) None a b c d h i j k = tt

hexes_text : (digits : List ℕ) → IsTextIfSome (token_of_hex digits) (35 ∷ digits)
hexes_text [] = tt
hexes_text (a ∷ []) = tt
hexes_text (a ∷ b ∷ []) = tt
hexes_text (a ∷ b ∷ c ∷ []) = tt
hexes_text (a ∷ b ∷ c ∷ d ∷ []) =
    values_text (hex_value a) (hex_value b) (hex_value c) (hex_value d) a b c d (hex_text a) (hex_text b) (hex_text c)
    (hex_text d)
hexes_text (a ∷ b ∷ c ∷ d ∷ e ∷ digits) = tt

magnitude_text : (digits : List ℕ) → IsTextIfSome (magnitude digits) digits
magnitude_text digits = go (nat_lt 0 (length digits)) (list_all is_digit digits) refl (nat_le (value_after 0 digits) greatest_magnitude)
  where
    go : (a b : Bool) → list_all is_digit digits ≡ b → (c : Bool) →
        IsTextIfSome (if a && (b && c) then Some (value_after 0 digits) else None) digits
    go true true e true = weaker is_digit digit_text digits e
    go true true e false = tt
    go true false e c = tt
    go false b e c = tt

number_text : (o : Option ℕ) (f : ℕ → ℤ) (cs : List ℕ) → IsTextIfSome o cs →
    IsTextIfSome (token_of_some (option_map f o)) cs
number_text None f cs h = tt
number_text (Some n) f cs h = some (token_of_some (Some (f n)))
  where
    some : (o : Option ℕ) → IsTextIfSome o cs
    some None = tt
    some (Some t) = h

after_minus : (o : Option ℕ) (c : ℕ) (cs : List ℕ) → (c == 45) ≡ true → IsTextIfSome o cs → IsTextIfSome o (c ∷ cs)
after_minus None c cs e h = tt
after_minus (Some t) c cs e h = together (is_text c) (list_all is_text cs) (grind (arith, nat_tests)) h

decimal_text : (w : List ℕ) → IsTextIfSome (token_of_decimal w) w
decimal_text [] = tt
decimal_text (c ∷ digits) = go (c == 45) refl
  where
    go : (b : Bool) → (c == 45) ≡ b → IsTextIfSome (if b
        then token_of_some (option_map (λ n. neg_ℤ (pos n)) (magnitude digits))
        else token_of_some (option_map (λ n. pos n) (magnitude (c ∷ digits)))) (c ∷ digits)
    go true e =
        after_minus (token_of_some (option_map (λ n. neg_ℤ (pos n)) (magnitude digits))) c digits e
        (number_text (magnitude digits) (λ n. neg_ℤ (pos n)) digits (magnitude_text digits))
    go false e = number_text (magnitude (c ∷ digits)) (λ n. pos n) (c ∷ digits) (magnitude_text (c ∷ digits))

module _ (added : List Named) where
  name_text : (o : Option ℕ) (name : List ℕ) (b : Bool) → list_all is_capital name ≡ b →
      IsTextIfSome (if b then o else None) name
  name_text None name true e = tt
  name_text (Some t) name true e = weaker is_capital capital_text name e
  name_text o name false e = tt

  word_text : (w : List ℕ) → IsTextIfSome (token_of_word added w) w
  word_text [] = tt
  word_text (c ∷ w) = go (c == 35) refl (c == 45 || is_digit c)
    where
      hash : (a : ℕ) → (a == 35) ≡ true → IsTextIfSome (token_of_hex w) (35 ∷ w) → IsTextIfSome (token_of_hex w) (a ∷ w)
      hash a e h = subst (λ (x : ℕ). IsTextIfSome (token_of_hex w) (x ∷ w)) (grind (arith, nat_tests)) h

      go : (a : Bool) → (c == 35) ≡ a → (b : Bool) →
          IsTextIfSome (if a then token_of_hex w else if b then token_of_decimal (c ∷ w) else token_of_name added (c ∷ w)) (c ∷ w)
      go true e b = hash c e (hexes_text w)
      go false e true = decimal_text (c ∷ w)
      go false e false =
          name_text (first_found (token_named (c ∷ w)) (added_token added (c ∷ w))) (c ∷ w) (list_all is_capital (c ∷ w)) refl

  one_text : (o : Option ℕ) (w : List ℕ) → IsTextIfSome o w → IsTextIfSome (option_map (λ t. t ∷ []) o) w
  one_text None w h = tt
  one_text (Some t) w h = h

  piece_text : (piece : Piece) (rest : List ℕ) → IsPieceBefore piece rest →
      IsTextIfSome (tokens_of_piece added piece) (bytes_of_piece piece)
  piece_text (Blank c) rest h = grind (arith, nat_tests)
  piece_text (Sign c) rest h = grind (arith, nat_tests)
  piece_text (line.Word w) rest h = one_text (token_of_word added w) w (word_text w)
  piece_text (Quote cs) rest h = go (list_all is_printable cs) refl
    where
      go : (b : Bool) → list_all is_printable cs ≡ b →
          IsTextIfSome (if b then Some (map character_token cs) else None) (39 ∷ cs ++ 39 ∷ [])
      go true e = list_all-append is_text cs (39 ∷ []) ∙ rw (weaker is_printable printable_text cs e) refl
      go false e = tt
  piece_text (Unclosed cs) rest h = tt

  abbrev IsTextIfOk : Result (List ℕ) ℕ → List ℕ → Type 0
  IsTextIfOk (Ok ts) cs = list_all is_text cs ≡ true
  IsTextIfOk (Err column) cs = Unit {0}

  on_text : (column : ℕ) (o : Option (List ℕ)) (r : Result (List ℕ) ℕ) (cs ds : List ℕ) → IsTextIfSome o cs →
      IsTextIfOk r ds → IsTextIfOk (read_on column o r) (cs ++ ds)
  on_text column None r cs ds h i = tt
  on_text column (Some ts) (Err later) cs ds h i = tt
  on_text column (Some ts) (Ok us) cs ds h i = list_all-append is_text cs ds ∙ together _ _ h i

  line_text : (column : ℕ) (pieces : List Piece) (text : List ℕ) → IsCut text pieces →
      IsTextIfOk (read_pieces added column pieces) text
  line_text column [] text cut = rw cut refl
  line_text column (piece ∷ pieces) text cut =
      let rest = cut.0 in
      subst (IsTextIfOk (read_pieces added column (piece ∷ pieces))) (sym cut.1)
      (on_text column (tokens_of_piece added piece) (read_pieces added (column + length (bytes_of_piece piece)) pieces)
      (bytes_of_piece piece) rest (piece_text piece rest cut.2)
      (line_text (column + length (bytes_of_piece piece)) pieces rest cut.3))

  pub read_text : (text ts : List ℕ) → IsText added text ts → list_all is_text text ≡ true
  read_text text ts h =
      subst (λ (r : Result (List ℕ) ℕ). IsTextIfOk r text) (sym h.2) (line_text 1 h.0 text h.1)
