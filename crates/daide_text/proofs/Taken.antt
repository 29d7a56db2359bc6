-- Pieces parsed one by one, and the result for the line.
use Rattle.std.proofs.Common.{◌≡◌, ℕ, zero, suc, ◌+◌, ◌-◌, ◌<◌, ◌⊎◌, inl, inr, true, false, List, [], ◌∷◌, ◌++◌, map}
use Rattle.std.proofs.Common.{length, length-append, append_assoc, append-nil, take, drop, get_or, Option, Some, None}
use Rattle.std.proofs.Common.{Result, Ok, Err, refl, sym, ◌∙◌, ap, arith, subst}
use Rattle.std.specs.List.{list_all}
use Rattle.std.proofs.lemmas.List.{take_rest, take-append-drop}
use Rattle.daide_token.specs.Names.{Named}
use Rattle.daide_token.specs.Token.{bra, ket}
use Rattle.daide_text.specs.Word.{token_of_word}
use Rattle.daide_text.specs.Line.{IsPieceBefore, IsReadAs, IsReadFrom, IsText, Piece, begins_in_word}
use Rattle.daide_text.specs.Line.{bytes_of_piece, character_token, is_in_quote, is_in_word, is_printable, is_space}
use Rattle.daide_text.specs.Line.{read_on, read_pieces, tokens_of_piece, Blank, Sign, Word, Quote, Unclosed}
use Rattle.daide_text.specs.Pieces.{EndsQuote, IsReadUpTo, IsRefusedPiece, IsTakenPiece}
use Rattle.daide_text.proofs.Cuts.{each_line_has_a_cut}

pub first_and_rest : (c : ℕ) (bs : List ℕ) → 0 < length bs → get_or bs 0 0 ≡ c →
    bs ≡ c ∷ take (length bs - 1) (drop 1 bs)
first_and_rest c [] h e = absurd (omega arith)
first_and_rest c (b ∷ bs) h e =
    ap (λ (d : ℕ). d ∷ bs) e ∙ ap (λ (l : List ℕ). c ∷ l) (sym (take_rest (b ∷ bs) 1))

-- a word is not empty
some_word : (n : ℕ) (bs : List ℕ) → begins_in_word bs ≡ true → begins_in_word (drop n bs) ≡ false →
    0 < length (take n bs)
some_word n [] h e = absurd (cc)
some_word zero (b ∷ bs) h e = absurd (let g : false ≡ true = sym e ∙ h in cc)
some_word (suc n) (b ∷ bs) h e = omega arith

module _ (added : List Named) where
  -- the bytes after the first one
  abbrev after_first : List ℕ → List ℕ
  after_first rest = take (length rest - 1) (drop 1 rest)

  blank_taken : (c : ℕ) (rest old : List ℕ) → rest ≡ c ∷ after_first rest → is_space c ≡ true →
      IsTakenPiece added rest (after_first rest) old old
  blank_taken c rest old same e = (Blank c, same, e, [], refl, sym (append-nil old))

  pub blank_first : (rest old : List ℕ) → 0 < length rest → (get_or rest 0 0 ≡ 9) ⊎ (get_or rest 0 0 ≡ 32) →
      IsTakenPiece added rest (after_first rest) old old
  blank_first rest old some (inl e) = blank_taken 9 rest old (first_and_rest 9 rest some e) refl
  blank_first rest old some (inr e) = blank_taken 32 rest old (first_and_rest 32 rest some e) refl

  pub bra_first : (rest old new : List ℕ) → 0 < length rest → get_or rest 0 0 ≡ 40 → new ≡ old ++ bra ∷ [] →
      IsTakenPiece added rest (after_first rest) old new
  bra_first rest old new some first e = (Sign 40, first_and_rest 40 rest some first, refl, bra ∷ [], refl, e)

  pub ket_first : (rest old new : List ℕ) → 0 < length rest → get_or rest 0 0 ≡ 41 → new ≡ old ++ ket ∷ [] →
      IsTakenPiece added rest (after_first rest) old new
  ket_first rest old new some first e = (Sign 41, first_and_rest 41 rest some first, refl, ket ∷ [], refl, e)

  pub word_taken : (n t : ℕ) (rest old new : List ℕ) → begins_in_word rest ≡ true →
      list_all is_in_word (take n rest) ≡ true → begins_in_word (drop n rest) ≡ false →
      token_of_word added (take n rest) ≡ Some t → new ≡ old ++ t ∷ [] →
      IsTakenPiece added rest (drop n rest) old new
  word_taken n t rest old new h all ended e f =
      (Word (take n rest), sym (take-append-drop n rest), (some_word n rest h ended, all, ended), t ∷ [], rw e refl, f)

  pub word_refused : (n : ℕ) (rest : List ℕ) → begins_in_word rest ≡ true →
      list_all is_in_word (take n rest) ≡ true → begins_in_word (drop n rest) ≡ false →
      token_of_word added (take n rest) ≡ None → IsRefusedPiece added rest
  word_refused n rest h all ended e =
      (Word (take n rest), drop n rest, sym (take-append-drop n rest), (some_word n rest h ended, all, ended), rw e refl)

  quote_text : (n : ℕ) (rest : List ℕ) → rest ≡ take n rest ++ 39 ∷ drop (n + 1) rest →
      39 ∷ rest ≡ (39 ∷ take n rest ++ 39 ∷ []) ++ drop (n + 1) rest
  quote_text n rest e =
      ap (λ (l : List ℕ). 39 ∷ l) (e ∙ sym (append_assoc (take n rest) (39 ∷ []) (drop (n + 1) rest)))

  pub quote_taken : (n : ℕ) (rest old new : List ℕ) → EndsQuote n rest → list_all is_printable (take n rest) ≡ true →
      new ≡ old ++ map character_token (take n rest) → IsTakenPiece added (39 ∷ rest) (drop (n + 1) rest) old new
  quote_taken n rest old new h p e =
      (Quote (take n rest), quote_text n rest h.2, h.1, map character_token (take n rest), rw p refl, e)

  pub quote_refused : (n : ℕ) (rest : List ℕ) → EndsQuote n rest → list_all is_printable (take n rest) ≡ false →
      IsRefusedPiece added (39 ∷ rest)
  quote_refused n rest h p = (Quote (take n rest), drop (n + 1) rest, quote_text n rest h.2, h.1, rw p refl)

  pub unclosed_refused : (rest : List ℕ) → list_all is_in_quote rest ≡ true → IsRefusedPiece added (39 ∷ rest)
  unclosed_refused rest all =
      (Unclosed rest, [], ap (λ (l : List ℕ). 39 ∷ l) (sym (append-nil rest)), (all, refl), refl)

  -- the result for a line whose front was parsed

  read_both : (ts us : List ℕ) (column : ℕ) (outcome : Result (List ℕ) ℕ) →
      read_on 0 (Some ts) (read_on column (Some us) outcome) ≡ read_on 0 (Some (ts ++ us)) outcome
  read_both ts us column (Ok vs) = ap Ok (sym (append_assoc ts us vs))
  read_both ts us column (Err later) = refl

  -- one more piece
  more : (line rest after ts us : List ℕ) (piece : Piece) (front : List ℕ) → rest ≡ bytes_of_piece piece ++ after →
      IsPieceBefore piece after → tokens_of_piece added piece ≡ Some us → (outcome : Result (List ℕ) ℕ) →
      IsReadFrom added (length (front ++ bytes_of_piece piece) + 1) after outcome →
      IsReadFrom added (length front + 1) rest (read_on (length front + 1) (Some us) outcome)
  more line rest after ts us piece front same before tokens outcome h =
      let place : length (front ++ bytes_of_piece piece) + 1 ≡ length front + 1 + length (bytes_of_piece piece) =
      omega (arith, length-append front (bytes_of_piece piece)) in (
        piece ∷ h.0,
        (after, same, before, h.1),
        ap (read_on (length front + 1) (Some us)) (h.2 ∙ ap (λ (column : ℕ). read_pieces added column h.0) place)
            ∙ ap (λ (o : Option (List ℕ)). read_on (length front + 1) o
            (read_pieces added (length front + 1 + length (bytes_of_piece piece)) h.0)) (sym tokens),
      )

  pub piece_read : (line rest after ts new : List ℕ) → IsReadUpTo added line rest ts →
      IsTakenPiece added rest after ts new → IsReadUpTo added line after new
  piece_read line rest after ts new so h = record {
    front = so.front ++ bytes_of_piece h.0;
    whole = so.whole ∙ ap (λ (l : List ℕ). so.front ++ l) h.1
        ∙ sym (append_assoc so.front (bytes_of_piece h.0) after);
    goes_on = λ outcome given. subst (IsReadAs added line)
        (read_both ts h.3 (length so.front + 1) outcome ∙ ap (λ (l : List ℕ). read_on 0 (Some l) outcome) (sym h.5))
        (so.goes_on (read_on (length so.front + 1) (Some h.3) outcome)
        (more line rest after ts h.3 h.0 so.front h.1 h.2 h.4 outcome given));
  }

  pub all_read : (line rest ts : List ℕ) → IsReadUpTo added line rest ts → length rest ≡ 0 → IsText added line ts
  all_read line [] ts so e =
      subst (λ (l : List ℕ). IsReadAs added line (Ok l)) (append-nil ts) (so.goes_on (Ok []) ([], refl, refl))
  all_read line (c ∷ rest) ts so e = absurd (omega (arith, e))

  pub fault_read : (line rest ts : List ℕ) → IsReadUpTo added line rest ts → IsRefusedPiece added rest →
      IsReadAs added line (Err (length line - length rest + 1))
  fault_read line rest ts so h =
      let cut = each_line_has_a_cut h.1 in
      let here : length line - length rest + 1 ≡ length so.front + 1 =
      omega (arith, ap length so.whole, length-append so.front rest) in
      subst (λ (k : ℕ). IsReadAs added line (Err k)) (sym here)
      (so.goes_on (Err (length so.front + 1)) (
        h.0 ∷ cut.0,
        (h.1, h.2, h.3, cut.1),
        ap (λ (o : Option (List ℕ)). read_on (length so.front + 1) o
            (read_pieces added (length so.front + 1 + length (bytes_of_piece h.0)) cut.0)) (sym h.4),
      ))
