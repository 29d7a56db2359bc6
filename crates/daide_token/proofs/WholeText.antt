-- The text that is written token by token is the items with spaces between them.
use Rattle.std.proofs.lemmas.List.{append-nil}
use Rattle.std.specs.List.{join_with_byte}
use Rattle.daide_token.proofs.Common.{◌≡◌, ℕ, ◌%◌, Bool, true, false, if◌then◌else◌, List, [], ◌∷◌, ◌++◌, map, refl, ap}
use Rattle.daide_token.proofs.Common.{append_assoc, ◌∙◌, sym, is_quotable, text_with, text_of_token, Named, before_item}
use Rattle.daide_token.proofs.Common.{before_character, rest_of_text, PrinterState}
use Rattle.daide_token.specs.Text.{TextItem, Word, Quote, before_items, text_items_of, item_text}
use Rattle.daide_token.specs.declared.text.PrinterState.TheVariants as place

module _ (added : List Named) where
  -- items after another item
  abbrev after_word : List TextItem → List ℕ
  after_word [] = []
  after_word (i ∷ is) = 32 ∷ (item_text added i ++ after_word is)

  -- items, the first of which continues an open run
  abbrev after_quote : List TextItem → List ℕ
  after_quote [] = 39 ∷ []
  after_quote (Quote cs ∷ is) = cs ++ (39 ∷ after_word is)
  after_quote (Word t ∷ is) = 39 ∷ after_word (Word t ∷ is)

  abbrev from_start : List TextItem → List ℕ
  from_start [] = []
  from_start (i ∷ is) = item_text added i ++ after_word is

  -- the items as they are written after what was printed last
  abbrev items_from : PrinterState → List TextItem → List ℕ
  items_from place.Start is = from_start is
  items_from place.Word is = after_word is
  items_from place.Quote is = after_quote is

  join_with_byte-item_text : (is : List TextItem) → join_with_byte 32 (map (item_text added) is) ≡ from_start is
  join_with_byte-item_text [] = refl
  join_with_byte-item_text (i ∷ []) = sym (append-nil (item_text added i))
  join_with_byte-item_text (i ∷ j ∷ is) = ap (λ text. item_text added i ++ (32 ∷ text)) (join_with_byte-item_text (j ∷ is))

  -- a character joins the items at their front, whatever item is first
  character_first : (p : PrinterState) (c : ℕ) (is : List TextItem) →
      before_character p ++ (c ∷ []) ++ after_quote is ≡ items_from p (before_items c is)
  character_first place.Start c [] = refl
  character_first place.Start c (Quote cs ∷ is) =
      ap (λ text. 39 ∷ c ∷ text) (sym (append_assoc cs (39 ∷ []) (after_word is)))
  character_first place.Start c (Word t ∷ is) = refl
  character_first place.Word c [] = refl
  character_first place.Word c (Quote cs ∷ is) =
      ap (λ text. 32 ∷ 39 ∷ c ∷ text) (sym (append_assoc cs (39 ∷ []) (after_word is)))
  character_first place.Word c (Word t ∷ is) = refl
  character_first place.Quote c [] = refl
  character_first place.Quote c (Quote cs ∷ is) = refl
  character_first place.Quote c (Word t ∷ is) = refl

  word_first : (p : PrinterState) (t : ℕ) (is : List TextItem) →
      before_item p ++ text_of_token added t ++ after_word is ≡ items_from p (Word t ∷ is)
  word_first place.Start t is = refl
  word_first place.Word t is = refl
  word_first place.Quote t is = refl

  -- one token, by whether it is a character
  token_first : (b : Bool) (p : PrinterState) (t : ℕ) (ts : List ℕ)
      → ((q : PrinterState) → rest_of_text added q ts ≡ items_from q (text_items_of ts))
      → (if b then before_character p ++ (t % 256) ∷ [] else before_item p ++ text_of_token added t)
      ++ rest_of_text added (if b then place.Quote else place.Word) ts
      ≡ items_from p (if b then before_items (t % 256) (text_items_of ts) else Word t ∷ text_items_of ts)
  token_first true p t ts ih = rw (ih place.Quote) (character_first p (t % 256) (text_items_of ts))
  token_first false p t ts ih = rw (ih place.Word) (word_first p t (text_items_of ts))

  rest_of_text-items : (ts : List ℕ) (p : PrinterState) → rest_of_text added p ts ≡ items_from p (text_items_of ts)
  rest_of_text-items [] place.Start = refl
  rest_of_text-items [] place.Word = refl
  rest_of_text-items [] place.Quote = refl
  rest_of_text-items (t ∷ ts) place.Start = token_first (is_quotable t) place.Start t ts (rest_of_text-items ts)
  rest_of_text-items (t ∷ ts) place.Word = token_first (is_quotable t) place.Word t ts (rest_of_text-items ts)
  rest_of_text-items (t ∷ ts) place.Quote = token_first (is_quotable t) place.Quote t ts (rest_of_text-items ts)

  pub rest_of_text-start : (ts : List ℕ) → rest_of_text added place.Start ts ≡ text_with added ts
  unfolding text_with
  rest_of_text-start ts = rest_of_text-items ts place.Start ∙ sym (join_with_byte-item_text (text_items_of ts))
