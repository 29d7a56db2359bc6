-- What an operator's words change: a list without their codes is a message exactly if it is one without the words.
use Rattle.std.proofs.lemmas.List.Folds.{list_all-append}
use Rattle.daide_grammar.proofs.Common.{◌≡◌, ℕ, suc, Bool, true, false, not, ◌==◌, ◌||◌, List, [], ◌∷◌, ◌++◌, refl, sym}
use Rattle.daide_grammar.proofs.Common.{◌∙◌, ap, subst, inl, inr, ◌↔◌, nat_le, list_all, Bra, Ket, Word, class_of}
use Rattle.daide_grammar.proofs.Common.{is_standard, standard_class, Level, Side2, level_number, Matches, token}
use Rattle.daide_grammar.proofs.Common.{nothing, both, first, second, no_more, one_more, bracketed, by_name, both-pass}
use Rattle.daide_grammar.specs.Forms.{Slot, Press_slot, Arrangement_slot, Flat_slot, TokenTest, Accepts, Form, never}
use Rattle.daide_grammar.specs.Forms.{tok, from_level, ◌·◌, group, Any_name, Place_name, Unit_name, Order_name}
use Rattle.daide_grammar.specs.Forms.{Arrangement_name, Flat_name, Fact_name, Press_name, Send_name, Request_name}
use Rattle.daide_grammar.specs.Forms.{Added, Dialect, is}
use Rattle.daide_grammar.specs.Words.{AddedWord, Words, WordSlot, press_word, arrangement_word, is_code, has_no_word}
use Rattle.daide_grammar.specs.Words.{operand_in, stands_in, word_form}
use Rattle.daide_grammar.specs.SideMessages.{standard, dialect_from, dialect_of, message_form, IsMessage, IsMessageOver}

-- no token of the list is a word
abbrev HasNone : Words → List ℕ → Type 0
HasNone words m = has_no_word words m ≡ true

-- neither does a part of it
parts-have-none : (words : Words) (u v : List ℕ) → HasNone words (u ++ v) → HasNone words u × HasNone words v
parts-have-none words u v h =
    both-pass (list_all (λ t. not (is_code words t)) u) (list_all (λ t. not (is_code words t)) v)
    (sym (list_all-append (λ t. not (is_code words t)) u v) ∙ h)

-- if a disjunction is false, both sides are
neither : (a b : Bool) → not (a || b) ≡ true → (a ≡ false) × (not b ≡ true)
neither true b e = absurd cc
neither false b e = (refl, e)

-- a token that is no word has its own class
class-stays : (place : ℕ) (words : Words) (t : ℕ) → not (is_code words t) ≡ true →
    (dialect_from place words).class_of t ≡ class_of t
class-stays place [] t h = refl
class-stays place (word ∷ words) t h =
    let p = neither (t == word.code) (is_code words t) h in
    rw p.0 (class-stays (suc place) words t p.1)

module _ (words : Words) where
  -- the dialect with the words
  abbrev spoken : Dialect
  spoken = dialect_of words

  -- a test gives the same result for a token that is no word
  asks-the-same : (k : TokenTest) (t : ℕ) → not (is_code words t) ≡ true →
      Accepts k (class_of t) → Accepts k (spoken.class_of t)
  asks-the-same k t h e = subst (Accepts k) (sym (class-stays 0 words t h)) e

  asked-before : (k : TokenTest) (t : ℕ) → not (is_code words t) ≡ true →
      Accepts k (spoken.class_of t) → Accepts k (class_of t)
  asked-before k t h e = subst (Accepts k) (class-stays 0 words t h) e

  -- a single token, and the brackets around a list
  one-has-none : (t : ℕ) → HasNone words (t ∷ []) → not (is_code words t) ≡ true
  one-has-none t h = (both-pass (not (is_code words t)) true h).0

  round-has-none : (b k : ℕ) (u : List ℕ) → HasNone words (b ∷ (u ++ k ∷ [])) →
      (not (is_code words b) ≡ true) × HasNone words u × (not (is_code words k) ≡ true)
  round-has-none b k u h =
      let p = both-pass (not (is_code words b)) (list_all (λ t. not (is_code words t)) (u ++ k ∷ [])) h in
      let q = parts-have-none words u (k ∷ []) p.1 in
      (p.0, q.0, one-has-none k q.1)

  -- a list that matches a form of the protocol matches it with the words
  kept : (f : Form) (m : List ℕ) → HasNone words m → Matches standard f m → Matches spoken f m
  kept f m h (token {k = k} {t = t} e) = token (asks-the-same k t (one-has-none t h) e)
  kept f m h nothing = nothing
  kept f m h (both {f = a} {g = b} {u = u} {v = v} x y) =
      let p = parts-have-none words u v h in both (kept a u p.0 x) (kept b v p.1 y)
  kept f m h (first {f = a} x) = first (kept a m h x)
  kept f m h (second {g = b} x) = second (kept b m h x)
  kept f m h no_more = no_more
  kept f m h (one_more {f = a} {u = u} {v = v} x y) =
      let p = parts-have-none words u v h in one_more (kept a u p.0 x) (kept f v p.1 y)
  kept f m h (bracketed {f = a} {u = u} b k x y z) =
      let p = round-has-none b k u h in
      bracketed b k (asks-the-same (is Bra) b p.0 x) (kept a u p.1 y) (asks-the-same (is Ket) k p.2 z)
  kept f m h (by_name {n = Any_name} x) = by_name {n = Any_name} (kept _ m h x)
  kept f m h (by_name {n = Place_name} x) = by_name {n = Place_name} (kept _ m h x)
  kept f m h (by_name {n = Unit_name} x) = by_name {n = Unit_name} (kept _ m h x)
  kept f m h (by_name {n = Order_name} x) = by_name {n = Order_name} (kept _ m h x)
  kept f m h (by_name {n = Arrangement_name l} x) = by_name {n = Arrangement_name l} (kept _ m h x)
  kept f m h (by_name {n = Flat_name l} x) = by_name {n = Flat_name l} (kept _ m h x)
  kept f m h (by_name {n = Fact_name l} x) = by_name {n = Fact_name l} (kept _ m h x)
  kept f m h (by_name {n = Press_name l} x) = by_name {n = Press_name l} (kept _ m h x)
  kept f m h (by_name {n = Send_name l} x) = by_name {n = Send_name l} (kept _ m h x)
  kept f m h (by_name {n = Request_name l} x) = by_name {n = Request_name l} (kept _ m h x)
  kept f m h (by_name {n = Added s l} x) = elim x [ ]

  -- a token that is no operator's word has no word's class
  no-word : (place : ℕ) (t : ℕ) → not (is_code words t) ≡ true →
      spoken.class_of t ≡ Word place → ⊥
  no-word place t h e =
      let is_word : Word place ≡ class_of t = sym e ∙ class-stays 0 words t h in
      let standard_word : is_standard (Word place) ≡ true = ap is_standard is_word ∙ standard_class t in
      absurd cc

  -- no form of a word matches the list
  no-from_level : (place : ℕ) (b : Bool) (g : Form) (m : List ℕ) → HasNone words m →
      Matches spoken (elim b [ true ↦ tok (Word place) · g | false ↦ never ]) m → ⊥
  no-from_level place true g m h (both {v = v} (token {t = t} e) y) =
      no-word place t (one-has-none t (parts-have-none words (t ∷ []) v h).0) e
  no-from_level place false g m h x = elim x [ ]

  no-form : (place : ℕ) (word : AddedWord) (s : Slot) (l : Level) (m : List ℕ) → HasNone words m →
      Matches spoken (word_form place word s l) m → ⊥
  no-form place word s l m h x = go word.slot s x
    where
      b : Bool
      b = nat_le (level_number word.level) (level_number l)

      go : (slot : WordSlot) (t : Slot) →
          Matches spoken (stands_in slot t (from_level word.level l (tok (Word place) · group (operand_in word.operand s l))))
          m → ⊥
      go press_word Press_slot y = no-from_level place b (group (operand_in word.operand s l)) m h y
      go press_word Arrangement_slot y = elim y [ ]
      go press_word Flat_slot y = elim y [ ]
      go arrangement_word Press_slot y = elim y [ ]
      go arrangement_word Arrangement_slot y = no-from_level place b (group (operand_in word.operand s l)) m h y
      go arrangement_word Flat_slot y = no-from_level place b (group (operand_in word.operand s l)) m h y

  no-added : (place : ℕ) (some_words : Words) (s : Slot) (l : Level) (m : List ℕ) → HasNone words m →
      Matches spoken ((dialect_from place some_words).added s l) m → ⊥
  no-added place [] s l m h x = elim x [ ]
  no-added place (word ∷ some_words) s l m h (first x) = no-form place word s l m h x
  no-added place (word ∷ some_words) s l m h (second x) = no-added (suc place) some_words s l m h x

  -- a list that matches a form with the words matches it without
  before : (f : Form) (m : List ℕ) → HasNone words m → Matches spoken f m → Matches standard f m
  before f m h (token {k = k} {t = t} e) = token (asked-before k t (one-has-none t h) e)
  before f m h nothing = nothing
  before f m h (both {f = a} {g = b} {u = u} {v = v} x y) =
      let p = parts-have-none words u v h in both (before a u p.0 x) (before b v p.1 y)
  before f m h (first {f = a} x) = first (before a m h x)
  before f m h (second {g = b} x) = second (before b m h x)
  before f m h no_more = no_more
  before f m h (one_more {f = a} {u = u} {v = v} x y) =
      let p = parts-have-none words u v h in one_more (before a u p.0 x) (before f v p.1 y)
  before f m h (bracketed {f = a} {u = u} b k x y z) =
      let p = round-has-none b k u h in
      bracketed b k (asked-before (is Bra) b p.0 x) (before a u p.1 y) (asked-before (is Ket) k p.2 z)
  before f m h (by_name {n = Any_name} x) = by_name {n = Any_name} (before _ m h x)
  before f m h (by_name {n = Place_name} x) = by_name {n = Place_name} (before _ m h x)
  before f m h (by_name {n = Unit_name} x) = by_name {n = Unit_name} (before _ m h x)
  before f m h (by_name {n = Order_name} x) = by_name {n = Order_name} (before _ m h x)
  before f m h (by_name {n = Arrangement_name l} x) = by_name {n = Arrangement_name l} (before _ m h x)
  before f m h (by_name {n = Flat_name l} x) = by_name {n = Flat_name l} (before _ m h x)
  before f m h (by_name {n = Fact_name l} x) = by_name {n = Fact_name l} (before _ m h x)
  before f m h (by_name {n = Press_name l} x) = by_name {n = Press_name l} (before _ m h x)
  before f m h (by_name {n = Send_name l} x) = by_name {n = Send_name l} (before _ m h x)
  before f m h (by_name {n = Request_name l} x) = by_name {n = Request_name l} (before _ m h x)
  before f m h (by_name {n = Added s l} x) = absurd (no-added 0 words s l m h x)

  -- so it is a message with the words exactly if it is one without
  pub others-stay : (side : Side2) (l : Level) (m : List ℕ) → HasNone words m →
      IsMessageOver words side l m ↔ IsMessage side l m
  others-stay side l m h = (there, back)
    where
      there : IsMessageOver words side l m → IsMessage side l m
      there (inl report) = inl report
      there (inr x) = inr (before (message_form side l) m h x)

      back : IsMessage side l m → IsMessageOver words side l m
      back (inl report) = inl report
      back (inr x) = inr (kept (message_form side l) m h x)
