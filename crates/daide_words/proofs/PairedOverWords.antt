-- With an operator's words messages are paired, and the gateway's replies are messages.
use Rattle.daide_words.proofs.Common.{◌≡◌, ℕ, suc, Bool, true, false, ◌&&◌, nat_le, List, [], ◌∷◌, ◌++◌, inl, inr, refl}
use Rattle.daide_words.proofs.Common.{sym, ◌∙◌, ap, subst, arith, append-nil, take, drop, nat_tests, Word, bra, ket}
use Rattle.daide_words.proofs.Common.{Level, L60, Side2, level_number, Take, form_of, entries, may_end_of, table_answer}
use Rattle.daide_words.proofs.Common.{dialect_from, dialect_of, IsMessageOver, SymbolMatchesIn, AddedWord, Words}
use Rattle.daide_words.proofs.Common.{WordSlot, press_word, arrangement_word, WordOperand, an_arrangement, operand_in}
use Rattle.daide_words.proofs.Common.{stands_in, word_form, answer_over, are_free, free-codes, keeps, laws_over}
use Rattle.daide_token.specs.declared.class.Class.TheVariants.{Huh}
use Rattle.daide_token.specs.Token.{huh, err}
use Rattle.daide_grammar.specs.declared.side.Side2.TheVariants.{Client, ServerEnd}
use Rattle.daide_grammar.specs.declared.symbol.Sym.TheVariants.{AnyGroup}
use Rattle.daide_grammar.specs.Forms.{any_but_brackets, Slot, Press_slot, Arrangement_slot, Flat_slot, Form, from_level, ◌·◌}
use Rattle.daide_grammar.specs.Forms.{never, tok, group}
use Rattle.daide_grammar.specs.Matches.{Matches, bracketed}
use Rattle.daide_grammar.specs.Balanced.{IsBalanced}
use Rattle.daide_grammar.specs.Paired.{IsPaired}
use Rattle.daide_grammar.specs.Table.Symbols.{start_symbol_of, is_of_kind}
use Rattle.daide_grammar.proofs.BalancedLemmas.{KeepsBrackets, paired, message-balanced, any-balanced, bra-accepted}
use Rattle.daide_grammar.proofs.BalancedLemmas.{ket-accepted}
use Rattle.daide_grammar.proofs.ErrPutIn.{err-put-in}
use Rattle.daide_words.specs.Proofs.WordDialect.{only_bra_with, only_ket_with}
use Rattle.daide_words.proofs.OverMessages.{start_symbol-language, form-not-prn}
use Rattle.daide_grammar.proofs.Languages.{class-huh, start_symbol-form}

-- ---- added words have paired brackets

any-word : (place : ℕ) → is_of_kind any_but_brackets (Word place) ≡ true
any-word place = grind (arith, nat_tests)

operand-paired : (operand : WordOperand) (s : Slot) (l : Level) → paired (operand_in operand s l) ≡ true
unfolding paired
operand-paired an_arrangement Press_slot l = refl
operand-paired an_arrangement Arrangement_slot l = refl
operand-paired an_arrangement Flat_slot l = refl
operand-paired _ s l = refl

stands-paired : (slot : WordSlot) (s : Slot) (f : Form) → paired f ≡ true → paired (stands_in slot s f) ≡ true
unfolding paired
stands-paired press_word Press_slot f h = h
stands-paired press_word Arrangement_slot f h = refl
stands-paired press_word Flat_slot f h = refl
stands-paired arrangement_word Press_slot f h = refl
stands-paired arrangement_word Arrangement_slot f h = h
stands-paired arrangement_word Flat_slot f h = h

from_level-paired : (a l : Level) (f : Form) → paired f ≡ true → paired (from_level a l f) ≡ true
unfolding paired
from_level-paired a l f h = go (nat_le (level_number a) (level_number l))
  where
    go : (b : Bool) → paired (elim b [ true ↦ f | false ↦ never ]) ≡ true
    go true = h
    go false = refl

both-true : (a b : Bool) → a ≡ true → b ≡ true → (a && b) ≡ true
both-true true true e f = refl
both-true true false e f = absurd (cc)
both-true false b e f = absurd (cc)

form-paired : (place : ℕ) (f : Form) → paired f ≡ true → paired (tok (Word place) · group f) ≡ true
unfolding paired
form-paired place f h = both-true (is_of_kind any_but_brackets (Word place)) (paired f) (any-word place) h

word-paired : (place : ℕ) (word : AddedWord) (s : Slot) (l : Level) → paired (word_form place word s l) ≡ true
word-paired place word s l =
    stands-paired word.slot s (from_level word.level l (tok (Word place) · group (operand_in word.operand s l)))
    (from_level-paired word.level l (tok (Word place) · group (operand_in word.operand s l))
    (form-paired place (operand_in word.operand s l) (operand-paired word.operand s l)))

words-paired : (place : ℕ) (words : Words) (s : Slot) (l : Level) →
    paired ((dialect_from place words).added s l) ≡ true
unfolding paired
words-paired place [] s l = refl
words-paired place (word ∷ words) s l =
    both-true (paired (word_form place word s l)) (paired ((dialect_from (suc place) words).added s l))
    (word-paired place word s l) (words-paired (suc place) words s l)

-- ---- messages and replies, with words of free codes

module _ (words : Words) (free : are_free words ≡ true) where
  keeps-brackets : KeepsBrackets (dialect_of words)
  keeps-brackets = record { bras = only_bra_with words free; kets = only_ket_with words free }

  pub over-paired : (side : Side2) (l : Level) (m : List ℕ) → IsMessageOver words side l m → IsPaired m
  over-paired side l m (inl r) = inl r
  over-paired side l m (inr f) =
      inr (
        form-not-prn words free side l m
            (subst (λ (f : Form). Matches (dialect_of words) f m) (sym (start_symbol-form side l)) f),
        message-balanced (dialect_of words) keeps-brackets (words-paired 0 words) side l m f,
      )

  -- either side may send HUH at every level
  huh-taken : (side : Side2) (l : Level) → answer_over words (start_symbol_of side l) Huh ≡ Take (AnyGroup ∷ [])
  unfolding answer_over table_answer entries may_end_of
  huh-taken Client L60 = refl
  huh-taken ServerEnd L60 = refl
  huh-taken _ _ = refl

  class-kept : (dialect_of words).class_of huh ≡ Huh
  class-kept = keeps 0 words huh (free-codes words Huh free (omega arith)) ∙ class-huh

  -- a balanced list in brackets is a list of the symbol for `any` in brackets
  any-grouped : (a : List ℕ) → IsBalanced a → SymbolMatchesIn (dialect_of words) AnyGroup (bra ∷ (a ++ ket ∷ []))
  unfolding form_of
  any-grouped a h =
      bracketed bra ket (bra-accepted (dialect_of words) keeps-brackets)
      ((any-balanced (dialect_of words) keeps-brackets (words-paired 0 words) a).1 h)
      (ket-accepted (dialect_of words) keeps-brackets)

  pub huh-over : (side : Side2) (l : Level) (a : List ℕ) → IsBalanced a →
      IsMessageOver words side l (huh ∷ bra ∷ (a ++ ket ∷ []))
  huh-over side l a h =
      let s = start_symbol_of side l in
      let rest = bra ∷ (a ++ ket ∷ []) in
      let taken = (laws_over words free).takes s huh (AnyGroup ∷ [])
      (ap (answer_over words s) class-kept ∙ huh-taken side l) rest in
      ((start_symbol-language words free side l (huh ∷ rest)).0
      (taken.1 (rest, [], sym (append-nil rest), any-grouped a h, refl))).0

  pub huh-err-over : (side : Side2) (l : Level) (m : List ℕ) (place : ℕ) → IsBalanced m →
      IsMessageOver words side l (huh ∷ bra ∷ ((take place m ++ err ∷ drop place m) ++ ket ∷ []))
  huh-err-over side l m place h = huh-over side l (take place m ++ err ∷ drop place m) (err-put-in place m h)
