-- An added word's class has the entries of a token without a meaning, except in the slots that allow the word.
use Rattle.daide_words.proofs.Common.{◌≡◌, ℕ, true, false, List, [], ◌∷◌, Option, Some, None, refl, ap, ◌∙◌, option_map}
use Rattle.daide_words.proofs.Common.{Other, Word, Level, Sym, AddedWord, TableEntry, Take, slot_of, table_answer}
use Rattle.daide_words.proofs.Common.{word_unknown, are_accepted, grammar_operand, grammar_word, grammar_words, word_at}
use Rattle.daide_words.proofs.Common.{answer_over, operand_symbol, word_answer}
use Rattle.daide_grammar.specs.Forms.{Slot}
use Rattle.daide_words.specs.declared.word.Word as code
use Rattle.daide_words.specs.Table.OverWords.{if_stands, stands, stands_for}
use Rattle.daide_words.proofs.DifferentWords.{place_small}
use Rattle.daide_words.proofs.WhereStopped.{word_found}

-- if a word is not allowed, the entry is another
not_there : (o : Option (Slot × Level)) (word : AddedWord) (other : TableEntry) → stands_for word o ≡ false →
    word_answer o (Some word) other ≡ other
not_there None word other h = refl
not_there (Some p) word other h =
    ap (λ b. if_stands b (operand_symbol word.operand p.0 p.1) other) h

module _ (words : List code.Word) (k : ℕ) (word : code.Word) (s : Sym) (accepted : are_accepted words ≡ true)
    (at : word_at k words ≡ Some word) where
  answered : answer_over (grammar_words words) s (Word k)
      ≡ word_answer (slot_of s) (Some (grammar_word word)) (table_answer s (Word k))
  answered =
      word_found words s k
      ∙ ap (λ (w : Option code.Word). word_answer (slot_of s) (option_map grammar_word w) (table_answer s (Word k))) at

  pub moves_as_other : stands_for (grammar_word word) (slot_of s) ≡ false →
      answer_over (grammar_words words) s (Word k) ≡ table_answer s Other
  moves_as_other h =
      answered ∙ not_there (slot_of s) (grammar_word word) (table_answer s (Word k)) h
      ∙ word_unknown s k (place_small words k word accepted at)

  pub stands_there : (slot : Slot) (level : Level) → slot_of s ≡ Some (slot, level) →
      stands (grammar_word word) slot level ≡ true →
      answer_over (grammar_words words) s (Word k)
      ≡ Take (operand_symbol (grammar_operand word.operand) slot level ∷ [])
  stands_there slot level there h =
      answered ∙ ap (λ (o : Option (Slot × Level)). word_answer o (Some (grammar_word word)) (table_answer s (Word k))) there
      ∙ ap (λ b. if_stands b (operand_symbol (grammar_operand word.operand) slot level) (table_answer s (Word k))) h
