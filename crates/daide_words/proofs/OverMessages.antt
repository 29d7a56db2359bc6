-- A start symbol derives the messages of its side, with an operator's words as without.
use Rattle.daide_words.proofs.Common.{◌≡◌, ℕ, true, false, ◌==◌, List, [], ◌∷◌, inl, inr, ◌↔◌, refl, sym, ◌∙◌, ap}
use Rattle.daide_words.proofs.Common.{subst, arith, eqb-true, prn, Level, L60, Side2, Stop, entries, may_end_of}
use Rattle.daide_words.proofs.Common.{table_answer, dialect_of, IsMessageOver, SymbolMatchesIn, Words, answer_over}
use Rattle.daide_words.proofs.Common.{are_free, free-codes, keeps, laws_over}
use Rattle.daide_token.specs.declared.class.Class.TheVariants.{Prn}
use Rattle.daide_token.proofs.ClassLaws.{class_of-prn}
use Rattle.daide_grammar.specs.declared.side.Side2.TheVariants.{Client, ServerEnd}
use Rattle.daide_grammar.specs.Forms.{Form}
use Rattle.daide_grammar.specs.Matches.{Matches}
use Rattle.daide_grammar.specs.Paired.{begins_with_prn}
use Rattle.daide_grammar.specs.Table.Symbols.{start_symbol_of}
use Rattle.daide_grammar.proofs.Languages.{start_symbol-form, begins-false, report-begins}

-- no form begins with PRN: the reader handles PRN itself
start_symbol-stops : (words : Words) (side : Side2) (l : Level) → answer_over words (start_symbol_of side l) Prn ≡ Stop
unfolding answer_over table_answer entries may_end_of
start_symbol-stops words Client L60 = refl
start_symbol-stops words ServerEnd L60 = refl
start_symbol-stops words _ _ = refl

module _ (words : Words) (free : are_free words ≡ true) where
  -- the token PRN has the class PRN
  class-prn : (t : ℕ) → (t == prn) ≡ true → (dialect_of words).class_of t ≡ Prn
  class-prn t e =
      ap (dialect_of words).class_of (eqb-true t prn e) ∙ keeps 0 words prn (free-codes words Prn free (omega arith))
      ∙ class_of-prn

  -- so no list of a start symbol begins with PRN
  pub form-not-prn : (side : Side2) (l : Level) (m : List ℕ) → SymbolMatchesIn (dialect_of words) (start_symbol_of side l) m →
      begins_with_prn m ≡ false
  form-not-prn side l [] h = refl
  form-not-prn side l (t ∷ m) h =
      begins-false (t == prn) (λ e. (laws_over words free).stops_none (start_symbol_of side l) t
      (ap (answer_over words (start_symbol_of side l)) (class-prn t e) ∙ start_symbol-stops words side l) m h)

  -- a start symbol derives the messages that don't begin with PRN
  pub start_symbol-language : (side : Side2) (l : Level) (m : List ℕ) →
      SymbolMatchesIn (dialect_of words) (start_symbol_of side l) m
      ↔ (IsMessageOver words side l m × (begins_with_prn m ≡ false))
  start_symbol-language side l m = (
    λ h. (inr (subst (λ (f : Form). Matches (dialect_of words) f m) (start_symbol-form side l) h), form-not-prn side l m h),
    λ h. elim h.0 [
      | inl r ↦ absurd (report-begins m r h.1)
      | inr f ↦ subst (λ (f : Form). Matches (dialect_of words) f m) (sym (start_symbol-form side l)) f
    ],
  )
