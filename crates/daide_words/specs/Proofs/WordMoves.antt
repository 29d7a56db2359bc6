-- The entries with added words agree with the languages.
use Rattle.std.proofs.Common.{◌≡◌, ℕ, Bool, true, false, List, [], ◌∷◌, Option, Some, None, ◌⊎◌, inl, inr, ◌↔◌}
use Rattle.std.proofs.Common.{refl, sym, ◌∙◌, ap, subst}
use Rattle.daide_token.specs.declared.class.Class.{Class}
use Rattle.daide_token.specs.declared.class.Class.TheVariants.{Word}
use Rattle.daide_grammar.specs.declared.level.Level.{Level}
use Rattle.daide_grammar.specs.declared.level.Level.TheVariants.{L0, L10, L20, L30, L40, L50, L60}
use Rattle.daide_grammar.specs.declared.symbol.Sym.{Sym}
use Rattle.daide_grammar.specs.declared.symbol.Sym.TheVariants.{Press, Arrangement, Fact, Operand}
use Rattle.daide_grammar.specs.Forms.{Slot, Press_slot, Arrangement_slot, Flat_slot, Form, group, Dialect}
use Rattle.daide_grammar.specs.Matches.{Matches}
use Rattle.daide_grammar.specs.Table.Answers.{TableEntry, Take, Skip, Stop}
use Rattle.daide_grammar.specs.Table.Symbols.{form_of, slot_of, table_answer}
use Rattle.daide_grammar.specs.SideMessages.{dialect_of}
use Rattle.daide_grammar.specs.Table.Languages.{SymbolMatchesIn}
use Rattle.daide_grammar.specs.Words.{AddedWord, Words, WordOperand, one_power, some_powers, some_provinces, an_order}
use Rattle.daide_grammar.specs.Words.{an_arrangement, a_press, operand_in}
use Rattle.daide_grammar.specs.Proofs.Alternatives.{alone, unalone}
use Rattle.daide_grammar.specs.Proofs.MovesAgree.{Proper, NoWord, IsStandard, standard-no-word, AllMatchIn, take-law}
use Rattle.daide_grammar.specs.Proofs.MovesAgree.{skip-law}
use Rattle.daide_grammar.specs.Proofs.MovesAgree.{stop-law, no-yes}
use Rattle.daide_words.specs.Table.OverWords.{operand_symbol, stands, word_from, if_stands, word_answer, answer_over}
use Rattle.daide_words.specs.Proofs.WordForms.{words-to, words-from, slot-law}

-- the symbol of an operand has the form of the operand in brackets, at each slot
abbrev pub HasOperands : Option (Slot × Level) → Type 0
HasOperands None = Unit {0}
HasOperands (Some p) = (o : WordOperand) → form_of (operand_symbol o p.0 p.1) ≡ group (operand_in o p.0 p.1)

plain-operands : (s : Slot) (l : Level) →
    form_of (operand_symbol an_arrangement s l) ≡ group (operand_in an_arrangement s l) →
    HasOperands (Some (s, l))
unfolding form_of
plain-operands s l e one_power = refl
plain-operands s l e some_powers = refl
plain-operands s l e some_provinces = refl
plain-operands s l e an_order = refl
plain-operands s l e an_arrangement = e
plain-operands s l e a_press = refl

slot-operands : (s : Sym) → HasOperands (slot_of s)
unfolding slot_of form_of
slot-operands (Press l) = plain-operands Press_slot l refl
slot-operands (Arrangement l) = plain-operands Arrangement_slot l refl
slot-operands (Fact l) = plain-operands Arrangement_slot l refl
slot-operands (Operand L0) = plain-operands Flat_slot L0 refl
slot-operands (Operand L10) = plain-operands Flat_slot L10 refl
slot-operands (Operand L20) = plain-operands Flat_slot L20 refl
slot-operands (Operand L30) = plain-operands Flat_slot L30 refl
slot-operands (Operand L40) = plain-operands Flat_slot L40 refl
slot-operands (Operand L50) = plain-operands Arrangement_slot L50 refl
slot-operands (Operand L60) = plain-operands Arrangement_slot L60 refl
slot-operands _ = tt

operand-form : (s : Sym) (p : Slot × Level) (o : WordOperand) → slot_of s ≡ Some p →
    form_of (operand_symbol o p.0 p.1) ≡ group (operand_in o p.0 p.1)
operand-form s p o e = subst HasOperands e (slot-operands s) o

same-some : (x y : AddedWord) → Some x ≡ Some y → x ≡ y
same-some x y q = cc

none-some : (x : AddedWord) → ◌≡◌ {A = Option AddedWord} None (Some x) → ⊥
none-some x q = cc

module _ (words : Words) (t i : ℕ) (e : (dialect_of words).class_of t ≡ Word i) where
  abbrev d : Dialect
  d = dialect_of words

  -- no word that is allowed in the slot begins with the token
  none-found : (p : Slot × Level) → word_from i 0 words ≡ None → NoWord d (Some p) t
  none-found p f w m = let h = words-to d i 0 words p.0 p.1 t w e m in none-some h.word (sym f ∙ h.found)

  none-stands : (p : Slot × Level) (x : AddedWord) → word_from i 0 words ≡ Some x → stands x p.0 p.1 ≡ false →
      NoWord d (Some p) t
  none-stands p x f b w m =
      let h = words-to d i 0 words p.0 p.1 t w e m in
      no-yes (stands x p.0 p.1)
      (subst (λ (y : AddedWord). stands y p.0 p.1 ≡ true) (same-some h.word x (sym h.found ∙ f)) h.stands_so) b

  -- if the word is allowed, its operand follows
  word-follows : (s : Sym) (p : Slot × Level) (x : AddedWord) (w : List ℕ) → slot_of s ≡ Some p →
      word_from i 0 words ≡ Some x → stands x p.0 p.1 ≡ true →
      SymbolMatchesIn d s (t ∷ w) ↔ AllMatchIn d (operand_symbol x.operand p.0 p.1 ∷ []) w
  word-follows s p x w o f b =
      let q = slot-law d s p t i w o e in
      let g = operand_symbol x.operand p.0 p.1 in
      let form = operand-form s p x.operand o in (
        λ m.
            let h = words-to d i 0 words p.0 p.1 t w e (q.0 m) in
            alone d (form_of g) w (subst (λ (f : Form). Matches d f w) (sym form)
            (subst (λ (y : AddedWord). Matches d (group (operand_in y.operand p.0 p.1)) w)
            (same-some h.word x (sym h.found ∙ f)) h.operand)),
        λ m. q.1 (words-from d i 0 words p.0 p.1 t w x e f b
            (subst (λ (f : Form). Matches d f w) form (unalone d (form_of g) w m))),
      )

  -- the two cases: no word is allowed there, or one is
  Case : Sym → Type 0
  Case s =
      (NoWord d (slot_of s) t × ((a : TableEntry) → word_answer (slot_of s) (word_from i 0 words) a ≡ a))
      ⊎ ((p : Slot × Level) × (x : AddedWord) × (slot_of s ≡ Some p) × (word_from i 0 words ≡ Some x)
      × (stands x p.0 p.1 ≡ true))

  which-stands : (s : Sym) (p : Slot × Level) (x : AddedWord) (b : Bool) → slot_of s ≡ Some p →
      word_from i 0 words ≡ Some x → stands x p.0 p.1 ≡ b → Case s
  unfolding Case
  which-stands s p x true o f q = inr (p, x, o, f, q)
  which-stands s p x false o f q =
      inl (
        subst (λ (z : Option (Slot × Level)). NoWord d z t) (sym o) (none-stands p x f q),
        λ a. ap (λ z. word_answer z (word_from i 0 words) a) o ∙ ap (λ z. word_answer (Some p) z a) f
            ∙ ap (λ z. if_stands z (operand_symbol x.operand p.0 p.1) a) q,
      )

  which-word : (s : Sym) (p : Slot × Level) (y : Option AddedWord) → slot_of s ≡ Some p → word_from i 0 words ≡ y →
      Case s
  unfolding Case
  which-word s p (Some x) o f = which-stands s p x (stands x p.0 p.1) o f refl
  which-word s p None o f =
      inl (
        subst (λ (z : Option (Slot × Level)). NoWord d z t) (sym o) (none-found p f),
        λ a. ap (λ z. word_answer z (word_from i 0 words) a) o ∙ ap (λ z. word_answer (Some p) z a) f,
      )

  which-slot : (s : Sym) (o : Option (Slot × Level)) → slot_of s ≡ o → Case s
  unfolding Case
  which-slot s (Some p) o = which-word s p (word_from i 0 words) o refl
  which-slot s None o =
      inl (
        subst (λ (z : Option (Slot × Level)). NoWord d z t) (sym o) tt,
        λ a. ap (λ z. word_answer z (word_from i 0 words) a) o,
      )

word-or-standard : (c : Class) → ((i : ℕ) × (c ≡ Word i)) ⊎ IsStandard c
word-or-standard (Word i) = inl (i, refl)
word-or-standard _ = inr (λ k e. cc)

answer-word : (words : Words) (s : Sym) (c : Class) (i : ℕ) → c ≡ Word i →
    answer_over words s c ≡ word_answer (slot_of s) (word_from i 0 words) (table_answer s c)
unfolding answer_over
answer-word words s c i e =
    ap (answer_over words s) e ∙ ap (λ x. word_answer (slot_of s) (word_from i 0 words) (table_answer s x)) (sym e)

-- a class of the protocol has its entry of the protocol's table
pub answer-standard : (words : Words) (s : Sym) (c : Class) → IsStandard c → answer_over words s c ≡ table_answer s c
unfolding answer_over
answer-standard words s (Word i) std = absurd (std i refl)
answer-standard words s _ std = refl

word-stands : (words : Words) (s : Sym) (c : Class) (i : ℕ) (p : Slot × Level) (x : AddedWord) → c ≡ Word i →
    slot_of s ≡ Some p → word_from i 0 words ≡ Some x → stands x p.0 p.1 ≡ true →
    answer_over words s c ≡ Take (operand_symbol x.operand p.0 p.1 ∷ [])
word-stands words s c i p x e o f b =
    answer-word words s c i e ∙ ap (λ z. word_answer z (word_from i 0 words) (table_answer s c)) o
    ∙ ap (λ z. word_answer (Some p) z (table_answer s c)) f
    ∙ ap (λ z. if_stands z (operand_symbol x.operand p.0 p.1) (table_answer s c)) b

take-same : (xs ys : List Sym) → Take xs ≡ Take ys → xs ≡ ys
take-same xs ys e = cc

take-no-skip : (r : List Sym) → Take r ≡ Skip → ⊥
take-no-skip r e = cc

take-no-stop : (r : List Sym) → Take r ≡ Stop → ⊥
take-no-stop r e = cc

module _ (words : Words) (ok : Proper (dialect_of words)) (s : Sym) (t : ℕ) where
  abbrev c : Class
  c = (dialect_of words).class_of t

  -- an entry of the protocol's table if no word is allowed, or the entry of a word
  Either : Type 0
  Either =
      (NoWord (dialect_of words) (slot_of s) t × (answer_over words s c ≡ table_answer s c))
      ⊎ ((g : Sym) × (answer_over words s c ≡ Take (g ∷ []))
      × ((w : List ℕ) → SymbolMatchesIn (dialect_of words) s (t ∷ w) ↔ AllMatchIn (dialect_of words) (g ∷ []) w))

  either : Either
  unfolding Either Case
  either = elim (word-or-standard c) [
    | inl a ↦ elim (which-slot words t a.0 a.1 s (slot_of s) refl) [
      | inl b ↦ inl (b.0, answer-word words s c a.0 a.1 ∙ b.1 (table_answer s c))
      | inr b ↦ inr (
        operand_symbol b.1.operand b.0.0 b.0.1,
        word-stands words s c a.0 b.0 b.1 a.1 b.2 b.3 b.4,
        λ w. word-follows words t a.0 a.1 s b.0 b.1 w b.2 b.3 b.4,
      )
    ]
    | inr std ↦ inl (standard-no-word (dialect_of words) ok (slot_of s) t std, answer-standard words s c std)
  ]

  pub takes-over : (rest : List Sym) (w : List ℕ) → answer_over words s c ≡ Take rest →
      SymbolMatchesIn (dialect_of words) s (t ∷ w) ↔ AllMatchIn (dialect_of words) rest w
  unfolding Either
  takes-over rest w h = elim either [
    | inl a ↦ take-law (dialect_of words) ok s rest t w a.0 (sym a.1 ∙ h)
    | inr b ↦ subst (λ (r : List Sym). SymbolMatchesIn (dialect_of words) s (t ∷ w) ↔ AllMatchIn (dialect_of words) r w)
        (take-same (b.0 ∷ []) rest (sym b.1 ∙ h)) (b.2 w)
  ]

  pub skips-over : answer_over words s c ≡ Skip →
      SymbolMatchesIn (dialect_of words) s [] × ((w : List ℕ) → SymbolMatchesIn (dialect_of words) s (t ∷ w) → ⊥)
  unfolding Either
  skips-over h = elim either [
    | inl a ↦ skip-law (dialect_of words) ok s t a.0 (sym a.1 ∙ h)
    | inr b ↦ absurd (take-no-skip (b.0 ∷ []) (sym b.1 ∙ h))
  ]

  pub stops-over : answer_over words s c ≡ Stop →
      (SymbolMatchesIn (dialect_of words) s [] → ⊥) × ((w : List ℕ) → SymbolMatchesIn (dialect_of words) s (t ∷ w) → ⊥)
  unfolding Either
  stops-over h = elim either [
    | inl a ↦ stop-law (dialect_of words) ok s t a.0 (sym a.1 ∙ h)
    | inr b ↦ absurd (take-no-stop (b.0 ∷ []) (sym b.1 ∙ h))
  ]
