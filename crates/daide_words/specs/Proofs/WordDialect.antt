-- With words of free codes each class of the protocol keeps its tokens, and each word has a class of its own.
use Rattle.std.proofs.Common.{◌≡◌, ℕ, suc, ◌+◌, ◌<◌, Bool, true, false, not, ◌==◌, nat_le, List, [], ◌∷◌, ◌↔◌}
use Rattle.std.proofs.Common.{◌⊎◌, inl, inr, refl, sym, ◌∙◌, ap, arith, if◌then◌else◌}
use Rattle.std.proofs.lemmas.Bool.{eqb-true, eq-eqb}
use Rattle.daide_token.specs.declared.class.Class.{Class}
use Rattle.daide_token.specs.declared.class.Class.TheVariants.{Bra, Ket, Other, Word}
use Rattle.daide_token.specs.Token.{bra, ket}
use Rattle.daide_token.specs.Class.{class_of, token_of}
use Rattle.daide_token.proofs.ClassLaws.{class_of-token_of, class_bra, class_ket, class_of-bra, class_of-ket}
use Rattle.daide_grammar.specs.declared.level.Level.{Level}
use Rattle.daide_grammar.specs.Level.{level_number}
use Rattle.daide_grammar.specs.Classes.{class_number, own_classes, same_class}
use Rattle.daide_grammar.specs.Forms.{is, Slot, ◌·◌, tok, group, Dialect}
use Rattle.daide_grammar.specs.Matches.{Matches, first, second}
use Rattle.daide_grammar.specs.SideMessages.{dialect_from, dialect_of}
use Rattle.daide_grammar.specs.Words.{AddedWord, Words, operand_in}
use Rattle.daide_grammar.specs.Proofs.Reading.{Reads_from_MatchAll}
use Rattle.daide_grammar.specs.Proofs.Alternatives.{alone, both-pass}
use Rattle.daide_grammar.specs.Proofs.MovesAgree.{Proper, not-both}
use Rattle.daide_words.specs.Table.OverWords.{is_free, are_free}
use Rattle.daide_words.specs.Proofs.WordForms.{token-then, no-token, stands-passes}
use Rattle.daide_grammar.specs.Proofs.StandardDialect.{is_standard-below}

-- the class with a word's number
class-Word : (c : Class) (j : ℕ) → class_number c ≡ own_classes + j → c ≡ Word j
class-Word (Word k) j e = ap Word (omega arith)
class-Word _ j e = absurd (omega arith)

-- the class with the number of tokens without a meaning
pub class-Other : (c : Class) → class_number c ≡ class_number Other → c ≡ Other
class-Other Other e = refl
class-Other (Word k) e = absurd (omega arith)
class-Other _ e = absurd (omega arith)

module _ (s : Slot) (l : Level) where
  -- no list of an added form is empty
  no-empty : (d : Dialect) (j : ℕ) (words : Words) → Matches d ((dialect_from j words).added s l) [] → ⊥
  no-empty d j [] m = elim m [ ]
  no-empty d j (x ∷ words) (first m) =
      let form = tok (Word j) · group (operand_in x.operand s l) in
      let h = stands-passes d x.slot s (nat_le (level_number x.level) (level_number l)) form [] m in
      no-token d (is (Word j)) (group (operand_in x.operand s l))
      (Reads_from_MatchAll d (form ∷ []) [] (alone d form [] h.1))
  no-empty d j (x ∷ words) (second m) = no-empty d (suc j) words m

  -- and each begins with a word
  begins-word : (d : Dialect) (j : ℕ) (words : Words) (t : ℕ) (w : List ℕ) →
      Matches d ((dialect_from j words).added s l) (t ∷ w) → (k : ℕ) × (d.class_of t ≡ Word k)
  begins-word d j [] t w m = elim m [ ]
  begins-word d j (x ∷ words) t w (first m) =
      let f = group (operand_in x.operand s l) in
      let form = tok (Word j) · f in
      let h = stands-passes d x.slot s (nat_le (level_number x.level) (level_number l)) form (t ∷ w) m in
      let g = token-then d (is (Word j)) f t w (Reads_from_MatchAll d (form ∷ []) (t ∷ w) (alone d form (t ∷ w) h.1)) in
      (j, class-Word (d.class_of t) j (sym (eqb-true (own_classes + j) (class_number (d.class_of t)) g.0)))
  begins-word d j (x ∷ words) t w (second m) = begins-word d (suc j) words t w m

-- no word has the code of this token
abbrev pub NoCode : Words → ℕ → Type 0
NoCode [] t = Unit {0}
NoCode (x ∷ words) t = ((t == x.code) ≡ true → ⊥) × NoCode words t

not-that : (b : Bool) (c d : Class) → (b ≡ true → ⊥) → (if b then c else d) ≡ d
not-that true c d h = absurd (h refl)
not-that false c d h = refl

-- so it keeps its class
pub keeps : (j : ℕ) (words : Words) (t : ℕ) → NoCode words t → (dialect_from j words).class_of t ≡ class_of t
keeps j [] t h = refl
keeps j (x ∷ words) t h =
    not-that (t == x.code) (Word j) ((dialect_from (suc j) words).class_of t) h.0 ∙ keeps (suc j) words t h.1

-- a free code has no other class, and isn't the token that represents its class
free-code : (x : AddedWord) (c : Class) → is_free x ≡ true → class_number c < own_classes → token_of c ≡ x.code → ⊥
free-code x c f h e =
    let p = both-pass (same_class (class_of x.code) Other) (not (x.code == token_of Other)) f in
    let other : class_of x.code ≡ Other =
    class-Other (class_of x.code) (eqb-true (class_number (class_of x.code)) (class_number Other) p.0) in
    let same : c ≡ Other = sym (class_of-token_of c (is_standard-below c h)) ∙ ap class_of e ∙ other in
    not-both (x.code == token_of Other) (eq-eqb x.code (token_of Other) (sym e ∙ ap token_of same)) p.1

pub free-codes : (words : Words) (c : Class) → are_free words ≡ true → class_number c < own_classes → NoCode words (token_of c)
free-codes [] c f h = tt
free-codes (x ∷ words) c f h =
    let p = both-pass (is_free x) (are_free words) f in
    (λ e. free-code x c p.0 h (eqb-true (token_of c) x.code e), free-codes words c p.1 h)

-- a token with a meaning has no word's code
pub other-class : (words : Words) (t : ℕ) → are_free words ≡ true → (class_number (class_of t) ≡ class_number Other → ⊥) →
    NoCode words t
other-class [] t f h = tt
other-class (x ∷ words) t f h =
    let p = both-pass (is_free x) (are_free words) f in
    let q = both-pass (same_class (class_of x.code) Other) (not (x.code == token_of Other)) p.0 in (
      λ e. h (ap (λ n. class_number (class_of n)) (eqb-true t x.code e)
          ∙ eqb-true (class_number (class_of x.code)) (class_number Other) q.0),
      other-class words t p.1 h,
    )

-- the dialect of words with free codes is proper
pub words-proper : (words : Words) → are_free words ≡ true → Proper (dialect_of words)
words-proper words f = record {
  not_empty = λ s l m. no-empty s l (dialect_of words) 0 words m;
  by_word = λ s l t w m. begins-word s l (dialect_of words) 0 words t w m;
  token_of = λ c h. (
    token_of c,
    keeps 0 words (token_of c) (free-codes words c f h) ∙ class_of-token_of c (is_standard-below c h),
  );
}

-- the class of a token is a word's, or its own class
either-class : (j : ℕ) (words : Words) (t : ℕ) →
    ((k : ℕ) × ((dialect_from j words).class_of t ≡ Word k)) ⊎ ((dialect_from j words).class_of t ≡ class_of t)
either-class j [] t = inr refl
either-class j (x ∷ words) t = go (t == x.code) (either-class (suc j) words t)
  where
    go : (b : Bool) → ((k : ℕ) × ((dialect_from (suc j) words).class_of t ≡ Word k))
        ⊎ ((dialect_from (suc j) words).class_of t ≡ class_of t) →
        ((k : ℕ) × ((if b then Word j else (dialect_from (suc j) words).class_of t) ≡ Word k))
        ⊎ ((if b then Word j else (dialect_from (suc j) words).class_of t) ≡ class_of t)
    go true h = inl (j, refl)
    go false h = h

word-no-bra : (k : ℕ) → Word k ≡ Bra → ⊥
word-no-bra k e = cc

word-no-ket : (k : ℕ) → Word k ≡ Ket → ⊥
word-no-ket k e = cc

-- a bracket is the only token of its class
pub only_bra_with : (words : Words) → are_free words ≡ true → (t : ℕ) → ((dialect_of words).class_of t ≡ Bra) ↔ (t ≡ bra)
only_bra_with words f t = (there, back)
  where
    there : (dialect_of words).class_of t ≡ Bra → t ≡ bra
    there e = elim (either-class 0 words t) [
      | inl a ↦ absurd (word-no-bra a.0 (sym a.1 ∙ e))
      | inr b ↦ class_bra t (sym b ∙ e)
    ]

    back : t ≡ bra → (dialect_of words).class_of t ≡ Bra
    back e = ap (dialect_of words).class_of e ∙ keeps 0 words bra (free-codes words Bra f (omega arith)) ∙ class_of-bra

pub only_ket_with : (words : Words) → are_free words ≡ true → (t : ℕ) → ((dialect_of words).class_of t ≡ Ket) ↔ (t ≡ ket)
only_ket_with words f t = (there, back)
  where
    there : (dialect_of words).class_of t ≡ Ket → t ≡ ket
    there e = elim (either-class 0 words t) [
      | inl a ↦ absurd (word-no-ket a.0 (sym a.1 ∙ e))
      | inr b ↦ class_ket t (sym b ∙ e)
    ]

    back : t ≡ ket → (dialect_of words).class_of t ≡ Ket
    back e = ap (dialect_of words).class_of e ∙ keeps 0 words ket (free-codes words Ket f (omega arith)) ∙ class_of-ket
