-- A filtered list of representatives determines for every token whether it is expected.
use Rattle.std.specs.List.{list_any}
use Rattle.daide_explain.proofs.Common.{◌≡◌, ℕ, suc, ◌<◌, ◌==◌, ◌||◌, Bool, true, false, List, [], ◌∷◌, ◌++◌, ◌⊎◌, inl}
use Rattle.daide_explain.proofs.Common.{inr, refl, sym, ◌∙◌, subst, arith, ◌↔◌, eqb-true, Class, class_of, Level, Side2}
use Rattle.daide_explain.proofs.Common.{dialect_from, dialect_of, IsMessageOver, grammar_words, names_of, are_free}
use Rattle.daide_explain.proofs.Common.{free-codes, keeps, IsAllowedPrefix, IsFilteredBy, IsIn, listed_tokens, codes_of}
use Rattle.daide_explain.proofs.Common.{representatives}
use Rattle.daide_token.specs.declared.class.Class.TheVariants.{Word}
use Rattle.daide_token.specs.Class.{token_of, is_standard}
use Rattle.daide_token.proofs.ClassLaws.{class_of-token_of, standard_class}
use Rattle.daide_grammar.specs.Classes.{class_number, own_classes}
use Rattle.daide_words.specs.declared.word.Word as code
use Rattle.daide_explain.specs.Listed.{unlisted_tokens}
use Rattle.daide_explain.proofs.Likeness.{expected_along}

module _ (P : ℕ → Type 0) where
  pub kept_holds : (ts kept : List ℕ) (t : ℕ) → IsFilteredBy P ts kept → IsIn t kept → P t
  unfolding IsFilteredBy
  kept_holds [] kept t h i = absurd (subst (IsIn t) h i)
  kept_holds (x ∷ ts) kept t (inl (here, rest, e, h)) i = go (subst (IsIn t) e i) (kept_holds ts rest t h)
    where
      go : IsIn t (x ∷ rest) → (IsIn t rest → P t) → P t
      go (inl same) next = subst P (sym same) here
      go (inr i) next = next i
  kept_holds (x ∷ ts) kept t (inr (gone, h)) i = kept_holds ts kept t h i

  pub kept_all : (ts kept : List ℕ) (t : ℕ) → IsFilteredBy P ts kept → IsIn t ts → P t → IsIn t kept
  unfolding IsFilteredBy
  kept_all [] kept t h i here = absurd i
  kept_all (x ∷ ts) kept t (inl (first, rest, e, h)) (inl same) here = subst (IsIn t) (sym e) (inl same)
  kept_all (x ∷ ts) kept t (inl (first, rest, e, h)) (inr i) here =
      subst (IsIn t) (sym e) (inr (kept_all ts rest t h i here))
  kept_all (x ∷ ts) kept t (inr (gone, h)) (inl same) here = absurd (gone (subst P same here))
  kept_all (x ∷ ts) kept t (inr (gone, h)) (inr i) here = kept_all ts kept t h i here

pub in_left : (t : ℕ) (xs ys : List ℕ) → IsIn t xs → IsIn t (xs ++ ys)
in_left t [] ys i = absurd i
in_left t (x ∷ xs) ys (inl same) = inl same
in_left t (x ∷ xs) ys (inr i) = inr (in_left t xs ys i)

in_right : (t : ℕ) (xs ys : List ℕ) → IsIn t ys → IsIn t (xs ++ ys)
in_right t [] ys i = i
in_right t (x ∷ xs) ys i = inr (in_right t xs ys i)

found : (t : ℕ) (xs : List ℕ) → list_any (λ x. t == x) xs ≡ true → IsIn t xs
found t [] e = absurd cc
found t (x ∷ xs) e = go (t == x) refl e (found t xs)
  where
    go : (b : Bool) → (t == x) ≡ b → (b || list_any (λ x. t == x) xs) ≡ true →
        (list_any (λ x. t == x) xs ≡ true → IsIn t xs) → IsIn t (x ∷ xs)
    go true same e next = inl (eqb-true t x same)
    go false same e next = inr (next e)

-- a class of the grammar without words is represented
own_found : (c : Class) → is_standard c ≡ true →
    (list_any (λ x. token_of c == x) listed_tokens || list_any (λ x. token_of c == x) unlisted_tokens) ≡ true
own_found (Word k) e = absurd cc
own_found _ e = refl

below_own : (c : Class) → is_standard c ≡ true → class_number c < own_classes
below_own (Word k) e = absurd cc
below_own _ e = omega arith

either : (a b : Bool) → (a || b) ≡ true → (a ≡ true) ⊎ (b ≡ true)
either true b e = inl refl
either false b e = inr e

-- a token is a word's code, or has its class of the grammar without words
word_or_own : (j : ℕ) (words : List code.Word) (t : ℕ) →
    IsIn t (codes_of (names_of words)) ⊎ ((dialect_from j (grammar_words words)).class_of t ≡ class_of t)
word_or_own j [] t = inr refl
word_or_own j (w ∷ words) t = go (t == w.code) refl (word_or_own (suc j) words t)
  where
    go : (b : Bool) → (t == w.code) ≡ b →
        IsIn t (codes_of (names_of words)) ⊎ ((dialect_from (suc j) (grammar_words words)).class_of t ≡ class_of t) →
        IsIn t (codes_of (names_of (w ∷ words)))
        ⊎ ((dialect_from j (grammar_words (w ∷ words))).class_of t ≡ class_of t)
    go true e rest = inl (inl (eqb-true t w.code e))
    go false e (inl i) = inl (inr i)
    go false e (inr same) = inr (rw e same)

-- each token's class is that of a representative
pub represented : (words : List code.Word) (t : ℕ) → are_free (grammar_words words) ≡ true →
    (u : ℕ) × IsIn u (representatives words)
    × ((dialect_of (grammar_words words)).class_of u ≡ (dialect_of (grammar_words words)).class_of t)
represented words t free = go (word_or_own 0 words t)
  where
    own : (c : Class) → is_standard c ≡ true → IsIn (token_of c) (representatives words)
    own c e = at (either (list_any (λ x. token_of c == x) listed_tokens) _ (own_found c e))
      where
        at : (list_any (λ x. token_of c == x) listed_tokens ≡ true)
            ⊎ (list_any (λ x. token_of c == x) unlisted_tokens ≡ true) → IsIn (token_of c) (representatives words)
        at (inl here) =
            in_left (token_of c) (listed_tokens ++ codes_of (names_of words)) unlisted_tokens
            (in_left (token_of c) listed_tokens (codes_of (names_of words)) (found (token_of c) listed_tokens here))
        at (inr here) =
            in_right (token_of c) (listed_tokens ++ codes_of (names_of words)) unlisted_tokens
            (found (token_of c) unlisted_tokens here)

    go : IsIn t (codes_of (names_of words)) ⊎ ((dialect_of (grammar_words words)).class_of t ≡ class_of t) →
        (u : ℕ) × IsIn u (representatives words)
        × ((dialect_of (grammar_words words)).class_of u ≡ (dialect_of (grammar_words words)).class_of t)
    go (inl i) = (
      t,
      in_left t (listed_tokens ++ codes_of (names_of words)) unlisted_tokens
          (in_right t listed_tokens (codes_of (names_of words)) i),
      refl,
    )
    go (inr same) =
        let c = class_of t in
        let e = standard_class t in (
          token_of c,
          own c e,
          keeps 0 (grammar_words words) (token_of c) (free-codes (grammar_words words) c free (below_own c e))
              ∙ (class_of-token_of c e ∙ sym same),
        )

-- a token is expected if and only if the list has one of its class
pub exact : (words : List code.Word) (end : Side2) (l : Level) (max_depth : ℕ) (p kept : List ℕ) →
    are_free (grammar_words words) ≡ true →
    IsFilteredBy (λ t. IsAllowedPrefix (IsMessageOver (grammar_words words) end l) max_depth (p ++ t ∷ []))
    (representatives words) kept → (t : ℕ) →
    IsAllowedPrefix (IsMessageOver (grammar_words words) end l) max_depth (p ++ t ∷ [])
    ↔ ((u : ℕ) × IsIn u kept
    × ((dialect_of (grammar_words words)).class_of u ≡ (dialect_of (grammar_words words)).class_of t))
exact words end l max_depth p kept free h t =
    let expected : ℕ → Type 0 =
    λ t. IsAllowedPrefix (IsMessageOver (grammar_words words) end l) max_depth (p ++ t ∷ []) in
    let rep = represented words t free in (
      λ here. (
        rep.0,
        kept_all expected (representatives words) kept rep.0 h rep.1
            (expected_along (grammar_words words) free end l max_depth p t rep.0 (inl (sym rep.2)) here),
        rep.2,
      ),
      λ k. expected_along (grammar_words words) free end l max_depth p k.0 t (inl k.2)
          (kept_holds expected (representatives words) kept k.0 h k.1),
    )
