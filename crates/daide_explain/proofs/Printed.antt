-- The printed items of expected classes are exact.
use Rattle.std.proofs.Common.{◌≢◌}
use Rattle.daide_explain.proofs.Common.{◌≡◌, ℕ, ◌==◌, ◌||◌, Bool, true, false, List, [], ◌∷◌, ◌++◌, length, take, drop}
use Rattle.daide_explain.proofs.Common.{IsTrue, ◌↔◌, inl, inr, refl, sym, ◌∙◌, ap, subst, arith, eqb-true}
use Rattle.daide_explain.proofs.Common.{length-take-le, take_all, take-append-drop, MatchBool, bra, ket, Level, Side2}
use Rattle.daide_explain.proofs.Common.{dialect_of, IsMessageOver, Word, grammar_words, names_of, are_free, free-codes}
use Rattle.daide_explain.proofs.Common.{keeps, laws_over, IsErrorPlace, IsRelayed, IsExpected, IsEndExpected}
use Rattle.daide_explain.proofs.Common.{AreExpected, IsFilteredBy, IsIn, codes_of, listed_tokens, representatives}
use Rattle.daide_token.specs.declared.class.Class.TheVariants.{Alien}
use Rattle.daide_token.specs.Class.{token_of}
use Rattle.daide_token.proofs.ClassLaws.{class_of-token_of}
use Rattle.daide_explain.specs.Explained.{has_unknown, IsPrinted}
use Rattle.daide_explain.specs.Listed.{IsListed, unknown_token, unlisted_tokens}
use Rattle.daide_explain.proofs.Exact.{exact, kept_all, kept_holds, in_left}
use Rattle.daide_explain.proofs.Likeness.{expected_along}
use Rattle.daide_explain.proofs.PlaceFacts.{not_expected}

module _ (words : List Word) (end : Side2) (l : Level) (max_depth : ℕ) (p : List ℕ)
    (free : are_free (grammar_words words) ≡ true) where
  abbrev Expected : ℕ → Type 0
  Expected t = IsExpected (IsMessageOver (grammar_words words) end l) max_depth p t

  -- if a token of an unknown category is expected, each token but the brackets is
  pub any_expected : Expected unknown_token → (t : ℕ) → t ≢ bra → t ≢ ket → Expected t
  any_expected h t no_bra no_ket =
      let unknown : (dialect_of (grammar_words words)).class_of (token_of Alien) ≡ Alien =
      keeps 0 (grammar_words words) (token_of Alien) (free-codes (grammar_words words) Alien free (omega arith))
      ∙ class_of-token_of Alien refl in
      expected_along (grammar_words words) free end l max_depth p unknown_token t
      (inr (
        unknown,
        λ e. no_bra (((laws_over (grammar_words words) free).only_bra t).0 e),
        λ e. no_ket (((laws_over (grammar_words words) free).only_ket t).0 e),
      )) h

  unknown_in : (ts : List ℕ) → has_unknown ts ≡ true → IsIn unknown_token ts
  unknown_in [] e = absurd cc
  unknown_in (x ∷ ts) e = go (x == unknown_token) refl e (unknown_in ts)
    where
      go : (b : Bool) → (x == unknown_token) ≡ b → (b || has_unknown ts) ≡ true →
          (has_unknown ts ≡ true → IsIn unknown_token ts) → IsIn unknown_token (x ∷ ts)
      go true same e next = inl (sym (eqb-true x unknown_token same))
      go false same e next = inr (next e)

  bracket_in : (t : ℕ) → ((t == bra) || (t == ket)) ≡ true → IsIn t (representatives words)
  bracket_in t e =
      in_left t (listed_tokens ++ codes_of (names_of words)) unlisted_tokens
      (in_left t listed_tokens (codes_of (names_of words)) (go (t == bra) refl e))
    where
      go : (b : Bool) → (t == bra) ≡ b → (b || (t == ket)) ≡ true → IsIn t listed_tokens
      go true same e = inr (inl (eqb-true t bra same))
      go false same e = inr (inr (inl (eqb-true t ket e)))

  no_bracket : (t : ℕ) → ((t == bra) || (t == ket)) ≡ false → (t ≢ bra) × (t ≢ ket)
  no_bracket t e = (
    λ f. let yes : ((t == bra) || (t == ket)) ≡ true = ap (λ (x : ℕ). (x == bra) || (x == ket)) f in absurd cc,
    λ f. let yes : ((t == bra) || (t == ket)) ≡ true = ap (λ (x : ℕ). (x == bra) || (x == ket)) f in absurd cc,
  )

  -- a token is expected exactly if its class is printed
  pub printed : (kept : List ℕ) → IsFilteredBy Expected (representatives words) kept → (t : ℕ) →
      Expected t ↔ IsPrinted words kept t
  printed kept h t = go (has_unknown kept) refl
    where
      by_bracket : Expected unknown_token → (b : Bool) → ((t == bra) || (t == ket)) ≡ b → (b ≡ true → IsIn t kept) →
          Expected t
      by_bracket any true e f = kept_holds Expected (representatives words) kept t h (f refl)
      by_bracket any false e f = let apart = no_bracket t e in any_expected any t apart.0 apart.1

      go : (b : Bool) → has_unknown kept ≡ b →
          Expected t ↔ MatchBool b (((t == bra) || (t == ket)) ≡ true → IsIn t kept) (IsListed words kept t)
      go false e = exact words end l max_depth p kept free h t
      go true e =
          let any = kept_holds Expected (representatives words) kept unknown_token h (unknown_in kept e) in (
            λ here. λ bracket. kept_all Expected (representatives words) kept t h (bracket_in t bracket) here,
            λ f. by_bracket any ((t == bra) || (t == ket)) refl f,
          )

  -- the class of a token that is not expected is neither listed nor printed
  pub never_listed : (kept : List ℕ) → IsFilteredBy Expected (representatives words) kept → (t : ℕ) →
      (Expected t → ⊥) → (¬ IsListed words kept t) × (¬ IsPrinted words kept t)
  never_listed kept h t refused = (
    λ listed. refused ((exact words end l max_depth p kept free h t).1 listed),
    λ shown. refused ((printed kept h t).1 shown),
  )

-- the end is not expected after a complete message that is not relayed
pub no_end : (words : List Word) (message : List ℕ → Type 0) (max_depth : ℕ) (m kept : List ℕ) (place : ℕ)
    (ends : Bool) → AreExpected words message max_depth (take place m) kept ends → place ≡ length m →
    (IsRelayed message max_depth m → ⊥) → ends ≡ false
no_end words message max_depth m kept place ends expected whole refused = go ends expected.at_end
  where
    go : (b : Bool) → (IsTrue b ↔ IsEndExpected message max_depth (take place m)) → b ≡ false
    go false same = refl
    go true same =
        absurd (refused (subst (IsRelayed message max_depth) (take_all place m (let e = whole in omega arith)) (same.0 refl)))

-- the token at an error place is not expected there
pub refused_there : (message : List ℕ → Type 0) (max_depth : ℕ) (m after : List ℕ) (place t : ℕ) →
    IsErrorPlace message max_depth m place → drop place m ≡ t ∷ after →
    IsExpected message max_depth (take place m) t → ⊥
refused_there message max_depth m after place t h e expected =
    let whole : m ≡ take place m ++ t ∷ after =
    sym (take-append-drop place m) ∙ ap (λ (l : List ℕ). take place m ++ l) e in
    let len : length (take place m) ≡ place = length-take-le place m h.within in
    not_expected message max_depth (take place m) after t
    (subst (λ (l : List ℕ). IsErrorPlace message max_depth l (length (take place m))) whole
    (subst (IsErrorPlace message max_depth m) (sym len) h)) expected
