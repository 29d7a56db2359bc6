-- The classes of tokens in printing order, each represented by one of its tokens. (own)
use Rattle.std.specs.Prelude.{◌≡◌, ℕ, List, [], ◌∷◌, ◌++◌, map, ◌⊎◌, Bool, IsTrue, ◌↔◌}
use Rattle.daide_token.specs.Names.{Named}
use Rattle.daide_grammar.specs.SideMessages.{dialect_of}
use Rattle.daide_words.specs.declared.word.Word.{Word}
use Rattle.daide_words.specs.Word.{grammar_words, names_of}
use Rattle.daide_explain.specs.Expected.{IsExpected, IsEndExpected}

-- a token of each listed class: first the kinds and the brackets, then the tokens that are alone in their class, by
-- code
abbrev pub listed_tokens : List ℕ
listed_tokens =
    0x0000 ∷ 0x4000 ∷ 0x4001 ∷ 0x4100 ∷ 0x4400 ∷ 0x4500 ∷ 0x4600 ∷ 0x4700 ∷ 0x4B61 ∷ 0x5000 ∷ 0x4900 ∷ 0x4200 ∷
    0x4201 ∷ 0x4320 ∷ 0x4321 ∷ 0x4322 ∷ 0x4323 ∷ 0x4324 ∷ 0x4325 ∷ 0x4340 ∷ 0x4341 ∷ 0x4380 ∷ 0x4381 ∷ 0x4382 ∷
    0x4800 ∷ 0x4801 ∷ 0x4802 ∷ 0x4803 ∷ 0x4804 ∷ 0x4805 ∷ 0x4806 ∷ 0x4807 ∷ 0x4808 ∷ 0x4809 ∷ 0x480A ∷ 0x480B ∷
    0x480C ∷ 0x480D ∷ 0x480E ∷ 0x480F ∷ 0x4810 ∷ 0x4811 ∷ 0x4812 ∷ 0x4813 ∷ 0x4814 ∷ 0x4815 ∷ 0x4816 ∷ 0x4817 ∷
    0x4818 ∷ 0x4819 ∷ 0x481A ∷ 0x481B ∷ 0x481C ∷ 0x481D ∷ 0x481E ∷ 0x4903 ∷ 0x4904 ∷ 0x490B ∷ 0x4A00 ∷ 0x4A01 ∷
    0x4A02 ∷ 0x4A03 ∷ 0x4A06 ∷ 0x4A0A ∷ 0x4A0C ∷ 0x4A0E ∷ 0x4A0F ∷ 0x4A10 ∷ 0x4A13 ∷ 0x4A14 ∷ 0x4A15 ∷ 0x4A16 ∷
    0x4A17 ∷ 0x4A18 ∷ 0x4A1A ∷ 0x4A1C ∷ 0x4A1F ∷ []

-- an unlisted token of a known category
abbrev pub other_token : ℕ
other_token = 0x4002

-- a token of an unknown category
abbrev pub unknown_token : ℕ
unknown_token = 0x5800

abbrev pub unlisted_tokens : List ℕ
unlisted_tokens = other_token ∷ unknown_token ∷ []

-- the codes of a list of names
abbrev pub codes_of : List Named → List ℕ
codes_of names = map (λ named. named.0) names

-- a token of each class: the listed classes, then an operator's words in the order of their addition, then unlisted
-- tokens
abbrev pub representatives : List Word → List ℕ
representatives words = (listed_tokens ++ codes_of (names_of words)) ++ unlisted_tokens

-- the second list is the first without the tokens that don't satisfy P
unfoldable pub IsFilteredBy : (ℕ → Type 0) → List ℕ → List ℕ → Type 0
IsFilteredBy P [] kept = kept ≡ []
IsFilteredBy P (t ∷ ts) kept =
    (P t × (rest : List ℕ) × (kept ≡ t ∷ rest) × IsFilteredBy P ts rest) ⊎ ((¬ P t) × IsFilteredBy P ts kept)

-- the token was appended if it satisfies P; otherwise the list is unchanged
abbrev pub IsAppendedIf : (ℕ → Type 0) → ℕ → List ℕ → List ℕ → Type 0
IsAppendedIf P t old new = (P t × (new ≡ old ++ t ∷ [])) ⊎ ((¬ P t) × (new ≡ old))

-- the token is in the list
abbrev pub IsIn : ℕ → List ℕ → Type 0
IsIn t [] = ⊥
IsIn t (x ∷ xs) = (t ≡ x) ⊎ IsIn t xs

-- some token of its class is in the list
abbrev pub IsListed : List Word → List ℕ → ℕ → Type 0
IsListed words kept t =
    (u : ℕ) × IsIn u kept
    × ((dialect_of (grammar_words words)).class_of u ≡ (dialect_of (grammar_words words)).class_of t)

-- exactly what is expected after the prefix p: one token of each class, in order, and whether the end is
pub record AreExpected (words : List Word) (message : List ℕ → Type 0) (max_depth : ℕ) (p kept : List ℕ)
    (ends : Bool) : Type 0 where
  pub tokens : IsFilteredBy (IsExpected message max_depth p) (representatives words) kept
  pub at_end : IsTrue ends ↔ IsEndExpected message max_depth p
