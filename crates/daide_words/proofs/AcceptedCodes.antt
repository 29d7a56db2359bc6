-- The codes of accepted words are free, and they determine the class of a token.
use Rattle.daide_words.proofs.Common.{◌≡◌, ℕ, zero, suc, ◌+◌, ◌<◌, ◌≤◌, Bool, true, false, not, ◌&&◌, ◌||◌, ◌==◌}
use Rattle.daide_words.proofs.Common.{nat_eq, nat_le, List, [], ◌∷◌, ◌++◌, length, Option, Some, None, if◌then◌else◌}
use Rattle.daide_words.proofs.Common.{refl, sym, ap, ◌∙◌, subst, arith, leb-true, is_ok, is_none, Result, Ok, Err}
use Rattle.daide_words.proofs.Common.{list_any, eqb-true, nat_tests, Class, Other, Word, class_of, token_of, Named}
use Rattle.daide_words.proofs.Common.{names, name_of, class_number, same_class, dialect_from, dialect_of, both-pass}
use Rattle.daide_words.proofs.Common.{most_words, WordError, grammar_words, names_of, is_free_name, is_free_code}
use Rattle.daide_words.proofs.Common.{is_barred, has_press, may_hold, word_fault, are_accepted_after, place_from}
use Rattle.daide_words.proofs.Common.{are_free, keeps}
use Rattle.daide_words.specs.declared.word.Word as code
use Rattle.daide_words.specs.declared.word.WordError.TheVariants as faults
use Rattle.daide_words.specs.Proofs.WordDialect.{other-class}

-- whether a code has no meaning in the protocol, and isn't the token that represents such codes
means_nothing : ℕ → Bool
means_nothing t = same_class (class_of t) Other && not (t == token_of Other)

-- whether a code without a name has no meaning
told : ℕ → Bool
told t = not (is_none (name_of t)) || means_nothing t

every : (ℕ → Bool) → ℕ → ℕ → Bool
every p start zero = true
every p start (suc n) = p start && every p (suc start) n

-- this holds for all codes of press
every_told : every told 0x4A00 256 ≡ true
unfolding every told means_nothing class_of name_of names
every_told = refl

every_at : (p : ℕ → Bool) (start n k : ℕ) → every p start n ≡ true → start ≤ k → k < start + n → p k ≡ true
unfolding every
every_at p start zero k h low high = absurd (omega (arith, low, high))
every_at p start (suc n) k h low high =
    let q = both-pass (p start) (every p (suc start) n) h in
    by_test (nat_eq start k) refl q.0 (λ later. every_at p (suc start) n k q.1 later (omega (arith, high)))
  where
    by_test : (b : Bool) → nat_eq start k ≡ b → p start ≡ true → (suc start ≤ k → p k ≡ true) → p k ≡ true
    by_test true e here later = subst (λ i. p i ≡ true) (eqb-true start k e) here
    by_test false e here later = later (grind (arith, nat_tests))

-- the first test that fails is the fault
abbrev pub choice : Bool → Bool → Bool → Bool → Bool → Result (Unit {0}) WordError
choice full name code level operand =
    if full then Err faults.Full else
    if not name then Err faults.Name else
    if not code then Err faults.Code else
    if not level then Err faults.Level else
    if not operand then Err faults.Operand else
    Ok tt

passed : (full name code level operand : Bool) → is_ok (choice full name code level operand) ≡ true → code ≡ true
passed true name code level operand h = cc
passed false false code level operand h = cc
passed false true false level operand h = cc
passed false true true level operand h = refl

-- an accepted word has a free code
pub code_free : (taken : List Named) (word : code.Word) → is_ok (word_fault taken word) ≡ true →
    is_free_code taken word.code ≡ true
code_free taken word h =
    passed (nat_le most_words (length taken)) (is_free_name taken word.name) (is_free_code taken word.code)
    (has_press word.level)
    (may_hold word.slot word.operand) h

-- which has no meaning in the protocol
or_passed : (a b : Bool) → a ≡ true → (not a || b) ≡ true → b ≡ true
or_passed true b e h = h
or_passed false b e h = cc

free_means_nothing : (taken : List Named) (t : ℕ) → is_free_code taken t ≡ true → means_nothing t ≡ true
unfolding told
free_means_nothing taken t h =
    let fresh = not (is_barred t) && not (list_any (λ (entry : Named). entry.0 == t) taken) in
    let a = both-pass (nat_le 0x4A00 t && nat_le t 0x4AFF) (is_none (name_of t) && fresh) h in
    let b = both-pass (nat_le 0x4A00 t) (nat_le t 0x4AFF) a.0 in
    let c = both-pass (is_none (name_of t)) fresh a.1 in
    or_passed (is_none (name_of t)) (means_nothing t) c.0
    (every_at told 0x4A00 256 t every_told (leb-true 0x4A00 t b.0) (omega (arith, leb-true t 0x4AFF b.1)))

-- so accepted words have free codes
pub joined : (a b : Bool) → a ≡ true → b ≡ true → (a && b) ≡ true
joined true b e h = h
joined false b e h = cc

free_after : (taken : List Named) (words : List code.Word) → are_accepted_after taken words ≡ true →
    are_free (grammar_words words) ≡ true
unfolding means_nothing
free_after taken [] h = refl
free_after taken (word ∷ words) h =
    let p =
    both-pass (is_ok (word_fault taken word)) (are_accepted_after (taken ++ (word.code, word.name) ∷ []) words) h in
    joined _ (are_free (grammar_words words)) (free_means_nothing taken word.code (code_free taken word p.0))
    (free_after (taken ++ (word.code, word.name) ∷ []) words p.1)

pub accepted_free : (words : List code.Word) → are_accepted_after [] words ≡ true →
    are_free (grammar_words words) ≡ true
accepted_free words h = free_after [] words h

-- ---- classes

-- the class of the word at an index, or another class
abbrev pub class_or : Option ℕ → Class → Class
class_or (Some place) class = Word place
class_or None class = class

-- the class of a token is that of the first word with its code
pub class_from : (j : ℕ) (words : List code.Word) (t : ℕ) →
    (dialect_from j (grammar_words words)).class_of t ≡ class_or (place_from j (names_of words) t) (class_of t)
class_from j [] t = refl
class_from j (word ∷ words) t = by_test (t == word.code) (class_from (suc j) words t)
  where
    by_test : (b : Bool) →
        (dialect_from (suc j) (grammar_words words)).class_of t
        ≡ class_or (place_from (suc j) (names_of words) t) (class_of t) →
        (if b then Word j else (dialect_from (suc j) (grammar_words words)).class_of t)
        ≡ class_or (if b then Some j else place_from (suc j) (names_of words) t) (class_of t)
    by_test true h = refl
    by_test false h = h

-- the class of a token that may have a word's code, by the index of its code
pub class_told : (words : List code.Word) (t : ℕ) (o : Option ℕ) → o ≡ place_from 0 (names_of words) t →
    (dialect_of (grammar_words words)).class_of t ≡ class_or o (class_of t)
class_told words t o e = class_from 0 words t ∙ ap (λ p. class_or p (class_of t)) (sym e)

-- and that of a token with a meaning in the protocol
pub class_kept : (words : List code.Word) (t : ℕ) → are_accepted_after [] words ≡ true →
    (class_number (class_of t) ≡ class_number Other → ⊥) →
    (dialect_of (grammar_words words)).class_of t ≡ class_of t
class_kept words t a h = keeps 0 (grammar_words words) t (other-class (grammar_words words) t (accepted_free words a) h)
