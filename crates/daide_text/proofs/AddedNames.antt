-- The names of accepted words are parsed as their codes.
use Rattle.std.proofs.Common.{◌≡◌, ◌==◌, ◌&&◌, ◌||◌, not, nat_lt, ℕ, suc, ◌<◌, Bool, true, false, List, [], ◌∷◌}
use Rattle.std.proofs.Common.{◌++◌, length, bytes_eq, Option, Some, None, option_map, is_none, is_ok, Result, Err}
use Rattle.std.proofs.Common.{if◌then◌else◌, refl, sym, ◌∙◌, ap, arith}
use Rattle.std.specs.List.{All, find, list_all, list_any}
use Rattle.std.proofs.lemmas.Bool.{eqb-true}
use Rattle.std.proofs.lemmas.Bool.Decides.{nat_tests}
use Rattle.std.proofs.lemmas.Slice.Eq.{bytes_eq-Decides}
use Rattle.daide_token.specs.Names.{Named, token_named}
use Rattle.daide_token.specs.Text.{added_name_of}
use Rattle.daide_words.specs.Accepted.{are_accepted, are_accepted_after, is_capital, is_free_name, word_fault}
use Rattle.daide_words.specs.Word.{names_of}
use Rattle.daide_words.specs.declared.word.Word.{Word}
use Rattle.daide_words.specs.declared.word.WordError.{WordError}
use Rattle.daide_words.specs.declared.word.WordError.TheVariants as faults
use Rattle.daide_text.specs.Word.{added_token}
use Rattle.daide_text.proofs.Cuts.{both, together}
use Rattle.daide_text.proofs.ReadBack.{is_good_name}

free_of : (full free : Bool) (other : Result (Unit {0}) WordError) →
    is_ok (if full then Err faults.Full else if not free then Err faults.Name else other) ≡ true → free ≡ true
free_of true free other e = absurd (cc)
free_of false false other e = absurd (cc)
free_of false true other e = refl

no_token : (o : Option ℕ) → is_none o ≡ true → o ≡ None
no_token None e = refl
no_token (Some t) e = absurd (cc)

negated : (b : Bool) → not b ≡ true → b ≡ false
negated true e = absurd (cc)
negated false e = refl

any_last : (p : Named → Bool) (xs : List Named) (x : Named) → list_any p (xs ++ x ∷ []) ≡ false →
    (list_any p xs ≡ false) × (p x ≡ false)
any_last p [] x e = (refl, one (p x) e)
  where
    one : (b : Bool) → (b || false) ≡ false → b ≡ false
    one true e = absurd (cc)
    one false e = refl
any_last p (y ∷ xs) x e = go (p y) (list_any p (xs ++ x ∷ [])) refl e (any_last p xs x)
  where
    go : (a b : Bool) → list_any p (xs ++ x ∷ []) ≡ b → (a || b) ≡ false →
        (list_any p (xs ++ x ∷ []) ≡ false → (list_any p xs ≡ false) × (p x ≡ false)) →
        ((a || list_any p xs) ≡ false) × (p x ≡ false)
    go true b f e rest = absurd (cc)
    go false true f e rest = absurd (cc)
    go false false f e rest = rest f

abbrev AreReadAfter : List Named → List Word → ℕ → List ℕ → Type 0
AreReadAfter taken words t name =
    (is_good_name name ≡ true) × (token_named name ≡ None) × (list_any (λ entry. bytes_eq entry.1 name) taken ≡ false)
    × (added_token (names_of words) name ≡ Some t)

this_word : (taken : List Named) (word : Word) (words : List Word) (t : ℕ) (name : List ℕ) → word.code ≡ t →
    word.name ≡ name → 0 < length word.name → is_free_name taken word.name ≡ true →
    AreReadAfter taken (word ∷ words) t name
this_word taken word words t name e f some free =
    let p = both (list_all is_capital word.name) (is_none (token_named word.name)
    && not (list_any (λ entry. bytes_eq entry.1 word.name) taken)) free in
    let q = both (is_none (token_named word.name)) (not (list_any (λ entry. bytes_eq entry.1 word.name) taken)) p.1 in
    let long : nat_lt 0 (length word.name) ≡ true = grind (arith, nat_tests) in
    let same : bytes_eq word.name name ≡ true = (bytes_eq-Decides word.name name).1 f in (
      ap is_good_name (sym f) ∙ together (nat_lt 0 (length word.name)) (list_all is_capital word.name) long p.0,
      ap token_named (sym f) ∙ no_token (token_named word.name) q.0,
      ap (λ (n : List ℕ). list_any (λ entry. bytes_eq entry.1 n) taken) (sym f) ∙ negated _ q.1,
      rw same (ap Some e),
    )

later_word : (taken : List Named) (word : Word) (words : List Word) (t : ℕ) (name : List ℕ) →
    AreReadAfter (taken ++ (word.code, word.name) ∷ []) words t name → AreReadAfter taken (word ∷ words) t name
later_word taken word words t name h =
    let r = any_last (λ entry. bytes_eq entry.1 name) taken (word.code, word.name) h.2 in
    (h.0, h.1, r.0, rw r.1 h.3)

abbrev AreNamed : List Word → Type 0
AreNamed [] = Unit {0}
AreNamed (word ∷ words) = (0 < length word.name) × AreNamed words

pub are_named : (words : List Word) → All (λ word. length word.name ≡ 3) words → AreNamed words
are_named [] h = tt
are_named (word ∷ words) h =
    (omega (arith, h 0 word (omega arith)), are_named words (λ k d l. h (suc k) d (omega arith)))

read_after : (taken : List Named) (words : List Word) → are_accepted_after taken words ≡ true → AreNamed words →
    (t : ℕ) (name : List ℕ) → added_name_of (names_of words) t ≡ Some name → AreReadAfter taken words t name
read_after taken [] accepted named t name e = absurd (cc)
read_after taken (word ∷ words) accepted named t name e =
    let p = both (is_ok (word_fault taken word)) (are_accepted_after (taken ++ (word.code, word.name) ∷ []) words)
    accepted in
    go (word.code == t) refl (free_of _ _ _ p.0)
    (λ found. later_word taken word words t name
    (read_after (taken ++ (word.code, word.name) ∷ []) words p.1 named.1 t name found)) e
  where
    go : (b : Bool) → (word.code == t) ≡ b → is_free_name taken word.name ≡ true →
        (added_name_of (names_of words) t ≡ Some name → AreReadAfter taken (word ∷ words) t name) →
        option_map (λ entry. entry.1)
        (if b then Some (word.code, word.name) else find (λ entry. entry.0 == t) (names_of words)) ≡ Some name →
        AreReadAfter taken (word ∷ words) t name
    go true e free others f =
        let same : word.name ≡ name = cc in
        this_word taken word words t name (eqb-true word.code t e) same named.0 free
    go false e free others f = others f

pub added_names_are_read : (words : List Word) → are_accepted words ≡ true → AreNamed words →
    (t : ℕ) (name : List ℕ) → added_name_of (names_of words) t ≡ Some name →
    (is_good_name name ≡ true) × (token_named name ≡ None) × (added_token (names_of words) name ≡ Some t)
added_names_are_read words accepted named t name e =
    let r = read_after [] words accepted named t name e in (r.0, r.1, r.3)
