-- Accepted words have different names and different codes, so each has a class of its own.
use Rattle.std.proofs.lemmas.List.{length-append}
use Rattle.std.proofs.lemmas.List.Folds.{list_any-append}
use Rattle.daide_words.proofs.Common.{◌≡◌, ℕ, zero, suc, ◌+◌, ◌<◌, Bool, true, false, not, ◌&&◌, ◌||◌, ◌==◌, nat_le}
use Rattle.daide_words.proofs.Common.{List, [], ◌∷◌, ◌++◌, length, Some, if◌then◌else◌, refl, sym, ap, ◌∙◌, subst}
use Rattle.daide_words.proofs.Common.{arith, leb-false, bytes_eq, is_ok, is_none, list_all, list_any, eqb-true, eq-eqb}
use Rattle.daide_words.proofs.Common.{bytes_eq-Decides, Other, Word, class_of, token_of, Named, name_of, token_named}
use Rattle.daide_words.proofs.Common.{class_number, same_class, dialect_of, both-pass, most_words, is_capital}
use Rattle.daide_words.proofs.Common.{is_free_name, is_free_code, is_barred, has_press, may_hold, word_fault}
use Rattle.daide_words.proofs.Common.{are_accepted, are_accepted_after, grammar_word, grammar_words, names_of, word_at}
use Rattle.daide_words.proofs.Common.{are_free, place_from, class-Other}
use Rattle.daide_words.specs.declared.word.Word as code
use Rattle.daide_words.specs.Table.OverWords.{is_free}
use Rattle.daide_words.proofs.Apart.{not_both}
use Rattle.daide_words.proofs.AcceptedCodes.{accepted_free, choice, class_told, code_free}

-- the code and the name that a word takes
abbrev taken_by : code.Word → Named
taken_by word = (word.code, word.name)

not_true : (b : Bool) → not b ≡ true → b ≡ false
not_true true h = cc
not_true false h = refl

-- a test that fails for a list fails for its front and for the rest
neither : (a b : Bool) → (a || b) ≡ false → (a ≡ false) × (b ≡ false)
neither true b h = cc
neither false b h = (refl, h)

-- ---- properties of an accepted word

name_passed : (full name code level operand : Bool) → is_ok (choice full name code level operand) ≡ true → name ≡ true
name_passed true name code level operand h = cc
name_passed false false code level operand h = cc
name_passed false true code level operand h = refl

room_passed : (full name code level operand : Bool) → is_ok (choice full name code level operand) ≡ true → full ≡ false
room_passed true name code level operand h = cc
room_passed false name code level operand h = refl

module _ (taken : List Named) (word : code.Word) (ok : is_ok (word_fault taken word) ≡ true) where
  -- its name is not that of an earlier word
  new_name : list_any (λ (entry : Named). bytes_eq entry.1 word.name) taken ≡ false
  new_name =
      let free = name_passed (nat_le most_words (length taken)) (is_free_name taken word.name)
      (is_free_code taken word.code) (has_press word.level) (may_hold word.slot word.operand) ok in
      let other = not (list_any (λ (entry : Named). bytes_eq entry.1 word.name) taken) in
      let fresh = is_none (token_named word.name) && other in
      let letters = both-pass (list_all is_capital word.name) fresh free in
      not_true (list_any (λ (entry : Named). bytes_eq entry.1 word.name) taken)
      (both-pass (is_none (token_named word.name)) other letters.1).1

  -- its code is not that of an earlier word
  new_code : list_any (λ (entry : Named). entry.0 == word.code) taken ≡ false
  new_code =
      let other = not (list_any (λ (entry : Named). entry.0 == word.code) taken) in
      let fresh = not (is_barred word.code) && other in
      let range = both-pass (nat_le 0x4A00 word.code && nat_le word.code 0x4AFF) (is_none (name_of word.code) && fresh)
      (code_free taken word ok) in
      let unnamed = both-pass (is_none (name_of word.code)) fresh range.1 in
      not_true (list_any (λ (entry : Named). entry.0 == word.code) taken)
      (both-pass (not (is_barred word.code)) other unnamed.1).1

  -- and fewer than sixteen words are before it
  few_before : length taken < most_words
  few_before =
      leb-false most_words (length taken)
      (room_passed (nat_le most_words (length taken)) (is_free_name taken word.name) (is_free_code taken word.code)
      (has_press word.level) (may_hold word.slot word.operand) ok)

-- ---- no two words are alike

-- a property that a word does not share with an earlier one: each accepted word fails this test
module _ (alike : Named → code.Word → Bool)
    (new : (taken : List Named) (word : code.Word) → is_ok (word_fault taken word) ≡ true →
    list_any (λ entry. alike entry word) taken ≡ false) where
  -- so each word fails it with all earlier words
  apart_from : (taken : List Named) (words : List code.Word) (j : ℕ) (w : code.Word) →
      are_accepted_after taken words ≡ true → word_at j words ≡ Some w → list_any (λ entry. alike entry w) taken ≡ false
  apart_from taken [] j w h at = cc
  apart_from taken (word ∷ words) zero w h at =
      let same : word ≡ w = cc in
      let p = both-pass (is_ok (word_fault taken word)) (are_accepted_after (taken ++ taken_by word ∷ []) words) h in
      subst (λ (x : code.Word). list_any (λ entry. alike entry x) taken ≡ false) same (new taken word p.0)
  apart_from taken (word ∷ words) (suc j) w h at =
      let p = both-pass (is_ok (word_fault taken word)) (are_accepted_after (taken ++ taken_by word ∷ []) words) h in
      let later = apart_from (taken ++ taken_by word ∷ []) words j w p.1 at in
      (neither _ _ (sym (list_any-append (λ entry. alike entry w) taken (taken_by word ∷ [])) ∙ later)).0

  -- and with the last earlier word
  apart_from_last : (taken : List Named) (word : code.Word) (words : List code.Word) (j : ℕ) (w : code.Word) →
      are_accepted_after (taken ++ taken_by word ∷ []) words ≡ true → word_at j words ≡ Some w →
      alike (taken_by word) w ≡ false
  apart_from_last taken word words j w h at =
      let all = apart_from (taken ++ taken_by word ∷ []) words j w h at in
      let last = (neither _ _ (sym (list_any-append (λ entry. alike entry w) taken (taken_by word ∷ [])) ∙ all)).1 in
      (neither (alike (taken_by word) w) false last).0

  -- alike words of one list have the same index
  one_place : (taken : List Named) (words : List code.Word) (i j : ℕ) (one other : code.Word) →
      are_accepted_after taken words ≡ true → word_at i words ≡ Some one → word_at j words ≡ Some other →
      alike (taken_by one) other ≡ true → alike (taken_by other) one ≡ true → i ≡ j
  one_place taken [] i j one other h at there like back = cc
  one_place taken (word ∷ words) zero zero one other h at there like back = refl
  one_place taken (word ∷ words) zero (suc j) one other h at there like back =
      let same : word ≡ one = cc in
      let p = both-pass (is_ok (word_fault taken word)) (are_accepted_after (taken ++ taken_by word ∷ []) words) h in
      let apart = apart_from_last taken word words j other p.1 there in
      absurd (not_both (alike (taken_by word) other)
      (subst (λ (x : code.Word). alike (taken_by x) other ≡ true) (sym same) like) apart)
  one_place taken (word ∷ words) (suc i) zero one other h at there like back =
      let same : word ≡ other = cc in
      let p = both-pass (is_ok (word_fault taken word)) (are_accepted_after (taken ++ taken_by word ∷ []) words) h in
      let apart = apart_from_last taken word words i one p.1 at in
      absurd (not_both (alike (taken_by word) one)
      (subst (λ (x : code.Word). alike (taken_by x) one ≡ true) (sym same) back) apart)
  one_place taken (word ∷ words) (suc i) (suc j) one other h at there like back =
      let p = both-pass (is_ok (word_fault taken word)) (are_accepted_after (taken ++ taken_by word ∷ []) words) h in
      ap (λ (k : ℕ). suc k) (one_place (taken ++ taken_by word ∷ []) words i j one other p.1 at there like back)

pub names_differ : (words : List code.Word) (i j : ℕ) (one other : code.Word) → are_accepted words ≡ true →
    word_at i words ≡ Some one → word_at j words ≡ Some other → one.name ≡ other.name → i ≡ j
names_differ words i j one other h at there same =
    one_place (λ entry word. bytes_eq entry.1 word.name) new_name [] words i j one other h at there
    ((bytes_eq-Decides one.name other.name).1 same) ((bytes_eq-Decides other.name one.name).1 (sym same))

pub codes_differ : (words : List code.Word) (i j : ℕ) (one other : code.Word) → are_accepted words ≡ true →
    word_at i words ≡ Some one → word_at j words ≡ Some other → one.code ≡ other.code → i ≡ j
codes_differ words i j one other h at there same =
    one_place (λ entry word. entry.0 == word.code) new_code [] words i j one other h at there
    (eq-eqb one.code other.code same) (eq-eqb other.code one.code (sym same))

-- ---- the class of a word's code

-- there are at most sixteen words
few_places : (taken : List Named) (words : List code.Word) (k : ℕ) (w : code.Word) →
    are_accepted_after taken words ≡ true → word_at k words ≡ Some w → k + length taken < most_words
few_places taken [] k w h at = cc
few_places taken (word ∷ words) zero w h at =
    let p = both-pass (is_ok (word_fault taken word)) (are_accepted_after (taken ++ taken_by word ∷ []) words) h in
    omega (arith, few_before taken word p.0)
few_places taken (word ∷ words) (suc k) w h at =
    let p = both-pass (is_ok (word_fault taken word)) (are_accepted_after (taken ++ taken_by word ∷ []) words) h in
    let later = few_places (taken ++ taken_by word ∷ []) words k w p.1 at in
    let longer = length-append taken (taken_by word ∷ []) in
    omega (arith, later, longer)

pub place_small : (words : List code.Word) (k : ℕ) (w : code.Word) → are_accepted words ≡ true →
    word_at k words ≡ Some w → k < most_words
place_small words k w h at = omega (arith, few_places [] words k w h at)

-- the first entry with a word's code is that of the word
own_place : (taken : List Named) (words : List code.Word) (j k : ℕ) (w : code.Word) →
    are_accepted_after taken words ≡ true → word_at k words ≡ Some w → place_from j (names_of words) w.code ≡ Some (j + k)
own_place taken [] j k w h at = cc
own_place taken (word ∷ words) j zero w h at =
    let same : word ≡ w = cc in
    let here : (w.code == word.code) ≡ true = eq-eqb w.code word.code (ap (λ (x : code.Word). x.code) (sym same)) in
    ap (λ b. if b then Some j else place_from (suc j) (names_of words) w.code) here
    ∙ ap (λ (k : ℕ). Some k) (let none : j ≡ j + 0 = omega arith in none)
own_place taken (word ∷ words) j (suc k) w h at =
    let p = both-pass (is_ok (word_fault taken word)) (are_accepted_after (taken ++ taken_by word ∷ []) words) h in
    let apart =
    apart_from_last (λ entry word. entry.0 == word.code) new_code taken word words k w p.1 at in
    let other : (w.code == word.code) ≡ false = turned (w.code == word.code) word.code w.code refl apart in
    ap (λ b. if b then Some j else place_from (suc j) (names_of words) w.code) other
    ∙ own_place (taken ++ taken_by word ∷ []) words (suc j) k w p.1 at
    ∙ ap (λ (k : ℕ). Some k) (let on : suc j + k ≡ j + suc k = omega arith in on)
  where
    turned : (b : Bool) (n m : ℕ) → (m == n) ≡ b → (n == m) ≡ false → b ≡ false
    turned true n m e apart = absurd (not_both (n == m) (eq-eqb n m (sym (eqb-true m n e))) apart)
    turned false n m e apart = refl

pub own_class : (words : List code.Word) (k : ℕ) (w : code.Word) → are_accepted words ≡ true →
    word_at k words ≡ Some w → (dialect_of (grammar_words words)).class_of w.code ≡ Word k
own_class words k w h at =
    class_told words w.code (Some k)
    (sym (own_place [] words 0 k w h at ∙ ap (λ (n : ℕ). Some n) (let none : 0 + k ≡ k = omega arith in none)))

-- which without the words is that of a token without a meaning
free_at : (words : List code.Word) (k : ℕ) (w : code.Word) → are_free (grammar_words words) ≡ true →
    word_at k words ≡ Some w → is_free (grammar_word w) ≡ true
free_at [] k w f at = cc
free_at (word ∷ words) zero w f at =
    let same : word ≡ w = cc in
    subst (λ (x : code.Word). is_free (grammar_word x) ≡ true) same
    (both-pass (is_free (grammar_word word)) (are_free (grammar_words words)) f).0
free_at (word ∷ words) (suc k) w f at =
    free_at words k w (both-pass (is_free (grammar_word word)) (are_free (grammar_words words)) f).1 at

pub class_without : (words : List code.Word) (k : ℕ) (w : code.Word) → are_accepted words ≡ true →
    word_at k words ≡ Some w → class_of w.code ≡ Other
class_without words k w h at =
    let free = free_at words k w (accepted_free words h) at in
    class-Other (class_of w.code)
    (eqb-true (class_number (class_of w.code)) (class_number Other)
    (both-pass (same_class (class_of w.code) Other) (not (w.code == token_of Other)) free).0)
