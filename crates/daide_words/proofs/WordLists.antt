-- Words with their names and meanings in separate lists.
use Rattle.std.proofs.Common.{append_assoc, slice_set, get_or}
use Rattle.std.proofs.lemmas.List.{get_or-take, length-take-le, take_more_set}
use Rattle.daide_words.proofs.Common.{◌≡◌, ℕ, zero, suc, ◌+◌, ◌≤◌, ◌<◌, Bool, true, false, ◌&&◌, List, [], ◌∷◌, ◌++◌}
use Rattle.daide_words.proofs.Common.{length, take, refl, sym, ap, ◌∙◌, arith, subst, append-nil, nat_le, leb-true}
use Rattle.daide_words.proofs.Common.{leb-false, if◌then◌else◌, Result, Err, Some, None, is_ok, word_at, WordError}
use Rattle.daide_words.proofs.Common.{list_all, is_capital, word_fault, are_accepted_after, are_accepted, Named}
use Rattle.daide_words.proofs.Common.{names_of, most_words}
use Rattle.daide_words.specs.declared.word.WordError.TheVariants.{Full}
use Rattle.std.specs.Str.{IsAscii}
use Rattle.daide_words.specs.declared.word.Word.{Word}
use Rattle.daide_words.specs.declared.word.WordMeaning.{WordMeaning}
use Rattle.daide_words.specs.Word.{new_word, words_with}
use Rattle.daide_words.proofs.AcceptedCodes.{joined}

-- the names of words that are made from two lists are the names of the first list
pub names_back : (names : List Named) (meanings : List WordMeaning) → length names ≤ length meanings →
    names_of (words_with names meanings) ≡ names
names_back [] meanings h = refl
names_back (name ∷ names) [] h = absurd (omega (arith, h))
names_back (name ∷ names) (meaning ∷ meanings) h =
    ap (λ (ns : List Named). name ∷ ns) (names_back names meanings (omega (arith, h)))

-- one more name and one more meaning make one more word
pub words_with-append : (names : List Named) (meanings : List WordMeaning) (name : Named) (meaning : WordMeaning) →
    length names ≡ length meanings →
    words_with (names ++ name ∷ []) (meanings ++ meaning ∷ [])
    ≡ words_with names meanings ++ new_word name meaning ∷ []
words_with-append [] [] name meaning h = refl
words_with-append [] (m ∷ meanings) name meaning h = cc
words_with-append (n ∷ names) [] name meaning h = cc
words_with-append (n ∷ names) (m ∷ meanings) name meaning h =
    ap (λ (ws : List Word). new_word n m ∷ ws) (words_with-append names meanings name meaning (omega (arith, h)))

-- both tests pass
both : (a b : Bool) → (a && b) ≡ true → (a ≡ true) × (b ≡ true)
both true b h = (refl, h)
both false b h = cc

-- a list of accepted words and one more word that is accepted after them
pub accepted-append : (taken : List Named) (words : List Word) (word : Word) →
    are_accepted_after taken words ≡ true → is_ok (word_fault (taken ++ names_of words) word) ≡ true →
    are_accepted_after taken (words ++ word ∷ []) ≡ true
accepted-append taken [] word h ok =
    joined (is_ok (word_fault taken word)) true
    (subst (λ (t : List Named). is_ok (word_fault t word) ≡ true) (append-nil taken) ok) refl
accepted-append taken (w ∷ words) word h ok =
    let p = both (is_ok (word_fault taken w)) (are_accepted_after (taken ++ (w.code, w.name) ∷ []) words) h in
    joined (is_ok (word_fault taken w)) (are_accepted_after (taken ++ (w.code, w.name) ∷ []) (words ++ word ∷ [])) p.0
    (accepted-append (taken ++ (w.code, w.name) ∷ []) words word p.1
    (subst (λ (t : List Named). is_ok (word_fault t word) ≡ true)
    (sym (append_assoc taken ((w.code, w.name) ∷ []) (names_of words))) ok))

-- capital letters are ASCII
pub capitals_are_ascii : (name : List ℕ) → list_all is_capital name ≡ true → IsAscii name
capitals_are_ascii [] h i = omega arith
capitals_are_ascii (letter ∷ name) h zero =
    let p = both (is_capital letter) (list_all is_capital name) h in
    let q = both (nat_le 65 letter) (nat_le letter 90) p.0 in
    omega (arith, leb-true letter 90 q.1)
capitals_are_ascii (letter ∷ name) h (suc i) =
    capitals_are_ascii name (both (is_capital letter) (list_all is_capital name) h).1 i

-- a word is refused if there is no room
full-refused : (b : Bool) (other : Result (Unit {0}) WordError) → is_ok (if b then Err Full else other) ≡ true →
    b ≡ false
full-refused true other h = cc
full-refused false other h = refl

-- the words in the first n places of the arrays
abbrev pub first_words : List Named → List WordMeaning → ℕ → List Word
first_words names meanings n = words_with (take n names) (take n meanings)

first_names : (names : List Named) (meanings : List WordMeaning) (n : ℕ) → n ≤ length names → n ≤ length meanings →
    names_of (first_words names meanings n) ≡ take n names
first_names names meanings n few enough =
    let many : length (take n names) ≡ n = length-take-le n names few in
    let more : length (take n meanings) ≡ n = length-take-le n meanings enough in
    names_back (take n names) (take n meanings) (omega (arith, many, more))

-- an accepted word finds room
pub has_room : (names : List Named) (meanings : List WordMeaning) (n : ℕ) (word : Word) → n ≤ length names →
    n ≤ length meanings →
    is_ok (word_fault (names_of (first_words names meanings n)) word) ≡ true → n < most_words
has_room names meanings n word few enough ok =
    let many : length (names_of (first_words names meanings n)) ≡ n =
    ap length (first_names names meanings n few enough) ∙ length-take-le n names few in
    omega (
      arith,
      many,
      leb-false most_words (length (names_of (first_words names meanings n)))
          (full-refused (nat_le most_words (length (names_of (first_words names meanings n)))) _ ok),
    )

-- a name and a meaning written after the last ones make one more word
pub kept : (names : List Named) (meanings : List WordMeaning) (n : ℕ) (name : Named) (meaning : WordMeaning) →
    n < length names → n < length meanings →
    first_words (slice_set names n name) (slice_set meanings n meaning) (n + 1)
    ≡ first_words names meanings n ++ new_word name meaning ∷ []
kept names meanings n name meaning few enough =
    let many : length (take n names) ≡ n = length-take-le n names (omega (arith, few)) in
    let more : length (take n meanings) ≡ n = length-take-le n meanings (omega (arith, enough)) in
    rw (take_more_set names n name few) (rw (take_more_set meanings n meaning enough)
    (words_with-append (take n names) (take n meanings) name meaning (many ∙ sym more)))

-- and the words stay accepted
pub kept-accepted : (names : List Named) (meanings : List WordMeaning) (n : ℕ) (name : Named) (meaning : WordMeaning) →
    n < length names → n < length meanings → are_accepted (first_words names meanings n) ≡ true →
    is_ok (word_fault (names_of (first_words names meanings n)) (new_word name meaning)) ≡ true →
    are_accepted (first_words (slice_set names n name) (slice_set meanings n meaning) (n + 1)) ≡ true
kept-accepted names meanings n name meaning few enough h ok =
    rw (kept names meanings n name meaning few enough)
    (accepted-append [] (first_words names meanings n) (new_word name meaning) h ok)

-- an index after the last word has no word
pub behind : (words : List Word) (k : ℕ) → length words ≤ k → word_at k words ≡ None
behind [] k h = refl
behind (word ∷ words) zero h = absurd (omega (arith, h))
behind (word ∷ words) (suc k) h = behind words k (omega (arith, h))

pub names-length : (words : List Word) → length (names_of words) ≡ length words
names-length [] = refl
names-length (word ∷ words) = ap suc (names-length words)

-- the word at an index is made from the name and the meaning there
word_at-words_with : (names : List Named) (meanings : List WordMeaning) (k : ℕ) (d : Named) (e : WordMeaning) →
    k < length names → k < length meanings →
    word_at k (words_with names meanings) ≡ Some (new_word (get_or names k d) (get_or meanings k e))
word_at-words_with [] meanings k d e h i = absurd (omega (arith, h))
word_at-words_with (n ∷ names) [] k d e h i = absurd (omega (arith, i))
word_at-words_with (n ∷ names) (m ∷ meanings) zero d e h i = refl
word_at-words_with (n ∷ names) (m ∷ meanings) (suc k) d e h i =
    word_at-words_with names meanings k d e (omega (arith, h)) (omega (arith, i))

pub first_words-at : (names : List Named) (meanings : List WordMeaning) (n k : ℕ) (d : Named) (e : WordMeaning) →
    n ≤ length names → n ≤ length meanings → k < n →
    word_at k (first_words names meanings n) ≡ Some (new_word (get_or names k d) (get_or meanings k e))
first_words-at names meanings n k d e few enough low =
    let many : length (take n names) ≡ n = length-take-le n names few in
    let more : length (take n meanings) ≡ n = length-take-le n meanings enough in
    word_at-words_with (take n names) (take n meanings) k d e (omega (arith, low, many)) (omega (arith, low, more))
    ∙ ap (λ x. Some (new_word x (get_or (take n meanings) k e))) (get_or-take n names k d low)
    ∙ ap (λ y. Some (new_word (get_or names k d) y)) (get_or-take n meanings k e low)

pub names-few : (names : List Named) (meanings : List WordMeaning) (n : ℕ) → n ≤ length names → n ≤ length meanings →
    length (names_of (first_words names meanings n)) ≡ n
names-few names meanings n few enough =
    ap length (first_names names meanings n few enough) ∙ length-take-le n names few

-- words that are made from the first names and meanings are at most as many
within : (names : List Named) (meanings : List WordMeaning) (count : ℕ)
    → length (names_of (words_with (take count names) (take count meanings))) ≤ count
within names meanings zero = omega arith
within [] meanings (suc count) = omega arith
within (name ∷ names) [] (suc count) = omega arith
within (name ∷ names) (meaning ∷ meanings) (suc count) = let few = within names meanings count in omega (arith, few)

pub few_names : (names : List Named) (meanings : List WordMeaning) (count : ℕ) → count ≤ most_words
    → length (names_of (words_with (take count names) (take count meanings))) ≤ most_words
few_names names meanings count few = let less = within names meanings count in omega (arith, less, few)
