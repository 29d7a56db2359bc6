-- An operator's word changes only entries that are Stops.
use Rattle.daide_words.proofs.Common.{◌≡◌, ℕ, zero, suc, ◌+◌, Bool, true, false, not, ◌&&◌, nat_eq, List, [], ◌∷◌}
use Rattle.daide_words.proofs.Common.{Option, Some, None, option_map, refl, sym, ap, ◌∙◌, subst, arith, list_all}
use Rattle.daide_words.proofs.Common.{list_any, nat_tests, Class, Word, Level, Sym, Closing, TableEntry, Take, Skip}
use Rattle.daide_words.proofs.Common.{Stop, is_stop, entries, form_of, slot_of, may_end_of, table_answer, AddedWord}
use Rattle.daide_words.proofs.Common.{Words, both-pass, grammar_word, grammar_words, word_at, word_answer, answer_over}
use Rattle.daide_token.specs.Class.{is_standard}
use Rattle.daide_grammar.specs.Table.Numbers.{word_number}
use Rattle.daide_grammar.specs.Forms.{Slot}
use Rattle.daide_grammar.specs.Table.Symbols.{Alternative, entry_at, this_or, answer_by, is_of_kind}
use Rattle.daide_grammar.specs.Proofs.RightEntries.{is_plain, is_unopened, added_right}
use Rattle.daide_grammar.specs.Proofs.Reading.{heads}
use Rattle.daide_grammar.specs.Proofs.MovesAgree.{right_parts}
use Rattle.daide_grammar.specs.SideMessages.{standard}
use Rattle.daide_words.specs.declared.word.Word as code
use Rattle.daide_words.specs.Table.OverWords.{this_word, word_from, if_stands}
use Rattle.daide_words.specs.Proofs.WordForms.{plain-no-word}

-- a class with a word's number is that word's
pub the_word : (c : Class) (k : ℕ) → word_number c ≡ Some k → c ≡ Word k
the_word (Word i) k e = cc
the_word _ k e = cc

-- a class without a word's number has its entry of the protocol's table
pub no_word : (words : Words) (s : Sym) (c : Class) → word_number c ≡ None → answer_over words s c ≡ table_answer s c
unfolding answer_over
no_word words s (Word i) e = cc
no_word words s _ e = refl

-- nor has a class without words
pub own_number : (c : Class) → is_standard c ≡ true → word_number c ≡ None
own_number (Word k) h = cc
own_number _ h = refl

-- at a slot for words no symbol is nullable,
abbrev stays : Option (Slot × Level) → Bool → Bool
stays None ends = true
stays (Some p) ends = not ends

all_stay : (s : Sym) → stays (slot_of s) (may_end_of s) ≡ true
unfolding slot_of may_end_of
all_stay Closing = refl
all_stay _ = refl

not_true : (b : Bool) → not b ≡ true → b ≡ false
not_true true h = cc
not_true false h = refl

-- and no entry takes a word
none_found : (k : ℕ) (es : List Alternative) → list_all (λ e. is_plain e.kind) es ≡ true → entry_at (Word k) es ≡ None
none_found k [] h = refl
none_found k (e ∷ es) h =
    let p = both-pass (is_plain e.kind) (list_all (λ y. is_plain y.kind) es) h in
    step (is_of_kind e.kind (Word k)) refl p.0 (none_found k es p.1)
  where
    step : (b : Bool) → is_of_kind e.kind (Word k) ≡ b → is_plain e.kind ≡ true → entry_at (Word k) es ≡ None →
        this_or b e (entry_at (Word k) es) ≡ None
    step true a plain none = absurd (plain-no-word e.kind (Word k) k plain refl a)
    step false a plain none = none

-- so the protocol's table stops a word there
pub slot_stops : (s : Sym) (p : Slot × Level) (k : ℕ) → slot_of s ≡ Some p → table_answer s (Word k) ≡ Stop
unfolding table_answer added_right
slot_stops s p k o =
    let hs = heads standard 60 (form_of s ∷ []) in
    let a =
    subst (λ (x : Option (Slot × Level)). added_right x (entries s) hs ≡ true) o (right_parts standard s).added in
    let plain = both-pass (list_any is_unopened hs) (list_all (λ y. is_plain y.kind) (entries s)) a in
    let ends =
    not_true (may_end_of s) (subst (λ (x : Option (Slot × Level)). stays x (may_end_of s) ≡ true) o (all_stay s)) in
    ap (λ e. answer_by e (may_end_of s)) (none_found k (entries s) plain.1) ∙ ap (λ b. answer_by None b) ends

module _ (words : Words) (s : Sym) (k : ℕ) where
  slotted : (o : Option (Slot × Level)) → slot_of s ≡ o → is_stop (table_answer s (Word k)) ≡ false →
      word_answer o (word_from k 0 words) (table_answer s (Word k)) ≡ table_answer s (Word k)
  slotted None e h = refl
  slotted (Some p) e h = absurd (both_not (is_stop (table_answer s (Word k))) (ap is_stop (slot_stops s p k e)) h)
    where
      both_not : (b : Bool) → b ≡ true → b ≡ false → ⊥
      both_not true t f = cc
      both_not false t f = cc

-- an entry other than a Stop is unchanged
pub not_stopped : (words : Words) (s : Sym) (c : Class) → is_stop (table_answer s c) ≡ false →
    answer_over words s c ≡ table_answer s c
unfolding answer_over
not_stopped words s (Word k) h = slotted words s k (slot_of s) refl h
not_stopped words s _ h = refl

-- the entries that are Stops
pub the_stop : (a : TableEntry) → is_stop a ≡ true → a ≡ Stop
the_stop Stop h = refl
the_stop Skip h = cc
the_stop (Take rest) h = cc

-- a word by its index is the word at that index
found_from : (n j k : ℕ) (words : List code.Word) → n ≡ j + k →
    word_from n j (grammar_words words) ≡ option_map grammar_word (word_at k words)
found_from n j k [] e = refl
found_from n j zero (word ∷ words) e =
    let same : nat_eq j n ≡ true = grind (arith, nat_tests) in
    ap (λ b. this_word b (grammar_word word) (word_from n (suc j) (grammar_words words))) same
found_from n j (suc k) (word ∷ words) e =
    let other : nat_eq j n ≡ false = grind (arith, nat_tests) in
    ap (λ b. this_word b (grammar_word word) (word_from n (suc j) (grammar_words words))) other
    ∙ found_from n (suc j) k words (omega (arith, e))

-- the entry for a word's class, by the word at its index
pub word_found : (words : List code.Word) (s : Sym) (k : ℕ) →
    answer_over (grammar_words words) s (Word k)
    ≡ word_answer (slot_of s) (option_map grammar_word (word_at k words)) (table_answer s (Word k))
unfolding answer_over
word_found words s k =
    ap (λ (o : Option AddedWord). word_answer (slot_of s) o (table_answer s (Word k)))
    (found_from k 0 k words (omega arith))

-- a word's entry if the table stops it
pub word_told : (words : List code.Word) (s : Sym) (k : ℕ) → table_answer s (Word k) ≡ Stop →
    answer_over (grammar_words words) s (Word k)
    ≡ word_answer (slot_of s) (option_map grammar_word (word_at k words)) Stop
word_told words s k e =
    word_found words s k ∙ ap (word_answer (slot_of s) (option_map grammar_word (word_at k words))) e

-- without a word or without a slot the entry is unchanged
pub no_word_there : (o : Option (Slot × Level)) (a : TableEntry) → word_answer o None a ≡ a
no_word_there None a = refl
no_word_there (Some p) a = refl

-- the entry for a class with a word's number
pub stopped_word : (words : List code.Word) (s : Sym) (c : Class) (k : ℕ) (o : Option code.Word) →
    word_number c ≡ Some k →
    table_answer s c ≡ Stop → word_at k words ≡ o →
    answer_over (grammar_words words) s c ≡ word_answer (slot_of s) (option_map grammar_word o) Stop
stopped_word words s c k o e stop there =
    let is_word = the_word c k e in
    ap (answer_over (grammar_words words) s) is_word
    ∙ word_told words s k (ap (table_answer s) (sym is_word) ∙ stop)
    ∙ ap (λ (w : Option code.Word). word_answer (slot_of s) (option_map grammar_word w) Stop) there

-- if a word is not allowed, it is stopped
pub not_standing : (b : Bool) (g : Sym) → b ≡ false → Stop ≡ if_stands b g Stop
not_standing true g e = cc
not_standing false g e = refl

pub standing : (b : Bool) (g : Sym) → b ≡ true → Take (g ∷ []) ≡ if_stands b g Stop
standing true g e = refl
standing false g e = cc

pub first_fails : (a b : Bool) → a ≡ false → (a && b) ≡ false
first_fails true b e = cc
first_fails false b e = refl

pub second_fails : (a b : Bool) → b ≡ false → (a && b) ≡ false
second_fails true b e = e
second_fails false b e = refl

pub both_hold : (a b : Bool) → a ≡ true → b ≡ true → (a && b) ≡ true
both_hold true b e h = h
both_hold false b e h = cc
