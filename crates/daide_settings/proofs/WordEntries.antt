-- Entries of words, checked one after the other.
use Rattle.std.proofs.Common.{option_map, if◌then◌else◌, is_ok}
use Rattle.daide_settings.proofs.Common.{◌≡◌, true, false, ◌&&◌, Bool, List, [], ◌∷◌, ◌++◌, Option, Some, None, Result}
use Rattle.daide_settings.proofs.Common.{Ok, Err, refl, sym, ap, ◌∙◌, append_assoc, append-nil, Data, Items, no_items}
use Rattle.daide_settings.proofs.Common.{item, Word, Words, SettingsError, Range, words_of_entries, accepted_words}
use Rattle.daide_token.specs.Names.{Named}
use Rattle.daide_words.specs.Word.{names_of}
use Rattle.daide_words.specs.Accepted.{word_fault, are_accepted, are_accepted_after}
use Rattle.daide_settings.specs.WordSettings.{word_of, one_before}

-- the result for some words followed by the words of entries
abbrev pub further : List Word → Items → Result (List Word) SettingsError
further before entries = accepted_words (option_map (λ words. before ++ words) (words_of_entries entries))

pub further_next : (before : List Word) (word : Word) (entry : Data) (others : Items) → word_of entry ≡ Some word →
    further before (item entry others) ≡ further (before ++ word ∷ []) others
further_next before word entry others e = rw e (go (words_of_entries others))
  where
    go : (o : Option (List Word)) → accepted_words (option_map (λ words. before ++ words) (one_before (Some word) o))
        ≡ accepted_words (option_map (λ words. (before ++ word ∷ []) ++ words) o)
    go None = refl
    go (Some words) = ap (λ ws. accepted_words (Some ws)) (sym (append_assoc before (word ∷ []) words))

pub further_last : (before : List Word) → are_accepted before ≡ true → further before no_items ≡ Ok before
further_last before accepted =
    ap (λ ws. accepted_words (Some ws)) (append-nil before)
    ∙ ap (λ b. if b then Ok before else Err (Range Words)) accepted

and_false : (a b : Bool) → b ≡ false → (a && b) ≡ false
and_false true b e = e
and_false false b e = refl

-- words are not accepted if one of them is refused
not_accepted : (taken : List Named) (before : List Word) (word : Word) (words : List Word) →
    is_ok (word_fault (taken ++ names_of before) word) ≡ false →
    are_accepted_after taken (before ++ word ∷ words) ≡ false
not_accepted taken [] word words e =
    let here : is_ok (word_fault taken word) ≡ false =
    ap (λ ns. is_ok (word_fault ns word)) (sym (append-nil taken)) ∙ e in
    ap (λ b. b && are_accepted_after (taken ++ (word.code, word.name) ∷ []) words) here
not_accepted taken (w ∷ before) word words e =
    and_false (is_ok (word_fault taken w)) _
    (not_accepted (taken ++ (w.code, w.name) ∷ []) before word words
    (ap (λ ns. is_ok (word_fault ns word)) (append_assoc taken ((w.code, w.name) ∷ []) (names_of before)) ∙ e))

-- a word that is refused after the words before it makes the result `Range`
pub further_refused : (before : List Word) (word : Word) (entry : Data) (others : Items) → word_of entry ≡ Some word →
    is_ok (word_fault (names_of before) word) ≡ false → further before (item entry others) ≡ Err (Range Words)
further_refused before word entry others e refused = rw e (go (words_of_entries others))
  where
    go : (o : Option (List Word)) → accepted_words (option_map (λ words. before ++ words) (one_before (Some word) o))
        ≡ Err (Range Words)
    go None = refl
    go (Some words) =
        ap (λ b. if b then Ok (before ++ word ∷ words) else Err (Range Words))
        (not_accepted [] before word words refused)
