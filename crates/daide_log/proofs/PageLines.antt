-- A message's text is on one line, whatever words an operator added.
use Rattle.std.proofs.Common.{is_none, bytes_eq}
use Rattle.std.specs.List.{list_any}
use Rattle.daide_log.proofs.Common.{◌≡◌, ◌==◌, ◌&&◌, ◌%◌, not, ℕ, Bool, true, false, List, [], ◌∷◌, ◌++◌, codes, drop}
use Rattle.daide_log.proofs.Common.{length, Result, Err, is_ok, if◌then◌else◌, refl, sym, ap, ◌∙◌, arith, Option}
use Rattle.daide_log.proofs.Common.{append_assoc, subst, Appends, list_all, and_parts, nat_tests, token_named}
use Rattle.daide_log.proofs.Common.{tokens_of, place_past, some_text, PrinterState, Start, Head, Side, are_accepted}
use Rattle.daide_log.proofs.Common.{are_accepted_after, is_capital, is_free_name, word_fault, names_of, Word, WordError}
use Rattle.daide_log.proofs.Common.{Relay, Level, Limits, is_dm, SessionView, holding, Config, Deed}
use Rattle.daide_token.specs.Names.{Named}
use Rattle.daide_token.specs.TextSteps.{end_text}
use Rattle.daide_token.proofs.TextParts.{text_by_parts}
use Rattle.daide_token.proofs.TextLines.{is_inner, are_inner, are_names_inner, text_inner}
use Rattle.daide_words.specs.declared.word.WordError.TheVariants as faults
use Rattle.daide_protocol.specs.declared.note.Note.TheVariants as Notes
use Rattle.daide_log.specs.Explained.{indented, indented_from, with_line_feed, message_text, verdict_by}
use Rattle.daide_log.specs.Explaining.{AreLinesBy, IsRightlyReported}
use Rattle.daide_log.proofs.PlayLemmas.{appends_more}

-- ---- the names of accepted words

capital_inner : (c : ℕ) → is_capital c ≡ true → is_inner c ≡ true
capital_inner c e = grind (arith, nat_tests)

capitals_inner : (name : List ℕ) → list_all is_capital name ≡ true → are_inner name ≡ true
capitals_inner [] e = refl
capitals_inner (c ∷ name) e =
    let p = and_parts (is_capital c) (list_all is_capital name) e in
    rw (capital_inner c p.0) (capitals_inner name p.1)

free_of : (full free : Bool) (other : Result (Unit {0}) WordError) →
    is_ok (if full then Err faults.Full else if not free then Err faults.Name else other) ≡ true → free ≡ true
free_of true free other e = absurd (cc)
free_of false false other e = absurd (cc)
free_of false true other e = refl

inner_after : (taken : List Named) (words : List Word) → are_accepted_after taken words ≡ true →
    are_names_inner (names_of words) ≡ true
inner_after taken [] e = refl
inner_after taken (word ∷ words) e =
    let p = and_parts (is_ok (word_fault taken word)) (are_accepted_after (taken ++ (word.code, word.name) ∷ []) words) e in
    let free = free_of _ (is_free_name taken word.name) _ p.0 in
    let capitals = and_parts (list_all is_capital word.name) (is_none (token_named word.name)
    && not (list_any (λ entry. bytes_eq entry.1 word.name) taken)) free in
    rw (capitals_inner word.name capitals.0) (inner_after (taken ++ (word.code, word.name) ∷ []) words p.1)

pub accepted_inner : (words : List Word) → are_accepted words ≡ true → are_names_inner (names_of words) ≡ true
accepted_inner words e = inner_after [] words e

-- ---- one line

inner_false : (c : ℕ) → is_inner c ≡ true → (c == 10) ≡ false
inner_false c = go (c == 10)
  where
    go : (b : Bool) → not b ≡ true → b ≡ false
    go true e = absurd (cc)
    go false e = refl

behind_first : (text : List ℕ) → are_inner text ≡ true → indented_from false (text ++ 10 ∷ []) ≡ text ++ 10 ∷ []
behind_first [] e = refl
behind_first (c ∷ text) e =
    let p = and_parts (is_inner c) (are_inner text) e in
    rw (inner_false c p.0) (ap (λ (l : List ℕ). c ∷ l) (behind_first text p.1))

one_line : (text : List ℕ) → are_inner text ≡ true → indented_from true (with_line_feed text) ≡ codes "    " ++ with_line_feed text
one_line [] e = refl
one_line (c ∷ text) e =
    let p = and_parts (is_inner c) (are_inner text) e in
    rw (inner_false c p.0) (ap (λ (l : List ℕ). codes "    " ++ c ∷ l) (behind_first text p.1))

pub message_line : (words : List Word) (tokens : List ℕ) → are_accepted words ≡ true →
    indented (with_line_feed (message_text words tokens)) ≡ codes "    " ++ with_line_feed (message_text words tokens)
unfolding indented
message_line words tokens e =
    one_line (message_text words tokens) (text_inner (names_of words) tokens (accepted_inner words e))

-- ---- a message for which only its text is written

pub text_alone : (words : List Word) (limits : Limits) (announced : Level) (side : Side) (head : Head) (deed : Deed) (new : SessionView)
    (body : List ℕ) → is_dm head.kind ≡ true → verdict_by deed ≡ Relay → body ≡ drop 4 (holding new side).frame_bytes →
    AreLinesBy words limits announced side (Notes.Frame head deed) new (with_line_feed (message_text words (tokens_of body)))
text_alone words limits announced side head deed new body k v b =
    rw k (rw v (ap (λ (l : List ℕ). with_line_feed (message_text words (tokens_of l))) b))

pub body_even : (words : List Word) (config : Config) (side : Side) (head : Head) (deed : Deed) (new : SessionView)
    (body : List ℕ) → is_dm head.kind ≡ true → body ≡ drop 4 (holding new side).frame_bytes →
    IsRightlyReported words config side (Notes.Frame head deed) new → length body % 2 ≡ 0
body_even words config side head deed new body k b right =
    let right = rw k at right in ap (λ (l : List ℕ). length l % 2) b ∙ right.ruled.even

-- ---- a message that is printed in parts

parts_line : (words : List Word) (tokens : List ℕ) (place : PrinterState) → are_accepted words ≡ true →
    place ≡ place_past Start tokens →
    codes "    " ++ (some_text (names_of words) Start tokens ++ with_line_feed (end_text place)) ≡ indented (with_line_feed (message_text words tokens))
parts_line words tokens place e at =
    let names = names_of words in
    let some = some_text names Start tokens in
    ap (λ (p : PrinterState). codes "    " ++ (some ++ with_line_feed (end_text p))) at
    ∙ ap (λ (l : List ℕ). codes "    " ++ l) (sym (append_assoc some (end_text (place_past Start tokens)) (10 ∷ [])))
    ∙ ap (λ (l : List ℕ). codes "    " ++ with_line_feed l) (sym (text_by_parts names tokens))
    ∙ sym (message_line words tokens e)

pub parts_put : (words : List Word) (tokens : List ℕ) (place : PrinterState) (a b c d : Option (List ℕ)) →
    are_accepted words ≡ true → place ≡ place_past Start tokens → Appends a b (codes "    ") →
    Appends b c (some_text (names_of words) Start tokens) → Appends c d (with_line_feed (end_text place)) →
    Appends a d (indented (with_line_feed (message_text words tokens)))
parts_put words tokens place a b c d e at margin some end =
    let names = names_of words in
    subst (Appends a d) (parts_line words tokens place e at)
    (appends_more a b d (codes "    ") (some_text names Start tokens ++ with_line_feed (end_text place)) margin
    (appends_more b c d (some_text names Start tokens) (with_line_feed (end_text place)) some end))
