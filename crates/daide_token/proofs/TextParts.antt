-- A text in parts: the first tokens, and the rest.
use Rattle.std.proofs.Common.{append-nil}
use Rattle.std.proofs.lemmas.Grind.{common_steps}
use Rattle.daide_token.proofs.Common.{◌≡◌, ℕ, ◌+◌, ◌-◌, ◌*◌, ◌%◌, ◌<◌, ◌≤◌, List, [], ◌∷◌, ◌++◌, length, take, drop}
use Rattle.daide_token.proofs.Common.{get_or, Option, Some, None, refl, sym, ap, ◌∙◌, subst, arith, append_assoc, ◌==◌}
use Rattle.daide_token.proofs.Common.{true, zero, suc, nat_tests, Appends, tokens_of, Named, text_with, place_after}
use Rattle.daide_token.proofs.Common.{place_past, token_text, rest_of_text, some_text, PrinterState}
use Rattle.daide_token.proofs.WholeText.{rest_of_text-start}
use Rattle.daide_token.specs.TextSteps.{end_text}
use Rattle.daide_token.specs.declared.text.PrinterState.TheVariants as place

pub first_text : (added : List Named) (p : PrinterState) (t : ℕ) (ts : List ℕ) →
    rest_of_text added p (t ∷ ts) ≡ token_text added p t ++ rest_of_text added (place_after t) ts
first_text added place.Start t ts = refl
first_text added place.Word t ts = refl
first_text added place.Quote t ts = refl

-- ---- the first tokens, and more

pub rest_behind : (added : List Named) (p : PrinterState) (ts us : List ℕ) →
    rest_of_text added p (ts ++ us) ≡ some_text added p ts ++ rest_of_text added (place_past p ts) us
rest_behind added p [] us = refl
rest_behind added p (t ∷ ts) us =
    first_text added p t (ts ++ us)
    ∙ ap (λ (l : List ℕ). token_text added p t ++ l) (rest_behind added (place_after t) ts us)
    ∙ sym (append_assoc (token_text added p t) (some_text added (place_after t) ts)
    (rest_of_text added (place_past (place_after t) ts) us))

-- the end of the text
pub rest_at_end : (added : List Named) (p : PrinterState) → rest_of_text added p [] ≡ end_text p
rest_at_end added place.Start = refl
rest_at_end added place.Word = refl
rest_at_end added place.Quote = refl

-- an even number of bytes is whole tokens, and the tokens of what follows are separate
pub tokens_behind : (some more : List ℕ) → length some % 2 ≡ 0 → tokens_of (some ++ more) ≡ tokens_of some ++ tokens_of more
tokens_behind [] more even = refl
tokens_behind (x ∷ []) more even = absurd (omega arith)
tokens_behind (high ∷ low ∷ some) more even =
    ap (λ (ts : List ℕ). (high * 256 + low) ∷ ts) (tokens_behind some more (omega arith))

pub rest_by_parts : (added : List Named) (p : PrinterState) (rest some more : List ℕ) → some ++ more ≡ rest →
    length some % 2 ≡ 0 →
    rest_of_text added p (tokens_of rest)
    ≡ some_text added p (tokens_of some) ++ rest_of_text added (place_past p (tokens_of some)) (tokens_of more)
rest_by_parts added p rest some more e even =
    ap (λ (l : List ℕ). rest_of_text added p (tokens_of l)) (sym e)
    ∙ ap (rest_of_text added p) (tokens_behind some more even)
    ∙ rest_behind added p (tokens_of some) (tokens_of more)

-- ---- writing

pub appends_on : (a b c : Option (List ℕ)) (xs ys : List ℕ) → Appends a b xs → Appends b c ys → Appends a c (xs ++ ys)
appends_on None b c xs ys h k = tt
appends_on (Some a) None c xs ys h k = absurd h
appends_on (Some a) (Some b) None xs ys h k = absurd k
appends_on (Some a) (Some b) (Some c) xs ys h k = k ∙ ap (λ (t : List ℕ). t ++ ys) h ∙ append_assoc a xs ys

-- once the first tokens are written, what completes the rest completes the whole text
pub part_on : (added : List Named) (a b final : Option (List ℕ)) (p next : PrinterState) (rest some more text : List ℕ) →
    some ++ more ≡ rest → length some % 2 ≡ 0 → next ≡ place_past p (tokens_of some) →
    text ≡ some_text added p (tokens_of some) → Appends a b text →
    Appends b final (rest_of_text added next (tokens_of more)) → Appends a final (rest_of_text added p (tokens_of rest))
part_on added a b final p next rest some more text e even after same written h =
    subst (Appends a final) (sym (rest_by_parts added p rest some more e even))
    (appends_on a b final (some_text added p (tokens_of some))
    (rest_of_text added (place_past p (tokens_of some)) (tokens_of more))
    (subst (Appends a b) same written)
    (subst (λ (q : PrinterState). Appends b final (rest_of_text added q (tokens_of more))) after h))

empty : (rest : List ℕ) → (length rest == 0) ≡ true → rest ≡ []
empty [] e = refl
empty (x ∷ rest) e = absurd (grind (arith, nat_tests, e))

pub end_on : (added : List Named) (a final : Option (List ℕ)) (p : PrinterState) (rest text : List ℕ) →
    (length rest == 0) ≡ true → text ≡ end_text p → Appends a final text →
    Appends a final (rest_of_text added p (tokens_of rest))
end_on added a final p rest text none e written =
    subst (λ (l : List ℕ). Appends a final (rest_of_text added p (tokens_of l))) (sym (empty rest none))
    (subst (Appends a final) (e ∙ sym (rest_at_end added p)) written)

-- ---- one token

pub left_length : (rest : List ℕ) → 2 ≤ length rest → length (take (length rest - 2) (drop 2 rest)) + 2 ≡ length rest
left_length rest two = grind (arith, common_steps)

whole : (rest : List ℕ) → take (length rest) rest ≡ rest
whole rest = grind (arith, common_steps)

first_token : (rest : List ℕ) → 2 ≤ length rest →
    tokens_of rest ≡ (get_or rest 0 0 * 256 + get_or rest 1 0) ∷ tokens_of (take (length rest - 2) (drop 2 rest))
first_token [] h = absurd (omega arith)
first_token (x ∷ []) h = absurd (omega arith)
first_token (high ∷ low ∷ rest) h =
    let size : length (high ∷ low ∷ rest) - 2 ≡ length rest = omega arith in
    let all : take (length (high ∷ low ∷ rest) - 2) rest ≡ rest = ap (λ (k : ℕ). take k rest) size ∙ whole rest in
    ap (λ (r : List ℕ). (high * 256 + low) ∷ tokens_of r) (sym all)

-- appending one token leaves the same text: what was appended, and the text of the rest
pub token_on : (added : List Named) (p next : PrinterState) (before after all rest : List ℕ) (t : ℕ) → 2 ≤ length rest →
    t ≡ get_or rest 0 0 * 256 + get_or rest 1 0 → next ≡ place_after t → after ≡ before ++ token_text added p t →
    before ++ some_text added p (tokens_of rest) ≡ all →
    after ++ some_text added next (tokens_of (take (length rest - 2) (drop 2 rest))) ≡ all
token_on added p next before after all rest t two same place text e =
    let ts = tokens_of (take (length rest - 2) (drop 2 rest)) in
    let front : tokens_of rest ≡ t ∷ ts = first_token rest two ∙ ap (λ (u : ℕ). u ∷ ts) (sym same) in
    ap (λ (l : List ℕ). l ++ some_text added next ts) text
    ∙ ap (λ (q : PrinterState). (before ++ token_text added p t) ++ some_text added q ts) place
    ∙ append_assoc before (token_text added p t) (some_text added (place_after t) ts)
    ∙ ap (λ (l : List ℕ). before ++ some_text added p l) (sym front) ∙ e

pub place_on : (p next last : PrinterState) (rest : List ℕ) (t : ℕ) → 2 ≤ length rest →
    t ≡ get_or rest 0 0 * 256 + get_or rest 1 0 → next ≡ place_after t → place_past p (tokens_of rest) ≡ last →
    place_past next (tokens_of (take (length rest - 2) (drop 2 rest))) ≡ last
place_on p next last rest t two same place e =
    let ts = tokens_of (take (length rest - 2) (drop 2 rest)) in
    let front : tokens_of rest ≡ t ∷ ts = first_token rest two ∙ ap (λ (u : ℕ). u ∷ ts) (sym same) in
    ap (λ (q : PrinterState). place_past q ts) place ∙ ap (place_past p) (sym front) ∙ e

-- fewer than two bytes are no token
pub none_left : (rest : List ℕ) → length rest < 2 → tokens_of rest ≡ []
none_left [] less = refl
none_left (x ∷ []) less = refl
none_left (x ∷ y ∷ rest) less = absurd (omega arith)

pub text_put : (added : List Named) (p : PrinterState) (before all rest : List ℕ) → length rest < 2 →
    before ++ some_text added p (tokens_of rest) ≡ all → before ≡ all
text_put added p before all rest less e =
    sym (append-nil before) ∙ ap (λ (ts : List ℕ). before ++ some_text added p ts) (sym (none_left rest less)) ∙ e

pub place_put : (p last : PrinterState) (rest : List ℕ) → length rest < 2 → place_past p (tokens_of rest) ≡ last → p ≡ last
place_put p last rest less e = ap (place_past p) (sym (none_left rest less)) ∙ e

-- ---- the whole text

pub some_by_parts : (added : List Named) (p : PrinterState) (rest some more : List ℕ) → some ++ more ≡ rest →
    length some % 2 ≡ 0 →
    some_text added p (tokens_of rest)
    ≡ some_text added p (tokens_of some) ++ some_text added (place_past p (tokens_of some)) (tokens_of more)
some_by_parts added p rest some more e even =
    ap (λ (l : List ℕ). some_text added p (tokens_of l)) (sym e)
    ∙ ap (some_text added p) (tokens_behind some more even)
    ∙ some_behind added p (tokens_of some) (tokens_of more)
  where
    some_behind : (added : List Named) (p : PrinterState) (ts us : List ℕ) →
        some_text added p (ts ++ us) ≡ some_text added p ts ++ some_text added (place_past p ts) us
    some_behind added p [] us = refl
    some_behind added p (t ∷ ts) us =
        ap (λ (l : List ℕ). token_text added p t ++ l) (some_behind added (place_after t) ts us)
        ∙ sym (append_assoc (token_text added p t) (some_text added (place_after t) ts)
        (some_text added (place_past (place_after t) ts) us))

pub past_by_parts : (p : PrinterState) (rest some more : List ℕ) → some ++ more ≡ rest → length some % 2 ≡ 0 →
    place_past p (tokens_of rest) ≡ place_past (place_past p (tokens_of some)) (tokens_of more)
past_by_parts p rest some more e even =
    ap (λ (l : List ℕ). place_past p (tokens_of l)) (sym e) ∙ ap (place_past p) (tokens_behind some more even)
    ∙ past_behind p (tokens_of some) (tokens_of more)
  where
    past_behind : (p : PrinterState) (ts us : List ℕ) → place_past p (ts ++ us) ≡ place_past (place_past p ts) us
    past_behind p [] us = refl
    past_behind p (t ∷ ts) us = past_behind (place_after t) ts us

-- a text is what its tokens add, and then its end
pub text_by_parts : (added : List Named) (ts : List ℕ) →
    text_with added ts ≡ some_text added place.Start ts ++ end_text (place_past place.Start ts)
text_by_parts added ts =
    sym (rest_of_text-start added ts)
    ∙ ap (rest_of_text added place.Start) (sym (append-nil ts))
    ∙ rest_behind added place.Start ts []
    ∙ ap (λ (l : List ℕ). some_text added place.Start ts ++ l) (rest_at_end added (place_past place.Start ts))

-- ---- a run of words

drop_first : (tokens : List ℕ) (at : ℕ) → at + 2 ≤ length tokens →
    tokens_of (drop at tokens) ≡ (get_or tokens at 0 * 256 + get_or tokens (suc at) 0) ∷ tokens_of (drop (suc (suc at)) tokens)
drop_first [] at h = absurd (omega arith)
drop_first (x ∷ []) zero h = absurd (omega arith)
drop_first (x ∷ y ∷ tokens) zero h = refl
drop_first (x ∷ tokens) (suc n) h = drop_first tokens n (omega arith)

pub drop_token : (tokens : List ℕ) (at : ℕ) → at + 2 ≤ length tokens →
    tokens_of (drop at tokens) ≡ (get_or tokens at 0 * 256 + get_or tokens (at + 1) 0) ∷ tokens_of (drop (at + 2) tokens)
drop_token tokens at h =
    let one : suc at ≡ at + 1 = omega arith in
    let two : suc (suc at) ≡ at + 2 = omega arith in
    drop_first tokens at h
    ∙ ap (λ (k : ℕ). (get_or tokens at 0 * 256 + get_or tokens k 0) ∷ tokens_of (drop (suc (suc at)) tokens)) one
    ∙ ap (λ (k : ℕ). (get_or tokens at 0 * 256 + get_or tokens (at + 1) 0) ∷ tokens_of (drop k tokens)) two

pub word_on : (added : List Named) (before after all tokens : List ℕ) (at t : ℕ) → at + 2 ≤ length tokens →
    get_or tokens at 0 * 256 + get_or tokens (at + 1) 0 ≡ t → place_after t ≡ place.Word →
    after ≡ before ++ token_text added place.Word t → before ++ some_text added place.Word (tokens_of (drop at tokens)) ≡ all →
    after ++ some_text added place.Word (tokens_of (drop (at + 2) tokens)) ≡ all
word_on added before after all tokens at t two same word text e =
    let ts = tokens_of (drop (at + 2) tokens) in
    let front : tokens_of (drop at tokens) ≡ t ∷ ts = drop_token tokens at two ∙ ap (λ (u : ℕ). u ∷ ts) same in
    ap (λ (l : List ℕ). l ++ some_text added place.Word ts) text
    ∙ ap (λ (q : PrinterState). (before ++ token_text added place.Word t) ++ some_text added q ts) (sym word)
    ∙ append_assoc before (token_text added place.Word t) (some_text added (place_after t) ts)
    ∙ ap (λ (l : List ℕ). before ++ some_text added place.Word l) (sym front) ∙ e

pub past_on : (last : PrinterState) (tokens : List ℕ) (at t : ℕ) → at + 2 ≤ length tokens →
    get_or tokens at 0 * 256 + get_or tokens (at + 1) 0 ≡ t → place_after t ≡ place.Word →
    place_past place.Word (tokens_of (drop at tokens)) ≡ last →
    place_past place.Word (tokens_of (drop (at + 2) tokens)) ≡ last
past_on last tokens at t two same word e =
    let ts = tokens_of (drop (at + 2) tokens) in
    let front : tokens_of (drop at tokens) ≡ t ∷ ts = drop_token tokens at two ∙ ap (λ (u : ℕ). u ∷ ts) same in
    ap (λ (q : PrinterState). place_past q ts) (sym word) ∙ ap (place_past place.Word) (sym front) ∙ e
