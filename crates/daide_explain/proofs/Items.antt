-- The items of tokens' classes, in sequence.
use Rattle.std.proofs.Common.{◌/◌, ◌≢◌, if◌then◌else◌, unwrap_or}
use Rattle.std.proofs.lemmas.List.{take_more}
use Rattle.std.proofs.lemmas.List.Elements.{filter-append}
use Rattle.daide_explain.proofs.Common.{◌≡◌, ℕ, ◌+◌, ◌*◌, ◌%◌, ◌<◌, ◌==◌, ◌||◌, ◌&&◌, not, ◌⊎◌, inl, inr, Bool, true}
use Rattle.daide_explain.proofs.Common.{false, List, [], ◌∷◌, ◌++◌, length, take, get_or, codes, Option, None, Some}
use Rattle.daide_explain.proofs.Common.{refl, sym, ◌∙◌, ap, subst, arith, append_assoc, append-nil, eqb-true, decimal}
use Rattle.daide_explain.proofs.Common.{Class, class_of, bra, ket, tokens_of, open_brackets, Word, names_of}
use Rattle.daide_explain.proofs.Common.{brackets_in, class_items, end_item, expected_line, items}
use Rattle.daide_token.specs.Text.{text_with}
use Rattle.daide_token.specs.Token.{token_bytes}
use Rattle.daide_explain.specs.Listed.{other_token}
use Rattle.daide_explain.specs.Explained.{has_unknown, kind_name, item}

pub item_other : (words : List Word) (t : ℕ) → t ≡ other_token → item words t ≡ codes "<other>"
unfolding item
item_other words t e = ap (item words) e

pub item_kind : (words : List Word) (t : ℕ) (class : Class) (name : List ℕ) → (t ≡ other_token → ⊥) → class ≡ class_of t →
    Some name ≡ kind_name class → item words t ≡ name
unfolding item
item_kind words t class name apart same e = go (t == other_token) refl (e ∙ ap kind_name same)
  where
    go : (b : Bool) → (t == other_token) ≡ b → Some name ≡ kind_name (class_of t) →
        (if b then codes "<other>" else unwrap_or (kind_name (class_of t)) (text_with (names_of words) (t ∷ []))) ≡ name
    go true f e = absurd (apart (eqb-true t other_token f))
    go false f e = ap (λ (o : Option (List ℕ)). unwrap_or o (text_with (names_of words) (t ∷ []))) (sym e)

one_token : (t : ℕ) → tokens_of (token_bytes t) ≡ t ∷ []
one_token t = ap (λ (x : ℕ). x ∷ []) (let e : t / 256 * 256 + t % 256 ≡ t = omega arith in e)

pub item_name : (words : List Word) (t : ℕ) (class : Class) (bytes : List ℕ) → (t ≡ other_token → ⊥) →
    class ≡ class_of t → None ≡ kind_name class → bytes ≡ token_bytes t →
    item words t ≡ text_with (names_of words) (tokens_of bytes)
unfolding item
item_name words t class bytes apart same e is_bytes =
    go (t == other_token) refl (e ∙ ap kind_name same)
    ∙ ap (text_with (names_of words)) (sym (ap tokens_of is_bytes ∙ one_token t))
  where
    go : (b : Bool) → (t == other_token) ≡ b → ◌≡◌ {A = Option (List ℕ)} None (kind_name (class_of t)) →
        (if b then codes "<other>" else unwrap_or (kind_name (class_of t)) (text_with (names_of words) (t ∷ [])))
        ≡ text_with (names_of words) (t ∷ [])
    go true f e = absurd (apart (eqb-true t other_token f))
    go false f e = ap (λ (o : Option (List ℕ)). unwrap_or o (text_with (names_of words) (t ∷ []))) (sym e)

pub items_none : (words : List Word) (old : List ℕ) → old ≡ old ++ items words []
unfolding items
items_none words old = sym (append-nil old)

items_more : (words : List Word) (xs : List ℕ) (t : ℕ) →
    items words (xs ++ t ∷ []) ≡ items words xs ++ (32 ∷ item words t)
unfolding items
items_more words [] t = append-nil (32 ∷ item words t)
items_more words (x ∷ xs) t =
    ap (λ (l : List ℕ). (32 ∷ item words x) ++ l) (items_more words xs t)
    ∙ sym (append_assoc (32 ∷ item words x) (items words xs) (32 ∷ item words t))

-- one more item was written after a space
pub item_after : (words : List Word) (xs : List ℕ) (t : ℕ) (start old mid new : List ℕ) →
    old ≡ start ++ items words xs → mid ≡ old ++ 32 ∷ [] → new ≡ mid ++ item words t →
    new ≡ start ++ items words (xs ++ t ∷ [])
item_after words xs t start old mid new before space more =
    more
    ∙ (ap (λ (l : List ℕ). l ++ item words t) space
    ∙ (append_assoc old (32 ∷ []) (item words t)
    ∙ (ap (λ (l : List ℕ). l ++ (32 ∷ item words t)) before
    ∙ (append_assoc start (items words xs) (32 ∷ item words t)
    ∙ ap (λ (l : List ℕ). start ++ l) (sym (items_more words xs t))))))

next_one : (all : List ℕ) (i t : ℕ) → i < length all → t ≡ get_or all i t → take (i + 1) all ≡ take i all ++ t ∷ []
next_one all i t inside same = take_more all i t inside ∙ ap (λ (x : ℕ). take i all ++ x ∷ []) (sym same)

pub item_next : (words : List Word) (all : List ℕ) (i t : ℕ) (start old mid new : List ℕ) → i < length all →
    t ≡ get_or all i t → old ≡ start ++ items words (take i all) → mid ≡ old ++ 32 ∷ [] →
    new ≡ mid ++ item words t → new ≡ start ++ items words (take (i + 1) all)
item_next words all i t start old mid new inside same before space more =
    subst (λ (xs : List ℕ). new ≡ start ++ items words xs) (sym (next_one all i t inside same))
    (item_after words (take i all) t start old mid new before space more)

-- one more bracket
pub bracket_next : (words : List Word) (all : List ℕ) (i t : ℕ) (start old mid new : List ℕ) → i < length all →
    t ≡ get_or all i t → (t ≡ bra) ⊎ (t ≡ ket) → old ≡ start ++ items words (brackets_in (take i all)) →
    mid ≡ old ++ 32 ∷ [] → new ≡ mid ++ item words t → new ≡ start ++ items words (brackets_in (take (i + 1) all))
bracket_next words all i t start old mid new inside same bracket before space more =
    let all_of = is_bracket bracket in
    let one : brackets_in (t ∷ []) ≡ t ∷ [] = ap (λ (b : Bool). if b then t ∷ [] else []) all_of in
    let next : brackets_in (take (i + 1) all) ≡ brackets_in (take i all) ++ t ∷ [] =
    ap brackets_in (next_one all i t inside same)
    ∙ (filter-append (λ x. (x == bra) || (x == ket)) (take i all) (t ∷ [])
    ∙ ap (λ (l : List ℕ). brackets_in (take i all) ++ l) one) in
    subst (λ (xs : List ℕ). new ≡ start ++ items words xs) (sym next)
    (item_after words (brackets_in (take i all)) t start old mid new before space more)
  where
    is_bracket : (t ≡ bra) ⊎ (t ≡ ket) → ((t == bra) || (t == ket)) ≡ true
    is_bracket (inl e) = ap (λ (x : ℕ). (x == bra) || (x == ket)) e
    is_bracket (inr e) = ap (λ (x : ℕ). (x == bra) || (x == ket)) e

-- one more token that is not a bracket
pub no_bracket_next : (words : List Word) (all : List ℕ) (i t : ℕ) (start old : List ℕ) → i < length all →
    t ≡ get_or all i t → t ≢ bra → t ≢ ket → old ≡ start ++ items words (brackets_in (take i all)) →
    old ≡ start ++ items words (brackets_in (take (i + 1) all))
no_bracket_next words all i t start old inside same no_bra no_ket before =
    let none : ((t == bra) || (t == ket)) ≡ false = no_bracket (t == bra) (t == ket) refl refl in
    let one : brackets_in (t ∷ []) ≡ [] = ap (λ (b : Bool). if b then t ∷ [] else []) none in
    let next : brackets_in (take (i + 1) all) ≡ brackets_in (take i all) =
    ap brackets_in (next_one all i t inside same)
    ∙ (filter-append (λ x. (x == bra) || (x == ket)) (take i all) (t ∷ [])
    ∙ (ap (λ (l : List ℕ). brackets_in (take i all) ++ l) one ∙ append-nil (brackets_in (take i all)))) in
    subst (λ (xs : List ℕ). old ≡ start ++ items words xs) (sym next) before
  where
    no_bracket : (a b : Bool) → (t == bra) ≡ a → (t == ket) ≡ b → (a || b) ≡ false
    no_bracket true b e f = absurd (no_bra (eqb-true t bra e))
    no_bracket false true e f = absurd (no_ket (eqb-true t ket f))
    no_bracket false false e f = refl

-- the items of the classes, by whether the list contains a token of an unknown category
pub with_unknown : (words : List Word) (ts : List ℕ) (unknown : Bool) → unknown ≡ has_unknown ts → unknown ≡ true →
    class_items words ts ≡ items words (brackets_in ts) ++ codes " <any>"
unfolding class_items
with_unknown words ts unknown e f =
    ap (λ (b : Bool). if b then items words (brackets_in ts) ++ codes " <any>" else items words ts) (sym e ∙ f)

pub without_unknown : (words : List Word) (ts : List ℕ) (unknown : Bool) → unknown ≡ has_unknown ts → unknown ≡ false →
    class_items words ts ≡ items words ts
unfolding class_items
without_unknown words ts unknown e f =
    ap (λ (b : Bool). if b then items words (brackets_in ts) ++ codes " <any>" else items words ts) (sym e ∙ f)

-- the line, by whether anything is expected
pub nothing_line : (words : List Word) (p ts : List ℕ) (ends : Bool) (opened : ℕ) → true ≡ (length ts == 0) →
    ends ≡ false → opened ≡ open_brackets p →
    expected_line words p ts ends
    ≡ codes "too deep: " ++ (decimal opened ++ (codes " brackets are open" ++ 10 ∷ []))
unfolding expected_line
nothing_line words p ts ends opened none no_end same =
    ap (λ (b : Bool).
    if b then codes "too deep: " ++ decimal (open_brackets p) ++ codes " brackets are open" ++ 10 ∷ []
    else (codes "expected:" ++ class_items words ts) ++ end_item ends)
    (ap (λ (b : Bool). b && not ends) (sym none) ∙ ap not no_end)
    ∙ ap (λ (l : List ℕ). codes "too deep: " ++ l)
    (append_assoc (decimal (open_brackets p)) (codes " brackets are open") (10 ∷ [])
    ∙ ap (λ (n : ℕ). decimal n ++ (codes " brackets are open" ++ 10 ∷ [])) (sym same))

pub some_line : (words : List Word) (p ts : List ℕ) (ends : Bool) → ((length ts == 0) && not ends) ≡ false →
    expected_line words p ts ends ≡ (codes "expected:" ++ class_items words ts) ++ end_item ends
unfolding expected_line
some_line words p ts ends some =
    ap (λ (b : Bool).
    if b then codes "too deep: " ++ decimal (open_brackets p) ++ codes " brackets are open" ++ 10 ∷ []
    else (codes "expected:" ++ class_items words ts) ++ end_item ends) some

pub end_there : (ts : List ℕ) (ends : Bool) → true ≡ (length ts == 0) → ends ≡ true → ((length ts == 0) && not ends) ≡ false
end_there ts ends none at_end = ap (λ (b : Bool). b && not ends) (sym none) ∙ ap not at_end

pub tokens_there : (ts : List ℕ) (ends : Bool) → false ≡ (length ts == 0) → ((length ts == 0) && not ends) ≡ false
tokens_there ts ends some = ap (λ (b : Bool). b && not ends) (sym some)

-- three texts written in sequence
pub three : (old a b c first second third : List ℕ) → first ≡ old ++ a → second ≡ first ++ b → third ≡ second ++ c →
    third ≡ old ++ ((a ++ b) ++ c)
three old a b c first second third x y z =
    z ∙ ap (λ (l : List ℕ). l ++ c) (y ∙ ap (λ (l : List ℕ). l ++ b) x ∙ append_assoc old a b)
    ∙ append_assoc old (a ++ b) c
