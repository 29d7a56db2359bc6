-- The table's list of classes is that of the definition.
use Rattle.std.proofs.Common.{replicate}
use Rattle.std.proofs.lemmas.List.{get_or-drop}
use Rattle.std.proofs.lemmas.List.FromFn.{get_or-map-range_with_len}
use Rattle.daide_grammar.proofs.Common.{◌≡◌, ℕ, zero, suc, ◌+◌, ◌*◌, ◌/◌, ◌%◌, ◌<◌, Bool, true, false, ◌&&◌, nat_eq}
use Rattle.daide_grammar.proofs.Common.{List, [], ◌∷◌, ◌++◌, map, drop, length, get_or, refl, ap, sym, ◌∙◌, subst}
use Rattle.daide_grammar.proofs.Common.{arith, and_parts, eqb-true, range_with_len, class_of, Class, Num, Power, Season}
use Rattle.daide_grammar.proofs.Common.{Text, Other, TABLE, class_cell, column_at, class_number, all_classes, class_at}
use Rattle.daide_token.specs.Class.{class_in, brackets, units, orders, commands, parameters, press_classes, listed}
use Rattle.daide_token.specs.declared.class.Class.TheVariants.{Note, Outcome, Coast, Province, Param, Alien}
use Rattle.daide_grammar.proofs.WordColumns.{class_told, own_class}

-- The classes of a code, category by category. Only six categories distinguish their codes, so a row is quick to
-- compute.
unfoldable classes_of : ℕ → List Class
classes_of code =
    replicate 64 Num
    ++ (listed brackets Other code ∷ Power ∷ listed units Other code ∷ listed orders Other code ∷ [])
    ++ (Note ∷ Outcome ∷ Coast ∷ Season ∷ [])
    ++ (listed commands Other code ∷ listed parameters Param code ∷ listed press_classes Other code ∷ Text ∷ [])
    ++ replicate 4 Alien ++ replicate 8 Province ++ replicate 168 Alien

abbrev row_of : ℕ → List ℕ
row_of code = map class_number (classes_of code)

defined : (code : ℕ) → row_of code ≡ map (λ category. class_number (class_in category code)) (range_with_len 0 256)
unfolding classes_of
defined code = refl

whole_row : (code : ℕ) → length (row_of code) ≡ 256
unfolding classes_of
whole_row code = refl

-- A test that computes: a list begins with a row, and the rest passes.
abbrev begins : List ℕ → List ℕ → (List ℕ → Bool) → Bool
begins [] ns passes = passes ns
begins (r ∷ row) [] passes = false
begins (r ∷ row) (n ∷ ns) passes = nat_eq n r && begins row ns passes

-- the same for all rows in order
abbrev rows_follow : (ℕ → List ℕ) → ℕ → ℕ → List ℕ → Bool
rows_follow row zero code ns = true
rows_follow row (suc count) code ns = begins (row code) ns (rows_follow row count (suc code))

agree : rows_follow row_of 256 0 TABLE.classes ≡ true
unfolding classes_of
agree = refl

in_row : (row ns : List ℕ) (passes : List ℕ → Bool) → begins row ns passes ≡ true → (k : ℕ) → k < length row →
    get_or ns k 0 ≡ get_or row k 0
in_row [] ns passes h k less = absurd (omega arith)
in_row (r ∷ row) [] passes h k less = absurd (cc)
in_row (r ∷ row) (n ∷ ns) passes h zero less = eqb-true n r (and_parts (nat_eq n r) (begins row ns passes) h).0
in_row (r ∷ row) (n ∷ ns) passes h (suc k) less =
    in_row row ns passes (and_parts (nat_eq n r) (begins row ns passes) h).1 k (omega arith)

past_row : (row ns : List ℕ) (passes : List ℕ → Bool) → begins row ns passes ≡ true →
    passes (drop (length row) ns) ≡ true
past_row [] ns passes h = h
past_row (r ∷ row) [] passes h = absurd (cc)
past_row (r ∷ row) (n ∷ ns) passes h = past_row row ns passes (and_parts (nat_eq n r) (begins row ns passes) h).1

at_place : (row : ℕ → List ℕ) → ((code : ℕ) → length (row code) ≡ 256) → (count from : ℕ) (ns : List ℕ) →
    rows_follow row count from ns ≡ true → (code category : ℕ) → code < count → category < 256 →
    get_or ns (code * 256 + category) 0 ≡ get_or (row (from + code)) category 0
at_place row long zero from ns h code category less few = absurd (omega arith)
at_place row long (suc count) from ns h zero category less few =
    let place : 0 * 256 + category ≡ category = omega arith in
    let code : from ≡ from + 0 = omega arith in
    ap (λ (k : ℕ). get_or ns k 0) place
    ∙ in_row (row from) ns (rows_follow row count (suc from)) h category (rw (long from) few)
    ∙ ap (λ (k : ℕ). get_or (row k) category 0) code
at_place row long (suc count) from ns h (suc code) category less few =
    let place : suc code * 256 + category ≡ 256 + (code * 256 + category) = omega arith in
    let there : suc from + code ≡ from + suc code = omega arith in
    let left = past_row (row from) ns (rows_follow row count (suc from)) h in
    let rest : rows_follow row count (suc from) (drop 256 ns) ≡ true =
    subst (λ (k : ℕ). rows_follow row count (suc from) (drop k ns) ≡ true) (long from) left
    in
    ap (λ (k : ℕ). get_or ns k 0) place ∙ sym (get_or-drop 256 ns (code * 256 + category) 0)
    ∙ at_place row long count (suc from) (drop 256 ns) rest code category (omega arith) few
    ∙ ap (λ (k : ℕ). get_or (row k) category 0) there

pub number_told : (t : ℕ) → t < 65536 → column_at (t / 256) (t % 256) ≡ class_number (class_of t)
unfolding class_cell class_of
number_told t word =
    let code : ℕ = t % 256 in
    let category : ℕ = t / 256 in
    let f : ℕ → ℕ = λ category. class_number (class_in category code) in
    let few_codes : code < 256 = omega arith in
    let few : category < 256 = omega arith in
    let from : 0 + category ≡ category = omega arith in
    let own : 0 + code ≡ code = omega arith in
    at_place row_of whole_row 256 0 TABLE.classes agree code category few_codes few
    ∙ ap (λ (k : ℕ). get_or (row_of k) category 0) own
    ∙ ap (λ (ns : List ℕ). get_or ns category 0) (defined code)
    ∙ get_or-map-range_with_len f 0 256 category category 0 few from

pub class_found : (t : ℕ) → t < 65536 → class_at (column_at (t / 256) (t % 256)) ≡ class_of t
class_found t word = ap class_at (number_told t word) ∙ class_told (class_of t) (own_class t)

pub number_small : (t : ℕ) → t < 65536 → column_at (t / 256) (t % 256) < all_classes
number_small t word = subst (λ n. n < all_classes) (sym (number_told t word)) (own_class t)
