-- The constant table agrees with the entries of each symbol.
use Rattle.std.proofs.Common.{slice_index_or}
use Rattle.daide_grammar.proofs.Common.{◌≡◌, ℕ, zero, suc, ◌+◌, ◌<◌, Bool, true, false, ◌&&◌, nat_eq, nat_lt, ltb-true}
use Rattle.daide_grammar.proofs.Common.{List, [], ◌∷◌, Option, Some, None, length, map, get_or, refl, sym, ap, subst}
use Rattle.daide_grammar.proofs.Common.{◌∙◌, arith, ◌%◌, and_parts, eqb-true, list_all, range_with_len, Class, Ket, Num}
use Rattle.daide_grammar.proofs.Common.{Other, Word, Sym, TABLE, TableEntry, Take, Skip, Stop, row_cell, rule_at}
use Rattle.daide_grammar.proofs.Common.{class_number, own_classes, all_classes, classes, class_at, symbol_at}
use Rattle.daide_grammar.proofs.Common.{symbol_number, symbols, all_rules, action, rest_of_action, HasRule, Alternative}
use Rattle.daide_grammar.proofs.Common.{answer_by, entries, entry_at, may_end_of, table_answer}
use Rattle.daide_grammar.specs.declared.symbol.Sym.TheVariants.{Closing}
use Rattle.daide_grammar.specs.Words.{most_words}
use Rattle.daide_grammar.proofs.Alike.{alike, passes_at}
use Rattle.daide_grammar.proofs.NumberLemmas.{symbol_back, symbol_small}
use Rattle.daide_grammar.proofs.RowParts.{rule_seen, rules}
use Rattle.daide_grammar.proofs.WordColumns.{class_told, word_at}

-- whether two rests are the same, symbol by symbol
abbrev same_symbols : List Sym → List Sym → Bool
same_symbols [] [] = true
same_symbols (s ∷ ss) (t ∷ ts) = nat_eq (symbol_number s) (symbol_number t) && same_symbols ss ts
same_symbols _ _ = false

abbrev same_answer : TableEntry → TableEntry → Bool
same_answer (Take ss) (Take ts) = same_symbols ss ts
same_answer Skip Skip = true
same_answer Stop Stop = true
same_answer _ _ = false

abbrev same_truth : Bool → Bool → Bool
same_truth true b = b
same_truth false true = false
same_truth false false = true

-- whether rules agree with entries, for each class
abbrev all_told : List Alternative → Bool → List ℕ → List Class → Bool
all_told es b (rule ∷ rules) (c ∷ cs) = same_answer (action rule) (answer_by (entry_at c es) b) && all_told es b rules cs
all_told es b [] [] = true
all_told es b _ _ = false

-- the first cells of the columns, which are the rules of one symbol, and the cells below them
abbrev tops : List (List ℕ) → List ℕ
tops [] = []
tops ([] ∷ columns) = 0 ∷ tops columns
tops ((rule ∷ column) ∷ columns) = rule ∷ tops columns

abbrev below : List (List ℕ) → List (List ℕ)
below [] = []
below ([] ∷ columns) = [] ∷ below columns
below ((rule ∷ column) ∷ columns) = column ∷ below columns

-- whether a symbol's rules agree with its entries; a closing bracket skips it exactly if it is nullable
abbrev is_right : Sym → List ℕ → Bool
is_right s rules =
    let es = entries s in
    let b = may_end_of s in
    all_told es b rules classes && same_truth (nat_eq (get_or rules 1 0) 1) b

-- the symbol if its test fails, or else the first wrong one of the rest
abbrev if_wrong : Bool → Sym → Option Sym → Option Sym
if_wrong true s rest = rest
if_wrong false s rest = Some s

-- the first symbol with a wrong cell; the columns are traversed together, each cell once
abbrev first_wrong : List Sym → List (List ℕ) → Option Sym
first_wrong [] columns = None
first_wrong (s ∷ ss) columns =
    let rules = tops columns in
    let others = below columns in
    if_wrong (is_right s rules) s (first_wrong ss others)

-- A test that computes: each rule of each symbol agrees with the entries. A wrong cell fails with its symbol's name.
rows_agree : first_wrong symbols rules ≡ None
unfolding action rest_of_action entries may_end_of
rows_agree = refl

symbols_same : (ss ts : List Sym) → same_symbols ss ts ≡ true → ss ≡ ts
symbols_same [] [] h = refl
symbols_same [] (t ∷ ts) h = absurd (cc)
symbols_same (s ∷ ss) [] h = absurd (cc)
symbols_same (s ∷ ss) (t ∷ ts) h =
    let parts = and_parts (nat_eq (symbol_number s) (symbol_number t)) (same_symbols ss ts) h in
    let numbers = eqb-true (symbol_number s) (symbol_number t) parts.0 in
    let first : s ≡ t = sym (symbol_back s) ∙ ap symbol_at numbers ∙ symbol_back t in
    let others : ss ≡ ts = symbols_same ss ts parts.1 in
    cc

answers_same : (a b : TableEntry) → same_answer a b ≡ true → a ≡ b
answers_same (Take ss) (Take ts) h = ap Take (symbols_same ss ts h)
answers_same Skip Skip h = refl
answers_same Stop Stop h = refl
answers_same (Take ss) Skip h = absurd (cc)
answers_same (Take ss) Stop h = absurd (cc)
answers_same Skip (Take ts) h = absurd (cc)
answers_same Skip Stop h = absurd (cc)
answers_same Stop (Take ts) h = absurd (cc)
answers_same Stop Skip h = absurd (cc)

truths_same : (a b : Bool) → same_truth a b ≡ true → a ≡ b
truths_same true b h = sym h
truths_same false true h = absurd (cc)
truths_same false false h = refl

none_wrong : (b : Bool) (s : Sym) (rest : Option Sym) → if_wrong b s rest ≡ None → (b ≡ true) × (rest ≡ None)
none_wrong true s rest e = (refl, e)
none_wrong false s rest e = absurd (cc)

-- each index of the first cells, and of the cells below
top_at : (columns : List (List ℕ)) (n : ℕ) → get_or (tops columns) n 0 ≡ get_or (get_or columns n []) 0 0
top_at [] n = refl
top_at ([] ∷ columns) zero = refl
top_at ((rule ∷ column) ∷ columns) zero = refl
top_at ([] ∷ columns) (suc n) = top_at columns n
top_at ((rule ∷ column) ∷ columns) (suc n) = top_at columns n

below_at : (columns : List (List ℕ)) (n k : ℕ) →
    get_or (get_or (below columns) n []) k 0 ≡ get_or (get_or columns n []) (suc k) 0
below_at [] n k = refl
below_at ([] ∷ columns) zero k = refl
below_at ((rule ∷ column) ∷ columns) zero k = refl
below_at ([] ∷ columns) (suc n) k = below_at columns n k
below_at ((rule ∷ column) ∷ columns) (suc n) k = below_at columns n k

told_at : (es : List Alternative) (b : Bool) (rules : List ℕ) (cs : List Class) → all_told es b rules cs ≡ true → (n : ℕ) →
    n < length cs → action (get_or rules n 0) ≡ answer_by (entry_at (get_or cs n Num) es) b
told_at es b rules [] h n less = absurd (omega arith)
told_at es b [] (c ∷ cs) h n less = absurd (cc)
told_at es b (rule ∷ rules) (c ∷ cs) h zero less =
    answers_same _ _ (and_parts (same_answer (action rule) (answer_by (entry_at c es) b)) (all_told es b rules cs) h).0
told_at es b (rule ∷ rules) (c ∷ cs) h (suc n) less =
    let told = same_answer (action rule) (answer_by (entry_at c es) b) in
    told_at es b rules cs (and_parts told (all_told es b rules cs) h).1 n (omega arith)

-- a symbol's rules, by its index in the list
right_at : (ss : List Sym) (columns : List (List ℕ)) → first_wrong ss columns ≡ None → (k : ℕ) → k < length ss →
    (rules : List ℕ) × (is_right (get_or ss k Closing) rules ≡ true)
    × ((n : ℕ) → get_or rules n 0 ≡ get_or (get_or columns n []) k 0)
right_at [] columns h k less = absurd (omega arith)
right_at (s ∷ ss) columns h zero less =
    let parts = none_wrong (is_right s (tops columns)) s (first_wrong ss (below columns)) h in
    (tops columns, parts.0, top_at columns)
right_at (s ∷ ss) columns h (suc k) less =
    let parts = none_wrong (is_right s (tops columns)) s (first_wrong ss (below columns)) h in
    let there = right_at ss (below columns) parts.1 k (omega arith) in
    (there.0, there.1, λ n. there.2 n ∙ below_at columns n k)

-- so the rules of a symbol are right
right : (s : Sym) → (told : List ℕ) × (is_right s told ≡ true)
    × ((n : ℕ) → get_or told n 0 ≡ rule_at n (symbol_number s))
right s =
    let there = right_at symbols rules rows_agree (symbol_number s) (symbol_small s) in (
      there.0,
      subst (λ (x : Sym). is_right x there.0 ≡ true) (symbol_back s) there.1,
      λ n. there.2 n ∙ rule_seen n (symbol_number s),
    )

-- and a look-up returns the entry of the definitions
pub looked_up : (s : Sym) (n : ℕ) → n < all_classes → action (rule_at n (symbol_number s)) ≡ table_answer s (class_at n)
unfolding table_answer
looked_up s n less =
    let there = right s in
    let told = all_told (entries s) (may_end_of s) there.0 classes in
    let ends = same_truth (nat_eq (get_or there.0 1 0) 1) (may_end_of s) in
    ap action (sym (there.2 n))
    ∙ told_at (entries s) (may_end_of s) there.0 classes (and_parts told ends there.1).0 n less

-- each rule has a number of one byte
small_rule : (c s : ℕ) → rule_at c s < all_rules
small_rule c s = omega arith

-- each entry has a rule
pub has_rule : (s : Sym) (c : Class) → class_number c < all_classes → HasRule (table_answer s c)
has_rule s c less =
    let n = class_number c in
    let rule = rule_at n (symbol_number s) in
    (rule, small_rule n (symbol_number s), looked_up s n less ∙ ap (table_answer s) (class_told c less))

-- a symbol is nullable exactly if a closing bracket skips it
pub ends_told : (s : Sym) → nat_eq (rule_at (class_number Ket) (symbol_number s)) 1 ≡ may_end_of s
ends_told s =
    let there = right s in
    let told = all_told (entries s) (may_end_of s) there.0 classes in
    let ends = same_truth (nat_eq (get_or there.0 1 0) 1) (may_end_of s) in
    ap (λ (rule : ℕ). nat_eq rule 1) (sym (there.2 1))
    ∙ truths_same (nat_eq (get_or there.0 1 0) 1) (may_end_of s) (and_parts told ends there.1).1

-- the cells of an operator's word are those of a token without a meaning
repeated : map (λ k. slice_index_or TABLE.rows (own_classes + k) []) (range_with_len 0 most_words)
    ≡ map (λ k. slice_index_or TABLE.rows (class_number Other) []) (range_with_len 0 most_words)
repeated = refl

-- so the table does not know the word
pub word_unknown : (s : Sym) (k : ℕ) → k < most_words → table_answer s (Word k) ≡ table_answer s Other
unfolding row_cell
word_unknown s k less =
    let n = symbol_number s in
    let row = alike (λ k. slice_index_or TABLE.rows (own_classes + k) []) (λ k. slice_index_or TABLE.rows (class_number Other) []) most_words repeated k
    less in
    ap (table_answer s) (sym (word_at k less)) ∙ sym (looked_up s (own_classes + k) (omega (arith, less)))
    ∙ ap (λ (row : List ℕ). action (get_or row n 0 % 256)) row ∙ looked_up s (class_number Other) (omega arith)
