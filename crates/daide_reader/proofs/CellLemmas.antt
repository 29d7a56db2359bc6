-- One symbol of a stack in cells, and a rest pushed on it.
use Rattle.std.proofs.lemmas.List.{take-take, length-reverse}
use Rattle.std.proofs.Math.Seq.{take-suc}
use Rattle.daide_reader.proofs.Common.{◌≡◌, ◌≢◌, ℕ, zero, suc, ◌+◌, ◌-◌, ◌%◌, ◌^◌, ◌<◌, ◌≤◌, Bool, true, false, Option}
use Rattle.daide_reader.proofs.Common.{Some, None, IfSome, List, [], ◌∷◌, ◌++◌, length, get_or, take, reverse, refl}
use Rattle.daide_reader.proofs.Common.{sym, ap, ◌∙◌, subst, arith, reverse-append, reverse-reverse, length-append}
use Rattle.daide_reader.proofs.Common.{length-take-le, list_all, Class, Sym, TableEntry, Take, Skip, Stop, is_take}
use Rattle.daide_reader.proofs.Common.{is_stop, rest_of, stack_after, ends_asked, steps_at}

-- a prefix that extends into the second of two lists
take-past : {X : Type 0} (n top : ℕ) (old rest : List X) → top ≤ length old →
    take (top + n) (take top old ++ rest) ≡ take top old ++ take n rest
take-past n zero old rest h = rw zero-plus refl
  where
    zero-plus : 0 + n ≡ n
    zero-plus = omega arith
take-past n (suc top) [] rest h = absurd (omega arith)
take-past {X = X} n (suc top) (x ∷ old) rest h =
    let next : suc top + n ≡ suc (top + n) = omega arith in
    rw next (ap (λ (xs : List X). x ∷ xs) (take-past n top old rest (omega arith)))

-- all eight cells were written, and the first of them are the rest
pub rest_put : {X : Type 0} (top n : ℕ) (new old rest turned : List X) → n ≤ 8 → top ≤ length old
    → take (top + 8) new ≡ take top old ++ rest → take n rest ≡ turned
    → take (top + n) new ≡ take top old ++ turned
rest_put {X = X} top n new old rest turned few inside put is =
    let less : top + n ≤ top + 8 = omega arith in
    sym (take-take (top + n) (top + 8) new less) ∙ ap (take (top + n)) put ∙ take-past n top old rest inside
    ∙ ap (λ (xs : List X). take top old ++ xs) is

-- the last of the first `left` cells is the top of the stack
pub on_top : (cells : List Sym) (left : ℕ) (blank : Sym) → 0 < left → left ≤ length cells
    → reverse (take left cells) ≡ get_or cells (left - 1) blank ∷ reverse (take (left - 1) cells)
on_top cells zero blank some inside = absurd (omega arith)
on_top cells (suc top) blank some inside =
    let less : suc top - 1 ≡ top = omega arith in
    rw less (ap reverse (take-suc cells top blank (omega arith))
    ∙ reverse-append (take top cells) (get_or cells top blank ∷ []))

-- the first symbol of a stack is in the last of its cells
pub known_on_top : (cells : List Sym) (left : ℕ) (s : Sym) (more : List Sym) → left ≤ length cells
    → reverse (take left cells) ≡ s ∷ more
    → (left ≢ 0) × (reverse (take left cells) ≡ s ∷ reverse (take (left - 1) cells))
known_on_top cells zero s more inside is = absurd cc
known_on_top cells (suc top) s more inside is =
    let whole = on_top cells (suc top) s (omega arith) inside in
    let same : get_or cells (suc top - 1) s ≡ s = cc in
    (λ none. omega (arith, none), whole ∙ ap (λ (x : Sym). x ∷ reverse (take (suc top - 1) cells)) same)

-- the stack with a rest pushed on it
pub put_on_top : (new old rest : List Sym) (cells : List Sym) (top n k : ℕ)
    → take (top + n) new ≡ take top old ++ take n cells → n ≡ length rest → k ≡ length rest
    → take (length rest) cells ≡ reverse rest
    → reverse (take (top + k) new) ≡ rest ++ reverse (take top old)
put_on_top new old rest cells top n k put here there is =
    let same : k ≡ n = there ∙ sym here in
    let turned : take n cells ≡ reverse rest = ap (λ (i : ℕ). take i cells) here ∙ is in
    ap (λ (i : ℕ). reverse (take (top + i) new)) same ∙ ap reverse put
    ∙ reverse-append (take top old) (take n cells)
    ∙ ap (λ (xs : List Sym). xs ++ reverse (take top old)) (ap reverse turned ∙ reverse-reverse rest)

-- a rest in eight cells has at most eight symbols
take_short : {X : Type 0} (n : ℕ) (xs : List X) → length (take n xs) ≤ length xs
take_short zero xs = omega arith
take_short (suc n) [] = omega arith
take_short (suc n) (x ∷ xs) = let less = take_short n xs in omega (arith, less)

pub few_in_cells : (rest cells : List Sym) → length cells ≡ 8 → take (length rest) cells ≡ reverse rest
    → length rest ≤ 8
few_in_cells rest cells eight is =
    let same : length (take (length rest) cells) ≡ length rest = ap length is ∙ length-reverse rest in
    let short = take_short (length rest) cells in
    omega (arith, eight, same, short)

-- all eight cells were written, so there are that many
pub written_cells : (top : ℕ) (new old cells : List Sym) → length cells ≡ 8 → top ≤ length old
    → take (top + 8) new ≡ take top old ++ cells → top + 8 ≤ length new
written_cells top new old cells eight inside put =
    let upto = take_short (top + 8) new in
    let both = ap length put ∙ length-append (take top old) cells in
    let below = length-take-le top old inside in
    omega (arith, eight, upto, both, below)

-- all eight cells were written, and the rest is on the stack
pub rest_on_top : (top : ℕ) (new old rest cells : List Sym) (k : ℕ) → length cells ≡ 8 → top ≤ length old
    → take (top + 8) new ≡ take top old ++ cells → take (length rest) cells ≡ reverse rest → k ≡ top + length rest
    → reverse (take k new) ≡ rest ++ reverse (take top old)
rest_on_top top new old rest cells k eight inside put is height =
    ap (λ (i : ℕ). reverse (take i new)) height
    ∙ put_on_top new old rest cells top (length rest) (length rest)
    (rest_put top (length rest) new old cells (take (length rest) cells) (few_in_cells rest cells eight is) inside put
    refl)
    refl refl is

-- the first cells, by the index of the top
pub on_place : (cells : List Sym) (top : ℕ) (blank : Sym) → top < length cells
    → reverse (take (top + 1) cells) ≡ get_or cells top blank ∷ reverse (take top cells)
on_place cells top blank inside =
    let less : top + 1 - 1 ≡ top = omega arith in
    subst (λ (k : ℕ). reverse (take (top + 1) cells) ≡ get_or cells k blank ∷ reverse (take k cells)) less
    (on_top cells (top + 1) blank (omega arith) (omega arith))

-- an entry that leaves a symbol takes the token
pub leaves_by_taking : (a : TableEntry) (s : Sym) (more : List Sym) → rest_of a ≡ s ∷ more → is_take a ≡ true
leaves_by_taking (Take rest) s more is = refl
leaves_by_taking Skip s more is = absurd cc
leaves_by_taking Stop s more is = absurd cc

-- the stack after an entry for its top, and the number of look-ups
module _ (moves : Sym → Class → TableEntry) (class : Class) (s : Sym) (below : List Sym) where
  pub after_taken : (a : TableEntry) → moves s class ≡ a → is_take a ≡ true
      → stack_after moves class (s ∷ below) ≡ Some (rest_of a ++ below)
  after_taken (Take rest) is takes = rw (is, stack_after) refl
  after_taken Skip is takes = absurd (cc)
  after_taken Stop is takes = absurd (cc)

  pub after_stopped : (a : TableEntry) → moves s class ≡ a → is_stop a ≡ true → stack_after moves class (s ∷ below) ≡ None
  after_stopped (Take rest) is stops = absurd (cc)
  after_stopped Skip is stops = absurd (cc)
  after_stopped Stop is stops = rw (is, stack_after) refl

  pub after_skipped : (a : TableEntry) → moves s class ≡ a → is_take a ≡ false → is_stop a ≡ false
      → stack_after moves class (s ∷ below) ≡ stack_after moves class below
  after_skipped (Take rest) is takes stops = absurd (cc)
  after_skipped Skip is takes stops = rw (is, stack_after) refl
  after_skipped Stop is takes stops = absurd (cc)

  pub steps_taken : (a : TableEntry) → moves s class ≡ a → is_take a ≡ true → steps_at moves class (s ∷ below) ≡ 1
  steps_taken (Take rest) is takes = rw (is, steps_at) refl
  steps_taken Skip is takes = absurd (cc)
  steps_taken Stop is takes = absurd (cc)

  pub steps_stopped : (a : TableEntry) → moves s class ≡ a → is_stop a ≡ true → steps_at moves class (s ∷ below) ≡ 1
  steps_stopped (Take rest) is stops = absurd (cc)
  steps_stopped Skip is stops = absurd (cc)
  steps_stopped Stop is stops = rw (is, steps_at) refl

  pub steps_skipped : (a : TableEntry) → moves s class ≡ a → is_take a ≡ false → is_stop a ≡ false
      → steps_at moves class (s ∷ below) ≡ 1 + steps_at moves class below
  steps_skipped (Take rest) is takes stops = absurd (cc)
  steps_skipped Skip is takes stops = rw (is, steps_at) refl
  steps_skipped Stop is takes stops = absurd (cc)

-- at the end of a message: whether a symbol is nullable, and the number of look-ups
module _ (ends : Sym → Bool) (s : Sym) (below : List Sym) where
  pub all_more : ends s ≡ true → list_all ends (s ∷ below) ≡ list_all ends below
  all_more is = rw (is, list_all) refl

  pub all_stopped : ends s ≡ false → list_all ends (s ∷ below) ≡ false
  all_stopped is = rw (is, list_all) refl

  pub ends_more : ends s ≡ true → ends_asked ends (s ∷ below) ≡ 1 + ends_asked ends below
  ends_more is = rw (is, ends_asked) refl

  pub ends_stopped : ends s ≡ false → ends_asked ends (s ∷ below) ≡ 1
  ends_stopped is = rw (is, ends_asked) refl

-- the stack after a token that is taken fits
pub room_after : (o : Option (List Sym)) (rest cells : List Sym) (top size : ℕ) → top ≤ length cells
    → o ≡ Some (rest ++ reverse (take top cells)) → IfSome o (λ after. length after ≤ size)
    → top + length rest ≤ size
room_after o rest cells top size inside is room =
    let fits : length (rest ++ reverse (take top cells)) ≤ size =
    subst (λ (x : Option (List Sym)). IfSome x (λ after. length after ≤ size)) is room in
    let below : length (reverse (take top cells)) ≡ top =
    length-reverse (take top cells) ∙ length-take-le top cells inside in
    let all = length-append rest (reverse (take top cells)) in
    omega (arith, fits, below, all)

-- one more look-up, of those in the bound
pub asked_one : (before now due sum : ℕ) → now ≡ (before + 1) % 2 ^ 64 → due ≡ 1 → (before + due) % 2 ^ 64 ≡ sum
    → now % 2 ^ 64 ≡ sum
asked_one before now due sum is one all =
    let same : now % 2 ^ 64 ≡ (before + due) % 2 ^ 64 = omega arith in
    same ∙ all

pub asked_all : (now due sum : ℕ) → due ≡ 0 → (now + due) % 2 ^ 64 ≡ sum → now % 2 ^ 64 ≡ sum
asked_all now due sum none all =
    let same : now % 2 ^ 64 ≡ (now + due) % 2 ^ 64 = omega arith in
    same ∙ all

pub asked_more : (before now due left sum : ℕ) → now ≡ (before + 1) % 2 ^ 64 → due ≡ 1 + left
    → (before + due) % 2 ^ 64 ≡ sum → (now + left) % 2 ^ 64 ≡ sum
asked_more before now due left sum is more all =
    let same : (now + left) % 2 ^ 64 ≡ (before + due) % 2 ^ 64 = omega arith in
    same ∙ all
