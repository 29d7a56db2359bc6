-- A reader after one more token.
use Rattle.daide_reader.proofs.Common.{◌≡◌, ◌≢◌, ℕ, zero, suc, ◌+◌, ◌-◌, ◌*◌, ◌%◌, ◌^◌, ◌≤◌, ◌<◌, Bool, true, false}
use Rattle.daide_reader.proofs.Common.{◌||◌, List, [], ◌∷◌, ◌++◌, length, reverse, Option, None, Some, IfSome, is_some}
use Rattle.daide_reader.proofs.Common.{refl, sym, ◌∙◌, ap, subst, arith, if◌then◌else◌, ◌⊎◌, inl, inr, length-append}
use Rattle.daide_reader.proofs.Common.{Class, Sym, TableEntry, Ghosts, Words, stack_after, ends_asked}
use Rattle.daide_reader.proofs.Common.{IsCorrectPrediction, nat_eq, nat_tests, ◌&&◌}
use Rattle.daide_reader.proofs.Common.{begins_with_prn, unwrap_or, is_bra, is_ket, excess_or_none, count_one, Outline}
use Rattle.daide_reader.proofs.Common.{steps_at, IsOutlineOf, with_token, Reading, HasReadPrefix, StackOrPlace}
use Rattle.daide_reader.proofs.Common.{HasErrorIndex, IsSteady, steps_since, brackets_open, excess_or_none-snoc}
use Rattle.daide_grammar.specs.Depth.{excess, has_unmatched_ket, open_brackets}
use Rattle.daide_reader.specs.LookUps.{Parse, no_token_read, read_one, read_each, look_ups_at, look_ups_for, open_to}
use Rattle.daide_reader.specs.Reading.{IsParsed, IsRaised, IsSettled}
use Rattle.daide_reader.proofs.StackLemmas.{lawful_more, three_steps}
use Rattle.daide_reader.proofs.OutlineLemmas.{outline-snoc}
use Rattle.daide_reader.proofs.ErrorPlaceLemmas.{expects_start, expects_taken, wrong_here}

-- a reader's count, in a message that does not begin with PRN
pub counted_now : (u : Option ℕ) (p : List ℕ) → begins_with_prn p ≡ false
    → u ≡ (if begins_with_prn p then Some 0 else excess_or_none p) → u ≡ excess_or_none p
counted_now u p not_prn e = e ∙ ap (λ (b : Bool). if b then Some 0 else excess_or_none p) not_prn

-- a reader's count gives the number of open brackets
count_open : (u : Option ℕ) (report early : Bool) (n : ℕ)
    → u ≡ (if report then Some 0 else (if early then None else Some n))
    → unwrap_or u 0 ≡ (if report || early then 0 else n)
count_open u true early n e = rw e refl
count_open u false true n e = rw e refl
count_open u false false n e = rw e refl

pub brackets_open-after : {T : Type 0} (table : Ghosts T) (words : Words) (first : Sym) (max_depth : ℕ) (v : Reading T)
    (p : List ℕ)
    → HasReadPrefix table words first max_depth v p → brackets_open v ≡ open_brackets p
brackets_open-after table words first max_depth v p h =
    count_open v.unclosed (begins_with_prn p) (has_unmatched_ket p) (excess p) h.unclosed

-- equal values have read the same tokens
pub stands_along : {T : Type 0} (table : Ghosts T) (words : Words) (first : Sym) (max_depth : ℕ) (old new : Reading T)
    (p : List ℕ)
    → new ≡ old → HasReadPrefix table words first max_depth old p → HasReadPrefix table words first max_depth new p
stands_along {T = T} table words first max_depth old new p same h =
    subst (λ (v : Reading T). HasReadPrefix {T = T} table words first max_depth v p) (sym same) h

module _ {T : Type 0} (table : Ghosts T)
    (laws : (w : Words) →
    IsCorrectPrediction (table.class_of w) (table.language w) (table.moves w) (table.ends w) (table.lawful w))
    (words : Words) where
  -- the stack after a token fits
  pub room_more : (size t n max_depth : ℕ) (stack : List Sym) → table.lawful words stack n → n ≤ max_depth
      → 5 * max_depth + 10 ≤ size → (is_bra t ≡ true → n ≢ max_depth)
      → IfSome (stack_after (table.moves words) (table.class_of words t) stack) (λ after. length after ≤ size)
  room_more size t n max_depth stack ok deep few fits =
      go (stack_after (table.moves words) (table.class_of words t) stack) refl
    where
      go : (o : Option (List Sym)) → stack_after (table.moves words) (table.class_of words t) stack ≡ o
          → IfSome o (λ after. length after ≤ size)
      go None e = tt
      go (Some after) e =
          let next = lawful_more _ _ _ _ _ (laws words) t n max_depth stack after ok deep fits e in
          let few_entries = (laws words).few_entries after next.0 next.3 in
          let below = next.2 in
          omega arith

  -- a token needs at most four look-ups: one for each symbol, and one more as a word
  pub few_steps : (c : Class) (stack : List Sym) (n asked : ℕ) → table.lawful words stack n →
      asked ≤ steps_at (table.moves words) c stack + 1 → asked ≤ 4
  few_steps c stack n asked ok few = omega (arith, few, three_steps _ _ _ _ _ (laws words) c stack n ok)

-- a message that begins with PRN has no open bracket
report_count : (u : Option ℕ) (p q : List ℕ) → begins_with_prn (p ++ q) ≡ true
    → u ≡ (if begins_with_prn p then Some 0 else excess_or_none p) → u ≡ Some 0
report_count u [] q begins e = e
report_count u (x ∷ p) q begins e = e ∙ ap (λ (b : Bool). if b then Some 0 else excess_or_none (x ∷ p)) begins

-- at most as many brackets are open as there are tokens
pub counts_more : (u : Option ℕ) (m : ℕ) (opens closes : Bool) → IfSome u (λ n. n ≤ m)
    → IfSome (count_one opens closes u) (λ n. n ≤ m + 1)
counts_more None m opens closes h = tt
counts_more (Some n) m true closes h = omega arith
counts_more (Some zero) m false true h = tt
counts_more (Some (suc n)) m false true h = omega arith
counts_more (Some n) m false false h = omega arith

-- a stack with one symbol
pub lone_symbol : (first start_symbol : Sym) (empty items : List Sym) → empty ≡ [] → items ≡ empty ++ first ∷ [] →
    first ≡ start_symbol
    → reverse items ≡ start_symbol ∷ []
lone_symbol first start_symbol empty items none put is =
    ap reverse (put ∙ (ap (λ (s : List Sym). s ++ first ∷ []) none ∙ ap (λ (s : Sym). s ∷ []) is))

-- a reader at the start of a message satisfies the invariant
pub steady_start : (lawful : List Sym → ℕ → Type 0) (size max_depth : ℕ) (first : Sym) (stack : List Sym) (o : Outline)
    → size ≤ 4096 → 5 * max_depth + 10 ≤ size → stack ≡ first ∷ [] → o.tokens ≡ 0 → o.is_prn ≡ false →
    lawful (first ∷ []) 0
    → IsSteady lawful size max_depth stack o (Some 0) None
steady_start lawful size max_depth first stack o small at_depth_limit alone none plain ok = record {
  small = small;
  at_depth_limit = at_depth_limit;
  counts = omega arith;
  tokens = omega arith;
  fresh = λ _. plain;
  lawful_stack = λ _ _. (0, refl, omega arith, subst (λ (s : List Sym). lawful s 0) (sym alone) ok);
  none_left = λ placed. let f : false ≡ true = placed in absurd cc;
  none_in_prn = λ report. let f : true ≡ false = sym report ∙ plain in absurd cc;
}

pub none_from_test : (o : Option ℕ) → false ≡ is_some o → o ≡ None
none_from_test None e = refl
none_from_test (Some x) e = let f : false ≡ true = e in absurd cc

some_same : (n k : ℕ) → Some n ≡ Some k → n ≡ k
some_same n k e = cc

same_number : (n m : ℕ) → n ≡ m → nat_eq n m ≡ true
same_number n m e = grind (arith, nat_tests)

-- a token that opens no bracket too many
pub below_limit : (opens : Bool) (n m : ℕ) → (opens ≡ true → n ≢ m) → (opens && nat_eq n m) ≡ false
below_limit true n m fits = let less : n ≢ m = fits refl in grind (arith, nat_tests)
below_limit false n m fits = refl

more_asked : (n m most : ℕ) → m ≤ most → n + m ≤ n + most
more_asked n m most few = omega arith

module _ {T : Type 0} (table : Ghosts T) (words : Words) (first : Sym) (max_depth : ℕ) where
  -- a reader after one more token: its counts include the token, and so does its place or stack
  pub record Moves (old new : Reading T) (t : ℕ) : Type 0 where
    pub words_same : table.words new.table ≡ table.words old.table
    pub depth_same : new.max_depth ≡ old.max_depth
    pub finished_same : new.finished ≡ old.finished
    pub asked_same : new.asked_before ≡ old.asked_before
    pub outline_more : new.outline ≡ with_token old.outline t
    pub not_prn : new.outline.is_prn ≡ false
    pub unclosed_more : new.unclosed ≡ count_one (is_bra t) (is_ket t) old.unclosed
    pub unfinished : old.finished ≡ false
    pub steps_more : (n : ℕ) × (n ≤ 4) × (table.asked new.table % 2 ^ 64 ≡ (table.asked old.table + n) % 2 ^ 64)

  -- the tokens so far, each read once
  abbrev pub parse_of : List ℕ → Parse
  parse_of p = read_each (table.moves words) (table.class_of words) max_depth (no_token_read first) p

  pub read_each-snoc : (g : Parse) (p : List ℕ) (t : ℕ) → read_each (table.moves words) (table.class_of words) max_depth g (p ++ t ∷ [])
      ≡ read_one (table.moves words) (table.class_of words) max_depth (read_each (table.moves words) (table.class_of words) max_depth g p) t
  read_each-snoc g [] t = refl
  read_each-snoc g (x ∷ p) t = read_each-snoc (read_one (table.moves words) (table.class_of words) max_depth g x) p t

  -- the parse goes on with the token, and its look-ups include these
  pub record ReadsOne (old new : Reading T) (p : List ℕ) (t n : ℕ) : Type 0 where
    pub at : IsParsed (read_one (table.moves words) (table.class_of words) max_depth (parse_of p) t) new.stack new.unclosed new.place
    pub few : (parse_of p).look_ups + n ≤ (read_one (table.moves words) (table.class_of words) max_depth (parse_of p) t).look_ups

  prn_old : (p : List ℕ) (t : ℕ) → begins_with_prn (p ++ t ∷ []) ≡ false → begins_with_prn p ≡ false
  prn_old [] t h = refl
  prn_old (x ∷ p) t h = h

  steps_within : (a b n m s : ℕ) → a % 2 ^ 64 ≡ (b + n) % 2 ^ 64 → n ≤ 4 → (b + s) % 2 ^ 64 ≤ m
      → (a + s) % 2 ^ 64 ≤ m + 4
  steps_within a b n m s e few le = omega arith

  pub steps_by : (a b n m s : ℕ) → a % 2 ^ 64 ≡ (b + n) % 2 ^ 64 → (b + s) % 2 ^ 64 ≤ m → (a + s) % 2 ^ 64 ≤ m + n
  steps_by a b n m s e le = omega arith

  -- before the end the look-ups are those of the tokens
  pub few_before : (v : Reading T) (p : List ℕ) → begins_with_prn p ≡ false → v.finished ≡ false
      → steps_since table.asked v ≤ look_ups_for (table.moves words) (table.class_of words) (table.ends words) first max_depth p v.finished
      → steps_since table.asked v ≤ (parse_of p).look_ups
  few_before v p plain unfinished h = let few = rw (plain, unfinished) at h in omega (arith, few)

  -- a symbol took the token
  pub reads_taken : (old new : Reading T) (p : List ℕ) (t n k m : ℕ) → IsParsed (parse_of p) old.stack old.unclosed old.place
      → old.place ≡ None → old.unclosed ≡ Some n → (is_bra t ≡ true → n ≢ max_depth)
      → stack_after (table.moves words) (table.class_of words t) old.stack ≡ Some new.stack
      → new.place ≡ None → new.unclosed ≡ count_one (is_bra t) (is_ket t) (Some n)
      → count_one (is_bra t) (is_ket t) (Some n) ≡ Some k
      → m ≤ look_ups_at (table.moves words) (table.class_of words t)
      (open_to (is_bra t) (nat_eq n max_depth) old.stack)
      → ReadsOne old new p t m
  reads_taken old new p t n k m at none here fits e still more counts few =
      let g = parse_of p in
      let moves = table.moves words in
      let class = table.class_of words t in
      let same : n ≡ g.opened = some_same _ _ (sym here ∙ at.same_count none) in
      let opens : open_to (is_bra t) (nat_eq n max_depth) old.stack ≡ old.stack =
      ap (λ (b : Bool). if b then [] else old.stack) (below_limit (is_bra t) n max_depth fits) in
      let stack : new.stack ≡ unwrap_or (stack_after moves class
      (open_to (is_bra t) (nat_eq n max_depth) old.stack)) [] =
      sym (ap (λ (o : Option (List Sym)). unwrap_or o []) (ap (stack_after moves class) opens ∙ e)) in
      let count : new.unclosed ≡ Some (unwrap_or (count_one (is_bra t) (is_ket t) (Some n)) 0) =
      more ∙ (counts ∙ ap (λ (o : Option ℕ). Some (unwrap_or o 0)) (sym counts)) in
      record {
        at = record {
          same_stack = subst (λ (s : List Sym). new.stack ≡ unwrap_or (stack_after moves class
              (open_to (is_bra t) (nat_eq g.opened max_depth) s)) []) at.same_stack
              (subst (λ (i : ℕ). new.stack ≡ unwrap_or (stack_after moves class
              (open_to (is_bra t) (nat_eq i max_depth) old.stack)) []) same stack);
          same_count = λ _. subst (λ (i : ℕ). new.unclosed
              ≡ Some (unwrap_or (count_one (is_bra t) (is_ket t) (Some i)) 0)) same count;
          none_left = λ some. let f = rw still at some in absurd cc;
        };
        few = more_asked g.look_ups m _ (subst (λ (s : List Sym). m ≤ look_ups_at moves class
            (open_to (is_bra t) (nat_eq g.opened max_depth) s)) at.same_stack
            (subst (λ (i : ℕ). m ≤ look_ups_at moves class
            (open_to (is_bra t) (nat_eq i max_depth) old.stack)) same few));
      }

  -- no symbol took it
  pub reads_refused : (old new : Reading T) (p : List ℕ) (t n i m : ℕ) → IsParsed (parse_of p) old.stack old.unclosed old.place
      → old.place ≡ None → old.unclosed ≡ Some n
      → ((is_bra t ≡ true) × (n ≡ max_depth))
      ⊎ (stack_after (table.moves words) (table.class_of words t) old.stack ≡ None)
      → new.place ≡ Some i → new.stack ≡ []
      → m ≤ look_ups_at (table.moves words) (table.class_of words t)
      (open_to (is_bra t) (nat_eq n max_depth) old.stack)
      → ReadsOne old new p t m
  reads_refused old new p t n i m at none here why placed empty few =
      let g = parse_of p in
      let moves = table.moves words in
      let class = table.class_of words t in
      let same : n ≡ g.opened = some_same _ _ (sym here ∙ at.same_count none) in
      let stack : new.stack ≡ unwrap_or (stack_after moves class
      (open_to (is_bra t) (nat_eq n max_depth) old.stack)) [] =
      empty ∙ sym (ap (λ (o : Option (List Sym)). unwrap_or o []) (left moves class why)) in
      record {
        at = record {
          same_stack = subst (λ (s : List Sym). new.stack ≡ unwrap_or (stack_after moves class
              (open_to (is_bra t) (nat_eq g.opened max_depth) s)) []) at.same_stack
              (subst (λ (i : ℕ). new.stack ≡ unwrap_or (stack_after moves class
              (open_to (is_bra t) (nat_eq i max_depth) old.stack)) []) same stack);
          same_count = λ no_place. let f = sym placed ∙ no_place in absurd cc;
          none_left = λ _. empty;
        };
        few = more_asked g.look_ups m _ (subst (λ (s : List Sym). m ≤ look_ups_at moves class
            (open_to (is_bra t) (nat_eq g.opened max_depth) s)) at.same_stack
            (subst (λ (i : ℕ). m ≤ look_ups_at moves class
            (open_to (is_bra t) (nat_eq i max_depth) old.stack)) same few));
      }
    where
      left : (moves : Sym → Class → TableEntry) (class : Class)
          → ((is_bra t ≡ true) × (n ≡ max_depth)) ⊎ (stack_after moves class old.stack ≡ None)
          → stack_after moves class (open_to (is_bra t) (nat_eq n max_depth) old.stack) ≡ None
      left moves class (inl (opens, deep)) =
          let limit : nat_eq n max_depth ≡ true = same_number n max_depth deep in
          rw (opens, limit) refl
      left moves class (inr stops) = go (is_bra t && nat_eq n max_depth)
        where
          go : (b : Bool) → stack_after moves class (if b then [] else old.stack) ≡ None
          go true = refl
          go false = stops

  pub stands_more : (old new : Reading T) (t : ℕ) (p : List ℕ) → (moves : Moves old new t)
      → HasReadPrefix table words first max_depth old p
      → (begins_with_prn (p ++ t ∷ []) ≡ false → old.unclosed ≡ excess_or_none p →
      StackOrPlace (table.language words) first max_depth old.stack old.place p
      → StackOrPlace (table.language words) first max_depth new.stack new.place (p ++ t ∷ []))
      → (IsParsed (parse_of p) old.stack old.unclosed old.place → ReadsOne old new p t moves.steps_more.0)
      → HasReadPrefix table words first max_depth new (p ++ t ∷ [])
  stands_more old new t p moves h place reads = record {
    words_kept = moves.words_same ∙ h.words_kept;
    depth_kept = moves.depth_same ∙ h.depth_kept;
    outline = outline;
    unclosed = subst (λ (b : Bool). new.unclosed ≡ (if b then Some 0 else excess_or_none (p ++ t ∷ []))) (sym not_prn)
        (moves.unclosed_more ∙ (ap (count_one (is_bra t) (is_ket t)) old_count ∙ sym (excess_or_none-snoc p t)));
    place = λ _. place not_prn old_count (h.place (prn_old p t not_prn));
    steps = steps;
    at = λ _. rw (read_each-snoc (no_token_read first) p t) one.at;
    once = once;
  }
    where
      outline : IsOutlineOf new.outline (p ++ t ∷ [])
      outline = subst (λ (o : Outline). IsOutlineOf o (p ++ t ∷ [])) (sym moves.outline_more)
          (outline-snoc old.outline p t h.outline)

      not_prn : begins_with_prn (p ++ t ∷ []) ≡ false
      not_prn = sym outline.begins ∙ moves.not_prn

      old_count : old.unclosed ≡ excess_or_none p
      old_count = counted_now old.unclosed p (prn_old p t not_prn) h.unclosed

      steps : steps_since table.asked new ≤ 4 * length (p ++ t ∷ []) + (if new.finished then 4 else 0)
      steps =
          let n = moves.steps_more in
          let more : ℕ = if old.finished then 4 else 0 in
          let before : (table.asked old.table + (2 ^ 64 - new.asked_before)) % 2 ^ 64 ≤ 4 * length p + more =
          rw moves.asked_same h.steps in
          let all : steps_since table.asked new ≤ (4 * length p + more) + 4 =
          steps_within (table.asked new.table) (table.asked old.table) n.0 (4 * length p + more)
          (2 ^ 64 - new.asked_before) n.2 n.1 before in
          rw (moves.finished_same, length-append) (omega arith)

      one : ReadsOne old new p t moves.steps_more.0
      one = reads (h.at (prn_old p t not_prn))

      once : steps_since table.asked new ≤ look_ups_for (table.moves words) (table.class_of words) (table.ends words) first max_depth (p ++ t ∷ []) new.finished
      once =
          let n = moves.steps_more in
          let few = one.few in
          let before : (table.asked old.table + (2 ^ 64 - new.asked_before)) % 2 ^ 64 ≤ (parse_of p).look_ups =
          rw moves.asked_same (few_before old p (prn_old p t not_prn) moves.unfinished h.once) in
          let all : steps_since table.asked new ≤ (parse_of p).look_ups + n.0 =
          steps_by (table.asked new.table) (table.asked old.table) n.0 (parse_of p).look_ups (2 ^ 64 - new.asked_before)
          n.2 before in
          rw (not_prn, moves.finished_same, moves.unfinished, read_each-snoc (no_token_read first) p t)
          (omega (arith, all, few))

  -- a message that begins with PRN
  pub stands_report : (old new : Reading T) (p q : List ℕ) → new.table ≡ old.table
      → new.max_depth ≡ old.max_depth → new.finished ≡ old.finished → new.asked_before ≡ old.asked_before
      → new.unclosed ≡ old.unclosed
      → (IsOutlineOf old.outline p → IsOutlineOf new.outline (p ++ q)) → new.outline.is_prn ≡ true
      → old.finished ≡ false
      → HasReadPrefix table words first max_depth old p → HasReadPrefix table words first max_depth new (p ++ q)
  stands_report old new p q same depth_same finished_same asked_same unclosed_same more is_report unfinished h = record {
    words_kept = ap table.words same ∙ h.words_kept;
    depth_kept = depth_same ∙ h.depth_kept;
    outline = outline;
    unclosed = subst (λ (b : Bool). new.unclosed ≡ (if b then Some 0 else excess_or_none (p ++ q))) (sym begins)
        (unclosed_same ∙ report_count old.unclosed p q begins h.unclosed);
    place = λ not_prn. let f : true ≡ false = sym begins ∙ not_prn in absurd cc;
    steps = rw (same, asked_same, finished_same, length-append) (let few = h.steps in omega arith);
    at = λ not_prn. let f : true ≡ false = sym begins ∙ not_prn in absurd cc;
    once = rw (begins, same, asked_same) (none_asked p begins h.once);
  }
    where
      none_asked : (p : List ℕ) → begins_with_prn (p ++ q) ≡ true
          → steps_since table.asked old ≤ look_ups_for (table.moves words) (table.class_of words) (table.ends words) first max_depth p old.finished
          → steps_since table.asked old ≤ 0
      none_asked [] begins h = rw unfinished at h
      none_asked (x ∷ p) begins h = rw begins at h

      outline : IsOutlineOf new.outline (p ++ q)
      outline = more h.outline

      begins : begins_with_prn (p ++ q) ≡ true
      begins = sym outline.begins ∙ is_report

module _ {T : Type 0} (table : Ghosts T)
    (laws : (w : Words) →
    IsCorrectPrediction (table.class_of w) (table.language w) (table.moves w) (table.ends w) (table.lawful w))
    (words : Words) (first : Sym) (max_depth : ℕ) where
  -- the stack and the count of a reader without an error place
  pub record Ready (old : Reading T) (n : ℕ) : Type 0 where
    pub no_place : false ≡ is_some old.place
    pub unclosed : old.unclosed ≡ Some n
    pub deep : n ≤ old.max_depth
    pub lawful_stack : table.lawful (table.words old.table) old.stack n

  -- the look-ups for a token at a reader's stack
  abbrev pub asked_at : Reading T → ℕ → ℕ → ℕ
  asked_at old n t = look_ups_at (table.moves (table.words old.table))
      (table.class_of (table.words old.table) t) (open_to (is_bra t) (nat_eq n old.max_depth) old.stack)

  asked_along : (old : Reading T) (n t m : ℕ) → table.words old.table ≡ words → old.max_depth ≡ max_depth
      → m ≤ asked_at old n t
      → m ≤ look_ups_at (table.moves words) (table.class_of words t)
      (open_to (is_bra t) (nat_eq n max_depth) old.stack)
  asked_along old n t m words_kept depth_kept few =
      subst (λ (d : ℕ). m ≤ look_ups_at (table.moves words) (table.class_of words t)
      (open_to (is_bra t) (nat_eq n d) old.stack)) depth_kept
      (subst (λ (w : Words). m ≤ look_ups_at (table.moves w) (table.class_of w t)
      (open_to (is_bra t) (nat_eq n old.max_depth) old.stack)) words_kept few)

  -- a symbol took the token
  pub stands_taken : (old new : Reading T) (t n k : ℕ) (p : List ℕ) → (moves : Moves table words first max_depth old new t)
      → Ready old n → (is_bra t ≡ true → n ≢ old.max_depth)
      → stack_after (table.moves (table.words old.table)) (table.class_of (table.words old.table) t) old.stack
      ≡ Some new.stack
      → new.place ≡ old.place → count_one (is_bra t) (is_ket t) (Some n) ≡ Some k
      → moves.steps_more.0 ≤ asked_at old n t
      → HasReadPrefix table words first max_depth old p → HasReadPrefix table words first max_depth new (p ++ t ∷ [])
  stands_taken old new t n k p moves ready fits e same counts few h =
      let none = none_from_test old.place ready.no_place in
      stands_more table words first max_depth old new t p moves h (λ not_prn is_count has.
      subst (λ (o : Option ℕ). StackOrPlace (table.language words) first max_depth new.stack o (p ++ t ∷ [])) (sym same)
      (go old.place ready.no_place not_prn (sym is_count ∙ ready.unclosed) has))
      (λ at. reads_taken table words first max_depth old new p t n k moves.steps_more.0 at none ready.unclosed
      (λ opens. subst (λ (d : ℕ). n ≢ d) h.depth_kept (fits opens))
      (subst (λ (w : Words). stack_after (table.moves w) (table.class_of w t) old.stack ≡ Some new.stack) h.words_kept e)
      (same ∙ none) (moves.unclosed_more ∙ ap (count_one (is_bra t) (is_ket t)) ready.unclosed) counts
      (asked_along old n t moves.steps_more.0 h.words_kept h.depth_kept few))
    where
      go : (o : Option ℕ) → false ≡ is_some o → begins_with_prn (p ++ t ∷ []) ≡ false → excess_or_none p ≡ Some n
          → StackOrPlace (table.language words) first max_depth old.stack o p
          → StackOrPlace (table.language words) first max_depth new.stack o (p ++ t ∷ [])
      go None _ not_prn is_count has =
          expects_taken _ _ _ _ _ (laws words) first max_depth p t n old.stack new.stack not_prn is_count
          (subst (λ (d : ℕ). n ≤ d) h.depth_kept ready.deep)
          (λ opens. subst (λ (d : ℕ). n ≢ d) h.depth_kept (fits opens))
          (subst (λ (w : Words). table.lawful w old.stack n) h.words_kept ready.lawful_stack)
          has
          (subst (λ (w : Words). stack_after (table.moves w) (table.class_of w t) old.stack
          ≡ Some new.stack) h.words_kept e)
      go (Some i) e _ _ _ = let f : false ≡ true = e in absurd cc

  -- no symbol takes it
  pub stands_refused : (old new : Reading T) (t n : ℕ) (p : List ℕ)
      → (moves : Moves table words first max_depth old new t) → Ready old n
      → ((is_bra t ≡ true) × (n ≡ old.max_depth))
      ⊎ (stack_after (table.moves (table.words old.table)) (table.class_of (table.words old.table) t) old.stack ≡ None)
      → new.place ≡ Some old.outline.tokens → new.stack ≡ [] → moves.steps_more.0 ≤ asked_at old n t
      → HasReadPrefix table words first max_depth old p → HasReadPrefix table words first max_depth new (p ++ t ∷ [])
  stands_refused old new t n p moves ready why place empty few h =
      stands_more table words first max_depth old new t p moves h (λ not_prn is_count has.
      subst (λ (o : Option ℕ). StackOrPlace (table.language words) first max_depth new.stack o (p ++ t ∷ []))
      (sym (place ∙ ap (λ (k : ℕ). Some k) h.outline.tokens))
      (go old.place ready.no_place not_prn (sym is_count ∙ ready.unclosed) has))
      (λ at. reads_refused table words first max_depth old new p t n old.outline.tokens moves.steps_more.0 at
      (none_from_test old.place ready.no_place) ready.unclosed (moved why) place empty
      (asked_along old n t moves.steps_more.0 h.words_kept h.depth_kept few))
    where
      moved : ((is_bra t ≡ true) × (n ≡ old.max_depth))
          ⊎ (stack_after (table.moves (table.words old.table)) (table.class_of (table.words old.table) t) old.stack
          ≡ None)
          → ((is_bra t ≡ true) × (n ≡ max_depth)) ⊎
          (stack_after (table.moves words) (table.class_of words t) old.stack ≡ None)
      moved (inl (opens, at_depth_limit)) = inl (opens, at_depth_limit ∙ h.depth_kept)
      moved (inr none) = inr
          (subst (λ (w : Words). stack_after (table.moves w) (table.class_of w t) old.stack
          ≡ None) h.words_kept none)

      go : (o : Option ℕ) → false ≡ is_some o → begins_with_prn (p ++ t ∷ []) ≡ false → excess_or_none p ≡ Some n
          → StackOrPlace (table.language words) first max_depth old.stack o p
          → HasErrorIndex (table.language words first) max_depth (p ++ t ∷ []) (length p)
      go None _ not_prn is_count has =
          wrong_here _ _ _ _ _ (laws words) first max_depth p t n old.stack not_prn is_count has (moved why)
      go (Some i) e _ _ _ = let f : false ≡ true = e in absurd cc

  -- a reader at the start of a message has read no tokens
  pub stands_start : (v : Reading T) → table.words v.table ≡ words → v.max_depth ≡ max_depth → IsOutlineOf v.outline []
      → v.stack ≡ first ∷ [] → v.unclosed ≡ Some 0 → v.place ≡ None → v.asked_before ≡ table.asked v.table →
      v.asked_before < 2 ^ 64
      → HasReadPrefix table words first max_depth v []
  stands_start v same depth outline alone even none base word = record {
    words_kept = same;
    depth_kept = depth;
    outline = outline;
    unclosed = even;
    place = λ _. rw (none, alone) (expects_start _ _ _ _ _ (laws words) first max_depth);
    steps = nothing_yet (table.asked v.table) v.asked_before _ base word;
    at = λ _. record {
      same_stack = alone;
      same_count = λ _. even;
      none_left = λ some. let f = rw none at some in absurd cc;
    };
    once = nothing_yet (table.asked v.table) v.asked_before _ base word;
  }
    where
      nothing_yet : (now before few : ℕ) → before ≡ now → before < 2 ^ 64 → (now + (2 ^ 64 - before)) % 2 ^ 64 ≤ few
      nothing_yet now before few same word = omega arith

-- a message that is not settled has no error place, and does not begin with PRN
pub unsettled : {T : Type 0} (v old : Reading T) → v ≡ old → v.place ≡ None → v.outline.is_prn ≡ false → ¬ IsSettled old
unsettled {T = T} v old same none not_prn settled = go (subst (λ (r : Reading T). IsSettled r) (sym same) settled)
  where
    go : IsSettled v → ⊥
    go (inl placed) = let f : true ≡ false = sym placed ∙ ap is_some none in cc
    go (inr prn) = let f : true ≡ false = sym prn ∙ not_prn in cc

-- the invariant holds for another count of look-ups and the same words
pub steady_along : {T : Type 0} (table : Ghosts T) (old new : T) (size max_depth : ℕ) (stack : List Sym) (o : Outline)
    (u place : Option ℕ) → table.words new ≡ table.words old
    → IsSteady (table.lawful (table.words old)) size max_depth stack o u place
    → IsSteady (table.lawful (table.words new)) size max_depth stack o u place
steady_along table old new size max_depth stack o u place same steady =
    subst (λ (w : Words). IsSteady (table.lawful w) size max_depth stack o u place) (sym same) steady

-- a table that satisfies the laws has at most four look-ups at the end
pub four_ends : (may_end : Sym → Bool) (lawful : List Sym → ℕ → Type 0)
    → ((stack : List Sym) → lawful stack 0 → ends_asked may_end stack ≤ 4)
    → (size max_depth : ℕ) (stack : List Sym) (o : Outline) (u place : Option ℕ)
    → IsSteady lawful size max_depth stack o u place → o.is_prn ≡ false → place ≡ None → u ≡ Some 0 →
    ends_asked may_end stack ≤ 4
four_ends may_end lawful few size max_depth stack o u place steady not_prn none even =
    let here = steady.lawful_stack not_prn none in
    let nothing : here.0 ≡ 0 = (let f = sym here.1 ∙ even in cc) in
    few stack (subst (λ (n : ℕ). lawful stack n) nothing here.3)

-- the depth limit bounds the stack
pub entries_at_most : (lawful : List Sym → ℕ → Type 0)
    → ((stack : List Sym) (k : ℕ) → lawful stack k → length stack ≤ 5 * k + 8)
    → (size max_depth : ℕ) (stack : List Sym) (o : Outline) (u place : Option ℕ)
    → IsSteady lawful size max_depth stack o u place → length stack ≤ 8 * max_depth + 16
entries_at_most lawful few size max_depth stack o u place steady = go o.is_prn place refl refl
  where
    go : (b : Bool) (i : Option ℕ) → o.is_prn ≡ b → place ≡ i → length stack ≤ 8 * max_depth + 16
    go true i is at = rw (steady.none_in_prn is) (omega arith)
    go false (Some i) is at = rw (steady.none_left (rw at refl)) (omega arith)
    go false None is at =
        let here = steady.lawful_stack is at in
        let shallow = here.2 in
        let held = few stack here.0 here.3 in
        omega (arith, shallow, held)

-- the open brackets bound the stack
pub entries_few : (lawful : List Sym → ℕ → Type 0)
    → ((stack : List Sym) (k : ℕ) → lawful stack k → length stack ≤ 5 * k + 8)
    → (size max_depth : ℕ) (stack : List Sym) (o : Outline) (u place : Option ℕ)
    → IsSteady lawful size max_depth stack o u place → length stack ≤ 8 * unwrap_or u 0 + 16
entries_few lawful few size max_depth stack o u place steady = go o.is_prn place refl refl
  where
    go : (b : Bool) (i : Option ℕ) → o.is_prn ≡ b → place ≡ i → length stack ≤ 8 * unwrap_or u 0 + 16
    go true i is at = rw (steady.none_in_prn is) (omega arith)
    go false (Some i) is at = rw (steady.none_left (rw at refl)) (omega arith)
    go false None is at =
        let here = steady.lawful_stack is at in
        let held = few stack here.0 here.3 in
        rw (here.1) (omega (arith, held))

module _ {T : Type 0} (table : Ghosts T) (words : Words) (first : Sym) (max_depth : ℕ) where
  -- a reader that was finished: only the table's count changed
  pub record Finishes (old new : Reading T) : Type 0 where
    pub words_same : table.words new.table ≡ table.words old.table
    pub depth_same : new.max_depth ≡ old.max_depth
    pub stack_same : new.stack ≡ old.stack
    pub outline_same : new.outline ≡ old.outline
    pub unclosed_same : new.unclosed ≡ old.unclosed
    pub place_same : new.place ≡ old.place
    pub asked_same : new.asked_before ≡ old.asked_before
    pub unfinished : old.finished ≡ false
    pub finished : new.finished ≡ true
    pub steps_more : (n : ℕ) × (n ≤ 4) × (table.asked new.table % 2 ^ 64 ≡ (table.asked old.table + n) % 2 ^ 64)
    pub few_ends : steps_more.0 ≤ ends_asked (table.ends (table.words old.table)) old.stack

  -- the same reader, finished
  abbrev pub finished_reading : Reading T → Reading T
  finished_reading v = record {
    table = v.table;
    max_depth = v.max_depth;
    stack = v.stack;
    outline = v.outline;
    unclosed = v.unclosed;
    place = v.place;
    asked_before = v.asked_before;
    finished = true;
  }

  pub stands_finished : (old new : Reading T) (p : List ℕ) → (same : Finishes old new)
      → (begins_with_prn p ≡ true → same.steps_more.0 ≡ 0)
      → HasReadPrefix table words first max_depth old p → HasReadPrefix table words first max_depth new p
  stands_finished old new p same report h = record {
    words_kept = same.words_same ∙ h.words_kept;
    depth_kept = same.depth_same ∙ h.depth_kept;
    outline = subst (λ (o : Outline). IsOutlineOf o p) (sym same.outline_same) h.outline;
    unclosed = same.unclosed_same ∙ h.unclosed;
    place = λ not_prn. rw (same.place_same, same.stack_same) (h.place not_prn);
    steps = steps;
    at = λ not_prn. rw (same.stack_same, same.unclosed_same, same.place_same) (h.at not_prn);
    once = rw same.finished (go (begins_with_prn p) refl);
  }
    where
      n : ℕ
      n = same.steps_more.0

      more : (m : ℕ) → steps_since table.asked old ≤ m → steps_since table.asked new ≤ m + n
      more m few = subst (λ (before : ℕ). (table.asked new.table + (2 ^ 64 - before)) % 2 ^ 64 ≤ m + n) (sym same.asked_same)
          (steps_by table words first max_depth (table.asked new.table) (table.asked old.table)
          n m (2 ^ 64 - old.asked_before) same.steps_more.2 few)

      go : (b : Bool) → begins_with_prn p ≡ b
          → steps_since table.asked new ≤ look_ups_for (table.moves words) (table.class_of words) (table.ends words) first max_depth p true
      go true is =
          let none = report is in
          let few = more 0 (rw is at h.once) in
          rw is (omega (arith, few, none))
      go false is =
          let g = read_each (table.moves words) (table.class_of words) max_depth (no_token_read first) p in
          let few = more g.look_ups (few_before table words first max_depth old p is same.unfinished h.once) in
          let ends : n ≤ ends_asked (table.ends words) g.stack =
          subst (λ (s : List Sym). n ≤ ends_asked (table.ends words) s) (h.at is).same_stack
          (subst (λ (w : Words). n ≤ ends_asked (table.ends w) old.stack) h.words_kept same.few_ends) in
          rw is (omega (arith, few, ends))

      steps : steps_since table.asked new ≤ 4 * length p + (if new.finished then 4 else 0)
      steps =
          let n = same.steps_more in
          let few = h.steps in
          let none : ◌≡◌ {A = ℕ} (if old.finished then 4 else 0) 0 =
          ap (λ (b : Bool). if b then 4 else 0) same.unfinished in
          let before : (table.asked old.table + (2 ^ 64 - old.asked_before)) % 2 ^ 64 ≤ 4 * length p = omega arith in
          rw (same.finished, same.asked_same) (steps_within table words first max_depth
          (table.asked new.table) (table.asked old.table) n.0 (4 * length p) (2 ^ 64 - old.asked_before) n.2 n.1 before)

  -- a reader that was finished without a look-up
  pub stands_told : (v old : Reading T) (p : List ℕ) → v ≡ old → old.finished ≡ false
      → HasReadPrefix table words first max_depth old p
      → HasReadPrefix table words first max_depth (finished_reading v) p
  stands_told v old p same unfinished h =
      stands_finished v (finished_reading v) p
      (record {
        words_same = refl;
        depth_same = refl;
        stack_same = refl;
        outline_same = refl;
        unclosed_same = refl;
        place_same = refl;
        asked_same = refl;
        unfinished = ap (λ (r : Reading T). r.finished) same ∙ unfinished;
        finished = refl;
        steps_more = (0, omega arith, omega arith);
        few_ends = omega arith;
      })
      (λ _. refl)
      (stands_along table words first max_depth old v p same h)

-- a table without a look-up
pub raised_none : {most : ℕ} (old new : ℕ) → new ≡ old → IsRaised most old new
raised_none old new same = record { by = 0; few = omega arith; sum = omega arith }

-- a table with n look-ups
pub raised_by : {most : ℕ} (n now old new : ℕ) → n ≤ most → now ≡ old → new % 2 ^ 64 ≡ (now + n) % 2 ^ 64
    → IsRaised most old new
raised_by n now old new few same sum = record { by = n; few = few; sum = rw same at sum }

-- raised by fewer
pub raised_within : (few most before old new : ℕ) → few ≤ most → before ≡ old → IsRaised few before new →
    IsRaised most old new
raised_within few most before old new less same h = record {
  by = h.by;
  few = (let k = h.few in omega arith);
  sum = rw (← same) h.sum;
}

-- raised by two calls
pub raised_more : (a b most old mid new : ℕ) → a + b ≤ most → IsRaised a old mid → IsRaised b mid new
    → IsRaised most old new
raised_more a b most old mid new few h k = record {
  by = h.by + k.by;
  few = (let p = h.few in let q = k.few in omega arith);
  sum = (let p = h.sum in let q = k.sum in omega arith);
}
