-- A reader in locals, inside a token of a body.
use Rattle.daide_reader.proofs.Common.{◌≡◌, ◌≢◌, ℕ, zero, suc, ◌+◌, ◌-◌, ◌*◌, ◌%◌, ◌^◌, ◌≤◌, ◌<◌, Bool, true, false}
use Rattle.daide_reader.proofs.Common.{◌⊎◌, inr, List, [], ◌∷◌, ◌++◌, length, take, drop, reverse, Option, Some, None}
use Rattle.daide_reader.proofs.Common.{◌&&◌, is_some, IfSome, nat_eq, if◌then◌else◌, refl, sym, ap, ◌∙◌, subst, arith, append_assoc}
use Rattle.daide_reader.proofs.Common.{nat_tests, unwrap_or, tokens_of, Class, TableEntry, Take, Skip, Stop, is_bra}
use Rattle.daide_reader.proofs.Common.{is_ket, count_one, IsCorrectPrediction, begins_with_prn, is_take, is_stop}
use Rattle.daide_reader.proofs.Common.{rest_of, stack_after, Words, Ghosts, Sym, outline_of, HasReadPrefix, reading}
use Rattle.daide_reader.proofs.Common.{ReadsTo, SliceState, place_behind, below_zero, open_count, steps_at}
use Rattle.daide_token.specs.Class.{class_of, is_standard}
use Rattle.daide_grammar.specs.Table.Numbers.{bracket_step}
use Rattle.daide_reader.specs.LookUps.{look_ups_at, open_to, second_look_up}
use Rattle.daide_reader.specs.Reading.{IsRaised}
use Rattle.daide_grammar.proofs.BracketSteps.{step_by_class}
use Rattle.daide_reader.proofs.Counts.{none_more}
use Rattle.daide_reader.proofs.CellLemmas.{after_skipped, after_stopped, after_taken, steps_skipped, steps_taken}
use Rattle.daide_reader.proofs.ReadingLemmas.{below_limit, counts_more, few_steps, raised_by, raised_more, raised_none, room_more}
use Rattle.daide_reader.proofs.SliceLemmas.{count_is, counts_up, front_not_prn_behind, length_behind, open_told}
use Rattle.daide_reader.proofs.SliceLemmas.{run_refused, run_taken}
use Rattle.daide_reader.proofs.StackLemmas.{lawful_more}

-- adding the step of a token's class counts the token
pub counted_by_step : (n t : ℕ) (known : Class) → known ≡ class_of t → n + 1 < below_zero
    → count_one (is_bra t) (is_ket t) (Some n) ≡ open_count ((n + bracket_step known) % 65536)
counted_by_step n t known is low =
    go (is_bra t) (is_ket t) n low
    ∙ ap (λ (k : ℕ). open_count ((n + k) % 65536)) (sym (ap bracket_step is ∙ step_by_class t))
  where
    other : (k : ℕ) → k < below_zero → open_count k ≡ Some k
    other k less = let no : nat_eq k below_zero ≡ false = grind (arith, nat_tests) in
        ap (λ (b : Bool). if b then None else Some k) no

    go : (b k : Bool) (n : ℕ) → n + 1 < below_zero
        → count_one b k (Some n) ≡ open_count ((n + (if b then 1 else if k then 65535 else 0)) % 65536)
    go true k n low =
        let same : (n + 1) % 65536 ≡ n + 1 = omega arith in
        sym (ap open_count same ∙ other (n + 1) (omega arith))
    go false true zero low = refl
    go false true (suc n) low =
        let same : (suc n + 65535) % 65536 ≡ n = omega arith in
        sym (ap open_count same ∙ other n (omega arith))
    go false false n low =
        let same : (n + 0) % 65536 ≡ n = omega arith in
        sym (ap open_count same ∙ other n (omega arith))

-- a token opens at most one bracket
pub one_more : (b k : Bool) (n j : ℕ) → count_one b k (Some n) ≡ Some j → j ≤ n + 1
one_more true k n j e = let same : n + 1 ≡ j = cc in omega (arith, same)
one_more false true zero j e = absurd cc
one_more false true (suc n) j e = let same : n ≡ j = cc in omega (arith, same)
one_more false false n j e = let same : n ≡ j = cc in omega (arith, same)

-- at most one more look-up
most_once : (n more : ℕ) (own : Bool) (stack : List Sym) → more ≤ second_look_up own stack → n + more ≤ n + 1
most_once n more true [] few = omega arith
most_once n more false [] few = omega arith
most_once n more true (s ∷ stack) few = omega arith
most_once n more false (s ∷ stack) few = omega arith

second_lower : (own : Bool) (lower upper : List Sym) → length lower ≤ length upper
    → second_look_up own lower ≤ second_look_up own upper
second_lower own [] upper h = omega arith
second_lower own (s ∷ lower) [] h = absurd (omega arith)
second_lower own (s ∷ lower) (u ∷ upper) h = omega arith

-- a token at the depth limit is looked up once, and a bracket not at all
pub few_at_limit : (moves : Sym → Class → TableEntry) (class : Class) (opens : Bool) (stack : List Sym) (n : ℕ)
    → n ≤ steps_at moves class (open_to opens true stack) → n ≤ steps_at moves class stack + 1
few_at_limit moves class true stack n few = omega (arith, few)
few_at_limit moves class false stack n few = omega (arith, few)

pub once_at_limit : (moves : Sym → Class → TableEntry) (class : Class) (opens : Bool) (stack : List Sym)
    (opened max_depth n : ℕ) → opened ≡ max_depth → n ≤ steps_at moves class (open_to opens true stack)
    → n ≤ look_ups_at moves class (open_to opens (nat_eq opened max_depth) stack)
once_at_limit moves class opens stack opened max_depth n deep few =
    let limit : nat_eq opened max_depth ≡ true = grind (arith, nat_tests) in
    rw limit (omega (arith, few))

both_more : (n more some most : ℕ) → more ≤ some → some ≤ most → n + more ≤ n + most
both_more n more some most few less = omega arith

module _ {T : Type 0} (table : Ghosts T)
    (laws : (w : Words) →
    IsCorrectPrediction (table.class_of w) (table.language w) (table.moves w) (table.ends w) (table.lawful w))
    (max_depth : ℕ) (body : List ℕ) (read unclosed : ℕ) (old : SliceState T) where
  -- the locals are a reader that has read the tokens so far
  pub record AtToken (i opened : ℕ) (now : SliceState T) : Type 0 where
    pub words : table.words now.table ≡ table.words old.table
    pub from : read ≤ i
    pub few : opened ≤ unclosed + (i - read)
    pub deep : opened ≤ max_depth
    pub lawful : table.lawful (table.words now.table) now.stack opened
    pub raised : IsRaised (4 * (i - read)) (table.asked old.table) (table.asked now.table)
    pub stands_after : (words : Words) (first : Sym) (depth base : ℕ) (before : List ℕ)
        → begins_with_prn (before ++ tokens_of body) ≡ false →
        HasReadPrefix table words first depth
        (reading old.table max_depth old.stack (outline_of (before ++ take read (tokens_of body))) (Some unclosed) None
        base)
        (before ++ take read (tokens_of body)) →
        HasReadPrefix table words first depth
        (reading now.table max_depth now.stack (outline_of (before ++ take i (tokens_of body))) (Some opened) None base)
        (before ++ take i (tokens_of body))

  pub at_start : unclosed ≤ max_depth → table.lawful (table.words old.table) old.stack unclosed
      → AtToken read unclosed old
  at_start deep lawful = record {
    words = refl;
    from = omega arith;
    few = omega arith;
    deep = deep;
    lawful = lawful;
    raised = raised_none (table.asked old.table) (table.asked old.table) refl;
    stands_after = λ words first depth base before plain h. h;
  }

  -- the stack after a token and the look-ups in its bound, by the table's entries
  abbrev after_at : SliceState T → ℕ → List Sym → Option (List Sym)
  after_at now t stack = stack_after (table.moves (table.words now.table)) (table.class_of (table.words now.table) t)
      stack

  abbrev due_at : SliceState T → ℕ → List Sym → ℕ
  due_at now t stack = steps_at (table.moves (table.words now.table)) (table.class_of (table.words now.table) t) stack

  -- whether a token takes no second look-up
  abbrev own_at : ℕ → SliceState T → Bool
  own_at t now = is_standard (table.class_of (table.words now.table) t) && is_some (after_at now t now.stack)

  -- a token needs the look-ups in its bound, and one more if the symbol that stopped it is looked up again
  abbrev AsksFor : ℕ → ℕ → SliceState T → SliceState T → Type 0
  AsksFor opened t now new = (more : ℕ) × (more ≤ second_look_up (own_at t now) now.stack)
      × (table.asked new.table % 2 ^ 64 ≡ (table.asked now.table + (due_at now t now.stack + more)) % 2 ^ 64)

  -- the look-ups of a token that is read once
  abbrev once_at : ℕ → ℕ → SliceState T → ℕ
  once_at opened t now = look_ups_at (table.moves (table.words now.table))
      (table.class_of (table.words now.table) t) (open_to (is_bra t) (nat_eq opened max_depth) now.stack)

  once_asked : (opened t more : ℕ) (now start : SliceState T) → (is_bra t ≡ true → opened ≢ max_depth)
      → table.words now.table ≡ table.words start.table → after_at start t start.stack ≡ after_at now t now.stack
      → length now.stack ≤ length start.stack → more ≤ second_look_up (own_at t now) now.stack
      → due_at start t start.stack + more ≤ once_at opened t start
  once_asked opened t more now start fits words after lower few =
      let own : own_at t now ≡ own_at t start =
      ap (λ (w : Words). is_standard (table.class_of w t) && is_some (after_at now t now.stack)) words
      ∙ ap (λ (o : Option (List Sym)). is_standard (table.class_of (table.words start.table) t) && is_some o) (sym after) in
      let least : more ≤ second_look_up (own_at t start) now.stack =
      subst (λ (b : Bool). more ≤ second_look_up b now.stack) own few in
      rw (below_limit (is_bra t) opened max_depth fits)
      (both_more _ more _ _ least (second_lower (own_at t start) now.stack start.stack lower))

  -- the effect of a token that is taken
  pub record TakesToken (t opened after : ℕ) (now new : SliceState T) : Type 0 where
    pub words : table.words new.table ≡ table.words now.table
    pub fits : is_bra t ≡ true → opened ≢ max_depth
    pub taken : after_at now t now.stack ≡ Some new.stack
    pub counted : count_one (is_bra t) (is_ket t) (Some opened) ≡ open_count after
    pub steps : (n : ℕ) × (n ≤ due_at now t now.stack + 1)
        × (table.asked new.table % 2 ^ 64 ≡ (table.asked now.table + n) % 2 ^ 64)
    pub once : steps.0 ≤ once_at opened t now

  pub at_next : (i t opened after : ℕ) (now new : SliceState T) → AtToken i opened now
      → take (i + 1) (tokens_of body) ≡ take i (tokens_of body) ++ t ∷ [] → TakesToken t opened after now new
      → AtToken (i + 1) after new
  at_next i t opened after now new at front takes =
      let w = table.words now.table in
      let m = tokens_of body in
      let next = lawful_more _ _ _ _ _ (laws w) t opened max_depth now.stack new.stack at.lawful at.deep takes.fits
      takes.taken in
      let is : next.0 ≡ after = sym (open_told after next.0 (sym takes.counted ∙ next.1)) in
      let counts : count_one (is_bra t) (is_ket t) (Some opened) ≡ Some after =
      next.1 ∙ ap (λ (k : ℕ). Some k) is in
      let few_here = few_steps table laws w (table.class_of w t) now.stack opened takes.steps.0 at.lawful takes.steps.1
      in
      let few = counts_more (Some opened) (unclosed + (i - read)) (is_bra t) (is_ket t) at.few in
      let one : unclosed + (i - read) + 1 ≡ unclosed + (i + 1 - read) = (let from = at.from in omega (arith, from)) in
      record {
        words = takes.words ∙ at.words;
        from = (let from = at.from in omega (arith, from));
        few = subst (λ (k : ℕ). after ≤ k) one
            (subst (λ (o : Option ℕ). IfSome o (λ n. n ≤ unclosed + (i - read) + 1)) counts few);
        deep = subst (λ (n : ℕ). n ≤ max_depth) is next.2;
        lawful = subst (λ (n : ℕ). table.lawful (table.words new.table) new.stack n) is
            (subst (λ (w : Words). table.lawful w new.stack next.0) (sym takes.words) next.3);
        raised = raised_more (4 * (i - read)) 4 _ _ _ _ (let from = at.from in omega (arith, from)) at.raised
            (raised_by takes.steps.0 _ _ _ few_here refl takes.steps.2);
        stands_after = λ words first depth base before plain h.
            let p = before ++ take i m in
            let next_front : before ++ take (i + 1) m ≡ p ++ t ∷ [] =
            ap (λ (q : List ℕ). before ++ q) front ∙ sym (append_assoc before (take i m) (t ∷ [])) in
            let not_prn : begins_with_prn (p ++ t ∷ []) ≡ false =
            subst (λ (q : List ℕ). begins_with_prn q ≡ false) next_front (front_not_prn_behind before (i + 1) m plain) in
            subst (λ (q : List ℕ). HasReadPrefix table words first depth
            (reading new.table max_depth new.stack (outline_of q) (Some after) None base) q)
            (sym next_front)
            (run_taken table laws words first depth base _ _ max_depth _ _ p t opened after
            not_prn takes.words at.lawful at.deep takes.fits takes.taken counts
            (takes.steps.0, few_here, takes.steps.2) takes.once
            (at.stands_after words first depth base before plain h));
      }

  -- all tokens up to an index were read
  pub reads_all : (i opened : ℕ) (now : SliceState T) → AtToken i opened now
      → ReadsTo table max_depth body read unclosed old i (Some opened) None now
  reads_all i opened now at = record {
    words = at.words;
    goes_on = at.from;
    counts = at.few;
    found = tt;
    lawful = λ _. (opened, refl, at.deep, at.lawful);
    none_left = λ some. absurd cc;
    raised = at.raised;
    stands_after = at.stands_after;
  }

  -- the effect of a token that is not taken and is counted
  pub record RefusesToken (t opened : ℕ) (after : Option ℕ) (now new : SliceState T) : Type 0 where
    pub words : table.words new.table ≡ table.words now.table
    pub why : ((is_bra t ≡ true) × (opened ≡ max_depth)) ⊎ (after_at now t now.stack ≡ None)
    pub counted : after ≡ count_one (is_bra t) (is_ket t) (Some opened)
    pub steps : (n : ℕ) × (n ≤ due_at now t now.stack + 1)
        × (table.asked new.table % 2 ^ 64 ≡ (table.asked now.table + n) % 2 ^ 64)
    pub once : steps.0 ≤ once_at opened t now

  pub reads_refused : (i t opened : ℕ) (after : Option ℕ) (now new : SliceState T) → AtToken i opened now
      → i ≤ length (tokens_of body) → take (i + 1) (tokens_of body) ≡ take i (tokens_of body) ++ t ∷ []
      → new.stack ≡ [] → RefusesToken t opened after now new
      → ReadsTo table max_depth body read unclosed old (i + 1) after (Some i) new
  reads_refused i t opened after now new at inside front empty refuses =
      let w = table.words now.table in
      let m = tokens_of body in
      let few_here = few_steps table laws w (table.class_of w t) now.stack opened refuses.steps.0 at.lawful
      refuses.steps.1 in
      let few = counts_more (Some opened) (unclosed + (i - read)) (is_bra t) (is_ket t) at.few in
      let one : unclosed + (i - read) + 1 ≡ unclosed + (i + 1 - read) = (let from = at.from in omega (arith, from)) in
      record {
        words = refuses.words ∙ at.words;
        goes_on = (let from = at.from in omega (arith, from));
        counts = subst (λ (k : ℕ). IfSome after (λ n. n ≤ k)) one
            (subst (λ (o : Option ℕ). IfSome o (λ n. n ≤ unclosed + (i - read) + 1)) (sym refuses.counted) few);
        found = omega arith;
        lawful = λ none. absurd cc;
        none_left = λ _. empty;
        raised = raised_more (4 * (i - read)) 4 _ _ _ _ (let from = at.from in omega (arith, from)) at.raised
            (raised_by refuses.steps.0 _ _ _ few_here refl refuses.steps.2);
        stands_after = λ words first depth base before plain h.
            let p = before ++ take i m in
            let next_front : before ++ take (i + 1) m ≡ p ++ t ∷ [] =
            ap (λ (q : List ℕ). before ++ q) front ∙ sym (append_assoc before (take i m) (t ∷ [])) in
            let not_prn : begins_with_prn (p ++ t ∷ []) ≡ false =
            subst (λ (q : List ℕ). begins_with_prn q ≡ false) next_front (front_not_prn_behind before (i + 1) m plain) in
            subst (λ (q : List ℕ). HasReadPrefix table words first depth
            (reading new.table max_depth new.stack (outline_of q) after (Some (length before + i)) base) q)
            (sym next_front)
            (run_refused table laws words first depth base _ _ max_depth _ _ p t opened (length before + i) after
            not_prn refuses.words at.lawful at.deep refuses.why refuses.counted (length_behind before i m inside) empty
            (refuses.steps.0, few_here, refuses.steps.2) refuses.once
            (at.stands_after words first depth base before plain h));
      }

  -- one more run: after all tokens up to an index were read
  pub reads_joined : (i opened tokens : ℕ) (unclosed' place : Option ℕ) (now new : SliceState T) → AtToken i opened now
      → ReadsTo table max_depth body i opened now tokens unclosed' place new
      → ReadsTo table max_depth body read unclosed old tokens unclosed' place new
  reads_joined i opened tokens unclosed' place now new at more = record {
    words = more.words ∙ at.words;
    goes_on = (let from = at.from in let on = more.goes_on in omega (arith, from, on));
    counts = counts_up unclosed' (opened + (tokens - i)) (unclosed + (tokens - read))
        (let few = at.few in let from = at.from in let on = more.goes_on in omega (arith, few, from, on)) more.counts;
    found = more.found;
    lawful = more.lawful;
    none_left = more.none_left;
    raised = raised_more (4 * (i - read)) (4 * (tokens - i)) _ _ _ _
        (let from = at.from in let on = more.goes_on in omega (arith, from, on)) at.raised more.raised;
    stands_after = λ words first depth base before plain h.
        more.stands_after words first depth base before plain (at.stands_after words first depth base before plain h);
  }

  -- a run in which all tokens were taken
  pub at_joined : (i opened tokens now_open : ℕ) (unclosed' place : Option ℕ) (now new : SliceState T)
      → AtToken i opened now
      → ReadsTo table max_depth body i opened now tokens unclosed' place new
      → now_open ≡ unwrap_or unclosed' 0 → place ≡ None → AtToken tokens now_open new
  at_joined i opened tokens now_open unclosed' place now new at more open_now none =
      let whole = reads_joined i opened tokens unclosed' place now new at more in
      let ok = whole.lawful none in
      let same : ok.0 ≡ now_open = sym (count_is unclosed' ok.0 now_open ok.1 open_now) in
      let is : unclosed' ≡ Some now_open = ok.1 ∙ ap (λ (n : ℕ). Some n) same in
      record {
        words = whole.words;
        from = whole.goes_on;
        few = subst (λ (o : Option ℕ). IfSome o (λ n. n ≤ unclosed + (tokens - read))) is whole.counts;
        deep = subst (λ (n : ℕ). n ≤ max_depth) same ok.2;
        lawful = subst (λ (n : ℕ). table.lawful (table.words new.table) new.stack n) same ok.3;
        raised = whole.raised;
        stands_after = λ words first depth base before plain h.
            let q = before ++ take tokens (tokens_of body) in
            subst (λ (o : Option ℕ). HasReadPrefix table words first depth
            (reading new.table max_depth new.stack (outline_of q) (Some now_open) (place_behind (length before) o) base)
            q) none
            (subst (λ (u : Option ℕ). HasReadPrefix table words first depth
            (reading new.table max_depth new.stack (outline_of q) u (place_behind (length before) place) base)
            q) is (whole.stands_after words first depth base before plain h));
      }

  -- inside a token some symbols of the stack were looked up and skipped
  pub record MidToken (i opened end : ℕ) (now : SliceState T) : Type 0 where
    pub start : SliceState T
    pub at : AtToken i opened start
    pub words : table.words now.table ≡ table.words start.table
    pub lower : length now.stack ≤ length start.stack
    pub on : (t : ℕ) → drop i (tokens_of body) ≡ t ∷ drop (i + 1) (tokens_of body) →
        (after_at start t start.stack ≡ after_at start t now.stack)
        × ((table.asked now.table + due_at start t now.stack) % 2 ^ 64
        ≡ (table.asked start.table + due_at start t start.stack) % 2 ^ 64)
    pub whole : i ≡ end → start ≡ now

  pub begun : (i opened end : ℕ) (now : SliceState T) → AtToken i opened now → MidToken i opened end now
  begun i opened end now at = record {
    start = now;
    at = at;
    words = refl;
    lower = omega arith;
    on = λ t here. (refl, refl);
    whole = λ _. refl;
  }

  -- at the end no token is partly read
  pub ended : (i opened end : ℕ) (now : SliceState T) → i ≡ end → MidToken i opened end now → AtToken i opened now
  ended i opened end now last mid = subst (AtToken i opened) (mid.whole last) mid.at

  -- the entries for a token, by the words that the table had at the token's start
  told_at : (now start : SliceState T) (s : Sym) (t : ℕ) (a : TableEntry) → table.words now.table ≡ table.words start.table
      → a ≡ table.moves (table.words now.table) s (table.class_of (table.words now.table) t)
      → table.moves (table.words start.table) s (table.class_of (table.words start.table) t) ≡ a
  told_at now start s t a same is =
      ap (λ (w : Words). table.moves w s (table.class_of w t)) (sym same) ∙ sym is

  pub skipped : (i opened end t : ℕ) (now new : SliceState T) (s : Sym) (a : TableEntry) → MidToken i opened end now
      → i < end → drop i (tokens_of body) ≡ t ∷ drop (i + 1) (tokens_of body)
      → now.stack ≡ s ∷ new.stack
      → a ≡ table.moves (table.words now.table) s (table.class_of (table.words now.table) t)
      → is_take a ≡ false → is_stop a ≡ false
      → table.words new.table ≡ table.words now.table
      → table.asked new.table ≡ (table.asked now.table + 1) % 2 ^ 64
      → MidToken i opened end new
  skipped i opened end t now new s a mid less here top says takes stops same counts =
      let start = mid.start in
      let moves = table.moves (table.words start.table) in
      let class = table.class_of (table.words start.table) t in
      let is = told_at now start s t a mid.words says in
      let size : length now.stack ≡ suc (length new.stack) = ap length top in
      let before = mid.on t here in
      let after : after_at start t now.stack ≡ after_at start t new.stack =
      ap (stack_after moves class) top ∙ after_skipped moves class s new.stack a is takes stops in
      let due : due_at start t now.stack ≡ 1 + due_at start t new.stack =
      ap (steps_at moves class) top ∙ steps_skipped moves class s new.stack a is takes stops in
      let sum = before.1 in
      let sums : (table.asked new.table + due_at start t new.stack) % 2 ^ 64
      ≡ (table.asked start.table + due_at start t start.stack) % 2 ^ 64 = omega (arith, counts, due, sum) in
      record {
        start = start;
        at = mid.at;
        words = same ∙ mid.words;
        lower = (let lower = mid.lower in omega (arith, size, lower));
        on = λ u there.
            let same_token : t ≡ u = cc (here, there) in
            subst (λ (u : ℕ). (after_at start u start.stack ≡ after_at start u new.stack)
            × ((table.asked new.table + due_at start u new.stack) % 2 ^ 64
            ≡ (table.asked start.table + due_at start u start.stack) % 2 ^ 64)) same_token
            (before.0 ∙ after, sums);
        whole = λ last. absurd (omega (arith, less, last));
      }

  -- the last look-up for the token takes it
  pub takes_token : (i opened end t after : ℕ) (now new : SliceState T) → (mid : MidToken i opened end now)
      → drop i (tokens_of body) ≡ t ∷ drop (i + 1) (tokens_of body)
      → after_at now t now.stack ≡ Some new.stack
      → table.words new.table ≡ table.words now.table
      → AsksFor opened t now new
      → (is_bra t ≡ true → opened ≢ max_depth)
      → count_one (is_bra t) (is_ket t) (Some opened) ≡ open_count after
      → TakesToken t opened after mid.start new
  takes_token i opened end t after now new mid here taken same counts fits counted =
      let start = mid.start in
      let before = mid.on t here in
      let by_words = ap (λ (w : Words). stack_after (table.moves w) (table.class_of w t) now.stack) (sym mid.words) in
      let due : due_at now t now.stack ≡ due_at start t now.stack =
      ap (λ (w : Words). steps_at (table.moves w) (table.class_of w t) now.stack) mid.words in
      let sum = before.1 in
      let asked = counts.2 in
      record {
        words = same ∙ mid.words;
        fits = fits;
        taken = before.0 ∙ by_words ∙ taken;
        counted = counted;
        steps = (due_at start t start.stack + counts.0, most_once _ _ _ _ counts.1, omega (arith, asked, due, sum));
        once = once_asked opened t counts.0 now start fits mid.words (before.0 ∙ by_words) mid.lower counts.1;
      }

  pub refuses_token : (i opened end t : ℕ) (after : Option ℕ) (now new : SliceState T) → (mid : MidToken i opened end now)
      → drop i (tokens_of body) ≡ t ∷ drop (i + 1) (tokens_of body)
      → after_at now t now.stack ≡ None
      → table.words new.table ≡ table.words now.table
      → AsksFor opened t now new
      → (is_bra t ≡ true → opened ≢ max_depth)
      → after ≡ count_one (is_bra t) (is_ket t) (Some opened)
      → RefusesToken t opened after mid.start new
  refuses_token i opened end t after now new mid here reject_at same counts fits counted =
      let start = mid.start in
      let before = mid.on t here in
      let by_words = ap (λ (w : Words). stack_after (table.moves w) (table.class_of w t) now.stack) (sym mid.words) in
      let due : due_at now t now.stack ≡ due_at start t now.stack =
      ap (λ (w : Words). steps_at (table.moves w) (table.class_of w t) now.stack) mid.words in
      let sum = before.1 in
      let asked = counts.2 in
      record {
        words = same ∙ mid.words;
        why = inr (before.0 ∙ by_words ∙ reject_at);
        counted = counted;
        steps = (due_at start t start.stack + counts.0, most_once _ _ _ _ counts.1, omega (arith, asked, due, sum));
        once = once_asked opened t counts.0 now start fits mid.words (before.0 ∙ by_words) mid.lower counts.1;
      }

  -- inside a token there is room, as there was at its start
  pub low_enough : (i opened end size : ℕ) (now : SliceState T) → MidToken i opened end now → opened < max_depth
      → 5 * max_depth + 10 ≤ size → length now.stack + 7 ≤ size
  low_enough i opened end size now mid less at_depth_limit =
      let few = (laws (table.words mid.start.table)).few_entries mid.start.stack opened mid.at.lawful in
      let lower = mid.lower in
      omega (arith, few, lower, less, at_depth_limit)

  pub room_for : (i opened end size t : ℕ) (now : SliceState T) → MidToken i opened end now → opened < max_depth
      → 5 * max_depth + 10 ≤ size
      → drop i (tokens_of body) ≡ t ∷ drop (i + 1) (tokens_of body)
      → IfSome (after_at now t now.stack) (λ after. length after ≤ size)
  room_for i opened end size t now mid less at_depth_limit here =
      let start = mid.start in
      let fits : is_bra t ≡ true → opened ≢ max_depth = λ _ same. omega (arith, less, same) in
      let room = room_more table laws (table.words start.table) size t opened max_depth start.stack mid.at.lawful
      mid.at.deep at_depth_limit fits in
      subst (λ (o : Option (List Sym)). IfSome o (λ after. length after ≤ size))
      ((mid.on t here).0 ∙ ap (λ (w : Words). stack_after (table.moves w) (table.class_of w t) now.stack) (sym
      mid.words))
      room

  -- a token that is refused after some skips
  pub stops_here : (i opened end t tokens : ℕ) (after place : Option ℕ) (now new : SliceState T)
      → MidToken i opened end now
      → i ≤ length (tokens_of body) → take (i + 1) (tokens_of body) ≡ take i (tokens_of body) ++ t ∷ []
      → drop i (tokens_of body) ≡ t ∷ drop (i + 1) (tokens_of body)
      → after_at now t now.stack ≡ None
      → table.words new.table ≡ table.words now.table
      → AsksFor opened t now new
      → opened < max_depth
      → after ≡ count_one (is_bra t) (is_ket t) (Some opened) → new.stack ≡ []
      → tokens ≡ i + 1 → place ≡ Some i
      → ReadsTo table max_depth body read unclosed old tokens after place new
  stops_here i opened end t tokens after place now new mid inside front here reject_at same counts less counted empty size
      is =
      let fits : is_bra t ≡ true → opened ≢ max_depth = λ _ deep. omega (arith, less, deep) in
      let refuses = refuses_token i opened end t after now new mid here reject_at same counts fits counted in
      let whole = reads_refused i t opened after mid.start new mid.at inside front empty refuses in
      subst (λ (k : ℕ). ReadsTo table max_depth body read unclosed old k after place new) (sym size)
      (subst (λ (o : Option ℕ). ReadsTo table max_depth body read unclosed old (i + 1) after o new) (sym is) whole)

  -- a token that is taken after some skips
  pub goes_on : (i opened end t after : ℕ) (now new : SliceState T) → MidToken i opened end now
      → take (i + 1) (tokens_of body) ≡ take i (tokens_of body) ++ t ∷ []
      → drop i (tokens_of body) ≡ t ∷ drop (i + 1) (tokens_of body)
      → after_at now t now.stack ≡ Some new.stack
      → table.words new.table ≡ table.words now.table
      → AsksFor opened t now new
      → opened < max_depth
      → count_one (is_bra t) (is_ket t) (Some opened) ≡ open_count after
      → MidToken (i + 1) after end new × (after ≤ opened + 1)
  goes_on i opened end t after now new mid front here taken same counts less counted =
      let fits : is_bra t ≡ true → opened ≢ max_depth = λ _ is. omega (arith, less, is) in
      let takes = takes_token i opened end t after now new mid here taken same counts fits counted in
      let w = table.words mid.start.table in
      let next = lawful_more _ _ _ _ _ (laws w) t opened max_depth mid.start.stack new.stack mid.at.lawful mid.at.deep
      takes.fits takes.taken in
      let is : next.0 ≡ after = sym (open_told after next.0 (sym counted ∙ next.1)) in
      let more = one_more (is_bra t) (is_ket t) opened next.0 next.1 in (
        begun (i + 1) after end new (at_next i t opened after mid.start new mid.at front takes),
        omega (arith, is, more),
      )

  takes_on : (a : TableEntry) → is_take a ≡ true → is_stop a ≡ false
  takes_on (Take rest) h = refl
  takes_on Skip h = refl
  takes_on Stop h = cc

  -- a symbol stops the token, which is looked up once more
  pub stops_once : (t : ℕ) (now : SliceState T) (s : Sym) (below : List Sym) → now.stack ≡ s ∷ below
      → after_at now t now.stack ≡ None → 1 ≤ second_look_up (own_at t now) now.stack
  stops_once t now s below top none =
      rw (none, top) (go (is_standard (table.class_of (table.words now.table) t)))
    where
      go : (b : Bool) → 1 ≤ (if b && false then 0 else 1)
      go true = omega arith
      go false = omega arith

  -- so is a word that a symbol takes
  pub word_once : (t u : ℕ) (now : SliceState T) (s : Sym) (below after : List Sym) (a : TableEntry)
      → now.stack ≡ s ∷ below → is_stop a ≡ true → u ≡ t
      → (is_standard (table.class_of (table.words now.table) u) ≡ true
      → a ≡ table.moves (table.words now.table) s (table.class_of (table.words now.table) u))
      → after_at now t now.stack ≡ Some after → 1 ≤ second_look_up (own_at t now) now.stack
  word_once t u now s below after a top stop same stops taken =
      rw (taken, top) (go (is_standard class) refl)
    where
      class : Class
      class = table.class_of (table.words now.table) t

      go : (b : Bool) → is_standard class ≡ b → 1 ≤ (if b && true then 0 else 1)
      go false own = omega arith
      go true own =
          let told = subst (λ (i : ℕ). is_standard (table.class_of (table.words now.table) i) ≡ true
          → a ≡ table.moves (table.words now.table) s (table.class_of (table.words now.table) i)) same stops in
          let none : after_at now t now.stack ≡ None =
          ap (after_at now t) top ∙ after_stopped (table.moves (table.words now.table)) class s below a (sym (told own)) stop
          in absurd cc

  -- by the protocol's own table
  pub took : (i opened end t after : ℕ) (now new : SliceState T) (s : Sym) (below : List Sym) (a : TableEntry)
      → MidToken i opened end now
      → take (i + 1) (tokens_of body) ≡ take i (tokens_of body) ++ t ∷ []
      → drop i (tokens_of body) ≡ t ∷ drop (i + 1) (tokens_of body)
      → now.stack ≡ s ∷ below
      → (is_stop a ≡ false → a ≡ table.moves (table.words now.table) s (table.class_of (table.words now.table) t))
      → is_take a ≡ true → new.stack ≡ rest_of a ++ below
      → table.words new.table ≡ table.words now.table
      → table.asked new.table ≡ (table.asked now.table + 1) % 2 ^ 64
      → opened < max_depth
      → count_one (is_bra t) (is_ket t) (Some opened) ≡ open_count after
      → MidToken (i + 1) after end new × (after ≤ opened + 1)
  took i opened end t after now new s below a mid front here top says takes put same counts less counted =
      let moves = table.moves (table.words now.table) in
      let class = table.class_of (table.words now.table) t in
      let is : moves s class ≡ a = sym (says (takes_on a takes)) in
      let taken : after_at now t now.stack ≡ Some new.stack =
      ap (stack_after moves class) top ∙ after_taken moves class s below a is takes
      ∙ ap (λ (x : List Sym). Some x) (sym put) in
      let due : due_at now t now.stack ≡ 1 =
      ap (steps_at moves class) top ∙ steps_taken moves class s below a is takes in
      goes_on i opened end t after now new mid front here taken same (0, omega arith, omega (arith, counts, due)) less
      counted

  -- the same stack after one more look-up
  pub said_same : (t : ℕ) (now : SliceState T) (asked : T) (stack : List Sym) → table.words asked ≡ table.words now.table
      → stack ≡ now.stack
      → after_at now t now.stack
      ≡ stack_after (table.moves (table.words asked)) (table.class_of (table.words asked) t) stack
  said_same t now asked stack same is =
      ap (after_at now t) (sym is)
      ∙ ap (λ (w : Words). stack_after (table.moves w) (table.class_of w t) stack) (sym same)

  pub due_same : (t : ℕ) (now : SliceState T) (asked : T) (stack : List Sym) → table.words asked ≡ table.words now.table
      → stack ≡ now.stack
      → steps_at (table.moves (table.words asked)) (table.class_of (table.words asked) t) stack
      ≡ due_at now t now.stack
  due_same t now asked stack same is =
      ap (λ (w : Words). steps_at (table.moves w) (table.class_of w t) stack) same ∙ ap (due_at now t) is

  -- all tokens of a run were taken
  pub run_whole : (i opened end tokens : ℕ) (after place : Option ℕ) (now new : SliceState T)
      → MidToken i opened end now → i ≡ end → tokens ≡ end → after ≡ Some opened → place ≡ None → new ≡ now
      → ReadsTo table max_depth body read unclosed old tokens after place new
  run_whole i opened end tokens after place now new mid last all opens none same =
      rw (all ∙ sym last, opens, none, same)
      (reads_all i opened now (ended i opened end now last mid))

  -- the stack is empty, so nothing takes the token
  pub rejects_next : (i opened end t left step tokens count : ℕ) (known : Class) (after place : Option ℕ) (asked : T)
      (cells : List Sym)
      → MidToken i opened end (record { table = asked; stack = reverse (take left cells) }) → left ≡ 0
      → i ≤ length (tokens_of body) → take (i + 1) (tokens_of body) ≡ take i (tokens_of body) ++ t ∷ []
      → drop i (tokens_of body) ≡ t ∷ drop (i + 1) (tokens_of body)
      → known ≡ class_of t → opened < max_depth → opened + 1 < below_zero → step ≡ bracket_step known
      → tokens ≡ i + 1 → after ≡ open_count ((opened + step) % 65536) → place ≡ Some i → count ≡ 0
      → ReadsTo table max_depth body read unclosed old tokens after place
      (record { table = asked; stack = reverse (take count cells) })
  rejects_next i opened end t left step tokens count known after place asked cells mid empty inside front here class less
      low is size shut place_is none =
      let now : SliceState T = record { table = asked; stack = reverse (take left cells) } in
      let new : SliceState T = record { table = asked; stack = reverse (take count cells) } in
      let moves = table.moves (table.words asked) in
      let of_token = table.class_of (table.words asked) t in
      let due : steps_at moves of_token now.stack ≡ 0 =
      ap (λ (k : ℕ). steps_at moves of_token (reverse (take k cells))) empty in
      let counted : count_one (is_bra t) (is_ket t) (Some opened) ≡ open_count ((opened + step) % 65536) =
      counted_by_step opened t known class low ∙ ap (λ (k : ℕ). open_count ((opened + k) % 65536)) (sym is) in
      stops_here i opened end t tokens after place now new mid inside front here
      (ap (λ (k : ℕ). stack_after moves of_token (reverse (take k cells))) empty)
      refl (0, omega arith, none_more _ _ due) less (shut ∙ sym counted)
      (ap (λ (k : ℕ). reverse (take k cells)) none) size place_is
