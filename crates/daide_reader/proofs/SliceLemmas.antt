-- A reader in locals, after one more token of a body.
use Rattle.std.proofs.Common.{not, add-zero}
use Rattle.daide_reader.proofs.Common.{◌≡◌, ◌≢◌, ℕ, zero, suc, ◌+◌, ◌-◌, ◌*◌, ◌%◌, ◌^◌, ◌≤◌, ◌<◌, Bool, true, false}
use Rattle.daide_reader.proofs.Common.{List, [], ◌∷◌, ◌++◌, length, take, Option, None, Some, IfSome, IfNone, IsSome}
use Rattle.daide_reader.proofs.Common.{drop, reverse, refl, sym, ◌∙◌, ap, subst, arith, ◌⊎◌, inl, inr, append_assoc}
use Rattle.daide_reader.proofs.Common.{append-nil, nat_eq, if◌then◌else◌, length-append, length-drop, take_all}
use Rattle.daide_reader.proofs.Common.{drop-length, take-length, tokens_of, Class, TableEntry, Sym, Ghosts, Words}
use Rattle.daide_reader.proofs.Common.{stack_after, IsCorrectPrediction, begins_with_prn, is_bra, is_ket}
use Rattle.daide_reader.proofs.Common.{excess_or_none, count_one, Outline, below_zero, IsOutlineOf, with_token}
use Rattle.daide_reader.proofs.Common.{outline_of, count_all, Reading, HasReadPrefix, StackOrPlace, IsSteady, reading}
use Rattle.daide_reader.proofs.Common.{◌&&◌, steps_since, tokens_read, unwrap_or, open_count, place_behind, excess_or_none-snoc}
use Rattle.daide_token.specs.Token.{token_bytes}
use Rattle.daide_token.proofs.TokenPlaces.{tokens_of-front}
use Rattle.daide_reader.proofs.OutlineLemmas.{outline-snoc, same_outline, outline_of-is}
use Rattle.daide_reader.proofs.ErrorPlaceLemmas.{place_kept}
use Rattle.daide_reader.specs.LookUps.{Parse, no_token_read, read_one, read_each, look_ups_for}
use Rattle.daide_reader.specs.Reading.{IsParsed}
use Rattle.daide_reader.proofs.ReadingLemmas.{asked_at, counted_now, counts_more, stands_report, stands_taken}
use Rattle.daide_reader.proofs.ReadingLemmas.{stands_refused}

-- a prefix of a list that does not begin with PRN does not begin with it either
pub front_not_prn : (i : ℕ) (m : List ℕ) → begins_with_prn m ≡ false → begins_with_prn (take i m) ≡ false
front_not_prn zero m h = refl
front_not_prn (suc i) [] h = refl
front_not_prn (suc i) (t ∷ m) h = h

pub length_front : (i : ℕ) (m : List ℕ) → i ≤ length m → i ≡ length (take i m)
length_front zero m h = refl
length_front (suc i) [] h = absurd (omega arith)
length_front (suc i) (t ∷ m) h = ap suc (length_front i m (omega arith))

-- the same after other tokens
pub front_not_prn_behind : (before : List ℕ) (i : ℕ) (m : List ℕ) → begins_with_prn (before ++ m) ≡ false
    → begins_with_prn (before ++ take i m) ≡ false
front_not_prn_behind [] i m h = front_not_prn i m h
front_not_prn_behind (t ∷ before) i m h = h

pub length_behind : (before : List ℕ) (i : ℕ) (m : List ℕ) → i ≤ length m
    → length before + i ≡ length (before ++ take i m)
length_behind before i m h = ap (λ (k : ℕ). length before + k) (length_front i m h) ∙ sym (length-append before (take i m))

-- the tokens of a body from an index on are those of its bytes from there on
pub tokens_of-drop : (i : ℕ) (b : List ℕ) → tokens_of (drop (2 * i) b) ≡ drop i (tokens_of b)
tokens_of-drop zero b = refl
tokens_of-drop (suc i) [] = let next : 2 * suc i ≡ suc (suc (2 * i)) = omega arith in rw next refl
tokens_of-drop (suc i) (x ∷ []) = let next : 2 * suc i ≡ suc (suc (2 * i)) = omega arith in rw next refl
tokens_of-drop (suc i) (x ∷ y ∷ b) =
    let next : 2 * suc i ≡ suc (suc (2 * i)) = omega arith in
    rw next (tokens_of-drop i b)

-- the bytes from an offset on, as a slice has them
pub slice_on : (n : ℕ) (b : List ℕ) → take (length b - n) (drop n b) ≡ drop n b
slice_on n b = take_all (length b - n) (drop n b) (rw length-drop (omega arith))

pub one_token : (t : ℕ) (bytes : List ℕ) → bytes ≡ token_bytes t → tokens_of bytes ≡ t ∷ []
one_token t bytes is = ap tokens_of is ∙ ap (λ (n : ℕ). n ∷ []) (omega arith)

pub outline_of-snoc : (p : List ℕ) (t : ℕ) → outline_of (p ++ t ∷ []) ≡ with_token (outline_of p) t
outline_of-snoc p t = same_outline (with_token (outline_of p) t) (p ++ t ∷ [])
    (outline-snoc (outline_of p) p t (record { tokens = refl; begins = refl; second = refl; last = refl }))

module _ {T : Type 0} (table : Ghosts T)
    (laws : (w : Words) →
    IsCorrectPrediction (table.class_of w) (table.language w) (table.moves w) (table.ends w) (table.lawful w))
    (words : Words) (first : Sym) (depth base : ℕ) where
  pub run_taken : (old new : T) (max_depth : ℕ) (stack after : List Sym) (p : List ℕ) (t n k : ℕ)
      → begins_with_prn (p ++ t ∷ []) ≡ false → table.words new ≡ table.words old
      → table.lawful (table.words old) stack n → n ≤ max_depth → (is_bra t ≡ true → n ≢ max_depth)
      → stack_after (table.moves (table.words old)) (table.class_of (table.words old) t) stack ≡ Some after
      → count_one (is_bra t) (is_ket t) (Some n) ≡ Some k
      → (steps : (m : ℕ) × (m ≤ 4) × (table.asked new % 2 ^ 64 ≡ (table.asked old + m) % 2 ^ 64))
      → steps.0 ≤ asked_at table laws words first depth (reading old max_depth stack (outline_of p) (Some n) None base) n t
      → HasReadPrefix table words first depth (reading old max_depth stack (outline_of p) (Some n) None base) p
      → HasReadPrefix table words first depth (reading new max_depth after (outline_of (p ++ t ∷ [])) (Some k) None base)
      (p ++ t ∷ [])
  run_taken old new max_depth stack after p t n k not_prn same ok deep fits advances counts steps few h =
      stands_taken table laws words first depth
      (reading old max_depth stack (outline_of p) (Some n) None base)
      (reading new max_depth after (outline_of (p ++ t ∷ [])) (Some k) None base) t n k p
      (record {
        words_same = same;
        depth_same = refl;
        finished_same = refl;
        asked_same = refl;
        outline_more = outline_of-snoc p t;
        not_prn = not_prn;
        unclosed_more = sym counts;
        unfinished = refl;
        steps_more = steps;
      })
      (record { no_place = refl; unclosed = refl; deep = deep; lawful_stack = ok })
      fits advances refl counts few h

  pub run_refused : (old new : T) (max_depth : ℕ) (stack after : List Sym) (p : List ℕ) (t n i : ℕ)
      (unclosed : Option ℕ)
      → begins_with_prn (p ++ t ∷ []) ≡ false → table.words new ≡ table.words old
      → table.lawful (table.words old) stack n → n ≤ max_depth
      → ((is_bra t ≡ true) × (n ≡ max_depth)) ⊎
      (stack_after (table.moves (table.words old)) (table.class_of (table.words old) t) stack ≡ None)
      → unclosed ≡ count_one (is_bra t) (is_ket t) (Some n) → i ≡ length p → after ≡ []
      → (steps : (m : ℕ) × (m ≤ 4) × (table.asked new % 2 ^ 64 ≡ (table.asked old + m) % 2 ^ 64))
      → steps.0 ≤ asked_at table laws words first depth (reading old max_depth stack (outline_of p) (Some n) None base) n t
      → HasReadPrefix table words first depth (reading old max_depth stack (outline_of p) (Some n) None base) p
      → HasReadPrefix table words first depth
      (reading new max_depth after (outline_of (p ++ t ∷ [])) unclosed (Some i) base) (p ++ t ∷ [])
  run_refused old new max_depth stack after p t n i unclosed not_prn same ok deep why counts place empty steps few h =
      stands_refused table laws words first depth
      (reading old max_depth stack (outline_of p) (Some n) None base)
      (reading new max_depth after (outline_of (p ++ t ∷ [])) unclosed (Some i) base) t n p
      (record {
        words_same = same;
        depth_same = refl;
        finished_same = refl;
        asked_same = refl;
        outline_more = outline_of-snoc p t;
        not_prn = not_prn;
        unclosed_more = counts;
        unfinished = refl;
        steps_more = steps;
      })
      (record { no_place = refl; unclosed = refl; deep = deep; lawful_stack = ok })
      why (ap (λ (k : ℕ). Some k) place) empty few h

-- more tokens after some
pub read_each-append : {T : Type 0} (table : Ghosts T) (words : Words) (max_depth : ℕ) (g : Parse) (p q : List ℕ)
    → read_each (table.moves words) (table.class_of words) max_depth g (p ++ q)
    ≡ read_each (table.moves words) (table.class_of words) max_depth (read_each (table.moves words) (table.class_of words) max_depth g p) q
read_each-append table words max_depth g [] q = refl
read_each-append table words max_depth g (t ∷ p) q =
    read_each-append table words max_depth (read_one (table.moves words) (table.class_of words) max_depth g t) p q

-- no look-up is made if no symbol is left
pub read_each-empty : {T : Type 0} (table : Ghosts T) (words : Words) (max_depth : ℕ) (g : Parse) (q : List ℕ)
    → g.stack ≡ []
    → ((read_each (table.moves words) (table.class_of words) max_depth g q).stack ≡ []) × ((read_each (table.moves words) (table.class_of words) max_depth g q).look_ups ≡ g.look_ups)
read_each-empty table words max_depth g [] none = (none, refl)
read_each-empty table words max_depth g (t ∷ q) none =
    let one = read_one-empty (is_bra t && nat_eq g.opened max_depth) in
    let more = read_each-empty table words max_depth (read_one (table.moves words) (table.class_of words) max_depth g t) q one.0 in
    (more.0, more.1 ∙ one.1)
  where
    closed : (b : Bool) → (if b then [] else g.stack) ≡ []
    closed true = refl
    closed false = none

    read_one-empty : (b : Bool) → ((read_one (table.moves words) (table.class_of words) max_depth g t).stack ≡ [])
        × ((read_one (table.moves words) (table.class_of words) max_depth g t).look_ups ≡ g.look_ups)
    read_one-empty b = rw (closed (is_bra t && nat_eq g.opened max_depth)) (refl, omega arith)

none_counted : (opens closes : Bool) → count_one opens closes None ≡ None
none_counted true closes = refl
none_counted false true = refl
none_counted false false = refl

-- the count of open brackets over more tokens
pub count_all-none : (q : List ℕ) → count_all None q ≡ None
count_all-none [] = refl
count_all-none (t ∷ q) =
    ap (λ (u : Option ℕ). count_all u q) (none_counted (is_bra t) (is_ket t)) ∙ count_all-none q

pub count_all-excess_or_none : (p q : List ℕ) → count_all (excess_or_none p) q ≡ excess_or_none (p ++ q)
count_all-excess_or_none p [] = ap excess_or_none (sym (append-nil p))
count_all-excess_or_none p (t ∷ q) =
    ap (λ (u : Option ℕ). count_all u q) (sym (excess_or_none-snoc p t)) ∙ count_all-excess_or_none (p ++ t ∷ []) q
    ∙ ap excess_or_none (append_assoc p (t ∷ []) q)

pub count_all-few : (u : Option ℕ) (n : ℕ) (q : List ℕ) → IfSome u (λ k. k ≤ n) →
    IfSome (count_all u q) (λ k. k ≤ n + length q)
count_all-few u n [] few = rw (add-zero) few
count_all-few u n (t ∷ q) few =
    let more = count_all-few (count_one (is_bra t) (is_ket t) u) (n + 1) q
    (counts_more u n (is_bra t) (is_ket t) few) in
    let same : n + 1 + length q ≡ n + suc (length q) = omega arith in
    rw same at more

-- a reader without an error place, in locals
pub as_reading : {T : Type 0} (table : Ghosts T) (words : Words) (first : Sym) (depth n : ℕ) (v : Reading T)
    (p : List ℕ)
    → v.place ≡ None → v.unclosed ≡ Some n → v.finished ≡ false → HasReadPrefix table words first depth v p
    → HasReadPrefix table words first depth
    (reading v.table v.max_depth v.stack (outline_of p) (Some n) None v.asked_before) p
as_reading table words first depth n v p none here unfinished h = record {
  words_kept = h.words_kept;
  depth_kept = h.depth_kept;
  outline = outline_of-is p;
  unclosed = sym here ∙ h.unclosed;
  place = λ e. rw none at (h.place e);
  steps = rw unfinished at h.steps;
  at = λ e. rw (none, here) at (h.at e);
  once = rw unfinished at h.once;
}

module _ {T : Type 0} (table : Ghosts T) (words : Words) (first : Sym) (max_depth : ℕ) where
  -- a reader that has counted the brackets of q without a look-up; without an error place q is empty
  pub record GoesOn (old new : Reading T) (p q m : List ℕ) : Type 0 where
    pub whole : p ++ q ≡ m
    pub table_same : new.table ≡ old.table
    pub stack_same : new.stack ≡ old.stack
    pub depth_same : new.max_depth ≡ old.max_depth
    pub finished_same : new.finished ≡ old.finished
    pub asked_same : new.asked_before ≡ old.asked_before
    pub place_same : new.place ≡ old.place
    pub outline_more : IsOutlineOf old.outline p → IsOutlineOf new.outline m
    pub not_prn : new.outline.is_prn ≡ false
    pub unclosed_more : new.unclosed ≡ count_all old.unclosed q
    pub all_read : old.place ≡ None → q ≡ []
    pub none_left : IsSome old.place → old.stack ≡ []

  plain_front : (p q : List ℕ) → begins_with_prn (p ++ q) ≡ false → begins_with_prn p ≡ false
  plain_front [] q h = refl
  plain_front (x ∷ p) q h = h

  pub stands_on : (old new : Reading T) (p q m : List ℕ) → GoesOn old new p q m →
      HasReadPrefix table words first max_depth old p
      → HasReadPrefix table words first max_depth new m
  stands_on old new p q m on h =
      subst (λ (r : List ℕ). HasReadPrefix table words first max_depth new r) on.whole (record {
        words_kept = ap table.words on.table_same ∙ h.words_kept;
        depth_kept = on.depth_same ∙ h.depth_kept;
        outline = outline;
        unclosed = subst (λ (b : Bool). new.unclosed ≡ (if b then Some 0 else excess_or_none (p ++ q))) (sym plain)
            (on.unclosed_more ∙ ap (λ (u : Option ℕ). count_all u q) before ∙ count_all-excess_or_none p q);
        place = λ _. rw (on.stack_same, on.place_same) (go old.place refl (h.place (plain_front p q plain)));
        steps = rw (on.table_same, on.asked_same, on.finished_same, length-append) (let few = h.steps in omega arith);
        at = λ _. rw (on.stack_same, on.place_same) (at_on old.place refl);
        once = rw (on.table_same, on.asked_same, on.finished_same) (once_on old.place refl);
      })
    where
      outline : IsOutlineOf new.outline (p ++ q)
      outline = subst (λ (r : List ℕ). IsOutlineOf new.outline r) (sym on.whole) (on.outline_more h.outline)

      plain : begins_with_prn (p ++ q) ≡ false
      plain = sym outline.begins ∙ on.not_prn

      before : old.unclosed ≡ excess_or_none p
      before = counted_now old.unclosed p (plain_front p q plain) h.unclosed

      g : Parse
      g = read_each (table.moves words) (table.class_of words) max_depth (no_token_read first) p

      here : IsParsed g old.stack old.unclosed old.place
      here = h.at (plain_front p q plain)

      empty : (i : ℕ) → old.place ≡ Some i → old.stack ≡ []
      empty i is = on.none_left (rw is refl)

      -- no look-up after the place
      still : (i : ℕ) → old.place ≡ Some i
          → ((read_each (table.moves words) (table.class_of words) max_depth (no_token_read first) (p ++ q)).stack ≡ [])
          × ((read_each (table.moves words) (table.class_of words) max_depth (no_token_read first) (p ++ q)).look_ups ≡ g.look_ups)
      still i is = rw (read_each-append table words max_depth (no_token_read first) p q)
          (read_each-empty table words max_depth g q (sym here.same_stack ∙ empty i is))

      at_on : (o : Option ℕ) → old.place ≡ o
          → IsParsed (read_each (table.moves words) (table.class_of words) max_depth (no_token_read first) (p ++ q)) old.stack new.unclosed o
      at_on None is =
          let none = on.all_read is in
          let count : new.unclosed ≡ old.unclosed =
          on.unclosed_more ∙ ap (λ (r : List ℕ). count_all old.unclosed r) none in
          rw (none, append-nil p, count) (rw is at here)
      at_on (Some i) is = record {
        same_stack = empty i is ∙ sym (still i is).0;
        same_count = λ none. absurd cc;
        none_left = λ _. empty i is;
      }

      once_on : (o : Option ℕ) → old.place ≡ o
          → steps_since table.asked old ≤ look_ups_for (table.moves words) (table.class_of words) (table.ends words) first max_depth (p ++ q) old.finished
      once_on None is = rw (on.all_read is, append-nil p) h.once
      once_on (Some i) is =
          let few = rw (plain_front p q plain, sym here.same_stack ∙ empty i is) at h.once in
          rw (plain, (still i is).0, (still i is).1) few

      go : (o : Option ℕ) → old.place ≡ o → StackOrPlace (table.language words) first max_depth old.stack o p
          → StackOrPlace (table.language words) first max_depth old.stack o (p ++ q)
      go None is has = rw (on.all_read is, append-nil p) has
      go (Some i) is has = place_kept (table.language words first) max_depth p q i has

  -- a message that begins with PRN
  pub stands_report_on : (old new : Reading T) (p q m : List ℕ) → p ++ q ≡ m → new.table ≡ old.table
      → new.max_depth ≡ old.max_depth → new.finished ≡ old.finished → new.asked_before ≡ old.asked_before
      → new.unclosed ≡ old.unclosed
      → (IsOutlineOf old.outline p → IsOutlineOf new.outline m) → new.outline.is_prn ≡ true → old.finished ≡ false
      → HasReadPrefix table words first max_depth old p → HasReadPrefix table words first max_depth new m
  stands_report_on old new p q m whole same depth_same finished_same asked_same unclosed_same more is_report unfinished h =
      subst (λ (r : List ℕ). HasReadPrefix table words first max_depth new r) whole
      (stands_report table words first max_depth old new p q same depth_same finished_same asked_same unclosed_same
      (λ o. subst (λ (r : List ℕ). IsOutlineOf new.outline r) (sym whole) (more o)) is_report unfinished h)

-- the invariant holds with the outline of more tokens
pub steady_on : (old_lawful lawful : List Sym → ℕ →
    Type 0) (size max_depth : ℕ) (old_stack stack : List Sym) (old o : Outline)
    (old_unclosed old_place unclosed place : Option ℕ)
    → IsSteady old_lawful size max_depth old_stack old old_unclosed old_place → old.tokens < o.tokens
    → o.tokens ≤ 32767 → IfSome unclosed (λ n. n ≤ o.tokens)
    → (o.is_prn ≡ false → place ≡ None → (n : ℕ) × (unclosed ≡ Some n) × (n ≤ max_depth) × lawful stack n)
    → (IsSome place → stack ≡ []) → (o.is_prn ≡ true → stack ≡ [])
    → IsSteady lawful size max_depth stack o unclosed place
steady_on old_lawful lawful size max_depth old_stack stack old o old_unclosed old_place unclosed place steady more short
    counts ok placed report =
    record {
      small = steady.small;
      at_depth_limit = steady.at_depth_limit;
      counts = counts;
      tokens = short;
      fresh = λ none. absurd (omega (arith, none, more));
      lawful_stack = ok;
      none_left = placed;
      none_in_prn = report;
    }

pub open_told : (n k : ℕ) → open_count n ≡ Some k → n ≡ k
open_told n k e = go (nat_eq n below_zero) e
  where
    go : (b : Bool) → (if b then None else Some n) ≡ Some k → n ≡ k
    go true e = cc
    go false e = cc

-- the tokens of a body that a reader has read, by its own count
pub stands_before : {T : Type 0} (table : Ghosts T) (words : Words) (first : Sym) (max_depth : ℕ) (v old : Reading T)
    (b : List ℕ)
    → v ≡ old → HasReadPrefix table words first max_depth old (tokens_of (take (2 * tokens_read old) b))
    → HasReadPrefix table words first max_depth v (take v.outline.tokens (tokens_of b))
stands_before {T = T} table words first max_depth v old b same h =
    subst (λ (r : Reading T). HasReadPrefix table words first max_depth r (take r.outline.tokens (tokens_of b)))
    (sym same)
    (subst (λ (p : List ℕ). HasReadPrefix table words first max_depth old p) (tokens_of-front (tokens_read old) b) h)

-- no new token
pub stands_still : {T : Type 0} (table : Ghosts T) (words : Words) (first : Sym) (max_depth : ℕ) (v old : Reading T)
    (b : List ℕ)
    → v ≡ old → v.outline.tokens ≡ length (tokens_of b)
    → HasReadPrefix table words first max_depth old (tokens_of (take (2 * tokens_read old) b))
    → HasReadPrefix table words first max_depth old (tokens_of b)
stands_still {T = T} table words first max_depth v old b same all h =
    subst (λ (r : Reading T). HasReadPrefix table words first max_depth r (tokens_of b)) same
    (subst (λ (p : List ℕ). HasReadPrefix table words first max_depth v p)
    (ap (λ (k : ℕ). take k (tokens_of b)) all ∙ take-length (tokens_of b))
    (stands_before table words first max_depth v old b same h))

pub counts_up : (u : Option ℕ) (a b : ℕ) → a ≤ b → IfSome u (λ n. n ≤ a) → IfSome u (λ n. n ≤ b)
counts_up None a b le h = tt
counts_up (Some n) a b le h = omega arith

-- the count of a reader without an error place
pub count_is : (u : Option ℕ) (n count : ℕ) → u ≡ Some n → count ≡ unwrap_or u 0 → count ≡ n
count_is u n count is e = rw is at e

pub count_all-end : (u : Option ℕ) (n : ℕ) (m : List ℕ) → n ≡ length m → count_all u (drop n m) ≡ u
count_all-end u n m e = rw (e, drop-length m) refl

pub closed_early : (opens closes : Bool) (n : ℕ) → opens ≡ false → closes ≡ true → n ≡ 0 →
    count_one opens closes (Some n) ≡ None
closed_early opens closes n is_no is_ket none = rw (is_no, is_ket, none) refl

-- the count over the tokens of a body from an index on, with those before it
pub counts_past : (u : Option ℕ) (before i total : ℕ) (m : List ℕ) → i ≤ length m → total ≡ before + length m
    → IfSome u (λ n. n ≤ before + i) → IfSome (count_all u (drop i m)) (λ n. n ≤ total)
counts_past u before i total m inside sum few =
    let size : before + i + length (drop i m) ≡ total = rw length-drop (omega (arith, inside, sum)) in
    subst (λ (k : ℕ). IfSome (count_all u (drop i m)) (λ n. n ≤ k)) size (count_all-few u (before + i) (drop i m) few)

-- the index in the message is None only if the one in the body is
pub behind_none : (before : ℕ) (place : Option ℕ) → place_behind before place ≡ None → place ≡ None
behind_none before None e = refl
behind_none before (Some i) e = absurd cc

pub behind_some : (before : ℕ) (place : Option ℕ) → IsSome (place_behind before place) → IsSome place
behind_some before None e = e
behind_some before (Some i) e = refl

pub behind_fits : (before tokens : ℕ) (place : Option ℕ) → IfSome place (λ i. i < tokens)
    → before + tokens ≤ 65535 → IfSome place (λ i. before + i ≤ 65535)
behind_fits before tokens None few room = tt
behind_fits before tokens (Some i) few room = omega arith

-- the stack after a token, by the class that a table gives it
pub taken_at : (moves : Sym → Class → TableEntry) (told class : Class) (stack : List Sym)
    (left : Option ℕ) (cells : List Sym)
    → told ≡ class
    → IfSome left (λ n. stack_after moves told stack ≡ Some (reverse (take n cells)))
    → IfSome left (λ n. stack_after moves class stack ≡ Some (reverse (take n cells)))
taken_at moves told class stack left cells same h =
    subst (λ (k : Class). IfSome left (λ n. stack_after moves k stack ≡ Some (reverse (take n cells)))) same h

pub refused_by : (why : Type 0) (moves : Sym → Class → TableEntry) (told class : Class) (stack : List Sym) (left : Option ℕ)
    → told ≡ class → IfNone left (stack_after moves told stack ≡ None)
    → IfNone left (why ⊎ (stack_after moves class stack ≡ None))
refused_by why moves told class stack None same h = inr (ap (λ (k : Class). stack_after moves k stack) (sym same) ∙ h)
refused_by why moves told class stack (Some n) same h = tt

-- ---- a token at the depth limit, where no bracket may be opened

pub bra_of : (fits bra : Bool) → fits ≡ not bra → fits ≡ false → bra ≡ true
bra_of fits true same refused = refl
bra_of fits false same refused = let both : true ≡ false = sym same ∙ refused in absurd cc

pub no_bra_of : (fits bra : Bool) → fits ≡ not bra → fits ≡ true → bra ≡ false
no_bra_of fits false same taken = refl
no_bra_of fits true same taken = let both : false ≡ true = sym same ∙ taken in absurd cc

pub never_opens : (bra : Bool) (opened limit : ℕ) → bra ≡ false → bra ≡ true → opened ≢ limit
never_opens bra opened limit other opens = let both : false ≡ true = sym other ∙ opens in absurd cc

pub opens_too_many : (bra : Bool) (opened limit : ℕ) (stopped : Type 0) → opened ≡ limit → (bra ≡ true) ⊎ stopped →
    ((bra ≡ true) × (opened ≡ limit)) ⊎ stopped
opens_too_many bra opened limit stopped same (inl opens) = inl (opens, same)
opens_too_many bra opened limit stopped same (inr stops) = inr stops
