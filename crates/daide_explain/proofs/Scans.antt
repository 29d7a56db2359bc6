-- A scan for unpaired brackets, one token at a time.
use Rattle.std.proofs.Common.{◌≢◌, ◌-◌, IsSome}
use Rattle.daide_explain.proofs.Common.{◌≡◌, ℕ, zero, suc, ◌+◌, ◌≤◌, ◌<◌, ◌==◌, Bool, true, false, List, [], ◌∷◌, ◌++◌}
use Rattle.daide_explain.proofs.Common.{length, take, drop, Option, None, Some, refl, sym, ◌∙◌, ap, subst, arith}
use Rattle.daide_explain.proofs.Common.{append_assoc, ◌⊎◌, inl, inr, eqb-true, take-append-drop, length-take-le}
use Rattle.daide_explain.proofs.Common.{take_all, bra, ket, is_bra, is_ket, excess_or_none}
use Rattle.daide_grammar.specs.Table.Brackets.{count_one}
use Rattle.daide_grammar.proofs.Counting.{count_on, count_on-append, counted_on, excess_or_none-snoc}
use Rattle.daide_explain.specs.Unpaired.{IsTokenAt, IsFirstKet, IsNeverClosed}

-- an undefined count stays undefined
pub none_on : (m : List ℕ) → count_on None m ≡ None
none_on [] = refl
none_on (t ∷ m) = none_on m

-- a BRA is at this index, nothing is open before it, and `more` brackets are open after it
pub record OpenedAt (p : List ℕ) (more first : ℕ) : Type 0 where
  pub before : List ℕ
  pub after : List ℕ
  pub here : IsTokenAt p bra first before after
  pub closed : excess_or_none before ≡ Some 0
  pub left : excess_or_none after ≡ Some more

-- `n` brackets are open after these tokens, the first of them at this index
abbrev pub Scan : List ℕ → ℕ → ℕ → Type 0
Scan p zero first = excess_or_none p ≡ Some 0
Scan p (suc more) first = (excess_or_none p ≡ Some (suc more)) × OpenedAt p more first

next_count : (p : List ℕ) (t n : ℕ) (opens closes : Bool) → is_bra t ≡ opens → is_ket t ≡ closes → excess_or_none p ≡ Some n →
    excess_or_none (p ++ t ∷ []) ≡ count_one opens closes (Some n)
next_count p t n opens closes e f h =
    excess_or_none-snoc p t
    ∙ (ap (λ (b : Bool). count_one b (is_ket t) (excess_or_none p)) e
    ∙ (ap (λ (b : Bool). count_one opens b (excess_or_none p)) f ∙ ap (count_one opens closes) h))

-- one more token after the first open BRA
later : (p : List ℕ) (t more now first : ℕ) (opens closes : Bool) → is_bra t ≡ opens → is_ket t ≡ closes →
    count_one opens closes (Some more) ≡ Some now → OpenedAt p more first → OpenedAt (p ++ t ∷ []) now first
later p t more now first opens closes e f step h = record {
  before = h.before;
  after = h.after ++ t ∷ [];
  here = record {
    whole = ap (λ (l : List ℕ). l ++ t ∷ []) h.here.whole ∙ append_assoc h.before (bra ∷ h.after) (t ∷ []);
    place = h.here.place;
  };
  closed = h.closed;
  left = next_count h.after t more opens closes e f h.left ∙ step;
}

bra_only : (t : ℕ) → t ≡ bra → (is_bra t ≡ true) × (is_ket t ≡ false)
bra_only t e = (ap is_bra e, ap is_ket e)

ket_only : (t : ℕ) → t ≡ ket → (is_bra t ≡ false) × (is_ket t ≡ true)
ket_only t e = (ap is_bra e, ap is_ket e)

differs : (t b : ℕ) → t ≢ b → (t == b) ≡ false
differs t b apart = go (t == b) refl
  where
    go : (x : Bool) → (t == b) ≡ x → x ≡ false
    go true e = absurd (apart (eqb-true t b e))
    go false e = refl

-- one more token of a body
pub scan_next : (m : List ℕ) (i t n first : ℕ) → take (i + 1) m ≡ take i m ++ t ∷ [] → Scan (take i m ++ t ∷ []) n first →
    Scan (take (i + 1) m) n first
scan_next m i t n first e h = subst (λ (p : List ℕ). Scan p n first) (sym e) h

-- a BRA read while no bracket is open is then the first open one
pub first_opened : (p : List ℕ) (t first : ℕ) → t ≡ bra → Scan p 0 first → Scan (p ++ t ∷ []) 1 (length p)
first_opened p t first e h =
    let k = bra_only t e in (
      next_count p t 0 true false k.0 k.1 h,
      record {
        before = p;
        after = [];
        here = record { whole = ap (λ (x : ℕ). p ++ x ∷ []) e; place = refl };
        closed = h;
        left = refl;
      },
    )

pub opened_more : (p : List ℕ) (t n first : ℕ) → t ≡ bra → Scan p (suc n) first → Scan (p ++ t ∷ []) (suc (n + 1)) first
opened_more p t n first e h =
    let k = bra_only t e in (
      next_count p t (suc n) true false k.0 k.1 h.0 ∙ ap (λ (x : ℕ). Some x) (let e : suc n + 1 ≡ suc (n + 1) = omega arith in e),
      later p t n (n + 1) first true false k.0 k.1 refl h.1,
    )

pub closed_one : (p : List ℕ) (t n first : ℕ) → t ≡ ket → Scan p (suc n) first → Scan (p ++ t ∷ []) n first
closed_one p t zero first e h = let k = ket_only t e in next_count p t 1 false true k.0 k.1 h.0
closed_one p t (suc n) first e h =
    let k = ket_only t e in (
      next_count p t (suc (suc n)) false true k.0 k.1 h.0,
      later p t (suc n) n first false true k.0 k.1 refl h.1,
    )

pub passed : (p : List ℕ) (t n first : ℕ) → t ≢ bra → t ≢ ket → Scan p n first → Scan (p ++ t ∷ []) n first
passed p t zero first b k h = next_count p t 0 false false (differs t bra b) (differs t ket k) h
passed p t (suc n) first b k h = (
  next_count p t (suc n) false false (differs t bra b) (differs t ket k) h.0,
  later p t n n first false false (differs t bra b) (differs t ket k) refl h.1,
)

-- a KET while no bracket is open is the first that closes nothing
pub first_ket : (m : List ℕ) (t i first : ℕ) → t ≡ ket → i ≤ length m → drop i m ≡ t ∷ drop (i + 1) m →
    Scan (take i m) 0 first → IsFirstKet m i
first_ket m t i first e inside rest h = (
  take i m,
  drop (i + 1) m,
  record {
    whole = sym (take-append-drop i m) ∙ (ap (λ (l : List ℕ). take i m ++ l) rest
        ∙ ap (λ (x : ℕ). take i m ++ x ∷ drop (i + 1) m) e);
    place = length-take-le i m inside;
  },
  h,
)

-- tokens that leave at most x of x + 1 + k open brackets close one too many if only k are open
closes_it : (c : List ℕ) (x k y : ℕ) → count_on (Some (x + 1 + k)) c ≡ Some y → y ≤ x → count_on (Some k) c ≡ None
closes_it [] x k y e few = let same : x + 1 + k ≡ y = cc in absurd (omega arith)
closes_it (t ∷ c) x k y e few =
    go (is_bra t) (is_ket t) k (closes_it c x) e
  where
    go : (opens closes : Bool) (k : ℕ) →
        ((k : ℕ) (y : ℕ) → count_on (Some (x + 1 + k)) c ≡ Some y → y ≤ x → count_on (Some k) c ≡ None) →
        count_on (count_one opens closes (Some (x + 1 + k))) c ≡ Some y →
        count_on (count_one opens closes (Some k)) c ≡ None
    go true closes k next e =
        next (k + 1) y (subst (λ (n : ℕ). count_on (Some n) c ≡ Some y) (let s : x + 1 + k + 1 ≡ x + 1 + (k + 1) = omega arith in s) e) few
    go false true zero next e = none_on c
    go false true (suc k) next e =
        next k y (subst (λ (n : ℕ). count_on (count_one false true (Some n)) c ≡ Some y) (let s : x + 1 + suc k ≡ suc (x + 1 + k) = omega arith in s) e) few
    go false false k next e = next k y e few

-- two indices of one list, the first before the second
pub between : (x y : ℕ) (a b before after : List ℕ) → length a < length before → a ++ x ∷ b ≡ before ++ y ∷ after →
    (c : List ℕ) × (before ≡ a ++ x ∷ c) × (b ≡ c ++ y ∷ after)
between x y [] b [] after less e = absurd (omega arith)
between x y [] b (z ∷ before) after less e =
    let head : x ≡ z = cc in
    let tail : b ≡ before ++ y ∷ after = cc in
    (before, ap (λ (t : ℕ). t ∷ before) (sym head), tail)
between x y (w ∷ a) b [] after less e = absurd (omega arith)
between x y (w ∷ a) b (z ∷ before) after less e =
    let head : w ≡ z = cc in
    let tail : a ++ x ∷ b ≡ before ++ y ∷ after = cc in
    let rest = between x y a b before after (omega arith) tail in
    (rest.0, ap (λ (t : ℕ). t ∷ before) (sym head) ∙ ap (λ (l : List ℕ). w ∷ l) rest.1, rest.2)

-- if all brackets are closed at the end, the tokens after a BRA close more than they open
pub closes_after_bra : (o : Option ℕ) (c : List ℕ) → count_on o (bra ∷ c) ≡ Some 0 → count_on (Some 0) c ≡ None
closes_after_bra None c e = let f : ◌≡◌ {A = Option ℕ} None (Some 0) = sym (none_on (bra ∷ c)) ∙ e in absurd cc
closes_after_bra (Some x) c e =
    closes_it c x 0 0 (subst (λ (n : ℕ). count_on (Some n) c ≡ Some 0) (let s : x + 1 ≡ x + 1 + 0 = omega arith in s) e)
    (omega arith)

pub no_value : (o : Option ℕ) → o ≡ None → IsSome o → ⊥
no_value None e h = let f : false ≡ true = h in absurd cc
no_value (Some x) e h = absurd cc

-- every BRA before the first open one is closed
closed_before : (m before after a b : List ℕ) (j : ℕ) → excess_or_none before ≡ Some 0 → m ≡ before ++ bra ∷ after →
    j < length before → IsTokenAt m bra j a b → IsSome (excess_or_none b) → ⊥
closed_before m before after a b j closed whole less at open_still =
    let place : length a ≡ j = at.place in
    let parts = between bra bra a b before after (omega arith) (sym at.whole ∙ whole) in
    let c = parts.0 in
    let front : count_on (Some 0) (a ++ bra ∷ c) ≡ Some 0 =
    ap (count_on (Some 0)) (sym parts.1) ∙ (sym (counted_on before) ∙ closed) in
    let split : count_on (count_on (Some 0) a) (bra ∷ c) ≡ Some 0 = sym (count_on-append (Some 0) a (bra ∷ c)) ∙ front in
    let gone : count_on (Some 0) c ≡ None = closes_after_bra (count_on (Some 0) a) c split in
    let all : excess_or_none b ≡ None =
    counted_on b ∙ (ap (count_on (Some 0)) parts.2 ∙ (count_on-append (Some 0) c (bra ∷ after)
    ∙ (ap (λ (o : Option ℕ). count_on o (bra ∷ after)) gone ∙ none_on (bra ∷ after)))) in
    no_value (excess_or_none b) all open_still

some_value : (o : Option ℕ) (n : ℕ) → o ≡ Some n → IsSome o
some_value None n e = absurd cc
some_value (Some x) n e = refl

-- the first BRA that is open at the end is never closed, and every earlier one is
pub first_bra : (m : List ℕ) (n first : ℕ) → Scan m (suc n) first →
    IsSome (excess_or_none m) × IsNeverClosed m first × ((j : ℕ) → j < first → ¬ IsNeverClosed m j)
first_bra m n first h =
    let at = h.1 in (
      some_value (excess_or_none m) (suc n) h.0,
      (at.before, at.after, at.here, some_value (excess_or_none at.after) n at.left),
      λ j less k.
          let place = at.here.place in
          closed_before m at.before at.after k.0 k.1 j at.closed at.here.whole (omega arith) k.2 k.3,
    )

along : (p : List ℕ) (n now first place : ℕ) → now ≡ n → place ≡ first → Scan p n first → Scan p now place
along p n now first place e f h =
    subst (λ (k : ℕ). Scan p k place) (sym e) (subst (λ (k : ℕ). Scan p n k) (sym f) h)

pub scan_bra : (m : List ℕ) (i t n first now place : ℕ) → take (i + 1) m ≡ take i m ++ t ∷ [] → length (take i m) ≡ i →
    t ≡ bra → now ≡ n + 1 → ((n ≡ 0) × (place ≡ i)) ⊎ ((n ≡ 0 → ⊥) × (place ≡ first)) → Scan (take i m) n first →
    Scan (take (i + 1) m) now place
scan_bra m i t zero first now place next len e more (inl (none, at)) h =
    scan_next m i t now place next
    (along (take i m ++ t ∷ []) 1 now (length (take i m)) place (omega arith) (at ∙ sym len)
    (first_opened (take i m) t first e h))
scan_bra m i t zero first now place next len e more (inr (some, at)) h = absurd (some refl)
scan_bra m i t (suc n) first now place next len e more (inl (none, at)) h = absurd (omega arith)
scan_bra m i t (suc n) first now place next len e more (inr (some, at)) h =
    scan_next m i t now place next
    (along (take i m ++ t ∷ []) (suc (n + 1)) now first place (omega arith) at (opened_more (take i m) t n first e h))

pub scan_ket : (m : List ℕ) (i t n first now place : ℕ) → take (i + 1) m ≡ take i m ++ t ∷ [] → t ≡ ket →
    now ≡ n - 1 → (n ≡ 0 → ⊥) → place ≡ first → Scan (take i m) n first → Scan (take (i + 1) m) now place
scan_ket m i t zero first now place next e less some at h = absurd (some refl)
scan_ket m i t (suc n) first now place next e less some at h =
    scan_next m i t now place next
    (along (take i m ++ t ∷ []) n now first place (omega arith) at (closed_one (take i m) t n first e h))

pub scan_plain : (m : List ℕ) (i t n first now place : ℕ) → take (i + 1) m ≡ take i m ++ t ∷ [] → t ≢ bra → t ≢ ket →
    now ≡ n → place ≡ first → Scan (take i m) n first → Scan (take (i + 1) m) now place
scan_plain m i t n first now place next b k same at h =
    scan_next m i t now place next (along (take i m ++ t ∷ []) n now first place same at (passed (take i m) t n first b k h))

pub scan_all : (m : List ℕ) (i n first : ℕ) → length m ≤ i → Scan (take i m) n first → Scan m n first
scan_all m i n first over h = subst (λ (p : List ℕ). Scan p n first) (take_all i m over) h

pub all_closed : (m : List ℕ) (n first : ℕ) → n ≡ 0 → Scan m n first → excess_or_none m ≡ Some 0
all_closed m zero first e h = h
all_closed m (suc n) first e h = absurd (omega arith)

pub some_open : (m : List ℕ) (n first : ℕ) → (n ≡ 0 → ⊥) → Scan m n first →
    IsSome (excess_or_none m) × IsNeverClosed m first × ((j : ℕ) → j < first → ¬ IsNeverClosed m j)
some_open m zero first some h = absurd (some refl)
some_open m (suc n) first some h = first_bra m n first h

pub ket_here : (m : List ℕ) (t i n first : ℕ) → t ≡ ket → i ≤ length m → drop i m ≡ t ∷ drop (i + 1) m → n ≡ 0 →
    Scan (take i m) n first → IsFirstKet m i
ket_here m t i zero first e inside rest none h = first_ket m t i first e inside rest h
ket_here m t i (suc n) first e inside rest none h = absurd (omega arith)
