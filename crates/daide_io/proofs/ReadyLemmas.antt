-- Lists of places in which each is at most once, and their marks.
use Rattle.std.proofs.Common.{◌≡◌, ℕ, zero, suc, ◌+◌, ◌≤◌, ◌<◌, Bool, true, false, List, [], ◌∷◌, ◌++◌, length, get_or, slice_set}
use Rattle.std.proofs.Common.{refl, ap, sym, subst, arith}
use Rattle.daide_io.specs.ReadyQueue.{ReadyView, is_same, occurrences_of, one_if, mark_at, AreMarked, woken, woken_all}

few : (b : Bool) → one_if b ≤ 1
few true = omega arith
few false = omega arith

pub same_is_one : (k : ℕ) → is_same k k ≡ 1
same_is_one zero = refl
same_is_one (suc k) = same_is_one k

-- ---- one mark is set or cleared

set_marks : (marks : List Bool) (at : ℕ) → at < length marks → mark_at marks at ≡ false → (k : ℕ) →
    one_if (mark_at (slice_set marks at true) k) ≡ one_if (mark_at marks k) + is_same at k
set_marks [] at l e k = absurd (omega (arith, l))
set_marks (b ∷ bs) zero l e zero = omega (arith, ap one_if e)
set_marks (b ∷ bs) zero l e (suc k) =
    let none : is_same zero (suc k) ≡ 0 = refl in
    let same : mark_at (slice_set (b ∷ bs) zero true) (suc k) ≡ mark_at (b ∷ bs) (suc k) = refl in
    omega (arith, none, ap one_if same)
set_marks (b ∷ bs) (suc at) l e zero =
    let none : is_same (suc at) zero ≡ 0 = refl in
    let same : mark_at (slice_set (b ∷ bs) (suc at) true) zero ≡ mark_at (b ∷ bs) zero = refl in
    omega (arith, none, ap one_if same)
set_marks (b ∷ bs) (suc at) l e (suc k) = set_marks bs at (omega (arith, l)) e k

clear_marks : (marks : List Bool) (at k : ℕ) → is_same at k ≤ one_if (mark_at marks k) →
    one_if (mark_at (slice_set marks at false) k) + is_same at k ≡ one_if (mark_at marks k)
clear_marks [] at k h =
    let free : one_if (mark_at [] k) ≡ 0 = refl in
    let same : mark_at (slice_set [] at false) k ≡ mark_at [] k = refl in
    omega (arith, h, free, ap one_if same)
clear_marks (b ∷ bs) zero zero h = omega (arith, h, few b)
clear_marks (b ∷ bs) zero (suc k) h =
    let none : is_same zero (suc k) ≡ 0 = refl in
    let same : mark_at (slice_set (b ∷ bs) zero false) (suc k) ≡ mark_at (b ∷ bs) (suc k) = refl in
    omega (arith, none, ap one_if same)
clear_marks (b ∷ bs) (suc at) zero h =
    let none : is_same (suc at) zero ≡ 0 = refl in
    let same : mark_at (slice_set (b ∷ bs) (suc at) false) zero ≡ mark_at (b ∷ bs) zero = refl in
    omega (arith, none, ap one_if same)
clear_marks (b ∷ bs) (suc at) (suc k) h = clear_marks bs at k h

-- ---- a place joins a list, or leaves it

-- the new list has one place more, which is marked then
pub joins : (old new : List ℕ) (marks : List Bool) (at : ℕ) →
    ((k : ℕ) → occurrences_of k new ≡ occurrences_of k old + is_same at k) → AreMarked marks old →
    at < length marks → mark_at marks at ≡ false → AreMarked (slice_set marks at true) new
joins old new marks at more h l e k = omega (arith, more k, h k, set_marks marks at l e k)

-- the old list had one place more, whose mark is cleared
pub leaves : (old new : List ℕ) (marks : List Bool) (at : ℕ) →
    ((k : ℕ) → occurrences_of k old ≡ occurrences_of k new + is_same at k) → AreMarked marks old →
    AreMarked (slice_set marks at false) new
leaves old new marks at more h k = omega (arith, more k, h k, clear_marks marks at k (omega (arith, more k, h k)))

-- ---- how many

abbrev count : List Bool → ℕ
count [] = 0
count (b ∷ bs) = one_if b + count bs

none_count : (marks : List Bool) → ((k : ℕ) → 0 ≡ one_if (mark_at marks k)) → count marks ≡ 0
none_count [] h = refl
none_count (b ∷ bs) h =
    let first : 0 ≡ one_if b = h zero in
    omega (arith, first, none_count bs (λ (k : ℕ). h (suc k)))

cleared_count : (marks : List Bool) (at : ℕ) → 1 ≤ one_if (mark_at marks at) →
    count (slice_set marks at false) + 1 ≡ count marks
cleared_count [] at h =
    let free : one_if (mark_at [] at) ≡ 0 = refl in
    absurd (omega (arith, h, free))
cleared_count (b ∷ bs) zero h =
    let one : 1 ≤ one_if b = h in
    omega (arith, one, few b)
cleared_count (b ∷ bs) (suc at) h = omega (arith, cleared_count bs at h)

count_most : (marks : List Bool) → count marks ≤ length marks
count_most [] = omega arith
count_most (b ∷ bs) = omega (arith, few b, count_most bs)

count_below : (marks : List Bool) (at : ℕ) → at < length marks → mark_at marks at ≡ false → count marks < length marks
count_below [] at l e = absurd (omega (arith, l))
count_below (b ∷ bs) zero l e = omega (arith, ap one_if e, count_most bs)
count_below (b ∷ bs) (suc at) l e = omega (arith, few b, count_below bs at (omega (arith, l)) e)

length_is_count : (places : List ℕ) (marks : List Bool) → AreMarked marks places → length places ≡ count marks
length_is_count [] marks h = sym (none_count marks h)
length_is_count (x ∷ xs) marks h =
    let cleared : AreMarked (slice_set marks x false) xs = leaves (x ∷ xs) xs marks x (λ (k : ℕ). omega arith) h in
    let marked : 1 ≤ one_if (mark_at marks x) = omega (arith, h x, same_is_one x) in
    omega (arith, length_is_count xs (slice_set marks x false) cleared, cleared_count marks x marked)

-- ---- both lists

length_both : (one other : List ℕ) → length (one ++ other) ≡ length one + length other
length_both [] other = omega arith
length_both (x ∷ one) other = omega (arith, length_both one other)

pub occurrences_both : (k : ℕ) (one other : List ℕ) →
    occurrences_of k (one ++ other) ≡ occurrences_of k one + occurrences_of k other
occurrences_both k [] other = omega arith
occurrences_both k (x ∷ one) other = omega (arith, occurrences_both k one other)

-- a place that is not marked has room in both
pub room : (fresh moving : List ℕ) (marks : List Bool) (at : ℕ) → AreMarked marks (fresh ++ moving) → at < length marks →
    mark_at marks at ≡ false → length fresh + length moving < length marks
room fresh moving marks at h l e =
    omega (arith, length_both fresh moving, length_is_count (fresh ++ moving) marks h, count_below marks at l e)

pub more_fresh : (fresh moving : List ℕ) (at k : ℕ) →
    occurrences_of k ((fresh ++ at ∷ []) ++ moving) ≡ occurrences_of k (fresh ++ moving) + is_same at k
more_fresh fresh moving at k =
    let one : occurrences_of k (at ∷ []) ≡ is_same at k + 0 = refl in
    omega (
      arith,
      occurrences_both k (fresh ++ at ∷ []) moving,
      occurrences_both k fresh (at ∷ []),
      occurrences_both k fresh moving,
      one,
    )

pub more_moving : (fresh moving : List ℕ) (at k : ℕ) →
    occurrences_of k (fresh ++ (moving ++ at ∷ [])) ≡ occurrences_of k (fresh ++ moving) + is_same at k
more_moving fresh moving at k =
    let one : occurrences_of k (at ∷ []) ≡ is_same at k + 0 = refl in
    omega (
      arith,
      occurrences_both k fresh (moving ++ at ∷ []),
      occurrences_both k moving (at ∷ []),
      occurrences_both k fresh moving,
      one,
    )

pub less_moving : (fresh moving : List ℕ) (at k : ℕ) →
    occurrences_of k (fresh ++ at ∷ moving) ≡ occurrences_of k (fresh ++ moving) + is_same at k
less_moving fresh moving at k =
    let own : occurrences_of k (at ∷ moving) ≡ is_same at k + occurrences_of k moving = refl in
    omega (arith, own, occurrences_both k fresh (at ∷ moving), occurrences_both k fresh moving)

-- ---- marks that were read

-- a mark that was read as false
pub read_false : (marks : List Bool) (at : ℕ) (x : Bool) → x ≡ get_or marks at x → x ≡ false → mark_at marks at ≡ false
read_false marks at x h e = sym (subst (λ (y : Bool). y ≡ get_or marks at y) e h)

pub length_set : (marks : List Bool) (at : ℕ) (b : Bool) → length (slice_set marks at b) ≡ length marks
length_set [] at b = refl
length_set (x ∷ marks) zero b = refl
length_set (x ∷ marks) (suc at) b = omega (arith, length_set marks at b)

-- a place with a mark is one
pub is_there : (marks : List Bool) (at : ℕ) → 1 ≤ one_if (mark_at marks at) → at < length marks
is_there [] at h =
    let free : one_if (mark_at [] at) ≡ 0 = refl in
    absurd (omega (arith, h, free))
is_there (b ∷ bs) zero h = omega arith
is_there (b ∷ bs) (suc at) h = omega (arith, is_there bs at h)

-- ---- several places

-- two lists of places, one after the other
pub woken_both : (one other : List ℕ) (queue : ReadyView) →
    woken_all (one ++ other) queue ≡ woken_all other (woken_all one queue)
woken_both [] other queue = refl
woken_both (place ∷ one) other queue = woken_both one other (woken queue place)
