-- Places of a slab: one that changes, and the next free one.
use Rattle.std.proofs.Common.{◌≡◌, ◌≢◌, ℕ, zero, suc, ◌+◌, ◌≤◌, ◌<◌, Bool, true, false, List, [], ◌∷◌, ◌++◌, length, map, set, get_or, Some, inl, inr, ⊎_elim, refl, sym, ap, ◌∙◌, subst, arith, add-one, length-set}
use Rattle.std.specs.Prelude.{◌&&◌, Option, None, slice_get, option_map}
use Rattle.std.specs.List.{list_all}
use Rattle.std.proofs.lemmas.Bool.Decides.{eqb_tells}
use Rattle.std.proofs.lemmas.List.{map-set, length-map}
use Rattle.std.proofs.lemmas.Option.{slice_get-map, slice_get_within, slice_get_read}
use Rattle.daide_protocol.specs.Machine.{Limits}
use Rattle.daide_driver.specs.declared.place.SlabPlace.{SlabPlace}
use Rattle.daide_driver.specs.declared.place.SlabPlace.TheVariants.{Free, Kept, Held}
use Rattle.daide_driver.specs.Slab.{SlabView, SlotView, is_free_place, is_kept, is_held, is_so, is_at, held_as, all_free, IsNoneFree, IsNextFree, IsAt, with_place}

-- ---- lists

set_other : {X : Type 0} (xs : List X) (i j : ℕ) (x : X) → i ≢ j → slice_get (set xs i x) j ≡ slice_get xs j
set_other [] i j x e = refl
set_other (y ∷ ys) zero zero x e = absurd (e refl)
set_other (y ∷ ys) zero (suc j) x e = refl
set_other (y ∷ ys) (suc i) zero x e = refl
set_other (y ∷ ys) (suc i) (suc j) x e = set_other ys i j x (λ h. e (ap (λ (n : ℕ). suc n) h))

set_own : {X : Type 0} (xs : List X) (i : ℕ) (x : X) → i < length xs → slice_get (set xs i x) i ≡ Some x
set_own [] i x l = absurd (omega (arith, l))
set_own (y ∷ ys) zero x l = refl
set_own (y ∷ ys) (suc i) x l = set_own ys i x (omega (arith, l))

-- ---- the next free place

module _ {T : Type 0} where
  -- a place that is not free becomes another that is not
  pub next_kept : (places : List (SlabPlace T)) (at next : ℕ) (old new : SlabPlace T) → slice_get places at ≡ Some old → old ≢ Free →
      new ≢ Free → IsNextFree places next → IsNextFree (set places at new) next
  next_kept places at next old new found was stays (inl free) =
      let other : at ≢ next = λ same. was (let here : slice_get places at ≡ Some Free =
      subst (λ (k : ℕ). slice_get places k ≡ Some Free) (sym same) free in cc) in
      inl (set_other places at next new other ∙ free)
  next_kept places at next old new found was stays (inr full) =
      inr (
        omega (arith, full.0, length-set places at new),
        λ k h. ⊎_elim (λ yes. own k yes.1 h)
            (λ other. full.1 k (sym (set_other places at k new other.1) ∙ h)) (eqb_tells at k),
      )
    where
      own : (k : ℕ) → at ≡ k → slice_get (set places at new) k ≡ Some Free → ⊥
      own k same h =
          let here : slice_get (set places at new) k ≡ Some new =
          subst (λ (n : ℕ). slice_get (set places at new) n ≡ Some new) same
          (set_own places at new (slice_get_within places at old found)) in
          stays (cc)

  -- a place that becomes free
  pub next_freed : (places : List (SlabPlace T)) (at : ℕ) → at < length places → IsNextFree (set places at Free) at
  next_freed places at within = inl (set_own places at Free within)

  -- a place that has something
  session_in : (place : Option (SlabPlace T)) → is_so is_held place ≡ true → (held : T) × (place ≡ Some (Held held))
  session_in None e = absurd (cc)
  session_in (Some Free) e = absurd (cc)
  session_in (Some Kept) e = absurd (cc)
  session_in (Some (Held held)) e = (held, refl)

-- ---- the abstract places

-- the value of a slab with these items
abbrev viewed : {X P : Type 0} → (X → SlotView P) → Limits → List (SlabPlace X) → SlabView P
viewed f limits items = record { limits = limits; places = map (held_as f) items }

module _ {X P : Type 0} (f : X → SlotView P) (limits : Limits) (items : List (SlabPlace X)) (now : SlabView P)
    (is : viewed f limits items ≡ now) where
  -- a place of the value is that of the items
  seen : (i : ℕ) → option_map (held_as f) (slice_get items i) ≡ slice_get now.places i
  seen i = sym (slice_get-map (held_as f) items i) ∙ ap (λ (s : SlabView P). slice_get s.places i) is

  -- the item at a place that is free or kept
  free_item : (x : Option (SlabPlace X)) → option_map (held_as f) x ≡ Some Free → x ≡ Some Free
  free_item None e = absurd (cc)
  free_item (Some Free) e = refl
  free_item (Some Kept) e = absurd (cc)
  free_item (Some (Held item)) e = absurd (cc)

  kept_item : (x : Option (SlabPlace X)) → option_map (held_as f) x ≡ Some Kept → x ≡ Some Kept
  kept_item None e = absurd (cc)
  kept_item (Some Free) e = absurd (cc)
  kept_item (Some Kept) e = refl
  kept_item (Some (Held item)) e = absurd (cc)

  pub item_kept : (i : ℕ) → IsAt now i Kept → slice_get items i ≡ Some Kept
  item_kept i at = kept_item (slice_get items i) (seen i ∙ at)

  -- no place is free
  pub none_free : (next : ℕ) → length items ≤ next → IsNextFree items next → IsNoneFree now.places
  none_free next past (inl free) k h =
      let within : next < length items = slice_get_within items next Free free in
      absurd (omega (arith, past, within))
  none_free next past (inr full) k h = full.1 k (free_item (slice_get items k) (seen k ∙ h))

  -- a place of the value is one of the items
  pub place_in : (i : ℕ) (p : SlabPlace (SlotView P)) → IsAt now i p → i < length items
  place_in i p at =
      let inside : i < length now.places = slice_get_within now.places i p at in
      let same : length (map (held_as f) items) ≡ length now.places = ap (λ (s : SlabView P). length s.places) is in
      omega (arith, inside, same, length-map items (held_as f))

  -- the item at a place that has a session: it was read, and has this
  pub within : (i : ℕ) → is_at is_held now.places i ≡ true → i < length items
  within i e = let held = session_in (slice_get now.places i) e in place_in i (Held held.0) held.1

  pub item_read : (i : ℕ) (x : SlabPlace X) → is_at is_held now.places i ≡ true → x ≡ get_or items i x → slice_get items i ≡ Some x
  item_read i x e read = slice_get_read items (length items) i x refl (within i e) read

  pub item_held : (i : ℕ) (x : SlabPlace X) (slot : X) → is_at is_held now.places i ≡ true → x ≡ get_or items i x → x ≡ Held slot →
      slice_get items i ≡ Some (Held slot)
  item_held i x slot e read same = item_read i x e read ∙ ap (λ (p : SlabPlace X). Some p) same

  -- what is at such a place
  pub held_at : (i : ℕ) (x : SlabPlace X) (slot : X) → is_at is_held now.places i ≡ true → x ≡ get_or items i x → x ≡ Held slot →
      IsAt now i (Held (f slot))
  held_at i x slot e read same = sym (seen i) ∙ ap (option_map (held_as f)) (item_held i x slot e read same)

  pub same_held : (i : ℕ) (x : SlabPlace X) (slot : X) → is_at is_held now.places i ≡ true → x ≡ get_or items i x → x ≡ Held slot →
      (held : SlotView P) → IsAt now i (Held held) → f slot ≡ held
  same_held i x slot e read same held at =
      let own : IsAt now i (Held (f slot)) = held_at i x slot e read same in cc

  -- it is a session
  pub is_there : (i : ℕ) (x : SlabPlace X) → is_at is_held now.places i ≡ true → x ≡ get_or items i x → (slot : X) × (x ≡ Held slot)
  is_there i x e read = of x (ap (option_map (held_as f)) (sym (item_read i x e read)) ∙ seen i)
    where
      of : (y : SlabPlace X) → Some (held_as f y) ≡ slice_get now.places i → (slot : X) × (y ≡ Held slot)
      of Free own = absurd (let h : false ≡ true = ap (is_so is_held) own ∙ e in cc)
      of Kept own = absurd (let h : false ≡ true = ap (is_so is_held) own ∙ e in cc)
      of (Held slot) own = (slot, refl)

  -- one place changed
  pub place_set : (i : ℕ) (x : SlabPlace X) → viewed f limits (set items i x) ≡ with_place now i (held_as f x)
  place_set i x =
      subst (λ (s : SlabView P). viewed f limits (set items i x) ≡ with_place s i (held_as f x)) is
      (ap (λ (ps : List (SlabPlace (SlotView P))). record { limits = limits; places = ps }) (map-set (held_as f) items i x))

  -- whether this is so of a place, and of each place
  tested : (one : SlabPlace (SlotView P) → Bool) (other : SlabPlace X → Bool) →
      ((x : SlabPlace X) → one (held_as f x) ≡ other x) → (i : ℕ) (x : Option (SlabPlace X)) → slice_get items i ≡ x →
      is_so other x ≡ is_at one now.places i
  tested one other same i x at =
      sym (of x) ∙ ap (λ (y : Option (SlabPlace X)). is_so one (option_map (held_as f) y)) (sym at) ∙ ap (is_so one) (seen i)
    where
      of : (y : Option (SlabPlace X)) → is_so one (option_map (held_as f) y) ≡ is_so other y
      of None = refl
      of (Some y) = same y

  pub kept_seen : (i : ℕ) (x : Option (SlabPlace X)) → slice_get items i ≡ x → is_so is_kept x ≡ is_at is_kept now.places i
  kept_seen = tested is_kept is_kept same
    where
      same : (x : SlabPlace X) → is_kept (held_as f x) ≡ is_kept x
      same Free = refl
      same Kept = refl
      same (Held item) = refl

  pub held_seen : (i : ℕ) (x : Option (SlabPlace X)) → slice_get items i ≡ x → is_so is_held x ≡ is_at is_held now.places i
  held_seen = tested is_held is_held same
    where
      same : (x : SlabPlace X) → is_held (held_as f x) ≡ is_held x
      same Free = refl
      same Kept = refl
      same (Held held) = refl

  pub all_seen : list_all is_free_place items ≡ list_all is_free_place now.places
  all_seen = sym (same items) ∙ ap (λ (s : SlabView P). list_all is_free_place s.places) is
    where
      free : (x : SlabPlace X) → is_free_place (held_as f x) ≡ is_free_place x
      free Free = refl
      free Kept = refl
      free (Held item) = refl

      same : (xs : List (SlabPlace X)) → list_all is_free_place (map (held_as f) xs) ≡ list_all is_free_place xs
      same [] = refl
      same (x ∷ xs) =
          ap (λ (b : Bool). b && list_all is_free_place (map (held_as f) xs)) (free x)
          ∙ ap (λ (b : Bool). is_free_place x && b) (same xs)

-- ---- a new slab

pub all_free_length : (T : Type 0) (n : ℕ) → length (all_free {T = T} n) ≡ n
all_free_length T zero = refl
all_free_length T (suc n) = ap (λ (k : ℕ). suc k) (all_free_length T n)

pub all_free_more : {T : Type 0} (n : ℕ) → all_free {T = T} n ++ Free ∷ [] ≡ all_free (n + 1)
all_free_more {T = T} n = rw add-one (more n)
  where
    more : (k : ℕ) → all_free {T = T} k ++ Free ∷ [] ≡ all_free (suc k)
    more zero = refl
    more (suc k) = ap (λ (ps : List (SlabPlace T)). Free ∷ ps) (more k)

pub all_free_next : {T : Type 0} (n : ℕ) → IsNextFree (all_free {T = T} n) 0
all_free_next zero = inr (omega arith, λ k h. absurd (cc))
all_free_next (suc n) = inl refl

-- the value of a new slab
pub opening : {X P : Type 0} (f : X → SlotView P) (limits : Limits) (items : List (SlabPlace X)) (n max : ℕ) →
    items ≡ all_free n → n ≡ max → viewed f limits items ≡ record { limits = limits; places = all_free max }
opening {P = P} f limits items n max e same =
    ap (λ (ps : List (SlabPlace (SlotView P))). record { limits = limits; places = ps })
    (ap (map (held_as f)) e ∙ seen_free n ∙ ap (λ (k : ℕ). all_free k) same)
  where
    seen_free : (k : ℕ) → map (held_as f) (all_free k) ≡ all_free k
    seen_free zero = refl
    seen_free (suc k) = ap (λ (ps : List (SlabPlace (SlotView P))). Free ∷ ps) (seen_free k)
