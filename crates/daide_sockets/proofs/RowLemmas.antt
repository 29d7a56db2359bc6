-- The rows of closing sockets: how calls change them, and that there is one for each.
use Rattle.std.proofs.Common.{◌≡◌, ◌≢◌, ℕ, zero, suc, ◌+◌, ◌<◌, ◌≤◌, Bool, true, false, List, [], ◌∷◌, ◌++◌, length, get_or}
use Rattle.std.proofs.Common.{refl, ap, sym, ◌∙◌, subst, arith, inl, inr}
use Rattle.std.proofs.lemmas.Bool.{ltb-true, ltb-false}
use Rattle.std.proofs.lemmas.Option.{get_or_from_slice_get, slice_get_read}
use Rattle.std.specs.Prelude.{◌⊎◌, nat_lt, remove, slice_get, slice_set, Option, Some}
use Rattle.std.specs.declared.time.Duration.{Duration}
use Rattle.daide_io.specs.Network.{NetworkCall}
use Rattle.daide_io.specs.declared.network.SocketEvent.{SocketEvent}
use Rattle.daide_io.specs.ReadyQueue.{is_same, occurrences_of, one_if}
use Rattle.daide_io.proofs.ReadyLemmas.{same_is_one}
use Rattle.daide_sockets.specs.declared.table.Row.{Row}
use Rattle.daide_sockets.specs.Lingering.{ClosingStream}
use Rattle.daide_sockets.specs.Rows.{AreRowsOf, KeepsClosingRows, closing_keys, taken_at}
use Rattle.daide_sockets.specs.Table.{PollsOnce, with_event, with_events}
use Rattle.daide_sockets.specs.Table.{Table, IsFull, TakesRow, changed, first_closing, free_row, freed, no_report, row_at, taken_row, without_report}
use Rattle.daide_sockets.proofs.TableLemmas.{row_elsewhere}

-- whether the row with a key is taken
abbrev bit : List Row → ℕ → Bool
bit rows key = (row_at rows key).is_taken

few : (b : Bool) → one_if b ≤ 1
few true = omega arith
few false = omega arith

-- ---- one row is set

length_set : (rows : List Row) (at : ℕ) (row : Row) → length (slice_set rows at row) ≡ length rows
length_set [] at row = refl
length_set (one ∷ rows) zero row = refl
length_set (one ∷ rows) (suc at) row = omega (arith, length_set rows at row)

-- the row gets another report
same_bits : (rows : List Row) (at : ℕ) (row : Row) (key : ℕ) → row.is_taken ≡ bit rows at →
    bit (changed rows at row) key ≡ bit rows key
same_bits [] zero row key e = refl
same_bits [] (suc at) row key e = refl
same_bits (one ∷ rows) zero row zero e = e
same_bits (one ∷ rows) zero row (suc key) e = refl
same_bits (one ∷ rows) (suc at) row zero e = refl
same_bits (one ∷ rows) (suc at) row (suc key) e = same_bits rows at row key e

-- the row is freed, if it was taken
free_bits : (rows : List Row) (at key : ℕ) → is_same at key ≤ one_if (bit rows key) →
    one_if (bit (changed rows at free_row) key) + is_same at key ≡ one_if (bit rows key)
free_bits [] at key h =
    let free : one_if (bit [] key) ≡ 0 = refl in
    let same : bit (changed [] at free_row) key ≡ bit [] key = refl in
    omega (arith, h, free, ap one_if same)
free_bits (one ∷ rows) zero zero h =
    let free : one_if (bit (changed (one ∷ rows) zero free_row) zero) ≡ 0 = refl in
    let own : is_same zero zero ≡ 1 = refl in
    omega (arith, h, free, own, few one.is_taken)
free_bits (one ∷ rows) zero (suc key) h =
    let none : is_same zero (suc key) ≡ 0 = refl in
    let same : bit (changed (one ∷ rows) zero free_row) (suc key) ≡ bit (one ∷ rows) (suc key) = refl in
    omega (arith, none, ap one_if same)
free_bits (one ∷ rows) (suc at) zero h =
    let none : is_same (suc at) zero ≡ 0 = refl in
    let same : bit (changed (one ∷ rows) (suc at) free_row) zero ≡ bit (one ∷ rows) zero = refl in
    omega (arith, none, ap one_if same)
free_bits (one ∷ rows) (suc at) (suc key) h = free_bits rows at key h

-- a free row is taken
take_bits : (rows : List Row) (at key : ℕ) → at < length rows → bit rows at ≡ false →
    one_if (bit (changed rows at taken_row) key) ≡ one_if (bit rows key) + is_same at key
take_bits [] at key lt free = absurd (omega (arith, lt))
take_bits (one ∷ rows) zero zero lt free =
    let taken : one_if (bit (changed (one ∷ rows) zero taken_row) zero) ≡ 1 = refl in
    let own : is_same zero zero ≡ 1 = refl in
    omega (arith, taken, own, ap one_if free)
take_bits (one ∷ rows) zero (suc key) lt free =
    let none : is_same zero (suc key) ≡ 0 = refl in
    let same : bit (changed (one ∷ rows) zero taken_row) (suc key) ≡ bit (one ∷ rows) (suc key) = refl in
    omega (arith, none, ap one_if same)
take_bits (one ∷ rows) (suc at) zero lt free =
    let none : is_same (suc at) zero ≡ 0 = refl in
    let same : bit (changed (one ∷ rows) (suc at) taken_row) zero ≡ bit (one ∷ rows) zero = refl in
    omega (arith, none, ap one_if same)
take_bits (one ∷ rows) (suc at) (suc key) lt free = take_bits rows at key (omega (arith, lt)) free

-- ---- two calls, and one that changes no row

pub keeps_both : (old mid new : Table) (one two three : List ℕ) → KeepsClosingRows old one mid two →
    KeepsClosingRows mid two new three → KeepsClosingRows old one new three
keeps_both old mid new one two three h k = record {
  count = k.count ∙ h.count;
  same = k.same ∙ ap (λ (t : Table). record t { rows = new.rows }) h.same;
  taken = λ held. k.taken (h.taken held);
  others = λ held key lt. k.others (h.taken held) key (omega (arith, lt, first)) ∙ h.others held key lt;
}
  where
    first : first_closing mid ≡ first_closing old
    first = ap (λ (t : Table). first_closing t) h.same

pub keeps_none : (table : Table) (keys : List ℕ) → KeepsClosingRows table keys table keys
keeps_none table keys = record {
  count = refl;
  same = refl;
  taken = λ held. held;
  others = λ held key lt. refl;
}

-- ---- a call that changes one row

module _ (old new : Table) (given left : List ℕ) (at : ℕ) (row : Row) (is : new ≡ record old { rows = changed old.rows at row }) where
  changes_one : (AreRowsOf old given → first_closing old ≤ at) →
      ((key : ℕ) → AreRowsOf old given → one_if (bit (changed old.rows at row) key) ≡ occurrences_of key left) →
      ((key : ℕ) → AreRowsOf old given → key < first_closing old → occurrences_of key left ≡ 0) → KeepsClosingRows old given new left
  changes_one after taken beyond = record {
    count = count;
    same = is ∙ ap (λ (rows : List Row). record old { rows = rows }) (sym rows);
    taken = λ held. record {
      taken = λ key. ap (λ (l : List Row). one_if (bit l key)) rows ∙ taken key held;
      beyond = λ key lt. beyond key held (omega (arith, lt, first));
      count = omega (arith, count, first, held.count);
    };
    others = λ held key lt.
        let behind = after held in
        let far : key ≢ at = λ same. absurd (omega (arith, behind, lt, same)) in
        ap (λ (l : List Row). row_at l key) rows ∙ row_elsewhere old.rows at key row far;
  }
    where
      rows : new.rows ≡ changed old.rows at row
      rows = ap (λ (t : Table). t.rows) is

      count : length new.rows ≡ length old.rows
      count = ap length rows ∙ length_set old.rows at row

      first : first_closing new ≡ first_closing old
      first = ap (λ (t : Table). first_closing t) is

-- a key that is held is that of a row of closing sockets
held_after : (table : Table) (keys : List ℕ) (at : ℕ) → AreRowsOf table keys → 0 < occurrences_of at keys → first_closing table ≤ at
held_after table keys at held some = by (nat_lt at (first_closing table)) refl
  where
    by : (before : Bool) → nat_lt at (first_closing table) ≡ before → first_closing table ≤ at
    by true e = let none = held.beyond at (ltb-true at (first_closing table) e) in absurd (omega (arith, none, some))
    by false e = let past = ltb-false at (first_closing table) e in omega (arith, past)

-- a closing socket takes the report of its row
stays_held : (old new : Table) (given left : List ℕ) (at : ℕ) → new ≡ without_report old at → 0 < occurrences_of at given →
    left ≡ given → KeepsClosingRows old given new left
stays_held old new given left at is some same =
    changes_one old new given left at (record (row_at old.rows at) { report = no_report }) is
    (λ held. held_after old given at held some)
    (λ key held. ap one_if (same_bits old.rows at (record (row_at old.rows at) { report = no_report }) key refl)
    ∙ held.taken key ∙ sym (ap (λ (l : List ℕ). occurrences_of key l) same))
    (λ key held lt. ap (λ (l : List ℕ). occurrences_of key l) same ∙ held.beyond key lt)

-- the row of a closing socket is freed
leaves_held : (old new : Table) (given left : List ℕ) (at : ℕ) → new ≡ freed old at →
    ((key : ℕ) → occurrences_of key given ≡ is_same at key + occurrences_of key left) → KeepsClosingRows old given new left
leaves_held old new given left at is one =
    changes_one old new given left at free_row is
    (λ held. held_after old given at held (omega (arith, one at, same_is_one at)))
    (λ key held.
    let free = free_bits old.rows at key (omega (arith, held.taken key, one key)) in
    omega (arith, free, held.taken key, one key))
    (λ key held lt. omega (arith, one key, held.beyond key lt))

-- a closing socket takes a free row
begins_held : (old new : Table) (given left : List ℕ) (at : ℕ) → TakesRow old at new →
    ((key : ℕ) → occurrences_of key left ≡ is_same at key + occurrences_of key given) → KeepsClosingRows old given new left
begins_held old new given left at takes one =
    changes_one old new given left at taken_row takes.1 (λ held. takes.0.first)
    (λ key held.
    let taken = take_bits old.rows at key takes.0.last takes.0.free in
    omega (arith, taken, held.taken key, one key))
    (λ key held lt.
    let far = before at key (omega (arith, takes.0.first, lt)) in
    omega (arith, one key, held.beyond key lt, far))
  where
    before : (at key : ℕ) → key < at → is_same at key ≡ 0
    before zero key lt = absurd (omega (arith, lt))
    before (suc at) zero lt = refl
    before (suc at) (suc key) lt = before at key (omega (arith, lt))

-- ---- there is a row for each

-- how often one of `n` keys, from `first` on, is among these
abbrev count_in : ℕ → ℕ → List ℕ → ℕ
count_in first zero keys = 0
count_in first (suc n) keys = occurrences_of first keys + count_in (suc first) n keys

same_few : (one other : ℕ) → is_same one other ≤ 1
same_few zero zero = omega arith
same_few zero (suc other) = omega arith
same_few (suc one) zero = omega arith
same_few (suc one) (suc other) = same_few one other

not_before : (one first : ℕ) → one < first → is_same one first ≡ 0
not_before one zero lt = absurd (omega (arith, lt))
not_before zero (suc first) lt = refl
not_before (suc one) (suc first) lt = not_before one first (omega (arith, lt))

same_key : (one first : ℕ) → 0 < is_same one first → one ≡ first
same_key zero zero some = refl
same_key zero (suc first) some = absurd (omega (arith, some))
same_key (suc one) zero some = absurd (omega (arith, some))
same_key (suc one) (suc first) some = ap (λ (n : ℕ). suc n) (same_key one first some)

none_before : (n first key : ℕ) → key < first → count_in first n (key ∷ []) ≡ 0
none_before zero first key lt = refl
none_before (suc n) first key lt =
    omega (arith, not_before key first lt, none_before n (suc first) key (omega (arith, lt)))

once : (n first key : ℕ) → count_in first n (key ∷ []) ≤ 1
once zero first key = omega arith
once (suc n) first key = by (nat_lt 0 (is_same key first)) refl (once n (suc first) key)
  where
    by : (here : Bool) → nat_lt 0 (is_same key first) ≡ here → count_in (suc first) n (key ∷ []) ≤ 1 →
        count_in first (suc n) (key ∷ []) ≤ 1
    by true e rest =
        let at = same_key key first (ltb-true 0 (is_same key first) e) in
        omega (arith, same_few key first, none_before n (suc first) key (omega (arith, at)))
    by false e rest = let none = ltb-false 0 (is_same key first) e in omega (arith, none, rest)

count_both : (n first key : ℕ) (keys : List ℕ) →
    count_in first n (key ∷ keys) ≡ count_in first n (key ∷ []) + count_in first n keys
count_both zero first key keys = refl
count_both (suc n) first key keys = omega (arith, count_both n (suc first) key keys)

none_in : (n first : ℕ) → count_in first n [] ≡ 0
none_in zero first = refl
none_in (suc n) first = omega (arith, none_in n (suc first))

count_most : (n first : ℕ) (keys : List ℕ) → count_in first n keys ≤ length keys
count_most n first [] = omega (arith, none_in n first)
count_most n first (key ∷ keys) = omega (arith, count_both n first key keys, once n first key, count_most n first keys)

count_all : (n first : ℕ) (keys : List ℕ) → ((key : ℕ) → first ≤ key → key < first + n → occurrences_of key keys ≡ 1) →
    count_in first n keys ≡ n
count_all zero first keys h = refl
count_all (suc n) first keys h =
    omega (
      arith,
      h first (omega arith) (omega arith),
      count_all n (suc first) keys (λ key le lt. h key (omega (arith, le)) (omega (arith, lt))),
    )

-- fewer streams than there are rows do not have each row
not_full : (table : Table) (keys : List ℕ) (count : ℕ) → count ≡ 256 → AreRowsOf table keys → length keys < count → IsFull table → ⊥
not_full table keys count e held fewer full =
    let all = count_all count (first_closing table) keys (λ key le lt. sym (held.taken key) ∙ own key le lt (bit table.rows key) refl) in
    let most = count_most count (first_closing table) keys in
    absurd (omega (arith, all, most, fewer))
  where
    own : (key : ℕ) → first_closing table ≤ key → key < first_closing table + count → (taken : Bool) →
        bit table.rows key ≡ taken → one_if (bit table.rows key) ≡ 1
    own key le lt true f = ap one_if f
    own key le lt false f = absurd (full key (record { first = le; last = omega (arith, lt, e, held.count); free = f }))

-- ---- closing streams

module _ {S : Type 0} where
  there_is : (streams : List (ClosingStream S)) (stream one : ClosingStream S) →
      slice_get (stream ∷ streams) zero ≡ Some one → stream ≡ one
  there_is streams stream one h = get_or_from_slice_get (stream ∷ streams) zero one one h

  -- one of them is advanced, and stays
  keys_set : (streams : List (ClosingStream S)) (at : ℕ) (one later : ClosingStream S) → slice_get streams at ≡ Some one →
      later.key ≡ one.key → closing_keys (slice_set streams at later) ≡ closing_keys streams
  keys_set [] zero one later there e = refl
  keys_set [] (suc at) one later there e = refl
  keys_set (stream ∷ streams) zero one later there e =
      ap (λ (k : ℕ). k ∷ closing_keys streams) (e ∙ ap (λ (s : ClosingStream S). s.key) (sym (there_is streams stream one there)))
  keys_set (stream ∷ streams) (suc at) one later there e =
      ap (λ (l : List ℕ). stream.key ∷ l) (keys_set streams at one later there e)

  -- one of them leaves
  keys_removed : (streams : List (ClosingStream S)) (at : ℕ) (one : ClosingStream S) (key : ℕ) →
      slice_get streams at ≡ Some one →
      occurrences_of key (closing_keys streams) ≡ is_same one.key key + occurrences_of key (closing_keys (remove streams at))
  keys_removed [] zero one key there = absurd (cc)
  keys_removed [] (suc at) one key there = absurd (cc)
  keys_removed (stream ∷ streams) zero one key there =
      ap (λ (s : ClosingStream S). is_same s.key key + occurrences_of key (closing_keys streams)) (there_is streams stream one there)
  keys_removed (stream ∷ streams) (suc at) one key there =
      omega (arith, keys_removed streams at one key there)

  -- one more closes, as the last
  keys_appended : (streams : List (ClosingStream S)) (last : ClosingStream S) (key : ℕ) →
      occurrences_of key (closing_keys (streams ++ last ∷ [])) ≡ is_same last.key key + occurrences_of key (closing_keys streams)
  keys_appended [] last key = omega arith
  keys_appended (stream ∷ streams) last key = omega (arith, keys_appended streams last key)

  length_keys : (streams : List (ClosingStream S)) → length (closing_keys streams) ≡ length streams
  length_keys [] = refl
  length_keys (stream ∷ streams) = omega (arith, length_keys streams)

  some_held : (streams : List (ClosingStream S)) (at : ℕ) (one : ClosingStream S) → slice_get streams at ≡ Some one →
      0 < occurrences_of one.key (closing_keys streams)
  some_held streams at one there = omega (arith, keys_removed streams at one one.key there, same_is_one one.key)

  pub one_stays : (old new : Table) (items was : List (ClosingStream S)) (at : ℕ) (one later : ClosingStream S) → items ≡ was →
      at < length items → one ≡ get_or items at one → later.key ≡ one.key → new ≡ without_report old one.key →
      KeepsClosingRows old (closing_keys was) new (closing_keys (slice_set items at later))
  one_stays old new items was at one later view lt value e is =
      subst (λ (l : List (ClosingStream S)). KeepsClosingRows old (closing_keys l) new (closing_keys (slice_set items at later))) view
      (stays_held old new (closing_keys items) (closing_keys (slice_set items at later)) one.key is (some_held items at one there)
      (keys_set items at one later there e))
    where
      there : slice_get items at ≡ Some one
      there = slice_get_read items (length items) at one refl lt value

  pub one_leaves : (old new : Table) (items was left : List (ClosingStream S)) (at : ℕ) (one : ClosingStream S) → items ≡ was →
      at < length items → one ≡ get_or items at one → left ≡ remove items at → new ≡ freed old one.key →
      KeepsClosingRows old (closing_keys was) new (closing_keys left)
  one_leaves old new items was left at one view lt value gone is =
      subst (λ (l : List (ClosingStream S)). KeepsClosingRows old (closing_keys l) new (closing_keys left)) view
      (subst (λ (l : List (ClosingStream S)). KeepsClosingRows old (closing_keys items) new (closing_keys l)) (sym gone)
      (leaves_held old new (closing_keys items) (closing_keys (remove items at)) one.key is
      (λ key. keys_removed items at one key (slice_get_read items (length items) at one refl lt value))))

  -- one more begins to close: it takes a row, since they are not full
  pub one_begins : (old new : Table) (streams : List (ClosingStream S)) (last : ClosingStream S) (at count : ℕ) → last.key ≡ at →
      count ≡ 256 → length streams < count → TakesRow old at new ⊎ (IsFull old × (new ≡ old)) →
      KeepsClosingRows old (closing_keys streams) new (closing_keys (streams ++ last ∷ []))
  one_begins old new streams last at count e most fewer (inl takes) =
      begins_held old new (closing_keys streams) (closing_keys (streams ++ last ∷ [])) at takes
      (λ key. keys_appended streams last key ∙ ap (λ (n : ℕ). is_same n key + occurrences_of key (closing_keys streams)) e)
  one_begins old new streams last at count e most fewer (inr full) = record {
    count = ap (λ (t : Table). length t.rows) full.1;
    same = full.1 ∙ ap (λ (t : Table). record old { rows = t.rows }) (sym full.1);
    taken = λ held. absurd (not_full old (closing_keys streams) count most held (omega (arith, length_keys streams, fewer)) full.0);
    others = λ held key lt. ap (λ (t : Table). row_at t.rows key) full.1;
  }

  -- one leaves, of which the report was taken first
  pub one_gone : (old new : Table) (items was left : List (ClosingStream S)) (at : ℕ) (one : ClosingStream S) → items ≡ was →
      at < length items → one ≡ get_or items at one → left ≡ remove items at →
      new ≡ freed (without_report old one.key) one.key → KeepsClosingRows old (closing_keys was) new (closing_keys left)
  one_gone old new items was left at one view lt value gone is =
      keeps_both old (without_report old one.key) new (closing_keys was) (closing_keys was) (closing_keys left)
      (stays_held old (without_report old one.key) (closing_keys was) (closing_keys was) one.key refl
      (subst (λ (l : List (ClosingStream S)). 0 < occurrences_of one.key (closing_keys l)) view (some_held items at one there)) refl)
      (one_leaves (without_report old one.key) new items was left at one view lt value gone is)
    where
      there : slice_get items at ≡ Some one
      there = slice_get_read items (length items) at one refl lt value

-- ---- a poll

length_with : (rows : List Row) (events : List SocketEvent) → length (with_events rows events) ≡ length rows
length_with rows [] = refl
length_with rows (event ∷ events) = length_with (with_event rows event) events ∙ length_set rows event.key _

events_bits : (rows : List Row) (events : List SocketEvent) (key : ℕ) → bit (with_events rows events) key ≡ bit rows key
events_bits rows [] key = refl
events_bits rows (event ∷ events) key = events_bits (with_event rows event) events key ∙ same_bits rows event.key _ key refl

-- rows of which others were taken before and after
pub held_alike : (old new : Table) (keys : List ℕ) → ((key : ℕ) → taken_at new key ≡ taken_at old key) →
    length new.rows ≡ length old.rows → length new.deadlines ≡ length old.deadlines → AreRowsOf old keys → AreRowsOf new keys
held_alike old new keys same rows places held = record {
  taken = λ key. same key ∙ held.taken key;
  beyond = λ key lt. held.beyond key (omega (arith, lt, places));
  count = omega (arith, rows, places, held.count);
}

-- a poll keeps who holds the rows
pub polls_hold : {N C : Type 0} (transition : N → NetworkCall C → N → Type 0) (time : Option Duration) (old : N) (before : Table)
    (new : N) (after : Table) (keys : List ℕ) → PollsOnce transition time old before new after → AreRowsOf before keys →
    AreRowsOf after keys
polls_hold transition time old before new after keys h =
    held_alike before after keys
    (λ key. ap (λ (t : Table). taken_at t key) h.table ∙ ap one_if (events_bits before.rows h.socket_events key))
    (ap (λ (t : Table). length t.rows) h.table ∙ length_with before.rows h.socket_events)
    (ap (λ (t : Table). length t.deadlines) h.table)
