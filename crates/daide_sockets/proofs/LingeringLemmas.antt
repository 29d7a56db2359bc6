-- Looks along a list of streams that close, one after another.
use Rattle.std.proofs.Common.{◌≡◌, ◌⊎◌, ℕ, suc, ◌+◌, ◌-◌, ◌<◌, ◌≤◌, List, [], ◌∷◌, ◌++◌, length, take, drop, refl, sym, ap, ◌∙◌}
use Rattle.std.proofs.Common.{Option, Some, None, Bool, true, false, zero, arith, inl, inr, append_assoc, append-nil, subst}
use Rattle.std.proofs.Common.{take-append-drop, get_or}
use Rattle.std.specs.Prelude.{◌||◌, not, min, nat_lt, if◌then◌else◌, slice_get, slice_set, remove}
use Rattle.std.proofs.lemmas.List.{length-append, length-take-le}
use Rattle.std.proofs.Math.Seq.{set-append_seam}
use Rattle.std.proofs.lemmas.Option.{slice_get_read}
use Rattle.std.specs.declared.time.Instant.{Instant}
use Rattle.daide_io.specs.declared.ports.Pull.{Pull}
use Rattle.daide_io.specs.declared.ports.Pull.TheVariants.{Got}
use Rattle.daide_buffered_io.specs.Buffers.{Passes, WritesNothing, IsBufferedPull, IsFlushed}
use Rattle.daide_buffered_io.specs.Calls.{is_last_piece}
use Rattle.daide_io.specs.Streams.{StreamCall}
use Rattle.daide_sockets.specs.Pairing.{with_room}
use Rattle.daide_sockets.specs.Clock.{StallsNext, has_stalled, is_time_over}
use Rattle.daide_sockets.specs.Lingering.{ClosingStream, ClosingList, Discards, Lingers, Leaves, IsLookedAt, LooksAtOne}
use Rattle.daide_sockets.specs.Lingering.{LooksAtEach, LooksAlong, IsWriting, IsWritingOver, ClosingsGoOn, GoOnFor, is_released}
use Rattle.daide_sockets.specs.Lingering.{LooksAround, IsReleasedNow, TriesLast, TriesWriting}

-- ---- lists

module _ {A : Type 0} where
  abbrev value_or : A → Option A → A
  value_or d None = d
  value_or d (Some x) = x

  -- what is read behind a front is the first of the rest
  there : (xs rest : List A) (one : A) → slice_get (xs ++ rest) (length xs) ≡ Some one →
      (back : List A) × (rest ≡ one ∷ back)
  there [] [] one e = absurd (cc)
  there [] (y ∷ ys) one e = (ys, ap (λ (x : A). x ∷ ys) (ap (value_or one) e))
  there (x ∷ xs) rest one e = there xs rest one e

  removed : (xs : List A) (y : A) (ys : List A) → remove (xs ++ y ∷ ys) (length xs) ≡ xs ++ ys
  removed [] y ys = refl
  removed (x ∷ xs) y ys = ap (λ (l : List A). x ∷ l) (removed xs y ys)

  -- the first of the rest goes over to what is before it
  shift : (a b : List A) (x : A) (c : List A) → a ++ b ++ x ∷ c ≡ a ++ (b ++ x ∷ []) ++ c
  shift a b x c = append_assoc a b (x ∷ c) ∙ ap (λ (l : List A). a ++ l) (sym (append_assoc b (x ∷ []) c))
      ∙ sym (append_assoc a (b ++ x ∷ []) c)

-- ---- looks

module _ {S : Type 0} (to_give taken : S → Option (List ℕ)) (calls : S → Option (List StreamCall)) (now : Option Instant)
  where
    abbrev Streams : Type 0
    Streams = List (ClosingStream S)

    abbrev Looked : Streams → Streams → Type 0
    Looked = LooksAtEach to_give taken calls now

    abbrev Along : ℕ → ℕ → Streams → ℕ → Streams → Type 0
    Along = LooksAlong to_give taken calls now

    -- one list behind another
    both : (xs ys us vs : Streams) → Looked xs ys → Looked us vs → Looked (xs ++ us) (ys ++ vs)
    both [] ys us vs h k = subst (λ (l : Streams). Looked us (l ++ vs)) (sym h) k
    both (x ∷ xs) ys us vs h k = (h.0 ++ vs, both xs h.0 us vs h.1 k, by h.2)
      where
        by : IsLookedAt to_give taken calls now x h.0 ys → IsLookedAt to_give taken calls now x (h.0 ++ vs) (ys ++ vs)
        by (inl a) = inl (a.0, ap (λ (l : Streams). l ++ vs) a.1, a.2)
        by (inr a) = inr (ap (λ (l : Streams). l ++ vs) a.0, a.1)

    lingered : (x y : ClosingStream S) → Lingers to_give taken calls now x y → Looked (x ∷ []) (y ∷ [])
    lingered x y h = ([], refl, inl (y, refl, h))

    gone : (x : ClosingStream S) → Leaves to_give taken calls now x → Looked (x ∷ []) []
    gone x h = ([], refl, inr (refl, h))

    -- ---- a loop over positions

    pub none_looked_at : (from : ℕ) (old : Streams) → from ≤ length old → Along from from old from old
    none_looked_at from old le = record {
      front = take from old;
      seen = [];
      moved = [];
      rest = drop from old;
      before = sym (take-append-drop from old) ∙ ap (λ (l : Streams). l ++ drop from old) (sym (append-nil (take from old)));
      after = sym (take-append-drop from old) ∙ ap (λ (l : Streams). l ++ drop from old) (sym (append-nil (take from old)));
      start = length-take-le from old le;
      len = omega (arith);
      looked = refl;
      end = omega (arith);
    }

    whole_len : (a b c l : Streams) → l ≡ a ++ b ++ c → length l ≡ length a + length b + length c
    whole_len a b c l e =
        let whole : length l ≡ length (a ++ b ++ c) = ap length e in
        let two = length-append (a ++ b) c in
        let one = length-append a b in
        omega (arith, whole, two, one)

    -- the next is there
    pub next_inside : (from to k at : ℕ) (old mid : Streams) → Along from k old at mid → k < to → to ≤ length old →
        at < length mid
    next_inside from to k at old mid h lt le =
        let a = whole_len h.front h.seen h.rest old h.before in
        let b = whole_len h.front h.moved h.rest mid h.after in
        let start = h.start in
        let len = h.len in
        let end = h.end in
        omega (arith, a, b, start, len, end, lt, le)

    -- what is before the next
    next_there : (from k at : ℕ) (old mid : Streams) (one : ClosingStream S) → (h : Along from k old at mid) →
        slice_get mid at ≡ Some one → (at ≡ length (h.front ++ h.moved)) × ((back : Streams) × (h.rest ≡ one ∷ back))
    next_there from k at old mid one h e =
        let here : at ≡ length (h.front ++ h.moved) =
        (let start = h.start in let end = h.end in let len = length-append h.front h.moved in
        omega (arith, start, end, len)) in (
          here,
          there (h.front ++ h.moved) h.rest one
              (subst (λ (n : ℕ). slice_get (h.front ++ h.moved ++ h.rest) n ≡ Some one) here
              (subst (λ (l : Streams). slice_get l at ≡ Some one) h.after e)),
        )

    -- it lingers on
    pub lingers_next : (from k at : ℕ) (old mid new : Streams) (one next : ClosingStream S) → Along from k old at mid →
        slice_get mid at ≡ Some one → new ≡ slice_set mid at next → Lingers to_give taken calls now one next →
        Along from (k + 1) old (at + 1) new
    lingers_next from k at old mid new one next h e f g =
        let there = next_there from k at old mid one h e in
        let back = there.1.0 in
        let rest = there.1.1 in
        let changed : new ≡ h.front ++ h.moved ++ next ∷ back =
        f ∙ ap (λ (l : Streams). slice_set l at next) (h.after ∙ ap (λ (l : Streams). h.front ++ h.moved ++ l) rest)
        ∙ ap (λ (n : ℕ). slice_set (h.front ++ h.moved ++ one ∷ back) n next) there.0
        ∙ set-append_seam (h.front ++ h.moved) one back next in
        let seen_len = length-append h.seen (one ∷ []) in
        let moved_len = length-append h.moved (next ∷ []) in
        let len = h.len in
        let end = h.end in
        record {
          front = h.front;
          seen = h.seen ++ one ∷ [];
          moved = h.moved ++ next ∷ [];
          rest = back;
          before = h.before ∙ ap (λ (l : Streams). h.front ++ h.seen ++ l) rest ∙ shift h.front h.seen one back;
          after = changed ∙ shift h.front h.moved next back;
          start = h.start;
          len = omega (arith, len, seen_len);
          looked = both h.seen h.moved (one ∷ []) (next ∷ []) h.looked (lingered one next g);
          end = omega (arith, end, moved_len);
        }

    -- it leaves
    pub leaves_next : (from k at : ℕ) (old mid new : Streams) (one : ClosingStream S) → Along from k old at mid →
        slice_get mid at ≡ Some one → new ≡ remove mid at → Leaves to_give taken calls now one →
        Along from (k + 1) old at new
    leaves_next from k at old mid new one h e f g =
        let there = next_there from k at old mid one h e in
        let back = there.1.0 in
        let rest = there.1.1 in
        let changed : new ≡ h.front ++ h.moved ++ back =
        f ∙ ap (λ (l : Streams). remove l at) (h.after ∙ ap (λ (l : Streams). h.front ++ h.moved ++ l) rest)
        ∙ ap (λ (n : ℕ). remove (h.front ++ h.moved ++ one ∷ back) n) there.0
        ∙ removed (h.front ++ h.moved) one back in
        let seen_len = length-append h.seen (one ∷ []) in
        let len = h.len in
        record {
          front = h.front;
          seen = h.seen ++ one ∷ [];
          moved = h.moved;
          rest = back;
          before = h.before ∙ ap (λ (l : Streams). h.front ++ h.seen ++ l) rest ∙ shift h.front h.seen one back;
          after = changed;
          start = h.start;
          len = omega (arith, len, seen_len);
          looked = subst (λ (l : Streams). Looked (h.seen ++ one ∷ []) l) (append-nil h.moved)
              (both h.seen h.moved (one ∷ []) [] h.looked (gone one g));
          end = h.end;
        }

    -- either
    pub next_looked : (from k at next : ℕ) (old mid new : Streams) → Along from k old at mid →
        LooksAtOne to_give taken calls now at mid next new → Along from (k + 1) old next new
    next_looked from k at next old mid new h look = by look.2
      where
        by : ((next ≡ at + 1) × ((later : ClosingStream S) × (new ≡ slice_set mid at later)
            × Lingers to_give taken calls now look.0 later))
            ⊎ ((next ≡ at) × (new ≡ remove mid at) × Leaves to_give taken calls now look.0) →
            Along from (k + 1) old next new
        by (inl a) = subst (λ (n : ℕ). Along from (k + 1) old n new) (sym a.0)
            (lingers_next from k at old mid new look.0 a.1.0 h look.1 a.1.1 a.1.2)
        by (inr a) = subst (λ (n : ℕ). Along from (k + 1) old n new) (sym a.0)
            (leaves_next from k at old mid new look.0 h look.1 a.1 a.2)

    -- ---- one look

    -- what was at a position lingers on
    pub lingers_here : (items old new : Streams) (at : ℕ) (one later : ClosingStream S) → items ≡ old → at < length items →
        one ≡ get_or items at one → new ≡ slice_set items at later → Lingers to_give taken calls now one later →
        LooksAtOne to_give taken calls now at old (at + 1) new
    lingers_here items old new at one later e lt read set h = (
      one,
      subst (λ (l : Streams). slice_get l at ≡ Some one) e (slice_get_read items (length items) at one refl lt read),
      inl (refl, (later, set ∙ ap (λ (l : Streams). slice_set l at later) e, h)),
    )

    pub remove_set : (xs : Streams) (i : ℕ) (y : ClosingStream S) → remove (slice_set xs i y) i ≡ remove xs i
    remove_set [] i y = refl
    remove_set (x ∷ xs) zero y = refl
    remove_set (x ∷ xs) (suc i) y = ap (λ (l : Streams). x ∷ l) (remove_set xs i y)

    -- it leaves
    pub leaves_here : (items old new : Streams) (at : ℕ) (one later : ClosingStream S) → items ≡ old → at < length items →
        one ≡ get_or items at one → new ≡ remove (slice_set items at later) at → Leaves to_give taken calls now one →
        LooksAtOne to_give taken calls now at old at new
    leaves_here items old new at one later e lt read gone h = (
      one,
      subst (λ (l : Streams). slice_get l at ≡ Some one) e (slice_get_read items (length items) at one refl lt read),
      inr (refl, gone ∙ remove_set items at later ∙ ap (λ (l : Streams). remove l at) e, h),
    )

    -- a stream whose last piece was dropped leaves
    pub last_leaves : (old new : ClosingStream S) (result : Bool) →
        ((pull : Pull) × Discards to_give taken calls pull old new × (result ≡ is_released now pull new)) →
        not result ≡ false → IsWritingOver old.stream → IsReleasedNow to_give taken calls now old
    last_leaves old new true h e over = (new, h.0, over, h.1, sym h.2)
    last_leaves old new false h e over = absurd (cc)

    -- a piece was dropped
    pub piece_dropped : (old new was : ClosingStream S) (bytes : List ℕ) (pull : Pull)
        (last late result : Bool) → was ≡ old → was.quota ≡ new.quota + length bytes →
        Passes to_give taken was.stream bytes [] new.stream → WritesNothing taken was.stream new.stream →
        new.stream.has_failed ≡ was.stream.has_failed → new.released_at ≡ was.released_at → new.closes_at ≡ was.closes_at →
        new.key ≡ was.key → IsBufferedPull calls (min was.quota 4096) was.known was.stream pull new.known new.stream →
        (0 < length was.stream.read_buffer →
        pull ≡ Got (min (length was.stream.read_buffer) (min was.quota 4096))) →
        last ≡ is_last_piece pull new.quota → late ≡ is_time_over now new.released_at → result ≡ (last || late) →
        (pull : Pull) × Discards to_give taken calls pull old new × (result ≡ is_released now pull new)
    piece_dropped old new was bytes pull last late result e quota passes unwritten failed stays bound key pulled ahead is_last
        is_late either =
        subst (λ (o : ClosingStream S). (p : Pull) × Discards to_give taken calls p o new
        × (result ≡ is_released now p new)) e (
          pull,
          record {
            bytes = bytes;
            passes = passes;
            unwritten = unwritten;
            failed = failed;
            quota = quota;
            key = key;
            pulled = pulled;
            ahead = ahead;
            released_at = stays;
            closes_at = bound;
          },
          either ∙ ap (λ (b : Bool). b || late) is_last ∙ ap (λ (b : Bool). is_last_piece pull new.quota || b) is_late,
        )

    -- ---- a try to write

    pub tried_writing : (old new was : ClosingStream S) → was ≡ old →
        (has_stalled was.stall_time now was.stalls_at ≡ true → TriesLast calls was.known was.stream new.known new.stream) →
        (has_stalled was.stall_time now was.stalls_at ≡ false → IsWriting was.stream →
        IsFlushed calls was.known was.stream new.known new.stream) →
        (has_stalled was.stall_time now was.stalls_at ≡ false → IsWritingOver was.stream →
        (new.stream ≡ was.stream) × (new.known ≡ was.known)) →
        (IsWriting new.stream → StallsNext was.stall_time now was.stalls_at
        (nat_lt (length new.stream.write_buffer) (length was.stream.write_buffer)) new.stalls_at) →
        new.stall_time ≡ was.stall_time → new.key ≡ was.key → TriesWriting calls now old new
    tried_writing old new was e last written nothing waits time key =
        subst (λ (o : ClosingStream S). TriesWriting calls now o new) e (record {
          last = last;
          written = written;
          nothing = nothing;
          waits = waits;
          stall_time = time;
          key = key;
        })

    -- ---- a list that grows

    -- one that is given room keeps its time
    pub room_time : (old : ClosingList S) → (with_room old).stall_time ≡ old.stall_time
    room_time old = by (nat_lt (length old.streams) 256)
      where
        by : (b : Bool) → (if b then old
            else record old { streams = remove old.streams 0; next = old.next - 1; pass_end = old.pass_end - 1 }).stall_time
            ≡ old.stall_time
        by true = refl
        by false = refl

    -- one stream more
    pub appended : (was room : ClosingList S) (last : ClosingStream S) (streams : Streams) → was ≡ room →
        streams ≡ was.streams ++ last ∷ [] →
        record was { streams = streams } ≡ record room { streams = room.streams ++ last ∷ [] }
    appended was room last streams e f =
        ap (λ (l : Streams). record was { streams = l }) f
        ∙ ap (λ (r : ClosingList S). record r { streams = r.streams ++ last ∷ [] }) e

    -- the positions of a round
    pub round_ends : (from to at pass_end : ℕ) (old new : Streams) → Along from to old at new → to ≤ pass_end →
        pass_end ≤ length old → ((length old - pass_end) ≤ length new)
        × ((length new - (length old - pass_end)) + length old ≡ pass_end + length new)
        × (at ≤ length new - (length old - pass_end))
    round_ends from to at pass_end old new h within there =
        let a = whole_len h.front h.seen h.rest old h.before in
        let b = whole_len h.front h.moved h.rest new h.after in
        let start = h.start in
        let len = h.len in
        let end = h.end in (
          omega (arith, a, b, start, len, end, within, there),
          omega (arith, a, b, start, len, end, within, there),
          omega (arith, a, b, start, len, end, within, there),
        )

    -- a round of a pass
    pub around : (pass was new : ClosingList S) → was ≡ pass →
        Along was.next (min was.pass_end (was.next + 8)) was.streams new.next new.streams →
        new.pass_end + length was.streams ≡ was.pass_end + length new.streams → new.stall_time ≡ was.stall_time →
        LooksAround to_give taken calls now pass new
    around pass was new e looked ends time =
        subst (λ (p : ClosingList S). LooksAround to_give taken calls now p new) e
        (record { looked = looked; pass_end = ends; stall_time = time })

-- ---- rounds

module _ {S : Type 0} (to_give taken : S → Option (List ℕ)) (calls : S → Option (List StreamCall)) where
  pub one_round_more : (rounds : ℕ) (old mid new : ClosingList S) → GoOnFor to_give taken calls rounds old mid →
      ClosingsGoOn to_give taken calls mid new → GoOnFor to_give taken calls (rounds + 1) old new
  one_round_more rounds old mid new h k =
      let more : suc rounds ≡ rounds + 1 = omega (arith) in
      subst (λ (n : ℕ). GoOnFor to_give taken calls n old new) more (mid, h, k)
