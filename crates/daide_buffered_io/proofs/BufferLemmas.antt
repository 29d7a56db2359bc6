-- Buffered streams: their buffers, and sequences of calls.
use Rattle.std.proofs.Common.{◌≡◌, ℕ, zero, suc, ◌+◌, ◌-◌, ◌≤◌, List, [], ◌∷◌, ◌++◌, length, take, drop, arith, refl, sym, ap, ◌∙◌}
use Rattle.std.proofs.Common.{Option, Some, None, append_assoc, append-nil, take-append-drop, length-append, length-take-le}
use Rattle.std.proofs.Common.{length-drop, subst}
use Rattle.std.proofs.lemmas.List.{drop-take, drop-drop, drop-append-le, take_at, nil_from_length}
use Rattle.std.proofs.lemmas.Slice.{between_is}
use Rattle.std.proofs.KnownBytes.{Consumes-nil, Consumes-trans, Appends-nil, Appends-trans}
use Rattle.std.specs.Io.KnownBytes.{Consumes, Keeps, Appends}
use Rattle.daide_io.specs.declared.ports.Put.{Put}
use Rattle.daide_io.specs.declared.ports.Put.TheVariants.{Took, Failed}
use Rattle.daide_buffered_io.specs.Buffers.{Buffer, Passes, ReadsNothing, WritesNothing}
use Rattle.daide_buffered_io.specs.Taking.{IsTaken, taken_len, bytes_taken}

-- ---- bytes in an array

-- the first bytes are removed
pub skipped : (bytes : List ℕ) (from to n : ℕ) → n ≤ length (take (to - from) (drop from bytes)) →
    take (to - (from + n)) (drop (from + n) bytes) ≡ drop n (take (to - from) (drop from bytes))
skipped bytes from to n h =
    let few = front_few (to - from) (drop from bytes) in
    let size : to - from ≡ n + (to - (from + n)) = omega arith in
    ap (take (to - (from + n))) (sym (drop-drop n from bytes))
    ∙ sym (drop-take n (to - (from + n)) (drop from bytes))
    ∙ ap (λ (k : ℕ). drop n (take k (drop from bytes))) (sym size)
  where
    front_few : (n : ℕ) (l : List ℕ) → length (take n l) ≤ n
    front_few zero l = omega arith
    front_few (suc n) [] = omega arith
    front_few (suc n) (x ∷ l) = omega (arith, front_few n l)

-- bytes are appended
pub gathered : (xs ys rest : List ℕ) (from to n : ℕ) → from ≤ to → to ≤ length xs → length ys ≡ n →
    take ((to + n) - from) (drop from (take to xs ++ (ys ++ rest))) ≡ take (to - from) (drop from xs) ++ ys
gathered xs ys rest from to n below within size =
    let storage = drop from (take to xs) in
    let front : length (take to xs) ≡ to = length-take-le to xs within in
    let least : from ≤ length (take to xs) = omega (arith, front, below) in
    let all : length (storage ++ ys) ≡ (to + n) - from =
    length-append storage ys ∙ grind (arith, length-drop from (take to xs), front, size, below) in
    ap (take ((to + n) - from)) (drop-append-le from (take to xs) (ys ++ rest) least ∙ sym (append_assoc storage ys rest))
    ∙ take_at (storage ++ ys) rest ((to + n) - from) all
    ∙ ap (λ (l : List ℕ). l ++ ys) (sym (between_is xs from to))

-- ---- one call

module _ {S : Type 0} (to_give got : S → Option (List ℕ)) where
  same_gives : (old new : S) → to_give new ≡ to_give old → Consumes (to_give old) (to_give new) []
  same_gives old new e =
      subst (λ (known : Option (List ℕ)). Consumes (to_give old) known []) (sym e) (Consumes-nil (to_give old))

  same_takes : (old new : S) → got new ≡ got old → Appends (got old) (got new) []
  same_takes old new e =
      subst (λ (known : Option (List ℕ)). Appends (got old) known []) (sym e) (Appends-nil (got old))

  -- no byte was moved
  pub still_passes : (old new : Buffer S) → ReadsNothing to_give old new → WritesNothing got old new →
      Passes to_give got old [] [] new
  still_passes old new unread unwritten = record {
    came = [];
    went = [];
    gives = same_gives old.stream new.stream unread.gives;
    takes = same_takes old.stream new.stream unwritten.takes;
    read_buffer = append-nil old.read_buffer ∙ sym unread.read_buffer;
    write_buffer = append-nil old.write_buffer ∙ sym unwritten.write_buffer;
  }

  pub same_passes : (b : Buffer S) → Passes to_give got b [] [] b
  same_passes b = still_passes b b (record { read_buffer = refl; gives = refl }) (record { write_buffer = refl; takes = refl })

  -- bytes were read, and some were returned
  pub read_passes : (old new : Buffer S) (came out : List ℕ) → Consumes (to_give old.stream) (to_give new.stream) came →
      old.read_buffer ++ came ≡ out ++ new.read_buffer → WritesNothing got old new → Passes to_give got old out [] new
  read_passes old new came out gives read_buffer unwritten = record {
    came = came;
    went = [];
    gives = gives;
    takes = same_takes old.stream new.stream unwritten.takes;
    read_buffer = read_buffer;
    write_buffer = append-nil old.write_buffer ∙ sym unwritten.write_buffer;
  }

  -- nothing was read
  pub none_passes : (old new : Buffer S) (came : List ℕ) → length came ≡ 0 →
      Consumes (to_give old.stream) (to_give new.stream) came → new.read_buffer ≡ old.read_buffer → WritesNothing got old new →
      Passes to_give got old [] [] new
  none_passes old new came none gives read_buffer unwritten =
      read_passes old new [] []
      (subst (λ (l : List ℕ). Consumes (to_give old.stream) (to_give new.stream) l) (nil_from_length came none) gives)
      (append-nil old.read_buffer ∙ sym read_buffer) unwritten

  -- bytes were put, and some were written
  pub write_passes : (old new : Buffer S) (went over : List ℕ) → Appends (got old.stream) (got new.stream) went →
      old.write_buffer ++ over ≡ went ++ new.write_buffer → ReadsNothing to_give old new → Passes to_give got old [] over new
  write_passes old new went over takes write_buffer unread = record {
    came = [];
    went = went;
    gives = same_gives old.stream new.stream unread.gives;
    takes = takes;
    read_buffer = append-nil old.read_buffer ∙ sym unread.read_buffer;
    write_buffer = write_buffer;
  }

  -- bytes were appended to the write buffer
  pub held_passes : (old new : Buffer S) (over : List ℕ) → new.stream ≡ old.stream → new.read_buffer ≡ old.read_buffer →
      new.write_buffer ≡ old.write_buffer ++ over → Passes to_give got old [] over new
  held_passes old new over stream read_buffer write_buffer =
      write_passes old new [] over (same_takes old.stream new.stream (ap got stream)) (sym write_buffer)
      (record { read_buffer = read_buffer; gives = ap to_give stream })

  -- the write buffer was written once
  pub drain_passes : (old new : Buffer S) (put : Put) (storage rest : List ℕ) → old.write_buffer ≡ storage → new.write_buffer ≡ rest →
      IsTaken (got old.stream) storage put (got new.stream) → rest ≡ drop (taken_len put) storage →
      ReadsNothing to_give old new → Passes to_give got old [] [] new
  drain_passes old new (Took n) storage rest before after takes left unread =
      write_passes old new (take n storage) [] takes
      (append-nil old.write_buffer ∙ before ∙ sym (take-append-drop n storage)
      ∙ ap (λ (l : List ℕ). take n storage ++ l) (sym left ∙ sym after)) unread
  drain_passes old new Failed storage rest before after takes left unread =
      write_passes old new [] [] (kept_appends (got old.stream) (got new.stream) takes)
      (append-nil old.write_buffer ∙ before ∙ sym left ∙ sym after) unread
    where
      kept_appends : (a b : Option (List ℕ)) → Keeps a b → Appends a b []
      kept_appends None b h = tt
      kept_appends (Some x) None h = absurd h
      kept_appends (Some x) (Some y) h = h ∙ sym (append-nil x)

  -- bytes were written directly, with an empty write buffer
  pub straight_passes : (old new : Buffer S) (bytes : List ℕ) (put : Put) → old.write_buffer ≡ [] → new.write_buffer ≡ [] →
      IsTaken (got old.stream) bytes put (got new.stream) → ReadsNothing to_give old new →
      Passes to_give got old [] (bytes_taken put bytes) new
  straight_passes old new bytes (Took n) none still takes unread =
      write_passes old new (take n bytes) (take n bytes) takes
      (ap (λ (l : List ℕ). l ++ take n bytes) none ∙ sym (append-nil (take n bytes))
      ∙ ap (λ (l : List ℕ). take n bytes ++ l) (sym still)) unread
  straight_passes old new bytes Failed none still takes unread =
      drain_passes old new Failed [] [] none still takes refl unread

  -- ---- one call, by its intermediate values

  -- a fact of a value is a fact of its view
  pub of_view : (seen old new : Buffer S) (out over : List ℕ) → seen ≡ old → Passes to_give got seen out over new →
      Passes to_give got old out over new
  of_view seen old new out over e h = subst (λ (b : Buffer S). Passes to_give got b out over new) e h

  -- bytes were read with an empty read buffer, and some were returned
  pub ahead_passes : (old new : Buffer S) (between : S) (came out : List ℕ) →
      Consumes (to_give old.stream) (to_give between) came → got between ≡ got old.stream → new.stream ≡ between →
      old.read_buffer ≡ [] → came ≡ out ++ new.read_buffer → new.write_buffer ≡ old.write_buffer → Passes to_give got old out [] new
  ahead_passes old new between came out gives takes stream none read_buffer write_buffer =
      read_passes old new came out
      (subst (λ (s : S). Consumes (to_give old.stream) (to_give s) came) (sym stream) gives)
      (ap (λ (l : List ℕ). l ++ came) none ∙ read_buffer)
      (record { write_buffer = write_buffer; takes = ap got stream ∙ takes })

  -- bytes of the read buffer were returned
  pub out_passes : (old new : Buffer S) (storage out : List ℕ) → new.stream ≡ old.stream → old.read_buffer ≡ storage →
      storage ≡ out ++ new.read_buffer → new.write_buffer ≡ old.write_buffer → Passes to_give got old out [] new
  out_passes old new storage out stream read_buffer bytes write_buffer =
      read_passes old new [] out (same_gives old.stream new.stream (ap to_give stream))
      (append-nil old.read_buffer ∙ read_buffer ∙ bytes) (record { write_buffer = write_buffer; takes = ap got stream })

  -- ---- two calls in sequence

  pub passes_then : (a b c : Buffer S) (out over more further : List ℕ) → Passes to_give got a out over b →
      Passes to_give got b more further c → Passes to_give got a (out ++ more) (over ++ further) c
  passes_then a b c out over more further first next = record {
    came = first.came ++ next.came;
    went = first.went ++ next.went;
    gives = Consumes-trans (to_give a.stream) (to_give b.stream) (to_give c.stream) first.came next.came
        first.gives next.gives;
    takes = Appends-trans (got a.stream) (got b.stream) (got c.stream) first.went next.went first.takes next.takes;
    read_buffer = sym (append_assoc a.read_buffer first.came next.came)
        ∙ ap (λ (l : List ℕ). l ++ next.came) first.read_buffer
        ∙ append_assoc out b.read_buffer next.came
        ∙ ap (λ (l : List ℕ). out ++ l) next.read_buffer
        ∙ sym (append_assoc out more c.read_buffer);
    write_buffer = sym (append_assoc a.write_buffer over further)
        ∙ ap (λ (l : List ℕ). l ++ further) first.write_buffer
        ∙ append_assoc first.went b.write_buffer further
        ∙ ap (λ (l : List ℕ). first.went ++ l) next.write_buffer
        ∙ sym (append_assoc first.went next.went c.write_buffer);
  }

  -- neither of two calls read a byte
  pub unread_then : (a b c : Buffer S) → ReadsNothing to_give a b → ReadsNothing to_give b c → ReadsNothing to_give a c
  unread_then a b c first next = record { read_buffer = next.read_buffer ∙ first.read_buffer; gives = next.gives ∙ first.gives }

  -- a call after a flush
  pub flush_then : (a b c : Buffer S) (over : List ℕ) → Passes to_give got a [] [] b → Passes to_give got b [] over c →
      Passes to_give got a [] over c
  flush_then a b c over first next = passes_then a b c [] [] [] over first next

  -- a flush after a call
  pub then_flush : (a b c : Buffer S) (over : List ℕ) → Passes to_give got a [] over b → Passes to_give got b [] [] c →
      Passes to_give got a [] over c
  then_flush a b c over first next =
      subst (λ (l : List ℕ). Passes to_give got a [] l c) (append-nil over) (passes_then a b c [] over [] [] first next)
