-- Pulls and puts from the calls of the stream, and pulls of a buffered stream from those of the stream.
use Rattle.std.proofs.Common.{◌≡◌, ℕ, zero, suc, ◌-◌, ◌<◌, ◌≤◌, ◌==◌, Bool, true, false, List, [], ◌∷◌, ◌++◌, length, take}
use Rattle.std.specs.Prelude.{nat_lt, if◌then◌else◌}
use Rattle.std.proofs.lemmas.List.{take_all, length-take}
use Rattle.std.proofs.Common.{Option, Some, None, ◌⊎◌, inl, inr, arith, refl, sym, ap, ◌∙◌, subst}
use Rattle.std.proofs.lemmas.Bool.Decides.{nat_tests}
use Rattle.daide_io.specs.declared.ports.Pull.{Pull}
use Rattle.daide_io.specs.declared.ports.Pull.TheVariants.{Got, Idle, Ended}
use Rattle.daide_io.specs.declared.ports.Put.{Put}
use Rattle.daide_io.specs.declared.ports.Put.TheVariants.{Took}
use Rattle.daide_io.specs.Ports.{pulled_len}
use Rattle.daide_buffered_io.specs.declared.readiness.Readiness.{Readiness}
use Rattle.daide_io.specs.declared.outcome.IoResult.{IoResult}
use Rattle.daide_io.specs.declared.outcome.IoResult.TheVariants.{Moved, Interrupted, NotNow, Failed}
use Rattle.daide_buffered_io.specs.Buffers.{is_alike}
use Rattle.daide_buffered_io.specs.Calls.{Tries, IsPull, IsPut, MakesPuts, OnlyPuts, IsStopped, pull_of, put_of}
use Rattle.daide_io.specs.Streams.{StreamCall, Read, Written}
use Rattle.daide_buffered_io.specs.Calls.{after_read, after_write, without_writes}

alike_self : (pull : Pull) → is_alike pull pull ≡ true
alike_self (Got n) = refl
alike_self Idle = refl
alike_self Ended = refl

-- ---- the pull and the put of an outcome

pub some_room : (free_space : ℕ) → false ≡ (free_space == 0) → 0 < free_space
some_room free_space e = grind (arith, nat_tests, e)

pub no_room : (free_space : ℕ) → true ≡ (free_space == 0) → free_space ≡ 0
no_room free_space e = grind (arith, nat_tests, e)

-- the caller's buffer is shorter than the pool's
pub short : {A : Type 0} (n most : ℕ) (free_space : Option A) (storage : A) → free_space ≡ Some storage →
    (n < most) ⊎ (free_space ≡ None) → n ≤ most
short n most free_space storage some (inl less) = omega (arith, less)
short n most free_space storage some (inr none) = absurd (let e = sym none ∙ some in cc)

pub is_some : (storage read_buffer : List ℕ) → storage ≡ read_buffer → 0 < length storage → read_buffer ≡ [] → ⊥
is_some storage read_buffer same some none = omega (arith, some, ap length (same ∙ none))

-- bytes were read into the emptied buffer
pub filled : (items buffer : List ℕ) (count : ℕ) → items ≡ buffer → take (count - 0) items ≡ take count buffer
filled items buffer count same =
    let whole : count - 0 ≡ count = omega arith in
    ap (λ (n : ℕ). take n items) whole ∙ ap (take count) same

-- a non-empty prefix of a list
pub some_front : (most : ℕ) (bytes : List ℕ) → 0 < most → 0 < length bytes → 0 < length (take most bytes)
some_front most bytes few some = grind (arith, length-take most bytes)

pub nothing_pulled : (pull : Pull) → ((n : ℕ) → pull ≡ Got n → ⊥) → pulled_len pull ≡ 0
nothing_pulled (Got n) other = absurd (other n refl)
nothing_pulled Idle other = refl
nothing_pulled Ended other = refl

pub got_is : (outcome : IoResult) (count : ℕ) → outcome ≡ Moved count → 0 < count → Got count ≡ pull_of outcome
got_is outcome zero e some = absurd (omega (arith, some))
got_is outcome (suc n) e some = ap pull_of (sym e)

pub idle_is : (outcome : IoResult) → (outcome ≡ Interrupted) ⊎ (outcome ≡ NotNow) → Idle ≡ pull_of outcome
idle_is outcome (inl e) = ap pull_of (sym e)
idle_is outcome (inr e) = ap pull_of (sym e)

pub none_is : (outcome : IoResult) → (outcome ≡ Interrupted) ⊎ (outcome ≡ NotNow) → Took 0 ≡ put_of outcome
none_is outcome (inl e) = ap put_of (sym e)
none_is outcome (inr e) = ap put_of (sym e)

took_same : (n m : ℕ) → Took n ≡ Took m → n ≡ m
took_same n m e = cc

module _ {S : Type 0} (calls : S → Option (List StreamCall)) where
  -- ---- a pull

  -- the stream is not readable, or there is no room
  pub idle_pull : (free_space : ℕ) (known : Readiness) (stream : S) → (known.may_read ≡ false) ⊎ (free_space ≡ 0) →
      IsPull calls free_space known stream Idle known stream
  idle_pull free_space known stream spared = record {
    spared = λ e. (refl, refl, refl);
    made = λ ready some. absurd (neither spared ready some);
  }
    where
      neither : (known.may_read ≡ false) ⊎ (free_space ≡ 0) → known.may_read ≡ true → 0 < free_space → ⊥
      neither (inl e) ready some = cc
      neither (inr e) ready some = omega (arith, e, some)

  -- the call was made
  pub made_pull : (free_space : ℕ) (known still : Readiness) (old new : S) (pull : Pull) (outcome : IoResult) →
      known.may_read ≡ true → 0 < free_space → Tries (Read free_space) (calls old) outcome (calls new) → pull ≡ pull_of outcome →
      still ≡ after_read known free_space outcome → IsPull calls free_space known old pull still new
  made_pull free_space known still old new pull outcome ready some tries appended noted = record {
    spared = λ e. absurd (neither e);
    made = λ r s. (outcome, tries, appended, noted);
  }
    where
      neither : (known.may_read ≡ false) ⊎ (free_space ≡ 0) → ⊥
      neither (inl e) = cc
      neither (inr e) = omega (arith, e, some)

  -- with an empty read buffer a pull of a buffered stream is one of the stream, into at least as much room
  abbrev OfStream : ℕ → Readiness → S → Pull → Readiness → S → Type 0
  OfStream free_space known stream pull still now = (more : ℕ) × (free_space ≤ more) × (own : Pull)
      × IsPull calls more known stream own still now × (is_alike pull own ≡ true)

  -- into more room
  pub more_pull : (read_buffer : List ℕ) (free_space more : ℕ) (known still : Readiness) (seen stream read now : S)
      (pull own : Pull) → seen ≡ stream → free_space ≤ more → now ≡ read → is_alike pull own ≡ true →
      IsPull calls more known seen own still read → read_buffer ≡ [] → OfStream free_space known stream pull still now
  more_pull read_buffer free_space more known still seen stream read now pull own view wide same alike made none = (
    more,
    wide,
    own,
    subst (λ (s : S). IsPull calls more known s own still now) view
        (subst (λ (s : S). IsPull calls more known seen own still s) (sym same) made),
    alike,
  )

  -- without a call
  pub left_alone : (read_buffer : List ℕ) (free_space : ℕ) (known : Readiness) (stream now : S) → now ≡ stream →
      (known.may_read ≡ false) ⊎ (free_space ≡ 0) → read_buffer ≡ [] → OfStream free_space known stream Idle known now
  left_alone read_buffer free_space known stream now same spared =
      more_pull read_buffer free_space free_space known known stream stream stream now Idle Idle refl (omega arith) same refl
      (idle_pull free_space known stream spared)

  -- into the caller's buffer
  pub own_pull : (read_buffer : List ℕ) (free_space : ℕ) (known : Readiness) (seen stream now : S) (pull : Pull)
      (still : Readiness) → seen ≡ stream → IsPull calls free_space known seen pull still now → read_buffer ≡ [] →
      OfStream free_space known stream pull still now
  own_pull read_buffer free_space known seen stream now pull still e made =
      more_pull read_buffer free_space free_space known still seen stream now now pull pull e (omega arith) refl (alike_self pull) made

  -- ---- a put

  -- the stream is not writable
  pub spared_put : (bytes : List ℕ) (known : Readiness) (stream : S) → known.may_write ≡ false →
      IsPut calls bytes known stream (Took 0) known stream
  spared_put bytes known stream spared = record {
    spared = λ e. (refl, refl, refl);
    made = λ ready. absurd (let e = spared in let r = ready in cc);
  }

  -- the call was made
  pub made_put : (bytes front : List ℕ) (known still : Readiness) (old new : S) (put : Put) (outcome : IoResult) →
      front ≡ bytes → known.may_write ≡ true → Tries (Written front) (calls old) outcome (calls new) →
      put ≡ put_of outcome → still ≡ after_write known (length front) outcome →
      IsPut calls bytes known old put still new
  made_put bytes front known still old new put outcome same ready tries appended noted = record {
    spared = λ e. absurd (let r = ready in let s = e in cc);
    made = λ r. (
      outcome,
      subst (λ (l : List ℕ). Tries (Written l) (calls old) outcome (calls new)) same tries,
      appended,
      noted ∙ ap (λ (l : List ℕ). after_write known (length l) outcome) same,
    );
  }

  -- of at most `MOST_AT_ONCE` bytes
  pub whole_put : (bytes : List ℕ) (most : ℕ) (known still : Readiness) (old new : S) (put : Put) →
      length bytes ≤ most → IsPut calls (take most bytes) known old put still new →
      IsPut calls bytes known old put still new
  whole_put bytes most known still old new put few made =
      subst (λ (l : List ℕ). IsPut calls l known old put still new) (take_all most bytes few) made

  -- a short write makes the stream not writable
  pub stopped : (bytes : List ℕ) (known still : Readiness) (old new : S) (put : Put) (n : ℕ) →
      IsPut calls bytes known old put still new → put ≡ Took n → n < length bytes → IsStopped calls still new
  stopped bytes known still old new put n made took less = by known.may_write refl
    where
      of_outcome : (outcome : IoResult) → Tries (Written bytes) (calls old) outcome (calls new) → put ≡ put_of outcome →
          still ≡ after_write known (length bytes) outcome → IsStopped calls still new
      of_outcome (Moved count) tries appended noted =
          let same : Took n ≡ Took count = sym took ∙ appended in
          let fewer : count < length bytes = subst (λ (m : ℕ). m < length bytes) (took_same n count same) less in
          let test : nat_lt count (length bytes) ≡ true = grind (arith, nat_tests, fewer) in
          inl (ap (λ (k : Readiness). k.may_write) (noted
          ∙ ap (λ (b : Bool). if b then without_writes known else known) test))
      of_outcome Interrupted tries appended noted = inr (calls old, bytes, tries)
      of_outcome NotNow tries appended noted = inl (ap (λ (k : Readiness). k.may_write) noted)
      of_outcome Failed tries appended noted = absurd (let e = sym took ∙ appended in cc)

      by : (may : Bool) → known.may_write ≡ may → IsStopped calls still new
      by false e = inl (ap (λ (k : Readiness). k.may_write) (made.spared e).2 ∙ e)
      by true e = let call = made.made e in of_outcome call.0 call.1 call.2 call.3

  -- ---- puts alone

  -- one
  pub one_put : (bytes : List ℕ) (known : Readiness) (old : S) (put : Put) (still : Readiness) (new : S) →
      IsPut calls bytes known old put still new → OnlyPuts calls known old still new
  one_put bytes known old put still new made = (bytes ∷ [], (put, still, new, made, (refl, refl)))

  -- some, and then others
  pub puts_then : (known : Readiness) (old : S) (after : Readiness) (between : S) (still : Readiness) (new : S) →
      OnlyPuts calls known old after between → OnlyPuts calls after between still new → OnlyPuts calls known old still new
  puts_then known old after between still new first second = (first.0 ++ second.0, by first.0 known old first.1)
    where
      by : (offers : List (List ℕ)) (k : Readiness) (s : S) → MakesPuts calls offers k s after between →
          MakesPuts calls (offers ++ second.0) k s still new
      by [] k s h = subst (λ (r : Readiness). MakesPuts calls second.0 r s still new) h.0
          (subst (λ (t : S). MakesPuts calls second.0 after t still new) h.1 second.1)
      by (bytes ∷ more) k s h = (h.0, h.1, h.2, h.3, by more h.1 h.2 h.4)
