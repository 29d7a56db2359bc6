-- Calls that are repeated while they are interrupted: the effect of all of them.
use Rattle.std.proofs.Common.{◌≡◌, ℕ, zero, suc, ◌+◌, ◌<◌, ◌≤◌, List, [], ◌∷◌, ◌++◌, length, take, replicate}
use Rattle.std.proofs.Common.{arith, sym, ap, ◌∙◌, subst}
use Rattle.std.proofs.Common.{Option, Some, None, Result, Ok, Err, append_assoc, append-nil}
use Rattle.std.proofs.lemmas.List.{replicate_more}
use Rattle.std.specs.Io.{ReadsAtMost, WritesAtMost}
use Rattle.std.specs.Io.KnownBytes.{Consumes, Appends, Keeps, ReadConsumes, WriteAppends}
use Rattle.std.specs.IoError.{error_kind}
use Rattle.std.specs.declared.io.Error.{Error}
use Rattle.std.specs.declared.io.ErrorKind.{ErrorKind}
use Rattle.std.specs.declared.io.ErrorKind.TheVariants as Kinds
use Rattle.daide_io.specs.Ports.{AppendsTo, IsPullWithin, IsPutWithin, pulled_len}
use Rattle.daide_buffered_io.specs.Calls.{Tries, pull_of, put_of}
use Rattle.daide_io.specs.Streams.{StreamCall, outcome_by, outcome_of_kind}
use Rattle.daide_buffered_io.specs.Taking.{IsTaken}
use Rattle.daide_io.specs.declared.outcome.IoResult.{IoResult}
use Rattle.daide_io.specs.declared.outcome.IoResult.TheVariants.{Interrupted, NotNow, Failed}

-- ---- traces

module _ {A : Type 0} where
  some_same : (x y : List A) → Some x ≡ Some y → x ≡ y
  some_same x y e = cc

  -- concatenation
  tells_then : (old mid new : Option (List A)) (xs ys : List A) → AppendsTo old xs mid → AppendsTo mid ys new →
      AppendsTo old (xs ++ ys) new
  tells_then old mid None xs ys first next = tt
  tells_then old None (Some after) xs ys first next = absurd (let e = next.1 in cc)
  tells_then old (Some between) (Some after) xs ys first next = (
    first.0,
    first.1,
    next.2 ∙ ap (λ (l : List A). l ++ ys) (sym (some_same between next.0 next.1) ∙ first.2)
        ∙ append_assoc first.0 xs ys,
  )

-- one more interrupted call
pub again_appended : (call : StreamCall) (old mid new : Option (List StreamCall)) (n : ℕ) (last : StreamCall) →
    last ≡ call → AppendsTo old (replicate n call) mid → AppendsTo mid (last ∷ []) new → AppendsTo old (replicate (n + 1) call) new
again_appended call old mid new n last e before appended =
    subst (λ (calls : List StreamCall). AppendsTo old calls new) (replicate_more n call)
    (tells_then old mid new (replicate n call) (call ∷ []) before
    (subst (λ (c : StreamCall). AppendsTo mid (c ∷ []) new) e appended))

-- the last call
pub last_tried : (call : IoResult → StreamCall) (old mid new : Option (List StreamCall)) (n : ℕ) (outcome : IoResult)
    (last : StreamCall) → last ≡ call outcome → n < 8 → (outcome ≡ Interrupted → suc n ≡ 8) →
    AppendsTo old (replicate n (call Interrupted)) mid → AppendsTo mid (last ∷ []) new → Tries call old outcome new
last_tried call old mid new n outcome last e few spent before appended = record {
  before = n;
  few = few;
  spent = spent;
  appended = tells_then old mid new (replicate n (call Interrupted)) (call outcome ∷ []) before
      (subst (λ (c : StreamCall). AppendsTo mid (c ∷ []) new) e appended);
}

-- ---- bytes

-- the outcome of an error is one of three
by_kind : (Holds : IoResult → Type 0) (kind : ErrorKind) → Holds Interrupted → Holds NotNow → Holds Failed →
    Holds (outcome_of_kind kind)
by_kind Holds Kinds.Interrupted interrupted not_now failed = interrupted
by_kind Holds Kinds.WouldBlock interrupted not_now failed = not_now
by_kind Holds kind interrupted not_now failed = failed

keeps_then : (old mid new : Option (List ℕ)) → Keeps old mid → Keeps mid new → Keeps old new
keeps_then None mid new kept also = tt
keeps_then (Some before) None new kept also = absurd kept
keeps_then (Some before) (Some between) None kept also = absurd also
keeps_then (Some before) (Some between) (Some after) kept also = also ∙ kept

consumes_then : (old mid new : Option (List ℕ)) (bytes : List ℕ) → Keeps old mid → Consumes mid new bytes →
    Consumes old new bytes
consumes_then None mid new bytes kept read = tt
consumes_then (Some before) None new bytes kept read = absurd kept
consumes_then (Some before) (Some between) None bytes kept read = absurd read
consumes_then (Some before) (Some between) (Some after) bytes kept read = sym kept ∙ read

appends_then : (old mid new : Option (List ℕ)) (bytes : List ℕ) → Keeps old mid → Appends mid new bytes →
    Appends old new bytes
appends_then None mid new bytes kept written = tt
appends_then (Some before) None new bytes kept written = absurd kept
appends_then (Some before) (Some between) None bytes kept written = absurd written
appends_then (Some before) (Some between) (Some after) bytes kept written =
    written ∙ ap (λ (l : List ℕ). l ++ bytes) kept

keeps_consumes : (old new : Option (List ℕ)) → Keeps old new → Consumes old new []
keeps_consumes None new kept = tt
keeps_consumes (Some before) None kept = absurd kept
keeps_consumes (Some before) (Some after) kept = sym kept

keeps_appends : (old new : Option (List ℕ)) → Keeps old new → Appends old new []
keeps_appends None new kept = tt
keeps_appends (Some before) None kept = absurd kept
keeps_appends (Some before) (Some after) kept = kept ∙ sym (append-nil before)

-- ---- a read

module _ (outcome : IoResult) (answer : Result ℕ Error) (is : outcome ≡ outcome_by answer) where
  module _ (bytes : List ℕ) where
    pub read_within : (free_space : ℕ) → length bytes ≡ free_space → ReadsAtMost answer bytes → IsPullWithin (pull_of outcome) free_space
    read_within free_space size within =
        subst (λ (n : ℕ). IsPullWithin (pull_of outcome) n) size
        (subst (λ (o : IoResult). IsPullWithin (pull_of o) (length bytes)) (sym is) (by answer within))
      where
        by : (answer : Result ℕ Error) → ReadsAtMost answer bytes →
            IsPullWithin (pull_of (outcome_by answer)) (length bytes)
        by (Ok zero) within = tt
        by (Ok (suc n)) within = within.0
        by (Err error) within = by_kind (λ o. IsPullWithin (pull_of o) (length bytes)) (error_kind error) tt tt tt

    -- after reads that returned no byte
    pub read_given : (old mid new : Option (List ℕ)) → Keeps old mid → ReadConsumes mid new answer bytes →
        Consumes old new (take (pulled_len (pull_of outcome)) bytes)
    read_given old mid new kept read =
        subst (λ (o : IoResult). Consumes old new (take (pulled_len (pull_of o)) bytes)) (sym is) (by answer read)
      where
        by : (answer : Result ℕ Error) → ReadConsumes mid new answer bytes →
            Consumes old new (take (pulled_len (pull_of (outcome_by answer))) bytes)
        by (Ok zero) read = consumes_then old mid new [] kept read.0
        by (Ok (suc n)) read = consumes_then old mid new (take (suc n) bytes) kept read.0
        by (Err error) read =
            let none : Consumes old new [] = keeps_consumes old new (keeps_then old mid new kept read) in
            by_kind (λ o. Consumes old new (take (pulled_len (pull_of o)) bytes)) (error_kind error) none none none

    -- an interrupted read returned no byte
    pub read_kept : (old mid new : Option (List ℕ)) → outcome ≡ Interrupted → Keeps old mid →
        ReadConsumes mid new answer bytes → Keeps old new
    read_kept old mid new e kept read = by answer (sym is ∙ e) read
      where
        by : (answer : Result ℕ Error) → outcome_by answer ≡ Interrupted → ReadConsumes mid new answer bytes →
            Keeps old new
        by (Ok n) e read = absurd (cc)
        by (Err error) e read = keeps_then old mid new kept read

    -- ---- a write

    pub write_within : WritesAtMost answer bytes → IsPutWithin (put_of outcome) (length bytes)
    write_within within = subst (λ (o : IoResult). IsPutWithin (put_of o) (length bytes)) (sym is) (by answer within)
      where
        least : 0 ≤ length bytes
        least = omega arith

        by : (answer : Result ℕ Error) → WritesAtMost answer bytes →
            IsPutWithin (put_of (outcome_by answer)) (length bytes)
        by (Ok n) within = within
        by (Err error) within =
            by_kind (λ o. IsPutWithin (put_of o) (length bytes)) (error_kind error) least least tt

    -- after writes that accepted no byte
    pub write_taken : (old mid new : Option (List ℕ)) → Keeps old mid → WriteAppends mid new answer bytes →
        IsTaken old bytes (put_of outcome) new
    write_taken old mid new kept written =
        subst (λ (o : IoResult). IsTaken old bytes (put_of o) new) (sym is) (by answer written)
      where
        by : (answer : Result ℕ Error) → WriteAppends mid new answer bytes →
            IsTaken old bytes (put_of (outcome_by answer)) new
        by (Ok n) written = appends_then old mid new (take n bytes) kept written
        by (Err error) written =
            let still : Keeps old new = keeps_then old mid new kept written in
            let none : Appends old new [] = keeps_appends old new still in
            by_kind (λ o. IsTaken old bytes (put_of o) new) (error_kind error) none none still

    pub write_kept : (old mid new : Option (List ℕ)) → outcome ≡ Interrupted → Keeps old mid →
        WriteAppends mid new answer bytes → Keeps old new
    write_kept old mid new e kept written = by answer (sym is ∙ e) written
      where
        by : (answer : Result ℕ Error) → outcome_by answer ≡ Interrupted → WriteAppends mid new answer bytes →
            Keeps old new
        by (Ok n) e written = absurd (cc)
        by (Err error) e written = keeps_then old mid new kept written
