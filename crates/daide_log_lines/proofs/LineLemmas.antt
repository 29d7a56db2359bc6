-- The lines of a log, as they are read.
use Rattle.std.proofs.Common.{◌≡◌, ℕ, zero, suc, ◌+◌, ◌-◌, ◌<◌, ◌≤◌, Bool, true, false, List, [], ◌∷◌, ◌++◌, length, take, drop}
use Rattle.std.proofs.Common.{Option, Some, None, Result, Ok, Err, refl, sym, ap, ◌∙◌, subst, arith, ◌⊎◌, inl, inr, append-nil, append_assoc}
use Rattle.std.proofs.Common.{◌==◌, ◌≢◌, slice_index, add-one, length-append, length-drop, take_all}
use Rattle.std.proofs.lemmas.List.{drop-take, drop-drop, take-append-drop, take-take, length-take-le}
use Rattle.std.proofs.lemmas.Bool.{eqb-true, eq-eqb}
use Rattle.memchr.specs.Find.{IsFirstByte, is_byte}
use Rattle.std.specs.Prelude.{IfSome, IfOk}
use Rattle.std.specs.Io.KnownBytes.{Consumes, Keeps}
use Rattle.daide_log_lines.specs.Reader.{Reader, LogRead, AddsReads, all_came, AtEach, Gives}
use Rattle.daide_log_lines.specs.LogLine.{IsUnbroken, MayBeginLine, longest_line, most_lines, without_cr}
use Rattle.daide_log_lines.specs.declared.fault.LogFault.{LogFault}
use Rattle.daide_log_lines.specs.declared.fault.LogFault.TheVariants as Faults
use Rattle.daide_log_lines.specs.declared.lines.LineEnd.{LineEnd}
use Rattle.daide_log_lines.specs.declared.lines.LineEnd.TheVariants.{Held, Line, Last, End}
use Rattle.daide_log_lines.specs.Input.{IsCopied, LiesIn, line_in, rest_in}
use Rattle.daide_log_lines.specs.Lines.{ReadsOn, IsInLine, Scans, HasMore, IsFound, IsHeldLine, IsLineEnd, block_size}
use Rattle.daide_log_lines.proofs.PageLemmas.{keeps_more}

pub unbroken_append : (a b : List ℕ) → IsUnbroken a → IsUnbroken b → IsUnbroken (a ++ b)
unbroken_append [] b h k = k
unbroken_append (x ∷ a) b h k = (h.0, unbroken_append a b h.1 k)

-- no byte before index n is a line feed
pub unbroken_before : (bytes : List ℕ) (n : ℕ) → n ≤ length bytes →
    ((k : ℕ) → k < n → slice_index bytes k ≢ 10) → IsUnbroken (take n bytes)
unbroken_before bytes zero fits none = tt
unbroken_before [] (suc n) fits none = tt
unbroken_before (b ∷ bytes) (suc n) fits none =
    (none 0 (omega arith), unbroken_before bytes n (omega arith) (λ k less. none (suc k) (omega arith)))

-- a list around the byte at index n
around : (bytes : List ℕ) (n : ℕ) → n < length bytes → bytes ≡ take n bytes ++ slice_index bytes n ∷ drop (suc n) bytes
around [] n fits = elim fits [ ]
around (b ∷ bytes) zero fits = refl
around (b ∷ bytes) (suc n) fits = ap (λ l. b ∷ l) (around bytes n (omega arith))

-- the first line feed that a search finds ends the line
pub first_line_feed : (bytes : List ℕ) (found : Option ℕ) → IsFirstByte (is_byte 10) bytes found → IsLineEnd bytes found
first_line_feed bytes None none =
    subst IsUnbroken (take_all (length bytes) bytes (omega arith))
    (unbroken_before bytes (length bytes) (omega arith)
    (λ k less is. none k (omega arith) less (eq-eqb _ _ is)))
first_line_feed bytes (Some n) first = (
  first.0.high,
  unbroken_before bytes n (omega (arith, first.0.high))
      (λ k less is. first.0.before k (omega arith) less (eq-eqb _ _ is)),
  around bytes n first.0.high ∙ ap (λ b. take n bytes ++ b ∷ drop (suc n) bytes) (eqb-true _ _ first.1)
      ∙ ap (λ k. take n bytes ++ 10 ∷ drop k bytes) (sym (add-one n)),
)

pub consumes_more : (old now new : Option (List ℕ)) (a b : List ℕ) → Consumes old now a → Consumes now new b →
    Consumes old new (a ++ b)
consumes_more None now new a b h k = tt
consumes_more (Some x) None new a b h k = absurd h
consumes_more (Some x) (Some y) None a b h k = absurd k
consumes_more (Some x) (Some y) (Some z) a b h k = h ∙ ap (λ (l : List ℕ). a ++ l) k ∙ sym (append_assoc a b z)

pub consumes_none : (a : Option (List ℕ)) → Consumes a a []
consumes_none None = tt
consumes_none (Some x) = refl

pub keeps_consumes : (old new : Option (List ℕ)) → Keeps old new → Consumes old new []
keeps_consumes None new h = tt
keeps_consumes (Some x) None h = absurd h
keeps_consumes (Some x) (Some y) h = sym h

-- ---- reads

each_append : (P : List ℕ → Option (List ℕ) → Type 0) (before : List ℕ) (xs ys : List LogRead) → AtEach P before xs →
    AtEach P (before ++ all_came xs) ys → AtEach P before (xs ++ ys)
each_append P before [] ys h k = subst (λ (l : List ℕ). AtEach P l ys) (append-nil before) k
each_append P before (x ∷ xs) ys h k = (
  h.0,
  each_append P (before ++ x.came) xs ys h.1
      (subst (λ (l : List ℕ). AtEach P l ys) (sym (append_assoc before x.came (all_came xs))) k),
)

each_lifted : (P Q : List ℕ → Option (List ℕ) → Type 0) (front before : List ℕ) (xs : List LogRead) →
    ((came : List ℕ) (written : Option (List ℕ)) → Q came written → P (front ++ came) written) → AtEach Q before xs →
    AtEach P (front ++ before) xs
each_lifted P Q front before [] up h = tt
each_lifted P Q front before (x ∷ xs) up h = (
  up before x.written h.0,
  subst (λ (l : List ℕ). AtEach P l xs) (sym (append_assoc front before x.came))
      (each_lifted P Q front (before ++ x.came) xs up h.1),
)

all_came-append : (xs ys : List LogRead) → all_came (xs ++ ys) ≡ all_came xs ++ all_came ys
all_came-append [] ys = refl
all_came-append (x ∷ xs) ys =
    ap (λ (l : List ℕ). x.came ++ l) (all_came-append xs ys) ∙ sym (append_assoc x.came (all_came xs) (all_came ys))

adds_more : (a b c : Option (List LogRead)) (xs ys : List LogRead) → AddsReads a xs b → AddsReads b ys c →
    AddsReads a (xs ++ ys) c
adds_more None b c xs ys h k = tt
adds_more (Some x) None c xs ys h k = absurd h
adds_more (Some x) (Some y) None xs ys h k = absurd k
adds_more (Some x) (Some y) (Some z) xs ys h k = k ∙ ap (λ (l : List LogRead). l ++ ys) h ∙ append_assoc x xs ys

adds_none : (a : Option (List LogRead)) → AddsReads a [] a
adds_none None = tt
adds_none (Some x) = sym (append-nil x)

-- nothing was read
pub gives_none : (P : List ℕ → Option (List ℕ) → Type 0) (old : Reader) → Gives P old old []
gives_none P old = ([], refl, adds_none old.reads, tt, consumes_none old.remaining)

-- one sequence of reads after another; what holds within the second one holds after the bytes of the first
pub gives_on : (P Q : List ℕ → Option (List ℕ) → Type 0) (old now new : Reader) (a b : List ℕ) → Gives P old now a →
    Gives Q now new b → ((came : List ℕ) (written : Option (List ℕ)) → Q came written → P (a ++ came) written) →
    Gives P old new (a ++ b)
gives_on P Q old now new a b h k up = (
  h.0 ++ k.0,
  all_came-append h.0 k.0 ∙ ap (λ (l : List ℕ). all_came h.0 ++ l) k.1 ∙ ap (λ (l : List ℕ). l ++ b) h.1,
  adds_more old.reads now.reads new.reads h.0 k.0 h.2 k.2,
  each_append P [] h.0 k.0 h.3
      (subst (λ (l : List ℕ). AtEach P l k.0) (append-nil a ∙ sym h.1) (each_lifted P Q a [] k.0 up k.3)),
  consumes_more old.remaining now.remaining new.remaining a b h.4 k.4,
)

-- one more read
pub gives_read : (P : List ℕ → Option (List ℕ) → Type 0) (old now new : Reader) (a b : List ℕ)
    (written : Option (List ℕ)) → Gives P old now a →
    AddsReads now.reads (record { came = b; written = written } ∷ []) new.reads →
    Consumes now.remaining new.remaining b → P a written → Gives P old new (a ++ b)
gives_read P old now new a b written h r k p =
    let read : LogRead = record { came = b; written = written } in (
      h.0 ++ read ∷ [],
      all_came-append h.0 (read ∷ []) ∙ ap (λ (l : List ℕ). all_came h.0 ++ l) (append-nil b)
          ∙ ap (λ (l : List ℕ). l ++ b) h.1,
      adds_more old.reads now.reads new.reads h.0 (read ∷ []) h.2 r,
      each_append P [] h.0 (read ∷ []) h.3 (subst (λ (l : List ℕ). P l written) (sym h.1) p, tt),
      consumes_more old.remaining now.remaining new.remaining a b h.4 k,
    )

-- ---- a line

-- After `count` lines, the text was taken from the block and from what was read since, and this is the block. Each turn
-- but the first took a byte.
pub record HasScanned (all : Option (List ℕ)) (old : Reader) (buffered : List ℕ) (count : ℕ) (now : Reader)
    (text block : List ℕ) (turn : ℕ) : Type 0 where
  pub fewer : count < most_lines
  pub given : List ℕ
  pub gives : Gives (IsInLine all buffered count) old now given
  pub whole : buffered ++ given ≡ text ++ block
  pub unbroken : IsUnbroken text
  pub short : length text ≤ longest_line
  pub turns : turn ≤ length text + 1
  pub some : 0 < turn → 0 < length block

-- and the block is empty
pub record HasEmptied (all : Option (List ℕ)) (old : Reader) (buffered : List ℕ) (count : ℕ) (now : Reader) (text : List ℕ)
    (turn : ℕ) : Type 0 where
  pub fewer : count < most_lines
  pub given : List ℕ
  pub gives : Gives (IsInLine all buffered count) old now given
  pub whole : buffered ++ given ≡ text
  pub unbroken : IsUnbroken text
  pub short : length text ≤ longest_line
  pub turns : turn ≤ length text

pub emptied : (all : Option (List ℕ)) (old : Reader) (buffered : List ℕ) (count : ℕ) (now : Reader)
    (text block after rest : List ℕ) (turn : ℕ) → HasScanned all old buffered count now text block turn →
    Scans block text false rest after → (length after ≡ 2101 → ⊥) → length after ≤ 2101 →
    HasEmptied all old buffered count now after turn
emptied all old buffered count now text block after rest turn h s short fits = go s.4
  where
    go : (rest ≡ []) ⊎ (longest_line < length after) → HasEmptied all old buffered count now after turn
    go (inr long) = absurd (short (omega arith))
    go (inl none) =
        let whole : block ≡ s.0 = s.1 ∙ ap (λ (l : List ℕ). s.0 ++ l) none ∙ append-nil s.0 in
        let size = ap length s.3 ∙ length-append text s.0 in
        let some = h.some in
        let turns = h.turns in
        let grown = ap length whole in
        record {
          fewer = h.fewer;
          given = h.given;
          gives = h.gives;
          whole = h.whole ∙ ap (λ (l : List ℕ). text ++ l) whole ∙ sym s.3;
          unbroken = subst IsUnbroken (sym s.3) (unbroken_append text s.0 h.unbroken s.2);
          short = omega arith;
          turns = later turn turns some size grown;
        }
      where
        later : (n : ℕ) → n ≤ length text + 1 → (0 < n → 0 < length block) → length after ≡ length text + length s.0 →
            length block ≡ length s.0 → n ≤ length after
        later zero t k e f = omega arith
        later (suc n) t k e f = let b = k (omega arith) in omega arith

pub begun : (all : Option (List ℕ)) (old : Reader) (buffered : List ℕ) (count : ℕ) (text : List ℕ) → count < most_lines →
    text ≡ [] → HasScanned all old buffered count old text buffered 0
begun all old buffered count [] fewer none = record {
  fewer = fewer;
  given = [];
  gives = gives_none (IsInLine all buffered count) old;
  whole = append-nil buffered;
  unbroken = tt;
  short = omega arith;
  turns = omega arith;
  some = λ started. absurd (omega (arith, started));
}
begun all old buffered count (x ∷ text) fewer none = absurd (cc)

-- a read is made within the line
in_line : (all : Option (List ℕ)) (old : Reader) (buffered : List ℕ) (count : ℕ) (now : Reader) (text : List ℕ) (turn : ℕ)
    (h : HasEmptied all old buffered count now text turn) (written : Option (List ℕ)) → Keeps all written →
    IsInLine all buffered count h.given written
in_line all old buffered count now text turn h written k =
    (subst (MayBeginLine count) (sym h.whole) (h.unbroken, h.short, λ some. h.fewer), k)

pub scanned_on : (all : Option (List ℕ)) (old : Reader) (buffered : List ℕ) (count : ℕ) (now : Reader) (text : List ℕ)
    (turn : ℕ) (new : Reader) (block : List ℕ) → HasEmptied all old buffered count now text turn →
    ReadsOn all now new block (Ok true) → HasScanned all old buffered count new text block (turn + 1)
scanned_on all old buffered count now text turn new block h r =
    let turns = h.turns in
    record {
      fewer = h.fewer;
      given = h.given ++ block;
      gives = gives_read (IsInLine all buffered count) old now new h.given block r.0 h.gives r.1.0 r.1.1
          (in_line all old buffered count now text turn h r.0 r.2);
      whole = sym (append_assoc buffered h.given block) ∙ ap (λ (l : List ℕ). l ++ block) h.whole;
      unbroken = h.unbroken;
      short = h.short;
      turns = omega arith;
      some = λ _. r.1.2;
    }

-- the line feed was found
pub found_line : (all : Option (List ℕ)) (old : Reader) (buffered : List ℕ) (count : ℕ) (now : Reader)
    (text block after rest line : List ℕ) (turn : ℕ) → HasScanned all old buffered count now text block turn →
    Scans block text true rest after → line ≡ without_cr after → IsFound all old buffered count (Ok Line) line now rest
found_line all old buffered count now text block after rest line turn h s same = (
  after,
  (
    h.given,
    h.gives,
    h.whole ∙ ap (λ (l : List ℕ). text ++ l) s.1 ∙ sym (append_assoc text s.0 (10 ∷ rest))
        ∙ ap (λ (l : List ℕ). l ++ 10 ∷ rest) (sym s.3) ∙ sym (append_assoc after (10 ∷ []) rest),
  ),
  subst IsUnbroken (sym s.3) (unbroken_append text s.0 h.unbroken s.2),
  s.4,
  h.fewer,
  same,
  s.5,
)

-- the line has one byte too many
pub found_too_long : (all : Option (List ℕ)) (old : Reader) (buffered : List ℕ) (count : ℕ) (now : Reader)
    (text block after rest : List ℕ) (turn : ℕ) → HasScanned all old buffered count now text block turn →
    Scans block text false rest after → length after ≡ 2101 →
    IsFound all old buffered count (Err (Faults.LineTooLong (count + 1))) after now rest
found_too_long all old buffered count now text block after rest turn h s long = (
  after,
  (
    h.given,
    h.gives,
    h.whole ∙ ap (λ (l : List ℕ). text ++ l) s.1 ∙ sym (append_assoc text s.0 rest)
        ∙ ap (λ (l : List ℕ). l ++ rest) (sym s.3),
  ),
  subst IsUnbroken (sym s.3) (unbroken_append text s.0 h.unbroken s.2),
  long,
  h.fewer,
  refl,
  s.5 h.short,
)

-- a read returned no byte
none_given : (all : Option (List ℕ)) (old : Reader) (buffered : List ℕ) (count : ℕ) (now : Reader) (text : List ℕ) (turn : ℕ)
    (new : Reader) (h : HasEmptied all old buffered count now text turn) (written : Option (List ℕ)) →
    AddsReads now.reads (record { came = []; written = written } ∷ []) new.reads →
    Consumes now.remaining new.remaining [] → Keeps all written → Gives (IsInLine all buffered count) old new h.given
none_given all old buffered count now text turn new h written r k kept =
    subst (Gives (IsInLine all buffered count) old new) (append-nil h.given)
    (gives_read (IsInLine all buffered count) old now new h.given [] written h.gives r k
    (in_line all old buffered count now text turn h written kept))

-- the log ended after a line without a line feed
pub found_last : (all : Option (List ℕ)) (old : Reader) (buffered : List ℕ) (count : ℕ) (now : Reader) (text : List ℕ)
    (turn : ℕ) (new : Reader) (block : List ℕ) → HasEmptied all old buffered count now text turn →
    ReadsOn all now new block (Ok false) → 0 < length text → IsFound all old buffered count (Ok Last) text new block
found_last all old buffered count now text turn new block h r some = (
  (
    h.given,
    none_given all old buffered count now text turn new h r.0 r.1.0 r.1.1 r.2,
    h.whole ∙ sym (append-nil text) ∙ ap (λ (l : List ℕ). text ++ l) (sym r.1.2),
  ),
  r.1.2,
  r.1.3,
  h.unbroken,
  h.short,
  some,
  h.fewer,
)

pub none_left : (l : List ℕ) → (length l == 0) ≡ true → l ≡ []
none_left [] e = refl
none_left (x ∷ l) e = let none : length (x ∷ l) ≡ 0 = eqb-true (length (x ∷ l)) 0 e in absurd (omega arith)

-- the log ended after a line feed
pub found_end : (all : Option (List ℕ)) (old : Reader) (buffered : List ℕ) (count : ℕ) (now : Reader) (text : List ℕ)
    (turn : ℕ) (new : Reader) (block : List ℕ) → HasEmptied all old buffered count now text turn →
    ReadsOn all now new block (Ok false) → (length text == 0) ≡ true → IsFound all old buffered count (Ok End) text new block
found_end all old buffered count now text turn new block h r none = (
  (
    h.given,
    none_given all old buffered count now text turn new h r.0 r.1.0 r.1.1 r.2,
    h.whole ∙ none_left text none ∙ sym r.1.2,
  ),
  r.1.2,
  r.1.3,
)

pub failed_read : (all : Option (List ℕ)) (old : Reader) (buffered : List ℕ) (count : ℕ) (now : Reader) (text : List ℕ)
    (turn : ℕ) (new : Reader) (block : List ℕ) (fault : LogFault) → HasEmptied all old buffered count now text turn →
    ReadsOn all now new block (Err fault) → IsFound all old buffered count (Err fault) text new block
failed_read all old buffered count now text turn new block (Faults.BadLine n) h r = absurd r.1
failed_read all old buffered count now text turn new block (Faults.LineTooLong n) h r = absurd r.1
failed_read all old buffered count now text turn new block Faults.TooManyLines h r = absurd r.1
failed_read all old buffered count now text turn new block Faults.Write h r =
    (h.given, subst (λ (x : Reader). Gives (IsInLine all buffered count) old x h.given) (sym r.1) h.gives)
failed_read all old buffered count now text turn new block Faults.Memory h r = absurd r.1
failed_read all old buffered count now text turn new block Faults.Read h r = (
  text,
  (
    h.given,
    none_given all old buffered count now text turn new h r.0 r.1.0 (keeps_consumes now.remaining new.remaining r.1.1) r.2,
    h.whole ∙ sym (append-nil text) ∙ ap (λ (l : List ℕ). text ++ l) (sym r.1.2),
  ),
  r.1.2,
  (h.unbroken, h.short, λ some. h.fewer),
)

-- ---- after the greatest number of lines

no_line : (count : ℕ) → MayBeginLine count []
no_line count = (tt, omega arith, λ some. absurd (omega arith))

-- the result there, by whether a byte is left
abbrev pub found_there : Result Bool LogFault → Result LineEnd LogFault
found_there (Ok true) = Err Faults.TooManyLines
found_there (Ok false) = Ok End
found_there (Err fault) = Err fault

pub found_behind_all : (all : Option (List ℕ)) (old : Reader) (buffered : List ℕ) (count : ℕ) (text : List ℕ) (new : Reader)
    (rest : List ℕ) (more : Result Bool LogFault) → count ≡ most_lines → HasMore all old buffered more new rest →
    IsFound all old buffered count (found_there more) text new rest
found_behind_all all old buffered count text new rest more e h =
    subst (λ (n : ℕ). IsFound all old buffered n (found_there more) text new rest) (sym e) (go more h)
  where
    go : (more : Result Bool LogFault) → HasMore all old buffered more new rest →
        IsFound all old buffered most_lines (found_there more) text new rest
    go (Ok true) k = (k.0, k.1, refl, k.2)
    go (Ok false) k = k
    go (Err (Faults.BadLine n)) k = absurd k
    go (Err (Faults.LineTooLong n)) k = absurd k
    go (Err Faults.TooManyLines) k = absurd k
    go (Err Faults.Write) k = (
      [],
      subst (λ (x : Reader). Gives (IsInLine all buffered most_lines) old x []) (sym k)
          (gives_none (IsInLine all buffered most_lines) old),
    )
    go (Err Faults.Memory) k = absurd k
    go (Err Faults.Read) k = ([], k.0, k.1, no_line most_lines)

-- one read while the block was empty
read_first : (all : Option (List ℕ)) (old new : Reader) (buffered block : List ℕ) (written : Option (List ℕ)) → buffered ≡ [] →
    AddsReads old.reads (record { came = block; written = written } ∷ []) new.reads →
    Consumes old.remaining new.remaining block → Keeps all written → Gives (IsInLine all buffered most_lines) old new block
read_first all old new buffered block written e r k kept =
    gives_read (IsInLine all buffered most_lines) old old new [] block written (gives_none (IsInLine all buffered most_lines) old)
    r k (subst (λ (l : List ℕ). IsInLine all l most_lines [] written) (sym e) (no_line most_lines, kept))

-- another byte is looked for while the block is empty
pub more_read : (all : Option (List ℕ)) (old new : Reader) (buffered block : List ℕ) (more : Result Bool LogFault) → buffered ≡ [] →
    ReadsOn all old new block more → HasMore all old buffered more new block
more_read all old new buffered block (Ok true) e r = (
  (block, read_first all old new buffered block r.0 e r.1.0 r.1.1 r.2, ap (λ (l : List ℕ). l ++ block) e),
  r.1.2,
  r.1.3,
)
more_read all old new buffered block (Ok false) e r = (
  ([], read_first all old new buffered [] r.0 e r.1.0 r.1.1 r.2, ap (λ (l : List ℕ). l ++ []) e ∙ sym r.1.2),
  r.1.2,
  r.1.3,
)
more_read all old new buffered block (Err (Faults.BadLine n)) e r = absurd r.1
more_read all old new buffered block (Err (Faults.LineTooLong n)) e r = absurd r.1
more_read all old new buffered block (Err Faults.TooManyLines) e r = absurd r.1
more_read all old new buffered block (Err Faults.Write) e r = r.1
more_read all old new buffered block (Err Faults.Memory) e r = absurd r.1
more_read all old new buffered block (Err Faults.Read) e r = (
  (
    [],
    read_first all old new buffered [] r.0 e r.1.0 (keeps_consumes old.remaining new.remaining r.1.1) r.2,
    ap (λ (l : List ℕ). l ++ []) e ∙ sym r.1.2,
  ),
  r.1.2,
)

-- the page was written before
pub reads_kept : (all now : Option (List ℕ)) (old new : Reader) (block : List ℕ) (result : Result Bool LogFault) →
    Keeps all now → ReadsOn now old new block result → ReadsOn all old new block result
reads_kept all now old new block result k r = (r.0, r.1, keeps_more all now r.0 k r.2)

-- ---- a block

front_few : (n : ℕ) (l : List ℕ) → length (take n l) ≤ n
front_few zero l = omega arith
front_few (suc n) [] = omega arith
front_few (suc n) (x ∷ l) = omega (arith, front_few n l)

pub skipped : (bytes : List ℕ) (from to n : ℕ) → n ≤ length (take (to - from) (drop from bytes)) →
    take (to - (from + n)) (drop (from + n) bytes) ≡ drop n (take (to - from) (drop from bytes))
skipped bytes from to n h =
    let few = front_few (to - from) (drop from bytes) in
    let size : to - from ≡ n + (to - (from + n)) = omega arith in
    ap (take (to - (from + n))) (sym (drop-drop n from bytes))
    ∙ sym (drop-take n (to - (from + n)) (drop from bytes))
    ∙ ap (λ (k : ℕ). drop n (take k (drop from bytes))) (sym size)

-- ---- a scan

drop_in_front : (a b : List ℕ) (n : ℕ) → n ≤ length a → drop n (a ++ b) ≡ drop n a ++ b
drop_in_front a b zero h = refl
drop_in_front [] b (suc n) h = absurd (omega arith)
drop_in_front (x ∷ a) b (suc n) h = drop_in_front a b n (omega arith)

pub line_scanned : (buffered text : List ℕ) (k n : ℕ) (rest after : List ℕ) → k ≤ length buffered → k + length text ≤ 2101 →
    n < length (take k buffered) → IsUnbroken (take n (take k buffered)) →
    take k buffered ≡ take n (take k buffered) ++ 10 ∷ drop (n + 1) (take k buffered) → rest ≡ drop (n + 1) buffered →
    after ≡ text ++ take n (take k buffered) → length buffered ≤ block_size → Scans buffered text true rest after
line_scanned buffered text k n rest after fits room here unbroken split left grown block =
    let front : List ℕ = take k buffered in
    let tail : List ℕ = drop k buffered in
    let size : length front ≡ k = length-take-le k buffered fits in
    let few = front_few n front in
    let more : drop (n + 1) buffered ≡ drop (n + 1) front ++ tail =
    ap (drop (n + 1)) (sym (take-append-drop k buffered)) ∙ drop_in_front front tail (n + 1) (omega arith) in (
      take n front,
      sym (take-append-drop k buffered) ∙ ap (λ (l : List ℕ). l ++ tail) split
          ∙ append_assoc (take n front) (10 ∷ drop (n + 1) front) tail
          ∙ ap (λ (l : List ℕ). take n front ++ 10 ∷ l) (sym (left ∙ more)),
      unbroken,
      grown,
      omega (arith, ap length grown, length-append text (take n front)),
      omega (arith, ap length left, length-drop (n + 1) buffered, here, size, block),
    )

pub part_scanned : (buffered text : List ℕ) (k : ℕ) (rest after : List ℕ) → k ≤ length buffered →
    (k < length buffered → k + length text ≡ 2101) → IsUnbroken (take k buffered) → rest ≡ drop (length (take k buffered)) buffered →
    after ≡ text ++ take k buffered → length buffered ≤ block_size → Scans buffered text false rest after
part_scanned buffered text k rest after fits room unbroken left grown few = (
  take k buffered,
  sym (take-append-drop k buffered) ∙ ap (λ (l : List ℕ). take k buffered ++ l) (sym here),
  unbroken,
  grown,
  by_rest rest here,
  less rest here,
)
  where
    size : length (take k buffered) ≡ k
    size = length-take-le k buffered fits

    here : rest ≡ drop k buffered
    here = left ∙ ap (λ (n : ℕ). drop n buffered) size

    by_rest : (l : List ℕ) → l ≡ drop k buffered → (l ≡ []) ⊎ (longest_line < length after)
    by_rest [] e = inl refl
    by_rest (x ∷ l) e =
        let some = ap length e ∙ length-drop k buffered in
        let whole = room (omega arith) in
        inr (omega (arith, ap length grown, length-append text (take k buffered), size))

    less : (l : List ℕ) → l ≡ drop k buffered → length text ≤ longest_line → length l < block_size
    less [] e short = omega arith
    less (x ∷ l) e short =
        let some = ap length e ∙ length-drop k buffered in
        let whole = room (omega arith) in
        omega (arith, some, whole)

-- ---- a line that is held whole

pub held_whole : (buffered : List ℕ) (k count : ℕ) (end : Option ℕ) → k ≤ length buffered → k ≤ 2101 → count < most_lines →
    length buffered ≤ block_size → IsLineEnd (take k buffered) end → IfSome end (IsHeldLine buffered count)
unfolding line_scanned
held_whole buffered k count None fits few fewer block e = tt
held_whole buffered k count (Some n) fits few fewer block e =
    let s = line_scanned buffered [] k n (drop (n + 1) buffered) (take n (take k buffered)) fits (omega arith) e.0 e.1 e.2 refl refl block in
    let size : length (take k buffered) ≡ k = length-take-le k buffered fits in
    let same : take n (take k buffered) ≡ take n buffered = take-take n k buffered (omega (arith, e.0, size)) in (
      omega (arith, e.0, size),
      subst IsUnbroken same e.1,
      s.1 ∙ ap (λ (l : List ℕ). l ++ 10 ∷ drop (n + 1) buffered) same,
      omega (arith, e.0, size),
      fewer,
      block,
    )

pub found_held : (all : Option (List ℕ)) (old : Reader) (buffered : List ℕ) (count n : ℕ) → IsHeldLine buffered count n →
    IsFound all old buffered count (Ok (Held n)) (without_cr (take n buffered)) old (drop (n + 1) buffered)
found_held all old buffered count n h = (
  take n buffered,
  ([], gives_none (IsInLine all buffered count) old, append-nil buffered ∙ h.2 ∙ sym (append_assoc (take n buffered) (10 ∷ []) (drop (n + 1) buffered))),
  h.1,
  omega (arith, h.0, h.3, length-take-le n buffered (omega (arith, h.0))),
  h.4,
  refl,
  omega (arith, length-drop (n + 1) buffered, h.0, h.5),
)

-- the line of a search that copied it is the text
pub found_copied : (all : Option (List ℕ)) (old new : Reader) (buffered block text : List ℕ) (count : ℕ)
    (result : Result LineEnd LogFault) → IfOk result IsCopied → IsFound all old buffered count result text new block →
    IsFound all old buffered count result (line_in result block text) new (rest_in result block)
found_copied all old new buffered block text count (Ok (Held n)) c f = absurd (cc)
found_copied all old new buffered block text count (Ok Line) c f = f
found_copied all old new buffered block text count (Ok Last) c f = f
found_copied all old new buffered block text count (Ok End) c f = f
found_copied all old new buffered block text count (Err fault) c f = f

pub lies_copied : (block : List ℕ) (result : Result LineEnd LogFault) → IfOk result IsCopied →
    IfOk result (λ found. LiesIn found block)
lies_copied block (Ok (Held n)) c = absurd (cc)
lies_copied block (Ok Line) c = tt
lies_copied block (Ok Last) c = tt
lies_copied block (Ok End) c = tt
lies_copied block (Err fault) c = tt
