-- The lines for incomplete frames, in order.
use Rattle.daide_log.proofs.Common.{◌≡◌, ℕ, ◌+◌, List, [], ◌∷◌, ◌++◌, length, Option, refl, sym, ap, ◌∙◌, subst, arith}
use Rattle.daide_log.proofs.Common.{append_assoc, append-nil, length-append, zero, suc, ◌-◌, ◌<◌, ◌≤◌, get_or, All}
use Rattle.daide_log.proofs.Common.{Bool, true, false, cond, take, drop, Some, None, nat_lt, SessionView, Version}
use Rattle.daide_log.proofs.Common.{states_of, IsIdle, Appends, texts_of, Side}
use Rattle.daide_frame.proofs.ListLemmas.{ltb_no}
use Rattle.daide_frame.specs.Frames.{announced, announced_by, head_in}
use Rattle.daide_log.specs.declared.report.Part as reports
use Rattle.daide_log.specs.Explained.{Part, part_of, part_text, unfinished_parts, parts_from, session_number}
use Rattle.daide_log.specs.Explaining.{HasPut, part_by, part_with}
use Rattle.daide_log.proofs.PlayLemmas.{appends_more, texts_of-append}

-- a prefix of the lines is written and counted, and these are left
pub record PutsParts (all left : List Part) (count : ℕ) (a b : Option (List ℕ)) : Type 0 where
  pub done : List Part
  pub whole : done ++ left ≡ all
  pub put : HasPut done count a b

pub both_put : (one other : List Part) (m n : ℕ) (a b c : Option (List ℕ)) → HasPut one m a b → HasPut other n b c →
    HasPut (one ++ other) (m + n) a c
both_put one other m n a b c h k = (
  omega (arith, h.0, k.0, length-append one other),
  subst (Appends a c) (sym (texts_of-append part_text one other))
      (appends_more a b c (texts_of part_text one) (texts_of part_text other) h.1 k.1),
)

pub more_parts : (all left more after : List Part) (m n : ℕ) (a b c : Option (List ℕ)) → PutsParts all left m a b →
    left ≡ more ++ after → HasPut more n b c → PutsParts all after (m + n) a c
more_parts all left more after m n a b c p e h = record {
  done = p.done ++ more;
  whole = append_assoc p.done more after ∙ ap (λ (l : List Part). p.done ++ l) (sym e) ∙ p.whole;
  put = both_put p.done more m n a b c p.put h;
}

-- ---- one frame

abbrev one_part : Option ℕ → Side → Option ℕ → ℕ → List Part
one_part number side size came = record { session = number; side = side; came = came; size = size } ∷ []

pub part_is : (number : Option ℕ) (side : Side) (cap : ℕ) (at_fault : Bool) (frame_bytes : List ℕ) →
    part_with number side (part_by (length (take 4 frame_bytes)) (length (drop 4 frame_bytes)) at_fault (announced cap frame_bytes))
    ≡ part_of number side cap at_fault frame_bytes
part_is number side cap at_fault [] = refl
part_is number side cap true (p ∷ []) = refl
part_is number side cap true (p ∷ q ∷ []) = refl
part_is number side cap true (p ∷ q ∷ r ∷ []) = refl
part_is number side cap true (p ∷ q ∷ r ∷ s ∷ frame_bytes) = refl
part_is number side cap false (p ∷ []) = refl
part_is number side cap false (p ∷ q ∷ []) = refl
part_is number side cap false (p ∷ q ∷ r ∷ []) = refl
part_is number side cap false (p ∷ q ∷ r ∷ s ∷ frame_bytes) =
    let same : 4 + length frame_bytes ≡ length (p ∷ q ∷ r ∷ s ∷ frame_bytes) = omega arith in
    let long : nat_lt (length (p ∷ q ∷ r ∷ s ∷ frame_bytes)) 4 ≡ false = ltb_no (length (p ∷ q ∷ r ∷ s ∷ frame_bytes)) 4 (omega arith) in
    ap (one_part number side (Some (4 + announced cap (p ∷ q ∷ r ∷ s ∷ frame_bytes)))) same
    ∙ ap (λ (b : Bool). one_part number side (cond b None (Some (4 + announced cap (p ∷ q ∷ r ∷ s ∷ frame_bytes))))
    (length (p ∷ q ∷ r ∷ s ∷ frame_bytes))) (sym long)

pub part_found : (number : Option ℕ) (side : Side) (cap : ℕ) (at_fault : Bool) (frame_bytes pending : List ℕ) (header body : ℕ)
    (fault : Bool) (size : ℕ) (part : Option reports.Part) → header ≡ length (take 4 frame_bytes) → body ≡ length (drop 4 frame_bytes) →
    fault ≡ at_fault → size ≡ announced_by (head_in cap frame_bytes) → part ≡ part_by header body fault size → frame_bytes ≡ pending →
    part_with number side part ≡ part_of number side cap at_fault pending
unfolding announced
part_found number side cap at_fault frame_bytes pending header body fault size part e f k n p tied =
    ap (part_with number side) (p
    ∙ ap (λ (h : ℕ). part_by h body fault size) e
    ∙ ap (λ (b : ℕ). part_by (length (take 4 frame_bytes)) b fault size) f
    ∙ ap (λ (b : Bool). part_by (length (take 4 frame_bytes)) (length (drop 4 frame_bytes)) b size) k
    ∙ ap (λ (m : ℕ). part_by (length (take 4 frame_bytes)) (length (drop 4 frame_bytes)) at_fault m) n)
    ∙ part_is number side cap at_fault frame_bytes
    ∙ ap (part_of number side cap at_fault) tied

-- ---- one session of a slice at a time

take_all : {A : Type 0} → (n : ℕ) (v : List A) → length v ≤ n → take n v ≡ v
take_all zero [] h = refl
take_all (suc n) [] h = refl
take_all zero (x ∷ v) h = absurd (omega arith)
take_all {A} (suc n) (x ∷ v) h = ap (λ (l : List A). x ∷ l) (take_all n v (omega (arith, h)))

pub parts_next : (version : Version) (number n m k : ℕ) (all : List Part) (rest : List SessionView) (session : SessionView)
    (a b c : Option (List ℕ)) → PutsParts all (parts_from version number (states_of rest)) m a b → 1 ≤ length rest →
    length rest - 1 ≤ n → session ≡ get_or rest 0 session → HasPut (unfinished_parts (session_number version number) session.state) k b c →
    PutsParts all (parts_from version (number + 1) (states_of (take n (drop 1 rest)))) (m + k) a c
parts_next version number n m k all [] session a b c p some long is put = absurd (omega arith)
parts_next version number n m k all (x ∷ rest) session a b c p some long is put =
    subst (λ (l : List SessionView). PutsParts all (parts_from version (number + 1) (states_of l)) (m + k) a c)
    (sym (take_all n rest (omega (arith, long))))
    (more_parts all (parts_from version number (states_of (x ∷ rest))) (unfinished_parts (session_number version number) x.state)
    (parts_from version (number + 1) (states_of rest)) m k a b c p refl
    (subst (λ (s : SessionView). HasPut (unfinished_parts (session_number version number) s.state) k b c) is put))

pub parts_over : (version : Version) (number count : ℕ) (all : List Part) (rest : List SessionView) (a b : Option (List ℕ)) →
    PutsParts all (parts_from version number (states_of rest)) count a b → length rest < 1 → HasPut all count a b
parts_over version number count all [] a b p none =
    subst (λ (l : List Part). HasPut l count a b) (sym (append-nil p.done) ∙ p.whole) p.put
parts_over version number count all (x ∷ rest) a b p none = absurd (omega arith)

pub idle_next : (rest : List SessionView) (n : ℕ) → All IsIdle rest → 1 ≤ length rest → length rest - 1 ≤ n →
    All IsIdle (take n (drop 1 rest))
idle_next [] n all some long = absurd (omega arith)
idle_next (x ∷ rest) n all some long =
    subst (All IsIdle) (sym (take_all n rest (omega (arith, long)))) (λ k d less. all (suc k) d (omega (arith, less)))

pub one_less : (rest : List SessionView) (n number total : ℕ) → number + length rest ≡ 1 + total → 1 ≤ length rest →
    length rest - 1 ≤ n → (number + 1) + length (take n (drop 1 rest)) ≡ 1 + total
one_less [] n number total e some long = absurd (omega arith)
one_less (x ∷ rest) n number total e some long =
    let whole = ap (λ (l : List SessionView). length l) (take_all n rest (omega (arith, long))) in
    omega (arith, whole, e)
