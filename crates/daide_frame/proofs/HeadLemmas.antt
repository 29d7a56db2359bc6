-- Reading a header: what holds of a good one, and of one that was written.
use Rattle.std.proofs.Common.{◌≡◌, ℕ, ◌<◌, ◌≤◌, true, false, ltb, eqb, Option, Some, Ok, refl, ap, ◌∙◌, arith, suc, inl}
use Rattle.std.proofs.Common.{inr, Bool, cond, List, [], ◌∷◌, None, Result, Err, sym, subst, ◌⊎◌, ◌^◌, ◌&&◌}
use Rattle.std.proofs.Common.{slice_index}
use Rattle.std.specs.Int.{w16, from_be_bytes, to_be_bytes}
use Rattle.std.proofs.lemmas.Nat.{from_be_bytes-to_be_bytes_2}
use Rattle.daide_frame.proofs.Common.{nat_tests, leb_tells, Kind, Im, Rm, Dm, Fm, Em, Head, kind_number, parse_head}
use Rattle.daide_frame.proofs.Common.{head_bytes, Code, WrongEndian, UnknownMessage, WrongLength}
use Rattle.daide_frame.specs.Head.{kind_of, has_right_length, is_im, judged}
use Rattle.daide_frame.proofs.ListLemmas.{ltb_no}

-- a good header

record IsJudged (kind : Kind) (n : ℕ) (right long : Bool) (head : Head) : Type 0 where
  pub right_is : right ≡ true
  pub short : long ≡ false
  pub same_kind : kind ≡ head.kind
  pub same_len : n ≡ head.len

kind_in : Kind → Result Head Code → Kind
kind_in kind (Ok head) = head.kind
kind_in kind (Err code) = kind

len_in : Result Head Code → ℕ
len_in (Ok head) = head.len
len_in (Err code) = 0

judged-ok : (kind : Kind) (n : ℕ) (head : Head) (swapped right long : Bool) →
    cond {A = Result Head Code} swapped (Err WrongEndian)
    (cond right (cond long (Err UnknownMessage) (Ok (record { kind = kind; len = n }))) (Err WrongLength)) ≡ Ok head
    → IsJudged kind n right long head
unfolding kind_in len_in
judged-ok kind n head true right long e = absurd (cc)
judged-ok kind n head false false long e = absurd (cc)
judged-ok kind n head false true true e = absurd (cc)
judged-ok kind n head false true false e =
    record { right_is = refl; short = refl; same_kind = ap (kind_in kind) e; same_len = ap len_in e }

not_above : (n limit : ℕ) → ltb limit n ≡ false → n ≤ limit
not_above n limit e = by_order (leb_tells (suc limit) n)
  where
    by_order : ((ltb limit n ≡ true) × (suc limit ≤ n)) ⊎ ((ltb limit n ≡ false) × (n < suc limit)) → n ≤ limit
    by_order (inl t) = absurd (let h : true ≡ false = sym t.0 ∙ e in cc)
    by_order (inr t) = omega (arith, t.1)

-- a good header has the right length for its kind, within the limit
pub record IsGood (limit : ℕ) (head : Head) : Type 0 where
  pub right : has_right_length head.kind head.len ≡ true
  pub within : head.len ≤ limit

judged-good : (o : Option Kind) (n limit : ℕ) (head : Head) → judged o n limit ≡ Ok head → IsGood limit head
judged-good None n limit head e = absurd (cc)
judged-good (Some kind) n limit head e =
    let h = judged-ok kind n head (is_im kind && eqb n 1024) (has_right_length kind n) (ltb limit n) e in
    record {
      right = ap (λ (k : Kind). has_right_length k head.len) (sym h.same_kind)
          ∙ ap (has_right_length kind) (sym h.same_len) ∙ h.right_is;
      within = subst (λ (m : ℕ). m ≤ limit) h.same_len (not_above n limit h.short);
    }

pub parse_head-good : (b : List ℕ) (limit : ℕ) (head : Head) → parse_head b limit ≡ Ok head → IsGood limit head
unfolding parse_head
parse_head-good b limit head e =
    judged-good (kind_of (slice_index b 0)) (from_be_bytes w16 (slice_index b 2 ∷ slice_index b 3 ∷ [])) limit head e

-- a header that was written

kind_of-kind_number : (kind : Kind) → kind_of (kind_number kind) ≡ Some kind
kind_of-kind_number Im = refl
kind_of-kind_number Rm = refl
kind_of-kind_number Dm = refl
kind_of-kind_number Fm = refl
kind_of-kind_number Em = refl

-- a right length of an IM is not the one with its bytes swapped
not_swapped : (kind : Kind) (n : ℕ) → has_right_length kind n ≡ true → (is_im kind && eqb n 0x0400) ≡ false
not_swapped Im n h = grind (arith, nat_tests)
not_swapped Rm n h = refl
not_swapped Dm n h = refl
not_swapped Fm n h = refl
not_swapped Em n h = refl

judged-right : (kind : Kind) (n cap : ℕ) → has_right_length kind n ≡ true → n ≤ cap →
    judged (Some kind) n cap ≡ Ok (record { kind = kind; len = n })
judged-right kind n cap h l = rw (not_swapped kind n h) (rw h (rw (ltb_no cap n l) refl))

pub parse_head-head_bytes : (head : Head) (cap : ℕ) → head.len < 2 ^ 16 → has_right_length head.kind head.len ≡ true →
    head.len ≤ cap → parse_head (head_bytes head) cap ≡ Ok head
unfolding parse_head head_bytes
parse_head-head_bytes head cap b h l =
    let n : from_be_bytes w16 (to_be_bytes w16 head.len) ≡ head.len = from_be_bytes-to_be_bytes_2 head.len b in
    ap (λ (o : Option Kind). judged o (from_be_bytes w16 (to_be_bytes w16 head.len)) cap)
    (kind_of-kind_number head.kind)
    ∙ ap (λ (m : ℕ). judged (Some head.kind) m cap) n
    ∙ judged-right head.kind head.len cap h l
