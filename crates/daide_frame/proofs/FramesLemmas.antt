-- The definitions of the first frame, by how much of it has arrived.
use Rattle.std.proofs.Common.{◌≡◌, ℕ, zero, suc, ◌+◌, ◌-◌, ◌<◌, ◌≤◌, true, false, cond, leb, eqb, List, [], ◌∷◌, ◌++◌}
use Rattle.std.proofs.Common.{length, take, drop, Option, Some, None, Result, Ok, Err, refl, sym, ap, ◌∙◌, subst, arith}
use Rattle.std.proofs.Common.{length-append, is_some}
use Rattle.std.proofs.lemmas.List.{take_all}
use Rattle.std.proofs.Math.Seq.{drop-append_seam}
use Rattle.daide_frame.proofs.Common.{lt-ltb, nat_tests, Kind, Im, Rm, Dm, Fm, Em, Head, Code, InvalidToken, Bodied}
use Rattle.daide_frame.proofs.Common.{kind_number, parse_head}
use Rattle.daide_frame.specs.Frames.{first_alien, alien_in, FrameEvent, Begun, Whole, Wrong, items_of_body, items_from_head}
use Rattle.daide_frame.specs.Frames.{first_items, events_ending_at, last_items, items_of_step}
use Rattle.daide_frame.specs.Frames.{head_part, head_in, missing_of_body, missing}
use Rattle.daide_frame.proofs.ListLemmas.{ltb_no, eqb_no, take_whole}

-- before the header is whole no event ends
pub last_items-short : (limit : ℕ) (b : List ℕ) → length b < 4 → last_items limit b ≡ []
unfolding last_items first_items
last_items-short limit b h = rw (lt-ltb (length b) 4 h) refl

pub head_in-short : (limit : ℕ) (b : List ℕ) → length b < 4 → head_in limit b ≡ None
unfolding head_in
head_in-short limit b h = rw (lt-ltb (length b) 4 h) refl

pub head_in-whole : (limit : ℕ) (b : List ℕ) → 4 ≤ length b → head_in limit b ≡ head_part (parse_head b limit)
unfolding head_in
head_in-whole limit b h = rw (ltb_no (length b) 4 h) refl

-- the events at the header's last byte
abbrev pub at_head : Result Head Code → List FrameEvent
at_head (Err code) = Wrong code ∷ []
at_head (Ok head) = Begun head ∷ (cond (eqb head.len 0) (Whole head [] ∷ []) [])

pub take-nothing : (n : ℕ) → ◌≡◌ {A = List ℕ} (take n []) []
take-nothing zero = refl
take-nothing (suc n) = refl

pub alien_in-nothing : (head : Head) → alien_in head [] ≡ None
alien_in-nothing head =
    rw (take-nothing head.len)
    (elim (eqb (kind_number head.kind) 2) as (λ b. cond b (first_alien []) None
    ≡ None) [ true ↦ refl | false ↦ refl ])

events_ending_at-head : (r : Result Head Code) → events_ending_at 4 (items_from_head r []) ≡ at_head r
events_ending_at-head (Err code) = refl
events_ending_at-head (Ok head) = rw (alien_in-nothing head) (rw (take-nothing head.len) (grind (arith, nat_tests)))

pub last_items-head4 : (limit p q r s : ℕ) →
    last_items limit (p ∷ q ∷ r ∷ s ∷ []) ≡ at_head (parse_head (p ∷ q ∷ r ∷ s ∷ []) limit)
unfolding last_items first_items
last_items-head4 limit p q r s = events_ending_at-head (parse_head (p ∷ q ∷ r ∷ s ∷ []) limit)

pub last_items-head : (limit : ℕ) (b : List ℕ) → length b ≡ 4 → last_items limit b ≡ at_head (parse_head b limit)
last_items-head limit [] e = absurd (omega arith)
last_items-head limit (p ∷ []) e = absurd (omega arith)
last_items-head limit (p ∷ q ∷ []) e = absurd (omega arith)
last_items-head limit (p ∷ q ∷ r ∷ []) e = absurd (omega arith)
last_items-head limit (p ∷ q ∷ r ∷ s ∷ []) e = last_items-head4 limit p q r s
last_items-head limit (p ∷ q ∷ r ∷ s ∷ t ∷ u) e = absurd (omega arith)

-- the events at a byte of the body
abbrev pub at_body : Head → List ℕ → Option ℕ → List FrameEvent
at_body head v (Some n) = cond (eqb n (length v)) (Wrong InvalidToken ∷ []) []
at_body head v None = cond (eqb head.len (length v)) (Whole head v ∷ []) []

whole_if : (head : Head) (v : List ℕ) →
    events_ending_at (4 + length v)
    (cond (leb head.len (length v)) (record { item = Whole head (take head.len v); at = 4 + head.len } ∷ []) [])
    ≡ cond (eqb head.len (length v)) (Whole head v ∷ []) []
whole_if head v = grind (arith, nat_tests, take_all)

events_ending_at-body : (head : Head) (v : List ℕ) (o : Option ℕ) →
    events_ending_at (4 + length v) (items_of_body head v o) ≡ at_body head v o
events_ending_at-body head v (Some n) = grind (arith, nat_tests)
events_ending_at-body head v None = whole_if head v

pub parse_head-append4 : (limit p q r s : ℕ) (v : List ℕ) →
    parse_head (p ∷ q ∷ r ∷ s ∷ v) limit ≡ parse_head (p ∷ q ∷ r ∷ s ∷ []) limit
unfolding parse_head
parse_head-append4 limit p q r s v = refl

-- bytes after a header do not change how it is read
pub parse_head-append : (limit : ℕ) (a v : List ℕ) → length a ≡ 4 → parse_head (a ++ v) limit ≡ parse_head a limit
parse_head-append limit [] v e = absurd (omega arith)
parse_head-append limit (p ∷ []) v e = absurd (omega arith)
parse_head-append limit (p ∷ q ∷ []) v e = absurd (omega arith)
parse_head-append limit (p ∷ q ∷ r ∷ []) v e = absurd (omega arith)
parse_head-append limit (p ∷ q ∷ r ∷ s ∷ []) v e = parse_head-append4 limit p q r s v
parse_head-append limit (p ∷ q ∷ r ∷ s ∷ t ∷ u) v e = absurd (omega arith)

-- a byte of the body ends no event of the header
items_past_head : (head : Head) (v : List ℕ) (o : Option ℕ) (n : ℕ) → n ≡ 4 + length v → 0 < length v →
    events_ending_at n (record { item = Begun head; at = 4 } ∷ items_of_body head v o) ≡ at_body head v o
items_past_head head v o n e f =
    rw (eqb_no 4 n (omega arith))
    (subst (λ (k : ℕ). events_ending_at k (items_of_body head v o) ≡ at_body head v o) (sym e) (events_ending_at-body head v o))

pub last_items-body4 : (limit p q r s : ℕ) (v : List ℕ) (head : Head) → parse_head (p ∷ q ∷ r ∷ s ∷ []) limit ≡ Ok head →
    0 < length v → last_items limit (p ∷ q ∷ r ∷ s ∷ v) ≡ at_body head v (alien_in head v)
unfolding last_items first_items
last_items-body4 limit p q r s v head h f =
    rw (ltb_no (length (p ∷ q ∷ r ∷ s ∷ v)) 4 (omega arith))
    (rw (parse_head-append4 limit p q r s v)
    (rw h (items_past_head head v (alien_in head v) (length (p ∷ q ∷ r ∷ s ∷ v)) (omega arith) f)))

pub last_items-body : (limit : ℕ) (a v : List ℕ) (head : Head) → length a ≡ 4 → parse_head a limit ≡ Ok head →
    0 < length v → last_items limit (a ++ v) ≡ at_body head v (alien_in head v)
last_items-body limit [] v head e h f = absurd (omega arith)
last_items-body limit (p ∷ []) v head e h f = absurd (omega arith)
last_items-body limit (p ∷ q ∷ []) v head e h f = absurd (omega arith)
last_items-body limit (p ∷ q ∷ r ∷ []) v head e h f = absurd (omega arith)
last_items-body limit (p ∷ q ∷ r ∷ s ∷ []) v head e h f = last_items-body4 limit p q r s v head h f
last_items-body limit (p ∷ q ∷ r ∷ s ∷ t ∷ u) v head e h f = absurd (omega arith)

-- while bytes of the body are missing, no token was alien
pub wanted : (head : Head) (w : List ℕ) → 0 < missing_of_body (Some head) w →
    (alien_in head w ≡ None) × (length w < head.len)
wanted head w h = by_alien (alien_in head w) h
  where
    by_alien : (o : Option ℕ) → 0 < cond (is_some o) 0 (head.len - length w) → (o ≡ None) × (length w < head.len)
    by_alien None h = (refl, omega arith)
    by_alien (Some n) h = absurd (omega arith)

-- only the tokens of a DM are checked
pub alien_in-dm : (head : Head) (v : List ℕ) → head.kind ≡ Dm → length v ≤ head.len → alien_in head v ≡ first_alien v
alien_in-dm head v e l = rw e (ap first_alien (take_whole head.len v l))

not_dm : (kind : Kind) → (kind ≡ Dm → ⊥) → eqb (kind_number kind) 2 ≡ false
not_dm Im h = refl
not_dm Rm h = refl
not_dm Dm h = absurd (h refl)
not_dm Fm h = refl
not_dm Em h = refl

pub alien_in-other : (head : Head) (v : List ℕ) → (head.kind ≡ Dm → ⊥) → alien_in head v ≡ None
alien_in-other head v h = rw (not_dm head.kind h) refl

pub told_whole : (head : Head) (v : List ℕ) → 0 < length v → items_of_step (Bodied head) v ≡ Whole head v ∷ []
told_whole head [] h = absurd (omega arith)
told_whole head (x ∷ v) h = refl

pub first_items-short : (limit : ℕ) (b : List ℕ) → length b < 4 → first_items limit b ≡ []
unfolding first_items
first_items-short limit b h = rw (lt-ltb (length b) 4 h) refl

pub missing-four : (limit : ℕ) (header body : List ℕ) → length header ≡ 4 →
    missing limit (header ++ body) ≡ missing_of_body (head_in limit (header ++ body)) body
unfolding missing
missing-four limit header body e =
    rw (ltb_no (length (header ++ body)) 4 (omega (arith, length-append header body)))
    (ap (missing_of_body (head_in limit (header ++ body)))
    (subst (λ (n : ℕ). drop n (header ++ body) ≡ body) e (drop-append_seam header body)))

pub missing-of4 : (limit p q r s : ℕ) (w : List ℕ) →
    missing limit (p ∷ q ∷ r ∷ s ∷ w) ≡ missing_of_body (head_part (parse_head (p ∷ q ∷ r ∷ s ∷ []) limit)) w
missing-of4 limit p q r s w =
    missing-four limit (p ∷ q ∷ r ∷ s ∷ []) w refl
    ∙ ap (λ (o : Option Head). missing_of_body o w) (head_in-whole limit (p ∷ q ∷ r ∷ s ∷ w) (omega arith)
    ∙ ap head_part (parse_head-append4 limit p q r s w))

pub missing-short : (limit : ℕ) (b : List ℕ) → length b < 4 → missing limit b ≡ 4 - length b
unfolding missing
missing-short limit b h = rw (lt-ltb (length b) 4 h) refl
