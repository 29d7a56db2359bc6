-- An input as one frame, by the steps of a cutter.
use Rattle.std.proofs.Common.{◌≢◌, zero, suc, ◌<◌, cond, ltb, leb, eqb, is_some, ◌&&◌}
use Rattle.std.proofs.lemmas.Bool.{lt-ltb}
use Rattle.std.proofs.lemmas.Bool.Decides.{nat_tests}
use Rattle.daide_show.proofs.Common.{◌≡◌, ℕ, inl, inr, ◌⊎◌, ◌+◌, ◌-◌, ◌≤◌, Bool, true, false, List, [], ◌∷◌, ◌++◌}
use Rattle.daide_show.proofs.Common.{length, take, drop, Option, Some, None, Result, Ok, Err, refl, sym, ap, ◌∙◌, subst}
use Rattle.daide_show.proofs.Common.{arith, length-append, append_assoc, append-nil, take-append-le, length-take-le}
use Rattle.daide_show.proofs.Common.{Code, Kind}
use Rattle.daide_frame.specs.declared.head.Head.{Head}
use Rattle.daide_frame.specs.declared.cutter.Step.{Step}
use Rattle.daide_frame.specs.declared.cutter.Step.TheVariants.{More, Headed, Bodied, Fault}
use Rattle.daide_frame.specs.declared.code.Code.TheVariants.{WrongEndian, WrongLength, UnknownMessage}
use Rattle.daide_frame.specs.Head.{kind_number, is_im, has_right_length, judged, kind_of, parse_head}
use Rattle.std.specs.Int.{w16, from_be_bytes}
use Rattle.daide_frame.specs.Frames.{shifted_place, is_alien, first_alien, alien_in, FrameEvent, Begun, Whole, Wrong, EventAtOffset}
use Rattle.daide_frame.specs.Frames.{items_of_body, items_from_head, first_items, frame_events_of, is_nothing, last_items, fed}
use Rattle.daide_frame.specs.Frames.{fed_items, items_of_step, IsFault, head_part, head_in, missing_of_body, missing}
use Rattle.daide_frame.proofs.CutsAgree.{cut_piece}
use Rattle.daide_frame.proofs.FramesLemmas.{take-nothing}
use Rattle.daide_frame.proofs.ListLemmas.{leb_yes}
use Rattle.daide_show.specs.Shown.{faulty, whole, not_one, parse_frame_events, parse_frame}
use Rattle.daide_show.specs.Found.{parsed_input_of, parsed_input_by}
use Rattle.daide_show.specs.declared.frame_view.one_frame.ParsedInput.{ParsedInput}

-- the items end: with a complete frame, or with a fault
abbrev is_over : List FrameEvent → Bool
is_over [] = false
is_over (Begun head ∷ items) = is_over items
is_over (Whole head body ∷ items) = true
is_over (Wrong code ∷ items) = true

items_short : (cap : ℕ) (b : List ℕ) → length b < 4 → first_items cap b ≡ []
unfolding first_items
items_short cap b h = rw (lt-ltb (length b) 4 h) refl

items_long : (cap p q r s : ℕ) (w : List ℕ) →
    first_items cap (p ∷ q ∷ r ∷ s ∷ w) ≡ items_from_head (parse_head (p ∷ q ∷ r ∷ s ∷ []) cap) w
unfolding first_items parse_head
items_long cap p q r s w = let enough : ltb (length (p ∷ q ∷ r ∷ s ∷ w)) 4 ≡ false = grind (arith, nat_tests) in
    rw enough refl

-- the first alien token is the same, whatever follows
alien_stays : (x z : List ℕ) (n : ℕ) → first_alien x ≡ Some n → first_alien (x ++ z) ≡ Some n
alien_stays [] z n e = absurd cc
alien_stays (h ∷ []) z n e = absurd cc
alien_stays (h ∷ l ∷ x) z n e = go (is_alien h l) (first_alien x) refl (λ k. alien_stays x z k) e
  where
    go : (alien : Bool) (o : Option ℕ) → first_alien x ≡ o →
        ((k : ℕ) → first_alien x ≡ Some k → first_alien (x ++ z) ≡ Some k)
        → cond alien (Some 2) (shifted_place 2 o) ≡ Some n → cond alien (Some 2) (shifted_place 2 (first_alien (x ++ z))) ≡ Some n
    go false None i more j = absurd cc
    go false (Some k) i more j = rw (more k i) j
    go true o i more j = j

-- a prefix of a longer list begins with the prefix of a shorter one
take_longer : (n : ℕ) (w more : List ℕ) → (z : List ℕ) × (take n (w ++ more) ≡ take n w ++ z)
take_longer zero w more = ([], refl)
take_longer (suc n) [] more = (take (suc n) more, refl)
take_longer (suc n) (x ∷ w) more = let rest = take_longer n w more in (rest.0, ap (λ (l : List ℕ). x ∷ l) rest.1)

alien_in_stays : (head : Head) (w more : List ℕ) (n : ℕ) → alien_in head w ≡ Some n → alien_in head (w ++ more) ≡ Some n
alien_in_stays head w more n e = go (eqb (kind_number head.kind) 2) e
  where
    go : (dm : Bool) → cond dm (first_alien (take head.len w)) None ≡ Some n →
        cond dm (first_alien (take head.len (w ++ more))) None ≡ Some n
    go true e = let longer = take_longer head.len w more in rw longer.1 (alien_stays (take head.len w) longer.0 n e)
    go false e = absurd cc

leb_is : (a b : ℕ) → leb a b ≡ true → a ≤ b
leb_is a b e = grind (arith, nat_tests)

leb_not : (a b : ℕ) → leb a b ≡ false → b < a
leb_not a b e = grind (arith, nat_tests)

body_stays : (head : Head) (w more : List ℕ) → is_over (frame_events_of (items_of_body head w (alien_in head w))) ≡ true
    → frame_events_of (items_of_body head (w ++ more) (alien_in head (w ++ more)))
    ≡ frame_events_of (items_of_body head w (alien_in head w))
body_stays head w more over = go (alien_in head w) refl over
  where
    whole : (b : Bool) → leb head.len (length w) ≡ b → alien_in head w ≡ None →
        is_over (frame_events_of (cond b (record { item = Whole head (take head.len w); at = 4 + head.len } ∷ []) [])) ≡ true
        → frame_events_of (items_of_body head (w ++ more) (alien_in head (w ++ more)))
        ≡ frame_events_of (cond b (record { item = Whole head (take head.len w); at = 4 + head.len } ∷ []) [])
    whole false l none over = absurd cc
    whole true l none over =
        let within : head.len ≤ length w = leb_is head.len (length w) l in
        let front : take head.len (w ++ more) ≡ take head.len w = take-append-le head.len w more within in
        let longer : leb head.len (length (w ++ more)) ≡ true =
        leb_yes head.len (length (w ++ more)) (omega (arith, length-append w more)) in
        let same : alien_in head (w ++ more) ≡ None =
        ap (λ (x : List ℕ). cond (eqb (kind_number head.kind) 2) (first_alien x) None) front ∙ none in
        rw (same, longer, front) refl

    go : (o : Option ℕ) → alien_in head w ≡ o → is_over (frame_events_of (items_of_body head w o)) ≡ true
        → frame_events_of (items_of_body head (w ++ more) (alien_in head (w ++ more))) ≡ frame_events_of (items_of_body head w o)
    go (Some n) e over = rw (alien_in_stays head w more n e) refl
    go None e over = whole (leb head.len (length w)) refl e over

head_stays : (r : Result Head Code) (w more : List ℕ) → is_over (frame_events_of (items_from_head r w)) ≡ true
    → frame_events_of (items_from_head r (w ++ more)) ≡ frame_events_of (items_from_head r w)
head_stays (Err code) w more over = refl
head_stays (Ok head) w more over = ap (λ (items : List FrameEvent). Begun head ∷ items) (body_stays head w more over)

-- bytes after the end of the first frame do not change its items
items_stay : (cap : ℕ) (b more : List ℕ) → is_over (frame_events_of (first_items cap b)) ≡ true
    → frame_events_of (first_items cap (b ++ more)) ≡ frame_events_of (first_items cap b)
items_stay cap b more over = go b over
  where
    short : (b : List ℕ) → length b < 4 → is_over (frame_events_of (first_items cap b)) ≡ true → ⊥
    short b few over = let none : false ≡ true = rw (items_short cap b few) at over in cc

    go : (b : List ℕ) → is_over (frame_events_of (first_items cap b)) ≡ true →
        frame_events_of (first_items cap (b ++ more)) ≡ frame_events_of (first_items cap b)
    go [] over = absurd (short [] (omega arith) over)
    go (p ∷ []) over = absurd (short (p ∷ []) (omega arith) over)
    go (p ∷ q ∷ []) over = absurd (short (p ∷ q ∷ []) (omega arith) over)
    go (p ∷ q ∷ r ∷ []) over = absurd (short (p ∷ q ∷ r ∷ []) (omega arith) over)
    go (p ∷ q ∷ r ∷ s ∷ w) over =
        let now = items_long cap p q r s w in
        ap frame_events_of (items_long cap p q r s (w ++ more))
        ∙ head_stays (parse_head (p ∷ q ∷ r ∷ s ∷ []) cap) w more (ap (λ (l : List EventAtOffset). is_over (frame_events_of l)) (sym now)
        ∙ over)
        ∙ ap frame_events_of (sym now)

-- the fed bytes are a prefix of those given
fed_front : (cap : ℕ) (bytes piece : List ℕ) → (skipped : List ℕ) × (fed cap bytes piece ++ skipped ≡ bytes ++ piece)
fed_front cap bytes [] = ([], append-nil bytes ∙ sym (append-nil bytes))
fed_front cap bytes (x ∷ piece) =
    go (is_nothing (last_items cap (bytes ++ x ∷ []))) (fed_front cap (bytes ++ x ∷ []) piece)
  where
    go : (b : Bool) → ((skipped : List ℕ) × (fed cap (bytes ++ x ∷ []) piece ++ skipped ≡ (bytes ++ x ∷ []) ++ piece))
        → (skipped : List ℕ) × (cond b (fed cap (bytes ++ x ∷ []) piece) (bytes ++ x ∷ []) ++ skipped
        ≡ bytes ++ x ∷ piece)
    go true rest = (rest.0, rest.1 ∙ append_assoc bytes (x ∷ []) piece)
    go false rest = (piece, append_assoc bytes (x ∷ []) piece)

-- the result for bytes that begin with a complete frame follows from its items
found_over : (cap : ℕ) (b more : List ℕ) (items : List FrameEvent) → frame_events_of (first_items cap b) ≡ items →
    is_over items ≡ true
    → parse_frame cap (b ++ more) ≡ parse_frame_events (length (b ++ more)) items
unfolding parse_frame
found_over cap b more items e over =
    ap (parse_frame_events (length (b ++ more))) (items_stay cap b more (ap is_over e ∙ over) ∙ e)

found_items : (cap : ℕ) (b : List ℕ) (items : List FrameEvent) → frame_events_of (first_items cap b) ≡ items →
    parse_frame cap b ≡ parse_frame_events (length b) items
unfolding parse_frame
found_items cap b items e = ap (parse_frame_events (length b)) e

found_none : (n : ℕ) (items : List FrameEvent) → is_over items ≡ false → parse_frame_events n items ≡ not_one
found_none n [] e = refl
found_none n (Begun head ∷ items) e = found_none n items e
found_none n (Whole head body ∷ items) e = absurd cc
found_none n (Wrong code ∷ items) e = absurd cc

-- fewer bytes than a header are not a frame
pub found_short : (cap : ℕ) (b : List ℕ) → length b < 4 → not_one ≡ parse_frame cap b
unfolding parse_frame
found_short cap b few = rw (items_short cap b few) refl

-- a frame at fault has a header
pub fault_has_header : (cap : ℕ) (b : List ℕ) (code : Code) → faulty code ≡ parse_frame cap b → 4 ≤ length b
fault_has_header cap [] code e = let short = found_short cap [] (omega arith) in absurd cc
fault_has_header cap (p ∷ []) code e = let short = found_short cap (p ∷ []) (omega arith) in absurd cc
fault_has_header cap (p ∷ q ∷ []) code e = let short = found_short cap (p ∷ q ∷ []) (omega arith) in absurd cc
fault_has_header cap (p ∷ q ∷ r ∷ []) code e =
    let short = found_short cap (p ∷ q ∷ r ∷ []) (omega arith) in absurd cc
fault_has_header cap (p ∷ q ∷ r ∷ s ∷ w) code e = omega arith

-- a complete header has an item
header_items : (cap : ℕ) (h : List ℕ) → length h ≡ 4 → frame_events_of (first_items cap h) ≡ [] → ⊥
header_items cap [] e none = absurd (omega arith)
header_items cap (p ∷ []) e none = absurd (omega arith)
header_items cap (p ∷ q ∷ []) e none = absurd (omega arith)
header_items cap (p ∷ q ∷ r ∷ []) e none = absurd (omega arith)
header_items cap (p ∷ q ∷ r ∷ s ∷ w) e none =
    go (parse_head (p ∷ q ∷ r ∷ s ∷ []) cap) (sym (ap frame_events_of (items_long cap p q r s w)) ∙ none)
  where
    go : (o : Result Head Code) → frame_events_of (items_from_head o w) ≡ [] → ⊥
    go (Ok head) e = absurd cc
    go (Err code) e = absurd cc

-- an incomplete body has fewer bytes than the header announces
wanted_body : (head : Head) (w : List ℕ) → is_over (frame_events_of (items_of_body head w (alien_in head w))) ≡ false →
    length w < head.len
wanted_body head w open_end = go (alien_in head w) open_end
  where
    by_length : (b : Bool) → leb head.len (length w) ≡ b →
        is_over (frame_events_of (cond b (record { item = Whole head (take head.len w); at = 4 + head.len } ∷ []) [])) ≡ false
        → length w < head.len
    by_length true l e = absurd cc
    by_length false l e = leb_not head.len (length w) l

    go : (o : Option ℕ) → is_over (frame_events_of (items_of_body head w o)) ≡ false → length w < head.len
    go (Some n) e = absurd cc
    go None e = by_length (leb head.len (length w)) refl e

missing_header : (head : Head) → missing_of_body (Some head) [] ≡ head.len
missing_header head = rw (take-nothing head.len) (go (eqb (kind_number head.kind) 2))
  where
    go : (dm : Bool) → cond (is_some (cond dm (first_alien []) None)) 0 (head.len - 0) ≡ head.len
    go true = omega arith
    go false = omega arith

missing_after : (cap p q r s : ℕ) →
    missing cap (p ∷ q ∷ r ∷ s ∷ []) ≡ missing_of_body (head_part (parse_head (p ∷ q ∷ r ∷ s ∷ []) cap)) []
unfolding missing head_in
missing_after cap p q r s = refl

-- so it has fewer than the header left room for
wanted : (cap : ℕ) (h p : List ℕ) → length h ≡ 4 → is_over (frame_events_of (first_items cap (h ++ p))) ≡ false →
    length p < missing cap h
wanted cap [] w e open_end = absurd (omega arith)
wanted cap (p ∷ []) w e open_end = absurd (omega arith)
wanted cap (p ∷ q ∷ []) w e open_end = absurd (omega arith)
wanted cap (p ∷ q ∷ r ∷ []) w e open_end = absurd (omega arith)
wanted cap (p ∷ q ∷ r ∷ s ∷ x ∷ l) w e open_end = absurd (omega arith)
wanted cap (p ∷ q ∷ r ∷ s ∷ []) w e open_end =
    go (parse_head (p ∷ q ∷ r ∷ s ∷ []) cap) refl
    (ap (λ (l : List EventAtOffset). is_over (frame_events_of l)) (sym (items_long cap p q r s w)) ∙ open_end)
  where
    go : (o : Result Head Code) → parse_head (p ∷ q ∷ r ∷ s ∷ []) cap ≡ o →
        is_over (frame_events_of (items_from_head o w)) ≡ false → length w < missing cap (p ∷ q ∷ r ∷ s ∷ [])
    go (Err code) is e = absurd cc
    go (Ok head) is e =
        let more = wanted_body head w e in
        let here : missing cap (p ∷ q ∷ r ∷ s ∷ []) ≡ head.len =
        missing_after cap p q r s ∙ ap (λ (o : Result Head Code). missing_of_body (head_part o) []) is
        ∙ missing_header head in
        omega arith

-- a list without elements
pub nothing_left : (l : List ℕ) → length l ≡ 0 → l ≡ []
nothing_left [] e = refl
nothing_left (x ∷ l) e = absurd (omega arith)

items_nothing : (cap : ℕ) → frame_events_of (first_items cap []) ≡ []
items_nothing cap = ap frame_events_of (items_short cap [] (omega arith))

pub room_of_header : (cap : ℕ) (bytes : List ℕ) → bytes ≡ [] → missing cap bytes ≡ 4
unfolding missing
room_of_header cap bytes e = rw e refl

-- if a piece ends the first frame, the result follows from its items, whatever follows
fed_over : (cap : ℕ) (old piece more : List ℕ) (before items : List FrameEvent) → length piece ≤ missing cap old
    → frame_events_of (first_items cap old) ≡ before → fed_items cap old piece ≡ items → is_over (before ++ items) ≡ true
    → parse_frame cap ((old ++ piece) ++ more) ≡ parse_frame_events (length ((old ++ piece) ++ more)) (before ++ items)
fed_over cap old piece more before items room was tells over =
    let front = fed_front cap old piece in
    let all : frame_events_of (first_items cap (fed cap old piece)) ≡ before ++ items =
    cut_piece cap old piece room ∙ ap (λ (l : List FrameEvent). l ++ fed_items cap old piece) was
    ∙ ap (λ (l : List FrameEvent). before ++ l) tells in
    let there : fed cap old piece ++ (front.0 ++ more) ≡ (old ++ piece) ++ more =
    sym (append_assoc (fed cap old piece) front.0 more) ∙ ap (λ (l : List ℕ). l ++ more) front.1 in
    subst (λ (b : List ℕ). parse_frame cap b ≡ parse_frame_events (length b) (before ++ items)) there
    (found_over cap (fed cap old piece) (front.0 ++ more) (before ++ items) all over)

four_past : (h rest : List ℕ) → length h ≡ 4 → drop 4 (h ++ rest) ≡ rest
four_past [] rest e = absurd (omega arith)
four_past (p ∷ []) rest e = absurd (omega arith)
four_past (p ∷ q ∷ []) rest e = absurd (omega arith)
four_past (p ∷ q ∷ r ∷ []) rest e = absurd (omega arith)
four_past (p ∷ q ∷ r ∷ s ∷ []) rest e = refl
four_past (p ∷ q ∷ r ∷ s ∷ x ∷ l) rest e = absurd (omega arith)

-- the first frame ends with its body, by whether all bytes were fed
whole_at : (head : Head) (body : List ℕ) (n more : ℕ) (all : Bool) → n ≡ 4 + length body + more → all ≡ eqb more 0
    → parsed_input_by (parsed_input_of (Bodied head) all) body ≡ cond (eqb (4 + length body) n) (whole head body) not_one
whole_at head body n more true e is = let same : eqb (4 + length body) n ≡ true = grind (arith, nat_tests) in
    rw same refl
whole_at head body n more false e is = let same : eqb (4 + length body) n ≡ false = grind (arith, nat_tests) in
    rw same refl

-- the header was the last piece fed
pub header_found : (cap : ℕ) (b h rest now : List ℕ) (step : Step) (all : Bool) (found : ParsedInput)
    → b ≡ h ++ rest → length h ≡ 4 → now ≡ fed cap [] h → fed_items cap [] h ≡ items_of_step step (drop 4 now)
    → IsFault step ⊎ (now ≡ h) → ((hd : Head) → step ≢ Headed hd) → all ≡ eqb (length rest) 0
    → found ≡ parsed_input_of step all → parsed_input_by found (drop 4 now) ≡ parse_frame cap b
header_found cap b h rest now step all found split four fed_now tells taken not_headed is_all is =
    rw (is, split) (go step tells taken not_headed)
  where
    room : length h ≤ missing cap []
    room = let four_left = room_of_header cap [] refl in omega arith

    none : fed_items cap [] h ≡ [] → now ≡ h → ⊥
    none e same =
        let items : frame_events_of (first_items cap (fed cap [] h)) ≡ [] =
        cut_piece cap [] h room ∙ ap (λ (l : List FrameEvent). l ++ fed_items cap [] h) (items_nothing cap) ∙ e in
        header_items cap h four (ap (λ (l : List ℕ). frame_events_of (first_items cap l)) (sym same ∙ fed_now) ∙ items)

    go : (step : Step) → fed_items cap [] h ≡ items_of_step step (drop 4 now) →
        IsFault step ⊎ (now ≡ h) → ((hd : Head) → step ≢ Headed hd)
        → parsed_input_by (parsed_input_of step all) (drop 4 now) ≡ parse_frame cap (h ++ rest)
    go (Fault code) t w n = sym (fed_over cap [] h rest [] (Wrong code ∷ []) room (items_nothing cap) t refl)
    go (Headed hd) t w n = absurd (n hd refl)
    go More t (inl fault) n = absurd fault
    go More t (inr same) n = absurd (none t same)
    go (Bodied hd) t (inl fault) n = absurd fault
    go (Bodied hd) t (inr same) n =
        let empty : drop 4 now ≡ [] =
        ap (λ (l : List ℕ). drop 4 l) same ∙ ap (λ (l : List ℕ). drop 4 l) (sym (append-nil h))
        ∙ four_past h [] four in
        let tells : fed_items cap [] h ≡ Begun hd ∷ Whole hd [] ∷ [] =
        t ∙ ap (λ (l : List ℕ). items_of_step (Bodied hd) l) empty in
        rw empty (whole_at hd [] (length (h ++ rest)) (length rest) all (omega (arith, length-append h rest)) is_all
        ∙ sym (fed_over cap [] h rest [] (Begun hd ∷ Whole hd [] ∷ []) room (items_nothing cap) tells refl))

-- a valid header was fed, and a body follows
pub header_begun : (cap : ℕ) (h now : List ℕ) (step : Step) (hd : Head) → length h ≡ 4 → now ≡ fed cap [] h
    → fed_items cap [] h ≡ items_of_step step (drop 4 now) → IsFault step ⊎ (now ≡ h) → step ≡ Headed hd
    → (now ≡ h) × (frame_events_of (first_items cap now) ≡ Begun hd ∷ [])
header_begun cap h now step hd four fed_now tells taken is = (
  same (subst (λ (s : Step). IsFault s ⊎ (now ≡ h)) is taken),
  items ∙ tells ∙ ap (λ (s : Step). items_of_step s (drop 4 now)) is,
)
  where
    same : IsFault (Headed hd) ⊎ (now ≡ h) → now ≡ h
    same (inl fault) = absurd fault
    same (inr e) = e

    room : length h ≤ missing cap []
    room = let four_left = room_of_header cap [] refl in omega arith

    items : frame_events_of (first_items cap now) ≡ fed_items cap [] h
    items = ap (λ (l : List ℕ). frame_events_of (first_items cap l)) fed_now ∙ cut_piece cap [] h room
        ∙ ap (λ (l : List FrameEvent). l ++ fed_items cap [] h) (items_nothing cap)

-- as much of the body as there is room for was fed after the header
pub body_found : (cap : ℕ) (b h p after now : List ℕ) (hd : Head) (step : Step) (all : Bool)
    (found : ParsedInput)
    → b ≡ (h ++ p) ++ after → length h ≡ 4 → frame_events_of (first_items cap h) ≡ Begun hd ∷ [] → length p ≤ missing cap h
    → (length p < missing cap h → after ≡ []) → now ≡ fed cap h p → fed_items cap h p ≡ items_of_step step (drop 4 now)
    → IsFault step ⊎ (now ≡ h ++ p) → all ≡ eqb (length after) 0 → found ≡ parsed_input_of step all
    → parsed_input_by found (drop 4 now) ≡ parse_frame cap b
body_found cap b h p after now hd step all found split four was room full fed_now tells taken is_all is =
    rw (is, split) (go step tells taken)
  where
    unended : (items : List FrameEvent) → fed_items cap h p ≡ items → is_over items ≡ false → now ≡ h ++ p →
        not_one ≡ parse_frame cap ((h ++ p) ++ after)
    unended items t open_end same =
        let here : frame_events_of (first_items cap (h ++ p)) ≡ Begun hd ∷ items =
        ap (λ (l : List ℕ). frame_events_of (first_items cap l)) (sym same ∙ fed_now) ∙ cut_piece cap h p room
        ∙ ap (λ (l : List FrameEvent). l ++ fed_items cap h p) was ∙ ap (λ (l : List FrameEvent). Begun hd ∷ l) t in
        let nothing : after ≡ [] = full (wanted cap h p four (ap is_over here ∙ open_end)) in
        let all_of_it : (h ++ p) ++ after ≡ h ++ p = ap (λ (l : List ℕ). (h ++ p) ++ l) nothing ∙ append-nil (h ++ p) in
        sym (ap (λ (l : List ℕ). parse_frame cap l) all_of_it ∙ found_items cap (h ++ p) (Begun hd ∷ items) here
        ∙ found_none (length (h ++ p)) (Begun hd ∷ items) open_end)

    ended : (hd2 : Head) (q : List ℕ) → fed_items cap h p ≡ items_of_step (Bodied hd2) q
        → parse_frame cap ((h ++ p) ++ after)
        ≡ cond (eqb (4 + length q) (length ((h ++ p) ++ after))) (whole hd2 q) not_one
    ended hd2 [] t = fed_over cap h p after (Begun hd ∷ []) (Begun hd2 ∷ Whole hd2 [] ∷ []) room was t refl
    ended hd2 (x ∷ q) t = fed_over cap h p after (Begun hd ∷ []) (Whole hd2 (x ∷ q) ∷ []) room was t refl

    go : (step : Step) → fed_items cap h p ≡ items_of_step step (drop 4 now) →
        IsFault step ⊎ (now ≡ h ++ p)
        → parsed_input_by (parsed_input_of step all) (drop 4 now) ≡ parse_frame cap ((h ++ p) ++ after)
    go (Fault code) t w = sym (fed_over cap h p after (Begun hd ∷ []) (Wrong code ∷ []) room was t refl)
    go More t (inl fault) = absurd fault
    go More t (inr same) = unended [] t refl same
    go (Headed hd2) t (inl fault) = absurd fault
    go (Headed hd2) t (inr same) = unended (Begun hd2 ∷ []) t refl same
    go (Bodied hd2) t (inl fault) = absurd fault
    go (Bodied hd2) t (inr same) =
        let body : drop 4 now ≡ p = ap (λ (l : List ℕ). drop 4 l) same ∙ four_past h p four in
        rw body (whole_at hd2 p (length ((h ++ p) ++ after)) (length after) all
        (omega (arith, length-append (h ++ p) after, length-append h p)) is_all
        ∙ sym (ended hd2 p (t ∙ ap (λ (l : List ℕ). items_of_step (Bodied hd2) l) body)))

right_head : (o : Option Kind) (n cap : ℕ) (head : Head) → judged o n cap ≡ Ok head
    → (has_right_length head.kind head.len ≡ true) × (head.len ≤ cap)
right_head None n cap head e = absurd cc
right_head (Some kind) n cap head e = go (is_im kind && (eqb n 1024)) (has_right_length kind n) refl (ltb cap n) refl e
  where
    go : (swapped right : Bool) → has_right_length kind n ≡ right → (above : Bool) → ltb cap n ≡ above
        → cond swapped (Err WrongEndian)
        (cond right (cond above (Err UnknownMessage) (Ok (record { kind = kind; len = n }))) (Err WrongLength))
        ≡ Ok head
        → (has_right_length head.kind head.len ≡ true) × (head.len ≤ cap)
    go true right is above lt e = absurd cc
    go false false is above lt e = absurd cc
    go false true is true lt e = absurd cc
    go false true is false lt e =
        let same : ◌≡◌ {A = Head} (record { kind = kind; len = n }) head = cc in
        let fits : n ≤ cap = grind (arith, nat_tests) in
        subst (λ (h : Head). (has_right_length h.kind h.len ≡ true) × (h.len ≤ cap)) same (is, fits)

right_four : (cap p q r s : ℕ) (head : Head) → parse_head (p ∷ q ∷ r ∷ s ∷ []) cap ≡ Ok head
    → (has_right_length head.kind head.len ≡ true) × (head.len ≤ cap)
unfolding parse_head
right_four cap p q r s head e = right_head (kind_of p) (from_be_bytes w16 (r ∷ s ∷ [])) cap head e

found_at : (cap : ℕ) (p q r s : ℕ) (w : List ℕ) →
    parse_frame cap (p ∷ q ∷ r ∷ s ∷ w)
    ≡ parse_frame_events (length (p ∷ q ∷ r ∷ s ∷ w)) (frame_events_of (items_from_head (parse_head (p ∷ q ∷ r ∷ s ∷ []) cap) w))
unfolding parse_frame
found_at cap p q r s w =
    ap (λ (l : List EventAtOffset). parse_frame_events (length (p ∷ q ∷ r ∷ s ∷ w)) (frame_events_of l)) (items_long cap p q r s w)

-- a complete frame has a body of a valid length for its kind, within the cap
pub right_frame : (cap : ℕ) (b : List ℕ) (head : Head) (body : List ℕ) → whole head body ≡ parse_frame cap b
    → (has_right_length head.kind (length body) ≡ true) × (length body ≤ cap)
right_frame cap b head body e = by_bytes b e
  where
    short : (b : List ℕ) → length b < 4 → whole head body ≡ parse_frame cap b →
        (has_right_length head.kind (length body) ≡ true) × (length body ≤ cap)
    short b few e = let none : whole head body ≡ not_one = e ∙ sym (found_short cap b few) in absurd cc

    go : (p q r s : ℕ) (w : List ℕ) (o : Result Head Code) → parse_head (p ∷ q ∷ r ∷ s ∷ []) cap ≡ o
        → whole head body ≡ parse_frame_events (length (p ∷ q ∷ r ∷ s ∷ w)) (frame_events_of (items_from_head o w))
        → (has_right_length head.kind (length body) ≡ true) × (length body ≤ cap)
    go p q r s w (Err code) is e = absurd cc
    go p q r s w (Ok h) is e = alien (alien_in h w) e
      where
        alien : (o : Option ℕ) →
            whole head body ≡ parse_frame_events (length (p ∷ q ∷ r ∷ s ∷ w)) (frame_events_of (items_of_body h w o)) →
            (has_right_length head.kind (length body) ≡ true) × (length body ≤ cap)
        alien (Some n) e = absurd cc
        alien None e = by_length (leb h.len (length w)) refl e
          where
            last : (same : Bool) → h.len ≤ length w → whole head body ≡ cond same (whole h (take h.len w)) not_one →
                (has_right_length head.kind (length body) ≡ true) × (length body ≤ cap)
            last false enough e = absurd cc
            last true enough e =
                let heads : h ≡ head = cc in
                let bodies : take h.len w ≡ body = cc in
                let size : length body ≡ h.len = ap length (sym bodies) ∙ length-take-le h.len w enough in
                let right = right_four cap p q r s h is in
                rw (size, sym heads) right

            by_length : (enough : Bool) → leb h.len (length w) ≡ enough
                → whole head body ≡ parse_frame_events (length (p ∷ q ∷ r ∷ s ∷ w))
                (frame_events_of (cond enough (record { item = Whole h (take h.len w); at = 4 + h.len } ∷ []) []))
                → (has_right_length head.kind (length body) ≡ true) × (length body ≤ cap)
            by_length false l e = absurd cc
            by_length true l e = last (eqb (4 + length (take h.len w)) (length (p ∷ q ∷ r ∷ s ∷ w)))
                (leb_is h.len (length w) l) e

    by_bytes : (b : List ℕ) → whole head body ≡ parse_frame cap b →
        (has_right_length head.kind (length body) ≡ true) × (length body ≤ cap)
    by_bytes [] e = short [] (omega arith) e
    by_bytes (p ∷ []) e = short (p ∷ []) (omega arith) e
    by_bytes (p ∷ q ∷ []) e = short (p ∷ q ∷ []) (omega arith) e
    by_bytes (p ∷ q ∷ r ∷ []) e = short (p ∷ q ∷ r ∷ []) (omega arith) e
    by_bytes (p ∷ q ∷ r ∷ s ∷ w) e = go p q r s w (parse_head (p ∷ q ∷ r ∷ s ∷ []) cap) refl (e ∙ found_at cap p q r s w)
