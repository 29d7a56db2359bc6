-- What the fields of a cutter say about the bytes that it holds.
use Rattle.std.proofs.Common.{◌≡◌, ℕ, inl, inr, ◌-◌, ◌<◌, ◌≤◌, Bool, true, false, leb, List, [], ◌++◌, length, take}
use Rattle.std.proofs.Common.{drop, Option, Some, None, Result, Ok, Err, refl, sym, ap, ◌∙◌, subst, arith}
use Rattle.std.proofs.Common.{length-append, length-take, append-nil, is_some, MatchOption, ◌⊎◌}
use Rattle.std.proofs.Math.Seq.{drop-append_seam}
use Rattle.daide_frame.proofs.Common.{lt-ltb, leb_tells, Head, Code, Step, Bodied, parse_head, IsConsistent}
use Rattle.daide_frame.specs.declared.cutter.Step.TheVariants.{Headed}
use Rattle.daide_frame.specs.Frames.{alien_in, last_items, announced, announced_by, items_of_step, HoldsFrame, step_of_events}
use Rattle.daide_frame.specs.Frames.{head_part, head_in, missing_of_body, missing}
use Rattle.daide_frame.specs.Cutter.{has_alien}
use Rattle.daide_frame.proofs.ListLemmas.{eqb_apart, take_whole, take_whole', drop_past}
use Rattle.daide_frame.proofs.HeadLemmas.{IsGood, parse_head-good}
use Rattle.daide_frame.proofs.FramesLemmas.{head_in-short, head_in-whole, at_head, alien_in-nothing, last_items-head}
use Rattle.daide_frame.proofs.FramesLemmas.{parse_head-append, missing-four}

pub consistent_short : (limit have : ℕ) (header : List ℕ) (head : Option Head) (f : Bool) (body : List ℕ) (capacity : ℕ)
    → have < 4 → length header ≡ 4 → body ≡ [] → head ≡ None → f ≡ false → limit ≤ capacity →
    IsConsistent limit have header head f body capacity
consistent_short limit have header head f body capacity l e b h n r =
    rw h (rw b (rw n (record {
      four = e;
      in_header = omega arith;
      no_body = λ _. refl;
      read = sym (head_in-short limit (take have header ++ [])
          (omega (arith, length-append (take have header) [], length-take have header)));
      in_body = refl;
      faulty = refl;
      reserved = r;
    })))

-- the bytes while the body is empty
bytes_of_header : (have : ℕ) (header body : List ℕ) → have ≡ 4 → length header ≡ 4 → body ≡ [] →
    take have header ++ body ≡ header
bytes_of_header have header body l e b = rw b (rw l (append-nil (take 4 header) ∙ take_whole 4 header (omega arith)))

pub head_in-bytes : (limit have : ℕ) (header body : List ℕ) → have ≡ 4 → length header ≡ 4 →
    head_in limit (take have header ++ body) ≡ head_part (parse_head header limit)
head_in-bytes limit have header body l e =
    let t : take have header ≡ header = take_whole have header (omega arith) in
    rw t (head_in-whole limit (header ++ body) (omega (arith, length-append header body))
    ∙ ap head_part (parse_head-append limit header body e))

pub consistent_head : (limit have : ℕ) (header : List ℕ) (head : Option Head) (f : Bool) (body : List ℕ) (capacity : ℕ)
    (r : Result Head Code) → have ≡ 4 → length header ≡ 4 → body ≡ [] → f ≡ false → parse_head header limit ≡ r →
    head ≡ head_part r → limit ≤ capacity → IsConsistent limit have header head f body capacity
consistent_head limit have header head f body capacity (Err code) l e b n q h k =
    rw h (record {
      four = e;
      in_header = omega arith;
      no_body = λ _. b;
      read = sym (head_in-bytes limit have header body l e ∙ ap head_part q);
      in_body = b;
      faulty = n;
      reserved = k;
    })
consistent_head limit have header head f body capacity (Ok good) l e b n q h k =
    rw h (record {
      four = e;
      in_header = omega arith;
      no_body = λ _. b;
      read = sym (head_in-bytes limit have header body l e ∙ ap head_part q);
      in_body = omega (arith, ap length b);
      faulty = n ∙ sym (ap is_some (ap (alien_in good) b ∙ alien_in-nothing good));
      reserved = k;
    })

pub consistent_body : (limit have : ℕ) (header : List ℕ) (head : Option Head) (f : Bool) (body : List ℕ) (capacity : ℕ)
    (good : Head) → have ≡ 4 → length header ≡ 4 → head ≡ Some good → parse_head header limit ≡ Ok good →
    length body ≤ good.len → f ≡ is_some (alien_in good body) → limit ≤ capacity →
    IsConsistent limit have header head f body capacity
consistent_body limit have header head f body capacity good l e h q b n k =
    rw h (record {
      four = e;
      in_header = omega arith;
      no_body = λ (less : have < 4). absurd (omega arith);
      read = sym (head_in-bytes limit have header body l e ∙ ap head_part q);
      in_body = b;
      faulty = n;
      reserved = k;
    })

-- while the header is being filled
pub record InHeader (have : ℕ) (head : Option Head) (f : Bool) (body : List ℕ) : Type 0 where
  pub less : have < 4
  pub no_body : body ≡ []
  pub no_head : head ≡ None
  pub no_fault : f ≡ false

pub in_header : (limit have : ℕ) (header : List ℕ) (head : Option Head) (f : Bool) (body : List ℕ) (capacity : ℕ) →
    IsConsistent limit have header head f body capacity → length (take have header ++ body) < 4 →
    InHeader have head f body
in_header limit have header head f body capacity i h =
    let less : have < 4 =
    omega (arith, i.in_header, length-append (take have header) body, length-take have header, i.four) in
    let none : head ≡ None = i.read ∙ head_in-short limit (take have header ++ body) h in
    record {
      less = less;
      no_body = i.no_body less;
      no_head = none;
      no_fault =
          i.faulty ∙ ap (λ (o : Option Head). has_alien o body) none;
    }

-- once the header is whole and good
pub record InBody (limit have : ℕ) (header : List ℕ) (f : Bool) (body : List ℕ) (good : Head) : Type 0 where
  pub whole : have ≡ 4
  pub read : parse_head header limit ≡ Ok good
  pub lawful : IsGood limit good
  pub within : length body ≤ good.len
  pub alien : f ≡ is_some (alien_in good body)

ok_of : (r : Result Head Code) (good : Head) → head_part r ≡ Some good → r ≡ Ok good
ok_of (Err code) good e = absurd (cc)
ok_of (Ok head) good e = ap Ok (cc)

pub whole_header : (limit have : ℕ) (header : List ℕ) (head : Option Head) (f : Bool) (body : List ℕ) (capacity : ℕ) →
    IsConsistent limit have header head f body capacity → 4 ≤ length (take have header ++ body) → have ≡ 4
whole_header limit have header head f body capacity i h = by_have (leb_tells 4 have)
  where
    by_have : ((leb 4 have ≡ true) × (4 ≤ have)) ⊎ ((leb 4 have ≡ false) × (have < 4)) → have ≡ 4
    by_have (inl t) = omega (arith, i.in_header)
    by_have (inr t) = absurd
        (omega (
          arith,
          ap length (i.no_body t.1),
          length-append (take have header) body,
          length-take have header,
          i.four,
        ))

pub in_body : (limit have : ℕ) (header : List ℕ) (head : Option Head) (f : Bool) (body : List ℕ) (capacity : ℕ)
    (good : Head) → IsConsistent limit have header head f body capacity → head ≡ Some good →
    InBody limit have header f body good
in_body limit have header head f body capacity good i h = by_length (leb_tells 4 (length (take have header ++ body)))
  where
    given : head_in limit (take have header ++ body) ≡ Some good
    given = sym i.read ∙ h

    at : have ≡ 4 → InBody limit have header f body good
    at w =
        let q : parse_head header limit ≡ Ok good =
        ok_of (parse_head header limit) good (sym (head_in-bytes limit have header body w i.four) ∙ given) in
        record {
          whole = w;
          read = q;
          lawful = parse_head-good header limit good q;
          within = subst (λ (o : Option Head). MatchOption o (body ≡ []) (λ g. length body ≤ g.len)) h i.in_body;
          alien = i.faulty ∙ ap (λ (o : Option Head). has_alien o body) h;
        }

    by_length : ((leb 4 (length (take have header ++ body)) ≡ true) × (4 ≤ length (take have header ++ body))) ⊎
        ((leb 4 (length (take have header ++ body)) ≡ false) × (length (take have header ++ body) < 4)) →
        InBody limit have header f body good
    by_length (inl t) = at (whole_header limit have header head f body capacity i t.1)
    by_length (inr t) =
        let none : ◌≡◌ {A = Option Head} None (Some good) =
        sym (head_in-short limit (take have header ++ body) t.1) ∙ given in
        absurd (cc)

pub missing-header : (limit have : ℕ) (header body : List ℕ) → have < 4 → length header ≡ 4 → body ≡ [] →
    missing limit (take have header ++ body) ≡ 4 - have
unfolding missing
missing-header limit have header body l e b =
    let n : length (take have header ++ body) ≡ have =
    rw b (omega (arith, length-append (take have header) [], length-take have header)) in
    rw (lt-ltb (length (take have header ++ body)) 4 (omega arith)) (omega arith)

pub missing-body : (limit have : ℕ) (header : List ℕ) (head : Option Head) (body : List ℕ) → have ≡ 4 →
    length header ≡ 4 → head ≡ head_in limit (take have header ++ body) →
    missing limit (take have header ++ body) ≡ missing_of_body head body
missing-body limit have header head body l e h =
    rw h (subst (λ (t : List ℕ). missing limit (t ++ body) ≡ missing_of_body (head_in limit (t ++ body)) body)
    (sym (take_whole' have header l e)) (missing-four limit header body e))

pub body_of : (limit have : ℕ) (header : List ℕ) (head : Option Head) (f : Bool) (body : List ℕ) (capacity : ℕ) →
    IsConsistent limit have header head f body capacity → drop 4 (take have header ++ body) ≡ body
body_of limit have header head f body capacity i = by_have (leb_tells 4 have)
  where
    by_have : ((leb 4 have ≡ true) × (4 ≤ have)) ⊎ ((leb 4 have ≡ false) × (have < 4)) →
        drop 4 (take have header ++ body) ≡ body
    by_have (inl t) = subst (λ (h : List ℕ). drop 4 (h ++ body) ≡ body)
        (sym (take_whole have header (omega (arith, i.four))))
        (subst (λ (n : ℕ). drop n (header ++ body) ≡ body) i.four (drop-append_seam header body))
    by_have (inr t) = rw (i.no_body t.1)
        (drop_past 4 (take have header ++ [])
        (omega (arith, length-append (take have header) [], length-take have header, i.four)))

-- the step at the header's last byte, by the fields
pub header_step : (limit have : ℕ) (header body : List ℕ) → have ≡ 4 → length header ≡ 4 → body ≡ [] →
    step_of_events (last_items limit (take have header ++ body)) ≡ step_of_events (at_head (parse_head header limit))
header_step limit have header body l e b =
    rw (bytes_of_header have header body l e b) (ap step_of_events (last_items-head limit header e))

header_left : (limit have : ℕ) (header body : List ℕ) (r : Result Head Code) → have ≡ 4 → length header ≡ 4 →
    parse_head header limit ≡ r → missing limit (take have header ++ body) ≡ missing_of_body (head_part r) body
header_left limit have header body r l e q =
    missing-body limit have header (head_part r) body l e
    (sym (head_in-bytes limit have header body l e ∙ ap head_part q))

-- nothing is missing after a refused header, or a header with length 0
pub refused_closed : (limit have : ℕ) (header body : List ℕ) (code : Code) → have ≡ 4 → length header ≡ 4 →
    parse_head header limit ≡ Err code → missing limit (take have header ++ body) ≡ 0
refused_closed limit have header body code l e q = header_left limit have header body (Err code) l e q

pub empty_closed : (limit have : ℕ) (header body : List ℕ) (head : Head) → have ≡ 4 → length header ≡ 4 → body ≡ [] →
    parse_head header limit ≡ Ok head → head.len ≡ 0 → missing limit (take have header ++ body) ≡ 0
empty_closed limit have header body head l e b q z =
    header_left limit have header body (Ok head) l e q ∙ ap (missing_of_body (Some head)) b
    ∙ rw (alien_in-nothing head) (omega (arith, z))

-- the step at the last byte of a good header
abbrev pub IsHeaderStep : Head → Step → Type 0
IsHeaderStep head step = ((head.len ≡ 0) × (step ≡ Bodied head)) ⊎ ((head.len ≡ 0 → ⊥) × (step ≡ Headed head))

-- carries the header that is held, without a body; with length 0 the body is whole
pub header_held : (limit have : ℕ) (header body : List ℕ) (head : Head) (step : Step) → have ≡ 4 → length header ≡ 4 →
    body ≡ [] → parse_head header limit ≡ Ok head → IsHeaderStep head step →
    HoldsFrame step (head_in limit (take have header ++ body)) (drop 4 (take have header ++ body))
header_held limit have header body head step l e b q h =
    let bytes = bytes_of_header have header body l e b in
    let none : drop 4 (take have header ++ body) ≡ [] = ap (drop 4) bytes ∙ drop_past 4 header (omega arith) in
    let good = parse_head-good header limit head q in
    let read = head_in-bytes limit have header body l e ∙ ap head_part q in
    elim h [
      | inl s ↦ rw s.1 (read, rw none (good.right, sym s.0))
      | inr s ↦ rw s.1 (read, none)
    ]

pub length_of_header : (have : ℕ) (header body : List ℕ) → have ≤ 4 → length header ≡ 4 → body ≡ [] →
    length (take have header ++ body) ≡ have
length_of_header have header body l e b =
    rw b (omega (arith, length-append (take have header) [], length-take have header))

pub step_of_events-empty : (head : Head) → head.len ≡ 0 → step_of_events (at_head (Ok head)) ≡ Bodied head
step_of_events-empty head e = rw e refl

pub step_of_events-begun : (head : Head) → (head.len ≡ 0 → ⊥) → step_of_events (at_head (Ok head)) ≡ Headed head
step_of_events-begun head e = rw (eqb_apart head.len 0 e) refl

pub missing_of-open : (head : Head) (body : List ℕ) → is_some (alien_in head body) ≡ false →
    missing_of_body (Some head) body ≡ head.len - length body
missing_of-open head body e = rw e refl

pub missing_of-spoilt : (head : Head) (body : List ℕ) → is_some (alien_in head body) ≡ true →
    missing_of_body (Some head) body ≡ 0
missing_of-spoilt head body e = rw e refl

at_head-empty : (head : Head) → head.len ≡ 0 → at_head (Ok head) ≡ items_of_step (Bodied head) []
at_head-empty head e = rw e refl

at_head-begun : (head : Head) → (head.len ≡ 0 → ⊥) → at_head (Ok head) ≡ items_of_step (Headed head) []
at_head-begun head e = rw (eqb_apart head.len 0 e) refl

pub header_told : (limit have : ℕ) (header body : List ℕ) (r : Result Head Code) (step : Step) → have ≡ 4 →
    length header ≡ 4 → body ≡ [] → parse_head header limit ≡ r → at_head r ≡ items_of_step step [] →
    last_items limit (take have header ++ body) ≡ items_of_step step (drop 4 (take have header ++ body))
header_told limit have header body r step l e b q t =
    let bytes = bytes_of_header have header body l e b in
    let none : drop 4 (take have header ++ body) ≡ [] = ap (drop 4) bytes ∙ drop_past 4 header (omega arith) in
    ap (last_items limit) bytes ∙ last_items-head limit header e ∙ ap at_head q ∙ t ∙ ap (items_of_step step) (sym none)

pub told_ok : (head : Head) (step : Step) → IsHeaderStep head step → at_head (Ok head) ≡ items_of_step step []
told_ok head step (inl h) = at_head-empty head h.0 ∙ ap (λ (s : Step). items_of_step s []) (sym h.1)
told_ok head step (inr h) = at_head-begun head h.0 ∙ ap (λ (s : Step). items_of_step s []) (sym h.1)

announced_of : (limit have : ℕ) (header : List ℕ) (head : Option Head) (f : Bool) (body : List ℕ) (capacity : ℕ) →
    IsConsistent limit have header head f body capacity →
    (length body ≤ announced_by head) × (announced_by head ≤ limit)
announced_of limit have header None f body capacity i = (omega (arith, ap length i.in_body), omega arith)
announced_of limit have header (Some good) f body capacity i =
    let b = in_body limit have header (Some good) f body capacity good i refl in
    (b.within, b.lawful.within)

pub announced-is : (limit have : ℕ) (header : List ℕ) (head : Option Head) (f : Bool) (body : List ℕ) (capacity : ℕ) →
    IsConsistent limit have header head f body capacity →
    (length body ≤ announced limit (take have header ++ body))
    × (announced limit (take have header ++ body) ≤ limit)
unfolding announced
announced-is limit have header head f body capacity i =
    let h = announced_of limit have header head f body capacity i in
    let e : announced_by (head_in limit (take have header ++ body)) ≡ announced_by head =
    ap announced_by (sym i.read) in
    (rw e h.0, rw e h.1)
