-- A piece of a body that is fed all at once.
use Rattle.std.proofs.Common.{◌≡◌, ℕ, inl, inr, ◌⊎◌, ◌+◌, ◌-◌, ◌<◌, ◌≤◌, Bool, true, false, cond, eqb, List, [], ◌∷◌}
use Rattle.std.proofs.Common.{◌++◌, length, take, drop, Option, Some, None, Ok, refl, sym, ap, ◌∙◌, subst, arith}
use Rattle.std.proofs.Common.{length-append, length-take, append_assoc, ◌&&◌, is_some}
use Rattle.std.proofs.Math.Seq.{drop-append_seam, take-append_seam}
use Rattle.daide_frame.proofs.Common.{nat_tests, take-append-le, take-append-drop, Head, InvalidToken, kind_number}
use Rattle.daide_frame.proofs.Common.{parse_head, Step, More, Bodied, Fault, IsConsistent, IsFed}
use Rattle.daide_frame.specs.Frames.{first_alien, alien_in, FrameEvent, Whole, Wrong, last_items, fed, fed_items, step_of_events}
use Rattle.daide_frame.specs.Frames.{items_of_step, head_part, head_in, missing_of_body, missing}
use Rattle.daide_frame.proofs.AlienLemmas.{ends_alien, alien-push, first_alien-end, first_alien-grown, first_alien-part}
use Rattle.daide_frame.proofs.FramesLemmas.{at_body, last_items-body, missing-four, head_in-whole, parse_head-append}
use Rattle.daide_frame.proofs.FramesLemmas.{told_whole}
use Rattle.daide_frame.proofs.ListLemmas.{take_whole, take_whole', eqb_same, eqb_apart, eqb_is}
use Rattle.daide_frame.proofs.HeadLemmas.{IsGood}
use Rattle.daide_frame.proofs.CutterLemmas.{whole_header, in_body, missing-body, consistent_body}

-- the first alien token of a body that is not longer than announced
abbrev pub alien_by : Bool → List ℕ → Option ℕ
alien_by dm v = cond dm (first_alien v) None

abbrev pub is_dm : Head → Bool
is_dm head = eqb (kind_number head.kind) 2

pub alien_in-within : (head : Head) (v : List ℕ) → length v ≤ head.len → alien_in head v ≡ alien_by (is_dm head) v
alien_in-within head v l = ap (alien_by (is_dm head)) (take_whole head.len v l)

by-push : (dm : Bool) (w : List ℕ) (x : ℕ) → alien_by dm w ≡ None →
    alien_by dm (w ++ x ∷ []) ≡ cond {A = Option ℕ} (dm && ends_alien (w ++ x ∷ [])) (Some (length (w ++ x ∷ []))) None
by-push false w x e = refl
by-push true w x e = alien-push w x e
    ∙ ap (λ (n : ℕ). cond {A = Option ℕ} (ends_alien (w ++ x ∷ [])) (Some n) None)
    (omega (arith, length-append w (x ∷ [])))

pub by-grown : (dm : Bool) (v more : List ℕ) (n : ℕ) → alien_by dm v ≡ Some n → alien_by dm (v ++ more) ≡ Some n
by-grown false v more n e = absurd (cc)
by-grown true v more n e = first_alien-grown v more n e

by-end : (dm : Bool) (v : List ℕ) (n : ℕ) → alien_by dm v ≡ Some n → (n ≤ length v) × (alien_by dm (take n v) ≡ Some n)
by-end false v n e = absurd (cc)
by-end true v n e = let h = first_alien-end v n e in (h.within, h.told)

pub alien_in-push : (head : Head) (w : List ℕ) (x : ℕ) → alien_in head w ≡ None → length w < head.len →
    alien_in head (w ++ x ∷ [])
    ≡ cond {A = Option ℕ} (is_dm head && ends_alien (w ++ x ∷ [])) (Some (length (w ++ x ∷ []))) None
alien_in-push head w x e l =
    alien_in-within head (w ++ x ∷ []) (omega (arith, length-append w (x ∷ [])))
    ∙ by-push (is_dm head) w x (sym (alien_in-within head w (omega arith)) ∙ e)

alien_in-grown : (head : Head) (v more : List ℕ) (n : ℕ) → alien_in head v ≡ Some n → length (v ++ more) ≤ head.len →
    alien_in head (v ++ more) ≡ Some n
alien_in-grown head v more n e l =
    alien_in-within head (v ++ more) l
    ∙ by-grown (is_dm head) v more n (sym (alien_in-within head v (omega (arith, length-append v more))) ∙ e)

pub alien_in-end : (head : Head) (v : List ℕ) (n : ℕ) → alien_in head v ≡ Some n → length v ≤ head.len →
    (n ≤ length v) × (alien_in head (take n v) ≡ Some n)
alien_in-end head v n e l =
    let h = by-end (is_dm head) v n (sym (alien_in-within head v l) ∙ e) in
    (h.0, alien_in-within head (take n v) (omega (arith, length-take n v, h.0)) ∙ h.1)

-- a byte that ends no event, and one that ends an event

pub fed-on : (limit : ℕ) (b : List ℕ) (x : ℕ) (piece : List ℕ) → last_items limit (b ++ x ∷ []) ≡ [] →
    (fed limit b (x ∷ piece) ≡ fed limit (b ++ x ∷ []) piece)
    × (fed_items limit b (x ∷ piece) ≡ fed_items limit (b ++ x ∷ []) piece)
fed-on limit b x piece e = (rw e refl, rw e refl)

fed-stop : (limit : ℕ) (b : List ℕ) (x : ℕ) (piece : List ℕ) (item : FrameEvent) (items : List FrameEvent) →
    last_items limit (b ++ x ∷ []) ≡ item ∷ items →
    (fed limit b (x ∷ piece) ≡ b ++ x ∷ []) × (fed_items limit b (x ∷ piece) ≡ item ∷ items)
fed-stop limit b x piece item items e = (rw e refl, rw e refl)

pub fed-one : (limit : ℕ) (b : List ℕ) (x : ℕ) →
    (fed limit b (x ∷ []) ≡ b ++ x ∷ []) × (fed_items limit b (x ∷ []) ≡ last_items limit (b ++ x ∷ []))
fed-one limit b x = by_items (last_items limit (b ++ x ∷ [])) refl
  where
    by_items : (items : List FrameEvent) → last_items limit (b ++ x ∷ []) ≡ items →
        (fed limit b (x ∷ []) ≡ b ++ x ∷ []) × (fed_items limit b (x ∷ []) ≡ last_items limit (b ++ x ∷ []))
    by_items [] e = let h = fed-on limit b x [] e in (h.0, h.1 ∙ sym e)
    by_items (item ∷ items) e = let h = fed-stop limit b x [] item items e in (h.0, h.1 ∙ sym e)

-- the bytes that are kept, and the events, by the end of the first alien token
abbrev pub kept : Option ℕ → List ℕ → List ℕ
kept None v = v
kept (Some n) v = take n v

abbrev pub ending : Head → List ℕ → Option ℕ → List FrameEvent
ending head v None = cond (eqb (length v) head.len) (Whole head v ∷ []) []
ending head v (Some n) = Wrong InvalidToken ∷ []

pub record IsBodyFed (limit : ℕ) (header w piece : List ℕ) (head : Head) : Type 0 where
  pub bytes : fed limit (header ++ w) piece ≡ header ++ kept (alien_in head (w ++ piece)) (w ++ piece)
  pub items : fed_items limit (header ++ w) piece ≡ ending head (w ++ piece) (alien_in head (w ++ piece))

told_last : (limit : ℕ) (header : List ℕ) (head : Head) (w : List ℕ) (x : ℕ) → length header ≡ 4 →
    parse_head header limit ≡ Ok head →
    last_items limit ((header ++ w) ++ x ∷ []) ≡ at_body head (w ++ x ∷ []) (alien_in head (w ++ x ∷ []))
told_last limit header head w x e q =
    ap (last_items limit) (append_assoc header w (x ∷ []))
    ∙ last_items-body limit header (w ++ x ∷ []) head e q (omega (arith, length-append w (x ∷ [])))

eqb_turned : (a b : ℕ) → eqb a b ≡ eqb b a
eqb_turned a b = grind (arith, nat_tests)

at_body-last : (head : Head) (v : List ℕ) (b : Bool) (o : Option ℕ) → o ≡ cond {A = Option ℕ} b (Some (length v)) None →
    (at_body head v o ≡ ending head v o) × (kept o v ≡ v)
at_body-last head v true o e = rw e (rw (eqb_same (length v)) refl, take_whole (length v) v (omega arith))
at_body-last head v false o e = rw e (rw (eqb_turned head.len (length v)) refl, refl)

pub fed_body : (limit : ℕ) (header : List ℕ) (head : Head) (w : List ℕ) (x : ℕ) (piece : List ℕ) → length header ≡ 4 →
    parse_head header limit ≡ Ok head → alien_in head w ≡ None → length w + length (x ∷ piece) ≤ head.len →
    IsBodyFed limit header w (x ∷ piece) head
fed_body limit header head w x [] e q n l =
    let one = fed-one limit (header ++ w) x in
    let push = alien_in-push head w x n (omega arith) in
    let last = at_body-last head (w ++ x ∷ []) (is_dm head && ends_alien (w ++ x ∷ []))
    (alien_in head (w ++ x ∷ [])) push in
    record {
      bytes = one.0 ∙ append_assoc header w (x ∷ []) ∙ ap (λ (t : List ℕ). header ++ t) (sym last.1);
      items = one.1 ∙ told_last limit header head w x e q ∙ last.0;
    }
fed_body limit header head w x (y ∷ piece) e q n l =
    by_end (is_dm head && ends_alien (w ++ x ∷ [])) (alien_in-push head w x n (omega arith))
    (λ none. fed_body limit header head (w ++ x ∷ []) y piece e q none (omega (arith, length-append w (x ∷ []))))
  where
    assoc : (w ++ x ∷ []) ++ y ∷ piece ≡ w ++ x ∷ y ∷ piece
    assoc = append_assoc w (x ∷ []) (y ∷ piece)

    items_of_step : last_items limit ((header ++ w) ++ x ∷ []) ≡ at_body head (w ++ x ∷ []) (alien_in head (w ++ x ∷ []))
    items_of_step = told_last limit header head w x e q

    by_end : (b : Bool) → alien_in head (w ++ x ∷ []) ≡ cond {A = Option ℕ} b (Some (length (w ++ x ∷ []))) None →
        (alien_in head (w ++ x ∷ []) ≡ None → IsBodyFed limit header (w ++ x ∷ []) (y ∷ piece) head) →
        IsBodyFed limit header w (x ∷ y ∷ piece) head
    by_end true push later =
        let v = w ++ x ∷ [] in
        let last : last_items limit ((header ++ w) ++ x ∷ []) ≡ Wrong InvalidToken ∷ [] =
        items_of_step ∙ ap (at_body head v) push ∙ rw (eqb_same (length v)) refl in
        let stop = fed-stop limit (header ++ w) x (y ∷ piece) (Wrong InvalidToken) [] last in
        let place : alien_in head (w ++ x ∷ y ∷ piece) ≡ Some (length v) =
        ap (alien_in head) (sym assoc)
        ∙ alien_in-grown head v (y ∷ piece) (length v) push
        (omega (arith, length-append v (y ∷ piece), length-append w (x ∷ []))) in
        record {
          bytes = stop.0 ∙ append_assoc header w (x ∷ [])
              ∙ ap (λ (t : List ℕ). header ++ t) (sym (take-append_seam v (y ∷ piece)) ∙ ap (take (length v)) assoc)
              ∙ ap (λ (o : Option ℕ). header ++ kept o (w ++ x ∷ y ∷ piece)) (sym place);
          items = stop.1 ∙ ap (ending head (w ++ x ∷ y ∷ piece)) (sym place);
        }
    by_end false push later =
        let v = w ++ x ∷ [] in
        let apart = eqb_apart head.len (length v) (λ h. (omega (arith, h, length-append w (x ∷ [])))) in
        let last : last_items limit ((header ++ w) ++ x ∷ []) ≡ [] = items_of_step ∙ ap (at_body head v) push ∙ rw apart refl in
        let on = fed-on limit (header ++ w) x (y ∷ piece) last in
        let h = later push in
        record {
          bytes = on.0 ∙ ap (λ (t : List ℕ). fed limit t (y ∷ piece)) (append_assoc header w (x ∷ [])) ∙ h.bytes
              ∙ ap (λ (t : List ℕ). header ++ kept (alien_in head t) t) assoc;
          items = on.1 ∙ ap (λ (t : List ℕ). fed_items limit t (y ∷ piece)) (append_assoc header w (x ∷ [])) ∙ h.items
              ∙ ap (λ (t : List ℕ). ending head t (alien_in head t)) assoc;
        }

pub not_empty : (n : ℕ) → eqb n 0 ≡ false → 0 < n
not_empty n e = grind (arith, nat_tests)

-- what holds before a piece of a body is fed
pub record IsReady (limit have : ℕ) (header : List ℕ) (f : Bool) (body : List ℕ) (capacity : ℕ) (piece : List ℕ)
    (head : Head) : Type 0 where
  pub four : length header ≡ 4
  pub whole : have ≡ 4
  pub read : parse_head header limit ≡ Ok head
  pub lawful : IsGood limit head
  pub no_alien : alien_in head body ≡ None
  pub no_fault : f ≡ false
  pub filled : 0 < length piece
  pub fits : length (body ++ piece) ≤ head.len
  pub reserved : limit ≤ capacity

no_alien_missing : (head : Head) (body : List ℕ) → 0 < missing_of_body (Some head) body →
    (alien_in head body ≡ None) × (missing_of_body (Some head) body ≡ head.len - length body)
no_alien_missing head body h = by_alien (alien_in head body) refl h
  where
    by_alien : (o : Option ℕ) → alien_in head body ≡ o → 0 < cond (is_some o) 0 (head.len - length body) →
        (alien_in head body ≡ None) × (missing_of_body (Some head) body ≡ head.len - length body)
    by_alien None e h = (e, rw e refl)
    by_alien (Some n) e h = absurd (omega arith)

pub ready : (limit have : ℕ) (header : List ℕ) (head : Option Head) (f : Bool) (body : List ℕ) (capacity : ℕ)
    (piece : List ℕ) (good : Head) → IsConsistent limit have header head f body capacity → head ≡ Some good →
    4 ≤ length (take have header ++ body) → 0 < length piece →
    length piece ≤ missing limit (take have header ++ body) →
    IsReady limit have header f body capacity piece good
ready limit have header head f body capacity piece good i h l p m =
    let whole = whole_header limit have header head f body capacity i l in
    let b = in_body limit have header head f body capacity good i h in
    let left : missing limit (take have header ++ body) ≡ missing_of_body (Some good) body =
    missing-body limit have header head body whole i.four i.read
    ∙ ap (λ (o : Option Head). missing_of_body o body) h in
    let n = no_alien_missing good body (omega (arith, left)) in
    record {
      four = i.four;
      whole = whole;
      read = b.read;
      lawful = b.lawful;
      no_alien = n.0;
      no_fault = b.alien ∙ ap is_some n.0;
      filled = p;
      fits = omega (arith, left, n.1, length-append body piece);
      reserved = i.reserved;
    }

-- if a body has no alien token, its first tokens are not alien
pub known_front : (head : Head) (body piece v : List ℕ) (n : ℕ) → alien_in head body ≡ None →
    length (body ++ piece) ≤ head.len → v ≡ body ++ piece → n ≤ length body → alien_in head (take n v) ≡ None
known_front head body piece v n e l q h =
    let part : take n v ≡ take n body = ap (take n) q ∙ take-append-le n body piece h in
    let whole : alien_by (is_dm head) body ≡ None =
    sym (alien_in-within head body (omega (arith, l, length-append body piece))) ∙ e in
    ap (alien_in head) part
    ∙ alien_in-within head (take n body) (omega (arith, l, length-append body piece, length-take n body))
    ∙ by-part (is_dm head) body n whole
  where
    by-part : (dm : Bool) (body : List ℕ) (n : ℕ) → alien_by dm body ≡ None → alien_by dm (take n body) ≡ None
    by-part false body n e = refl
    by-part true body n e = first_alien-part (take n body) (drop n body) (ap first_alien (take-append-drop n body) ∙ e)

body_read : (limit : ℕ) (header v : List ℕ) (head : Head) → length header ≡ 4 → parse_head header limit ≡ Ok head →
    head_in limit (header ++ v) ≡ Some head
body_read limit header v head e q =
    head_in-whole limit (header ++ v) (omega (arith, length-append header v))
    ∙ ap head_part (parse_head-append limit header v e ∙ q)

body_after : (header v : List ℕ) → length header ≡ 4 → drop 4 (header ++ v) ≡ v
body_after header v e = subst (λ (n : ℕ). drop n (header ++ v) ≡ v) e (drop-append_seam header v)

body_left : (limit : ℕ) (header v : List ℕ) (head : Head) → length header ≡ 4 → parse_head header limit ≡ Ok head →
    missing limit (header ++ v) ≡ missing_of_body (Some head) v
body_left limit header v head e q =
    missing-four limit header v e ∙ ap (λ (o : Option Head). missing_of_body o v) (body_read limit header v head e q)

taken_whole : (limit : ℕ) (header : List ℕ) (head : Head) (w piece : List ℕ) → length header ≡ 4 →
    parse_head header limit ≡ Ok head → alien_in head w ≡ None → 0 < length piece → length (w ++ piece) ≤ head.len →
    IsBodyFed limit header w piece head
taken_whole limit header head w [] e q n p l = absurd (omega arith)
taken_whole limit header head w (x ∷ piece) e q n p l =
    fed_body limit header head w x piece e q n (omega (arith, length-append w (x ∷ piece)))

-- a fault at the end of an alien token
wrong_at : (limit : ℕ) (header : List ℕ) (head : Head) (w piece : List ℕ) (n : ℕ) → length header ≡ 4 →
    parse_head header limit ≡ Ok head → alien_in head w ≡ None → 0 < length piece → length (w ++ piece) ≤ head.len →
    alien_in head (w ++ piece) ≡ Some n →
    IsFed limit (header ++ w) piece (Fault InvalidToken) (header ++ take n (w ++ piece))
wrong_at limit header head w piece n e q none p l a =
    let v = w ++ piece in
    let b = taken_whole limit header head w piece e q none p l in
    let items : fed_items limit (header ++ w) piece ≡ Wrong InvalidToken ∷ [] = b.items ∙ ap (ending head v) a in
    record {
      bytes = sym (b.bytes ∙ ap (λ (o : Option ℕ). header ++ kept o v) a);
      answer = ap step_of_events (sym items);
      items = items;
      whole = inl tt;
      frame_bytes = tt;
      closed = λ _. body_left limit header (take n v) head e q
          ∙ ap (λ (o : Option ℕ). cond (is_some o) 0 (head.len - length (take n v))) (alien_in-end head v n a l).1;
    }

-- without an alien token, the body is whole or incomplete
abbrev pub IsRightStep : List ℕ → Head → Step → Type 0
IsRightStep v head step = ((length v ≡ head.len) × (step ≡ Bodied head)) ⊎ ((length v ≡ head.len → ⊥) × (step ≡ More))

right_at : (limit : ℕ) (header : List ℕ) (head : Head) (w piece : List ℕ) (step : Step) → length header ≡ 4 →
    parse_head header limit ≡ Ok head → IsGood limit head → alien_in head w ≡ None → 0 < length piece →
    length (w ++ piece) ≤ head.len → alien_in head (w ++ piece) ≡ None → IsRightStep (w ++ piece) head step →
    IsFed limit (header ++ w) piece step (header ++ (w ++ piece))
right_at limit header head w piece step e q good none p l a (inl h) =
    let v = w ++ piece in
    let b = taken_whole limit header head w piece e q none p l in
    let read = body_read limit header v head e q in
    let after = body_after header v e in
    let items : fed_items limit (header ++ w) piece ≡ Whole head v ∷ [] =
    b.items ∙ ap (ending head v) a ∙ rw (eqb_is (length v) head.len h.0) refl in
    rw h.1 (record {
      bytes = sym (b.bytes ∙ ap (λ (o : Option ℕ). header ++ kept o v) a);
      answer = ap step_of_events (sym items);
      items = items ∙ sym (told_whole head v (omega (arith, length-append w piece)))
          ∙ ap (items_of_step (Bodied head)) (sym after);
      whole = inr (sym (append_assoc header w piece));
      frame_bytes = (read, rw after (good.right, h.0));
      closed = λ _. body_left limit header v head e q
          ∙ ap (λ (o : Option ℕ). cond (is_some o) 0 (head.len - length v)) a ∙ omega (arith, h.0);
    })
right_at limit header head w piece step e q good none p l a (inr h) =
    let v = w ++ piece in
    let b = taken_whole limit header head w piece e q none p l in
    let items : fed_items limit (header ++ w) piece ≡ [] =
    b.items ∙ ap (ending head v) a ∙ rw (eqb_apart (length v) head.len h.0) refl in
    rw h.1 (record {
      bytes = sym (b.bytes ∙ ap (λ (o : Option ℕ). header ++ kept o v) a);
      answer = ap step_of_events (sym items);
      items = items;
      whole = inr (sym (append_assoc header w piece));
      frame_bytes = tt;
      closed = λ none. absurd none;
    })

-- the same by a cutter's fields

pub fed_wrong : (limit have : ℕ) (header : List ℕ) (f : Bool) (body : List ℕ) (capacity : ℕ) (piece : List ℕ)
    (head : Head) (n : ℕ) (after : List ℕ) → IsReady limit have header f body capacity piece head →
    alien_in head (body ++ piece) ≡ Some n → after ≡ take n (body ++ piece) →
    IsFed limit (take have header ++ body) piece (Fault InvalidToken) (take have header ++ after)
fed_wrong limit have header f body capacity piece head n after r a q =
    rw (q, take_whole' have header r.whole r.four)
    (wrong_at limit header head body piece n r.four r.read r.no_alien r.filled r.fits a)

pub fed_right : (limit have : ℕ) (header : List ℕ) (f : Bool) (body : List ℕ) (capacity : ℕ) (piece : List ℕ)
    (head : Head) (step : Step) (after : List ℕ) → IsReady limit have header f body capacity piece head →
    alien_in head (body ++ piece) ≡ None → after ≡ body ++ piece → IsRightStep (body ++ piece) head step →
    IsFed limit (take have header ++ body) piece step (take have header ++ after)
fed_right limit have header f body capacity piece head step after r a q s =
    rw (q, take_whole' have header r.whole r.four)
    (right_at limit header head body piece step r.four r.read r.lawful r.no_alien r.filled r.fits a s)

pub consistent_wrong : (limit have : ℕ) (header : List ℕ) (o : Option Head) (f : Bool) (body : List ℕ) (capacity : ℕ)
    (piece : List ℕ) (head : Head) (n : ℕ) (after : List ℕ) (later : ℕ) →
    IsReady limit have header f body capacity piece head → o ≡ Some head → alien_in head (body ++ piece) ≡ Some n →
    after ≡ take n (body ++ piece) → limit ≤ later → IsConsistent limit have header o true after later
consistent_wrong limit have header o f body capacity piece head n after later r h a q k =
    let end = alien_in-end head (body ++ piece) n a r.fits in
    consistent_body limit have header o true after later head r.whole r.four h r.read
    (omega (arith, ap length q, length-take n (body ++ piece), r.fits))
    (sym (ap is_some (ap (alien_in head) q ∙ end.1))) k

pub consistent_right : (limit have : ℕ) (header : List ℕ) (o : Option Head) (f : Bool) (body : List ℕ) (capacity : ℕ)
    (piece : List ℕ) (head : Head) (after : List ℕ) (later : ℕ) → IsReady limit have header f body capacity piece head →
    o ≡ Some head → alien_in head (body ++ piece) ≡ None → after ≡ body ++ piece → limit ≤ later →
    IsConsistent limit have header o f after later
consistent_right limit have header o f body capacity piece head after later r h a q k =
    consistent_body limit have header o f after later head r.whole r.four h r.read (omega (arith, ap length q, r.fits))
    (r.no_fault ∙ sym (ap is_some (ap (alien_in head) q ∙ a))) k
