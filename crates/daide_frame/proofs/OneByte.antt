-- The effect of one more byte of a frame: the events that it ends, and the state of the frame after it.
use Rattle.std.proofs.Common.{◌≡◌, ℕ, inl, inr, ◌⊎◌, ◌+◌, ◌-◌, ◌<◌, ◌≤◌, Bool, true, false, cond, eqb, List, [], ◌∷◌}
use Rattle.std.proofs.Common.{◌++◌, length, take, Option, Some, None, Result, Ok, Err, refl, sym, ap, ◌∙◌, subst, arith}
use Rattle.std.proofs.Common.{length-append, append-nil, ◌&&◌, is_some}
use Rattle.std.proofs.lemmas.Bool.Decides.{eqb_tells}
use Rattle.std.proofs.Math.Seq.{take-append_seam, take-append-add}
use Rattle.daide_frame.proofs.Common.{Head, Code, InvalidToken, parse_head}
use Rattle.daide_frame.specs.Frames.{alien_in, FrameEvent, Begun, Whole, Wrong, EventAtOffset, items_of_body, first_items, is_whole_frame}
use Rattle.daide_frame.specs.Frames.{is_wrong, frame_end, any_item, event_at_offset, last_items, head_part, missing_of_body}
use Rattle.daide_frame.specs.Frames.{missing}
use Rattle.daide_frame.proofs.AlienLemmas.{ends_alien}
use Rattle.daide_frame.proofs.FramesLemmas.{at_head, at_body, alien_in-nothing, parse_head-append4, first_items-short}
use Rattle.daide_frame.proofs.FramesLemmas.{last_items-short, last_items-head4, last_items-body4, missing-short}
use Rattle.daide_frame.proofs.FramesLemmas.{missing-of4, wanted}
use Rattle.daide_frame.proofs.ListLemmas.{ltb_no, leb_no, leb_yes, eqb_same, eqb_is, eqb_apart}
use Rattle.daide_frame.proofs.FeedingLemmas.{alien_by, by-grown, is_dm, alien_in-within, alien_in-push}

-- The events of the first frame, by its progress

abbrev begun_at : Head → EventAtOffset
begun_at head = record { item = Begun head; at = 4 }

first_items-refused : (limit p q r s : ℕ) (w : List ℕ) (code : Code) → parse_head (p ∷ q ∷ r ∷ s ∷ []) limit ≡ Err code →
    first_items limit (p ∷ q ∷ r ∷ s ∷ w) ≡ record { item = Wrong code; at = 4 } ∷ []
unfolding first_items
first_items-refused limit p q r s w code h =
    rw (ltb_no (length (p ∷ q ∷ r ∷ s ∷ w)) 4 (omega arith)) (rw (parse_head-append4 limit p q r s w) (rw h refl))

first_items-good : (limit p q r s : ℕ) (w : List ℕ) (head : Head) → parse_head (p ∷ q ∷ r ∷ s ∷ []) limit ≡ Ok head →
    first_items limit (p ∷ q ∷ r ∷ s ∷ w) ≡ begun_at head ∷ items_of_body head w (alien_in head w)
unfolding first_items
first_items-good limit p q r s w head h =
    rw (ltb_no (length (p ∷ q ∷ r ∷ s ∷ w)) 4 (omega arith)) (rw (parse_head-append4 limit p q r s w) (rw h refl))

body_goes_on : (head : Head) (w : List ℕ) → alien_in head w ≡ None → length w < head.len →
    items_of_body head w (alien_in head w) ≡ []
body_goes_on head w e l = ap (items_of_body head w) e ∙ rw (leb_no head.len (length w) l) refl

-- a whole body and the bytes after it
body_ends : (head : Head) (w more : List ℕ) → alien_in head w ≡ None → length w ≡ head.len →
    items_of_body head (w ++ more) (alien_in head (w ++ more)) ≡ record { item = Whole head w; at = 4 + head.len } ∷ []
body_ends head w more e l =
    let front : take head.len (w ++ more) ≡ w = ap (λ (n : ℕ). take n (w ++ more)) (sym l) ∙ take-append_seam w more in
    let none : alien_in head (w ++ more) ≡ None =
    ap (alien_by (is_dm head)) front ∙ sym (alien_in-within head w (omega (arith, l))) ∙ e in
    ap (items_of_body head (w ++ more)) none
    ∙ rw (leb_yes head.len (length (w ++ more)) (omega (arith, l, length-append w more)))
    (ap (λ (v : List ℕ). record { item = Whole head v; at = 4 + head.len } ∷ []) front)

body_fails : (head : Head) (v more : List ℕ) (n : ℕ) → alien_in head v ≡ Some n → length v ≤ head.len →
    items_of_body head (v ++ more) (alien_in head (v ++ more)) ≡ record { item = Wrong InvalidToken; at = 4 + n } ∷ []
body_fails head v more n e l =
    let size : head.len ≡ length v + (head.len - length v) = omega arith in
    let front : take head.len (v ++ more) ≡ v ++ take (head.len - length v) more =
    ap (λ (k : ℕ). take k (v ++ more)) size ∙ take-append-add v more (head.len - length v) in
    let some : alien_in head (v ++ more) ≡ Some n =
    ap (alien_by (is_dm head)) front
    ∙ by-grown (is_dm head) v (take (head.len - length v) more) n (sym (alien_in-within head v l) ∙ e) in
    ap (items_of_body head (v ++ more)) some

-- The events at a byte

-- the events that end with the byte follow the earlier ones
pub record IsTold (limit : ℕ) (b : List ℕ) (x : ℕ) (wrong whole : Bool) : Type 0 where
  pub wrong_is : any_item is_wrong (last_items limit (b ++ x ∷ [])) ≡ wrong
  pub whole_is : any_item is_whole_frame (last_items limit (b ++ x ∷ [])) ≡ whole
  pub items : first_items limit (b ++ x ∷ [])
      ≡ first_items limit b ++ event_at_offset (length b + 1) (last_items limit (b ++ x ∷ []))

-- the frame is still incomplete
pub record GoesOn (limit : ℕ) (b : List ℕ) (x : ℕ) : Type 0 where
  pub told : IsTold limit b x false false
  pub left : 0 < missing limit (b ++ x ∷ [])
  pub less : last_items limit (b ++ x ∷ []) ≡ [] → missing limit (b ++ x ∷ []) + 1 ≡ missing limit b

-- or it is whole or has a fault, and further bytes do not change it
pub record IsOver (limit : ℕ) (b : List ℕ) (x : ℕ) (wrong whole : Bool) (end : Option ℕ) : Type 0 where
  pub told : IsTold limit b x wrong whole
  pub loud : last_items limit (b ++ x ∷ []) ≡ [] → ⊥
  pub stays : (more : List ℕ) → first_items limit ((b ++ x ∷ []) ++ more) ≡ first_items limit (b ++ x ∷ [])
  pub end_is : frame_end (first_items limit (b ++ x ∷ [])) ≡ end

abbrev pub ByteTells : ℕ → List ℕ → ℕ → Type 0
ByteTells limit b x =
    GoesOn limit b x ⊎ (IsOver limit b x false true (Some (length b + 1)) ⊎ IsOver limit b x true false None)

short : (limit : ℕ) (b : List ℕ) (x : ℕ) → length b < 3 → ByteTells limit b x
short limit b x h =
    let more : length (b ++ x ∷ []) ≡ length b + 1 = omega (arith, length-append b (x ∷ [])) in
    let none = last_items-short limit (b ++ x ∷ []) (omega arith) in
    inl (record {
      told = record {
        wrong_is = ap (any_item is_wrong) none;
        whole_is = ap (any_item is_whole_frame) none;
        items = first_items-short limit (b ++ x ∷ []) (omega arith)
            ∙ sym (rw (first_items-short limit b (omega arith), none) refl);
      };
      left = omega (arith, missing-short limit (b ++ x ∷ []) (omega arith));
      less = λ _. (omega (arith, missing-short limit (b ++ x ∷ []) (omega arith), missing-short limit b (omega arith)));
    })

-- the fourth byte

refused : (limit p q r x : ℕ) (code : Code) → parse_head (p ∷ q ∷ r ∷ x ∷ []) limit ≡ Err code →
    ByteTells limit (p ∷ q ∷ r ∷ []) x
refused limit p q r x code h =
    let last : last_items limit (p ∷ q ∷ r ∷ x ∷ []) ≡ Wrong code ∷ [] =
    last_items-head4 limit p q r x ∙ ap at_head h in
    let now = first_items-refused limit p q r x [] code h in
    inr (inr (record {
      told = record {
        wrong_is = ap (any_item is_wrong) last;
        whole_is = ap (any_item is_whole_frame) last;
        items = now ∙ sym (rw (first_items-short limit (p ∷ q ∷ r ∷ []) (omega arith), last) refl);
      };
      loud = λ e. (let k : ◌≡◌ {A = List FrameEvent} (Wrong code ∷ []) [] = sym last ∙ e in absurd (cc));
      stays = λ more. first_items-refused limit p q r x more code h ∙ sym now;
      end_is = ap frame_end now;
    }))

empty_body : (limit p q r x : ℕ) (head : Head) → parse_head (p ∷ q ∷ r ∷ x ∷ []) limit ≡ Ok head → head.len ≡ 0 →
    ByteTells limit (p ∷ q ∷ r ∷ []) x
empty_body limit p q r x head h z =
    let last : last_items limit (p ∷ q ∷ r ∷ x ∷ []) ≡ Begun head ∷ Whole head [] ∷ [] =
    last_items-head4 limit p q r x ∙ ap at_head h ∙ rw (eqb_is head.len 0 z) refl in
    let items : (more : List ℕ) →
    first_items limit (p ∷ q ∷ r ∷ x ∷ more) ≡ begun_at head ∷ record { item = Whole head []; at = 4 } ∷ [] =
    λ more.
    first_items-good limit p q r x more head h
    ∙ ap (λ (t : List EventAtOffset). begun_at head ∷ t) (body_ends head [] more (alien_in-nothing head) (sym z)
    ∙ ap (λ (n : ℕ). record { item = Whole head []; at = n } ∷ []) (omega (arith, z))) in
    inr (inl (record {
      told = record {
        wrong_is = ap (any_item is_wrong) last;
        whole_is = ap (any_item is_whole_frame) last;
        items = items [] ∙ sym (rw (first_items-short limit (p ∷ q ∷ r ∷ []) (omega arith), last) refl);
      };
      loud = λ e. (let k : ◌≡◌ {A = List FrameEvent} (Begun head ∷ Whole head [] ∷ []) [] = sym last ∙ e in absurd (cc));
      stays = λ more. items more ∙ sym (items []);
      end_is = ap frame_end (items []);
    }))

begun : (limit p q r x : ℕ) (head : Head) → parse_head (p ∷ q ∷ r ∷ x ∷ []) limit ≡ Ok head → (head.len ≡ 0 → ⊥) →
    ByteTells limit (p ∷ q ∷ r ∷ []) x
begun limit p q r x head h z =
    let last : last_items limit (p ∷ q ∷ r ∷ x ∷ []) ≡ Begun head ∷ [] =
    last_items-head4 limit p q r x ∙ ap at_head h ∙ rw (eqb_apart head.len 0 z) refl in
    let items : first_items limit (p ∷ q ∷ r ∷ x ∷ []) ≡ begun_at head ∷ [] =
    first_items-good limit p q r x [] head h
    ∙ ap (λ (t : List EventAtOffset). begun_at head ∷ t)
    (body_goes_on head [] (alien_in-nothing head) (omega (arith, z))) in
    let open_body : missing limit (p ∷ q ∷ r ∷ x ∷ []) ≡ head.len - 0 =
    missing-of4 limit p q r x [] ∙ ap (λ (o : Result Head Code). missing_of_body (head_part o) []) h
    ∙ rw (alien_in-nothing head) refl in
    inl (record {
      told = record {
        wrong_is = ap (any_item is_wrong) last;
        whole_is = ap (any_item is_whole_frame) last;
        items = items ∙ sym (rw (first_items-short limit (p ∷ q ∷ r ∷ []) (omega arith), last) refl);
      };
      left = omega (arith, open_body, z);
      less = λ e. (let k : ◌≡◌ {A = List FrameEvent} (Begun head ∷ []) [] = sym last ∙ e in absurd (cc));
    })

fourth : (limit p q r x : ℕ) (o : Result Head Code) → parse_head (p ∷ q ∷ r ∷ x ∷ []) limit ≡ o →
    ByteTells limit (p ∷ q ∷ r ∷ []) x
fourth limit p q r x (Err code) h = refused limit p q r x code h
fourth limit p q r x (Ok head) h = by_length (eqb_tells head.len 0)
  where
    by_length : ((eqb head.len 0 ≡ true) × (head.len ≡ 0)) ⊎ ((eqb head.len 0 ≡ false) × (head.len ≡ 0 → ⊥)) →
        ByteTells limit (p ∷ q ∷ r ∷ []) x
    by_length (inl t) = empty_body limit p q r x head h t.1
    by_length (inr t) = begun limit p q r x head h t.1

-- a byte of the body

record IsOpen (limit p q r s : ℕ) (w : List ℕ) (head : Head) : Type 0 where
  read : parse_head (p ∷ q ∷ r ∷ s ∷ []) limit ≡ Ok head
  no_alien : alien_in head w ≡ None
  less : length w < head.len

open_items : (limit p q r s : ℕ) (w : List ℕ) (head : Head) → IsOpen limit p q r s w head →
    first_items limit (p ∷ q ∷ r ∷ s ∷ w) ≡ begun_at head ∷ []
open_items limit p q r s w head o =
    first_items-good limit p q r s w head o.read
    ∙ ap (λ (t : List EventAtOffset). begun_at head ∷ t) (body_goes_on head w o.no_alien o.less)

body_last : (limit p q r s : ℕ) (w : List ℕ) (x : ℕ) (head : Head) → IsOpen limit p q r s w head →
    last_items limit (p ∷ q ∷ r ∷ s ∷ (w ++ x ∷ [])) ≡ at_body head (w ++ x ∷ []) (alien_in head (w ++ x ∷ []))
body_last limit p q r s w x head o =
    last_items-body4 limit p q r s (w ++ x ∷ []) head o.read (omega (arith, length-append w (x ∷ [])))

body_missing : (limit p q r s : ℕ) (w : List ℕ) (head : Head) → parse_head (p ∷ q ∷ r ∷ s ∷ []) limit ≡ Ok head →
    alien_in head w ≡ None → missing limit (p ∷ q ∷ r ∷ s ∷ w) ≡ head.len - length w
body_missing limit p q r s w head h e =
    missing-of4 limit p q r s w ∙ ap (λ (o : Result Head Code). missing_of_body (head_part o) w) h
    ∙ ap (λ (o : Option ℕ). cond (is_some o) 0 (head.len - length w)) e

alien_byte : (limit p q r s : ℕ) (w : List ℕ) (x : ℕ) (head : Head) → IsOpen limit p q r s w head →
    alien_in head (w ++ x ∷ []) ≡ Some (length (w ++ x ∷ [])) → ByteTells limit (p ∷ q ∷ r ∷ s ∷ w) x
alien_byte limit p q r s w x head o e =
    let v = w ++ x ∷ [] in
    let size : length v ≡ length w + 1 = omega (arith, length-append w (x ∷ [])) in
    let last : last_items limit (p ∷ q ∷ r ∷ s ∷ v) ≡ Wrong InvalidToken ∷ [] =
    body_last limit p q r s w x head o ∙ ap (at_body head v) e ∙ rw (eqb_same (length v)) refl in
    let items : (more : List ℕ) →
    first_items limit (p ∷ q ∷ r ∷ s ∷ (v ++ more))
    ≡ begun_at head ∷ record { item = Wrong InvalidToken; at = 4 + length v } ∷ [] = λ more.
    first_items-good limit p q r s (v ++ more) head o.read
    ∙ ap (λ (t : List EventAtOffset). begun_at head ∷ t)
    (body_fails head v more (length v) e (omega (arith, size, o.less))) in
    let now : first_items limit (p ∷ q ∷ r ∷ s ∷ v)
    ≡ begun_at head ∷ record { item = Wrong InvalidToken; at = length (p ∷ q ∷ r ∷ s ∷ w) + 1 } ∷ [] =
    ap (λ (t : List ℕ). first_items limit (p ∷ q ∷ r ∷ s ∷ t)) (sym (append-nil v)) ∙ items []
    ∙ ap (λ (n : ℕ). begun_at head ∷ record { item = Wrong InvalidToken; at = n } ∷ []) (omega (arith, size)) in
    inr (inr (record {
      told = record {
        wrong_is = ap (any_item is_wrong) last;
        whole_is = ap (any_item is_whole_frame) last;
        items = now ∙ sym (rw (open_items limit p q r s w head o, last) refl);
      };
      loud = λ k. (let k : ◌≡◌ {A = List FrameEvent} (Wrong InvalidToken ∷ []) [] = sym last ∙ k in absurd (cc));
      stays = λ more. items more
          ∙ ap (λ (n : ℕ). begun_at head ∷ record { item = Wrong InvalidToken; at = n } ∷ []) (omega (arith, size))
          ∙ sym now;
      end_is = ap frame_end now;
    }))

last_byte : (limit p q r s : ℕ) (w : List ℕ) (x : ℕ) (head : Head) → IsOpen limit p q r s w head →
    alien_in head (w ++ x ∷ []) ≡ None → length (w ++ x ∷ []) ≡ head.len → ByteTells limit (p ∷ q ∷ r ∷ s ∷ w) x
last_byte limit p q r s w x head o e l =
    let v = w ++ x ∷ [] in
    let size : length v ≡ length w + 1 = omega (arith, length-append w (x ∷ [])) in
    let last : last_items limit (p ∷ q ∷ r ∷ s ∷ v) ≡ Whole head v ∷ [] =
    body_last limit p q r s w x head o ∙ ap (at_body head v) e ∙ rw (eqb_is head.len (length v) (sym l)) refl in
    let items : (more : List ℕ) →
    first_items limit (p ∷ q ∷ r ∷ s ∷ (v ++ more))
    ≡ begun_at head ∷ record { item = Whole head v; at = 4 + head.len } ∷ [] = λ more.
    first_items-good limit p q r s (v ++ more) head o.read
    ∙ ap (λ (t : List EventAtOffset). begun_at head ∷ t) (body_ends head v more e l) in
    let now : first_items limit (p ∷ q ∷ r ∷ s ∷ v)
    ≡ begun_at head ∷ record { item = Whole head v; at = length (p ∷ q ∷ r ∷ s ∷ w) + 1 } ∷ [] =
    ap (λ (t : List ℕ). first_items limit (p ∷ q ∷ r ∷ s ∷ t)) (sym (append-nil v)) ∙ items []
    ∙ ap (λ (n : ℕ). begun_at head ∷ record { item = Whole head v; at = n } ∷ []) (omega (arith, size, l)) in
    inr (inl (record {
      told = record {
        wrong_is = ap (any_item is_wrong) last;
        whole_is = ap (any_item is_whole_frame) last;
        items = now ∙ sym (rw (open_items limit p q r s w head o, last) refl);
      };
      loud = λ k. (let k : ◌≡◌ {A = List FrameEvent} (Whole head v ∷ []) [] = sym last ∙ k in absurd (cc));
      stays = λ more. items more
          ∙ ap (λ (n : ℕ). begun_at head ∷ record { item = Whole head v; at = n } ∷ []) (omega (arith, size, l))
          ∙ sym now;
      end_is = ap frame_end now;
    }))

quiet_byte : (limit p q r s : ℕ) (w : List ℕ) (x : ℕ) (head : Head) → IsOpen limit p q r s w head →
    alien_in head (w ++ x ∷ []) ≡ None → (length (w ++ x ∷ []) ≡ head.len → ⊥) → ByteTells limit (p ∷ q ∷ r ∷ s ∷ w) x
quiet_byte limit p q r s w x head o e l =
    let v = w ++ x ∷ [] in
    let size : length v ≡ length w + 1 = omega (arith, length-append w (x ∷ [])) in
    let open_still : IsOpen limit p q r s v head =
    record { read = o.read; no_alien = e; less = omega (arith, size, o.less, l) } in
    let last : last_items limit (p ∷ q ∷ r ∷ s ∷ v) ≡ [] =
    body_last limit p q r s w x head o ∙ ap (at_body head v) e
    ∙ rw (eqb_apart head.len (length v) (λ h. l (sym h))) refl in
    inl (record {
      told = record {
        wrong_is = ap (any_item is_wrong) last;
        whole_is = ap (any_item is_whole_frame) last;
        items = open_items limit p q r s v head open_still ∙ sym (rw (open_items limit p q r s w head o, last) refl);
      };
      left = omega (arith, body_missing limit p q r s v head o.read e, size, o.less, l);
      less = λ _. (omega (
        arith,
        body_missing limit p q r s v head o.read e,
        body_missing limit p q r s w head o.read o.no_alien,
        size,
        o.less,
      ));
    })

body_byte : (limit p q r s : ℕ) (w : List ℕ) (x : ℕ) (head : Head) → IsOpen limit p q r s w head →
    ByteTells limit (p ∷ q ∷ r ∷ s ∷ w) x
body_byte limit p q r s w x head o =
    by_end (is_dm head && ends_alien (w ++ x ∷ [])) (alien_in-push head w x o.no_alien o.less)
  where
    by_length : alien_in head (w ++ x ∷ []) ≡ None →
        ((eqb (length (w ++ x ∷ [])) head.len ≡ true) × (length (w ++ x ∷ []) ≡ head.len)) ⊎
        ((eqb (length (w ++ x ∷ [])) head.len ≡ false) × (length (w ++ x ∷ []) ≡ head.len → ⊥)) →
        ByteTells limit (p ∷ q ∷ r ∷ s ∷ w) x
    by_length e (inl t) = last_byte limit p q r s w x head o e t.1
    by_length e (inr t) = quiet_byte limit p q r s w x head o e t.1

    by_end : (b : Bool) → alien_in head (w ++ x ∷ []) ≡ cond {A = Option ℕ} b (Some (length (w ++ x ∷ []))) None →
        ByteTells limit (p ∷ q ∷ r ∷ s ∷ w) x
    by_end true e = alien_byte limit p q r s w x head o e
    by_end false e = by_length e (eqb_tells (length (w ++ x ∷ [])) head.len)

read_byte : (limit p q r s : ℕ) (w : List ℕ) (x : ℕ) (o : Result Head Code) → parse_head (p ∷ q ∷ r ∷ s ∷ []) limit ≡ o →
    0 < missing_of_body (head_part o) w → ByteTells limit (p ∷ q ∷ r ∷ s ∷ w) x
read_byte limit p q r s w x (Err code) e h = absurd (omega arith)
read_byte limit p q r s w x (Ok head) e h =
    let n = wanted head w h in
    body_byte limit p q r s w x head (record { read = e; no_alien = n.0; less = n.1 })

-- the events at a byte that is still missing
pub byte_tells : (limit : ℕ) (b : List ℕ) (x : ℕ) → 0 < missing limit b → ByteTells limit b x
byte_tells limit [] x h = short limit [] x (omega arith)
byte_tells limit (p ∷ []) x h = short limit (p ∷ []) x (omega arith)
byte_tells limit (p ∷ q ∷ []) x h = short limit (p ∷ q ∷ []) x (omega arith)
byte_tells limit (p ∷ q ∷ r ∷ []) x h = fourth limit p q r x (parse_head (p ∷ q ∷ r ∷ x ∷ []) limit) refl
byte_tells limit (p ∷ q ∷ r ∷ s ∷ w) x h =
    read_byte limit p q r s w x (parse_head (p ∷ q ∷ r ∷ s ∷ []) limit) refl
    (subst (λ (n : ℕ). 0 < n) (missing-of4 limit p q r s w) h)
