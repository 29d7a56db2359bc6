-- The cut of all bytes is what a byte-by-byte reading finds.
use Rattle.std.proofs.Common.{◌≡◌, ℕ, zero, suc, inl, inr, ◌+◌, ◌<◌, ◌≤◌, ◌||◌, Bool, true, false, cond, List, [], ◌∷◌}
use Rattle.std.proofs.Common.{◌++◌, length, drop, Option, Some, None, refl, sym, ap, ◌∙◌, arith, length-append}
use Rattle.std.proofs.Common.{length-drop, append_assoc, append-nil}
use Rattle.std.proofs.Math.Seq.{drop-append_seam}
use Rattle.daide_frame.specs.Frames.{FrameEvent, EventAtOffset, frame_events_of, first_items, frame_end, moved, or_nothing, cut_frames, cut}
use Rattle.daide_frame.specs.Frames.{is_whole_frame, any_item, event_at_offset, items_by_byte, last_items, missing, is_nothing, fed}
use Rattle.daide_frame.specs.Frames.{fed_items}
use Rattle.daide_frame.proofs.FramesLemmas.{first_items-short, missing-short}
use Rattle.daide_frame.proofs.OneByte.{IsTold, IsOver, ByteTells, byte_tells}

-- Events and their offsets

frame_events_of-append : (a b : List EventAtOffset) → frame_events_of (a ++ b) ≡ frame_events_of a ++ frame_events_of b
frame_events_of-append [] b = refl
frame_events_of-append (placed ∷ a) b = ap (λ (t : List FrameEvent). placed.item ∷ t) (frame_events_of-append a b)

frame_events_of-event_at_offset : (n : ℕ) (items : List FrameEvent) → frame_events_of (event_at_offset n items) ≡ items
frame_events_of-event_at_offset n [] = refl
frame_events_of-event_at_offset n (item ∷ items) = ap (λ (t : List FrameEvent). item ∷ t) (frame_events_of-event_at_offset n items)

moved-append : (by : ℕ) (a b : List EventAtOffset) → moved by (a ++ b) ≡ moved by a ++ moved by b
moved-append by [] b = refl
moved-append by (placed ∷ a) b =
    ap (λ (t : List EventAtOffset). record { item = placed.item; at = by + placed.at } ∷ t) (moved-append by a b)

moved-moved : (m n : ℕ) (a : List EventAtOffset) → moved m (moved n a) ≡ moved (m + n) a
moved-moved m n [] = refl
moved-moved m n (placed ∷ a) =
    ap (λ (t : List EventAtOffset). record { item = placed.item; at = m + (n + placed.at) } ∷ t) (moved-moved m n a)
    ∙ ap (λ (k : ℕ). record { item = placed.item; at = k } ∷ moved (m + n) a) (omega arith)

moved-event_at_offset : (m n : ℕ) (items : List FrameEvent) → moved m (event_at_offset n items) ≡ event_at_offset (m + n) items
moved-event_at_offset m n [] = refl
moved-event_at_offset m n (item ∷ items) =
    ap (λ (t : List EventAtOffset). record { item = item; at = m + n } ∷ t) (moved-event_at_offset m n items)

moved-nowhere : (a : List EventAtOffset) → moved 0 a ≡ a
moved-nowhere [] = refl
moved-nowhere (placed ∷ a) =
    ap (λ (t : List EventAtOffset). record { item = placed.item; at = 0 + placed.at } ∷ t) (moved-nowhere a)
    ∙ ap (λ (k : ℕ). record { item = placed.item; at = k } ∷ a) (omega arith)

-- The events of the first frame

told_before : (limit : ℕ) (b : List ℕ) (x : ℕ) → ByteTells limit b x →
    frame_events_of (first_items limit (b ++ x ∷ [])) ≡ frame_events_of (first_items limit b) ++ last_items limit (b ++ x ∷ [])
told_before limit b x tells = by_items (items_told tells)
  where
    items_told : ByteTells limit b x →
        first_items limit (b ++ x ∷ [])
        ≡ first_items limit b ++ event_at_offset (length b + 1) (last_items limit (b ++ x ∷ []))
    items_told (inl h) = h.told.items
    items_told (inr (inl h)) = h.told.items
    items_told (inr (inr h)) = h.told.items

    by_items : first_items limit (b ++ x ∷ [])
        ≡ first_items limit b ++ event_at_offset (length b + 1) (last_items limit (b ++ x ∷ [])) →
        frame_events_of (first_items limit (b ++ x ∷ []))
        ≡ frame_events_of (first_items limit b) ++ last_items limit (b ++ x ∷ [])
    by_items e = ap frame_events_of e
        ∙ frame_events_of-append (first_items limit b) (event_at_offset (length b + 1) (last_items limit (b ++ x ∷ [])))
        ∙ ap (λ (t : List FrameEvent). frame_events_of (first_items limit b) ++ t)
        (frame_events_of-event_at_offset (length b + 1) (last_items limit (b ++ x ∷ [])))

missing-push : (limit : ℕ) (b : List ℕ) (x : ℕ) → ByteTells limit b x → last_items limit (b ++ x ∷ []) ≡ [] →
    missing limit (b ++ x ∷ []) + 1 ≡ missing limit b
missing-push limit b x (inl h) e = h.less e
missing-push limit b x (inr (inl h)) e = absurd (h.loud e)
missing-push limit b x (inr (inr h)) e = absurd (h.loud e)

nothing_is : (items : List FrameEvent) → is_nothing items ≡ true → items ≡ []
nothing_is [] e = refl
nothing_is (item ∷ items) e = absurd (cc)

pub cut_piece : (limit : ℕ) (b piece : List ℕ) → length piece ≤ missing limit b →
    frame_events_of (first_items limit (fed limit b piece)) ≡ frame_events_of (first_items limit b) ++ fed_items limit b piece
cut_piece limit b [] h = sym (append-nil (frame_events_of (first_items limit b)))
cut_piece limit b (x ∷ piece) h = by_last (is_nothing (last_items limit (b ++ x ∷ []))) refl
    (λ q. (let m = missing-push limit b x tells q in cut_piece limit (b ++ x ∷ []) piece (omega arith)))
  where
    tells : ByteTells limit b x
    tells = byte_tells limit b x (omega arith)

    by_last : (n : Bool) → is_nothing (last_items limit (b ++ x ∷ [])) ≡ n →
        (last_items limit (b ++ x ∷ []) ≡ [] →
        frame_events_of (first_items limit (fed limit (b ++ x ∷ []) piece))
        ≡ frame_events_of (first_items limit (b ++ x ∷ [])) ++ fed_items limit (b ++ x ∷ []) piece) →
        frame_events_of (first_items limit (fed limit b (x ∷ piece)))
        ≡ frame_events_of (first_items limit b) ++ fed_items limit b (x ∷ piece)
    by_last true e later =
        let q = nothing_is _ e in
        rw e (later q ∙ ap (λ (t : List FrameEvent). t ++ fed_items limit (b ++ x ∷ []) piece) (told_before limit b x tells
        ∙ ap (λ (t : List FrameEvent). frame_events_of (first_items limit b) ++ t) q
        ∙ append-nil (frame_events_of (first_items limit b))))
    by_last false e later = rw e (told_before limit b x tells)

-- The frames of all bytes

-- the frames of bytes that begin with a frame, if further bytes do not change that frame
cut-over : (m limit : ℕ) (b bytes : List ℕ) (end : Option ℕ) → first_items limit (b ++ bytes) ≡ first_items limit b →
    frame_end (first_items limit b) ≡ end →
    cut_frames (suc m) limit (b ++ bytes)
    ≡ first_items limit b ++ or_nothing (λ len. moved len (cut_frames m limit (drop len (b ++ bytes)))) end
cut-over m limit b bytes end s e = rw s (rw e refl)

-- the events byte by byte, from one byte on

next-on : (limit place : ℕ) (pending : List ℕ) (x : ℕ) (bytes : List ℕ) (whole : Bool) →
    IsTold limit pending x false whole →
    items_by_byte limit place pending (x ∷ bytes)
    ≡ event_at_offset (place + 1) (last_items limit (pending ++ x ∷ [])) ++ items_by_byte limit (place + 1)
    (cond whole [] (pending ++ x ∷ [])) bytes
next-on limit place pending x bytes whole h = rw (h.wrong_is, h.whole_is) refl

next-wrong : (limit place : ℕ) (pending : List ℕ) (x : ℕ) (bytes : List ℕ) (whole : Bool) →
    IsTold limit pending x true whole →
    items_by_byte limit place pending (x ∷ bytes)
    ≡ event_at_offset (place + 1) (last_items limit (pending ++ x ∷ [])) ++ []
next-wrong limit place pending x bytes whole h = rw (h.wrong_is) refl

-- the events of a frame up to a byte, at a later offset
told_at : (limit place k : ℕ) (pending : List ℕ) (x : ℕ) (wrong whole : Bool) → IsTold limit pending x wrong whole →
    k ≡ place + length pending →
    moved place (first_items limit (pending ++ x ∷ []))
    ≡ moved place (first_items limit pending) ++ event_at_offset (k + 1) (last_items limit (pending ++ x ∷ []))
told_at limit place k pending x wrong whole h e =
    let items = last_items limit (pending ++ x ∷ []) in
    ap (moved place) h.items ∙ moved-append place (first_items limit pending) (event_at_offset (length pending + 1) items)
    ∙ ap (λ (t : List EventAtOffset). moved place (first_items limit pending) ++ t)
    (moved-event_at_offset place (length pending + 1) items ∙ ap (λ (n : ℕ). event_at_offset n items) (omega (arith, e)))

-- the events of the pending frame and then those of the rest are the cut of all bytes
abbrev Agrees : ℕ → ℕ → ℕ → ℕ → List ℕ → List ℕ → Type 0
Agrees n limit place k pending bytes =
    moved place (first_items limit pending) ++ items_by_byte limit k pending bytes
    ≡ moved place (cut_frames n limit (pending ++ bytes))

agrees-on : (m limit place k : ℕ) (pending : List ℕ) (x : ℕ) (bytes : List ℕ) → k ≡ place + length pending →
    IsTold limit pending x false false → Agrees (suc m) limit place (k + 1) (pending ++ x ∷ []) bytes →
    Agrees (suc m) limit place k pending (x ∷ bytes)
agrees-on m limit place k pending x bytes e h later =
    let now = moved place (first_items limit pending) in
    let items = event_at_offset (k + 1) (last_items limit (pending ++ x ∷ [])) in
    let rest = items_by_byte limit (k + 1) (pending ++ x ∷ []) bytes in
    ap (λ (t : List EventAtOffset). now ++ t) (next-on limit k pending x bytes false h)
    ∙ sym (append_assoc now items rest)
    ∙ ap (λ (t : List EventAtOffset). t ++ rest) (sym (told_at limit place k pending x false false h e))
    ∙ later
    ∙ ap (λ (t : List ℕ). moved place (cut_frames (suc m) limit t)) (append_assoc pending (x ∷ []) bytes)

agrees-wrong : (m limit place k : ℕ) (pending : List ℕ) (x : ℕ) (bytes : List ℕ) → k ≡ place + length pending →
    IsOver limit pending x true false None → Agrees (suc m) limit place k pending (x ∷ bytes)
agrees-wrong m limit place k pending x bytes e h =
    let now = moved place (first_items limit pending) in
    let items = event_at_offset (k + 1) (last_items limit (pending ++ x ∷ [])) in
    ap (λ (t : List EventAtOffset). now ++ t) (next-wrong limit k pending x bytes false h.told ∙ append-nil items)
    ∙ sym (told_at limit place k pending x true false h.told e)
    ∙ ap (moved place) (sym (append-nil (first_items limit (pending ++ x ∷ [])))
    ∙ sym (cut-over m limit (pending ++ x ∷ []) bytes None (h.stays bytes) h.end_is))
    ∙ ap (λ (t : List ℕ). moved place (cut_frames (suc m) limit t)) (append_assoc pending (x ∷ []) bytes)

agrees-whole : (m limit place k : ℕ) (pending : List ℕ) (x : ℕ) (bytes : List ℕ) → k ≡ place + length pending →
    IsOver limit pending x false true (Some (length pending + 1)) → Agrees m limit (k + 1) (k + 1) [] bytes →
    Agrees (suc m) limit place k pending (x ∷ bytes)
agrees-whole m limit place k pending x bytes e h later =
    let now = moved place (first_items limit pending) in
    let front = pending ++ x ∷ [] in
    let items = event_at_offset (k + 1) (last_items limit front) in
    let rest = items_by_byte limit (k + 1) [] bytes in
    let len = length pending + 1 in
    let size : len ≡ length front = omega (arith, length-append pending (x ∷ [])) in
    let after : drop len (front ++ bytes) ≡ bytes =
    ap (λ (n : ℕ). drop n (front ++ bytes)) size ∙ drop-append_seam front bytes in
    let others : rest ≡ moved (k + 1) (cut_frames m limit bytes) =
    ap (λ (t : List EventAtOffset). moved (k + 1) t ++ rest) (sym (first_items-short limit [] (omega arith))) ∙ later in
    ap (λ (t : List EventAtOffset). now ++ t) (next-on limit k pending x bytes true h.told)
    ∙ sym (append_assoc now items rest)
    ∙ ap (λ (t : List EventAtOffset). t ++ rest) (sym (told_at limit place k pending x false true h.told e))
    ∙ ap (λ (t : List EventAtOffset). moved place (first_items limit front) ++ t) (others
    ∙ ap (λ (n : ℕ). moved n (cut_frames m limit bytes)) (omega (arith, e))
    ∙ sym (moved-moved place len (cut_frames m limit bytes)))
    ∙ sym (moved-append place (first_items limit front) (moved len (cut_frames m limit bytes)))
    ∙ ap (λ (t : List ℕ). moved place (first_items limit front ++ moved len (cut_frames m limit t))) (sym after)
    ∙ ap (moved place) (sym (cut-over m limit front bytes (Some len) (h.stays bytes) h.end_is))
    ∙ ap (λ (t : List ℕ). moved place (cut_frames (suc m) limit t)) (append_assoc pending (x ∷ []) bytes)

-- events without a whole body end no frame

no_whole : (b rest : Bool) → (b || rest) ≡ false → (b ≡ false) × (rest ≡ false)
no_whole true rest e = absurd (cc)
no_whole false rest e = (refl, e)

frame_end-items : (n : ℕ) (items : List FrameEvent) → any_item is_whole_frame items ≡ false → frame_end (event_at_offset n items) ≡ None
frame_end-items n [] e = refl
frame_end-items n (item ∷ items) e =
    let h = no_whole (is_whole_frame item) (any_item is_whole_frame items) e in
    rw h.0 (frame_end-items n items h.1)

not_here : (b : Bool) (at : ℕ) (o : Option ℕ) → cond b (Some at) o ≡ None → (b ≡ false) × (o ≡ None)
not_here true at o e = absurd (cc)
not_here false at o e = (refl, e)

frame_end-append : (a b : List EventAtOffset) → frame_end a ≡ None → frame_end b ≡ None → frame_end (a ++ b) ≡ None
frame_end-append [] b e f = f
frame_end-append (placed ∷ a) b e f =
    let h = not_here (is_whole_frame placed.item) placed.at (frame_end a) e in
    rw h.0 (frame_end-append a b h.1 f)

still_open : (limit : ℕ) (b : List ℕ) (x : ℕ) → IsTold limit b x false false → frame_end (first_items limit b) ≡ None →
    frame_end (first_items limit (b ++ x ∷ [])) ≡ None
still_open limit b x h e =
    let items = last_items limit (b ++ x ∷ []) in
    ap frame_end h.items ∙ frame_end-append (first_items limit b) (event_at_offset (length b + 1) items) e
    (frame_end-items (length b + 1) items h.whole_is)

-- at the end of the bytes only the pending frame is left
at_end : (n limit place k : ℕ) (pending : List ℕ) → length pending ≤ n → frame_end (first_items limit pending) ≡ None →
    Agrees n limit place k pending []
at_end zero limit place k [] l e =
    ap (λ (t : List EventAtOffset). moved place t ++ []) (first_items-short limit [] (omega arith))
at_end zero limit place k (p ∷ pending) l e = absurd (omega arith)
at_end (suc m) limit place k pending l e =
    let all : pending ++ [] ≡ pending = append-nil pending in
    append-nil (moved place (first_items limit pending))
    ∙ ap (moved place) (sym (append-nil (first_items limit pending))
    ∙ ap (λ (o : Option ℕ). first_items limit pending ++ or_nothing
    (λ len. moved len (cut_frames m limit (drop len pending))) o) (sym e))
    ∙ ap (λ (t : List ℕ). moved place (cut_frames (suc m) limit t)) (sym all)

agrees : (n limit place k : ℕ) (pending bytes : List ℕ) → 0 < missing limit pending →
    frame_end (first_items limit pending) ≡ None → k ≡ place + length pending → length pending + length bytes ≤ n →
    Agrees n limit place k pending bytes
agrees n limit place k pending [] h e q l = at_end n limit place k pending (omega arith) e
agrees zero limit place k pending (x ∷ bytes) h e q l = absurd (omega arith)
agrees (suc m) limit place k pending (x ∷ bytes) h e q l = by_byte (byte_tells limit pending x h)
    (λ left open_still. agrees (suc m) limit place (k + 1) (pending ++ x ∷ []) bytes left open_still
    (omega (arith, q, length-append pending (x ∷ []))) (omega (arith, l, length-append pending (x ∷ []))))
    (agrees m limit (k + 1) (k + 1) [] bytes (omega (arith, missing-short limit [] (omega arith)))
    (ap frame_end (first_items-short limit [] (omega arith))) (omega arith) (omega (arith, l)))
  where
    by_byte : ByteTells limit pending x →
        (0 < missing limit (pending ++ x ∷ []) → frame_end (first_items limit (pending ++ x ∷ [])) ≡ None →
        Agrees (suc m) limit place (k + 1) (pending ++ x ∷ []) bytes) → Agrees m limit (k + 1) (k + 1) [] bytes →
        Agrees (suc m) limit place k pending (x ∷ bytes)
    by_byte (inl t) on others =
        agrees-on m limit place k pending x bytes q t.told (on t.left (still_open limit pending x t.told e))
    by_byte (inr (inl t)) on others = agrees-whole m limit place k pending x bytes q t others
    by_byte (inr (inr t)) on others = agrees-wrong m limit place k pending x bytes q t

by_byte-frames : (n limit : ℕ) (bytes : List ℕ) → length bytes ≤ n →
    items_by_byte limit 0 [] bytes ≡ cut_frames n limit bytes
by_byte-frames n limit bytes l =
    ap (λ (t : List EventAtOffset). moved 0 t ++ items_by_byte limit 0 [] bytes)
    (sym (first_items-short limit [] (omega arith)))
    ∙ agrees n limit 0 0 [] bytes (omega (arith, missing-short limit [] (omega arith)))
    (ap frame_end (first_items-short limit [] (omega arith))) refl (omega (arith, l))
    ∙ moved-nowhere (cut_frames n limit bytes)

-- the frames that are found byte by byte are the cut of all bytes
pub by_byte-cut : (limit : ℕ) (bytes : List ℕ) → items_by_byte limit 0 [] bytes ≡ cut limit bytes
unfolding cut
by_byte-cut limit bytes = by_byte-frames (length bytes) limit bytes (omega arith)

-- a higher limit on the number of frames than there are bytes finds no more frames
cut_frames-enough : (n limit : ℕ) (bytes : List ℕ) → length bytes ≤ n → cut_frames n limit bytes ≡ cut limit bytes
cut_frames-enough n limit bytes l = sym (by_byte-frames n limit bytes l) ∙ by_byte-cut limit bytes

-- the cut of some bytes is that of their first frame, and then that of the rest
pub cut-follows : (limit : ℕ) (bytes : List ℕ) →
    cut limit bytes ≡ first_items limit bytes ++ or_nothing (λ len. moved len (cut limit (drop len bytes)))
    (frame_end (first_items limit bytes))
cut-follows limit bytes =
    sym (cut_frames-enough (suc (length bytes)) limit bytes (omega arith))
    ∙ ap (λ (t : List EventAtOffset). first_items limit bytes ++ t) (by_end (frame_end (first_items limit bytes)))
  where
    by_end : (o : Option ℕ) →
        or_nothing (λ len. moved len (cut_frames (length bytes) limit (drop len bytes))) o
        ≡ or_nothing (λ len. moved len (cut limit (drop len bytes))) o
    by_end None = refl
    by_end (Some len) = ap (moved len)
        (cut_frames-enough (length bytes) limit (drop len bytes) (omega (arith, length-drop len bytes)))
