-- Facts about lengths that follow from a whole header.
use Rattle.std.proofs.Common.{Result, Ok, Err, ◌&&◌, ◌==◌, slice_index}
use Rattle.std.specs.Int.{w16, from_be_bytes}
use Rattle.daide_channels.proofs.Common.{◌≡◌, ℕ, ◌≤◌, Bool, true, false, List, [], ◌∷◌, length, Option, Some, None}
use Rattle.daide_channels.proofs.Common.{refl, ap, arith, nat_lt, nat_tests, Head, Code, head_in, head_part}
use Rattle.daide_frame.specs.declared.head.Kind.{Kind}
use Rattle.daide_frame.specs.Head.{judged, kind_of, has_right_length, is_im, parse_head}

not_above : (limit n : ℕ) → nat_lt limit n ≡ false → n ≤ limit
not_above limit n e = grind (arith, nat_tests)

judged_capped : (k : Option Kind) (n limit : ℕ) (h : Head) → judged k n limit ≡ Ok h → h.len ≤ limit
judged_capped None n limit h e = absurd (cc)
judged_capped (Some kind) n limit h e =
    go (is_im kind && (n == 0x0400)) refl (has_right_length kind n) refl (nat_lt limit n) refl
  where
    go : (a : Bool) → (is_im kind && (n == 0x0400)) ≡ a → (b : Bool) → has_right_length kind n ≡ b → (c : Bool) →
        nat_lt limit n ≡ c → h.len ≤ limit
    go true ea b eb c ec = let bad = rw ea at e in absurd (cc)
    go false ea false eb c ec = let bad = rw (ea, eb) at e in absurd (cc)
    go false ea true eb true ec = let bad = rw (ea, eb, ec) at e in absurd (cc)
    go false ea true eb false ec =
        let good = rw (ea, eb, ec) at e in let same : n ≡ h.len = ok_len good in let fits = not_above limit n ec in
        omega (arith, same, fits)
      where
        ok_len : ◌≡◌ {A = Result Head Code} (Ok (record { kind = kind; len = n })) (Ok h) → n ≡ h.len
        ok_len q = ap len_in q
          where
            len_in : Result Head Code → ℕ
            len_in (Ok x) = x.len
            len_in (Err x) = 0

part_is : (r : Result Head Code) (h : Head) → head_part r ≡ Some h → r ≡ Ok h
part_is (Ok x) h e = let same : x ≡ h = cc in ap Ok same
part_is (Err x) h e = absurd (cc)

whole_capped : (limit : ℕ) (bytes : List ℕ) (h : Head) → parse_head bytes limit ≡ Ok h → h.len ≤ limit
unfolding parse_head
whole_capped limit bytes h e =
    judged_capped (kind_of (slice_index bytes 0))
    (from_be_bytes w16 (slice_index bytes 2 ∷ slice_index bytes 3 ∷ [])) limit h e

pub head_capped : (limit : ℕ) (bytes : List ℕ) (h : Head) → head_in limit bytes ≡ Some h → h.len ≤ limit
unfolding head_in
head_capped limit bytes h e = go (nat_lt (length bytes) 4) refl
  where
    go : (b : Bool) → nat_lt (length bytes) 4 ≡ b → h.len ≤ limit
    go true f = let bad = rw f at e in absurd (cc)
    go false f = let good = rw f at e in whole_capped limit bytes h (part_is (parse_head bytes limit) h good)
