-- The first odd group, found part by part.
use Rattle.std.proofs.Common.{◌<◌, ◌==◌, if◌then◌else◌, filter, add-one}
use Rattle.std.proofs.Math.ListN.{drop_of_length-le}
use Rattle.std.proofs.Math.Seq.{drop-cons}
use Rattle.daide_show.proofs.Common.{◌≡◌, ℕ, ◌+◌, ◌≤◌, Bool, true, false, not, List, ◌∷◌, length, drop, get_or, Option}
use Rattle.daide_show.proofs.Common.{Some, None, refl, sym, ap, ◌∙◌}
use Rattle.daide_show.specs.declared.groups.OddGroup.{OddGroup}
use Rattle.daide_show.specs.Groups.{is_some_bytes, is_odd_group, odd_among}

-- the first odd group of the parts from index n on, with `place` groups before them
abbrev pub odd_from : ℕ → ℕ → List (List ℕ) → Option OddGroup
odd_from place n parts = odd_among (place + 1) (filter is_some_bytes (drop n parts))

one_part : (place n : ℕ) (parts : List (List ℕ)) (part : List ℕ) → n < length parts → part ≡ get_or parts n part →
    odd_from place n parts ≡ odd_among (place + 1) (filter is_some_bytes (part ∷ drop (n + 1) parts))
one_part place n parts part inside is =
    let next : drop n parts ≡ get_or parts n part ∷ drop (n + 1) parts = rw (add-one, drop-cons parts n part) in
    let first : get_or parts n part ∷ drop (n + 1) parts ≡ part ∷ drop (n + 1) parts =
    ap (λ (p : List ℕ). p ∷ drop (n + 1) parts) (sym is) in
    ap (λ (l : List (List ℕ)). odd_among (place + 1) (filter is_some_bytes l)) (next ∙ first)

pub empty_part : (place n : ℕ) (parts : List (List ℕ)) (part : List ℕ) → n < length parts →
    part ≡ get_or parts n part → length part == 0 ≡ true → odd_from place (n + 1) parts ≡ odd_from place n parts
empty_part place n parts part inside is empty =
    sym (one_part place n parts part inside is ∙ go (length part == 0) empty)
  where
    go : (b : Bool) → b ≡ true →
        odd_among (place + 1)
        (if not b then part ∷ filter is_some_bytes (drop (n + 1) parts) else filter is_some_bytes (drop (n + 1) parts))
        ≡ odd_among (place + 1) (filter is_some_bytes (drop (n + 1) parts))
    go true e = refl
    go false e = absurd cc

some_part : (place n : ℕ) (parts : List (List ℕ)) (part : List ℕ) → n < length parts →
    part ≡ get_or parts n part → length part == 0 ≡ false →
    odd_from place n parts ≡ odd_among (place + 1) (part ∷ filter is_some_bytes (drop (n + 1) parts))
some_part place n parts part inside is some = one_part place n parts part inside is ∙ go (length part == 0) some
  where
    go : (b : Bool) → b ≡ false →
        odd_among (place + 1)
        (if not b then part ∷ filter is_some_bytes (drop (n + 1) parts) else filter is_some_bytes (drop (n + 1) parts))
        ≡ odd_among (place + 1) (part ∷ filter is_some_bytes (drop (n + 1) parts))
    go true e = absurd cc
    go false e = refl

pub even_part : (place n : ℕ) (parts : List (List ℕ)) (part : List ℕ) → n < length parts →
    part ≡ get_or parts n part → length part == 0 ≡ false → is_odd_group part ≡ false →
    odd_from (place + 1) (n + 1) parts ≡ odd_from place n parts
even_part place n parts part inside is some even =
    sym (some_part place n parts part inside is some ∙ go (is_odd_group part) even)
  where
    go : (b : Bool) → b ≡ false →
        (if b then Some (record { place = place + 1; digits = length part })
        else odd_among ((place + 1) + 1) (filter is_some_bytes (drop (n + 1) parts)))
        ≡ odd_from (place + 1) (n + 1) parts
    go true e = absurd cc
    go false e = refl

pub odd_part : (place n : ℕ) (parts : List (List ℕ)) (part : List ℕ) → n < length parts →
    part ≡ get_or parts n part → length part == 0 ≡ false → is_odd_group part ≡ true →
    Some (record { place = place + 1; digits = length part }) ≡ odd_from place n parts
odd_part place n parts part inside is some odd =
    sym (some_part place n parts part inside is some ∙ go (is_odd_group part) odd)
  where
    go : (b : Bool) → b ≡ true →
        (if b then Some (record { place = place + 1; digits = length part })
        else odd_among ((place + 1) + 1) (filter is_some_bytes (drop (n + 1) parts)))
        ≡ Some (record { place = place + 1; digits = length part })
    go true e = refl
    go false e = absurd cc

pub no_part : (place n : ℕ) (parts : List (List ℕ)) → length parts ≤ n → None ≡ odd_from place n parts
no_part place n parts past = ap (λ (l : List (List ℕ)). odd_among (place + 1) (filter is_some_bytes l)) (sym (drop_of_length-le parts past))
