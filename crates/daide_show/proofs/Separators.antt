-- Of an input without an `x`, a backslash and a quote the separators are dropped, and nothing else.
use Rattle.std.proofs.Common.{if◌then◌else◌, filter, ◌||◌, ◌&&◌, ◌==◌}
use Rattle.std.specs.List.{list_all}
use Rattle.daide_show.proofs.Common.{◌≡◌, ℕ, Bool, true, false, List, [], ◌∷◌, ◌++◌, ap, refl, ◌∙◌, not, Place}
use Rattle.daide_show.proofs.Common.{digits_from}
use Rattle.daide_show.specs.declared.frame_view.places.Place.TheVariants.{Outside, After}
use Rattle.daide_show.specs.declared.frame_view.places.InputByte.{InputByte}
use Rattle.daide_show.specs.declared.frame_view.places.InputByte.TheVariants.{Nothing, Kept}
use Rattle.daide_show.specs.Input.{are_pairs, first_byte_passes, digits_after_x, digits_of_input_byte}
use Rattle.daide_show.specs.Input.{is_ordinary, is_quote, is_separator, is_x, next_place}
use Rattle.daide_show.specs.Input.{opens_escape, opens_prefix, input_byte, following_place}
use Rattle.hex.specs.Hex.{is_hex_digit}

both : (a b : Bool) → (a && b) ≡ true → (a ≡ true) × (b ≡ true)
both true true e = (refl, refl)
both true false e = absurd cc
both false b e = absurd cc

and_false : (a b : Bool) → b ≡ false → (a && b) ≡ false
and_false true b e = e
and_false false b e = refl

apart : (b : ℕ) → is_ordinary b ≡ true → (is_x b ≡ false) × ((b == 92) ≡ false) × (is_quote b ≡ false)
apart b plain = go (is_x b) (b == 92) (is_quote b) plain
  where
    go : (x backslash quote : Bool) → not (x || (backslash || quote)) ≡ true →
        (x ≡ false) × (backslash ≡ false) × (quote ≡ false)
    go false false false e = (refl, refl, refl)
    go true backslash quote e = absurd cc
    go false true quote e = absurd cc
    go false false true e = absurd cc

first_ordinary : (b : ℕ) (rest : List ℕ) → list_all is_ordinary (b ∷ rest) ≡ true → is_ordinary b ≡ true
first_ordinary b rest all = (both (is_ordinary b) (list_all is_ordinary rest) all).0

no_x : (rest : List ℕ) → list_all is_ordinary rest ≡ true → digits_after_x rest ≡ 0
no_x [] all = refl
no_x (b ∷ rest) all = rw (apart b (first_ordinary b rest all)).0 refl

-- no quote and no backslash begins the rest
no_quote : (rest : List ℕ) → list_all is_ordinary rest ≡ true → first_byte_passes is_quote rest ≡ false
no_quote [] all = refl
no_quote (b ∷ rest) all = (apart b (first_ordinary b rest all)).2

no_backslash : (rest : List ℕ) → list_all is_ordinary rest ≡ true → first_byte_passes (λ c. c == 92) rest ≡ false
no_backslash [] all = refl
no_backslash (b ∷ rest) all = (apart b (first_ordinary b rest all)).1

no_escape : (b : ℕ) (rest : List ℕ) → is_ordinary b ≡ true → opens_escape b rest ≡ false
no_escape b rest plain = rw (apart b plain).1 refl

no_prefix : (b : ℕ) (rest : List ℕ) → list_all is_ordinary rest ≡ true → opens_prefix b rest ≡ false
no_prefix b rest all = and_false (b == 48) (are_pairs (digits_after_x rest)) (ap are_pairs (no_x rest all))

-- outside of a literal, right after a digit or not
abbrev outer : Bool → Place
outer true = After
outer false = Outside

plain_byte : (after : Bool) (b : ℕ) (rest : List ℕ) → is_ordinary b ≡ true → list_all is_ordinary rest ≡ true →
    input_byte (outer after) b rest ≡ (if is_separator b then Nothing else Kept b)
plain_byte true b rest plain all = rw (no_escape b rest plain) (go (is_separator b))
  where
    go : (separates : Bool) → (if separates || false then Nothing else Kept b) ≡ (if separates then Nothing else Kept b)
    go true = refl
    go false = refl
plain_byte false b rest plain all =
    rw (
      no_escape b rest plain,
      no_prefix b rest all,
      and_false (b == 98) (first_byte_passes is_quote rest) (no_quote rest all),
      and_false (b == 98) (first_byte_passes (λ c. c == 92) rest) (no_backslash rest all),
    )
    (go (is_separator b))
  where
    go : (separates : Bool) → (if separates || (false || (false || (false || false))) then Nothing else Kept b)
        ≡ (if separates then Nothing else Kept b)
    go true = refl
    go false = refl

-- the place after it is outside of a literal too
plain_place : (after : Bool) (b : ℕ) (rest : List ℕ) → is_ordinary b ≡ true → list_all is_ordinary rest ≡ true →
    next_place (outer after) b rest ≡ outer (is_hex_digit b)
plain_place true b rest plain all = rw (no_escape b rest plain) (placed b)
  where
    placed : (c : ℕ) → following_place c ≡ outer (is_hex_digit c)
    placed c = go (is_hex_digit c)
      where
        go : (digit : Bool) → (if digit then After else Outside) ≡ outer digit
        go true = refl
        go false = refl
plain_place false b rest plain all =
    rw (
      no_escape b rest plain,
      no_prefix b rest all,
      and_false (b == 98) (first_byte_passes is_quote rest) (no_quote rest all),
      and_false (b == 98) (first_byte_passes (λ c. c == 92) rest) (no_backslash rest all),
    )
    (go (is_hex_digit b))
  where
    go : (digit : Bool) → (if digit then After else Outside) ≡ outer digit
    go true = refl
    go false = refl

separators_dropped : (after : Bool) (input : List ℕ) → list_all is_ordinary input ≡ true →
    digits_from (outer after) input ≡ filter (λ b. not (is_separator b)) input
separators_dropped true [] all = refl
separators_dropped false [] all = refl
separators_dropped after (b ∷ rest) all =
    let parts = both (is_ordinary b) (list_all is_ordinary rest) all in
    ap (λ (p : InputByte). digits_of_input_byte p ++ digits_from (next_place (outer after) b rest) rest)
    (plain_byte after b rest parts.0 parts.1)
    ∙ (ap (λ (place : Place). digits_of_input_byte (if is_separator b then Nothing else Kept b) ++ digits_from place rest)
    (plain_place after b rest parts.0 parts.1)
    ∙ (ap (λ (l : List ℕ). digits_of_input_byte (if is_separator b then Nothing else Kept b) ++ l)
    (separators_dropped (is_hex_digit b) rest parts.1)
    ∙ go (is_separator b)))
  where
    go : (separates : Bool) →
        digits_of_input_byte (if separates then Nothing else Kept b) ++ filter (λ b. not (is_separator b)) rest
        ≡ (if not separates then b ∷ filter (λ b. not (is_separator b)) rest else filter (λ b. not (is_separator b)) rest)
    go true = refl
    go false = refl

pub separators_alone : (input : List ℕ) → list_all is_ordinary input ≡ true →
    digits_from Outside input ≡ filter (λ b. not (is_separator b)) input
separators_alone input all = separators_dropped false input all
