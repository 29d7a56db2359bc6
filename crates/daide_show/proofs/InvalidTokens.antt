-- An invalid token is shown by its value and its place, whatever follows it.
use Rattle.daide_show.proofs.Common.{◌≡◌, ℕ, ◌+◌, ◌-◌, ◌*◌, ◌≤◌, Bool, true, false, List, [], ◌∷◌, ◌++◌, length, take, drop}
use Rattle.daide_show.proofs.Common.{Option, Some, None, refl, sym, ap, ◌∙◌, arith, append_assoc, length-append, codes}
use Rattle.daide_show.proofs.Common.{take-append-le, get_or}
use Rattle.std.proofs.Common.{cond, leb}
use Rattle.std.proofs.lemmas.Bool.Decides.{nat_tests}
use Rattle.std.proofs.lemmas.List.{take_all, get_or-append-add}
use Rattle.std.proofs.Math.Seq.{drop-append-add, take-append-add}
use Rattle.std.specs.Fmt.{decimal}
use Rattle.std.specs.Int.{w16, from_be_bytes}
use Rattle.daide_frame.proofs.AlienLemmas.{first_alien-grown}
use Rattle.daide_frame.specs.declared.code.Code.TheVariants.{InvalidToken}
use Rattle.daide_frame.specs.Frames.{first_alien, is_alien, shifted_place}
use Rattle.daide_io.specs.declared.fault_field.FaultField.TheVariants.{Token}
use Rattle.daide_io.specs.FaultField.{fault_field, padded_hex, token_field}
use Rattle.daide_show.specs.Cause.{faulty_body}
use Rattle.daide_show.specs.Shown.{frame_fault_lines, line}

-- ---- the place of the first one

module _ (high low : ℕ) (alien : is_alien high low ≡ true) where
  found_after : (count : ℕ) (before : List ℕ) → length before ≡ 2 * count → first_alien before ≡ None →
      first_alien (before ++ high ∷ low ∷ []) ≡ Some (2 * count + 2)
  found_after count [] even none = rw alien (ap Some (omega (arith, even)))
  found_after count (x ∷ []) even none = absurd (omega (arith, even))
  found_after count (x ∷ y ∷ rest) even none =
      by_first (is_alien x y) refl (first_alien rest) refl (λ no. found_after (count - 1) rest (omega (arith, even)) no)
    where
      by_first : (b : Bool) → is_alien x y ≡ b → (o : Option ℕ) → first_alien rest ≡ o →
          (o ≡ None → first_alien (rest ++ high ∷ low ∷ []) ≡ Some (2 * (count - 1) + 2)) →
          first_alien (x ∷ y ∷ (rest ++ high ∷ low ∷ [])) ≡ Some (2 * count + 2)
      by_first true b o q later =
          absurd (let e : ◌≡◌ {A = Option ℕ} (Some 2) None =
          sym (ap (λ (t : Bool). cond t (Some 2) (shifted_place 2 (first_alien rest))) b) ∙ none in cc)
      by_first false b (Some k) q later =
          absurd (let e : ◌≡◌ {A = Option ℕ} (Some (2 + k)) None =
          sym (ap (λ (t : Bool). cond t (Some 2) (shifted_place 2 (first_alien rest))) b ∙ ap (shifted_place 2) q) ∙ none in cc)
      by_first false b None q later =
          ap (λ (t : Bool). cond t (Some 2) (shifted_place 2 (first_alien (rest ++ high ∷ low ∷ [])))) b
          ∙ ap (shifted_place 2) (later refl) ∙ ap Some (omega (arith, even))

-- ---- the last token of a body

leb_yes : (a b : ℕ) → a ≤ b → leb a b ≡ true
leb_yes a b h = grind (arith, nat_tests)

last_token : (place high low : ℕ) (body : List ℕ) → length body ≡ place + 2 → get_or body place 0 ≡ high →
    get_or body (place + 1) 0 ≡ low → token_field body ≡ Some (Token (from_be_bytes w16 (high ∷ low ∷ [])) (4 + place))
last_token place high low body size h l =
    let at : length body - 2 ≡ place = omega (arith, size) in
    rw (at, leb_yes (place + 2) (length body) (omega (arith, size)), h, l) refl

-- ---- the body up to it

-- a body ends with its first invalid token, whatever follows that
up_to_the_first : (count high low : ℕ) (before more : List ℕ) → length before ≡ 2 * count → first_alien before ≡ None →
    is_alien high low ≡ true → faulty_body InvalidToken (before ++ high ∷ low ∷ [] ++ more) ≡ before ++ high ∷ low ∷ []
up_to_the_first count high low before more even none alien =
    let front : length (before ++ high ∷ low ∷ []) ≡ 2 * count + 2 = omega (arith, length-append before (high ∷ low ∷ []), even) in
    let found = first_alien-grown (before ++ high ∷ low ∷ []) more (2 * count + 2) (found_after high low alien count before even none) in
    rw found (take-append-le (2 * count + 2) (before ++ high ∷ low ∷ []) more (omega (arith, front))
    ∙ take_all (2 * count + 2) (before ++ high ∷ low ∷ []) (omega (arith, front)))

module _ (cap count high low : ℕ) (header before after : List ℕ) (four : length header ≡ 4)
    (even : length before ≡ 2 * count) (none : first_alien before ≡ None) (alien : is_alien high low ≡ true)
    (fits : 2 * count + 2 ≤ cap) where
  front : length (before ++ high ∷ low ∷ []) ≡ 2 * count + 2
  front = omega (arith, length-append before (high ∷ low ∷ []), even)

  behind_header : drop 4 (header ++ before ++ high ∷ low ∷ after) ≡ before ++ high ∷ low ∷ [] ++ after
  behind_header =
      let four_more : 4 ≡ length header + 0 = omega (arith, four) in
      ap (λ (n : ℕ). drop n (header ++ before ++ high ∷ low ∷ after)) four_more
      ∙ ap (drop (length header + 0)) (append_assoc header before (high ∷ low ∷ after))
      ∙ drop-append-add header (before ++ high ∷ low ∷ after) 0 ∙ sym (append_assoc before (high ∷ low ∷ []) after)

  within_cap : take cap (before ++ high ∷ low ∷ [] ++ after)
      ≡ before ++ high ∷ low ∷ [] ++ take (cap - (2 * count + 2)) after
  within_cap =
      let split : cap ≡ length (before ++ high ∷ low ∷ []) + (cap - (2 * count + 2)) = omega (arith, front, fits) in
      ap (λ (n : ℕ). take n (before ++ high ∷ low ∷ [] ++ after)) split
      ∙ take-append-add (before ++ high ∷ low ∷ []) after (cap - (2 * count + 2))

  body : faulty_body InvalidToken (take cap (drop 4 (header ++ before ++ high ∷ low ∷ after))) ≡ before ++ high ∷ low ∷ []
  body =
      ap (λ (rest : List ℕ). faulty_body InvalidToken (take cap rest)) behind_header
      ∙ ap (faulty_body InvalidToken) within_cap
      ∙ up_to_the_first count high low before (take (cap - (2 * count + 2)) after) even none alien

  own_field : (head : List ℕ) → fault_field InvalidToken false head (before ++ high ∷ low ∷ [])
      ≡ Some (Token (from_be_bytes w16 (high ∷ low ∷ [])) (4 + 2 * count))
  own_field head =
      let first : get_or (before ++ high ∷ low ∷ []) (2 * count) 0 ≡ high =
      ap (λ (n : ℕ). get_or (before ++ high ∷ low ∷ []) n 0) (omega (arith, even)) ∙ get_or-append-add before (high ∷ low ∷ []) 0 0 in
      let second : get_or (before ++ high ∷ low ∷ []) (2 * count + 1) 0 ≡ low =
      ap (λ (n : ℕ). get_or (before ++ high ∷ low ∷ []) n 0) (omega (arith, even)) ∙ get_or-append-add before (high ∷ low ∷ []) 1 0 in
      last_token (2 * count) high low (before ++ high ∷ low ∷ []) front first second

  pub invalid_token_shown : frame_fault_lines cap InvalidToken (header ++ before ++ high ∷ low ∷ after)
      ≡ line (codes "invalid token " ++ padded_hex 4 (from_be_bytes w16 (high ∷ low ∷ [])) ++ codes " at byte "
      ++ decimal (4 + 2 * count)) ++ line (codes "expected: 0000 to 4BFF, or 5000 to 57FF")
  unfolding frame_fault_lines
  invalid_token_shown = rw (body, own_field (take 4 (header ++ before ++ high ∷ low ∷ after))) refl
