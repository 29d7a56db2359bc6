-- The next chunk of an answer is a front of its unsent bytes.
use Rattle.std.proofs.lemmas.List.{take_all, drop-append-le}
use Rattle.std.proofs.Math.Seq.{drop-append-add}
use Rattle.daide_channels.proofs.Common.{◌≡◌, ℕ, ◌-◌, ◌*◌, ◌<◌, ◌≤◌, Bool, true, false, List, [], ◌∷◌, ◌++◌, length}
use Rattle.daide_channels.proofs.Common.{take, drop, Option, Some, None, refl, sym, ap, ◌∙◌, subst, arith}
use Rattle.daide_channels.proofs.Common.{length-append, length-drop, append_assoc, append-nil, nat_lt, nat_tests}
use Rattle.daide_channels.proofs.Common.{Verdict, bytes_by, parts_by, front_in}
use Rattle.daide_protocol.specs.Answers.{huh_open, err_bytes, close_bytes}
use Rattle.daide_reader.specs.declared.verdict.Verdict.TheVariants.{Relay, Prn, Huh}

pub below : (m n : ℕ) → m < n → nat_lt m n ≡ true
below m n l = grind (arith, nat_tests)

pub not_below : (m n : ℕ) → n ≤ m → nat_lt m n ≡ false
not_below m n l = grind (arith, nat_tests)

pub is_below : (m n : ℕ) → nat_lt m n ≡ true → m < n
is_below m n e = grind (arith, nat_tests)

pub is_not_below : (m n : ℕ) → nat_lt m n ≡ false → n ≤ m
is_not_below m n e = grind (arith, nat_tests)

-- the whole rest of a part
pub rest_of : (part : List ℕ) (place : ℕ) → take (length part - place) (drop place part) ≡ drop place part
rest_of part place = take_all (length part - place) (drop place part) (omega (arith, length-drop place part))

-- xs is a front of ys, and not empty
pub record IsFront (xs ys : List ℕ) : Type 0 where
  pub some : 0 < length xs
  pub rest : List ℕ
  pub front : ys ≡ xs ++ rest

-- the parts joined
abbrev joined : List (List ℕ) → List ℕ
joined [] = []
joined (part ∷ parts) = part ++ joined parts

front_joined : (parts : List (List ℕ)) (place : ℕ) → place < length (joined parts) →
    IsFront (front_in parts place) (drop place (joined parts))
front_joined [] place l = absurd (omega arith)
front_joined (part ∷ parts) place l =
    go (nat_lt place (length part)) refl (front_joined parts (place - length part))
  where
    go : (b : Bool) → nat_lt place (length part) ≡ b
        → (place - length part < length (joined parts) →
        IsFront (front_in parts (place - length part)) (drop (place - length part) (joined parts)))
        → IsFront (front_in (part ∷ parts) place) (drop place (part ++ joined parts))
    go true e more =
        let here = is_below place (length part) e in
        rw e (record {
          some = omega (arith, length-drop place part);
          rest = joined parts;
          front = drop-append-le place part (joined parts) (omega arith);
        })
    go false e more =
        let past = is_not_below place (length part) e in
        let f = more (omega (arith, length-append part (joined parts))) in
        let same : drop place (part ++ joined parts) ≡ drop (place - length part) (joined parts) =
        subst (λ (n : ℕ). drop n (part ++ joined parts) ≡ drop (place - length part) (joined parts))
        (omega arith) (drop-append-add part (joined parts) (place - length part)) in
        rw e (record { some = f.some; rest = f.rest; front = same ∙ f.front })

-- the parts join to the whole answer
parts_joined : (header body : List ℕ) (verdict : Option Verdict) →
    joined (parts_by header body verdict) ≡ bytes_by header body verdict
parts_joined header body None = refl
parts_joined header body (Some Relay) = ap (λ (xs : List ℕ). header ++ xs) (append-nil body)
parts_joined header body (Some Prn) = refl
parts_joined header body (Some (Huh place)) =
    ap (λ (xs : List ℕ). header ++ (huh_open ++ xs))
    (sym (append_assoc (take (2 * place) body ++ err_bytes) (drop (2 * place) body) close_bytes
    ∙ append_assoc (take (2 * place) body) err_bytes (drop (2 * place) body ++ close_bytes)))

pub front_of_answer : (header body : List ℕ) (verdict : Option Verdict) (gone : ℕ) →
    gone < length (bytes_by header body verdict) →
    IsFront (front_in (parts_by header body verdict) gone) (drop gone (bytes_by header body verdict))
front_of_answer header body verdict gone l =
    let same = parts_joined header body verdict in
    subst (λ (xs : List ℕ). IsFront (front_in (parts_by header body verdict) gone) (drop gone xs)) same
    (front_joined (parts_by header body verdict) gone (subst (λ (xs : List ℕ). gone < length xs) (sym same) l))
