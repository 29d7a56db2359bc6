-- An answer is one whole frame, and its tokens are those of the message with fixed tokens around them.
use Rattle.std.proofs.Common.{length-take, length-drop}
use Rattle.daide_protocol.proofs.Common.{◌≡◌, ℕ, zero, suc, ◌+◌, ◌*◌, ◌%◌, ◌≤◌, true, List, [], ◌∷◌, ◌++◌, length, take}
use Rattle.daide_protocol.proofs.Common.{drop, refl, sym, ◌∙◌, ap, arith, append_assoc, length-append, eqb-true, eq-eqb}
use Rattle.daide_protocol.proofs.Common.{bra, ket, prn, huh, err, tokens_of, Dm, Head, has_right_length, head_bytes}
use Rattle.daide_protocol.proofs.Common.{Prn, Huh, answer_body, answer_bytes}
use Rattle.daide_protocol.specs.Bounds.{longest_body}
use Rattle.daide_protocol.specs.Passing.{IsFrame}
use Rattle.daide_protocol.proofs.FrameShapes.{IsWholeFrame}
use Rattle.daide_protocol.proofs.HloLemmas.{first_tokens}

-- ---- tokens

pub tokens_of-append : (xs ys : List ℕ) → length xs % 2 ≡ 0 → tokens_of (xs ++ ys) ≡ tokens_of xs ++ tokens_of ys
tokens_of-append [] ys even = refl
tokens_of-append (x ∷ []) ys even = absurd (omega arith)
tokens_of-append (high ∷ low ∷ rest) ys even =
    ap (λ ts. (high * 256 + low) ∷ ts) (tokens_of-append rest ys (omega arith))

later_tokens : (n : ℕ) (b : List ℕ) → tokens_of (drop (2 * n) b) ≡ drop n (tokens_of b)
later_tokens zero b = refl
later_tokens (suc n) [] = let two : 2 * suc n ≡ suc (suc (2 * n)) = omega arith in rw two refl
later_tokens (suc n) (x ∷ []) = let two : 2 * suc n ≡ suc (suc (2 * n)) = omega arith in rw two refl
later_tokens (suc n) (x ∷ y ∷ b) = let two : 2 * suc n ≡ suc (suc (2 * n)) = omega arith in rw two (later_tokens n b)

-- PRN ( body )
pub prn_tokens : (body : List ℕ) → length body % 2 ≡ 0 →
    tokens_of (answer_body body Prn) ≡ prn ∷ bra ∷ (tokens_of body ++ ket ∷ [])
prn_tokens body even = ap (λ (ts : List ℕ). prn ∷ bra ∷ ts) (tokens_of-append body (0x40 ∷ 0x01 ∷ []) even)

-- the parts of a HUH from the message on, in order
in_order : (before after : List ℕ) →
    before ++ 73 ∷ 2 ∷ [] ++ after ++ 64 ∷ 1 ∷ [] ≡ before ++ 73 ∷ 2 ∷ (after ++ 64 ∷ 1 ∷ [])
in_order before after =
    append_assoc (before ++ 73 ∷ 2 ∷ []) after (64 ∷ 1 ∷ [])
    ∙ append_assoc before (73 ∷ 2 ∷ []) (after ++ 64 ∷ 1 ∷ [])

-- HUH ( body ), with ERR before the token at an index
pub huh_tokens : (place : ℕ) (body : List ℕ) → length body % 2 ≡ 0 → 2 * place ≤ length body →
    tokens_of (answer_body body (Huh place))
    ≡ huh ∷ bra ∷ ((take place (tokens_of body) ++ err ∷ drop place (tokens_of body)) ++ ket ∷ [])
huh_tokens place body even within =
    let before = take (2 * place) body in
    let after = drop (2 * place) body in
    let even_before : length before % 2 ≡ 0 = omega (arith, length-take (2 * place) body) in
    let even_after : length after % 2 ≡ 0 = omega (arith, length-drop (2 * place) body, even) in
    ap (λ (ts : List ℕ). huh ∷ bra ∷ ts)
    (ap tokens_of (in_order before after)
    ∙ tokens_of-append before (73 ∷ 2 ∷ (after ++ 64 ∷ 1 ∷ [])) even_before
    ∙ ap (λ (ts : List ℕ). tokens_of before ++ err ∷ ts) (tokens_of-append after (64 ∷ 1 ∷ []) even_after)
    ∙ ap (λ (ts : List ℕ). ts ++ err ∷ (tokens_of after ++ ket ∷ [])) (first_tokens place body)
    ∙ ap (λ (ts : List ℕ). take place (tokens_of body) ++ err ∷ (ts ++ ket ∷ [])) (later_tokens place body)
    ∙ sym (append_assoc (take place (tokens_of body)) (err ∷ drop place (tokens_of body)) (ket ∷ [])))

-- ---- frames

-- an even number is the length of a list of tokens
pub right_even : (n : ℕ) → n % 2 ≡ 0 → has_right_length Dm n ≡ true
right_even n e = eq-eqb (n % 2) 0 e

pub even_right : (n : ℕ) → has_right_length Dm n ≡ true → n % 2 ≡ 0
even_right n e = eqb-true (n % 2) 0 e

-- a frame that arrived whole is whole when it is relayed
pub frame_whole : (cap : ℕ) (head : Head) (body : List ℕ) → cap ≤ longest_body → IsWholeFrame cap head body →
    IsFrame head.kind body (head_bytes head ++ body)
frame_whole cap head body small w = record {
  whole = ap (λ (n : ℕ). head_bytes (record { kind = head.kind; len = n }) ++ body) (sym w.long);
  right = ap (has_right_length head.kind) w.long ∙ w.right;
  short = omega (arith, w.long, w.within);
}

prn_length : (body : List ℕ) → length (answer_body body Prn) ≡ length body + 6
prn_length body = omega (arith, length-append body (0x40 ∷ 0x01 ∷ []))

pub prn_whole : (cap : ℕ) (head : Head) (body : List ℕ) → cap ≤ longest_body → IsWholeFrame cap head body →
    length body % 2 ≡ 0 → IsFrame Dm (answer_body body Prn) (answer_bytes head body Prn)
unfolding answer_bytes
prn_whole cap head body small w even =
    let long = prn_length body in
    record {
      whole = ap (λ (n : ℕ). head_bytes (record { kind = Dm; len = n }) ++ answer_body body Prn) (omega
          (arith, long, w.long));
      right = right_even (length (answer_body body Prn)) (omega (arith, long, even));
      short = omega (arith, long, w.long, w.within);
    }

huh_length : (place : ℕ) (body : List ℕ) → 2 * place ≤ length body →
    length (answer_body body (Huh place)) ≡ length body + 8
huh_length place body within =
    let before = take (2 * place) body in
    let after = drop (2 * place) body in
    omega (
      arith,
      ap length (in_order before after),
      length-append before (73 ∷ 2 ∷ (after ++ 64 ∷ 1 ∷ [])),
      length-append after (64 ∷ 1 ∷ []),
      length-take (2 * place) body,
      length-drop (2 * place) body,
    )

pub huh_whole : (cap : ℕ) (head : Head) (body : List ℕ) (place : ℕ) → cap ≤ longest_body →
    IsWholeFrame cap head body → length body % 2 ≡ 0 → 2 * place ≤ length body →
    IsFrame Dm (answer_body body (Huh place)) (answer_bytes head body (Huh place))
unfolding answer_bytes
huh_whole cap head body place small w even within =
    let long = huh_length place body within in
    record {
      whole = ap (λ (n : ℕ). head_bytes (record { kind = Dm; len = n }) ++ answer_body body (Huh place))
          (omega (arith, long, w.long));
      right = right_even (length (answer_body body (Huh place))) (omega (arith, long, even));
      short = omega (arith, long, w.long, w.within);
    }
