-- The text of a name, as it is written piece by piece.
use Rattle.std.proofs.Common.{◌/◌, slice_index_or}
use Rattle.daide_protocol.proofs.Common.{◌≡◌, ℕ, ◌+◌, ◌*◌, ◌%◌, ◌<◌, ◌≤◌, Bool, true, false, cond, nat_lt, List, []}
use Rattle.daide_protocol.proofs.Common.{◌∷◌, ◌++◌, take, map, codes, refl, sym, ap, ◌∙◌, arith, append-nil, nat_tests}
use Rattle.daide_protocol.proofs.Common.{text_with, token_bytes, tokens_of, Nme, NameText, token_of_character, iam}
use Rattle.daide_protocol.proofs.Common.{name_text, nme}
use Rattle.daide_token.specs.TextSteps.{end_text, place_after, place_past, some_text, token_text}
use Rattle.daide_token.specs.declared.text.PrinterState.{PrinterState}
use Rattle.daide_token.specs.declared.text.PrinterState.TheVariants.{Start}
use Rattle.daide_token.proofs.TextParts.{text_by_parts}

-- a token of two bytes
halves : (t : ℕ) → t / 256 * 256 + t % 256 ≡ t
halves t = omega arith

pub iam_bytes : (command pair : List ℕ) (power : ℕ) → command ≡ 0x48 ∷ 0x07 ∷ [] → pair ≡ token_bytes power →
    tokens_of (slice_index_or command 0 0 ∷ slice_index_or command 1 0 ∷ slice_index_or pair 0 0 ∷ slice_index_or pair 1 0 ∷ [])
    ≡ iam ∷ power ∷ []
iam_bytes command pair power first second =
    ap (λ (c : List ℕ). tokens_of (slice_index_or c 0 0 ∷ slice_index_or c 1 0 ∷ slice_index_or pair 0 0 ∷ slice_index_or pair 1 0 ∷ []))
    first
    ∙ (ap (λ (c : List ℕ). tokens_of (0x48 ∷ 0x07 ∷ slice_index_or c 0 0 ∷ slice_index_or c 1 0 ∷ [])) second
    ∙ ap (λ (t : ℕ). iam ∷ t ∷ []) (halves power))

pub whole_text : (tokens front ending whole : List ℕ) (place : PrinterState) → front ≡ some_text [] Start tokens →
    place ≡ place_past Start tokens → ending ≡ end_text place → whole ≡ front ++ ending → whole ≡ text_with [] tokens
whole_text tokens front ending whole place text at last e =
    e
    ∙ (ap (λ (l : List ℕ). l ++ ending) text
    ∙ (ap (λ (l : List ℕ). some_text [] Start tokens ++ l) (last ∙ ap end_text at) ∙ sym (text_by_parts [] tokens)))

-- NME with these characters
pub nme_text : (tokens characters first front ending whole : List ℕ) (p q : PrinterState) → tokens ≡ nme ∷ [] →
    first ≡ some_text [] Start tokens → p ≡ place_past Start tokens →
    front ≡ first ++ some_text [] p (map token_of_character characters) →
    q ≡ place_past p (map token_of_character characters) → ending ≡ end_text q → whole ≡ front ++ ending →
    whole ≡ text_with [] (nme ∷ map token_of_character characters)
nme_text tokens characters first front ending whole p q same text at more next last e =
    let ts = map token_of_character characters in
    let start : first ≡ token_text [] Start nme =
    text ∙ (ap (some_text [] Start) same ∙ append-nil (token_text [] Start nme)) in
    let here : p ≡ place_after nme = at ∙ ap (place_past Start) same in
    let all : front ≡ some_text [] Start (nme ∷ ts) =
    more
    ∙ (ap (λ (l : List ℕ). l ++ some_text [] p ts) start
    ∙ ap (λ (r : PrinterState). token_text [] Start nme ++ some_text [] r ts) here) in
    e
    ∙ (ap (λ (l : List ℕ). l ++ ending) all
    ∙ (ap (λ (l : List ℕ). some_text [] Start (nme ∷ ts) ++ l)
    (last ∙ ap end_text (next ∙ ap (λ (r : PrinterState). place_past r ts) here))
    ∙ sym (text_by_parts [] (nme ∷ ts))))

pub whole_name : (text : NameText) (front : List ℕ) → text.len ≤ 32 →
    front ≡ text_with [] (nme ∷ map token_of_character (take text.len text.bytes)) → front ≡ name_text (Nme text)
whole_name text front few e = e ∙ (sym (append-nil _) ∙ go (nat_lt 32 text.len) refl)
  where
    all : List ℕ
    all = text_with [] (nme ∷ map token_of_character (take text.len text.bytes))

    go : (b : Bool) → nat_lt 32 text.len ≡ b → all ++ [] ≡ all ++ cond b (codes "..") []
    go true k = absurd (grind (arith, nat_tests, k, few))
    go false k = refl

pub cut_name : (text : NameText) (front whole : List ℕ) → 32 < text.len →
    front ≡ text_with [] (nme ∷ map token_of_character (take text.len text.bytes)) → whole ≡ front ++ codes ".." →
    whole ≡ name_text (Nme text)
cut_name text front whole many e k =
    k ∙ (ap (λ (l : List ℕ). l ++ codes "..") e ∙ go (nat_lt 32 text.len) refl)
  where
    all : List ℕ
    all = text_with [] (nme ∷ map token_of_character (take text.len text.bytes))

    go : (b : Bool) → nat_lt 32 text.len ≡ b → all ++ codes ".." ≡ all ++ cond b (codes "..") []
    go true h = refl
    go false h = absurd (grind (arith, nat_tests, h, many))
