-- What is kept of a name, as its characters arrive.
use Rattle.std.proofs.Common.{◌/◌, ◌==◌, get_or, slice_set, slice_index_or}
use Rattle.std.proofs.lemmas.Grind.{common_steps}
use Rattle.std.proofs.lemmas.List.{length-append, length-take-le, take_all}
use Rattle.std.proofs.Math.Seq.{set-append_seam}
use Rattle.daide_protocol.proofs.Common.{◌≡◌, ℕ, zero, suc, ◌+◌, ◌-◌, ◌*◌, ◌%◌, ◌<◌, ◌≤◌, Bool, true, false, cond, List}
use Rattle.daide_protocol.proofs.Common.{[], ◌∷◌, ◌++◌, length, take, drop, refl, sym, ap, ◌∙◌, arith, append_assoc}
use Rattle.daide_protocol.proofs.Common.{append-nil, nat_tests, token_bytes, tokens_of, NameText, characters, kept}
use Rattle.daide_token.proofs.TextParts.{none_left}
use Rattle.daide_protocol.specs.BotName.{padded}

-- of the characters of a text the first `len` are kept, zeros come after them, and the rest is to come
pub record Fills (text bytes : List ℕ) (len : ℕ) (rest : List ℕ) : Type 0 where
  pub front : List ℕ
  pub size : length front ≡ len
  pub room : ℕ
  pub whole : len + room ≡ 32
  pub bytes_are : bytes ≡ front ++ padded room []
  pub text_is : front ++ rest ≡ text

pub fills_nothing : (text bytes : List ℕ) → bytes ≡ padded 32 [] → Fills text bytes 0 text
fills_nothing text bytes e = record { front = []; size = refl; room = 32; whole = refl; bytes_are = e; text_is = refl }

set_behind : (front more : List ℕ) (a c len : ℕ) → length front ≡ len →
    slice_set (front ++ a ∷ more) len c ≡ (front ++ c ∷ []) ++ more
set_behind front more a c len size =
    ap (λ (k : ℕ). slice_set (front ++ a ∷ more) k c) (sym size)
    ∙ (set-append_seam front a more c ∙ sym (append_assoc front (c ∷ []) more))

length_behind : (front : List ℕ) (c len : ℕ) → length front ≡ len → length (front ++ c ∷ []) ≡ len + 1
length_behind front c len size = length-append front (c ∷ []) ∙ ap (λ (k : ℕ). k + 1) size

pub fills_more : (text bytes rest : List ℕ) (len c : ℕ) → len < 32 → Fills text bytes len (c ∷ rest) →
    Fills text (slice_set bytes len c) (len + 1) rest
fills_more text bytes rest len c few h = go h.room h.whole h.bytes_are
  where
    go : (room : ℕ) → len + room ≡ 32 → bytes ≡ h.front ++ padded room [] →
        Fills text (slice_set bytes len c) (len + 1) rest
    go zero whole e = absurd (omega (arith, few, whole))
    go (suc room) whole e = record {
      front = h.front ++ c ∷ [];
      size = length_behind h.front c len h.size;
      room = room;
      whole = omega (arith, whole);
      bytes_are = ap (λ (l : List ℕ). slice_set l len c) e ∙ set_behind h.front (padded room []) 0 c len h.size;
      text_is = append_assoc h.front (c ∷ []) rest ∙ h.text_is;
    }

padded_short : (front : List ℕ) (n room : ℕ) → n ≡ length front + room → padded n front ≡ front ++ padded room []
padded_short [] n room e = let same : n ≡ room = omega (arith, e) in ap (λ (k : ℕ). padded k []) same
padded_short (x ∷ front) zero room e = absurd (omega (arith, e))
padded_short (x ∷ front) (suc n) room e = ap (λ (l : List ℕ). x ∷ l) (padded_short front n room (omega (arith, e)))

padded_full : (front more : List ℕ) (n : ℕ) → n ≡ length front → padded n (front ++ more) ≡ front ++ []
padded_full [] more n e = ap (λ (k : ℕ). padded k more) e
padded_full (x ∷ front) more zero e = absurd (omega (arith, e))
padded_full (x ∷ front) more (suc n) e = ap (λ (l : List ℕ). x ∷ l) (padded_full front more n (omega (arith, e)))

abbrev of : List ℕ → ℕ → NameText
of bytes len = record { bytes = bytes; len = len }

pub fills_all : (text bytes rest : List ℕ) (len : ℕ) → rest ≡ [] → Fills text bytes len rest → of bytes len ≡ kept text
fills_all text bytes rest len none h =
    let front = h.front in
    let few : length front ≤ 33 = omega (arith, h.size, h.whole) in
    let here : text ≡ front = sym h.text_is ∙ (ap (λ (l : List ℕ). front ++ l) none ∙ append-nil front) in
    let same : bytes ≡ padded 32 front =
    h.bytes_are ∙ sym (padded_short front 32 h.room (omega (arith, h.size, h.whole))) in
    let number : len ≡ length (take 33 front) = sym h.size ∙ ap length (sym (take_all 33 front few)) in
    ap (λ (b : List ℕ). of b len) same ∙ (ap (λ (n : ℕ). of (padded 32 front) n) number ∙ ap kept (sym here))

pub fills_too_much : (text bytes rest : List ℕ) (len c : ℕ) → len ≡ 32 → Fills text bytes len (c ∷ rest) →
    of bytes (len + 1) ≡ kept text
fills_too_much text bytes rest len c full h =
    let front = h.front in
    let none : h.room ≡ 0 = omega (arith, h.whole, full) in
    let same : bytes ≡ padded 32 (front ++ c ∷ rest) =
    h.bytes_are
    ∙ (ap (λ (n : ℕ). front ++ padded n []) none ∙ sym (padded_full front (c ∷ rest) 32 (omega (arith, h.size, full)))) in
    let many : 33 ≤ length (front ++ c ∷ rest) = omega (arith, length-append front (c ∷ rest), h.size, full) in
    let number : len + 1 ≡ length (take 33 (front ++ c ∷ rest)) =
    ap (λ (n : ℕ). n + 1) full ∙ sym (length-take-le 33 (front ++ c ∷ rest) many) in
    ap (λ (b : List ℕ). of b (len + 1)) same
    ∙ (ap (λ (n : ℕ). of (padded 32 (front ++ c ∷ rest)) n) number ∙ ap kept h.text_is)

-- ---- tokens

whole_list : (rest : List ℕ) → take (length rest) rest ≡ rest
whole_list rest = grind (arith, common_steps)

pub first_token : (rest : List ℕ) → 2 ≤ length rest →
    tokens_of rest ≡ (get_or rest 0 0 * 256 + get_or rest 1 0) ∷ tokens_of (take (length rest - 2) (drop 2 rest))
first_token [] h = absurd (omega arith)
first_token (x ∷ []) h = absurd (omega arith)
first_token (high ∷ low ∷ rest) h =
    let size : length (high ∷ low ∷ rest) - 2 ≡ length rest = omega arith in
    let all : take (length (high ∷ low ∷ rest) - 2) rest ≡ rest = ap (λ (k : ℕ). take k rest) size ∙ whole_list rest in
    ap (λ (r : List ℕ). (high * 256 + low) ∷ tokens_of r) (sym all)

-- a token that is no character ends a text
pub text_stops : (rest pair : List ℕ) (t : ℕ) → 2 ≤ length rest → t ≡ get_or rest 0 0 * 256 + get_or rest 1 0 →
    pair ≡ token_bytes t → (slice_index_or pair 0 0 ≡ 0x4B → ⊥) → characters (tokens_of rest) ≡ []
text_stops rest pair t two same parts other =
    ap characters (first_token rest two) ∙ go (front / 256 == 0x4B) refl
  where
    front : ℕ
    front = get_or rest 0 0 * 256 + get_or rest 1 0

    more : List ℕ
    more = tokens_of (take (length rest - 2) (drop 2 rest))

    category : slice_index_or pair 0 0 ≡ front / 256
    category = ap (λ (l : List ℕ). slice_index_or l 0 0) parts ∙ ap (λ (n : ℕ). n / 256) same

    go : (b : Bool) → (front / 256 == 0x4B) ≡ b → cond b (front % 256 ∷ characters more) [] ≡ []
    go true e = absurd (other (category ∙ grind (arith, nat_tests, e)))
    go false e = refl

-- a character belongs to the text
pub text_goes_on : (rest pair : List ℕ) (t : ℕ) → 2 ≤ length rest → t ≡ get_or rest 0 0 * 256 + get_or rest 1 0 →
    pair ≡ token_bytes t → slice_index_or pair 0 0 ≡ 0x4B →
    characters (tokens_of rest)
    ≡ slice_index_or pair 1 0 ∷ characters (tokens_of (take (length rest - 2) (drop 2 rest)))
text_goes_on rest pair t two same parts here =
    ap characters (first_token rest two)
    ∙ (go (front / 256 == 0x4B) refl ∙ ap (λ (n : ℕ). n ∷ characters more) (sym character))
  where
    front : ℕ
    front = get_or rest 0 0 * 256 + get_or rest 1 0

    more : List ℕ
    more = tokens_of (take (length rest - 2) (drop 2 rest))

    category : slice_index_or pair 0 0 ≡ front / 256
    category = ap (λ (l : List ℕ). slice_index_or l 0 0) parts ∙ ap (λ (n : ℕ). n / 256) same

    character : slice_index_or pair 1 0 ≡ front % 256
    character = ap (λ (l : List ℕ). slice_index_or l 1 0) parts ∙ ap (λ (n : ℕ). n % 256) same

    go : (b : Bool) → (front / 256 == 0x4B) ≡ b →
        cond b (front % 256 ∷ characters more) [] ≡ front % 256 ∷ characters more
    go true e = refl
    go false e = absurd (grind (arith, nat_tests, e, sym category ∙ here))

pub text_ends : (rest : List ℕ) → length rest < 2 → characters (tokens_of rest) ≡ []
text_ends rest less = ap characters (none_left rest less)
