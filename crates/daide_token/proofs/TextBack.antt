-- The text of tokens is injective: two lists with the same text are the same list.
use Rattle.std.specs.List.{All}
use Rattle.std.specs.Int.Signed.{mag}
use Rattle.std.proofs.lemmas.Fmt.{decimal_by_steps, signed_decimal_injective}
use Rattle.std.proofs.lemmas.List.Folds.{list_all-append}
use Rattle.daide_token.proofs.Common.{◌≡◌, ℕ, zero, suc, ℤ, pos, negsuc, ◌+◌, ◌-◌, ◌/◌, ◌%◌, ◌^◌, ◌<◌, ◌==◌, ◌&&◌}
use Rattle.daide_token.proofs.Common.{nat_le, not, Bool, true, false, if◌then◌else◌, List, [], ◌∷◌, ◌++◌, Option, Some}
use Rattle.daide_token.proofs.Common.{None, refl, sym, ◌∙◌, ap, arith, list_all, decimal, signed_decimal, eqb-true}
use Rattle.daide_token.proofs.Common.{nat_tests, ints, bra, ket, number_of, token_of_number, Named, names, name_of}
use Rattle.daide_token.proofs.Common.{token_named, hex_digit_of, hex_text, text_of_token, is_quotable, text_of}
use Rattle.daide_token.proofs.Common.{text_with, place_after, rest_of_text, PrinterState}
use Rattle.daide_token.specs.declared.text.PrinterState.TheVariants as place
use Rattle.daide_token.proofs.TableLemmas.{found_passes}
use Rattle.daide_token.proofs.NameLaws.{token_named-name_of}
use Rattle.daide_token.proofs.WholeText.{rest_of_text-start}

-- ---- words

-- neither a space nor a quote
abbrev is_plain : ℕ → Bool
is_plain c = not (c == 32) && not (c == 39)

-- the sort of a word, by its first character: a bracket, a number, a name, or digits
abbrev sort : ℕ → ℕ
sort c = if c == 40 then 0 else if c == 41 then 1 else if c == 35 then 4 else if nat_le 65 c then 3 else 2

-- a word of a given sort, made of plain characters
abbrev fits : ℕ → List ℕ → Bool
fits k [] = false
fits k (c ∷ w) = (sort c == k) && (is_plain c && list_all is_plain w)

both : (a b : Bool) → (a && b) ≡ true → (a ≡ true) × (b ≡ true)
both true b e = (refl, e)
both false b e = absurd (cc)

together : (a b : Bool) → a ≡ true → b ≡ true → (a && b) ≡ true
together a b e f = rw (e, f) refl

-- digits

hex-plain : (n : ℕ) → n < 16 → is_plain (hex_digit_of n) ≡ true
hex-plain zero h = refl
hex-plain (suc zero) h = refl
hex-plain (suc (suc zero)) h = refl
hex-plain (suc (suc (suc zero))) h = refl
hex-plain (suc (suc (suc (suc zero)))) h = refl
hex-plain (suc (suc (suc (suc (suc zero))))) h = refl
hex-plain (suc (suc (suc (suc (suc (suc zero)))))) h = refl
hex-plain (suc (suc (suc (suc (suc (suc (suc zero))))))) h = refl
hex-plain (suc (suc (suc (suc (suc (suc (suc (suc zero)))))))) h = refl
hex-plain (suc (suc (suc (suc (suc (suc (suc (suc (suc zero))))))))) h = refl
hex-plain (suc (suc (suc (suc (suc (suc (suc (suc (suc (suc zero)))))))))) h = refl
hex-plain (suc (suc (suc (suc (suc (suc (suc (suc (suc (suc (suc zero))))))))))) h = refl
hex-plain (suc (suc (suc (suc (suc (suc (suc (suc (suc (suc (suc (suc zero)))))))))))) h = refl
hex-plain (suc (suc (suc (suc (suc (suc (suc (suc (suc (suc (suc (suc (suc zero))))))))))))) h = refl
hex-plain (suc (suc (suc (suc (suc (suc (suc (suc (suc (suc (suc (suc (suc (suc zero)))))))))))))) h = refl
hex-plain (suc (suc (suc (suc (suc (suc (suc (suc (suc (suc (suc (suc (suc (suc (suc zero))))))))))))))) h = refl
hex-plain (suc (suc (suc (suc (suc (suc (suc (suc (suc (suc (suc (suc (suc (suc (suc (suc n)))))))))))))))) h =
    absurd (omega arith)

-- the value of a digit
abbrev digit_value : ℕ → ℕ
digit_value c = if nat_le 97 c then c - 87 else c - 48

hex-back : (n : ℕ) → n < 16 → digit_value (hex_digit_of n) ≡ n
hex-back zero h = refl
hex-back (suc zero) h = refl
hex-back (suc (suc zero)) h = refl
hex-back (suc (suc (suc zero))) h = refl
hex-back (suc (suc (suc (suc zero)))) h = refl
hex-back (suc (suc (suc (suc (suc zero))))) h = refl
hex-back (suc (suc (suc (suc (suc (suc zero)))))) h = refl
hex-back (suc (suc (suc (suc (suc (suc (suc zero))))))) h = refl
hex-back (suc (suc (suc (suc (suc (suc (suc (suc zero)))))))) h = refl
hex-back (suc (suc (suc (suc (suc (suc (suc (suc (suc zero))))))))) h = refl
hex-back (suc (suc (suc (suc (suc (suc (suc (suc (suc (suc zero)))))))))) h = refl
hex-back (suc (suc (suc (suc (suc (suc (suc (suc (suc (suc (suc zero))))))))))) h = refl
hex-back (suc (suc (suc (suc (suc (suc (suc (suc (suc (suc (suc (suc zero)))))))))))) h = refl
hex-back (suc (suc (suc (suc (suc (suc (suc (suc (suc (suc (suc (suc (suc zero))))))))))))) h = refl
hex-back (suc (suc (suc (suc (suc (suc (suc (suc (suc (suc (suc (suc (suc (suc zero)))))))))))))) h = refl
hex-back (suc (suc (suc (suc (suc (suc (suc (suc (suc (suc (suc (suc (suc (suc (suc zero))))))))))))))) h = refl
hex-back (suc (suc (suc (suc (suc (suc (suc (suc (suc (suc (suc (suc (suc (suc (suc (suc n)))))))))))))))) h =
    absurd (omega arith)

hex-one : (m n : ℕ) → m < 16 → n < 16 → hex_digit_of m ≡ hex_digit_of n → m ≡ n
hex-one m n h k e = sym (hex-back m h) ∙ ap digit_value e ∙ hex-back n k

hex-fits : (t : ℕ) → t < 65536 → fits 4 (hex_text t) ≡ true
hex-fits t h =
    let a = hex-plain (t / 4096) (omega arith) in
    let b = hex-plain (t / 256 % 16) (omega arith) in
    let c = hex-plain (t / 16 % 16) (omega arith) in
    let d = hex-plain (t % 16) (omega arith) in
    rw (a, b, c, d) refl

same_hex : (t u : ℕ) → t < 65536 → u < 65536 → hex_text t ≡ hex_text u → t ≡ u
same_hex t u h k e =
    let a : hex_digit_of (t / 4096) ≡ hex_digit_of (u / 4096) = cc in
    let b : hex_digit_of (t / 256 % 16) ≡ hex_digit_of (u / 256 % 16) = cc in
    let c : hex_digit_of (t / 16 % 16) ≡ hex_digit_of (u / 16 % 16) = cc in
    let d : hex_digit_of (t % 16) ≡ hex_digit_of (u % 16) = cc in
    let a' : t / 4096 ≡ u / 4096 = hex-one (t / 4096) (u / 4096) (omega arith) (omega arith) a in
    let b' : t / 256 % 16 ≡ u / 256 % 16 = hex-one (t / 256 % 16) (u / 256 % 16) (omega arith) (omega arith) b in
    let c' : t / 16 % 16 ≡ u / 16 % 16 = hex-one (t / 16 % 16) (u / 16 % 16) (omega arith) (omega arith) c in
    let d' : t % 16 ≡ u % 16 = hex-one (t % 16) (u % 16) (omega arith) (omega arith) d in
    omega arith

-- numbers

one_digit : (n : ℕ) → n < 10 → fits 2 ((48 + n) ∷ []) ≡ true
one_digit n h = grind (arith, nat_tests)

last_digit : (n : ℕ) → is_plain (48 + n % 10) ≡ true
last_digit n = grind (arith, nat_tests)

more_digits : (n : ℕ) (ds : List ℕ) → fits 2 ds ≡ true → fits 2 (ds ++ (48 + n % 10) ∷ []) ≡ true
more_digits n [] e = absurd (cc)
more_digits n (c ∷ ds) e =
    let p = both (sort c == 2) (is_plain c && list_all is_plain ds) e in
    let q = both (is_plain c) (list_all is_plain ds) p.1 in
    let all : list_all is_plain (ds ++ (48 + n % 10) ∷ []) ≡ true =
    list_all-append is_plain ds ((48 + n % 10) ∷ [])
    ∙ together (list_all is_plain ds) (is_plain (48 + n % 10) && true) q.1
    (together (is_plain (48 + n % 10)) true (last_digit n) refl) in
    together (sort c == 2) (is_plain c && list_all is_plain (ds ++ (48 + n % 10) ∷ [])) p.0
    (together (is_plain c) (list_all is_plain (ds ++ (48 + n % 10) ∷ [])) q.0 all)

decimal-fits : (n : ℕ) → n < 2 ^ 64 → fits 2 (decimal n) ≡ true
decimal-fits n h =
    decimal_by_steps (λ n ds. fits 2 ds ≡ true) one_digit (λ n ds l e. more_digits n ds e) n h

fits-plain : (k : ℕ) (w : List ℕ) → fits k w ≡ true → list_all is_plain w ≡ true
fits-plain k [] e = refl
fits-plain k (c ∷ w) e = (both (sort c == k) (is_plain c && list_all is_plain w) e).1

-- a number of a token: from -8192 to 8191
abbrev IsSmall : ℤ → Type 0
IsSmall (pos n) = n < 8192
IsSmall (negsuc n) = n < 8192

number_small : (t : ℕ) (n : ℤ) → number_of t ≡ Some n → IsSmall n
number_small t (pos n) e = grind (arith, nat_tests, ints)
number_small t (negsuc n) e = grind (arith, nat_tests, ints)

number_token : (t : ℕ) (n : ℤ) → number_of t ≡ Some n → token_of_number n ≡ Some t
number_token t n e = grind (arith, nat_tests, ints)

same_number : (t u : ℕ) (n : ℤ) → number_of t ≡ Some n → number_of u ≡ Some n → t ≡ u
same_number t u n e f =
    let same : Some t ≡ Some u = sym (number_token t n e) ∙ number_token u n f in
    cc

small_mag : (n : ℤ) → IsSmall n → mag n < 2 ^ 63
small_mag (pos n) h = omega arith
small_mag (negsuc n) h = omega arith

number-fits : (n : ℤ) → IsSmall n → fits 2 (signed_decimal n) ≡ true
number-fits (pos n) h = decimal-fits n (omega arith)
number-fits (negsuc n) h = fits-plain 2 (decimal (suc n)) (decimal-fits (suc n) (omega arith))

-- names

names-fit : list_all (λ (row : Named). fits 3 row.1) names ≡ true
unfolding names
names-fit = refl

name-fits : (t : ℕ) (name : List ℕ) → name_of t ≡ Some name → fits 3 name ≡ true
unfolding name_of
name-fits t name e =
    found_passes (λ (row : Named). row.1) (λ row. row.0 == t) (λ row. fits 3 row.1) names name names-fit e
    (λ row same fit here. ap (fits 3) (sym here) ∙ fit)

-- ---- the word of a token

abbrev word : ℕ → List ℕ
word t = text_of_token [] t

data Kind (t : ℕ) : Type 0 where
  is_bra : t ≡ bra → Kind t
  is_ket : t ≡ ket → Kind t
  is_number : (n : ℤ) → number_of t ≡ Some n → word t ≡ signed_decimal n → Kind t
  is_named : (name : List ℕ) → name_of t ≡ Some name → word t ≡ name → Kind t
  is_digits : word t ≡ hex_text t → Kind t

kind_of : (t : ℕ) → Kind t
kind_of t = brackets (t == bra) refl (t == ket) refl
  where
    named : (t == bra) ≡ false → (t == ket) ≡ false → number_of t ≡ None → (o : Option (List ℕ)) → name_of t ≡ o →
        Kind t
    named a b c (Some name) e = is_named name e (rw (a, b, c, e) refl)
    named a b c None e = is_digits (rw (a, b, c, e) refl)

    numbers : (t == bra) ≡ false → (t == ket) ≡ false → (o : Option ℤ) → number_of t ≡ o → Kind t
    numbers a b (Some n) e = is_number n e (rw (a, b, e) refl)
    numbers a b None e = named a b e (name_of t) refl

    brackets : (a : Bool) → (t == bra) ≡ a → (b : Bool) → (t == ket) ≡ b → Kind t
    brackets true e b f = is_bra (eqb-true t bra e)
    brackets false e true f = is_ket (eqb-true t ket f)
    brackets false e false f = numbers e f (number_of t) refl

sort_of : (t : ℕ) → Kind t → ℕ
sort_of t (is_bra e) = 0
sort_of t (is_ket e) = 1
sort_of t (is_number n e w) = 2
sort_of t (is_named name e w) = 3
sort_of t (is_digits w) = 4

kind-fits : (t : ℕ) → t < 65536 → (k : Kind t) → fits (sort_of t k) (word t) ≡ true
unfolding sort_of
kind-fits t h (is_bra e) = ap (λ (u : ℕ). fits 0 (word u)) e
kind-fits t h (is_ket e) = ap (λ (u : ℕ). fits 1 (word u)) e
kind-fits t h (is_number n e w) = ap (fits 2) w ∙ number-fits n (number_small t n e)
kind-fits t h (is_named name e w) = ap (fits 3) w ∙ name-fits t name e
kind-fits t h (is_digits w) = ap (fits 4) w ∙ hex-fits t h

-- a word has one sort
one_sort : (j k : ℕ) (w : List ℕ) → fits j w ≡ true → fits k w ≡ true → j ≡ k
one_sort j k [] e f = absurd (cc)
one_sort j k (c ∷ w) e f =
    let p = both (sort c == j) (is_plain c && list_all is_plain w) e in
    let q = both (sort c == k) (is_plain c && list_all is_plain w) f in
    sym (eqb-true (sort c) j p.0) ∙ eqb-true (sort c) k q.0

same_kind : (t u : ℕ) → t < 65536 → u < 65536 → (j : Kind t) (k : Kind u) → sort_of t j ≡ sort_of u k →
    word t ≡ word u → t ≡ u
unfolding sort_of
same_kind t u h l (is_bra e) (is_bra f) s w = e ∙ sym f
same_kind t u h l (is_ket e) (is_ket f) s w = e ∙ sym f
same_kind t u h l (is_number m e v) (is_number n f x) s w =
    let same : signed_decimal m ≡ signed_decimal n = sym v ∙ w ∙ x in
    let one : m ≡ n = signed_decimal_injective m n (small_mag m (number_small t m e)) (small_mag n
    (number_small u n f)) same
    in
    same_number t u n (e ∙ ap Some one) f
same_kind t u h l (is_named a e v) (is_named b f x) s w =
    let same : a ≡ b = sym v ∙ w ∙ x in
    let one : Some t ≡ Some u =
    sym (token_named-name_of t a e) ∙ ap token_named same ∙ token_named-name_of u b f in
    cc
same_kind t u h l (is_digits v) (is_digits x) s w = same_hex t u h l (sym v ∙ w ∙ x)
same_kind t u h l (is_bra e) _ s w = absurd (omega arith)
same_kind t u h l (is_ket e) _ s w = absurd (omega arith)
same_kind t u h l (is_number m e v) _ s w = absurd (omega arith)
same_kind t u h l (is_named a e v) _ s w = absurd (omega arith)
same_kind t u h l (is_digits v) _ s w = absurd (omega arith)

same_word : (t u : ℕ) → t < 65536 → u < 65536 → word t ≡ word u → t ≡ u
same_word t u h l w =
    let fit = ap (fits (sort_of t (kind_of t))) (sym w) ∙ kind-fits t h (kind_of t) in
    same_kind t u h l (kind_of t) (kind_of u)
    (one_sort (sort_of t (kind_of t)) (sort_of u (kind_of u)) (word u) fit (kind-fits u l (kind_of u))) w

word-plain : (t : ℕ) → t < 65536 → list_all is_plain (word t) ≡ true
word-plain t h = fits-plain (sort_of t (kind_of t)) (word t) (kind-fits t h (kind_of t))

word-some : (k : ℕ) (w : List ℕ) → fits k w ≡ true → w ≡ [] → ⊥
word-some k w e f = let g : false ≡ true = sym (ap (fits k) f) ∙ e in cc

-- ---- a word and what follows it

-- an empty text, or a space and more
abbrev IsTail : List ℕ → Type 0
IsTail [] = Unit {0}
IsTail (c ∷ x) = c ≡ 32

plain-no-space : (c : ℕ) → is_plain c ≡ true → c ≡ 32 → ⊥
plain-no-space c e f = let g : false ≡ true = sym (ap is_plain f) ∙ e in cc

separated : (w v x y : List ℕ) → list_all is_plain w ≡ true → list_all is_plain v ≡ true → IsTail x → IsTail y →
    w ++ x ≡ v ++ y → (w ≡ v) × (x ≡ y)
separated [] [] x y p q h k e = (refl, e)
separated [] (c ∷ v) [] y p q h k e = absurd (cc)
separated [] (c ∷ v) (d ∷ x) y p q h k e =
    let same : c ≡ 32 = (let here : c ≡ d = cc in here ∙ h) in
    absurd (plain-no-space c (both (is_plain c) (list_all is_plain v) q).0 same)
separated (c ∷ w) [] x [] p q h k e = absurd (cc)
separated (c ∷ w) [] x (d ∷ y) p q h k e =
    let same : c ≡ 32 = (let here : c ≡ d = cc in here ∙ k) in
    absurd (plain-no-space c (both (is_plain c) (list_all is_plain w) p).0 same)
separated (c ∷ w) (d ∷ v) x y p q h k e =
    let first : c ≡ d = cc in
    let rest : w ++ x ≡ v ++ y = cc in
    let r = separated w v x y (both (is_plain c) (list_all is_plain w) p).1 (both (is_plain d)
    (list_all is_plain v) q).1
    h k rest in
    (ap (λ (a : ℕ). a ∷ w) first ∙ ap (λ (a : List ℕ). d ∷ a) r.0, r.1)

-- ---- the rest of the text, after what was printed last

abbrev text : PrinterState → List ℕ → List ℕ
text p ts = rest_of_text [] p ts

word_tail : (ts : List ℕ) → IsTail (text place.Word ts)
word_tail [] = tt
word_tail (t ∷ ts) = go (is_quotable t)
  where
    go : (b : Bool) →
        IsTail ((if b then 32 ∷ 39 ∷ (t % 256) ∷ [] else 32 ∷ word t)
        ++ rest_of_text [] (if b then place.Quote else place.Word) ts)
    go true = refl
    go false = refl

-- a quotable character is no quote, and its low byte determines its token
quotable-apart : (t : ℕ) → is_quotable t ≡ true → t % 256 ≡ 39 → ⊥
quotable-apart t q e = grind (arith, nat_tests)

same_character : (t u : ℕ) → is_quotable t ≡ true → is_quotable u ≡ true → t % 256 ≡ u % 256 → t ≡ u
same_character t u q r e = grind (arith, nat_tests)

-- no word begins with a quote
no_quote : (w x y : List ℕ) → (w ≡ [] → ⊥) → list_all is_plain w ≡ true → w ++ x ≡ 39 ∷ y → ⊥
no_quote [] x y some p e = some refl
no_quote (c ∷ w) x y some p e =
    let first : c ≡ 39 = cc in
    let g : false ≡ true = sym (ap is_plain first) ∙ (both (is_plain c) (list_all is_plain w) p).0 in
    absurd (cc)

word_some : (t : ℕ) → t < 65536 → word t ≡ [] → ⊥
word_some t h = word-some (sort_of t (kind_of t)) (word t) (kind-fits t h (kind_of t))

-- the first tokens are equal, and the rest has the same text
abbrev Follows : ℕ → ℕ → List ℕ → List ℕ → Type 0
Follows t u ts us = (t ≡ u) × (text (place_after u) ts ≡ text (place_after u) us)

module _ (t u : ℕ) (ts us : List ℕ) (h : t < 65536) (l : u < 65536) where
  -- two words
  words_follow : is_quotable t ≡ false → is_quotable u ≡ false →
      word t ++ text place.Word ts ≡ word u ++ text place.Word us → Follows t u ts us
  words_follow a b e =
      let r = separated (word t) (word u) (text place.Word ts) (text place.Word us) (word-plain t h) (word-plain u l)
      (word_tail ts) (word_tail us) e in
      (same_word t u h l r.0, rw b r.1)

  characters_follow : is_quotable t ≡ true → is_quotable u ≡ true →
      (t % 256) ∷ text place.Quote ts ≡ (u % 256) ∷ text place.Quote us → Follows t u ts us
  characters_follow a b e =
      let first : t % 256 ≡ u % 256 = cc in
      let rest : text place.Quote ts ≡ text place.Quote us = cc in
      (same_character t u a b first, rw b rest)

  -- from the start, after a word and inside quotes
  from_start : text place.Start (t ∷ ts) ≡ text place.Start (u ∷ us) → Follows t u ts us
  from_start = go (is_quotable t) refl (is_quotable u) refl
    where
      go : (a : Bool) → is_quotable t ≡ a → (b : Bool) → is_quotable u ≡ b →
          text place.Start (t ∷ ts) ≡ text place.Start (u ∷ us) → Follows t u ts us
      go true a true b e =
          let f : 39 ∷ (t % 256) ∷ text place.Quote ts ≡ 39 ∷ (u % 256) ∷ text place.Quote us =
          (let x = rw (a, b) at e in x) in
          characters_follow a b (cc)
      go false a false b e =
          words_follow a b (let x = rw (a, b) at e in x)
      go true a false b e =
          let f : 39 ∷ (t % 256) ∷ text place.Quote ts ≡ word u ++ text place.Word us = (let x = rw (a, b) at e in x) in
          absurd (no_quote (word u) (text place.Word us) ((t % 256) ∷ text place.Quote ts)
          (word_some u l) (word-plain u l)
          (sym f))
      go false a true b e =
          let f : word t ++ text place.Word ts ≡ 39 ∷ (u % 256) ∷ text place.Quote us = (let x = rw (a, b) at e in x) in
          absurd (no_quote (word t) (text place.Word ts) ((u % 256) ∷ text place.Quote us)
          (word_some t h) (word-plain t h) f)

  from_word : text place.Word (t ∷ ts) ≡ text place.Word (u ∷ us) → Follows t u ts us
  from_word = go (is_quotable t) refl (is_quotable u) refl
    where
      go : (a : Bool) → is_quotable t ≡ a → (b : Bool) → is_quotable u ≡ b →
          text place.Word (t ∷ ts) ≡ text place.Word (u ∷ us) → Follows t u ts us
      go true a true b e =
          let f : 32 ∷ 39 ∷ (t % 256) ∷ text place.Quote ts ≡ 32 ∷ 39 ∷ (u % 256) ∷ text place.Quote us =
          (let x = rw (a, b) at e in x) in
          characters_follow a b (cc)
      go false a false b e =
          let f : 32 ∷ (word t ++ text place.Word ts) ≡ 32 ∷ (word u ++ text place.Word us) =
          (let x = rw (a, b) at e in x) in
          words_follow a b (cc)
      go true a false b e =
          let f : 32 ∷ 39 ∷ (t % 256) ∷ text place.Quote ts ≡ 32 ∷ (word u ++ text place.Word us) =
          (let x = rw (a, b) at e in x) in
          let g : word u ++ text place.Word us ≡ 39 ∷ (t % 256) ∷ text place.Quote ts = cc in
          absurd (no_quote (word u) (text place.Word us) ((t % 256) ∷ text place.Quote ts)
          (word_some u l) (word-plain u l) g)
      go false a true b e =
          let f : 32 ∷ (word t ++ text place.Word ts) ≡ 32 ∷ 39 ∷ (u % 256) ∷ text place.Quote us =
          (let x = rw (a, b) at e in x) in
          let g : word t ++ text place.Word ts ≡ 39 ∷ (u % 256) ∷ text place.Quote us = cc in
          absurd (no_quote (word t) (text place.Word ts) ((u % 256) ∷ text place.Quote us)
          (word_some t h) (word-plain t h) g)

  from_quote : text place.Quote (t ∷ ts) ≡ text place.Quote (u ∷ us) → Follows t u ts us
  from_quote = go (is_quotable t) refl (is_quotable u) refl
    where
      go : (a : Bool) → is_quotable t ≡ a → (b : Bool) → is_quotable u ≡ b →
          text place.Quote (t ∷ ts) ≡ text place.Quote (u ∷ us) → Follows t u ts us
      go true a true b e = characters_follow a b (let x = rw (a, b) at e in x)
      go false a false b e =
          let f : 39 ∷ 32 ∷ (word t ++ text place.Word ts) ≡ 39 ∷ 32 ∷ (word u ++ text place.Word us) =
          (let x = rw (a, b) at e in x) in
          words_follow a b (cc)
      go true a false b e =
          let f : (t % 256) ∷ text place.Quote ts ≡ 39 ∷ 32 ∷ (word u ++ text place.Word us) =
          (let x = rw (a, b) at e in x) in
          absurd (quotable-apart t a (cc))
      go false a true b e =
          let f : 39 ∷ 32 ∷ (word t ++ text place.Word ts) ≡ (u % 256) ∷ text place.Quote us =
          (let x = rw (a, b) at e in x) in
          absurd (quotable-apart u b (cc))

first_follows : (p : PrinterState) (t u : ℕ) (ts us : List ℕ) → t < 65536 → u < 65536 →
    text p (t ∷ ts) ≡ text p (u ∷ us) → Follows t u ts us
first_follows place.Start t u ts us h l e = from_start t u ts us h l e
first_follows place.Word t u ts us h l e = from_word t u ts us h l e
first_follows place.Quote t u ts us h l e = from_quote t u ts us h l e

-- the end of the text is different from any further token
not_end : (p : PrinterState) (t : ℕ) (ts : List ℕ) → t < 65536 → text p [] ≡ text p (t ∷ ts) → ⊥
not_end p t ts h = go p (is_quotable t) refl
  where
    go : (p : PrinterState) (b : Bool) → is_quotable t ≡ b → text p [] ≡ text p (t ∷ ts) → ⊥
    go place.Start true q e =
        let f : [] ≡ 39 ∷ (t % 256) ∷ text place.Quote ts = (let x = rw q at e in x) in absurd (cc)
    go place.Start false q e = some (word t) (word_some t h) (let x = rw q at e in x)
      where
        some : (w : List ℕ) → (w ≡ [] → ⊥) → [] ≡ w ++ text place.Word ts → ⊥
        some [] s f = s refl
        some (c ∷ w) s f = absurd (cc)
    go place.Word true q e =
        let f : [] ≡ 32 ∷ 39 ∷ (t % 256) ∷ text place.Quote ts = (let x = rw q at e in x) in absurd (cc)
    go place.Word false q e =
        let f : [] ≡ 32 ∷ (word t ++ text place.Word ts) = (let x = rw q at e in x) in absurd (cc)
    go place.Quote true q e =
        let f : 39 ∷ [] ≡ (t % 256) ∷ text place.Quote ts = (let x = rw q at e in x) in
        absurd (quotable-apart t q (cc))
    go place.Quote false q e =
        let f : 39 ∷ [] ≡ 39 ∷ 32 ∷ (word t ++ text place.Word ts) = (let x = rw q at e in x) in
        absurd (cc)

-- tokens as the code has them
abbrev AreTokens : List ℕ → Type 0
AreTokens [] = Unit {0}
AreTokens (t ∷ ts) = (t < 65536) × AreTokens ts

are_tokens : (ts : List ℕ) → All (λ t. t < 65536) ts → AreTokens ts
are_tokens [] h = tt
are_tokens (t ∷ ts) h = (h 0 t (omega arith), are_tokens ts (λ k d l. h (suc k) d (omega arith)))

same_from : (ts us : List ℕ) (p : PrinterState) → AreTokens ts → AreTokens us → text p ts ≡ text p us → ts ≡ us
same_from [] [] p h l e = refl
same_from [] (u ∷ us) p h l e = absurd (not_end p u us l.0 e)
same_from (t ∷ ts) [] p h l e = absurd (not_end p t ts h.0 (sym e))
same_from (t ∷ ts) (u ∷ us) p h l e =
    let f = first_follows p t u ts us h.0 l.0 e in
    ap (λ (x : ℕ). x ∷ ts) f.0 ∙ ap (λ (x : List ℕ). u ∷ x) (same_from ts us (place_after u) h.1 l.1 f.1)

pub same_text : (ts us : List ℕ) → All (λ t. t < 65536) ts → All (λ t. t < 65536) us → text_of ts ≡ text_of us → ts ≡ us
unfolding text_of text_with
same_text ts us h l e =
    same_from ts us place.Start (are_tokens ts h) (are_tokens us l)
    (rest_of_text-start [] ts ∙ e ∙ sym (rest_of_text-start [] us))
