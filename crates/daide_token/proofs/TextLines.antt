-- The text of tokens is on one line: no byte of it is a line feed, if no added name contains one.
use Rattle.std.proofs.lemmas.Fmt.{decimal_by_steps}
use Rattle.std.proofs.lemmas.List.Folds.{list_all-append}
use Rattle.daide_token.proofs.Common.{◌≡◌, ◌==◌, ◌&&◌, not, ℕ, zero, suc, ℤ, pos, negsuc, ◌+◌, ◌/◌, ◌%◌, ◌^◌, ◌<◌, Bool}
use Rattle.daide_token.proofs.Common.{true, false, if◌then◌else◌, List, [], ◌∷◌, ◌++◌, codes, Option, Some, None}
use Rattle.daide_token.proofs.Common.{option_map, unwrap_or, refl, sym, ap, ◌∙◌, arith, list_all, decimal}
use Rattle.daide_token.proofs.Common.{signed_decimal, nat_tests, bra, ket, number_of, Named, names, name_of}
use Rattle.daide_token.proofs.Common.{hex_digit_of, hex_text, is_quotable, text_with, text_of_token, before_character}
use Rattle.daide_token.proofs.Common.{before_item, place_after, rest_of_text, token_text, PrinterState}
use Rattle.daide_token.specs.Text.{added_name_of}
use Rattle.daide_token.specs.declared.text.PrinterState.TheVariants as place
use Rattle.daide_token.proofs.TableLemmas.{found_passes}
use Rattle.daide_token.proofs.TextParts.{first_text}
use Rattle.daide_token.proofs.TextWords.{number_few}
use Rattle.daide_token.proofs.WholeText.{rest_of_text-start}

-- no line feed
abbrev pub is_inner : ℕ → Bool
is_inner c = not (c == 10)

abbrev pub are_inner : List ℕ → Bool
are_inner text = list_all is_inner text

abbrev pub are_names_inner : List Named → Bool
are_names_inner added = list_all (λ (entry : Named). are_inner entry.1) added

together : (a b : Bool) → a ≡ true → b ≡ true → (a && b) ≡ true
together a b e f = rw (e, f) refl

pub both_inner : (a b : List ℕ) → are_inner a ≡ true → are_inner b ≡ true → are_inner (a ++ b) ≡ true
both_inner a b e f = list_all-append is_inner a b ∙ together (are_inner a) (are_inner b) e f

-- ---- words

digit_inner : (n : ℕ) → is_inner (48 + n) ≡ true
digit_inner n = grind (arith, nat_tests)

one_inner : (n : ℕ) → are_inner ((48 + n) ∷ []) ≡ true
one_inner n = rw (digit_inner n) refl

decimal_inner : (n : ℕ) → n < 2 ^ 64 → are_inner (decimal n) ≡ true
decimal_inner n h =
    decimal_by_steps (λ n ds. are_inner ds ≡ true) (λ n l. one_inner n)
    (λ n ds l e. both_inner ds ((48 + n % 10) ∷ []) e (one_inner (n % 10))) n h

number_inner : (t : ℕ) (n : ℤ) → number_of t ≡ Some n → are_inner (signed_decimal n) ≡ true
number_inner t (pos n) e = let few = number_few t (pos n) e in decimal_inner n (omega (arith, few))
number_inner t (negsuc n) e = let few = number_few t (negsuc n) e in decimal_inner (suc n) (omega (arith, few))

hex-inner : (n : ℕ) → is_inner (hex_digit_of n) ≡ true
hex-inner zero = refl
hex-inner (suc zero) = refl
hex-inner (suc (suc zero)) = refl
hex-inner (suc (suc (suc zero))) = refl
hex-inner (suc (suc (suc (suc zero)))) = refl
hex-inner (suc (suc (suc (suc (suc zero))))) = refl
hex-inner (suc (suc (suc (suc (suc (suc zero)))))) = refl
hex-inner (suc (suc (suc (suc (suc (suc (suc zero))))))) = refl
hex-inner (suc (suc (suc (suc (suc (suc (suc (suc zero)))))))) = refl
hex-inner (suc (suc (suc (suc (suc (suc (suc (suc (suc zero))))))))) = refl
hex-inner (suc (suc (suc (suc (suc (suc (suc (suc (suc (suc zero)))))))))) = refl
hex-inner (suc (suc (suc (suc (suc (suc (suc (suc (suc (suc (suc zero))))))))))) = refl
hex-inner (suc (suc (suc (suc (suc (suc (suc (suc (suc (suc (suc (suc zero)))))))))))) = refl
hex-inner (suc (suc (suc (suc (suc (suc (suc (suc (suc (suc (suc (suc (suc zero))))))))))))) = refl
hex-inner (suc (suc (suc (suc (suc (suc (suc (suc (suc (suc (suc (suc (suc (suc zero)))))))))))))) = refl
hex-inner (suc (suc (suc (suc (suc (suc (suc (suc (suc (suc (suc (suc (suc (suc (suc zero))))))))))))))) = refl
hex-inner (suc (suc (suc (suc (suc (suc (suc (suc (suc (suc (suc (suc (suc (suc (suc (suc n)))))))))))))))) = refl

hex_text_inner : (t : ℕ) → are_inner (hex_text t) ≡ true
hex_text_inner t =
    rw (hex-inner (t / 4096), hex-inner (t / 256 % 16), hex-inner (t / 16 % 16), hex-inner (t % 16)) refl

names_inner : are_names_inner names ≡ true
unfolding names
names_inner = refl

name_inner : (t : ℕ) (name : List ℕ) → name_of t ≡ Some name → are_inner name ≡ true
unfolding name_of
name_inner t name e =
    found_passes (λ (row : Named). row.1) (λ row. row.0 == t) (λ row. are_inner row.1) names name names_inner e
    (λ row same inner here. ap are_inner (sym here) ∙ inner)

added_inner : (added : List Named) (t : ℕ) (name : List ℕ) → are_names_inner added ≡ true →
    added_name_of added t ≡ Some name → are_inner name ≡ true
added_inner added t name all e =
    found_passes (λ (row : Named). row.1) (λ row. row.0 == t) (λ row. are_inner row.1) added name all e
    (λ row same inner here. ap are_inner (sym here) ∙ inner)

word_inner : (added : List Named) (t : ℕ) → are_names_inner added ≡ true → are_inner (text_of_token added t) ≡ true
word_inner added t all =
    go (t == bra) (t == ket) (number_of t) refl (name_of t) refl (added_name_of added t) refl
  where
    go : (a b : Bool) (o : Option ℤ) → number_of t ≡ o → (n : Option (List ℕ)) → name_of t ≡ n →
        (m : Option (List ℕ)) → added_name_of added t ≡ m →
        are_inner (if a then codes "(" else if b then codes ")" else
        unwrap_or (option_map signed_decimal o) (unwrap_or n (unwrap_or m (hex_text t)))) ≡ true
    go true b o e n f m g = refl
    go false true o e n f m g = refl
    go false false (Some z) e n f m g = number_inner t z e
    go false false None e (Some name) f m g = name_inner t name f
    go false false None e None f (Some name) g = added_inner added t name all g
    go false false None e None f None g = hex_text_inner t

-- ---- the text

character_inner : (t : ℕ) → is_quotable t ≡ true → is_inner (t % 256) ≡ true
character_inner t q = grind (arith, nat_tests)

before_inner : (p : PrinterState) → are_inner (before_character p) ≡ true
before_inner place.Start = refl
before_inner place.Word = refl
before_inner place.Quote = refl

item_inner : (p : PrinterState) → are_inner (before_item p) ≡ true
item_inner place.Start = refl
item_inner place.Word = refl
item_inner place.Quote = refl

token_inner : (added : List Named) (p : PrinterState) (t : ℕ) → are_names_inner added ≡ true →
    are_inner (token_text added p t) ≡ true
token_inner added p t all = go (is_quotable t) refl
  where
    go : (b : Bool) → is_quotable t ≡ b →
        are_inner (if b then before_character p ++ (t % 256) ∷ [] else before_item p ++ text_of_token added t) ≡ true
    go true q = both_inner (before_character p) ((t % 256) ∷ []) (before_inner p) (rw (character_inner t q) refl)
    go false q = both_inner (before_item p) (text_of_token added t) (item_inner p) (word_inner added t all)

rest_inner : (added : List Named) (p : PrinterState) (ts : List ℕ) → are_names_inner added ≡ true →
    are_inner (rest_of_text added p ts) ≡ true
rest_inner added place.Start [] all = refl
rest_inner added place.Word [] all = refl
rest_inner added place.Quote [] all = refl
rest_inner added p (t ∷ ts) all =
    ap are_inner (first_text added p t ts)
    ∙ both_inner (token_text added p t) (rest_of_text added (place_after t) ts) (token_inner added p t all)
    (rest_inner added (place_after t) ts all)

pub text_inner : (added : List Named) (ts : List ℕ) → are_names_inner added ≡ true →
    are_inner (text_with added ts) ≡ true
text_inner added ts all = ap are_inner (sym (rest_of_text-start added ts)) ∙ rest_inner added place.Start ts all
