-- Decoding returns the bytes that the digits denote.
use Rattle.std.proofs.Common.{◌≡◌, ℕ, zero, suc, ◌+◌, ◌*◌, ◌%◌, ◌<◌, ◌≤◌, ◌-◌, ◌==◌, ◌&&◌, ◌⊎◌, inl, inr, Bool, true, false, if◌then◌else◌, List, [], ◌∷◌, ◌++◌, length, take, drop, get_or, set, drop-cons, Option, Some, None, Result, Ok, Err, refl, sym, ap, ◌∙◌, subst, arith, add-one, append_assoc}
use Rattle.std.proofs.Common.{append-nil, map}
use Rattle.std.specs.Prelude.{unwrap_or, is_some, slice_range, bit_and, bit_or, min, max}
use Rattle.std.proofs.Math.Seq.{take-add}
use Rattle.std.proofs.lemmas.Bool.{and_parts, cases_eq}
use Rattle.std.proofs.lemmas.Bool.Decides.{nat_tests}
use Rattle.std.proofs.lemmas.List.{take_more_set, get_or-set_same, get_or-set_other, take-take, take-append-drop, length-take, length-take-le, length-drop}
use Rattle.std.proofs.lemmas.List.{take_all, drop_all}
use Rattle.std.proofs.lemmas.Nat.{le_or_l, le_or_r}
use Rattle.std.proofs.lemmas.List.Folds.{list_all-append, list_all_more}
use Rattle.std.specs.List.{list_all, range_with_len}
use Rattle.hex.specs.Hex.{◌>>=◌, decode_of, decode_pairs, digit_or_error, hex_digit_value, is_hex_digit}
use Rattle.hex.specs.declared.error.FromHexError.{FromHexError}
use Rattle.hex.specs.declared.error.FromHexError.TheVariants.{OddLength}
use Rattle.daide_grammar.proofs.Alike.{alike}
use Rattle.daide_log_lines.specs.Digits.{bytes_of_hex, value_of, IsRead}

-- two digits and what follows them, decoded
abbrev pair_then : Result ℕ FromHexError → Result ℕ FromHexError → Result (List ℕ) FromHexError → Result (List ℕ) FromHexError
pair_then high low rest =
    (high >>= (λ h. low >>= (λ l. Ok (h * 16 + l)))) >>= (λ byte. rest >>= (λ bytes. Ok (byte ∷ bytes)))

-- the result for a pair, by whether both are digits
pair_read : (high low : Option ℕ) (c d i j : ℕ) (rest : Result (List ℕ) FromHexError) (bytes : List ℕ) →
    is_some high ≡ true → is_some low ≡ true → rest ≡ Ok bytes →
    pair_then (digit_or_error c i high) (digit_or_error d j low) rest ≡ Ok ((unwrap_or high 0 * 16 + unwrap_or low 0) ∷ bytes)
pair_read (Some h) (Some l) c d i j rest bytes a b e =
    ap (λ (r : Result (List ℕ) FromHexError). r >>= (λ bytes. Ok ((h * 16 + l) ∷ bytes))) e
pair_read (Some h) None c d i j rest bytes a b e = absurd (cc)
pair_read None low c d i j rest bytes a b e = absurd (cc)

rest_refused : (byte : ℕ) (rest : Result (List ℕ) FromHexError) (bytes : List ℕ) → IsRead false rest bytes →
    IsRead false (rest >>= (λ bytes. Ok (byte ∷ bytes))) bytes
rest_refused byte (Ok decoded) bytes e = absurd e
rest_refused byte (Err fault) bytes e = tt

pair_refused : (high low : Option ℕ) (c d i j : ℕ) (rest : Result (List ℕ) FromHexError) (bytes : List ℕ) (others : Bool) →
    (is_some high && (is_some low && others)) ≡ false → (others ≡ false → IsRead false rest bytes) →
    IsRead false (pair_then (digit_or_error c i high) (digit_or_error d j low) rest) bytes
pair_refused None low c d i j rest bytes others e further = tt
pair_refused (Some h) None c d i j rest bytes others e further = tt
pair_refused (Some h) (Some l) c d i j rest bytes others e further = rest_refused (h * 16 + l) rest bytes (further e)

decode_pairs-read : (digits : List ℕ) (n i : ℕ) → length digits ≡ 2 * n → list_all is_hex_digit digits ≡ true →
    decode_pairs i digits ≡ Ok (bytes_of_hex digits)
unfolding decode_pairs
decode_pairs-read [] n i twice all = refl
decode_pairs-read (digit ∷ []) n i twice all = absurd (omega arith)
decode_pairs-read (high ∷ low ∷ digits) zero i twice all = absurd (omega arith)
decode_pairs-read (high ∷ low ∷ digits) (suc n) i twice all =
    let first = and_parts (is_hex_digit high) (list_all is_hex_digit (low ∷ digits)) all in
    let second = and_parts (is_hex_digit low) (list_all is_hex_digit digits) first.1 in
    pair_read (hex_digit_value high) (hex_digit_value low) high low i (i + 1) (decode_pairs (i + 2) digits) (bytes_of_hex digits)
    first.0 second.0 (decode_pairs-read digits n (i + 2) (omega arith) second.1)

decode_pairs-refused : (digits bytes : List ℕ) (n i : ℕ) → length digits ≡ 2 * n → list_all is_hex_digit digits ≡ false →
    IsRead false (decode_pairs i digits) bytes
unfolding decode_pairs
decode_pairs-refused [] bytes n i twice all = absurd (cc)
decode_pairs-refused (digit ∷ []) bytes n i twice all = absurd (omega arith)
decode_pairs-refused (high ∷ low ∷ digits) bytes zero i twice all = absurd (omega arith)
decode_pairs-refused (high ∷ low ∷ digits) bytes (suc n) i twice all =
    pair_refused (hex_digit_value high) (hex_digit_value low) high low i (i + 1) (decode_pairs (i + 2) digits) bytes
    (list_all is_hex_digit digits) all (λ e. decode_pairs-refused digits bytes n (i + 2) (omega arith) e)

even : (digits : List ℕ) (n : ℕ) → length digits ≡ 2 * n → decode_of digits ≡ decode_pairs 0 digits
even digits n twice =
    let whole : (length digits % 2 == 1) ≡ false = grind (arith, nat_tests) in
    ap (λ b. if b then Err OddLength else decode_pairs 0 digits) whole

digits_read : (digits : List ℕ) (n : ℕ) → length digits ≡ 2 * n → list_all is_hex_digit digits ≡ true →
    decode_of digits ≡ Ok (bytes_of_hex digits)
digits_read digits n twice all = even digits n twice ∙ decode_pairs-read digits n 0 twice all

digits_refused : (digits bytes : List ℕ) (n : ℕ) → length digits ≡ 2 * n → list_all is_hex_digit digits ≡ false →
    IsRead false (decode_of digits) bytes
digits_refused digits bytes n twice all =
    subst (λ (r : Result (List ℕ) FromHexError). IsRead false r bytes) (sym (even digits n twice))
    (decode_pairs-refused digits bytes n 0 twice all)

-- the result of decoding, by whether all are digits
pub is_read : (digits bytes : List ℕ) (n : ℕ) (all : Bool) → length digits ≡ 2 * n →
    all ≡ list_all is_hex_digit digits → (all ≡ true → bytes ≡ bytes_of_hex digits) → IsRead all (decode_of digits) bytes
is_read digits bytes n true twice e read =
    digits_read digits n twice (sym e) ∙ ap Ok (sym (read refl))
is_read digits bytes n false twice e read = digits_refused digits bytes n twice (sym e)

-- ---- two digits

value_few : (digit : ℕ) → value_of digit < 16
value_few digit = grind (arith, nat_tests)

-- the decoded value of a byte, below 16 exactly for digits
abbrev pub reading : ℕ → ℕ
reading byte = min (min ((bit_and byte 223 + 191) % 256) 245 + 10) ((max ((byte + 198) % 256) 6 + 10) % 256)

pub reading_is : (byte decimal letter value : ℕ) → decimal ≡ max ((byte + 198) % 256) 6 →
    letter ≡ min ((bit_and byte 223 + 191) % 256) 245 → value ≡ min (letter + 10) ((decimal + 10) % 256) →
    value ≡ reading byte
reading_is byte decimal letter value d l v =
    v ∙ ap (λ (n : ℕ). min (n + 10) ((decimal + 10) % 256)) l
    ∙ ap (λ (n : ℕ). min (min ((bit_and byte 223 + 191) % 256) 245 + 10) ((n + 10) % 256)) d

readings : map (λ byte. bit_and (reading byte) 240 == 0) (range_with_len 0 256) ≡
    map is_hex_digit (range_with_len 0 256)
readings = refl

pub read_exactly : (byte : ℕ) → byte < 256 → (bit_and (reading byte) 240 == 0) ≡ is_hex_digit byte
read_exactly byte less = alike (λ byte. bit_and (reading byte) 240 == 0) is_hex_digit 256 readings byte less

-- the excess of several bytes is 0 exactly if each one's is
pub no_excess : (one other : ℕ) → (bit_or one other == 0) ≡ ((one == 0) && (other == 0))
no_excess one other =
    let first = le_or_l one other in
    let second = le_or_r one other in
    let neither : one ≡ 0 → other ≡ 0 → bit_or one other ≡ 0 = λ e f.
    ap (λ (n : ℕ). bit_or n other) e ∙ ap (λ (n : ℕ). bit_or 0 n) f in
    grind (arith, nat_tests, neither)

values : map (λ byte. if is_hex_digit byte then reading byte else 0) (range_with_len 0 256) ≡
    map value_of (range_with_len 0 256)
values = refl

pub read_to_its_value : (byte : ℕ) → byte < 256 → is_hex_digit byte ≡ true → reading byte ≡ value_of byte
read_to_its_value byte less digit =
    ap (λ (b : Bool). if b then reading byte else 0) (sym digit)
    ∙ alike (λ byte. if is_hex_digit byte then reading byte else 0) value_of 256 values byte less

-- the byte of two digits' values
pub byte_read : (high low h l byte : ℕ) → h ≡ value_of high → l ≡ value_of low →
    (h < 16 → l < 16 → byte ≡ h * 16 + l) → byte ≡ value_of high * 16 + value_of low
byte_read high low h l byte e f read =
    read (omega (arith, value_few high)) (omega (arith, value_few low))
    ∙ ap (λ (n : ℕ). n * 16 + l) e ∙ ap (λ (n : ℕ). value_of high * 16 + n) f

-- one more byte is decoded
pub read_more : (bytes digits : List ℕ) (i v : ℕ) → i < length bytes → length digits ≡ 2 * length bytes →
    take i bytes ++ bytes_of_hex (drop (2 * i) digits) ≡ bytes_of_hex digits →
    v ≡ value_of (get_or digits (2 * i) 0) * 16 + value_of (get_or digits (2 * i + 1) 0) →
    take (i + 1) (set bytes i v) ++ bytes_of_hex (drop (2 * (i + 1)) digits) ≡ bytes_of_hex digits
read_more bytes digits i v less twice so_far here =
    let high = get_or digits (2 * i) 0 in
    let low = get_or digits (2 * i + 1) 0 in
    let further : suc (2 * i + 1) ≡ 2 * (i + 1) = omega arith in
    let apart : drop (2 * i) digits ≡ high ∷ low ∷ drop (2 * (i + 1)) digits =
    drop-cons digits (2 * i) 0 (omega (arith, less, twice))
    ∙ ap (λ (rest : List ℕ). high ∷ rest)
    (ap (λ (n : ℕ). drop n digits) (sym (add-one (2 * i))) ∙ drop-cons digits (2 * i + 1) 0 (omega (arith, less, twice))
    ∙ ap (λ (n : ℕ). low ∷ drop n digits) further) in
    ap (λ (front : List ℕ). front ++ bytes_of_hex (drop (2 * (i + 1)) digits)) (take_more_set bytes i v less)
    ∙ append_assoc (take i bytes) (v ∷ []) (bytes_of_hex (drop (2 * (i + 1)) digits))
    ∙ ap (λ (byte : ℕ). take i bytes ++ byte ∷ bytes_of_hex (drop (2 * (i + 1)) digits)) here
    ∙ ap (λ (rest : List ℕ). take i bytes ++ bytes_of_hex rest) (sym apart)
    ∙ so_far

-- no byte is left
pub all_read : (bytes digits : List ℕ) (i j : ℕ) → length bytes ≤ i → length digits ≤ j →
    take i bytes ++ bytes_of_hex (drop j digits) ≡ bytes_of_hex digits → bytes ≡ bytes_of_hex digits
all_read bytes digits i j whole none e =
    sym (ap (λ (rest : List ℕ). take i bytes ++ bytes_of_hex rest) (drop_all j digits none)
    ∙ append-nil (take i bytes) ∙ take_all i bytes whole) ∙ e

-- ---- digits that are decoded together

value_at : (values digits : List ℕ) (j v k : ℕ) → j < length values →
    ((i : ℕ) → i < j → get_or values i 0 ≡ value_of (get_or digits i 0)) → v ≡ value_of (get_or digits j 0) →
    k < j + 1 → (k ≡ j) ⊎ (k ≡ j → ⊥) → get_or (set values j v) k 0 ≡ value_of (get_or digits k 0)
value_at values digits j v k room before here less (inl same) =
    ap (λ (i : ℕ). get_or (set values j v) i 0) same ∙ get_or-set_same values j v 0 room ∙ here
    ∙ ap (λ (i : ℕ). value_of (get_or digits i 0)) (sym same)
value_at values digits j v k room before here less (inr other) =
    get_or-set_other values j k v 0 other ∙ before k (omega arith)

-- the value of one digit more
pub values_more : (values digits : List ℕ) (j v : ℕ) → j < length values → j < length digits →
    (list_all is_hex_digit (take j digits) ≡ true → (k : ℕ) → k < j →
    get_or values k 0 ≡ value_of (get_or digits k 0)) →
    (is_hex_digit (get_or digits j 0) ≡ true → v ≡ value_of (get_or digits j 0)) →
    list_all is_hex_digit (take (j + 1) digits) ≡ true → (k : ℕ) → k < j + 1 →
    get_or (set values j v) k 0 ≡ value_of (get_or digits k 0)
values_more values digits j v room less before here all k below =
    let both = and_parts (list_all is_hex_digit (take j digits)) (is_hex_digit (get_or digits j 0))
    (sym (list_all_more is_hex_digit digits j 0 less) ∙ all) in
    value_at values digits j v k room (before both.0) (here both.1) below (cases_eq k j)

-- ---- concatenated digits

bytes_of_hex-append : (front back : List ℕ) (n : ℕ) → length front ≡ 2 * n →
    bytes_of_hex (front ++ back) ≡ bytes_of_hex front ++ bytes_of_hex back
bytes_of_hex-append [] back n twice = refl
bytes_of_hex-append (digit ∷ []) back n twice = absurd (omega arith)
bytes_of_hex-append (high ∷ low ∷ front) back zero twice = absurd (omega arith)
bytes_of_hex-append (high ∷ low ∷ front) back (suc n) twice =
    ap (λ (bytes : List ℕ). (value_of high * 16 + value_of low) ∷ bytes) (bytes_of_hex-append front back n (omega arith))

take-bytes_of_hex : (digits : List ℕ) (n m : ℕ) → m ≡ 2 * n → take n (bytes_of_hex digits) ≡ bytes_of_hex (take m digits)
take-bytes_of_hex digits zero zero twice = refl
take-bytes_of_hex digits zero (suc m) twice = absurd (omega arith)
take-bytes_of_hex digits (suc n) zero twice = absurd (omega arith)
take-bytes_of_hex digits (suc n) (suc zero) twice = absurd (omega arith)
take-bytes_of_hex [] (suc n) (suc (suc m)) twice = refl
take-bytes_of_hex (digit ∷ []) (suc n) (suc (suc m)) twice = refl
take-bytes_of_hex (high ∷ low ∷ digits) (suc n) (suc (suc m)) twice =
    ap (λ (bytes : List ℕ). (value_of high * 16 + value_of low) ∷ bytes) (take-bytes_of_hex digits n m (omega arith))

pub part_is : (digits : List ℕ) (from to n k : ℕ) → from ≡ n → to ≡ n + k →
    slice_range digits from to ≡ take k (drop n digits)
part_is digits from to n k same end =
    let count : to - from ≡ k = omega arith in
    ap (λ (i : ℕ). take i (drop from digits)) count ∙ ap (λ (i : ℕ). take k (drop i digits)) same

pub part_length : (bytes new : List ℕ) (i k n : ℕ) → k ≡ n → i + n ≤ length bytes →
    length new ≡ length (take k (drop i bytes)) → length new ≡ n
part_length bytes new i k n same within e = omega (arith, length-take k (drop i bytes), length-drop i bytes)

-- all digits of a list in two parts
pub all_more : (digits : List ℕ) (n k : ℕ) (all more : Bool) → all ≡ list_all is_hex_digit (take n digits) →
    more ≡ list_all is_hex_digit (take k (drop n digits)) → (all && more) ≡ list_all is_hex_digit (take (n + k) digits)
all_more digits n k all more e f =
    ap (λ (b : Bool). b && more) e ∙ ap (λ (b : Bool). list_all is_hex_digit (take n digits) && b) f
    ∙ sym (list_all-append is_hex_digit (take n digits) (take k (drop n digits)))
    ∙ ap (λ (l : List ℕ). list_all is_hex_digit l) (sym (take-add n k digits))

pub bytes_more : (digits bytes part : List ℕ) (i n k : ℕ) → n ≡ 2 * i → n ≤ length digits →
    take i bytes ≡ bytes_of_hex (take n digits) → part ≡ bytes_of_hex (take k (drop n digits)) →
    take i bytes ++ part ≡ bytes_of_hex (take (n + k) digits)
bytes_more digits bytes part i n k twice within e f =
    ap (λ (l : List ℕ). l ++ part) e ∙ ap (λ (l : List ℕ). bytes_of_hex (take n digits) ++ l) f
    ∙ sym (bytes_of_hex-append (take n digits) (take k (drop n digits)) i (length-take-le n digits within ∙ twice))
    ∙ ap bytes_of_hex (sym (take-add n k digits))

-- all digits of a list in two overlapping parts
twice_looked_at : (x y z : Bool) → ((x && y) && (y && z)) ≡ (x && (y && z))
twice_looked_at true true z = refl
twice_looked_at true false z = refl
twice_looked_at false y z = refl

pub all_covered : (digits : List ℕ) (n k : ℕ) (all last : Bool) → all ≡ list_all is_hex_digit (take (n + k) digits) →
    last ≡ list_all is_hex_digit (drop n digits) → (all && last) ≡ list_all is_hex_digit digits
all_covered digits n k all last e f =
    let x = list_all is_hex_digit (take n digits) in
    let y = list_all is_hex_digit (take k (drop n digits)) in
    let z = list_all is_hex_digit (drop k (drop n digits)) in
    let front : list_all is_hex_digit (take (n + k) digits) ≡ (x && y) =
    ap (λ (l : List ℕ). list_all is_hex_digit l) (take-add n k digits)
    ∙ list_all-append is_hex_digit (take n digits) (take k (drop n digits)) in
    let back : list_all is_hex_digit (drop n digits) ≡ (y && z) =
    ap (λ (l : List ℕ). list_all is_hex_digit l) (sym (take-append-drop k (drop n digits)))
    ∙ list_all-append is_hex_digit (take k (drop n digits)) (drop k (drop n digits)) in
    let whole : list_all is_hex_digit digits ≡ (x && list_all is_hex_digit (drop n digits)) =
    ap (λ (l : List ℕ). list_all is_hex_digit l) (sym (take-append-drop n digits))
    ∙ list_all-append is_hex_digit (take n digits) (drop n digits) in
    ap (λ (b : Bool). b && last) (e ∙ front) ∙ ap (λ (b : Bool). (x && y) && b) (f ∙ back) ∙ twice_looked_at x y z
    ∙ ap (λ (b : Bool). x && b) (sym back) ∙ sym whole

pub bytes_covered : (digits bytes last : List ℕ) (i n j m : ℕ) → n ≡ 2 * i → i ≤ j → n ≤ m → n ≤ length digits →
    take j bytes ≡ bytes_of_hex (take m digits) → last ≡ bytes_of_hex (drop n digits) →
    take i bytes ++ last ≡ bytes_of_hex digits
bytes_covered digits bytes last i n j m twice below within room e f =
    ap (λ (l : List ℕ). l ++ last)
    (sym (take-take i j bytes below) ∙ ap (λ (l : List ℕ). take i l) e ∙ take-bytes_of_hex (take m digits) i n twice
    ∙ ap bytes_of_hex (take-take n m digits within))
    ∙ ap (λ (l : List ℕ). bytes_of_hex (take n digits) ++ l) f
    ∙ sym (bytes_of_hex-append (take n digits) (drop n digits) i (length-take-le n digits room ∙ twice))
    ∙ ap bytes_of_hex (take-append-drop n digits)
