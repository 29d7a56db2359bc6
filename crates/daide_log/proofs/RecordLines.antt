-- Parsing the lines of a record returns their events.
use Rattle.std.proofs.Common.{slice_index}
use Rattle.std.specs.List.{range_with_len}
use Rattle.std.specs.Str.{bytes_eq}
use Rattle.std.proofs.lemmas.List.Folds.{list_all-append}
use Rattle.daide_log.proofs.Common.{◌≡◌, ◌≢◌, ℕ, zero, suc, ◌+◌, ◌-◌, ◌*◌, ◌/◌, ◌%◌, ◌<◌, ◌≤◌, ◌&&◌, ◌⊎◌, inl, inr}
use Rattle.daide_log.proofs.Common.{cond, eqb, leb, Bool, true, false, List, [], ◌∷◌, ◌++◌, length, take, drop, get_or}
use Rattle.daide_log.proofs.Common.{map, codes, nat_lt, Some, None, refl, sym, ap, ◌∙◌, subst, arith, append_assoc}
use Rattle.daide_log.proofs.Common.{length-append, list_all, and_parts, eqb_tells, nat_tests, take_more, IsBytes}
use Rattle.daide_log.proofs.Common.{encode_upper, encode_with, upper_digits, decode_of, decode_of-encode_upper}
use Rattle.daide_log.proofs.Common.{length-encode_with, Side, Bot, Server, IsUnbroken, without_cr, longest_line}
use Rattle.daide_log.proofs.Common.{plain_number, parted_at_space, LogEvent, Received, EndOf, ImTimerLine, StopLine}
use Rattle.daide_log.proofs.Common.{event_of_line, Of, loud, event_of_session, match_event_of_line}
use Rattle.daide_grammar.proofs.Alike.{alike}
use Rattle.daide_log_lines.specs.LogLine.{with_first, Silence, decoded, parse_received}
use Rattle.daide_log.specs.Report.{name_of_side}
use Rattle.daide_log.specs.RecordText.{event_text}

-- ---- bytes that end no line and no word

-- above CR and LF
abbrev pub is_plain : ℕ → Bool
is_plain byte = nat_lt 13 byte

-- above the space too
abbrev pub is_visible : ℕ → Bool
is_visible byte = nat_lt 32 byte

pub both_all : (p : ℕ → Bool) (a b : List ℕ) → list_all p a ≡ true → list_all p b ≡ true → list_all p (a ++ b) ≡ true
both_all p a b h k = list_all-append p a b ∙ ap (λ (x : Bool). x && list_all p b) h ∙ k

more_plain : (byte : ℕ) → is_visible byte ≡ true → is_plain byte ≡ true
more_plain byte h = grind (arith, nat_tests)

pub visible_plain : (l : List ℕ) → list_all is_visible l ≡ true → list_all is_plain l ≡ true
visible_plain [] h = refl
visible_plain (byte ∷ l) h =
    let both = and_parts (is_visible byte) (list_all is_visible l) h in
    ap (λ (x : Bool). x && list_all is_plain l) (more_plain byte both.0) ∙ visible_plain l both.1

above_ten : (byte : ℕ) → is_plain byte ≡ true → byte ≢ 10
above_ten byte h e = let no : is_plain 10 ≡ true = subst (λ (b : ℕ). is_plain b ≡ true) e h in absurd (cc)

pub plain_unbroken : (l : List ℕ) → list_all is_plain l ≡ true → IsUnbroken l
plain_unbroken [] h = tt
plain_unbroken (byte ∷ l) h =
    let both = and_parts (is_plain byte) (list_all is_plain l) h in
    (above_ten byte both.0, plain_unbroken l both.1)

all-drop : (p : ℕ → Bool) (n : ℕ) (l : List ℕ) → list_all p l ≡ true → list_all p (drop n l) ≡ true
all-drop p zero l h = h
all-drop p (suc n) [] h = h
all-drop p (suc n) (byte ∷ l) h = all-drop p n l (and_parts (p byte) (list_all p l) h).1

no_cr : (l : List ℕ) → list_all is_plain l ≡ true → bytes_eq l (13 ∷ []) ≡ false
no_cr [] h = refl
no_cr (byte ∷ l) h = go (eqb_tells byte 13)
  where
    go : ((eqb byte 13 ≡ true) × (byte ≡ 13)) ⊎ ((eqb byte 13 ≡ false) × (byte ≢ 13)) → bytes_eq (byte ∷ l) (13 ∷ []) ≡ false
    go (inl t) =
        let here = (and_parts (is_plain byte) (list_all is_plain l) h).0 in
        let no : is_plain 13 ≡ true = subst (λ (b : ℕ). is_plain b ≡ true) t.1 here in absurd (cc)
    go (inr t) = ap (λ (x : Bool). x && bytes_eq l []) t.0

pub plain_without_cr : (l : List ℕ) → list_all is_plain l ≡ true → without_cr l ≡ l
plain_without_cr l h =
    ap (λ (x : Bool). cond x (take (length l - 1) l) l) (no_cr (drop (length l - 1) l) (all-drop is_plain (length l - 1) l h))

-- ---- digits

digits_visible : map (λ d. is_visible (slice_index upper_digits d)) (range_with_len 0 16) ≡ map (λ d. true) (range_with_len 0 16)
digits_visible = refl

digit_visible : (d : ℕ) → d < 16 → is_visible (slice_index upper_digits d) ≡ true
digit_visible d less = alike (λ d. is_visible (slice_index upper_digits d)) (λ d. true) 16 digits_visible d less

pub encode_visible : (bytes : List ℕ) → IsBytes bytes → list_all is_visible (encode_upper bytes) ≡ true
unfolding encode_with
encode_visible [] h = refl
encode_visible (byte ∷ bytes) h =
    let fits : byte < 256 = h 0 in
    let rest = encode_visible bytes (λ k. h (suc k)) in
    ap (λ (x : Bool). x && (is_visible (slice_index upper_digits (byte % 16)) && list_all is_visible (encode_upper bytes)))
    (digit_visible (byte / 16) (omega arith))
    ∙ ap (λ (x : Bool). x && list_all is_visible (encode_upper bytes)) (digit_visible (byte % 16) (omega arith)) ∙ rest

-- ---- a word before a space

pub parted_word : (word rest : List ℕ) → list_all is_visible word ≡ true →
    parted_at_space (word ++ 32 ∷ rest) ≡ Some (record { word = word; rest = rest })
unfolding parted_at_space
parted_word [] rest h = refl
parted_word (c ∷ cs) rest h =
    let both = and_parts (is_visible c) (list_all is_visible cs) h in
    go (eqb_tells c 32) both.0 (parted_word cs rest both.1)
  where
    go : ((eqb c 32 ≡ true) × (c ≡ 32)) ⊎ ((eqb c 32 ≡ false) × (c ≢ 32)) → is_visible c ≡ true →
        parted_at_space (cs ++ 32 ∷ rest) ≡ Some (record { word = cs; rest = rest }) →
        cond (eqb c 32) (Some (record { word = []; rest = cs ++ 32 ∷ rest })) (with_first c (parted_at_space (cs ++ 32 ∷ rest)))
        ≡ Some (record { word = c ∷ cs; rest = rest })
    go (inl t) here later =
        let no : is_visible 32 ≡ true = subst (λ (b : ℕ). is_visible b ≡ true) t.1 here in absurd (cc)
    go (inr t) here later =
        ap (λ (b : Bool). cond b (Some (record { word = []; rest = cs ++ 32 ∷ rest }))
        (with_first c (parted_at_space (cs ++ 32 ∷ rest)))) t.0
        ∙ ap (with_first c) later

-- ---- the line of an event

-- an event that a record may write
abbrev pub IsWritable : LogEvent → Type 0
IsWritable (Received side bytes) = IsBytes bytes × (0 < length bytes) × (length bytes ≤ 1024)
IsWritable (EndOf side) = Unit {0}
IsWritable ImTimerLine = Unit {0}
IsWritable StopLine = Unit {0}
IsWritable Silence = ⊥

traffic_back : (side : Side) (bytes : List ℕ) → IsWritable (Received side bytes) →
    parse_received side (encode_upper bytes) ≡ Some (Received side bytes)
traffic_back side bytes h =
    let size : length (encode_upper bytes) ≡ 2 * length bytes = length-encode_with upper_digits bytes in
    let some : 0 < length bytes = h.1 in
    let few : length bytes ≤ 1024 = h.2 in
    let least : leb 2 (length (encode_upper bytes)) ≡ true = grind (arith, nat_tests) in
    let most : leb (length (encode_upper bytes)) 2048 ≡ true = grind (arith, nat_tests) in
    ap (λ (b : Bool). cond (b && leb (length (encode_upper bytes)) 2048) (decoded side (decode_of (encode_upper bytes))) None) least
    ∙ ap (λ (b : Bool). cond b (decoded side (decode_of (encode_upper bytes))) None) most
    ∙ ap (decoded side) (decode_of-encode_upper bytes h.0)

event_back : (event : LogEvent) → IsWritable event → event_of_line (event_text event) ≡ Some event
unfolding event_of_line event_text
event_back (Received Bot bytes) h = traffic_back Bot bytes h
event_back (Received Server bytes) h = traffic_back Server bytes h
event_back (EndOf Bot) h = refl
event_back (EndOf Server) h = refl
event_back ImTimerLine h = refl
event_back StopLine h = refl
event_back Silence h = absurd h

loud_back : (event : LogEvent) → IsWritable event → loud (Some event) ≡ Some event
loud_back (Received side bytes) h = refl
loud_back (EndOf side) h = refl
loud_back ImTimerLine h = refl
loud_back StopLine h = refl
loud_back Silence h = absurd h

pub line_back : (event : LogEvent) → IsWritable event → match_event_of_line 1 (codes "1 " ++ event_text event) ≡ Some (Of 1 event)
unfolding match_event_of_line parted_at_space plain_number
line_back event h =
    ap (λ o. event_of_session (Some 1) (loud o)) (event_back event h) ∙ ap (event_of_session (Some 1)) (loud_back event h)

side_plain : (side : Side) → list_all is_plain (name_of_side side) ≡ true
side_plain Bot = refl
side_plain Server = refl

event_plain : (event : LogEvent) → IsWritable event → list_all is_plain (event_text event) ≡ true
unfolding event_text
event_plain (Received side bytes) h =
    both_all is_plain (name_of_side side) (32 ∷ encode_upper bytes) (side_plain side)
    (visible_plain (encode_upper bytes) (encode_visible bytes h.0))
event_plain (EndOf Bot) h = refl
event_plain (EndOf Server) h = refl
event_plain ImTimerLine h = refl
event_plain StopLine h = refl
event_plain Silence h = absurd h

pub line_plain : (event : LogEvent) → IsWritable event → list_all is_plain (codes "1 " ++ event_text event) ≡ true
line_plain event h = event_plain event h

side_short : (side : Side) → length (name_of_side side) ≤ 6
side_short Bot = omega arith
side_short Server = omega arith

event_short : (event : LogEvent) → IsWritable event → length (event_text event) ≤ 2060
unfolding event_text
event_short (Received side bytes) h =
    omega (
      arith,
      side_short side,
      h.2,
      length-encode_with upper_digits bytes,
      length-append (name_of_side side) (32 ∷ encode_upper bytes),
    )
event_short (EndOf Bot) h = omega arith
event_short (EndOf Server) h = omega arith
event_short ImTimerLine h = omega arith
event_short StopLine h = omega arith
event_short Silence h = absurd h

pub line_short : (event : LogEvent) → IsWritable event → length (codes "1 " ++ event_text event) ≤ longest_line
line_short event h = omega (arith, event_short event h)

-- ---- one byte at a time

encode-append : (a b : List ℕ) → encode_upper (a ++ b) ≡ encode_upper a ++ encode_upper b
unfolding encode_with
encode-append [] b = refl
encode-append (byte ∷ a) b =
    ap (λ (l : List ℕ). slice_index upper_digits (byte / 16) ∷ slice_index upper_digits (byte % 16) ∷ l) (encode-append a b)

encode_one : (byte : ℕ) → encode_upper (byte ∷ [])
    ≡ slice_index upper_digits (byte / 16) ∷ slice_index upper_digits (byte % 16) ∷ []
unfolding encode_with
encode_one byte = refl

-- the digits of one more byte
pub encode_more : (line now new bytes : List ℕ) (i : ℕ) → i < length bytes → now ≡ line ++ encode_upper (take i bytes) →
    new ≡ now ++ slice_index upper_digits (get_or bytes i 0 / 16) ∷ slice_index upper_digits (get_or bytes i 0 % 16) ∷ [] →
    new ≡ line ++ encode_upper (take (i + 1) bytes)
encode_more line now new bytes i less e f =
    let digits = slice_index upper_digits (get_or bytes i 0 / 16) ∷ slice_index upper_digits (get_or bytes i 0 % 16) ∷ [] in
    f ∙ ap (λ (l : List ℕ). l ++ digits) e ∙ append_assoc line (encode_upper (take i bytes)) digits
    ∙ ap (λ (l : List ℕ). line ++ l)
    (ap (λ (l : List ℕ). encode_upper (take i bytes) ++ l) (sym (encode_one (get_or bytes i 0)))
    ∙ sym (encode-append (take i bytes) (get_or bytes i 0 ∷ [])) ∙ ap encode_upper (sym (take_more bytes i 0 less)))

pub encode_none : encode_upper [] ≡ []
unfolding encode_with
encode_none = refl
