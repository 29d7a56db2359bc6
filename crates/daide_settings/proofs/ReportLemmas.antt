-- A report is written part by part.
use Rattle.std.proofs.Common.{zero, suc, ◌<◌, subst, if◌then◌else◌}
use Rattle.daide_settings.proofs.Common.{◌-◌, ◌≤◌, length, take, drop, get_or, arith, ◌≡◌, ℕ, List, [], ◌∷◌, ◌++◌}
use Rattle.daide_settings.proofs.Common.{Option, refl, sym, ap, ◌∙◌, append_assoc, append-nil, String, Global}
use Rattle.daide_settings.proofs.Common.{string_bytes, map, keys_of, Data, Value, members_view, Key, is_known, AreParts}
use Rattle.daide_settings.proofs.Common.{IsValueLine, unknown_keys}

-- whatever parts of the remaining keys come next, they complete the parts of all keys
abbrev pub IsWithout : {K : Type 0} → (K → List ℕ → Type 0) → List K → List K → List ℕ → List ℕ → Type 0
IsWithout IsPart all rest start now = (more : List ℕ) → AreParts IsPart rest more →
    (text : List ℕ) × AreParts IsPart all text × (now ++ more ≡ start ++ text)

pub none_written : {K : Type 0} (IsPart : K → List ℕ → Type 0) (all : List K) (start : List ℕ) → IsWithout IsPart all all start start
none_written IsPart all start more parts = (more, parts, refl)

pub one_written : {K : Type 0} (IsPart : K → List ℕ → Type 0) (all : List K) (key : K) (keys : List K) (start old new part : List ℕ) →
    IsWithout IsPart all (key ∷ keys) start old → IsPart key part → new ≡ old ++ part → IsWithout IsPart all keys start new
one_written IsPart all key keys start old new part before is e more parts =
    let (text, whole, same) = before (part ++ more) (part, more, is, parts, refl) in
    (text, whole, ap (λ (l : List ℕ). l ++ more) e ∙ (append_assoc old part more ∙ same))

pub all_written : {K : Type 0} (IsPart : K → List ℕ → Type 0) (all : List K) (start new : List ℕ) → IsWithout IsPart all [] start new →
    (text : List ℕ) × AreParts IsPart all text × (new ≡ start ++ text)
all_written IsPart all start new before =
    let (text, whole, same) = before [] refl in (text, whole, sym (append-nil new) ∙ same)

-- ---- the keys of a table, by an iterator with those that are left

-- the unknown ones among keys
abbrev pub unknown_of : List (String Global) → List (List ℕ)
unknown_of [] = []
unknown_of (key ∷ keys) = if is_known (string_bytes key) then unknown_of keys else string_bytes key ∷ unknown_of keys

-- those of a table are those of its members
pub unknown_members : (entries : List (String Global × Value)) → unknown_of (keys_of entries) ≡ unknown_keys (members_view entries)
unknown_members [] = refl
unknown_members (entry ∷ others) =
    ap (λ (rest : List (List ℕ)). if is_known (string_bytes entry.0) then rest else string_bytes entry.0 ∷ rest)
    (unknown_members others)

pub take_all : {A : Type 0} → (n : ℕ) (v : List A) → length v ≤ n → take n v ≡ v
take_all zero [] h = refl
take_all (suc n) [] h = refl
take_all zero (x ∷ v) h = absurd (omega arith)
take_all {A} (suc n) (x ∷ v) h = ap (λ (l : List A). x ∷ l) (take_all n v (omega (arith, h)))

-- one more part was written, that of the first remaining key
pub parts_next : {K : Type 0} (IsPart : K → List ℕ → Type 0) (all rest : List K) (default : K) (n : ℕ) (start old new : List ℕ) →
    IsWithout IsPart all rest start old → 1 ≤ length rest → length rest - 1 ≤ n →
    ((part : List ℕ) × IsPart (get_or rest 0 default) part × (new ≡ old ++ part)) →
    IsWithout IsPart all (take n (drop 1 rest)) start new
parts_next {K} IsPart all [] default n start old new before some long h = absurd (omega arith)
parts_next {K} IsPart all (key ∷ keys) default n start old new before some long h =
    subst (λ (l : List K). IsWithout IsPart all l start new) (sym (take_all n keys (omega (arith, long))))
    (one_written IsPart all key keys start old new h.0 before h.1 h.2)

-- no key remains
pub parts_over : {K : Type 0} (IsPart : K → List ℕ → Type 0) (all rest : List K) (start new : List ℕ) → length rest < 1 →
    IsWithout IsPart all rest start new → (text : List ℕ) × AreParts IsPart all text × (new ≡ start ++ text)
parts_over IsPart all [] start new none before = all_written IsPart all start new before
parts_over IsPart all (key ∷ keys) start new none before = absurd (omega arith)

-- two texts written in sequence
pub two_in_sequence : (old a b first second : List ℕ) → first ≡ old ++ a → second ≡ first ++ b → second ≡ old ++ (a ++ b)
two_in_sequence old a b first second x y = y ∙ (ap (λ (l : List ℕ). l ++ b) x ∙ append_assoc old a b)

-- ---- the part of a key, by what its check and its look-up returned

pub value_line : (key : Key) (value shown : Option Data) (line : List ℕ) → shown ≡ value → IsValueLine key shown line →
    IsValueLine key value line
value_line key value shown line f h = subst (λ (v : Option Data). IsValueLine key v line) f h

-- the parts of keys behind references are those of the keys
pub shown_parts : {K : Type 0} (IsPart : List ℕ → List ℕ → Type 0) (of : K → List ℕ) (keys : List K) (text : List ℕ) →
    AreParts (λ key part. IsPart (of key) part) keys text → AreParts IsPart (map of keys) text
shown_parts IsPart of [] text h = h
shown_parts IsPart of (key ∷ keys) text h = (h.0, h.1, h.2, shown_parts IsPart of keys h.1 h.3, h.4)
