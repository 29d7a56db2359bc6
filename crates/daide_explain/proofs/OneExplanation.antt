-- A message and its verdict have one explanation.
use Rattle.std.proofs.lemmas.Bool.{cases_order}
use Rattle.daide_explain.proofs.Common.{◌≡◌, ℕ, ◌<◌, Bool, true, false, List, [], ◌∷◌, ◌++◌, take, codes, Option, None}
use Rattle.daide_explain.proofs.Common.{Some, IsTrue, ◌↔◌, ◌⊎◌, inl, inr, refl, sym, ◌∙◌, ap, arith, MatchBool, decimal}
use Rattle.daide_explain.proofs.Common.{bra, ket, Level, L0, L10, L20, L30, L40, L50, L60, Side2, begins_with_prn}
use Rattle.daide_explain.proofs.Common.{IsMessageOver, excess_or_none, Words, Word, grammar_words, Verdict, Relay, Prn}
use Rattle.daide_explain.proofs.Common.{Huh, IsExplained, expected_line, level_line, side_line, IsExpected}
use Rattle.daide_explain.proofs.Common.{IsEndExpected, IsFilteredBy, representatives}
use Rattle.daide_grammar.specs.Level.{level_number, level_of_number}
use Rattle.daide_grammar.proofs.Counting.{count_on, count_on-append, counted_on}
use Rattle.daide_explain.specs.declared.brackets.Unpaired.{Unpaired}
use Rattle.daide_explain.specs.declared.brackets.Unpaired.TheVariants.{Ket, Bra, Nothing}
use Rattle.daide_explain.specs.Explained.{AreElsewhere, IsPlaceCause, IsExpectedLine, unpaired_line}
use Rattle.daide_explain.specs.LowestLevel.{IsLowestAbove}
use Rattle.daide_explain.specs.Unpaired.{IsFirstKet, IsNeverClosed, IsUnpairedIn}
use Rattle.daide_explain.proofs.Scans.{none_on, no_value, between, closes_after_bra}

-- the result of filtering is unique
one_filtered : (P : ℕ → Type 0) (ts one other : List ℕ) → IsFilteredBy P ts one → IsFilteredBy P ts other → one ≡ other
unfolding IsFilteredBy
one_filtered P [] one other f g = f ∙ sym g
one_filtered P (t ∷ ts) one other (inl (here, rest, e, h)) (inl (here', rest', e', h')) =
    e ∙ (ap (λ (l : List ℕ). t ∷ l) (one_filtered P ts rest rest' h h') ∙ sym e')
one_filtered P (t ∷ ts) one other (inl (here, rest, e, h)) (inr (gone, h')) = absurd (gone here)
one_filtered P (t ∷ ts) one other (inr (gone, h)) (inl (here, rest, e, h')) = absurd (gone here)
one_filtered P (t ∷ ts) one other (inr (gone, h)) (inr (gone', h')) = one_filtered P ts one other h h'

-- two tests of the same proposition agree
one_test : (Q : Type 0) (a b : Bool) → (IsTrue a ↔ Q) → (IsTrue b ↔ Q) → a ≡ b
one_test Q true true f g = refl
one_test Q false false f g = refl
one_test Q true false f g = absurd (let e : false ≡ true = g.1 (f.0 refl) in cc)
one_test Q false true f g = absurd (let e : false ≡ true = f.1 (g.0 refl) in cc)

same_level : (a b : Level) → level_number a ≡ level_number b → a ≡ b
same_level a b e = some (back a ∙ (ap level_of_number e ∙ sym (back b)))
  where
    back : (l : Level) → Some l ≡ level_of_number (level_number l)
    back L0 = refl
    back L10 = refl
    back L20 = refl
    back L30 = refl
    back L40 = refl
    back L50 = refl
    back L60 = refl

    some : {a b : Level} → Some a ≡ Some b → a ≡ b
    some e = cc

one_lowest : (words : Words) (end : Side2) (level : Level) (max_depth : ℕ) (m : List ℕ) (one other : Option Level) →
    IsLowestAbove words end level max_depth m one → IsLowestAbove words end level max_depth m other → one ≡ other
one_lowest words end level max_depth m None None f g = refl
one_lowest words end level max_depth m None (Some b) f g = absurd (f b g.0 g.1)
one_lowest words end level max_depth m (Some a) None f g = absurd (g a f.0 f.1)
one_lowest words end level max_depth m (Some a) (Some b) f g = go (cases_order (level_number a) (level_number b))
  where
    go : (level_number a ≡ level_number b) ⊎ ((level_number a < level_number b) ⊎ (level_number b < level_number a)) →
        Some a ≡ Some b
    go (inl e) = ap (λ (l : Level). Some l) (same_level a b e)
    go (inr (inl less)) = absurd (g.2 a f.0 less f.1)
    go (inr (inr less)) = absurd (f.2 b g.0 less g.1)

one_place : (i j : ℕ) → (i < j → ⊥) → (j < i → ⊥) → i ≡ j
one_place i j no_less no_more = go (cases_order i j)
  where
    go : (i ≡ j) ⊎ ((i < j) ⊎ (j < i)) → i ≡ j
    go (inl e) = e
    go (inr (inl less)) = absurd (no_less less)
    go (inr (inr less)) = absurd (no_more less)

-- after a KET that closes nothing the count stays undefined
lost : (m before after : List ℕ) → m ≡ before ++ ket ∷ after → excess_or_none before ≡ Some 0 → excess_or_none m ≡ None
lost m before after whole closed =
    counted_on m
    ∙ (ap (count_on (Some 0)) whole
    ∙ (count_on-append (Some 0) before (ket ∷ after)
    ∙ (ap (λ (o : Option ℕ). count_on o (ket ∷ after)) (sym (counted_on before) ∙ closed) ∙ none_on after)))

-- no KET that closes nothing precedes the first one
first_ket_once : (m : List ℕ) (i j : ℕ) → IsFirstKet m i → IsFirstKet m j → i < j → ⊥
first_ket_once m i j (a, b, at, closed) (before, after, at', closed') less =
    let left = at.place in
    let right = at'.place in
    let part = between ket ket a b before after (omega arith) (sym at.whole ∙ at'.whole) in
    let none = lost before a part.0 part.1 closed in
    let f : ◌≡◌ {A = Option ℕ} None (Some 0) = sym none ∙ closed' in
    absurd cc

ket_lost : (m : List ℕ) (i : ℕ) → IsFirstKet m i → excess_or_none m ≡ None
ket_lost m i (a, b, at, closed) = lost m a b at.whole closed

-- no BRA is left open if all brackets are closed at the end
none_open : (m : List ℕ) (i : ℕ) → excess_or_none m ≡ Some 0 → IsNeverClosed m i → ⊥
none_open m i closed (a, b, at, unclosed) =
    let split : count_on (count_on (Some 0) a) (bra ∷ b) ≡ Some 0 =
    sym (count_on-append (Some 0) a (bra ∷ b)) ∙ (ap (count_on (Some 0)) (sym at.whole) ∙ (sym (counted_on m) ∙ closed)) in
    no_value (excess_or_none b) (counted_on b ∙ closes_after_bra (count_on (Some 0) a) b split) unclosed

ket_closed : (m : List ℕ) (i : ℕ) → IsFirstKet m i → excess_or_none m ≡ Some 0 → ⊥
ket_closed m i h closed =
    let f : ◌≡◌ {A = Option ℕ} None (Some 0) = sym (ket_lost m i h) ∙ closed in
    absurd cc

one_unpaired : (m : List ℕ) (one other : Unpaired) → IsUnpairedIn m one → IsUnpairedIn m other → one ≡ other
one_unpaired m (Ket i) (Ket j) f g =
    ap (λ (k : ℕ). Ket k) (one_place i j (first_ket_once m i j f g) (first_ket_once m j i g f))
one_unpaired m (Ket i) (Bra j) f g = absurd (no_value (excess_or_none m) (ket_lost m i f) g.0)
one_unpaired m (Ket i) Nothing f g = absurd (ket_closed m i f g)
one_unpaired m (Bra i) (Ket j) f g = absurd (no_value (excess_or_none m) (ket_lost m j g) f.0)
one_unpaired m (Bra i) (Bra j) f g =
    ap (λ (k : ℕ). Bra k) (one_place i j (λ less. g.2 i less f.1) (λ less. f.2 j less g.1))
one_unpaired m (Bra i) Nothing f g = absurd (none_open m i g f.1)
one_unpaired m Nothing (Ket j) f g = absurd (ket_closed m j g f)
one_unpaired m Nothing (Bra j) f g = absurd (none_open m j f g.1)
one_unpaired m Nothing Nothing f g = refl

abbrev PrnLine : List ℕ → Bool → List ℕ → Type 0
PrnLine m b text =
    MatchBool b (text ≡ codes "unpaired: PRN" ++ 10 ∷ [])
    ((unpaired : Unpaired) × IsUnpairedIn m unpaired × (text ≡ unpaired_line unpaired))

one_prn : (m one other : List ℕ) → (b : Bool) → PrnLine m b one → PrnLine m b other → one ≡ other
one_prn m one other true f g = f ∙ sym g
one_prn m one other false f g = f.2 ∙ (ap unpaired_line (one_unpaired m f.0 g.0 f.1 g.1) ∙ sym g.2)

one_line : (words : List Word) (message : List ℕ → Type 0) (max_depth : ℕ) (p one other : List ℕ) →
    IsExpectedLine words message max_depth p one → IsExpectedLine words message max_depth p other → one ≡ other
one_line words message max_depth p one other f g =
    let kept = one_filtered (IsExpected message max_depth p) (representatives words) f.0 g.0 f.2.tokens g.2.tokens in
    let ends = one_test (IsEndExpected message max_depth p) f.1 g.1 f.2.at_end g.2.at_end in
    f.3
    ∙ (ap (λ (l : List ℕ). expected_line words p l f.1) kept
    ∙ (ap (λ (b : Bool). expected_line words p g.0 b) ends ∙ sym g.3))

-- the line for an error place, by whether its bracket is too deep
abbrev PlaceLine : List Word → (List ℕ → Type 0) → ℕ → List ℕ → ℕ → Bool → List ℕ → Type 0
PlaceLine words message max_depth m place deep text =
    MatchBool deep (text ≡ codes "too deep: ( at " ++ decimal place ++ 10 ∷ [])
    (IsExpectedLine words message max_depth (take place m) text)

one_place_line : (words : List Word) (message : List ℕ → Type 0) (max_depth : ℕ) (m : List ℕ) (place : ℕ) (a b : Bool)
    (one other : List ℕ) → a ≡ b → PlaceLine words message max_depth m place a one →
    PlaceLine words message max_depth m place b other → one ≡ other
one_place_line words message max_depth m place true true one other e f g = f ∙ sym g
one_place_line words message max_depth m place true false one other e f g = absurd cc
one_place_line words message max_depth m place false true one other e f g = absurd cc
one_place_line words message max_depth m place false false one other e f g =
    one_line words message max_depth (take place m) one other f g

one_cause : (words : List Word) (end : Side2) (level : Level) (max_depth : ℕ) (m : List ℕ) (place : ℕ)
    (one other : List ℕ) → IsPlaceCause words end level max_depth m place one →
    IsPlaceCause words end level max_depth m place other → one ≡ other
one_cause words end level max_depth m place one other f g =
    one_place_line words (IsMessageOver (grammar_words words) end level) max_depth m place f.0 g.0 one other
    (one_test _ f.0 g.0 f.1 g.1) f.2 g.2

one_elsewhere : (words : List Word) (end : Side2) (level : Level) (max_depth : ℕ) (m one other : List ℕ) →
    AreElsewhere words end level max_depth m one → AreElsewhere words end level max_depth m other → one ≡ other
one_elsewhere words end level max_depth m one other f g =
    let least = one_lowest (grammar_words words) end level max_depth m f.0 g.0 f.2 g.2 in
    let side = one_test _ f.1 g.1 f.3 g.3 in
    f.4
    ∙ (ap (λ (l : Option Level). level_line l ++ side_line end f.1) least
    ∙ (ap (λ (b : Bool). level_line g.0 ++ side_line end b) side ∙ sym g.4))

pub one_explanation : (words : List Word) (end : Side2) (level : Level) (max_depth : ℕ) (m : List ℕ) (verdict : Verdict)
    (one other : List ℕ) → IsExplained words end level max_depth m verdict one →
    IsExplained words end level max_depth m verdict other → one ≡ other
one_explanation words end level max_depth m Relay one other f g = f ∙ sym g
one_explanation words end level max_depth m Prn one other f g = one_prn m one other (begins_with_prn m) f g
one_explanation words end level max_depth m (Huh place) one other f g =
    let first = one_cause words end level max_depth m place f.0 g.0 f.2 g.2 in
    let second = one_elsewhere words end level max_depth m f.1 g.1 f.3 g.3 in
    f.4 ∙ (ap (λ (l : List ℕ). l ++ f.1) first ∙ (ap (λ (l : List ℕ). g.0 ++ l) second ∙ sym g.4))
