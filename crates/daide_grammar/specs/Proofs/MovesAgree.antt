-- A right table: its entries agree with the languages of its symbols.
use Rattle.std.proofs.Common.{◌≡◌, ℕ, ◌<◌, Bool, true, false, not, ◌&&◌, nat_eq, List, [], ◌∷◌, Option, Some, None, ◌⊎◌}
use Rattle.std.proofs.Common.{◌↔◌, inl, inr, IsTrue, refl, sym, ◌∙◌, ap, subst}
use Rattle.std.specs.Bool.{beq}
use Rattle.std.specs.List.{list_any, list_all}
use Rattle.std.proofs.lemmas.Bool.{eqb-true, eq-eqb}
use Rattle.daide_grammar.specs.declared.symbol.Sym.{Sym}
use Rattle.daide_token.specs.declared.class.Class.{Class}
use Rattle.daide_token.specs.declared.class.Class.TheVariants.{Word}
use Rattle.daide_grammar.specs.declared.level.Level.{Level}
use Rattle.daide_grammar.specs.Classes.{class_number, own_classes, same_class}
use Rattle.daide_grammar.specs.Forms.{TokenTest, is, any_but_brackets, Slot, Press_slot, Arrangement_slot, Flat_slot, Nonterminal}
use Rattle.daide_grammar.specs.Forms.{Added, Form, named, Dialect}
use Rattle.daide_grammar.specs.Matches.{rule, Matches, by_name, MatchAll}
use Rattle.daide_grammar.specs.Table.Symbols.{form_of, Alternative, entries, this_or, entry_at, forms, may_end_of, slot_of}
use Rattle.daide_grammar.specs.Table.Symbols.{is_of_kind}
use Rattle.daide_grammar.specs.Table.Symbols.{answer_by, table_answer}
use Rattle.daide_grammar.specs.Table.Answers.{Take, Skip, Stop}
use Rattle.daide_grammar.specs.Table.Languages.{SymbolMatchesIn}
use Rattle.daide_grammar.specs.Proofs.Reading.{LeftDerivation, FirstItem, starts, ends, unopened, HeadReads, heads, heads-cover}
use Rattle.daide_grammar.specs.Proofs.Reading.{heads-sound, Some-of, Some-first, Some-second, Some-split}
use Rattle.daide_grammar.specs.Proofs.Reading.{MatchAll_from_Reads, Reads_from_MatchAll}
use Rattle.daide_grammar.specs.Proofs.Alternatives.{same_level, same_level-means, same_kind, same_kind-sound, parts_all}
use Rattle.daide_grammar.specs.Proofs.Alternatives.{parts_all-cover, parts_all-sound, covers, covers-sound, both-pass}
use Rattle.daide_grammar.specs.Proofs.Alternatives.{either-passes, alone, unalone}
use Rattle.daide_grammar.specs.Proofs.RightEntries.{after, apart, all_apart, is_added, same_slot, added_right, if_same}
use Rattle.daide_grammar.specs.Proofs.RightEntries.{known, entry_right, is_end_marker, right_by, agrees_with_first, all_right}

-- Added forms are not empty, and begin with added words.
pub record Proper (d : Dialect) : Type 0 where
  pub not_empty : (s : Slot) (l : Level) → Matches d (d.added s l) [] → ⊥
  pub by_word : (s : Slot) (l : Level) (t : ℕ) (w : List ℕ) → Matches d (d.added s l) (t ∷ w) →
      (k : ℕ) × (d.class_of t ≡ Word k)
  pub token_of : (c : Class) → class_number c < own_classes → (t : ℕ) × (d.class_of t ≡ c)

-- no word that may be added at this slot begins with the token
abbrev pub NoWord : Dialect → Option (Slot × Level) → ℕ → Type 0
NoWord d None t = Unit {0}
NoWord d (Some p) t = (w : List ℕ) → Matches d (d.added p.0 p.1) (t ∷ w) → ⊥

-- the class is no operator's word
abbrev pub IsStandard : Class → Type 0
IsStandard c = (k : ℕ) → c ≡ Word k → ⊥

-- no added word begins with a standard token
pub standard-no-word : (d : Dialect) (ok : Proper d) (o : Option (Slot × Level)) (t : ℕ) → IsStandard (d.class_of t) →
    NoWord d o t
standard-no-word d ok None t std = tt
standard-no-word d ok (Some p) t std = λ w m. let h = ok.by_word p.0 p.1 t w m in std h.0 h.1

-- a class that a test accepts, an equal test accepts: the converse direction
same_kind-back : (k m : TokenTest) (c : Class) → same_kind k m ≡ true → IsTrue (is_of_kind m c) → IsTrue (is_of_kind k c)
same_kind-back (is a) (is b) c e h =
    subst (λ (n : ℕ). nat_eq n (class_number c) ≡ true) (sym (eqb-true (class_number a) (class_number b) e)) h
same_kind-back any_but_brackets any_but_brackets c e h = h
same_kind-back (is a) any_but_brackets c e h = cc
same_kind-back any_but_brackets (is b) c e h = cc

-- a test does not both pass and fail
pub no-yes : (b : Bool) → b ≡ true → b ≡ false → ⊥
no-yes true e h = cc
no-yes false e h = cc

pub not-both : (b : Bool) → b ≡ true → not b ≡ true → ⊥
not-both true e h = cc
not-both false e h = cc

-- a test accepts a class if it accepts one with the same number
pub is_of_kind-like : (k : TokenTest) (c d : Class) → class_number c ≡ class_number d → is_of_kind k c ≡ is_of_kind k d
is_of_kind-like (is a) c d e = ap (nat_eq (class_number a)) e
is_of_kind-like any_but_brackets c d e = ap (λ n. not (nat_eq 0 n) && not (nat_eq 1 n)) e

-- tests that are apart accept no common class
pub apart-sound : (k m : TokenTest) (c : Class) → apart k m ≡ true → IsTrue (is_of_kind k c) → IsTrue (is_of_kind m c) → ⊥
apart-sound (is a) (is b) c e h i =
    not-both (same_class a b) (eq-eqb (class_number a) (class_number b) (eqb-true (class_number a) (class_number c) h
    ∙ sym (eqb-true (class_number b) (class_number c) i))) e
apart-sound (is a) any_but_brackets c e h i =
    not-both (is_of_kind any_but_brackets a) (is_of_kind-like any_but_brackets a c (eqb-true (class_number a) (class_number c) h) ∙ i) e
apart-sound any_but_brackets (is b) c e h i =
    not-both (is_of_kind any_but_brackets b) (is_of_kind-like any_but_brackets b c (eqb-true (class_number b) (class_number c) i) ∙ h) e
apart-sound any_but_brackets any_but_brackets c e h i = cc

-- the entry that is found is the first, or a later one if the first does not take the class
this_or-some : (b : Bool) (x : Alternative) (o : Option Alternative) (e : Alternative) → this_or b x o ≡ Some e →
    ((b ≡ true) × (x ≡ e)) ⊎ ((b ≡ false) × (o ≡ Some e))
this_or-some true x o e h = inl (refl, (cc))
this_or-some false x o e h = inr (refl, h)

-- if no entry is found, the first does not take the class and none of the rest does
this_or-none : (b : Bool) (x : Alternative) (o : Option Alternative) → this_or b x o ≡ None → (b ≡ false) × (o ≡ None)
this_or-none true x o h = cc
this_or-none false x o h = (refl, h)

-- if a test in the list takes the class, no entry apart from all of them takes it
takes-any : (c : Class) (k : TokenTest) (es : List Alternative) → list_any (λ f. same_kind k f.kind) es ≡ true →
    is_of_kind k c ≡ true → (x : Alternative) →
    list_all (λ f. apart x.kind f.kind) es ≡ true → is_of_kind x.kind c ≡ true → ⊥
takes-any c k [] m h x a i = cc
takes-any c k (y ∷ es) m h x a i =
    let p = both-pass (apart x.kind y.kind) (list_all (λ f. apart x.kind f.kind) es) a in
    elim (either-passes (same_kind k y.kind) (list_any (λ f. same_kind k f.kind) es) m) [
      | inl s ↦ apart-sound x.kind y.kind c p.0 i (same_kind-sound k y.kind c s h)
      | inr r ↦ takes-any c k es r h x p.1 i
    ]

-- of entries that are apart, the one that is found has the test that takes the class
find-agrees : (c : Class) (k : TokenTest) (es : List Alternative) (e : Alternative) → all_apart es ≡ true → entry_at c es ≡ Some e →
    list_any (λ f. same_kind k f.kind) es ≡ true → is_of_kind k c ≡ true → same_kind k e.kind ≡ true
unfolding all_apart
find-agrees c k [] e a f m h = cc
find-agrees c k (x ∷ es) e a f m h =
    let p = both-pass (list_all (λ g. apart x.kind g.kind) es) (all_apart es) a in
    elim (this_or-some (is_of_kind x.kind c) x (entry_at c es) e f) [
      | inl i ↦ elim (either-passes (same_kind k x.kind) (list_any (λ g. same_kind k g.kind) es) m) [
        | inl s ↦ subst (λ (y : Alternative). same_kind k y.kind ≡ true) i.1 s
        | inr r ↦ absurd (takes-any c k es r h x p.0 i.0)
      ]
      | inr j ↦ elim (either-passes (same_kind k x.kind) (list_any (λ g. same_kind k g.kind) es) m) [
        | inl s ↦ absurd (no-yes (is_of_kind x.kind c) (same_kind-sound k x.kind c s h) j.0)
        | inr r ↦ find-agrees c k es e p.1 j.1 r h
      ]
    ]

-- if no entry is found, no entry's test accepts the class
find-none : (c : Class) (k : TokenTest) (es : List Alternative) → entry_at c es ≡ None →
    list_any (λ f. same_kind k f.kind) es ≡ true →
    is_of_kind k c ≡ true → ⊥
find-none c k [] f m h = cc
find-none c k (x ∷ es) f m h =
    let j = this_or-none (is_of_kind x.kind c) x (entry_at c es) f in
    elim (either-passes (same_kind k x.kind) (list_any (λ g. same_kind k g.kind) es) m) [
      | inl s ↦ no-yes (is_of_kind x.kind c) (same_kind-sound k x.kind c s h) j.0
      | inr r ↦ find-none c k es j.1 r h
    ]

-- the entry that is found takes the class
pub find-takes : (c : Class) (es : List Alternative) (e : Alternative) → entry_at c es ≡ Some e → is_of_kind e.kind c ≡ true
find-takes c [] e f = cc
find-takes c (x ∷ es) e f =
    elim (this_or-some (is_of_kind x.kind c) x (entry_at c es) e f) [
      | inl i ↦ subst (λ (y : Alternative). is_of_kind y.kind c ≡ true) i.1 i.0
      | inr j ↦ find-takes c es e j.1
    ]

-- the entry that is found passes every test that all entries pass
pub find-passes : (test : Alternative → Bool) (c : Class) (es : List Alternative) (e : Alternative) → list_all test es ≡ true →
    entry_at c es ≡ Some e →
    test e ≡ true
find-passes test c [] e a f = cc
find-passes test c (x ∷ es) e a f =
    let p = both-pass (test x) (list_all test es) a in
    elim (this_or-some (is_of_kind x.kind c) x (entry_at c es) e f) [
      | inl i ↦ subst (λ (y : Alternative). test y ≡ true) i.1 p.0
      | inr j ↦ find-passes test c es e p.1 j.1
    ]

-- ---- the heads for a token

-- a list of a named form is a list of the name's rule
pub named-rule : (d : Dialect) (n : Nonterminal) (w : List ℕ) → Matches d (named n) w → Matches d (rule d n) w
named-rule d n w (by_name m) = m

-- slots that compare equal are equal
pub same_slot-means : (a b : Slot) → same_slot a b ≡ true → a ≡ b
same_slot-means Press_slot Press_slot e = refl
same_slot-means Arrangement_slot Arrangement_slot e = refl
same_slot-means Flat_slot Flat_slot e = refl
same_slot-means _ _ e = cc

-- the form for the words of a slot derives one of the words
pub added-reads : (d : Dialect) (p : Slot × Level) (fs : List Form) (w : List ℕ) → is_added (Some p) fs ≡ true →
    LeftDerivation d fs w →
    Matches d (d.added p.0 p.1) w
unfolding is_added
added-reads d p (named (Added s l) ∷ []) w e r =
    let q = both-pass (same_slot s p.0) (same_level l p.1) e in
    subst (λ (x : Slot). Matches d (d.added x p.1) w) (same_slot-means s p.0 q.0)
    (subst (λ (x : Level). Matches d (d.added s x) w) (same_level-means l p.1 q.1)
    (named-rule d (Added s l) w (unalone d (named (Added s l)) w (MatchAll_from_Reads d r))))
added-reads d p _ w e r = cc

-- no list begins with a token that begins no added word
no-added : (d : Dialect) (o : Option (Slot × Level)) (fs : List Form) (t : ℕ) (w : List ℕ) → NoWord d o t →
    is_added o fs ≡ true →
    LeftDerivation d fs (t ∷ w) → ⊥
unfolding is_added
no-added d None fs t w std e r = cc
no-added d (Some p) fs t w std e r = std w (added-reads d p fs (t ∷ w) e r)

-- an alternative on one side of a choice is an alternative of the choice
if_same-here : (P : List Form → Type 0) (b : Bool) (ps qs : List (List Form)) → b ≡ true → Some-of P ps →
    Some-of P (if_same b ps qs)
if_same-here P true ps qs e h = Some-first P ps qs h
if_same-here P false ps qs e h = cc

if_same-later : (P : List Form → Type 0) (b : Bool) (ps qs : List (List Form)) → Some-of P qs →
    Some-of P (if_same b ps qs)
if_same-later P true ps qs h = Some-second P ps qs h
if_same-later P false ps qs h = h

-- an alternative of a choice is an alternative on one of its two sides
if_same-either : (P : List Form → Type 0) (b : Bool) (ps qs : List (List Form)) → Some-of P (if_same b ps qs) →
    ((b ≡ true) × Some-of P ps) ⊎ Some-of P qs
if_same-either P true ps qs h = elim (Some-split P ps qs h) [ inl a ↦ inl (refl, a) | inr b ↦ inr b ]
if_same-either P false ps qs h = inr h

-- the rest after the token, if the heads derive the list
head-after : (d : Dialect) (ok : Proper d) (o : Option (Slot × Level)) (es : List Alternative) (e : Alternative) (t : ℕ)
    (w : List ℕ) → NoWord d o t →
    all_apart es ≡ true → entry_at (d.class_of t) es ≡ Some e →
    (hs : List FirstItem) → list_all (known o es) hs ≡ true → Some-of (HeadReads d (t ∷ w)) hs →
    Some-of (λ p. MatchAll d p w) (after e.kind hs)
unfolding known after
head-after d ok o es e t w std a f [] k h = h
head-after d ok o es e t w std a f (starts m fs ∷ hs) k (inl r) =
    if_same-here (λ p. MatchAll d p w) (same_kind m e.kind) (parts_all fs) (after e.kind hs)
    (find-agrees (d.class_of t) m es e a f (both-pass (list_any (λ g. same_kind m g.kind) es) (list_all
    (known o es) hs) k).0 r.0)
    (parts_all-cover d fs w (MatchAll_from_Reads d r.1))
head-after d ok o es e t w std a f (starts m fs ∷ hs) k (inr r) =
    if_same-later (λ p. MatchAll d p w) (same_kind m e.kind) (parts_all fs) (after e.kind hs)
    (head-after d ok o es e t w std a f hs (both-pass (list_any (λ g. same_kind m g.kind) es) (list_all
    (known o es) hs) k).1 r)
head-after d ok o es e t w std a f (ends ∷ hs) k (inl r) = cc
head-after d ok o es e t w std a f (ends ∷ hs) k (inr r) = head-after d ok o es e t w std a f hs k r
head-after d ok o es e t w std a f (unopened gs ∷ hs) k (inl r) =
    absurd (no-added d o gs t w std (both-pass (is_added o gs) (list_all (known o es) hs) k).0 r)
head-after d ok o es e t w std a f (unopened gs ∷ hs) k (inr r) =
    head-after d ok o es e t w std a f hs (both-pass (is_added o gs) (list_all (known o es) hs) k).1 r

-- and conversely
after-head : (d : Dialect) (e : Alternative) (t : ℕ) (w : List ℕ) → is_of_kind e.kind (d.class_of t) ≡ true →
    (hs : List FirstItem) → Some-of (λ p. MatchAll d p w) (after e.kind hs) → Some-of (HeadReads d (t ∷ w)) hs
unfolding after
after-head d e t w i [] h = h
after-head d e t w i (starts m fs ∷ hs) h =
    elim (if_same-either (λ p. MatchAll d p w) (same_kind m e.kind) (parts_all fs) (after e.kind hs) h) [
      | inl a ↦ inl (
        same_kind-back m e.kind (d.class_of t) a.0 i,
        Reads_from_MatchAll d fs w
            (parts_all-sound d fs w a.1),
      )
      | inr b ↦ inr (after-head d e t w i hs b)
    ]
after-head d e t w i (ends ∷ hs) h = inr (after-head d e t w i hs h)
after-head d e t w i (unopened gs ∷ hs) h = inr (after-head d e t w i hs h)

-- no head derives a list that begins with a class that no entry takes
no-head : (d : Dialect) (ok : Proper d) (o : Option (Slot × Level)) (es : List Alternative) (t : ℕ) (w : List ℕ) →
    NoWord d o t →
    entry_at (d.class_of t) es ≡ None →
    (hs : List FirstItem) → list_all (known o es) hs ≡ true → Some-of (HeadReads d (t ∷ w)) hs → ⊥
unfolding known
no-head d ok o es t w std f [] k h = absurd h
no-head d ok o es t w std f (starts m fs ∷ hs) k (inl r) =
    find-none (d.class_of t) m es f (both-pass (list_any (λ g. same_kind m g.kind) es) (list_all
    (known o es) hs) k).0 r.0
no-head d ok o es t w std f (starts m fs ∷ hs) k (inr r) =
    no-head d ok o es t w std f hs (both-pass (list_any (λ g. same_kind m g.kind) es) (list_all (known o es) hs) k).1 r
no-head d ok o es t w std f (ends ∷ hs) k (inl r) = cc
no-head d ok o es t w std f (ends ∷ hs) k (inr r) = no-head d ok o es t w std f hs k r
no-head d ok o es t w std f (unopened gs ∷ hs) k (inl r) =
    no-added d o gs t w std (both-pass (is_added o gs) (list_all (known o es) hs) k).0 r
no-head d ok o es t w std f (unopened gs ∷ hs) k (inr r) =
    no-head d ok o es t w std f hs (both-pass (is_added o gs) (list_all (known o es) hs) k).1 r

-- if a head is the end, the heads derive the empty list
end-head : (d : Dialect) (hs : List FirstItem) → list_any is_end_marker hs ≡ true → Some-of (HeadReads d []) hs
end-head d [] e = cc
end-head d (starts m fs ∷ hs) e = inr (end-head d hs e)
end-head d (ends ∷ hs) e = inl refl
end-head d (unopened gs ∷ hs) e = inr (end-head d hs e)

-- no added word is empty
not-added-empty : (d : Dialect) (ok : Proper d) (o : Option (Slot × Level)) (fs : List Form) → is_added o fs ≡ true →
    LeftDerivation d fs [] → ⊥
unfolding is_added
not-added-empty d ok None fs e r = cc
not-added-empty d ok (Some p) fs e r = ok.not_empty p.0 p.1 (added-reads d p fs [] e r)

-- if the heads derive the empty list, a head is the end
head-end : (d : Dialect) (ok : Proper d) (o : Option (Slot × Level)) (es : List Alternative) (hs : List FirstItem) →
    list_all (known o es) hs ≡ true →
    Some-of (HeadReads d []) hs → list_any is_end_marker hs ≡ true
unfolding known
head-end d ok o es [] k h = absurd h
head-end d ok o es (starts m fs ∷ hs) k (inl r) = absurd r
head-end d ok o es (starts m fs ∷ hs) k (inr r) =
    head-end d ok o es hs (both-pass (list_any (λ g. same_kind m g.kind) es) (list_all (known o es) hs) k).1 r
head-end d ok o es (ends ∷ hs) k r = refl
head-end d ok o es (unopened gs ∷ hs) k (inl r) =
    absurd (not-added-empty d ok o gs (both-pass (is_added o gs) (list_all (known o es) hs) k).0 r)
head-end d ok o es (unopened gs ∷ hs) k (inr r) =
    head-end d ok o es hs (both-pass (is_added o gs) (list_all (known o es) hs) k).1 r

-- ---- the laws

-- the parts of the test of a symbol
pub record RightParts (d : Dialect) (s : Sym) : Type 0 where
  pub entries_right : list_all (entry_right (heads d 60 (form_of s ∷ []))) (entries s) ≡ true
  pub heads_known : list_all (known (slot_of s) (entries s)) (heads d 60 (form_of s ∷ [])) ≡ true
  pub kinds_apart : all_apart (entries s) ≡ true
  pub may_end : list_any is_end_marker (heads d 60 (form_of s ∷ [])) ≡ may_end_of s
  pub added : added_right (slot_of s) (entries s) (heads d 60 (form_of s ∷ [])) ≡ true

-- tests that compare equal are equal
beq-same : (a b : Bool) → beq a b ≡ true → a ≡ b
beq-same true true e = refl
beq-same false false e = refl
beq-same true false e = cc
beq-same false true e = cc

-- the conjuncts of the test of a symbol
right_by_parts : (o : Option (Slot × Level)) (b : Bool) (es : List Alternative) (hs : List FirstItem) → right_by o b es hs ≡ true →
    (list_all (entry_right hs) es ≡ true) × (list_all (known o es) hs ≡ true) × (all_apart es ≡ true) ×
    (list_any is_end_marker hs ≡ b) × (added_right o es hs ≡ true)
unfolding right_by
right_by_parts o b es hs e =
    let a = both-pass (((list_all (entry_right hs) es && list_all (known o es) hs) && all_apart es) && beq
    (list_any is_end_marker hs) b) (added_right o es hs) e in
    let p = both-pass ((list_all (entry_right hs) es && list_all (known o es) hs) && all_apart es) (beq
    (list_any is_end_marker hs) b) a.0 in
    let q = both-pass (list_all (entry_right hs) es && list_all (known o es) hs) (all_apart es) p.0 in
    let r = both-pass (list_all (entry_right hs) es) (list_all (known o es) hs) q.0 in
    (r.0, r.1, q.1, beq-same (list_any is_end_marker hs) b p.1, a.1)

-- every symbol of the table is right
pub right_parts : (d : Dialect) (s : Sym) → RightParts d s
unfolding agrees_with_first
right_parts d s =
    let p = right_by_parts (slot_of s) (may_end_of s) (entries s) (heads d 60 (form_of s ∷ [])) (all_right d s) in
    record { entries_right = p.0; heads_known = p.1; kinds_apart = p.2; may_end = p.3; added = p.4 }

-- a concatenation of one list for each symbol, in order
abbrev pub AllMatchIn : Dialect → List Sym → List ℕ → Type 0
AllMatchIn d ss w = MatchAll d (forms ss) w

-- a symbol's lists are those that the heads of its form derive
pub to_heads : (d : Dialect) (s : Sym) (w : List ℕ) → SymbolMatchesIn d s w →
    Some-of (HeadReads d w) (heads d 60 (form_of s ∷ []))
to_heads d s w m =
    heads-cover d 60 (form_of s ∷ []) w (Reads_from_MatchAll d (form_of s ∷ []) w (alone d (form_of s) w m))

pub from_heads : (d : Dialect) (s : Sym) (w : List ℕ) → Some-of (HeadReads d w) (heads d 60 (form_of s ∷ [])) →
    SymbolMatchesIn d s w
from_heads d s w h = unalone d (form_of s) w (MatchAll_from_Reads d (heads-sound d 60 (form_of s ∷ []) w h))

-- a right entry covers what follows its token, and is covered by it
covered : (hs : List FirstItem) (e : Alternative) → entry_right hs e ≡ true →
    (covers (parts_all (forms e.rest)) (after e.kind hs) ≡ true) × (covers (after e.kind hs) (parts_all
    (forms e.rest)) ≡ true)
unfolding entry_right
covered hs e h = both-pass (covers (parts_all (forms e.rest)) (after e.kind hs)) (covers (after e.kind hs) (parts_all
    (forms e.rest))) h

-- if an entry is found, a list of the symbol that begins with the token continues as a list of its rest
pub entry-law : (d : Dialect) (ok : Proper d) (s : Sym) (e : Alternative) (t : ℕ) (w : List ℕ) → NoWord d (slot_of s) t →
    entry_at (d.class_of t) (entries s) ≡ Some e →
    SymbolMatchesIn d s (t ∷ w) ↔ AllMatchIn d e.rest w
entry-law d ok s e t w std f =
    let p = right_parts d s in
    let hs = heads d 60 (form_of s ∷ []) in
    let c = covered hs e (find-passes (entry_right hs) (d.class_of t) (entries s) e p.entries_right f) in (
      λ m. parts_all-sound d (forms e.rest) w (covers-sound d (after e.kind hs) (parts_all (forms e.rest)) w c.1
          (head-after d ok (slot_of s) (entries s) e t w std p.kinds_apart f hs p.heads_known (to_heads d s
          (t ∷ w) m))),
      λ m. from_heads d s (t ∷ w) (after-head d e t w (find-takes (d.class_of t) (entries s) e f) hs
          (covers-sound d (parts_all (forms e.rest)) (after e.kind hs) w c.0 (parts_all-cover d (forms e.rest) w m))),
    )

-- if no entry is found, no list of the symbol begins with the token
pub no-entry-law : (d : Dialect) (ok : Proper d) (s : Sym) (t : ℕ) (w : List ℕ) → NoWord d (slot_of s) t →
    entry_at (d.class_of t) (entries s) ≡ None → SymbolMatchesIn d s (t ∷ w) → ⊥
no-entry-law d ok s t w std f m =
    let p = right_parts d s in
    no-head d ok (slot_of s) (entries s) t w std f (heads d 60 (form_of s ∷ [])) p.heads_known (to_heads d s (t ∷ w) m)

-- the nullable symbols are those whose language has the empty list
pub may_end-law : (d : Dialect) (ok : Proper d) (s : Sym) → (may_end_of s ≡ true) ↔ SymbolMatchesIn d s []
may_end-law d ok s =
    let p = right_parts d s in
    let hs = heads d 60 (form_of s ∷ []) in (
      λ h. from_heads d s [] (end-head d hs (p.may_end ∙ h)),
      λ m. sym p.may_end ∙ head-end d ok (slot_of s) (entries s) hs p.heads_known (to_heads d s [] m),
    )

-- ---- the laws of the table's entries

-- the entry and the nullable flag from which a table entry is made
pub take-entry : (o : Option Alternative) (b : Bool) (rest : List Sym) → answer_by o b ≡ Take rest →
    (e : Alternative) × (o ≡ Some e) × (e.rest ≡ rest)
take-entry (Some e) b rest h = (e, refl, (cc))
take-entry None true rest h = cc
take-entry None false rest h = cc

pub skip-entry : (o : Option Alternative) (b : Bool) → answer_by o b ≡ Skip → (o ≡ None) × (b ≡ true)
skip-entry (Some e) b h = cc
skip-entry None true h = (refl, refl)
skip-entry None false h = cc

stop-entry : (o : Option Alternative) (b : Bool) → answer_by o b ≡ Stop → (o ≡ None) × (b ≡ false)
stop-entry (Some e) b h = cc
stop-entry None true h = cc
stop-entry None false h = (refl, refl)

-- a Take agrees with the languages
pub take-law : (d : Dialect) (ok : Proper d) (s : Sym) (rest : List Sym) (t : ℕ) (w : List ℕ) → NoWord d (slot_of s) t →
    table_answer s (d.class_of t) ≡ Take rest →
    SymbolMatchesIn d s (t ∷ w) ↔ AllMatchIn d rest w
unfolding table_answer
take-law d ok s rest t w std h =
    let k = take-entry (entry_at (d.class_of t) (entries s)) (may_end_of s) rest h in
    subst (λ (r : List Sym). SymbolMatchesIn d s (t ∷ w) ↔ AllMatchIn d r w) k.2 (entry-law d ok s k.0 t w std k.1)

-- so does a Skip
pub skip-law : (d : Dialect) (ok : Proper d) (s : Sym) (t : ℕ) → NoWord d (slot_of s) t →
    table_answer s (d.class_of t) ≡ Skip →
    SymbolMatchesIn d s [] × ((w : List ℕ) → SymbolMatchesIn d s (t ∷ w) → ⊥)
unfolding table_answer
skip-law d ok s t std h =
    let k = skip-entry (entry_at (d.class_of t) (entries s)) (may_end_of s) h in
    ((may_end-law d ok s).0 k.1, λ w. no-entry-law d ok s t w std k.0)

-- and a Stop
pub stop-law : (d : Dialect) (ok : Proper d) (s : Sym) (t : ℕ) → NoWord d (slot_of s) t →
    table_answer s (d.class_of t) ≡ Stop →
    (SymbolMatchesIn d s [] → ⊥) × ((w : List ℕ) → SymbolMatchesIn d s (t ∷ w) → ⊥)
unfolding table_answer
stop-law d ok s t std h =
    let k = stop-entry (entry_at (d.class_of t) (entries s)) (may_end_of s) h in
    (λ m. no-yes (may_end_of s) ((may_end-law d ok s).1 m) k.1, λ w. no-entry-law d ok s t w std k.0)
