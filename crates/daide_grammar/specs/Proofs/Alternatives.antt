-- A list of forms as a union of lists of forms without a choice, and a test that one language contains another.
use Rattle.std.proofs.Common.{◌≡◌, ℕ, Bool, true, false, ◌&&◌, ◌||◌, nat_eq, List, [], ◌∷◌, ◌++◌, map, ◌⊎◌, inl, inr}
use Rattle.std.proofs.Common.{IsTrue, refl, sym, ◌∙◌, ap, subst, append_assoc, append-nil}
use Rattle.std.proofs.lemmas.Bool.{eqb-true}
use Rattle.std.specs.List.{list_any, list_all}
use Rattle.daide_token.specs.declared.class.Class.{Class}
use Rattle.daide_grammar.specs.declared.level.Level.{Level}
use Rattle.daide_grammar.specs.declared.level.Level.TheVariants.{L0, L10, L20, L30, L40, L50, L60}
use Rattle.daide_grammar.specs.Level.{level_number}
use Rattle.daide_grammar.specs.Classes.{class_number, same_class}
use Rattle.daide_grammar.specs.Forms.{TokenTest, is, any_but_brackets, Nonterminal, Place_name, Unit_name, Order_name, Any_name}
use Rattle.daide_grammar.specs.Forms.{Request_name, Send_name, Press_name, Arrangement_name, Flat_name, Fact_name, Form}
use Rattle.daide_grammar.specs.Forms.{one, never, empty, ◌·◌, ◌∣◌, many, group, named, Dialect}
use Rattle.daide_grammar.specs.Message.Lists.{anything}
use Rattle.daide_grammar.specs.Matches.{Matches, token, nothing, both, first, second, no_more, one_more, bracketed}
use Rattle.daide_grammar.specs.Matches.{by_name, MatchAll}
use Rattle.daide_grammar.specs.Table.Symbols.{is_of_kind}
use Rattle.daide_grammar.specs.Proofs.TokenTests.{accepted, passed}
use Rattle.daide_grammar.specs.Proofs.Reading.{Some-of, Some-first, Some-second, Some-split}

-- each list of the first, followed by each of the second
unfoldable pub product : List (List Form) → List (List Form) → List (List Form)
product [] ys = []
product (x ∷ xs) ys = map (λ y. x ++ y) ys ++ product xs ys

-- the alternatives of a name: the name itself, except for `any`, which is expanded to its words and brackets
unfoldable pub name_parts : Nonterminal → List (List Form)
name_parts Any_name = (anything ∷ []) ∷ []
name_parts n = (named n ∷ []) ∷ []

-- the alternatives of a form, each a list of forms without a choice at the top
unfoldable pub parts : Form → List (List Form)
parts (one k) = (one k ∷ []) ∷ []
parts never = []
parts empty = [] ∷ []
parts (f · g) = product (parts f) (parts g)
parts (f ∣ g) = parts f ++ parts g
parts (many f) = (many f ∷ []) ∷ []
parts (group f) = (group f ∷ []) ∷ []
parts (named n) = name_parts n

-- the alternatives of a list of forms
unfoldable pub parts_all : List Form → List (List Form)
parts_all [] = [] ∷ []
parts_all (f ∷ fs) = product (parts f) (parts_all fs)

-- a property of an image of a member is a property of a member of the mapped list
Some-map : {X Y : Type 0} (P : Y → Type 0) (f : X → Y) (xs : List X) → Some-of (λ x. P (f x)) xs → Some-of P (map f xs)
Some-map P f [] h = h
Some-map P f (x ∷ xs) (inl h) = inl h
Some-map P f (x ∷ xs) (inr h) = inr (Some-map P f xs h)

Some-unmap : {X Y : Type 0} (P : Y → Type 0) (f : X → Y) (xs : List X) → Some-of P (map f xs) →
    Some-of (λ x. P (f x)) xs
Some-unmap P f [] h = h
Some-unmap P f (x ∷ xs) (inl h) = inl h
Some-unmap P f (x ∷ xs) (inr h) = inr (Some-unmap P f xs h)

-- a property of some member implies a weaker property of some member
Some-weaker : {X : Type 0} (P Q : X → Type 0) (xs : List X) → ((x : X) → P x → Q x) → Some-of P xs → Some-of Q xs
Some-weaker P Q [] f h = h
Some-weaker P Q (x ∷ xs) f (inl h) = inl (f x h)
Some-weaker P Q (x ∷ xs) f (inr h) = inr (Some-weaker P Q xs f h)

-- a match of a product is a match of one list of each factor, in order
product-from : (P : List Form → Type 0) (xs ys : List (List Form)) → Some-of P (product xs ys) →
    Some-of (λ x. Some-of (λ y. P (x ++ y)) ys) xs
unfolding product
product-from P [] ys h = h
product-from P (x ∷ xs) ys h =
    elim (Some-split P (map (λ y. x ++ y) ys) (product xs ys) h) [
      | inl a ↦ inl (Some-unmap P (λ y. x ++ y) ys a)
      | inr b ↦ inr (product-from P xs ys b)
    ]

-- and conversely
product-to : (P : List Form → Type 0) (xs ys : List (List Form)) → Some-of (λ x. Some-of (λ y. P (x ++ y)) ys) xs →
    Some-of P (product xs ys)
unfolding product
product-to P [] ys h = h
product-to P (x ∷ xs) ys (inl h) = Some-first P (map (λ y. x ++ y) ys) (product xs ys) (Some-map P (λ y. x ++ y) ys h)
product-to P (x ∷ xs) ys (inr h) = Some-second P (map (λ y. x ++ y) ys) (product xs ys) (product-to P xs ys h)

-- matches of two lists of forms are concatenated
pub MatchAll-join : (d : Dialect) (ps qs : List Form) (u v : List ℕ) → MatchAll d ps u → MatchAll d qs v →
    MatchAll d (ps ++ qs) (u ++ v)
MatchAll-join d [] qs u v e n = subst (λ (x : List ℕ). MatchAll d qs (x ++ v)) (sym e) n
MatchAll-join d (p ∷ ps) qs u v h n =
    (h.0, h.1 ++ v, h.2, MatchAll-join d ps qs h.1 v h.3 n, sym (append_assoc h.0 h.1 v) ∙ ap (λ x. x ++ v) h.4)

-- a list that matches two lists of forms splits into two parts
pub MatchAll-split : (d : Dialect) (ps qs : List Form) (w : List ℕ) → MatchAll d (ps ++ qs) w →
    (u : List ℕ) × (v : List ℕ) × MatchAll d ps u × MatchAll d qs v × (u ++ v ≡ w)
MatchAll-split d [] qs w h = ([], w, refl, h, refl)
MatchAll-split d (p ∷ ps) qs w h =
    let k = MatchAll-split d ps qs h.1 h.3 in
    (h.0 ++ k.0, k.1, (h.0, k.0, h.2, k.2, refl), k.3, append_assoc h.0 k.0 k.1 ∙ ap (λ x. h.0 ++ x) k.4 ∙ h.4)

-- a single form is a list of one form
pub alone : (d : Dialect) (f : Form) (u : List ℕ) → Matches d f u → MatchAll d (f ∷ []) u
alone d f u m = (u, [], m, refl, append-nil u)

pub unalone : (d : Dialect) (f : Form) (u : List ℕ) → MatchAll d (f ∷ []) u → Matches d f u
unalone d f u h = subst (Matches d f) (sym (append-nil h.0) ∙ ap (λ x. h.0 ++ x) (sym h.3) ∙ h.4) h.2

-- a match of the first factor followed by a match of the second is a match of the product
product-match : (d : Dialect) (xs ys : List (List Form)) (u v : List ℕ) → Some-of (λ p. MatchAll d p u) xs →
    Some-of (λ q. MatchAll d q v) ys → Some-of (λ p. MatchAll d p (u ++ v)) (product xs ys)
product-match d xs ys u v h k =
    product-to (λ p. MatchAll d p (u ++ v)) xs ys
    (Some-weaker (λ p. MatchAll d p u) (λ p. Some-of (λ q. MatchAll d (p ++ q) (u ++ v)) ys) xs
    (λ p m. Some-weaker (λ q. MatchAll d q v) (λ q. MatchAll d (p ++ q) (u ++ v)) ys
    (λ q n. MatchAll-join d p q u v m n) k) h)

-- a list of tokens in two parts, the first with one property and the second with another
abbrev pub Divided : Dialect → (List ℕ → Type 0) → (List ℕ → Type 0) → List ℕ → Type 0
Divided d P Q w = (u : List ℕ) × (v : List ℕ) × P u × Q v × (u ++ v ≡ w)

-- a list that matches a product splits into two parts: for one row of it,
row-divided : (d : Dialect) (x : List Form) (ys : List (List Form)) (w : List ℕ) →
    Some-of (λ y. MatchAll d (x ++ y) w) ys →
    Divided d (MatchAll d x) (λ v. Some-of (λ q. MatchAll d q v) ys) w
row-divided d x [] w h = absurd h
row-divided d x (y ∷ ys) w (inl h) = let k = MatchAll-split d x y w h in (k.0, k.1, k.2, inl k.3, k.4)
row-divided d x (y ∷ ys) w (inr h) = let k = row-divided d x ys w h in (k.0, k.1, k.2, inr k.3, k.4)

-- for its rows,
rows-divided : (d : Dialect) (xs ys : List (List Form)) (w : List ℕ) →
    Some-of (λ x. Some-of (λ y. MatchAll d (x ++ y) w) ys) xs →
    Divided d (λ u. Some-of (λ p. MatchAll d p u) xs) (λ v. Some-of (λ q. MatchAll d q v) ys) w
rows-divided d [] ys w h = absurd h
rows-divided d (x ∷ xs) ys w (inl h) = let k = row-divided d x ys w h in (k.0, k.1, inl k.2, k.3, k.4)
rows-divided d (x ∷ xs) ys w (inr h) = let k = rows-divided d xs ys w h in (k.0, k.1, inr k.2, k.3, k.4)

-- and for the whole product
product-divided : (d : Dialect) (xs ys : List (List Form)) (w : List ℕ) →
    Some-of (λ p. MatchAll d p w) (product xs ys) →
    Divided d (λ u. Some-of (λ p. MatchAll d p u) xs) (λ v. Some-of (λ q. MatchAll d q v) ys) w
product-divided d xs ys w h = rows-divided d xs ys w (product-from (λ p. MatchAll d p w) xs ys h)

-- a member of a list of one item is that item
only-one : {X : Type 0} (P : X → Type 0) (x : X) → Some-of P (x ∷ []) → P x
only-one P x (inl h) = h
only-one P x (inr h) = absurd h

-- a name matches as its alternatives do
name_parts-cover : (d : Dialect) (n : Nonterminal) (u : List ℕ) → Matches d (named n) u →
    Some-of (λ p. MatchAll d p u) (name_parts n)
unfolding name_parts
name_parts-cover d Any_name u (by_name m) = inl (alone d anything u m)
name_parts-cover d n u m = inl (alone d (named n) u m)

name_parts-sound : (d : Dialect) (n : Nonterminal) (u : List ℕ) → Some-of (λ p. MatchAll d p u) (name_parts n) →
    Matches d (named n) u
unfolding name_parts
name_parts-sound d Any_name u h = by_name (unalone d anything u (only-one (λ p. MatchAll d p u) (anything ∷ []) h))
name_parts-sound d n u h = unalone d (named n) u (only-one (λ p. MatchAll d p u) (named n ∷ []) h)

-- what matches a form matches one of its alternatives
parts-cover : (d : Dialect) (f : Form) (u : List ℕ) → Matches d f u → Some-of (λ p. MatchAll d p u) (parts f)
unfolding parts
parts-cover d (one k) u m = inl (alone d (one k) u m)
parts-cover d never u m = elim m [ ]
parts-cover d empty u nothing = inl refl
parts-cover d (f · g) w (both {u = u} {v = v} m n) =
    product-match d (parts f) (parts g) u v (parts-cover d f u m) (parts-cover d g v n)
parts-cover d (f ∣ g) w (first m) = Some-first (λ p. MatchAll d p w) (parts f) (parts g) (parts-cover d f w m)
parts-cover d (f ∣ g) w (second m) = Some-second (λ p. MatchAll d p w) (parts f) (parts g) (parts-cover d g w m)
parts-cover d (many f) u m = inl (alone d (many f) u m)
parts-cover d (group f) u m = inl (alone d (group f) u m)
parts-cover d (named n) u m = name_parts-cover d n u m

-- and conversely
parts-sound : (d : Dialect) (f : Form) (w : List ℕ) → Some-of (λ p. MatchAll d p w) (parts f) → Matches d f w
unfolding parts
parts-sound d (one k) w (inl h) = unalone d (one k) w h
parts-sound d (one k) w (inr h) = absurd h
parts-sound d never w h = absurd h
parts-sound d empty w (inl h) = subst (Matches d empty) (sym h) nothing
parts-sound d empty w (inr h) = absurd h
parts-sound d (f · g) w h =
    let k = product-divided d (parts f) (parts g) w h in
    subst (Matches d (f · g)) k.4 (both (parts-sound d f k.0 k.2) (parts-sound d g k.1 k.3))
parts-sound d (f ∣ g) w h =
    elim (Some-split (λ p. MatchAll d p w) (parts f) (parts g) h) [
      | inl a ↦ first (parts-sound d f w a)
      | inr b ↦ second (parts-sound d g w b)
    ]
parts-sound d (many f) w (inl h) = unalone d (many f) w h
parts-sound d (many f) w (inr h) = absurd h
parts-sound d (group f) w (inl h) = unalone d (group f) w h
parts-sound d (group f) w (inr h) = absurd h
parts-sound d (named n) w h = name_parts-sound d n w h

-- a list that matches a list of forms matches one of its alternatives
pub parts_all-cover : (d : Dialect) (fs : List Form) (w : List ℕ) → MatchAll d fs w →
    Some-of (λ p. MatchAll d p w) (parts_all fs)
unfolding parts_all
parts_all-cover d [] w e = inl e
parts_all-cover d (f ∷ fs) w h =
    subst (λ (x : List ℕ). Some-of (λ p. MatchAll d p x) (product (parts f) (parts_all fs))) h.4
    (product-match d (parts f) (parts_all fs) h.0 h.1 (parts-cover d f h.0 h.2) (parts_all-cover d fs h.1 h.3))

pub parts_all-sound : (d : Dialect) (fs : List Form) (w : List ℕ) → Some-of (λ p. MatchAll d p w) (parts_all fs) →
    MatchAll d fs w
unfolding parts_all
parts_all-sound d [] w (inl e) = e
parts_all-sound d [] w (inr e) = absurd e
parts_all-sound d (f ∷ fs) w h =
    let k = product-divided d (parts f) (parts_all fs) w h in
    (k.0, k.1, parts-sound d f k.0 k.2, parts_all-sound d fs k.1 k.3, k.4)

-- ---- one language contained in another

-- whether two levels are the same
abbrev pub same_level : Level → Level → Bool
same_level l m = nat_eq (level_number l) (level_number m)

-- the level with a number
level_of : ℕ → Level
level_of n =
    elim (nat_eq n 0) [
      | true ↦ L0
      | false ↦ elim (nat_eq n 10) [
        | true ↦ L10
        | false ↦ elim (nat_eq n 20) [
          | true ↦ L20
          | false ↦ elim (nat_eq n 30) [
            | true ↦ L30
            | false ↦ elim (nat_eq n 40) [
              | true ↦ L40
              | false ↦ elim
                  (nat_eq n 50) [ true ↦ L50 | false ↦ L60 ]
            ]
          ]
        ]
      ]
    ]

level_of-level_number : (l : Level) → level_of (level_number l) ≡ l
unfolding level_of
level_of-level_number L0 = refl
level_of-level_number L10 = refl
level_of-level_number L20 = refl
level_of-level_number L30 = refl
level_of-level_number L40 = refl
level_of-level_number L50 = refl
level_of-level_number L60 = refl

-- levels that compare equal are equal
pub same_level-means : (l m : Level) → same_level l m ≡ true → l ≡ m
same_level-means l m e =
    sym (level_of-level_number l) ∙ ap level_of (eqb-true (level_number l) (level_number m) e) ∙ level_of-level_number m

-- both tests pass
pub both-pass : (a b : Bool) → (a && b) ≡ true → (a ≡ true) × (b ≡ true)
both-pass true b e = (refl, e)
both-pass false b e = cc

-- one of two tests passes
pub either-passes : (a b : Bool) → (a || b) ≡ true → (a ≡ true) ⊎ (b ≡ true)
either-passes true b e = inl refl
either-passes false b e = inr e

-- whether two tests are the same
abbrev pub same_kind : TokenTest → TokenTest → Bool
same_kind (is c) (is d) = same_class c d
same_kind any_but_brackets any_but_brackets = true
same_kind _ _ = false

-- a class that a test accepts, an equal test accepts
pub same_kind-sound : (k m : TokenTest) (c : Class) → same_kind k m ≡ true → IsTrue (is_of_kind k c) → IsTrue (is_of_kind m c)
same_kind-sound (is a) (is b) c e h =
    subst (λ (n : ℕ). nat_eq n (class_number c) ≡ true) (eqb-true (class_number a) (class_number b) e) h
same_kind-sound any_but_brackets any_but_brackets c e h = h
same_kind-sound (is a) any_but_brackets c e h = cc
same_kind-sound any_but_brackets (is b) c e h = cc

-- the language of the first name is contained in that of the second, by this test
unfoldable pub name_below : Nonterminal → Nonterminal → Bool
name_below Place_name Place_name = true
name_below Unit_name Unit_name = true
name_below Order_name Order_name = true
name_below Any_name Any_name = true
name_below (Press_name l) (Press_name m) = same_level l m
name_below (Request_name l) (Request_name m) = same_level l m
name_below (Send_name l) (Send_name m) = same_level l m
name_below (Arrangement_name l) (Arrangement_name m) = same_level l m
name_below (Flat_name l) (Flat_name m) = same_level l m
name_below (Fact_name l) (Fact_name m) = same_level l m
name_below (Arrangement_name l) (Fact_name m) = same_level l m
name_below _ _ = false

-- if the test passes, the lists of the first name are lists of the second
name_below-sound : (d : Dialect) (n m : Nonterminal) (w : List ℕ) → name_below n m ≡ true → Matches d (named n) w →
    Matches d (named m) w
unfolding name_below
name_below-sound d Place_name Place_name w e h = h
name_below-sound d Unit_name Unit_name w e h = h
name_below-sound d Order_name Order_name w e h = h
name_below-sound d Any_name Any_name w e h = h
name_below-sound d (Press_name l) (Press_name m) w e h =
    subst (λ (x : Level). Matches d (named (Press_name x)) w) (same_level-means l m e) h
name_below-sound d (Request_name l) (Request_name m) w e h =
    subst (λ (x : Level). Matches d (named (Request_name x)) w) (same_level-means l m e) h
name_below-sound d (Send_name l) (Send_name m) w e h =
    subst (λ (x : Level). Matches d (named (Send_name x)) w) (same_level-means l m e) h
name_below-sound d (Arrangement_name l) (Arrangement_name m) w e h =
    subst (λ (x : Level). Matches d (named (Arrangement_name x)) w) (same_level-means l m e) h
name_below-sound d (Flat_name l) (Flat_name m) w e h =
    subst (λ (x : Level). Matches d (named (Flat_name x)) w) (same_level-means l m e) h
name_below-sound d (Fact_name l) (Fact_name m) w e h =
    subst (λ (x : Level). Matches d (named (Fact_name x)) w) (same_level-means l m e) h
name_below-sound d (Arrangement_name l) (Fact_name m) w e h =
    by_name (first (subst (λ (x : Level). Matches d (named (Arrangement_name x)) w) (same_level-means l m e) h))
name_below-sound d _ _ w e h = cc

-- whether the language of the first form is contained in that of the second, by this test
unfoldable pub below : Form → Form → Bool
below (one k) (one m) = same_kind k m
below empty empty = true
below (f · g) (h · k) = below f h && below g k
below (f ∣ g) (h ∣ k) = below f h && below g k
below (many f) (many g) = below f g
below (group f) (group g) = below f g
below (named n) (named m) = name_below n m
below _ _ = false

-- a repetition of a smaller form is a repetition of the larger one
many-below : (d : Dialect) (f g : Form) (w : List ℕ) → ((u : List ℕ) → Matches d f u → Matches d g u) →
    Matches d (many f) w →
    Matches d (many g) w
many-below d f g w k no_more = no_more
many-below d f g w k (one_more {u = u} {v = v} m n) = one_more (k u m) (many-below d f g v k n)

-- if the test passes, the lists of the first form are lists of the second
pub below-sound : (d : Dialect) (f g : Form) (w : List ℕ) → below f g ≡ true → Matches d f w → Matches d g w
unfolding below
below-sound d (one k) (one m) w e (token {t = t} h) =
    let c = d.class_of t in token (accepted m c (same_kind-sound k m c e (passed k c h)))
below-sound d empty empty w e h = h
below-sound d (f · g) (h · k) w e (both {u = u} {v = v} a b) =
    let p = both-pass (below f h) (below g k) e in
    both (below-sound d f h u p.0 a) (below-sound d g k v p.1 b)
below-sound d (f ∣ g) (h ∣ k) w e (first a) = first (below-sound d f h w (both-pass (below f h) (below g k) e).0 a)
below-sound d (f ∣ g) (h ∣ k) w e (second b) = second (below-sound d g k w (both-pass (below f h) (below g k) e).1 b)
below-sound d (many f) (many g) w e m = many-below d f g w (λ u. below-sound d f g u e) m
below-sound d (group f) (group g) w e (bracketed {u = u} o k b m c) = bracketed o k b (below-sound d f g u e m) c
below-sound d (named n) (named m) w e h = name_below-sound d n m w e h
below-sound d _ _ w e h = cc

-- whether each form of a list is contained in the form at the same index of another
unfoldable pub below_all : List Form → List Form → Bool
below_all [] [] = true
below_all (f ∷ fs) (g ∷ gs) = below f g && below_all fs gs
below_all _ _ = false

pub below_all-sound : (d : Dialect) (fs gs : List Form) (w : List ℕ) → below_all fs gs ≡ true → MatchAll d fs w →
    MatchAll d gs w
unfolding below_all
below_all-sound d [] [] w e h = h
below_all-sound d (f ∷ fs) (g ∷ gs) w e h =
    let p = both-pass (below f g) (below_all fs gs) e in
    (h.0, h.1, below-sound d f g h.0 p.0 h.2, below_all-sound d fs gs h.1 p.1 h.3, h.4)
below_all-sound d [] (g ∷ gs) w e h = cc
below_all-sound d (f ∷ fs) [] w e h = cc

-- whether each list of the first union is contained in some list of the second
unfoldable pub covers : List (List Form) → List (List Form) → Bool
covers ps qs = list_all (λ p. list_any (below_all p) qs) ps

-- a list that matches forms contained in some alternative matches that union
any-below : (d : Dialect) (p : List Form) (qs : List (List Form)) (w : List ℕ) → list_any (below_all p) qs ≡ true →
    MatchAll d p w →
    Some-of (λ q. MatchAll d q w) qs
any-below d p [] w e h = cc
any-below d p (q ∷ qs) w e h =
    elim (either-passes (below_all p q) (list_any (below_all p) qs) e) [
      | inl a ↦ inl (below_all-sound d p q w a h)
      | inr b ↦ inr (any-below d p qs w b h)
    ]

-- if the second union covers the first, every list of the first is a list of the second
pub covers-sound : (d : Dialect) (ps qs : List (List Form)) (w : List ℕ) → covers ps qs ≡ true →
    Some-of (λ p. MatchAll d p w) ps →
    Some-of (λ q. MatchAll d q w) qs
unfolding covers
covers-sound d [] qs w e h = absurd h
covers-sound d (p ∷ ps) qs w e (inl h) = any-below d p qs w (both-pass (list_any (below_all p) qs) (covers ps qs) e).0 h
covers-sound d (p ∷ ps) qs w e (inr h) =
    covers-sound d ps qs w (both-pass (list_any (below_all p) qs) (covers ps qs) e).1 h
