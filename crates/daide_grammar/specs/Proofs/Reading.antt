-- Reading a list of forms from the left, and the first items of such a list.
use Rattle.std.proofs.Common.{◌≡◌, ℕ, zero, suc, List, [], ◌∷◌, ◌++◌, Option, Some, None, ◌⊎◌, inl, inr, IsTrue, refl}
use Rattle.std.proofs.Common.{sym, ◌∙◌, ap, subst, append_assoc}
use Rattle.daide_token.specs.declared.class.Class.TheVariants.{Bra, Ket}
use Rattle.daide_grammar.specs.Forms.{TokenTest, is, Nonterminal, Form, one, never, empty, ◌·◌, ◌∣◌, many, group, named}
use Rattle.daide_grammar.specs.Forms.{Added, Place_name, Dialect}
use Rattle.daide_grammar.specs.Matches.{rule, Matches, token, nothing, both, first, second, no_more, one_more}
use Rattle.daide_grammar.specs.Matches.{bracketed, by_name, MatchAll}
use Rattle.daide_grammar.specs.Proofs.TokenTests.{accepted, passed}
use Rattle.daide_grammar.specs.Table.Symbols.{is_of_kind}

-- a list of forms read from the left, token by token
pub data LeftDerivation (d : Dialect) : List Form → List ℕ → Type 0 where
  end : LeftDerivation d [] []
  take : {k : TokenTest} {fs : List Form} {t : ℕ} {w : List ℕ} → IsTrue (is_of_kind k (d.class_of t)) → LeftDerivation d fs w →
      LeftDerivation d (one k ∷ fs) (t ∷ w)
  pass : {fs : List Form} {w : List ℕ} → LeftDerivation d fs w → LeftDerivation d (empty ∷ fs) w
  open' : {f g : Form} {fs : List Form} {w : List ℕ} → LeftDerivation d (f ∷ g ∷ fs) w → LeftDerivation d ((f · g) ∷ fs) w
  left : {f g : Form} {fs : List Form} {w : List ℕ} → LeftDerivation d (f ∷ fs) w → LeftDerivation d ((f ∣ g) ∷ fs) w
  right : {f g : Form} {fs : List Form} {w : List ℕ} → LeftDerivation d (g ∷ fs) w → LeftDerivation d ((f ∣ g) ∷ fs) w
  stop : {f : Form} {fs : List Form} {w : List ℕ} → LeftDerivation d fs w → LeftDerivation d (many f ∷ fs) w
  again : {f : Form} {fs : List Form} {w : List ℕ} → LeftDerivation d (f ∷ many f ∷ fs) w → LeftDerivation d (many f ∷ fs) w
  enter : {f : Form} {fs : List Form} {t : ℕ} {w : List ℕ} → IsTrue (is_of_kind (is Bra) (d.class_of t)) →
      LeftDerivation d (f ∷ one (is Ket) ∷ fs) w →
      LeftDerivation d (group f ∷ fs) (t ∷ w)
  unfold' : {n : Nonterminal} {fs : List Form} {w : List ℕ} → LeftDerivation d (rule d n ∷ fs) w → LeftDerivation d (named n ∷ fs) w

-- a match, and then a derivation of the rest
pub LeftDerivation-front : (d : Dialect) {f : Form} {u : List ℕ} {fs : List Form} (v : List ℕ) → Matches d f u → LeftDerivation d fs v →
    LeftDerivation d (f ∷ fs) (u ++ v)
LeftDerivation-front d v (token {k = k} {t = t} h) r = take (passed k (d.class_of t) h) r
LeftDerivation-front d v nothing r = pass r
LeftDerivation-front d v (both {u = a} {v = b} m n) r =
    open' (subst (LeftDerivation d _) (sym (append_assoc a b v)) (LeftDerivation-front d (b ++ v) m (LeftDerivation-front d v n r)))
LeftDerivation-front d v (first m) r = left (LeftDerivation-front d v m r)
LeftDerivation-front d v (second m) r = right (LeftDerivation-front d v m r)
LeftDerivation-front d v no_more r = stop r
LeftDerivation-front d v (one_more {u = a} {v = b} m n) r =
    again (subst (LeftDerivation d _) (sym (append_assoc a b v)) (LeftDerivation-front d (b ++ v) m (LeftDerivation-front d v n r)))
LeftDerivation-front d v (bracketed {u = u} o k b m e) r =
    enter (passed (is Bra) (d.class_of o) b)
    (subst (LeftDerivation d _) (sym (append_assoc u (k ∷ []) v))
    (LeftDerivation-front d (k ∷ v) m (take (passed (is Ket) (d.class_of k) e) r)))
LeftDerivation-front d v (by_name m) r = unfold' (LeftDerivation-front d v m r)

-- one form in front of a match of the rest
front : (d : Dialect) {f : Form} (fs : List Form) {u : List ℕ} (w : List ℕ) → Matches d f u → MatchAll d fs w →
    MatchAll d (f ∷ fs) (u ++ w)
front d fs {u} w m r = (u, w, m, r, refl)

-- a bracket, a match, a closing bracket and a match of the rest
in_brackets : (d : Dialect) (f : Form) (fs : List Form) (t : ℕ) {w : List ℕ} →
    IsTrue (is_of_kind (is Bra) (d.class_of t)) → (u v : List ℕ) →
    Matches d f u → (x y : List ℕ) → Matches d (one (is Ket)) x → MatchAll d fs y → x ++ y ≡ v → u ++ v ≡ w →
    MatchAll d (group f ∷ fs) (t ∷ w)
in_brackets d f fs t b u v m x y (token {t = k} e) r p q = (
  t ∷ (u ++ k ∷ []),
  y,
  bracketed t k (accepted (is Bra) (d.class_of t) b) m e,
  r,
  ap (λ z. t ∷ z) (append_assoc u (k ∷ []) y ∙ ap (λ z. u ++ z) p ∙ q),
)

-- a derivation is a match of each form, in order
pub MatchAll_from_Reads : (d : Dialect) {fs : List Form} {w : List ℕ} → LeftDerivation d fs w → MatchAll d fs w
MatchAll_from_Reads d end = refl
MatchAll_from_Reads d (take {k = k} {t = t} h r) =
    front d _ _ (token (accepted k (d.class_of t) h)) (MatchAll_from_Reads d r)
MatchAll_from_Reads d (pass r) = front d _ _ nothing (MatchAll_from_Reads d r)
MatchAll_from_Reads d (open' r) =
    let h = MatchAll_from_Reads d r in
    let k = h.3 in
    (h.0 ++ k.0, k.1, both h.2 k.2, k.3, append_assoc h.0 k.0 k.1 ∙ ap (λ v. h.0 ++ v) k.4 ∙ h.4)
MatchAll_from_Reads d (left r) = let h = MatchAll_from_Reads d r in (h.0, h.1, first h.2, h.3, h.4)
MatchAll_from_Reads d (right r) = let h = MatchAll_from_Reads d r in (h.0, h.1, second h.2, h.3, h.4)
MatchAll_from_Reads d (stop r) = front d _ _ no_more (MatchAll_from_Reads d r)
MatchAll_from_Reads d (again r) =
    let h = MatchAll_from_Reads d r in
    let k = h.3 in
    (h.0 ++ k.0, k.1, one_more h.2 k.2, k.3, append_assoc h.0 k.0 k.1 ∙ ap (λ v. h.0 ++ v) k.4 ∙ h.4)
MatchAll_from_Reads d (enter {f = f} {fs = fs} {t = t} b r) =
    let h = MatchAll_from_Reads d r in
    let k = h.3 in
    in_brackets d f fs t b h.0 h.1 h.2 k.0 k.1 k.2 k.3 k.4 h.4
MatchAll_from_Reads d (unfold' r) = let h = MatchAll_from_Reads d r in (h.0, h.1, by_name h.2, h.3, h.4)

-- and conversely
pub Reads_from_MatchAll : (d : Dialect) (fs : List Form) (w : List ℕ) → MatchAll d fs w → LeftDerivation d fs w
Reads_from_MatchAll d [] w e = subst (LeftDerivation d []) (sym e) end
Reads_from_MatchAll d (f ∷ fs) w h =
    subst (LeftDerivation d (f ∷ fs)) h.4 (LeftDerivation-front d h.1 h.2 (Reads_from_MatchAll d fs h.1 h.3))

-- one of the items has property P
abbrev pub Some-of : {X : Type 0} → (X → Type 0) → List X → Type 0
Some-of P [] = ⊥
Some-of P (x ∷ xs) = P x ⊎ Some-of P xs

-- a member of one list is a member of the concatenation
pub Some-first : {X : Type 0} (P : X → Type 0) (xs ys : List X) → Some-of P xs → Some-of P (xs ++ ys)
Some-first P [] ys h = absurd h
Some-first P (x ∷ xs) ys (inl h) = inl h
Some-first P (x ∷ xs) ys (inr h) = inr (Some-first P xs ys h)

pub Some-second : {X : Type 0} (P : X → Type 0) (xs ys : List X) → Some-of P ys → Some-of P (xs ++ ys)
Some-second P [] ys h = h
Some-second P (x ∷ xs) ys h = inr (Some-second P xs ys h)

-- a member of the concatenation is a member of one of the lists
pub Some-split : {X : Type 0} (P : X → Type 0) (xs ys : List X) → Some-of P (xs ++ ys) → Some-of P xs ⊎ Some-of P ys
Some-split P [] ys h = inr h
Some-split P (x ∷ xs) ys (inl h) = inl (inl h)
Some-split P (x ∷ xs) ys (inr h) = elim (Some-split P xs ys h) [ inl a ↦ inl (inr a) | inr b ↦ inr b ]

-- the first items of a list of forms
pub data FirstItem : Type 0 where
  starts : TokenTest → List Form → FirstItem  -- a token of this kind, and then these forms
  ends : FirstItem  -- nothing: the list is empty
  unopened : List Form → FirstItem  -- as this list of forms, which was not opened

-- the lists that a head derives
abbrev pub HeadReads : Dialect → List ℕ → FirstItem → Type 0
HeadReads d [] (starts k fs) = ⊥
HeadReads d (t ∷ w) (starts k fs) = IsTrue (is_of_kind k (d.class_of t)) × LeftDerivation d fs w
HeadReads d w ends = w ≡ []
HeadReads d w (unopened fs) = LeftDerivation d fs w

-- the form of a name, except for the added words
unfoldable pub opened : Dialect → Nonterminal → Option Form
opened d (Added s l) = None
opened d n = Some (rule d n)

-- an expanded name has the form of its rule
pub opened-rule : (d : Dialect) (n : Nonterminal) (f : Form) → opened d n ≡ Some f → rule d n ≡ f
unfolding opened
opened-rule d (Added s l) f e = cc
opened-rule d Place_name f e = cc
opened-rule d n f e = cc

-- the heads of the form of a name, or the name as its own head
abbrev pub by_start_symbol : Option Form → FirstItem → (Form → List FirstItem) → List FirstItem
by_start_symbol None h then = h ∷ []
by_start_symbol (Some f) h then = then f

-- the first items of a list of forms; n bounds how often names are expanded
unfoldable pub heads : Dialect → ℕ → List Form → List FirstItem
heads d n [] = ends ∷ []
heads d zero (f ∷ fs) = unopened (f ∷ fs) ∷ []
heads d (suc n) (one k ∷ fs) = starts k fs ∷ []
heads d (suc n) (never ∷ fs) = []
heads d (suc n) (empty ∷ fs) = heads d n fs
heads d (suc n) ((f · g) ∷ fs) = heads d n (f ∷ g ∷ fs)
heads d (suc n) ((f ∣ g) ∷ fs) = heads d n (f ∷ fs) ++ heads d n (g ∷ fs)
heads d (suc n) (many f ∷ fs) = heads d n fs ++ heads d n (f ∷ many f ∷ fs)
heads d (suc n) (group f ∷ fs) = starts (is Bra) (f ∷ one (is Ket) ∷ fs) ∷ []
heads d (suc n) (named m ∷ fs) = by_start_symbol (opened d m) (unopened (named m ∷ fs)) (λ f. heads d n (f ∷ fs))

-- an unopened head derives what its forms derive
unopened-holds : (d : Dialect) (w : List ℕ) (fs : List Form) → LeftDerivation d fs w → HeadReads d w (unopened fs)
unopened-holds d [] fs r = r
unopened-holds d (t ∷ w) fs r = r

unopened-reads : (d : Dialect) (w : List ℕ) (fs : List Form) → HeadReads d w (unopened fs) → LeftDerivation d fs w
unopened-reads d [] fs r = r
unopened-reads d (t ∷ w) fs r = r

-- the heads of a name: every derivation is by one of them,
by_start_symbol-covers : (d : Dialect) (n : ℕ) (m : Nonterminal) (fs : List Form) (w : List ℕ) (o : Option Form) →
    ((f : Form) → o ≡ Some f → rule d m ≡ f) →
    ((f : Form) → LeftDerivation d (f ∷ fs) w → Some-of (HeadReads d w) (heads d n (f ∷ fs))) →
    LeftDerivation d (named m ∷ fs) w → Some-of (HeadReads d w) (by_start_symbol o (unopened (named m ∷ fs)) (λ f. heads d n
    (f ∷ fs)))
by_start_symbol-covers d n m fs w None k go r = inl (unopened-holds d w (named m ∷ fs) r)
by_start_symbol-covers d n m fs w (Some f) k go (unfold' r) = go f (subst (λ (g : Form). LeftDerivation d (g ∷ fs) w) (k f refl) r)

-- and each derives only such lists
by_start_symbol-sound : (d : Dialect) (n : ℕ) (m : Nonterminal) (fs : List Form) (w : List ℕ) (o : Option Form) →
    ((f : Form) → o ≡ Some f → rule d m ≡ f) →
    ((f : Form) → Some-of (HeadReads d w) (heads d n (f ∷ fs)) → LeftDerivation d (f ∷ fs) w) →
    Some-of (HeadReads d w) (by_start_symbol o (unopened (named m ∷ fs)) (λ f. heads d n (f ∷ fs))) → LeftDerivation d
    (named m ∷ fs) w
by_start_symbol-sound d n m fs w None k go (inl h) = unopened-reads d w (named m ∷ fs) h
by_start_symbol-sound d n m fs w None k go (inr e) = absurd e
by_start_symbol-sound d n m fs w (Some f) k go h =
    unfold' (subst (λ (g : Form). LeftDerivation d (g ∷ fs) w) (sym (k f refl)) (go f h))

-- every derivation is by one of the heads
pub heads-cover : (d : Dialect) (n : ℕ) (fs : List Form) (w : List ℕ) → LeftDerivation d fs w →
    Some-of (HeadReads d w) (heads d n fs)
unfolding heads
heads-cover d n [] [] r = inl refl
heads-cover d n [] (t ∷ w) r = elim r [ ]
heads-cover d zero (f ∷ fs) [] r = inl r
heads-cover d zero (f ∷ fs) (t ∷ w) r = inl r
heads-cover d (suc n) (one k ∷ fs) w (take h r) = inl (h, r)
heads-cover d (suc n) (never ∷ fs) w r = elim r [ ]
heads-cover d (suc n) (empty ∷ fs) w (pass r) = heads-cover d n fs w r
heads-cover d (suc n) ((f · g) ∷ fs) w (open' r) = heads-cover d n (f ∷ g ∷ fs) w r
heads-cover d (suc n) ((f ∣ g) ∷ fs) w (left r) =
    Some-first _ (heads d n (f ∷ fs)) (heads d n (g ∷ fs)) (heads-cover d n (f ∷ fs) w r)
heads-cover d (suc n) ((f ∣ g) ∷ fs) w (right r) =
    Some-second _ (heads d n (f ∷ fs)) (heads d n (g ∷ fs)) (heads-cover d n (g ∷ fs) w r)
heads-cover d (suc n) (many f ∷ fs) w (stop r) =
    Some-first _ (heads d n fs) (heads d n (f ∷ many f ∷ fs)) (heads-cover d n fs w r)
heads-cover d (suc n) (many f ∷ fs) w (again r) =
    Some-second _ (heads d n fs) (heads d n (f ∷ many f ∷ fs)) (heads-cover d n (f ∷ many f ∷ fs) w r)
heads-cover d (suc n) (group f ∷ fs) w (enter b r) = inl (b, r)
heads-cover d (suc n) (named m ∷ fs) w r =
    by_start_symbol-covers d n m fs w (opened d m) (opened-rule d m) (λ f h. heads-cover d n (f ∷ fs) w h) r

-- and what a head derives is a derivation
pub heads-sound : (d : Dialect) (n : ℕ) (fs : List Form) (w : List ℕ) → Some-of (HeadReads d w) (heads d n fs) →
    LeftDerivation d fs w
unfolding heads
heads-sound d n [] [] h = end
heads-sound d n [] (t ∷ w) (inl e) = cc
heads-sound d n [] (t ∷ w) (inr e) = absurd e
heads-sound d zero (f ∷ fs) [] (inl r) = r
heads-sound d zero (f ∷ fs) [] (inr e) = absurd e
heads-sound d zero (f ∷ fs) (t ∷ w) (inl r) = r
heads-sound d zero (f ∷ fs) (t ∷ w) (inr e) = absurd e
heads-sound d (suc n) (one k ∷ fs) [] (inl r) = absurd r
heads-sound d (suc n) (one k ∷ fs) [] (inr r) = absurd r
heads-sound d (suc n) (one k ∷ fs) (t ∷ w) (inl r) = take r.0 r.1
heads-sound d (suc n) (one k ∷ fs) (t ∷ w) (inr r) = absurd r
heads-sound d (suc n) (never ∷ fs) w h = absurd h
heads-sound d (suc n) (empty ∷ fs) w h = pass (heads-sound d n fs w h)
heads-sound d (suc n) ((f · g) ∷ fs) w h = open' (heads-sound d n (f ∷ g ∷ fs) w h)
heads-sound d (suc n) ((f ∣ g) ∷ fs) w h =
    elim (Some-split _ (heads d n (f ∷ fs)) (heads d n (g ∷ fs)) h) [
      | inl a ↦ left (heads-sound d n (f ∷ fs) w a)
      | inr a ↦ right (heads-sound d n (g ∷ fs) w a)
    ]
heads-sound d (suc n) (many f ∷ fs) w h =
    elim (Some-split _ (heads d n fs) (heads d n (f ∷ many f ∷ fs)) h) [
      | inl a ↦ stop (heads-sound d n fs w a)
      | inr a ↦ again (heads-sound d n (f ∷ many f ∷ fs) w a)
    ]
heads-sound d (suc n) (group f ∷ fs) [] (inl r) = absurd r
heads-sound d (suc n) (group f ∷ fs) [] (inr r) = absurd r
heads-sound d (suc n) (group f ∷ fs) (t ∷ w) (inl r) = enter r.0 r.1
heads-sound d (suc n) (group f ∷ fs) (t ∷ w) (inr r) = absurd r
heads-sound d (suc n) (named m ∷ fs) w h =
    by_start_symbol-sound d n m fs w (opened d m) (opened-rule d m) (λ f k. heads-sound d n (f ∷ fs) w k) h
