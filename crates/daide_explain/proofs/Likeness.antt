-- Replacement of a token by a similar one: by one of the same class, or, for a token of an unknown category, by any
-- token but a bracket.
use Rattle.std.proofs.Common.{◌≢◌, ◌-◌, max, nat_le, map, cond, if◌then◌else◌}
use Rattle.std.proofs.lemmas.Bool.Decides.{nat_tests}
use Rattle.daide_explain.proofs.Common.{◌≡◌, ℕ, suc, ◌+◌, ◌≤◌, ◌==◌, Bool, true, false, not, ◌&&◌, List, [], ◌∷◌, ◌++◌}
use Rattle.daide_explain.proofs.Common.{refl, sym, ◌∙◌, ap, subst, arith, ◌⊎◌, inl, inr, eqb-true, eq-eqb, Class, bra}
use Rattle.daide_explain.proofs.Common.{ket, prn, class_of, Level, L60, Side2, Client, bras, kets, excess, prefixes}
use Rattle.daide_explain.proofs.Common.{greatest, depth_of, dialect_from, dialect_of, IsMessageOver, Words, is_bra}
use Rattle.daide_explain.proofs.Common.{is_ket, are_free, free-codes, keeps, laws_over, IsAllowedPrefix}
use Rattle.daide_token.specs.declared.class.Class.TheVariants.{Bra, Ket, Prn, Alien, Word}
use Rattle.daide_token.specs.ClassNumbers.{same_class}
use Rattle.daide_token.proofs.ClassLaws.{only_token_of, class_of-prn}
use Rattle.daide_token.proofs.ClassNumbers.{told-apart}
use Rattle.daide_grammar.specs.declared.side.Side2.TheVariants.{ServerEnd}
use Rattle.daide_grammar.specs.Level.{level_number}
use Rattle.daide_grammar.specs.Forms.{Dialect, TokenTest, is, any_but_brackets, Accepts, Form, one, never, empty, ◌·◌, ◌∣◌, many, group}
use Rattle.daide_grammar.specs.Forms.{named, tok, from_level, Nonterminal, Added, Arrangement_name, Flat_name, Fact_name, Press_name}
use Rattle.daide_grammar.specs.Forms.{Send_name, Request_name, Slot, Press_slot, Arrangement_slot, Flat_slot}
use Rattle.daide_grammar.specs.Matches.{rule, Matches, token, nothing, both, first, second, no_more, one_more, bracketed, by_name}
use Rattle.daide_grammar.specs.Paired.{IsPrnWrapped}
use Rattle.daide_grammar.specs.SideMessages.{message_form}
use Rattle.daide_grammar.specs.Words.{WordSlot, press_word, arrangement_word, WordOperand, an_arrangement, operand_in}
use Rattle.daide_grammar.specs.Words.{stands_in, word_form}
use Rattle.daide_grammar.proofs.Counting.{greatest_prefixes-snoc, bras-snoc, kets-snoc}

-- ---- no form names tokens of an unknown category

-- no single-token test of a form names the class of an unknown category
unfoldable names_known : Form → Bool
names_known (one (is c)) = not (same_class c Alien)
names_known (one any_but_brackets) = true
names_known never = true
names_known empty = true
names_known (f · g) = names_known f && names_known g
names_known (f ∣ g) = names_known f && names_known g
names_known (many f) = names_known f
names_known (group f) = names_known f
names_known (named n) = true

left_of : (a b : Bool) → (a && b) ≡ true → a ≡ true
left_of true b e = refl
left_of false b e = absurd cc

right_of : (a b : Bool) → (a && b) ≡ true → b ≡ true
right_of true b e = e
right_of false b e = absurd cc

both_true : (a b : Bool) → a ≡ true → b ≡ true → (a && b) ≡ true
both_true true true e f = refl
both_true true false e f = absurd cc
both_true false b e f = absurd cc

rules_known : (d : Dialect) → ((s : Slot) (l : Level) → names_known (d.added s l) ≡ true) → (n : Nonterminal) →
    names_known (rule d n) ≡ true
unfolding names_known
rules_known d h (Added s l) = h s l
rules_known d h (Arrangement_name L60) = refl
rules_known d h (Flat_name L60) = refl
rules_known d h (Fact_name L60) = refl
rules_known d h (Press_name L60) = refl
rules_known d h (Send_name L60) = refl
rules_known d h (Request_name L60) = refl
rules_known d h _ = refl

messages_known : (side : Side2) (l : Level) → names_known (message_form side l) ≡ true
unfolding names_known
messages_known Client L60 = refl
messages_known ServerEnd L60 = refl
messages_known _ _ = refl

operand_known : (operand : WordOperand) (s : Slot) (l : Level) → names_known (operand_in operand s l) ≡ true
unfolding names_known
operand_known an_arrangement Press_slot l = refl
operand_known an_arrangement Arrangement_slot l = refl
operand_known an_arrangement Flat_slot l = refl
operand_known _ s l = refl

slot_known : (slot : WordSlot) (s : Slot) (f : Form) → names_known f ≡ true → names_known (stands_in slot s f) ≡ true
unfolding names_known
slot_known press_word Press_slot f h = h
slot_known press_word Arrangement_slot f h = refl
slot_known press_word Flat_slot f h = refl
slot_known arrangement_word Press_slot f h = refl
slot_known arrangement_word Arrangement_slot f h = h
slot_known arrangement_word Flat_slot f h = h

from_known : (a l : Level) (f : Form) → names_known f ≡ true → names_known (from_level a l f) ≡ true
unfolding names_known
from_known a l f h = go (nat_le (level_number a) (level_number l))
  where
    go : (b : Bool) → names_known (elim b [ true ↦ f | false ↦ never ]) ≡ true
    go true = h
    go false = refl

word_known : (place : ℕ) → not (same_class (Word place) Alien) ≡ true
word_known place = grind (arith, nat_tests)

form_known : (place : ℕ) (f : Form) → names_known f ≡ true → names_known (tok (Word place) · group f) ≡ true
unfolding names_known
form_known place f h = both_true (not (same_class (Word place) Alien)) (names_known f) (word_known place) h

words_known : (place : ℕ) (words : Words) (s : Slot) (l : Level) →
    names_known ((dialect_from place words).added s l) ≡ true
unfolding names_known
words_known place [] s l = refl
words_known place (word ∷ words) s l =
    both_true (names_known (word_form place word s l)) (names_known ((dialect_from (suc place) words).added s l))
    (slot_known word.slot s (from_level word.level l (tok (Word place) · group (operand_in word.operand s l)))
    (from_known word.level l (tok (Word place) · group (operand_in word.operand s l))
    (form_known place (operand_in word.operand s l) (operand_known word.operand s l))))
    (words_known (suc place) words s l)

-- ---- lists of similar tokens

module _ (d : Dialect) where
  -- the second token may replace the first
  abbrev pub IsLike : ℕ → ℕ → Type 0
  IsLike x y =
      (d.class_of x ≡ d.class_of y) ⊎ ((d.class_of x ≡ Alien) × (d.class_of y ≢ Bra) × (d.class_of y ≢ Ket))

  -- two lists with similar tokens at each index
  abbrev pub AreLike : List ℕ → List ℕ → Type 0
  AreLike [] [] = Unit {0}
  AreLike [] (y ∷ n) = ⊥
  AreLike (x ∷ m) [] = ⊥
  AreLike (x ∷ m) (y ∷ n) = IsLike x y × AreLike m n

  -- a list in two parts
  pub record Parts (u v n : List ℕ) : Type 0 where
    pub left : List ℕ
    pub right : List ℕ
    pub whole : n ≡ left ++ right
    pub left_same : AreLike u left
    pub right_same : AreLike v right

  pub parts : (u v n : List ℕ) → AreLike (u ++ v) n → Parts u v n
  parts [] v n h = record { left = []; right = n; whole = refl; left_same = tt; right_same = h }
  parts (x ∷ u) v [] h = absurd h
  parts (x ∷ u) v (y ∷ n) h =
      let rest = parts u v n h.1 in
      record {
        left = y ∷ rest.left;
        right = rest.right;
        whole = ap (λ (l : List ℕ). y ∷ l) rest.whole;
        left_same = (h.0, rest.left_same);
        right_same = rest.right_same;
      }

  pub same_self : (m : List ℕ) → AreLike m m
  same_self [] = tt
  same_self (x ∷ m) = (inl refl, same_self m)

  pub same_append : (a b u v : List ℕ) → AreLike a b → AreLike u v → AreLike (a ++ u) (b ++ v)
  same_append [] [] u v h k = k
  same_append [] (y ∷ b) u v h k = absurd h
  same_append (x ∷ a) [] u v h k = absurd h
  same_append (x ∷ a) (y ∷ b) u v h k = (h.0, same_append a b u v h.1 k)

  -- a test that accepts a token accepts each similar one
  accepted : (k : TokenTest) (x y : ℕ) → names_known (one k) ≡ true → IsLike x y → Accepts k (d.class_of x) →
      Accepts k (d.class_of y)
  unfolding names_known
  accepted k x y known (inl e) h = subst (Accepts k) e h
  accepted (is c) x y known (inr (unknown, no_bra, no_ket)) h =
      let same : same_class c Alien ≡ true = (told-apart c Alien).1 (sym h ∙ unknown) in
      absurd (let f : not true ≡ true = ap not (sym same) ∙ known in cc)
  accepted any_but_brackets x y known (inr (unknown, no_bra, no_ket)) h = (no_bra, no_ket)

  -- the last of the tokens
  last_one : (k : ℕ) (n : List ℕ) → AreLike (k ∷ []) n → (y : ℕ) × (n ≡ y ∷ []) × IsLike k y
  last_one k [] h = absurd h
  last_one k (y ∷ []) h = (y, refl, h.0)
  last_one k (y ∷ z ∷ n) h = absurd h.1

  none_left : (n : List ℕ) → AreLike [] n → n ≡ []
  none_left [] h = refl
  none_left (y ∷ n) h = absurd h

  matches_along : ((n : Nonterminal) → names_known (rule d n) ≡ true) → (f : Form) (m n : List ℕ) →
      names_known f ≡ true → Matches d f m → AreLike m n → Matches d f n
  unfolding names_known
  matches_along all (one k) m n e (token {t = t} h) same =
      let l = last_one t n same in
      subst (Matches d (one k)) (sym l.1) (token (accepted k t l.0 e l.2 h))
  matches_along all never m n e h same = elim h [ ]
  matches_along all empty m n e nothing same = subst (Matches d empty) (sym (none_left n same)) nothing
  matches_along all (f · g) m n e (both {u = u} {v = v} x y) same =
      let p = parts u v n same in
      subst (Matches d (f · g)) (sym p.whole)
      (both (matches_along all f u p.left (left_of (names_known f) (names_known g) e) x p.left_same)
      (matches_along all g v p.right (right_of (names_known f) (names_known g) e) y p.right_same))
  matches_along all (f ∣ g) m n e (first x) same =
      first (matches_along all f m n (left_of (names_known f) (names_known g) e) x same)
  matches_along all (f ∣ g) m n e (second x) same =
      second (matches_along all g m n (right_of (names_known f) (names_known g) e) x same)
  matches_along all (many f) m n e no_more same = subst (Matches d (many f)) (sym (none_left n same)) no_more
  matches_along all (many f) m n e (one_more {u = u} {v = v} x y) same =
      let p = parts u v n same in
      subst (Matches d (many f)) (sym p.whole)
      (one_more (matches_along all f u p.left e x p.left_same) (matches_along all (many f) v p.right e y p.right_same))
  matches_along all (group f) m [] e (bracketed {u = u} b k x y z) same = absurd same
  matches_along all (group f) m (o ∷ n) e (bracketed {u = u} b k x y z) same =
      let p = parts u (k ∷ []) n same.1 in
      let l = last_one k p.right p.right_same in
      subst (Matches d (group f)) (ap (λ (w : List ℕ). o ∷ w) (sym (p.whole ∙ ap (λ (w : List ℕ). p.left ++ w) l.1)))
      (bracketed o l.0 (accepted (is Bra) b o refl same.0 x) (matches_along all f u p.left e y p.left_same)
      (accepted (is Ket) k l.0 refl l.2 z))
  matches_along all (named n') m n e (by_name x) same =
      by_name (matches_along all (rule d n') m n (all n') x same)

module _ (words : Words) (free : are_free words ≡ true) where
  -- PRN is the only token of its class
  prn_from : (j : ℕ) (ws : Words) (t : ℕ) → (dialect_from j ws).class_of t ≡ Prn → class_of t ≡ Prn
  prn_from j [] t e = e
  prn_from j (w ∷ ws) t e = go (t == w.code) (prn_from (suc j) ws t) e
    where
      go : (b : Bool) → ((dialect_from (suc j) ws).class_of t ≡ Prn → class_of t ≡ Prn) →
          ◌≡◌ {A = Class} (if b then Word j else (dialect_from (suc j) ws).class_of t) Prn → class_of t ≡ Prn
      go true next e = absurd cc
      go false next e = next e

  prn_class : (dialect_of words).class_of prn ≡ Prn
  prn_class = keeps 0 words prn (free-codes words Prn free (omega arith)) ∙ class_of-prn

  bra_class : (dialect_of words).class_of bra ≡ Bra
  bra_class = ((laws_over words free).only_bra bra).1 refl

  ket_class : (dialect_of words).class_of ket ≡ Ket
  ket_class = ((laws_over words free).only_ket ket).1 refl

  -- a token that may replace PRN, or a bracket, is that token
  only_prn : (t : ℕ) → IsLike (dialect_of words) prn t → t ≡ prn
  only_prn t (inl e) = only_token_of Prn t refl (prn_from 0 words t (sym e ∙ prn_class))
  only_prn t (inr (unknown, no_bra, no_ket)) = absurd (let f : Prn ≡ Alien = sym prn_class ∙ unknown in cc)

  only_bra : (t : ℕ) → IsLike (dialect_of words) bra t → t ≡ bra
  only_bra t (inl e) = ((laws_over words free).only_bra t).0 (sym e ∙ bra_class)
  only_bra t (inr (unknown, no_bra, no_ket)) = absurd (let f : Bra ≡ Alien = sym bra_class ∙ unknown in cc)

  only_ket : (t : ℕ) → IsLike (dialect_of words) ket t → t ≡ ket
  only_ket t (inl e) = ((laws_over words free).only_ket t).0 (sym e ∙ ket_class)
  only_ket t (inr (unknown, no_bra, no_ket)) = absurd (let f : Ket ≡ Alien = sym ket_class ∙ unknown in cc)

  -- a bracket may replace no other token
  bra_replaces : (t : ℕ) → IsLike (dialect_of words) t bra → t ≡ bra
  bra_replaces t (inl e) = ((laws_over words free).only_bra t).0 (e ∙ bra_class)
  bra_replaces t (inr (unknown, no_bra, no_ket)) = absurd (no_bra bra_class)

  ket_replaces : (t : ℕ) → IsLike (dialect_of words) t ket → t ≡ ket
  ket_replaces t (inl e) = ((laws_over words free).only_ket t).0 (e ∙ ket_class)
  ket_replaces t (inr (unknown, no_bra, no_ket)) = absurd (no_ket ket_class)

  -- a report with similar tokens is a report
  report_along : (m n : List ℕ) → IsPrnWrapped m → AreLike (dialect_of words) m n → IsPrnWrapped n
  report_along m n (x, e) same =
      go n (subst (λ (l : List ℕ). AreLike (dialect_of words) l n) e same)
    where
      go : (n : List ℕ) → AreLike (dialect_of words) (prn ∷ bra ∷ x ++ ket ∷ []) n → IsPrnWrapped n
      go [] h = absurd h
      go (a ∷ []) h = absurd h.1
      go (a ∷ b ∷ n) h =
          let p = parts (dialect_of words) x (ket ∷ []) n h.1.1 in
          let l = last_one (dialect_of words) ket p.right p.right_same in
          let end : p.right ≡ ket ∷ [] = l.1 ∙ ap (λ (t : ℕ). t ∷ []) (only_ket l.0 l.2) in
          let rest : n ≡ p.left ++ ket ∷ [] = p.whole ∙ ap (λ (w : List ℕ). p.left ++ w) end in
          let front : a ∷ b ∷ n ≡ prn ∷ bra ∷ n =
          ap (λ (t : ℕ). t ∷ b ∷ n) (only_prn a h.0) ∙ ap (λ (t : ℕ). prn ∷ t ∷ n) (only_bra b h.1.0) in
          (p.left, front ∙ ap (λ (w : List ℕ). prn ∷ bra ∷ w) rest)

  message_along : (end : Side2) (l : Level) (m n : List ℕ) → AreLike (dialect_of words) m n →
      IsMessageOver words end l m → IsMessageOver words end l n
  message_along end l m n same (inl report) = inl (report_along m n report same)
  message_along end l m n same (inr h) = inr (matches_along (dialect_of words) (rules_known (dialect_of words) (words_known 0 words)) (message_form end l) m n
      (messages_known end l) h same)

  -- of two similar tokens both are the same bracket, or neither is
  test_along : (b t u : ℕ) → (t ≡ b → u ≡ b) → (u ≡ b → t ≡ b) → (t == b) ≡ (u == b)
  test_along b t u there back = go (t == b) (u == b) refl refl
    where
      go : (p q : Bool) → (t == b) ≡ p → (u == b) ≡ q → p ≡ q
      go true true f g = refl
      go false false f g = refl
      go true false f g = absurd (let e : (u == b) ≡ true = eq-eqb u b (there (eqb-true t b f)) in cc)
      go false true f g = absurd (let e : (t == b) ≡ true = eq-eqb t b (back (eqb-true u b g)) in cc)

  -- replacing a token does not increase the depth
  depth_along : (p : List ℕ) (t u : ℕ) → IsLike (dialect_of words) t u → depth_of (p ++ u ∷ []) ≤ depth_of (p ++ t ∷ [])
  depth_along p t u like = by_begin p
    where
      opens : is_bra t ≡ is_bra u
      opens =
          test_along bra t u
          (λ e. only_bra u (subst (λ (x : ℕ). IsLike (dialect_of words) x u) e like))
          (λ e. bra_replaces t (subst (λ (x : ℕ). IsLike (dialect_of words) t x) e like))

      closes : is_ket t ≡ is_ket u
      closes =
          test_along ket t u
          (λ e. only_ket u (subst (λ (x : ℕ). IsLike (dialect_of words) x u) e like))
          (λ e. ket_replaces t (subst (λ (x : ℕ). IsLike (dialect_of words) t x) e like))

      same_excess : (p : List ℕ) → excess (p ++ t ∷ []) ≡ excess (p ++ u ∷ [])
      same_excess p =
          let b : bras (p ++ t ∷ []) ≡ bras (p ++ u ∷ []) =
          bras-snoc p t ∙ (ap (λ (x : Bool). bras p + cond x 1 0) opens ∙ sym (bras-snoc p u)) in
          let k : kets (p ++ t ∷ []) ≡ kets (p ++ u ∷ []) =
          kets-snoc p t ∙ (ap (λ (x : Bool). kets p + cond x 1 0) closes ∙ sym (kets-snoc p u)) in
          ap (λ (x : ℕ). x - kets (p ++ t ∷ [])) b ∙ ap (λ (x : ℕ). bras (p ++ u ∷ []) - x) k

      same_greatest : (p : List ℕ) →
          greatest (map excess (prefixes (p ++ t ∷ []))) ≡ greatest (map excess (prefixes (p ++ u ∷ [])))
      same_greatest p =
          greatest_prefixes-snoc p t
          ∙ (ap (λ (x : ℕ). max (greatest (map excess (prefixes p))) x) (same_excess p)
          ∙ sym (greatest_prefixes-snoc p u))

      by_test : (a b : Bool) (x y : ℕ) → x ≡ y → (a ≡ true → b ≡ true) → ◌≤◌ (if b then 0 else y) (if a then 0 else x)
      by_test a true x y e h = omega arith
      by_test true false x y e h = absurd (let f : false ≡ true = h refl in cc)
      by_test false false x y e h = omega arith

      by_begin : (p : List ℕ) → depth_of (p ++ u ∷ []) ≤ depth_of (p ++ t ∷ [])
      by_begin [] =
          by_test (t == prn) (u == prn) _ _ (same_greatest [])
          (λ e. eq-eqb u prn (only_prn u (subst (λ (x : ℕ). IsLike (dialect_of words) x u) (eqb-true t prn e) like)))
      by_begin (x ∷ p) = by_test (x == prn) (x == prn) _ _ (same_greatest (x ∷ p)) (λ e. e)

  -- a token that may replace an expected one is expected
  pub expected_along : (end : Side2) (l : Level) (max_depth : ℕ) (p : List ℕ) (t u : ℕ) →
      IsLike (dialect_of words) t u →
      IsAllowedPrefix (IsMessageOver words end l) max_depth (p ++ t ∷ []) →
      IsAllowedPrefix (IsMessageOver words end l) max_depth (p ++ u ∷ [])
  expected_along end l max_depth p t u like h =
      let d = dialect_of words in
      let r = h.viable.0 in
      let fronts : AreLike d (p ++ t ∷ []) (p ++ u ∷ []) =
      same_append d p p (t ∷ []) (u ∷ []) (same_self d p) (like, tt) in
      record {
        viable = (
          r,
          message_along end l ((p ++ t ∷ []) ++ r) ((p ++ u ∷ []) ++ r)
              (same_append d (p ++ t ∷ []) (p ++ u ∷ []) r r fronts (same_self d r)) h.viable.1,
        );
        shallow = (let less = depth_along p t u like in let most = h.shallow in omega arith);
      }
