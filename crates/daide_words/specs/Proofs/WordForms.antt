-- The forms of added words: a list that begins with a word continues with the word's operand.
use Rattle.std.proofs.Common.{◌≡◌, ℕ, suc, ◌+◌, ◌≤◌, Bool, true, false, ◌&&◌, nat_eq, nat_le, List, [], ◌∷◌, Option}
use Rattle.std.proofs.Common.{Some}
use Rattle.std.proofs.Common.{◌⊎◌, inl, inr, ◌↔◌, IsTrue, refl, sym, ◌∙◌, ap, subst, arith, ltb-true}
use Rattle.std.specs.List.{list_any, list_all}
use Rattle.std.proofs.lemmas.Bool.{eqb-true, eq-eqb}
use Rattle.std.proofs.lemmas.Bool.Decides.{nat_tests}
use Rattle.daide_token.specs.declared.class.Class.{Class}
use Rattle.daide_token.specs.declared.class.Class.TheVariants.{Word}
use Rattle.daide_grammar.specs.declared.level.Level.{Level}
use Rattle.daide_grammar.specs.declared.symbol.Sym.{Sym}
use Rattle.daide_grammar.specs.Level.{level_number}
use Rattle.daide_grammar.specs.Classes.{class_number, own_classes}
use Rattle.daide_grammar.specs.Forms.{TokenTest, is, any_but_brackets, Slot, Press_slot, Arrangement_slot, Flat_slot, Added}
use Rattle.daide_grammar.specs.Forms.{Form}
use Rattle.daide_grammar.specs.Forms.{one, never, ◌·◌, tok, group, named, Dialect}
use Rattle.daide_grammar.specs.Matches.{Matches, token, both, first, second, by_name}
use Rattle.daide_grammar.specs.Table.Symbols.{form_of, Alternative, entries, slot_of, is_of_kind}
use Rattle.daide_grammar.specs.SideMessages.{dialect_from}
use Rattle.daide_grammar.specs.Table.Languages.{SymbolMatchesIn}
use Rattle.daide_grammar.specs.Words.{AddedWord, Words, WordSlot, press_word, arrangement_word, operand_in, stands_in}
use Rattle.daide_grammar.specs.Words.{word_form}
use Rattle.daide_grammar.specs.Proofs.Reading.{LeftDerivation, take, open', FirstItem, starts, ends, unopened, HeadReads, heads}
use Rattle.daide_grammar.specs.Proofs.Reading.{Some-of}
use Rattle.daide_grammar.specs.Proofs.Reading.{MatchAll_from_Reads, Reads_from_MatchAll}
use Rattle.daide_grammar.specs.Proofs.Alternatives.{same_level, same_level-means, same_kind, same_kind-sound, both-pass}
use Rattle.daide_grammar.specs.Proofs.Alternatives.{either-passes, alone, unalone}
use Rattle.daide_grammar.specs.Proofs.RightEntries.{is_added, same_slot, known, is_unopened, is_plain, added_right}
use Rattle.daide_grammar.specs.Proofs.MovesAgree.{right_parts, to_heads, from_heads, added-reads, same_slot-means}
use Rattle.daide_words.specs.Table.OverWords.{makes, stands, this_word, word_from}

-- ---- a word and its operand

-- a token, and then a form
pub token-then : (d : Dialect) (k : TokenTest) (f : Form) (t : ℕ) (w : List ℕ) → LeftDerivation d ((one k · f) ∷ []) (t ∷ w) →
    IsTrue (is_of_kind k (d.class_of t)) × Matches d f w
token-then d k f t w (open' (take h r)) = (h, unalone d f w (MatchAll_from_Reads d r))

-- and the empty list does not match
pub no-token : (d : Dialect) (k : TokenTest) (f : Form) → LeftDerivation d ((one k · f) ∷ []) [] → ⊥
no-token d k f (open' r) = elim r [ ]

-- a list that begins with a word and matches a word's form matches the form of that word
pub word-then : (d : Dialect) (j k : ℕ) (f : Form) (t : ℕ) (w : List ℕ) → d.class_of t ≡ Word k →
    Matches d (tok (Word j) · f) (t ∷ w) → (j ≡ k) × Matches d f w
word-then d j k f t w e m =
    let form = tok (Word j) · f in
    let h = token-then d (is (Word j)) f t w (Reads_from_MatchAll d (form ∷ []) (t ∷ w) (alone d form (t ∷ w) m)) in
    let q = eqb-true (own_classes + j) (own_classes + k) (subst (λ (c : Class). is_of_kind (is (Word j)) c ≡ true) e h.0) in
    (omega (arith, q), h.1)

word-matches : (d : Dialect) (j k : ℕ) (f : Form) (t : ℕ) (w : List ℕ) → d.class_of t ≡ Word k → j ≡ k →
    Matches d f w → Matches d (tok (Word j) · f) (t ∷ w)
word-matches d j k f t w e q m =
    both {u = t ∷ []} {v = w}
    (token (e ∙ ap Word (sym q))) m

-- a form that is allowed from a level on
from-passes : (d : Dialect) (b : Bool) (f : Form) (w : List ℕ) → Matches d (elim b [ true ↦ f | false ↦ never ]) w →
    (b ≡ true) × Matches d f w
from-passes d true f w m = (refl, m)
from-passes d false f w m = elim m [ ]

from-true : (d : Dialect) (b : Bool) (f : Form) (w : List ℕ) → b ≡ true → Matches d f w →
    Matches d (elim b [ true ↦ f | false ↦ never ]) w
from-true d true f w e m = m
from-true d false f w e m = cc

-- and in a slot
pub stands-passes : (d : Dialect) (made : WordSlot) (s : Slot) (b : Bool) (f : Form) (w : List ℕ) →
    Matches d (stands_in made s (elim b [ true ↦ f | false ↦ never ])) w → ((makes made s && b) ≡ true) × Matches d f w
stands-passes d press_word Press_slot b f w m = from-passes d b f w m
stands-passes d press_word Arrangement_slot b f w m = elim m [ ]
stands-passes d press_word Flat_slot b f w m = elim m [ ]
stands-passes d arrangement_word Press_slot b f w m = elim m [ ]
stands-passes d arrangement_word Arrangement_slot b f w m = from-passes d b f w m
stands-passes d arrangement_word Flat_slot b f w m = from-passes d b f w m

stands-true : (d : Dialect) (made : WordSlot) (s : Slot) (b : Bool) (f : Form) (w : List ℕ) →
    (makes made s && b) ≡ true →
    Matches d f w → Matches d (stands_in made s (elim b [ true ↦ f | false ↦ never ])) w
stands-true d press_word Press_slot b f w e m = from-true d b f w e m
stands-true d press_word Arrangement_slot b f w e m = cc
stands-true d press_word Flat_slot b f w e m = cc
stands-true d arrangement_word Press_slot b f w e m = cc
stands-true d arrangement_word Arrangement_slot b f w e m = from-true d b f w e m
stands-true d arrangement_word Flat_slot b f w e m = from-true d b f w e m

-- ---- the forms of the words

-- the word at the front of a list
pub record StartsWithWord (d : Dialect) (k j : ℕ) (words : Words) (s : Slot) (l : Level) (w : List ℕ) : Type 0 where
  pub word : AddedWord
  pub found : word_from k j words ≡ Some word
  pub stands_so : stands word s l ≡ true
  pub operand : Matches d (group (operand_in word.operand s l)) w
  pub later : j ≤ k

this_word-is : (b : Bool) (x : AddedWord) (o : Option AddedWord) → b ≡ true → this_word b x o ≡ Some x
this_word-is true x o e = refl
this_word-is false x o e = cc

this_word-not : (b : Bool) (x : AddedWord) (o : Option AddedWord) → b ≡ false → this_word b x o ≡ o
this_word-not true x o e = cc
this_word-not false x o e = refl

this_word-either : (b : Bool) (x y : AddedWord) (o : Option AddedWord) → this_word b x o ≡ Some y →
    ((b ≡ true) × (x ≡ y)) ⊎ (o ≡ Some y)
this_word-either true x y o e = inl (refl, cc)
this_word-either false x y o e = inr e

different : (j k : ℕ) → suc j ≤ k → nat_eq j k ≡ false
different j k h = grind (arith, nat_tests)

-- a list of an added form that begins with a word matches that word's form, and the operand follows
pub words-to : (d : Dialect) (k j : ℕ) (words : Words) (s : Slot) (l : Level) (t : ℕ) (w : List ℕ) →
    d.class_of t ≡ Word k → Matches d ((dialect_from j words).added s l) (t ∷ w) → StartsWithWord d k j words s l w
words-to d k j [] s l t w e m = elim m [ ]
words-to d k j (x ∷ words) s l t w e (first m) =
    let f = group (operand_in x.operand s l) in
    let b = nat_le (level_number x.level) (level_number l) in
    let h = stands-passes d x.slot s b (tok (Word j) · f) (t ∷ w) m in
    let g = word-then d j k f t w e h.1 in
    record {
      word = x;
      found = this_word-is (nat_eq j k) x (word_from k (suc j) words) (eq-eqb j k g.0);
      stands_so = h.0;
      operand = g.1;
      later = omega (arith, g.0);
    }
words-to d k j (x ∷ words) s l t w e (second m) =
    let h = words-to d k (suc j) words s l t w e m in
    record {
      word = h.word;
      found = this_word-not (nat_eq j k) x (word_from k (suc j) words) (different j k h.later) ∙ h.found;
      stands_so = h.stands_so;
      operand = h.operand;
      later = omega (arith, h.later);
    }

-- and conversely
pub words-from : (d : Dialect) (k j : ℕ) (words : Words) (s : Slot) (l : Level) (t : ℕ) (w : List ℕ) (x : AddedWord) →
    d.class_of t ≡ Word k → word_from k j words ≡ Some x → stands x s l ≡ true →
    Matches d (group (operand_in x.operand s l)) w → Matches d ((dialect_from j words).added s l) (t ∷ w)
words-from d k j [] s l t w x e f h m = cc
words-from d k j (y ∷ words) s l t w x e f h m =
    elim (this_word-either (nat_eq j k) y x (word_from k (suc j) words) f) [
      | inl a ↦ first (subst (λ (z : AddedWord). Matches d (word_form j z s l) (t ∷ w)) (sym a.1)
          (stands-true d x.slot s (nat_le (level_number x.level) (level_number l))
          (tok (Word j) · group (operand_in x.operand s l)) (t ∷ w) h
          (word-matches d j k (group (operand_in x.operand s l)) t w e (eqb-true j k a.0) m)))
      | inr b ↦ second (words-from d k (suc j) words s l t w x e b h m)
    ]

-- ---- a symbol with a slot for words

-- no test of a standard class accepts a word
pub plain-no-word : (k : TokenTest) (c : Class) (i : ℕ) → is_plain k ≡ true → c ≡ Word i → is_of_kind k c ≡ true → ⊥
plain-no-word (is a) c i p e h =
    omega (arith, ltb-true (class_number a) own_classes p, eqb-true (class_number a) (class_number c) h, ap class_number e)
plain-no-word any_but_brackets c i p e h = cc

plain-entries : (m : TokenTest) (c : Class) (i : ℕ) (es : List Alternative) → list_all (λ e. is_plain e.kind) es ≡ true →
    list_any (λ e. same_kind m e.kind) es ≡ true → c ≡ Word i → is_of_kind m c ≡ true → ⊥
plain-entries m c i [] p a e h = cc
plain-entries m c i (x ∷ es) p a e h =
    let q = both-pass (is_plain x.kind) (list_all (λ y. is_plain y.kind) es) p in
    elim (either-passes (same_kind m x.kind) (list_any (λ y. same_kind m y.kind) es) a) [
      | inl s ↦ plain-no-word x.kind c i q.0 e (same_kind-sound m x.kind c s h)
      | inr r ↦ plain-entries m c i es q.1 r e h
    ]

slot-to : (d : Dialect) (p : Slot × Level) (es : List Alternative) (t i : ℕ) (w : List ℕ) → d.class_of t ≡ Word i →
    list_all (λ e. is_plain e.kind) es ≡ true → (hs : List FirstItem) → list_all (known (Some p) es) hs ≡ true →
    Some-of (HeadReads d (t ∷ w)) hs → Matches d (d.added p.0 p.1) (t ∷ w)
unfolding known
slot-to d p es t i w e a [] k h = absurd h
slot-to d p es t i w e a (starts m fs ∷ hs) k (inl r) =
    absurd (plain-entries m (d.class_of t) i es a
    (both-pass (list_any (λ g. same_kind m g.kind) es) (list_all (known (Some p) es) hs) k).0 e r.0)
slot-to d p es t i w e a (starts m fs ∷ hs) k (inr r) =
    slot-to d p es t i w e a hs
    (both-pass (list_any (λ g. same_kind m g.kind) es) (list_all (known (Some p) es) hs) k).1 r
slot-to d p es t i w e a (ends ∷ hs) k (inl r) = cc
slot-to d p es t i w e a (ends ∷ hs) k (inr r) = slot-to d p es t i w e a hs k r
slot-to d p es t i w e a (unopened gs ∷ hs) k (inl r) =
    added-reads d p gs (t ∷ w) (both-pass (is_added (Some p) gs) (list_all (known (Some p) es) hs) k).0 r
slot-to d p es t i w e a (unopened gs ∷ hs) k (inr r) =
    slot-to d p es t i w e a hs (both-pass (is_added (Some p) gs) (list_all (known (Some p) es) hs) k).1 r

added-back : (d : Dialect) (p : Slot × Level) (fs : List Form) (w : List ℕ) → is_added (Some p) fs ≡ true →
    Matches d (d.added p.0 p.1) w → LeftDerivation d fs w
unfolding is_added
added-back d p (named (Added s l) ∷ []) w e m =
    let q = both-pass (same_slot s p.0) (same_level l p.1) e in
    Reads_from_MatchAll d (named (Added s l) ∷ []) w (alone d (named (Added s l)) w (by_name
    (subst (λ (x : Slot). Matches d (d.added x l) w) (sym (same_slot-means s p.0 q.0))
    (subst (λ (x : Level). Matches d (d.added p.0 x) w) (sym (same_level-means l p.1 q.1)) m))))
added-back d p _ w e m = cc

slot-from : (d : Dialect) (p : Slot × Level) (es : List Alternative) (t : ℕ) (w : List ℕ) →
    Matches d (d.added p.0 p.1) (t ∷ w) →
    (hs : List FirstItem) → list_all (known (Some p) es) hs ≡ true → list_any is_unopened hs ≡ true →
    Some-of (HeadReads d (t ∷ w)) hs
unfolding known
slot-from d p es t w m [] k u = cc
slot-from d p es t w m (starts c fs ∷ hs) k u =
    inr (slot-from d p es t w m hs
    (both-pass (list_any (λ g. same_kind c g.kind) es) (list_all (known (Some p) es) hs) k).1 u)
slot-from d p es t w m (ends ∷ hs) k u = inr (slot-from d p es t w m hs k u)
slot-from d p es t w m (unopened gs ∷ hs) k u =
    inl (added-back d p gs (t ∷ w) (both-pass (is_added (Some p) gs) (list_all (known (Some p) es) hs) k).0 m)

-- at a slot for words, a word begins the symbol exactly if it begins an added form
pub slot-law : (d : Dialect) (s : Sym) (p : Slot × Level) (t i : ℕ) (w : List ℕ) → slot_of s ≡ Some p →
    d.class_of t ≡ Word i → SymbolMatchesIn d s (t ∷ w) ↔ Matches d (d.added p.0 p.1) (t ∷ w)
unfolding added_right
slot-law d s p t i w o e =
    let q = right_parts d s in
    let hs = heads d 60 (form_of s ∷ []) in
    let k = subst (λ (x : Option (Slot × Level)). list_all (known x (entries s)) hs ≡ true) o q.heads_known in
    let a = subst (λ (x : Option (Slot × Level)). added_right x (entries s) hs ≡ true) o q.added in
    let b = both-pass (list_any is_unopened hs) (list_all (λ y. is_plain y.kind) (entries s)) a in (
      λ m. slot-to d p (entries s) t i w e b.1 hs k (to_heads d s (t ∷ w) m),
      λ m. from_heads d s (t ∷ w) (slot-from d p (entries s) t w m hs k b.0),
    )
