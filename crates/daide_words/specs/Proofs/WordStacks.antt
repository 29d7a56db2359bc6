-- The reachable stacks with added words satisfy the same order.
use Rattle.std.proofs.Common.{◌≡◌, ◌≢◌, ℕ, Bool, true, false, List, [], ◌∷◌, Option, Some, None, refl, sym, subst}
use Rattle.std.proofs.Common.{arith}
use Rattle.std.proofs.lemmas.Bool.{eq-eqb}
use Rattle.std.proofs.lemmas.Bool.Decides.{nat_tests}
use Rattle.daide_token.specs.declared.class.Class.{Class}
use Rattle.daide_token.specs.declared.class.Class.TheVariants.{Word, Bra, Ket}
use Rattle.daide_grammar.specs.declared.level.Level.{Level}
use Rattle.daide_grammar.specs.declared.symbol.Sym.{Sym}
use Rattle.daide_grammar.specs.declared.symbol.Sym.TheVariants.{Closing}
use Rattle.daide_grammar.specs.Classes.{class_number, same_class}
use Rattle.daide_grammar.specs.Forms.{is, Slot, Press_slot, Arrangement_slot, Flat_slot}
use Rattle.daide_grammar.specs.Table.Symbols.{may_end_of, slot_of, table_answer}
use Rattle.daide_grammar.specs.Table.Answers.{Take, Skip, Stop}
use Rattle.daide_grammar.specs.Table.Shapes.{is_bottom_symbol, shape, shapes}
use Rattle.daide_grammar.specs.Words.{AddedWord, Words, WordOperand, one_power, some_powers, some_provinces, an_order}
use Rattle.daide_grammar.specs.Words.{an_arrangement, a_press}
use Rattle.daide_grammar.specs.Proofs.Sizes.{fits}
use Rattle.daide_grammar.specs.Proofs.StacksInOrder.{tidy, sized, sized_by, GoodTake, GoodMoves, table-take, skip-ends}
use Rattle.daide_grammar.specs.Proofs.StacksInOrder.{table-moves}
use Rattle.daide_words.specs.Table.OverWords.{operand_symbol, stands, word_from, if_stands, word_answer, answer_over}

-- the symbol of an operand is one entry, and need not be last
operand-size : (o : WordOperand) (s : Slot) (l : Level) → shapes (operand_symbol o s l ∷ []) ≡ 1 ∷ []
unfolding shape
operand-size one_power s l = refl
operand-size some_powers s l = refl
operand-size some_provinces s l = refl
operand-size an_order s l = refl
operand-size an_arrangement Press_slot l = refl
operand-size an_arrangement Arrangement_slot l = refl
operand-size an_arrangement Flat_slot l = refl
operand-size a_press s l = refl

operand-free : (o : WordOperand) (s : Slot) (l : Level) (b : Bool) → tidy b (operand_symbol o s l ∷ []) ≡ true
unfolding tidy is_bottom_symbol
operand-free one_power s l b = refl
operand-free some_powers s l b = refl
operand-free some_provinces s l b = refl
operand-free an_order s l b = refl
operand-free an_arrangement Press_slot l b = refl
operand-free an_arrangement Arrangement_slot l b = refl
operand-free an_arrangement Flat_slot l b = refl
operand-free a_press s l b = refl

-- a symbol with a slot for words has room for one entry
abbrev pub roomy : Option (Slot × Level) → List ℕ → Bool
roomy None sizes = true
roomy (Some p) sizes = fits (1 ∷ []) sizes

all_roomy : (s : Sym) → roomy (slot_of s) (shape s) ≡ true
unfolding slot_of fits shape
all_roomy Closing = refl
all_roomy _ = refl

slot-size : (s : Sym) (p : Slot × Level) → slot_of s ≡ Some p → fits (1 ∷ []) (shape s) ≡ true
slot-size s p o = subst (λ (x : Option (Slot × Level)). roomy x (shape s) ≡ true) o (all_roomy s)

word-sized : (i : ℕ) (xs ys : List ℕ) → fits xs ys ≡ true → sized (is (Word i)) xs ys ≡ true
unfolding sized
word-sized i xs ys e =
    let p : same_class (Word i) Bra ≡ false = grind (arith, nat_tests) in
    let q : same_class (Word i) Ket ≡ false = grind (arith, nat_tests) in
    subst (λ (x : Bool). sized_by x (same_class (Word i) Ket) xs ys ≡ true) (sym p)
    (subst (λ (x : Bool). sized_by false x xs ys ≡ true) (sym q) e)

operand-take : (s : Sym) (i : ℕ) (p : Slot × Level) (o : WordOperand) → slot_of s ≡ Some p →
    GoodTake s (Word i) (operand_symbol o p.0 p.1 ∷ [])
operand-take s i p o e = record {
  kind = is (Word i);
  takes = eq-eqb (class_number (Word i)) (class_number (Word i)) refl;
  tidied = operand-free o p.0 p.1 (is_bottom_symbol s);
  sized_so = word-sized i (shapes (operand_symbol o p.0 p.1 ∷ [])) (shape s)
      (subst (λ (x : List ℕ). fits x (shape s) ≡ true) (sym (operand-size o p.0 p.1)) (slot-size s p e));
}

same-rest : (xs ys : List Sym) → Take xs ≡ Take ys → xs ≡ ys
same-rest xs ys q = cc

stands-take : (s : Sym) (i : ℕ) (p : Slot × Level) (o : WordOperand) (b : Bool) (rest : List Sym) → slot_of s ≡ Some p →
    if_stands b (operand_symbol o p.0 p.1) (table_answer s (Word i)) ≡ Take rest → GoodTake s (Word i) rest
stands-take s i p o true rest e h =
    subst (GoodTake s (Word i)) (same-rest (operand_symbol o p.0 p.1 ∷ []) rest h) (operand-take s i p o e)
stands-take s i p o false rest e h = table-take s (Word i) rest h

slot-take : (s : Sym) (i : ℕ) (o : Option (Slot × Level)) (x : Option AddedWord) (rest : List Sym) → slot_of s ≡ o →
    word_answer o x (table_answer s (Word i)) ≡ Take rest → GoodTake s (Word i) rest
slot-take s i (Some p) (Some x) rest e h = stands-take s i p x.operand (stands x p.0 p.1) rest e h
slot-take s i (Some p) None rest e h = table-take s (Word i) rest h
slot-take s i None x rest e h = table-take s (Word i) rest h

word-take : (words : Words) (s : Sym) (c : Class) (rest : List Sym) → answer_over words s c ≡ Take rest →
    GoodTake s c rest
unfolding answer_over
word-take words s (Word i) rest h = slot-take s i (slot_of s) (word_from i 0 words) rest refl h
word-take words s c rest h = table-take s c rest h

stands-skip : (s : Sym) (i : ℕ) (g : Sym) (b : Bool) → if_stands b g (table_answer s (Word i)) ≡ Skip →
    may_end_of s ≡ true
stands-skip s i g true h = cc
stands-skip s i g false h = skip-ends s (Word i) h

slot-skip : (s : Sym) (i : ℕ) (o : Option (Slot × Level)) (x : Option AddedWord) →
    word_answer o x (table_answer s (Word i)) ≡ Skip → may_end_of s ≡ true
slot-skip s i (Some p) (Some x) h = stands-skip s i (operand_symbol x.operand p.0 p.1) (stands x p.0 p.1) h
slot-skip s i (Some p) None h = skip-ends s (Word i) h
slot-skip s i None x h = skip-ends s (Word i) h

word-skip : (words : Words) (s : Sym) (c : Class) → answer_over words s c ≡ Skip → may_end_of s ≡ true
unfolding answer_over
word-skip words s (Word i) h = slot-skip s i (slot_of s) (word_from i 0 words) h
word-skip words s c h = skip-ends s c h

-- the symbol of a closing bracket takes no word
word-closes : (words : Words) (c : Class) → c ≢ Ket → answer_over words Closing c ≡ Stop
unfolding answer_over slot_of
word-closes words (Word i) n = table-moves.closes (Word i) n
word-closes words c n = table-moves.closes c n

-- the moves with added words keep the order of a stack
pub word-moves : (words : Words) → GoodMoves (answer_over words)
word-moves words = record { take = word-take words; skips = word-skip words; closes = word-closes words }
